-- A seat taken in under the lock.
use Rattle.std.proofs.Common.{◌≡◌, ℕ, ◌≤◌, ◌<◌, Bool, true, false, Some, List, [], ◌++◌, append_assoc, length, refl, ap, sym, ◌∙◌, subst, arith}
use Rattle.std.specs.Prelude.{nat_le}
use Rattle.std.proofs.lemmas.Bool.{leb-false, leb-true}
use Rattle.std.proofs.Math.Arith.{lt_of_le-ne}
use mathlib.Core.List.{IsPrefix}
use Rattle.hub_clock.specs.declared.view.SeatView.{SeatView}
use Rattle.hub_clock.specs.Histories.{last_some}
use Rattle.hub_clock.specs.Rules.{HasSeen, IsLast, entries_of, joined}
use Rattle.zodb_core.specs.Entries.{session_of}
use Rattle.zodb_core.specs.History.{Entry}
use Rattle.hub_shared.specs.Seats.{keeper, keeper_for}

pub record TakenIn (s count : ℕ) (p n : SeatView Entry) (entries : List Entry) : Type 0 where
  pub is : n ≡ keeper_for s p.last entries
  pub length_is : count ≡ length entries
  pub begins : IsPrefix p.seen entries
  pub last : IsLast session_of s entries p.last

pub taken_in : (s count : ℕ) (d p j n : SeatView Entry) → d ≡ keeper d.seen → p.session ≡ Some s → j ≡ joined d p → HasSeen session_of j count n → TakenIn s count p n d.seen
taken_in s count d p j n keeps of is seen =
    let o : HasSeen session_of (joined d p) count n = subst (λ v. HasSeen session_of v count n) is seen in
    let pen : d.has_pen ≡ true = ap (λ (v : SeatView Entry). v.has_pen) keeps in
    let whole : n.seen ≡ d.seen = o.with_pen pen in record {
      is = o.is ∙ (λ i. record { has_pen = pen i; session = of i; last = p.last; seen = whole i; told = [] });
      length_is = o.length_is ∙ ap length whole;
      begins = subst (λ xs. IsPrefix p.seen xs) whole o.told;
      last = subst (λ xs. IsLast session_of s xs p.last) whole (o.own_last s of);
    }

-- the seat under the lock has seen all, whoever it took in
pub seen_all : (count : ℕ) (d p j n : SeatView Entry) → d ≡ keeper d.seen → j ≡ joined d p → HasSeen session_of j count n → n.seen ≡ d.seen
seen_all count d p j n keeps is o =
    let pen : j.has_pen ≡ true = ap (λ (v : SeatView Entry). v.has_pen) is ∙ ap (λ (v : SeatView Entry). v.has_pen) keeps in
    o.with_pen pen ∙ ap (λ (v : SeatView Entry). v.seen) is

-- a session with entries is one of those that were opened
pub was_opened : (s k opened : ℕ) (entries : List Entry) → IsLast session_of s entries k → ((n : ℕ) → opened ≤ n → entries_of session_of n entries ≡ []) → s < opened
was_opened s k opened entries last idle = by_cases (nat_le opened s) refl
  where
    by_cases : (b : Bool) → nat_le opened s ≡ b → s < opened
    by_cases true is = absurd (last_some session_of s entries k last (idle s (leb-true opened s is)))
    by_cases false is = leb-false opened s is

pub prefix_on : {A : Type 0} (xs ys zs : List A) → IsPrefix xs ys → IsPrefix xs (ys ++ zs)
prefix_on xs ys zs p = (p.0 ++ zs, sym (append_assoc xs p.0 zs) ∙ ap (λ w. w ++ zs) p.1)

pub prefix_trans : {A : Type 0} (xs ys zs : List A) → IsPrefix xs ys → IsPrefix ys zs → IsPrefix xs zs
prefix_trans xs ys zs p q = (p.0 ++ q.0, sym (append_assoc xs p.0 q.0) ∙ (ap (λ w. w ++ q.0) p.1 ∙ q.1))

pub room_left : (n : ℕ) (entries : List Entry) → n ≡ length entries → (n ≡ 18446744073709551615 → ⊥) → n < 18446744073709551616 → length entries < 18446744073709551615
room_left n entries is ne below = let le : n ≤ 18446744073709551615 = omega arith in subst (λ (k : ℕ). k < 18446744073709551615) is (lt_of_le-ne le ne)

-- the seat of a pass, as it comes back
abbrev pub holder : ℕ → ℕ → List Entry → SeatView Entry
holder s last entries = record { has_pen = false; session = Some s; last = last; seen = entries; told = [] }

-- What references lead to from the root, in a state above the pack's tid, is reached. For the proofs of those who follow a pack.
use Rattle.std.proofs.Common.{◌≡◌, ℕ, ◌+◌, ◌<◌, ◌≤◌, ◌⊎◌, inl, inr, ⊎_elim, true, false, ltb, List, [], ◌∷◌, filter, Option, Some, None, refl, sym, ap, subst, ◌∙◌, arith}
use Rattle.std.specs.Prelude.{IfSome, unwrap_or}
use Rattle.std.specs.List.{AllByRecursion, last_or}
use Rattle.std.specs.Option.{option_map, option_map_or}
use Rattle.std.specs.FinSet.{contains}
use Rattle.std.proofs.lemmas.Bool.{cases_Bool, cases_lt, ltb-false, lt-ltb, le-ltb}
use Rattle.zb_model.specs.declared.data.Change.{Change}
use Rattle.zb_model.specs.declared.data.Content.TheVariants.{Absent}
use Rattle.zb_model.specs.declared.data.Transaction.{Transaction}
use Rattle.zb_model.specs.Database.{ObjectRevision, is_below, revision_below, revision_in, revisions}
use Rattle.pack_reach.specs.Laws.{IsLedTo}
use Rattle.pack_reach.specs.Reach.{IsReached, is_in, named_after, references_in, references_of}
use Rattle.pack_reach.specs.MemberLaws.{each_implies, each_in, in_back, in_front, last_has}
use Rattle.pack_reach.specs.Packed.{kept}
use Rattle.pack_reach.specs.ReachLaws.{is_all, revision_has, revisions_have}

-- ---- the last revision below a front, where it isn't above t, is the last up to t

-- what stands last so far below t + 1, beside what stands last below the front
abbrev IsBehind : ℕ → Option ObjectRevision → Option ObjectRevision → Type 0
IsBehind t above below = (above ≡ below) ⊎ (IfSome above (λ r. t < r.serial) × (above ≡ None → ⊥))

below_less : (t front : ℕ) (above below : Option ObjectRevision) (rs : List ObjectRevision) (r : ObjectRevision) → t < front → r.serial ≤ t → IsBehind t above below
    → last_or above (filter (is_below front) rs) ≡ Some r → last_or below (filter (is_below (t + 1)) rs) ≡ Some r
below_less t front above below [] r l s (inl e) q = sym e ∙ q
below_less t front above below [] r l s (inr h) q =
    let late : IfSome (Some r) (λ r. t < r.serial) = subst (λ o. IfSome o (λ r. t < r.serial)) q h.0 in
    absurd (omega (arith, late, s))
below_less t front above below (x ∷ rs) r l s h q =
    ⊎_elim (λ (e : ltb x.serial front ≡ true).
    let rest : last_or (Some x) (filter (is_below front) rs) ≡ Some r = rw e at q in
    ⊎_elim (λ (f : ltb x.serial (t + 1) ≡ true). rw f (below_less t front (Some x) (Some x) rs r l s (inl refl) rest))
    (λ (f : ltb x.serial (t + 1) ≡ false).
    let late : t < x.serial = omega (arith, ltb-false x.serial (t + 1) f) in
    rw f (below_less t front (Some x) below rs r l s (inr (late, λ n. absurd (cc))) rest))
    (cases_Bool (ltb x.serial (t + 1))))
    (λ (e : ltb x.serial front ≡ false).
    let rest : last_or above (filter (is_below front) rs) ≡ Some r = rw e at q in
    let out : ltb x.serial (t + 1) ≡ false = le-ltb x.serial (t + 1) (omega (arith, ltb-false x.serial front e, l)) in
    rw out (below_less t front above below rs r l s h rest))
    (cases_Bool (ltb x.serial front))

pub up_to_is : (t front oid : ℕ) (list : List Transaction) (r : ObjectRevision) → t < front → r.serial ≤ t → revision_below oid front list ≡ Some r → revision_below oid (t + 1) list ≡ Some r
up_to_is t front oid list r l s q = below_less t front None None (revisions oid list) r l s (inl refl) q

-- ---- a revision above t is written after t

abbrev IsNamedAfter : (List ℕ → Option (List ℕ)) → ℕ → List Transaction → ObjectRevision → Type 0
IsNamedAfter named t list r = t < r.serial → (n : ℕ) → is_in n (references_of named r.content) ≡ true → is_in n (named_after named t list) ≡ true

after_more : (named : List ℕ → Option (List ℕ)) (t : ℕ) (x : Transaction) (list : List Transaction) (n : ℕ) → is_in n (named_after named t list) ≡ true → is_in n (named_after named t (x ∷ list)) ≡ true
after_more named t x list n i = ⊎_elim (λ (e : ltb t x.tid ≡ true). rw e (in_back n (references_in named x) (named_after named t list) i)) (λ (e : ltb t x.tid ≡ false). rw e i) (cases_Bool (ltb t x.tid))

-- each transaction above t is one of those after t
each_after : (named : List ℕ → Option (List ℕ)) (t : ℕ) (list : List Transaction) → AllByRecursion (λ (x : Transaction). t < x.tid → (n : ℕ) → is_in n (references_in named x) ≡ true → is_in n (named_after named t list) ≡ true) list
each_after named t [] = tt
each_after named t (x ∷ list) = (
  λ l n i.
      let above : ltb t x.tid ≡ true = lt-ltb t x.tid l in
      rw above (in_front n (references_in named x) (named_after named t list) i),
  each_implies (λ (y : Transaction). t < y.tid → (n : ℕ) → is_in n (references_in named y) ≡ true → is_in n (named_after named t list) ≡ true) (λ (y : Transaction). t < y.tid → (n : ℕ) → is_in n (references_in named y) ≡ true → is_in n (named_after named t (x ∷ list)) ≡ true)
      (λ y h l n i. after_more named t x list n (h l n i)) list (each_after named t list),
)

transaction_after : (named : List ℕ → Option (List ℕ)) (t : ℕ) (list : List Transaction) (oid : ℕ) (x : Transaction) → (t < x.tid → (n : ℕ) → is_in n (references_in named x) ≡ true → is_in n (named_after named t list) ≡ true) → IfSome (revision_in oid x) (IsNamedAfter named t list)
transaction_after named t list oid x within =
    revision_has (IsNamedAfter named t list) oid x
    (each_implies (λ (c : Change). (n : ℕ) → is_in n (references_of named c.content) ≡ true → is_in n (references_in named x) ≡ true) (λ (c : Change). t < x.tid → (n : ℕ) → is_in n (references_of named c.content) ≡ true → is_in n (named_after named t list) ≡ true)
    (λ c h l n i. within l n (h n i)) x.changes (each_in (λ (c : Change). references_of named c.content) x.changes))

above_is_named : (named : List ℕ → Option (List ℕ)) (t front oid : ℕ) (list : List Transaction) → IfSome (revision_below oid front list) (IsNamedAfter named t list)
above_is_named named t front oid list =
    last_has (IsNamedAfter named t list) (is_below front) None (revisions oid list) tt
    (revisions_have (IsNamedAfter named t list) oid list
    (each_implies (λ (x : Transaction). t < x.tid → (n : ℕ) → is_in n (references_in named x) ≡ true → is_in n (named_after named t list) ≡ true) (λ (x : Transaction). IfSome (revision_in oid x) (IsNamedAfter named t list)) (λ x h. transaction_after named t list oid x h) list (each_after named t list)))

-- ---- one step

step_is_reached : (named : List ℕ → Option (List ℕ)) (t front from oid : ℕ) (list : List Transaction) → t < front → IsReached named t list from → (o : Option ObjectRevision) → revision_below from front list ≡ o
    → is_in oid (references_of named (unwrap_or (option_map (λ (r : ObjectRevision). r.content) o) Absent)) ≡ true → IsReached named t list oid
step_is_reached named t front from oid list l reached None e i = absurd (cc)
step_is_reached named t front from oid list l reached (Some r) e i =
    ⊎_elim (λ (late : t < r.serial).
    let after : IsNamedAfter named t list r = subst (λ o. IfSome o (IsNamedAfter named t list)) e (above_is_named named t front from list) in
    IsReached.written oid (after late oid i))
    (λ (early : r.serial ≤ t).
    let up_to : revision_below from (t + 1) list ≡ Some r = up_to_is t front from list r l early e in
    IsReached.followed from oid reached (ap (λ (o : Option ObjectRevision). is_in oid (option_map_or (λ (r : ObjectRevision). references_of named r.content) o [])) up_to ∙ i))
    (cases_lt t r.serial)

led_is_reached : (named : List ℕ → Option (List ℕ)) (t front : ℕ) (list : List Transaction) → t < front → (oid : ℕ) → IsLedTo named front list oid → IsReached named t list oid
led_is_reached named t front list l oid IsLedTo.root = IsReached.root
led_is_reached named t front list l oid (IsLedTo.next from o led i) =
    step_is_reached named t front from o list l (led_is_reached named t front list l from led) (revision_below from front list) refl i

pub led_to_is_reached : (named : List ℕ → Option (List ℕ)) (t front oid : ℕ) (list : List Transaction) → t < front → IsLedTo named front list oid → IsReached named t list oid
led_to_is_reached named t front oid list l led = led_is_reached named t front list l oid led

-- so a pack that collects keeps it
pub led_to_is_kept : (named : List ℕ → Option (List ℕ)) (t front oid : ℕ) (list : List Transaction) → t < front → IsLedTo named front list oid → contains (kept true named t list) oid ≡ true
led_to_is_kept named t front oid list l led = (is_all named t list oid).1 (led_to_is_reached named t front oid list l led)

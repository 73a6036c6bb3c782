-- What a session asked stands in the history.
use Rattle.std.proofs.Common.{◌≡◌, ℕ, zero, suc, ◌<◌, Bool, not, true, false, cond, List, [], ◌∷◌, ◌++◌, None, length, refl, sym, ap, ◌∙◌, subst, arith, eq-eqb, append-nil, append_assoc, length-append, inl, inr, ◌⊎◌}
use Rattle.std.specs.Prelude.{◌==◌, filter_map}
use Rattle.std.proofs.lemmas.List.Elements.{filter-append, filter_map-append}
use mathlib.Core.List.{IsPrefix}
use Rattle.hub_clock.specs.Rules.{IsLast, entries_of}
use Rattle.zb_model.specs.declared.data.Transaction.{Transaction}
use Rattle.zb_model.specs.declared.refusal.Refusal.{Refusal}
use Rattle.zb_model.specs.declared.refusal.Refusal.TheVariants as refusal
use Rattle.zodb_core.specs.declared.reply.Reply.{Reply}
use Rattle.zodb_core.specs.declared.reply.Reply.TheVariants as reply
use Rattle.zodb_core.specs.declared.request.Request.{Request}
use Rattle.zodb_core.specs.DecisionLaws.{is_spent}
use Rattle.zodb_core.specs.Entries.{session_of}
use Rattle.zodb_core.specs.History.{Entry, Made, Opened}
use Rattle.zodb_core.specs.Machine.{Rules}
use Rattle.zodb_core.specs.Outcomes.{FaultCounts}
use Rattle.hub_shared.specs.Calls.{HasCalled, HasMade, HasNoRoom}
use Rattle.hub_shared.specs.Seats.{Known}
use Rattle.zeo_session.specs.Served.{Asking, asked_behind, asking_of, is_outside, made_of}

pub prefix_on : {A : Type 0} (xs ys zs : List A) → IsPrefix xs ys → IsPrefix ys zs → IsPrefix xs zs
prefix_on xs ys zs p q = (p.0 ++ q.0, sym (append_assoc xs p.0 q.0) ∙ (ap (λ w. w ++ q.0) p.1 ∙ q.1))

spent_one : (r : Refusal) → is_spent r ≡ true → r ≡ refusal.StepsSpent
spent_one refusal.StepsSpent is = refl
spent_one _ is = cc

outside_one : (r : Reply) → is_outside r ≡ true → r ≡ reply.Refused refusal.StepsSpent
outside_one (reply.Refused r) is = ap reply.Refused (spent_one r is)
outside_one _ is = cc

made_inside : (r : Reply) → (r ≡ reply.Refused refusal.StepsSpent → ⊥) → is_outside r ≡ false
made_inside r ne = by_cases (is_outside r) refl
  where
    by_cases : (b : Bool) → is_outside r ≡ b → b ≡ false
    by_cases false is = refl
    by_cases true is = absurd (ne (outside_one r is))

-- an entry that isn't the session's says nothing that it asked
other_asks : (s : ℕ) (e : Entry) → (session_of e == s) ≡ false → asking_of s e ≡ None
other_asks s (Opened n) other = refl
other_asks s (Made e) other = rw other refl

none_asked : (s : ℕ) (xs : List Entry) → entries_of session_of s xs ≡ [] → filter_map (asking_of s) xs ≡ []
none_asked s [] none = refl
none_asked s (x ∷ xs) none = by_cases (session_of x == s) refl none (none_asked s xs)
  where
    by_cases : (b : Bool) → (session_of x == s) ≡ b → cond b (x ∷ entries_of session_of s xs) (entries_of session_of s xs) ≡ []
        → (entries_of session_of s xs ≡ [] → filter_map (asking_of s) xs ≡ []) → filter_map (asking_of s) (x ∷ xs) ≡ []
    by_cases true is gone again = cc
    by_cases false is gone again = rw (other_asks s x is) (again gone)

-- nothing was asked behind the session's last entry, which stands in the history
none_behind : (s : ℕ) (xs : List Entry) (k : ℕ) → IsLast session_of s xs k → asked_behind s k xs ≡ []
none_behind s [] k h = absurd h
none_behind s (x ∷ xs) zero h = none_asked s xs h.1
none_behind s (x ∷ xs) (suc k) h = none_behind s xs k h

last_within : (s : ℕ) (xs : List Entry) (k : ℕ) → IsLast session_of s xs k → k < length xs
last_within s [] k h = absurd h
last_within s (x ∷ xs) zero h = omega arith
last_within s (x ∷ xs) (suc k) h = let less = last_within s xs k h in omega arith

-- what was asked behind a place of a longer history
behind_more : (s k : ℕ) (xs ys : List Entry) → k < length xs → asked_behind s k (xs ++ ys) ≡ asked_behind s k xs ++ filter_map (asking_of s) ys
behind_more s k [] ys less = absurd (omega arith)
behind_more s zero (x ∷ xs) ys less = filter_map-append (asking_of s) xs ys
behind_more s (suc k) (x ∷ xs) ys less = behind_more s k xs ys (omega arith)

-- no entry of the session stands behind its last one
last_rest : (s : ℕ) (xs : List Entry) (e : Entry) (rest : List Entry) → IsLast session_of s ((xs ++ e ∷ []) ++ rest) (length xs) → entries_of session_of s rest ≡ []
last_rest s [] e rest h = h.1
last_rest s (x ∷ xs) e rest h = last_rest s xs e rest h

-- What a session asked since its pass knew so much stands, behind the pass's last own entry then, in each history that goes on from what the pass has seen without an
-- entry of the session.
pub record Follows (told : Type 0) (start : Known) (asked : List Asking) (v : Known) : Type 0 where
  pub session_is : v.session ≡ start.session
  pub begins : IsPrefix start.seen v.seen
  pub stands : told → (front : List Entry) → IsPrefix v.seen front → IsLast session_of start.session front v.last → (asked_behind start.session start.last front ≡ made_of asked) × (start.last < length front)

pub follows_start : (told : Type 0) (v : Known) → Follows told v [] v
follows_start told v = record {
  session_is = refl;
  begins = ([], append-nil v.seen);
  stands = λ t front begins last. (none_behind v.session front v.last last, last_within v.session front v.last last);
}

module _ (told : Type 0) (rules : Rules) (list : List Transaction) (counts : FaultCounts) (start : Known) (asked : List Asking) (q : Request) (r : Reply) (v w : Known) where
  abbrev session : ℕ
  session = start.session

  abbrev more : List Asking
  more = asked ++ record { request = q; reply = r } ∷ []

  abbrev Stands : List Asking → List Entry → Type 0
  Stands which entries = (asked_behind start.session start.last entries ≡ made_of which) × (start.last < length entries)

  made_more : is_outside r ≡ false → made_of more ≡ made_of asked ++ record { request = q; reply = r } ∷ []
  made_more inside = filter-append (λ a. not (is_outside a.reply)) asked (record { request = q; reply = r } ∷ []) ∙ ap (λ (ys : List Asking). made_of asked ++ ys) (rw inside refl)

  made_same : is_outside r ≡ true → made_of more ≡ made_of asked
  made_same outside = filter-append (λ a. not (is_outside a.reply)) asked (record { request = q; reply = r } ∷ []) ∙ (ap (λ (ys : List Asking). made_of asked ++ ys) (rw outside refl) ∙ append-nil (made_of asked))

  -- the history that the pass has seen then has it
  seen_made : (front : List Entry) → (told → Stands asked front) → v.session ≡ session → HasMade told q r front v w → told → Stands more w.seen
  seen_made front before is made t =
      let b = before t in
      let e : Entry = Made (record { session = v.session; request = q; stamp = made.stamp; reply = r; counts = made.counts }) in
      let here : (v.session == session) ≡ true = eq-eqb v.session session is in
      let one : filter_map (asking_of session) (e ∷ []) ≡ record { request = q; reply = r } ∷ [] = rw here refl in
      let same : asked_behind session start.last (front ++ e ∷ []) ≡ made_of more =
      behind_more session start.last front (e ∷ []) b.1 ∙ (ap (λ (ys : List Asking). ys ++ filter_map (asking_of session) (e ∷ [])) b.0
      ∙ (ap (λ (ys : List Asking). made_of asked ++ ys) one ∙ sym (made_more (made_inside r (made.not_spent t))))) in
      (ap (asked_behind session start.last) made.seen ∙ same, omega (arith, b.1, ap length made.seen, length-append front (e ∷ [])))

  seen_none : (front : List Entry) → (told → Stands asked front) → HasNoRoom r front v w → told → Stands more w.seen
  seen_none front before none t =
      let b = before t in
      (ap (asked_behind session start.last) none.seen ∙ (b.0 ∙ sym (made_same (ap is_outside none.reply))), subst (λ (xs : List Entry). start.last < length xs) (sym none.seen) b.1)

  seen_more : Follows told start asked v → HasCalled told rules list counts q r v w → told → Stands more w.seen
  seen_more f c = by_end c.ends
    where
      before : told → Stands asked c.front
      before t = f.stands t c.front c.begins (subst (λ (s : ℕ). IsLast session_of s c.front v.last) f.session_is c.last)

      by_end : HasMade told q r c.front v w ⊎ HasNoRoom r c.front v w → told → Stands more w.seen
      by_end (inl made) = seen_made c.front before f.session_is made
      by_end (inr none) = seen_none c.front before none

  begins_more : Follows told start asked v → HasCalled told rules list counts q r v w → IsPrefix start.seen w.seen
  begins_more f c = by_end c.ends
    where
      here : IsPrefix start.seen c.front
      here = prefix_on start.seen v.seen c.front f.begins c.begins

      by_end : HasMade told q r c.front v w ⊎ HasNoRoom r c.front v w → IsPrefix start.seen w.seen
      by_end (inl made) = prefix_on start.seen c.front w.seen here (_, sym made.seen)
      by_end (inr none) = subst (IsPrefix start.seen) (sym none.seen) here

  -- behind the step too no entry of the session stands behind the place that the pass then knows
  goes_on_made : (at : List Entry) → HasMade told q r at v w → (told → Stands more w.seen) → (t : told) (front : List Entry) → IsPrefix w.seen front → IsLast session_of session front w.last
      → Stands more front
  goes_on_made at made seen t front p last =
      let b = seen t in
      let e : Entry = Made (record { session = v.session; request = q; stamp = made.stamp; reply = r; counts = made.counts }) in
      let split : (at ++ e ∷ []) ++ p.0 ≡ front = ap (λ (xs : List Entry). xs ++ p.0) (sym made.seen) ∙ p.1 in
      let at_end : IsLast session_of session ((at ++ e ∷ []) ++ p.0) (length at) =
      subst (IsLast session_of session ((at ++ e ∷ []) ++ p.0)) made.last (subst (λ (xs : List Entry). IsLast session_of session xs w.last) (sym split) last) in
      let gone : filter_map (asking_of session) p.0 ≡ [] = none_asked session p.0 (last_rest session at e p.0 at_end) in (
        ap (asked_behind session start.last) (sym p.1) ∙ (behind_more session start.last w.seen p.0 b.1 ∙ (ap (λ (ys : List Asking). asked_behind session start.last w.seen ++ ys) gone
            ∙ (append-nil (asked_behind session start.last w.seen) ∙ b.0))),
        omega (arith, b.1, ap length p.1, length-append w.seen p.0),
      )

  goes_on_none : Follows told start asked v → (at : List Entry) → IsPrefix v.seen at → HasNoRoom r at v w → (t : told) (front : List Entry) → IsPrefix w.seen front
      → IsLast session_of session front w.last → Stands more front
  goes_on_none f at begins none t front p last =
      let q : IsPrefix at front = subst (λ (xs : List Entry). IsPrefix xs front) none.seen p in
      let b = f.stands t front (prefix_on v.seen at front begins q) (subst (IsLast session_of session front) none.last last) in
      (b.0 ∙ sym (made_same (ap is_outside none.reply)), b.1)

  pub follows_more : Follows told start asked v → HasCalled told rules list counts q r v w → Follows told start more w
  follows_more f c = record { session_is = c.session ∙ f.session_is; begins = begins_more f c; stands = by_end c.ends }
    where
      by_end : HasMade told q r c.front v w ⊎ HasNoRoom r c.front v w → (t : told) (front : List Entry) → IsPrefix w.seen front → IsLast session_of session front w.last → Stands more front
      by_end (inl made) = goes_on_made c.front made (seen_more f c)
      by_end (inr none) = goes_on_none f c.front c.begins none

  pub follows_seen : Follows told start asked v → HasCalled told rules list counts q r v w → told → asked_behind start.session start.last w.seen ≡ made_of more
  follows_seen f c t = (seen_more f c t).0

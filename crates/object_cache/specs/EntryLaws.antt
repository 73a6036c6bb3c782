-- What is looked up in a table after one of its calls.
use Rattle.std.proofs.Common.{◌≡◌, ◌≢◌, ℕ, zero, suc, ◌-◌, ◌<◌, ◌≤◌, true, false, ◌⊎◌, List, [], ◌∷◌, take, length, Option, Some, None, refl, sym, ap, subst, inl, inr, ⊎_elim, cond, nat_eq, nat_lt, ltb-true, ltb-false, ◌∙◌, arith}
use Rattle.std.proofs.lemmas.List.{take_all}
use Rattle.std.proofs.lemmas.Bool.{cases_Bool, eqb-true, eqb-false}
use Rattle.std.specs.Cmp.{nat_eq_equiv}
use Rattle.std.specs.List.{IsDistinct}
use Rattle.std.specs.Option.{option_map_or}
use Rattle.std.specs.Map.{lookup, lookup_entry, remove_entry, keys_of}
use Rattle.std.proofs.lemmas.Map.{lookup-remove_entry}
use Rattle.lru.specs.LruCache.{LruCache, promoted, put_entries}

module _ {V : Type 0} where
  -- taking one key away leaves what others have
  pub removed_other : (q o : ℕ) (es : List (ℕ × V)) → o ≢ q → lookup (nat_eq o) (remove_entry (nat_eq q) es) ≡ lookup (nat_eq o) es
  removed_other q o [] ne = refl
  removed_other q o (e ∷ es) ne =
      ⊎_elim (λ (t : nat_eq q e.0 ≡ true). ⊎_elim (λ (s : nat_eq o e.0 ≡ true). absurd (ne (eqb-true o e.0 s ∙ sym (eqb-true q e.0 t))))
      (λ (s : nat_eq o e.0 ≡ false). rw (t, s) refl) (cases_Bool (nat_eq o e.0)))
      (λ (t : nat_eq q e.0 ≡ false). ⊎_elim (λ (s : nat_eq o e.0 ≡ true). rw t (rw s refl)) (λ (s : nat_eq o e.0 ≡ false). rw t (rw s (removed_other q o es ne))) (cases_Bool (nat_eq o e.0)))
      (cases_Bool (nat_eq q e.0))

  -- a key that is taken away is gone where none stands twice
  pub removed_gone : (q : ℕ) (es : List (ℕ × V)) → IsDistinct nat_eq (keys_of es) → lookup (nat_eq q) (remove_entry (nat_eq q) es) ≡ None
  removed_gone q es d =
      let e : lookup (nat_eq q) (remove_entry (nat_eq q) es) ≡ cond (nat_eq q q) None (lookup (nat_eq q) es) = lookup-remove_entry nat_eq_equiv (nat_eq q) (λ x y t. ap (λ (k : ℕ). nat_eq k y) (eqb-true q x t)) q es d in
      ⊎_elim (λ (t : nat_eq q q ≡ true). rw t at e) (λ (t : nat_eq q q ≡ false). absurd (eqb-false q q t refl)) (cases_Bool (nat_eq q q))

  -- of the first entries each key has what it has among all, or nothing
  pub taken_or_none : (n o : ℕ) (es : List (ℕ × V)) → (lookup (nat_eq o) (take n es) ≡ lookup (nat_eq o) es) ⊎ (lookup (nat_eq o) (take n es) ≡ None)
  taken_or_none zero o es = inr refl
  taken_or_none (suc n) o [] = inr refl
  taken_or_none (suc n) o (e ∷ es) =
      ⊎_elim (λ (t : nat_eq o e.0 ≡ true). inl (rw t refl)) (λ (t : nat_eq o e.0 ≡ false). rw t (taken_or_none n o es)) (cases_Bool (nat_eq o e.0))

  -- the entry of a key has that key and its value
  entry_has : (q : ℕ) (es : List (ℕ × V)) (e : ℕ × V) → lookup_entry (nat_eq q) es ≡ Some e → (e.0 ≡ q) × (lookup (nat_eq q) es ≡ Some e.1)
  entry_has q [] e h = cc
  entry_has q (x ∷ es) e h =
      ⊎_elim (λ (t : nat_eq q x.0 ≡ true). let h1 : ◌≡◌ {A = Option (ℕ × V)} (Some x) (Some e) = rw t at h in
      let is : x ≡ e = cc in (subst (λ (y : ℕ × V). y.0 ≡ q) is (sym (eqb-true q x.0 t)), rw t (ap (λ (y : ℕ × V). Some y.1) is)))
      (λ (t : nat_eq q x.0 ≡ false). rw t (entry_has q es e (rw t at h)))
      (cases_Bool (nat_eq q x.0))

  -- another key than the first has what it has among the rest
  behind_first : (q o : ℕ) (w : V) (es : List (ℕ × V)) → o ≢ q → lookup (nat_eq o) ((q, w) ∷ es) ≡ lookup (nat_eq o) es
  behind_first q o w es ne =
      ⊎_elim (λ (t : nat_eq o q ≡ true). absurd (ne (eqb-true o q t))) (λ (t : nat_eq o q ≡ false). rw t refl) (cases_Bool (nat_eq o q))

  -- the first key has the first value
  at_first : (q : ℕ) (w : V) (es : List (ℕ × V)) → lookup (nat_eq q) ((q, w) ∷ es) ≡ Some w
  at_first q w es = ⊎_elim (λ (t : nat_eq q q ≡ true). rw t refl) (λ (t : nat_eq q q ≡ false). absurd (eqb-false q q t refl)) (cases_Bool (nat_eq q q))

  promoted_with : (q o : ℕ) (es : List (ℕ × V)) (m : Option (ℕ × V)) → lookup_entry (nat_eq q) es ≡ m → lookup (nat_eq o) (option_map_or (λ e. e ∷ remove_entry (nat_eq q) es) m es) ≡ lookup (nat_eq o) es
  promoted_with q o es None h = refl
  promoted_with q o es (Some x) h =
      let f = entry_has q es x h in
      subst (λ (k : ℕ). lookup (nat_eq o) ((k, x.1) ∷ remove_entry (nat_eq q) es) ≡ lookup (nat_eq o) es) (sym f.0)
      (⊎_elim (λ (t : nat_eq o q ≡ true). let same : o ≡ q = eqb-true o q t in
      subst (λ (k : ℕ). lookup (nat_eq k) ((q, x.1) ∷ remove_entry (nat_eq q) es) ≡ lookup (nat_eq k) es) (sym same) (at_first q x.1 (remove_entry (nat_eq q) es) ∙ sym f.1))
      (λ (t : nat_eq o q ≡ false). let ne : o ≢ q = eqb-false o q t in behind_first q o x.1 (remove_entry (nat_eq q) es) ne ∙ removed_other q o es ne)
      (cases_Bool (nat_eq o q)))

  -- an entry that goes first changes what no key has
  pub promoted_same : (q o : ℕ) (es : List (ℕ × V)) → lookup (nat_eq o) (promoted (nat_eq q) es) ≡ lookup (nat_eq o) es
  promoted_same q o es = promoted_with q o es (lookup_entry (nat_eq q) es) refl

  -- what another key has behind a pair that was put in front
  fresh : (c : LruCache ℕ V) (q : ℕ) (w : V) (o : ℕ) → o ≢ q → (c.cap ≤ length c.entries) ⊎ (length c.entries < c.cap)
      → (lookup (nat_eq o) ((q, w) ∷ take (c.cap - 1) c.entries) ≡ lookup (nat_eq o) c.entries) ⊎ ((lookup (nat_eq o) ((q, w) ∷ take (c.cap - 1) c.entries) ≡ None) × (c.cap ≤ length c.entries))
  fresh c q w o ne (inl full) =
      ⊎_elim (λ (s : lookup (nat_eq o) (take (c.cap - 1) c.entries) ≡ lookup (nat_eq o) c.entries). inl (behind_first q o w (take (c.cap - 1) c.entries) ne ∙ s))
      (λ (s : lookup (nat_eq o) (take (c.cap - 1) c.entries) ≡ None). inr (behind_first q o w (take (c.cap - 1) c.entries) ne ∙ s, full))
      (taken_or_none (c.cap - 1) o c.entries)
  fresh c q w o ne (inr space) =
      let all : take (c.cap - 1) c.entries ≡ c.entries = take_all (c.cap - 1) c.entries (omega arith) in
      inl (behind_first q o w (take (c.cap - 1) c.entries) ne ∙ ap (λ (es : List (ℕ × V)). lookup (nat_eq o) es) all)

  put_with : (c : LruCache ℕ V) (q : ℕ) (w : V) (o : ℕ) (m : Option (ℕ × V)) → o ≢ q → lookup_entry (nat_eq q) c.entries ≡ m
      → (lookup (nat_eq o) (option_map_or (λ e. (e.0, w) ∷ remove_entry (nat_eq q) c.entries) m ((q, w) ∷ take (c.cap - 1) c.entries)) ≡ lookup (nat_eq o) c.entries)
      ⊎ ((lookup (nat_eq o) (option_map_or (λ e. (e.0, w) ∷ remove_entry (nat_eq q) c.entries) m ((q, w) ∷ take (c.cap - 1) c.entries)) ≡ None) × (c.cap ≤ length c.entries))
  put_with c q w o None ne h = fresh c q w o ne (⊎_elim (λ (t : nat_lt (length c.entries) c.cap ≡ true). inr (ltb-true (length c.entries) c.cap t)) (λ (t : nat_lt (length c.entries) c.cap ≡ false). inl (ltb-false (length c.entries) c.cap t)) (cases_Bool (nat_lt (length c.entries) c.cap)))
  put_with c q w o (Some x) ne h =
      let f = entry_has q c.entries x h in
      inl (subst (λ (k : ℕ). lookup (nat_eq o) ((k, w) ∷ remove_entry (nat_eq q) c.entries) ≡ lookup (nat_eq o) c.entries) (sym f.0)
      (behind_first q o w (remove_entry (nat_eq q) c.entries) ne ∙ removed_other q o c.entries ne))

  -- a put leaves what another key has, or drops it where there is no room left
  pub put_other : (c : LruCache ℕ V) (q : ℕ) (w : V) (o : ℕ) → o ≢ q → (lookup (nat_eq o) (put_entries nat_eq c q w) ≡ lookup (nat_eq o) c.entries) ⊎ ((lookup (nat_eq o) (put_entries nat_eq c q w) ≡ None) × (c.cap ≤ length c.entries))
  put_other c q w o ne = put_with c q w o (lookup_entry (nat_eq q) c.entries) ne refl

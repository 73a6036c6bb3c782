-- How contents that are collected take changes back.
use Rattle.std.proofs.Common.{◌≡◌, ℕ, ◌+◌, ◌<◌, Bool, true, false, cond, eqb, List, [], ◌∷◌, length, Option, Some, None, ◌⊎◌, inl, inr, ⊎_elim, refl, sym, ap, subst, ◌∙◌}
use Rattle.std.specs.Prelude.{drop, nat_eq, get_or}
use Rattle.std.specs.Map.{lookup}
use Rattle.std.specs.Option.{option_map}
use Rattle.std.proofs.lemmas.Bool.{eqb-true}
use Rattle.std.proofs.lemmas.List.{drop_more}
use Rattle.indexmap.specs.IndexMap.{insert_entry}
use Rattle.zb_model.specs.declared.data.Content.{Content}
use Rattle.zb_model.specs.declared.pending.PendingStore.{PendingStore}
use Rattle.commit_phases.specs.Pending.{pending_of}
use Rattle.commit_phases.specs.Earlier.{with_content, with_contents}
use Rattle.savepoints.specs.declared.replaced.Replaced.{Replaced}
use Rattle.savepoints.specs.Log.{all_taken_back, content_in, content_or, pending_content, taken_back, undone}

abbrev with_later : PendingStore → Content → PendingStore
with_later p content = record { oid = p.oid; base = p.base; content = content }

-- ---- contents in a list of stores

-- the second content of two of one object counts
twice : (stores : List PendingStore) (oid : ℕ) (a c : Content) → with_content (with_content stores oid a) oid c ≡ with_content stores oid c
twice [] oid a c = refl
twice (s ∷ stores) oid a c = by_cases (eqb oid s.oid) refl (twice stores oid a c)
  where
    by_cases : (b : Bool) → eqb oid s.oid ≡ b → with_content (with_content stores oid a) oid c ≡ with_content stores oid c
        → with_content (cond b (with_later s a ∷ stores) (s ∷ with_content stores oid a)) oid c ≡ cond b (with_later s c ∷ stores) (s ∷ with_content stores oid c)
    by_cases true is rest = ap (λ (b : Bool). cond b (with_later s c ∷ stores) (with_later s a ∷ with_content stores oid c)) is
    by_cases false is rest = ap (λ (b : Bool). cond b (with_later s c ∷ with_content stores oid a) (s ∷ with_content (with_content stores oid a) oid c)) is ∙ ap (λ (ps : List PendingStore). s ∷ ps) rest

both_of : (a b n : ℕ) → eqb a n ≡ true → eqb b n ≡ true → eqb b a ≡ true
both_of a b n p q = ap (λ (m : ℕ). eqb b m) (eqb-true a n p) ∙ q

no_both : (b : Bool) → b ≡ true → b ≡ false → {X : Type 0} (x y : X) → x ≡ y
no_both b p q x y = absurd (let bad : true ≡ false = sym p ∙ q in cc)

-- contents of two objects, in either order
either_order : (stores : List PendingStore) (a b : ℕ) (c d : Content) → eqb b a ≡ false → with_content (with_content stores b d) a c ≡ with_content (with_content stores a c) b d
either_order [] a b c d apart = refl
either_order (s ∷ stores) a b c d apart = by_cases (eqb a s.oid) (eqb b s.oid) refl refl (either_order stores a b c d apart)
  where
    by_cases : (p q : Bool) → eqb a s.oid ≡ p → eqb b s.oid ≡ q → with_content (with_content stores b d) a c ≡ with_content (with_content stores a c) b d
        → with_content (cond q (with_later s d ∷ stores) (s ∷ with_content stores b d)) a c ≡ with_content (cond p (with_later s c ∷ stores) (s ∷ with_content stores a c)) b d
    by_cases true true p q rest = no_both (eqb b a) (both_of a b s.oid p q) apart _ _
    by_cases true false p q rest =
        ap (λ (t : Bool). cond t (with_later s c ∷ with_content stores b d) (s ∷ with_content (with_content stores b d) a c)) p
        ∙ sym (ap (λ (t : Bool). cond t (with_later (with_later s c) d ∷ stores) (with_later s c ∷ with_content stores b d)) q)
    by_cases false true p q rest =
        ap (λ (t : Bool). cond t (with_later (with_later s d) c ∷ stores) (with_later s d ∷ with_content stores a c)) p
        ∙ sym (ap (λ (t : Bool). cond t (with_later s d ∷ with_content stores a c) (s ∷ with_content (with_content stores a c) b d)) q)
    by_cases false false p q rest =
        ap (λ (t : Bool). cond t (with_later s c ∷ with_content stores b d) (s ∷ with_content (with_content stores b d) a c)) p
        ∙ ap (λ (ps : List PendingStore). s ∷ ps) rest
        ∙ sym (ap (λ (t : Bool). cond t (with_later s d ∷ with_content stores a c) (s ∷ with_content (with_content stores a c) b d)) q)

-- one content more, or another one of an object
one_more : (stores : List PendingStore) (es : List (ℕ × Content)) (oid : ℕ) (c : Content) → with_contents stores (insert_entry nat_eq es oid c) ≡ with_content (with_contents stores es) oid c
one_more stores [] oid c = refl
one_more stores (e ∷ es) oid c = by_cases (eqb oid e.0) refl (one_more stores es oid c)
  where
    by_cases : (b : Bool) → eqb oid e.0 ≡ b → with_contents stores (insert_entry nat_eq es oid c) ≡ with_content (with_contents stores es) oid c
        → with_contents stores (cond b ((e.0, c) ∷ es) (e ∷ insert_entry nat_eq es oid c)) ≡ with_content (with_content (with_contents stores es) e.0 e.1) oid c
    by_cases true is rest = sym (ap (λ (n : ℕ). with_content (with_content (with_contents stores es) e.0 e.1) n c) (eqb-true oid e.0 is) ∙ twice (with_contents stores es) e.0 e.1 c)
    by_cases false is rest = ap (λ (ps : List PendingStore). with_content ps e.0 e.1) rest ∙ either_order (with_contents stores es) e.0 oid e.1 c is

-- ---- what an object has

-- a content that was given is had, if one is
given_same : (stores : List PendingStore) (oid : ℕ) (c : Content) → pending_content (with_content stores oid c) oid ≡ option_map (λ (d : Content). c) (pending_content stores oid)
given_same [] oid c = refl
given_same (s ∷ stores) oid c = by_cases (eqb oid s.oid) refl (given_same stores oid c)
  where
    by_cases : (b : Bool) → eqb oid s.oid ≡ b → pending_content (with_content stores oid c) oid ≡ option_map (λ (d : Content). c) (pending_content stores oid)
        → pending_content (cond b (with_later s c ∷ stores) (s ∷ with_content stores oid c)) oid ≡ option_map (λ (d : Content). c) (option_map (λ (p : PendingStore). p.content) (cond b (Some s) (pending_of stores oid)))
    by_cases true is rest = ap (λ (t : Bool). option_map (λ (p : PendingStore). p.content) (cond t (Some (with_later s c)) (pending_of stores oid))) is
    by_cases false is rest = ap (λ (t : Bool). option_map (λ (p : PendingStore). p.content) (cond t (Some s) (pending_of (with_content stores oid c) oid))) is ∙ rest

-- a content of another object changes nothing
given_other : (stores : List PendingStore) (oid other : ℕ) (c : Content) → eqb oid other ≡ false → pending_content (with_content stores other c) oid ≡ pending_content stores oid
given_other [] oid other c apart = refl
given_other (s ∷ stores) oid other c apart = by_cases (eqb other s.oid) (eqb oid s.oid) refl refl (given_other stores oid other c apart)
  where
    by_cases : (p q : Bool) → eqb other s.oid ≡ p → eqb oid s.oid ≡ q → pending_content (with_content stores other c) oid ≡ pending_content stores oid
        → pending_content (cond p (with_later s c ∷ stores) (s ∷ with_content stores other c)) oid ≡ option_map (λ (x : PendingStore). x.content) (cond q (Some s) (pending_of stores oid))
    by_cases true true p q rest = no_both (eqb oid other) (both_of other oid s.oid p q) apart _ _
    by_cases true false p q rest = ap (λ (t : Bool). option_map (λ (x : PendingStore). x.content) (cond t (Some (with_later s c)) (pending_of stores oid))) q
    by_cases false true p q rest = ap (λ (t : Bool). option_map (λ (x : PendingStore). x.content) (cond t (Some s) (pending_of (with_content stores other c) oid))) q
    by_cases false false p q rest = ap (λ (t : Bool). option_map (λ (x : PendingStore). x.content) (cond t (Some s) (pending_of (with_content stores other c) oid))) q ∙ rest

-- an object has this content, or none
abbrev HasOrNone : Option Content → Content → Type 0
HasOrNone has c = (has ≡ Some c) ⊎ (has ≡ None)

mapped : (has : Option Content) (c : Content) → HasOrNone (option_map (λ (d : Content). c) has) c
mapped None c = inr refl
mapped (Some d) c = inl refl

same_content : (a b : Content) → Some a ≡ Some b → a ≡ b
same_content a b e = cc

-- what the contents give an object it has, if it has one
has_found : (stores : List PendingStore) (es : List (ℕ × Content)) (oid : ℕ) (c : Content) → content_in stores es oid ≡ Some c → HasOrNone (pending_content (with_contents stores es) oid) c
has_found stores [] oid c is = inl is
has_found stores (e ∷ es) oid c is = by_cases (eqb oid e.0) refl (λ there. has_found stores es oid c there) is
  where
    by_cases : (b : Bool) → eqb oid e.0 ≡ b → (content_in stores es oid ≡ Some c → HasOrNone (pending_content (with_contents stores es) oid) c)
        → content_or (cond b (Some e.1) (lookup (nat_eq oid) es)) (pending_content stores oid) ≡ Some c
        → HasOrNone (pending_content (with_content (with_contents stores es) e.0 e.1) oid) c
    by_cases true same rest there =
        let oid_is : oid ≡ e.0 = eqb-true oid e.0 same in
        let c_is : e.1 ≡ c = same_content e.1 c there in
        subst (λ (n : ℕ). HasOrNone (pending_content (with_content (with_contents stores es) e.0 e.1) n) c) (sym oid_is)
        (subst (λ (has : Option Content). HasOrNone has c) (sym (given_same (with_contents stores es) e.0 e.1))
        (subst (λ (d : Content). HasOrNone (option_map (λ (x : Content). d) (pending_content (with_contents stores es) e.0)) c) (sym c_is) (mapped (pending_content (with_contents stores es) e.0) c)))
    by_cases false apart rest there = subst (λ (has : Option Content). HasOrNone has c) (sym (given_other (with_contents stores es) oid e.0 e.1 apart)) (rest there)

-- what has none in the contents and in the stores has none
has_none : (stores : List PendingStore) (es : List (ℕ × Content)) (oid : ℕ) → content_in stores es oid ≡ None → pending_content (with_contents stores es) oid ≡ None
has_none stores [] oid is = is
has_none stores (e ∷ es) oid is = by_cases (eqb oid e.0) refl (λ gone. has_none stores es oid gone) is
  where
    by_cases : (b : Bool) → eqb oid e.0 ≡ b → (content_in stores es oid ≡ None → pending_content (with_contents stores es) oid ≡ None)
        → content_or (cond b (Some e.1) (lookup (nat_eq oid) es)) (pending_content stores oid) ≡ None
        → pending_content (with_content (with_contents stores es) e.0 e.1) oid ≡ None
    by_cases true same rest gone = absurd cc
    by_cases false apart rest gone = given_other (with_contents stores es) oid e.0 e.1 apart ∙ rest gone

-- ---- taking back

none_back : (stores : List PendingStore) (r : Replaced) → pending_content stores r.oid ≡ None → stores ≡ taken_back stores r
none_back [] r none = refl
none_back (s ∷ stores) r none = by_cases (eqb r.oid s.oid) (λ gone. none_back stores r gone) none
  where
    by_cases : (b : Bool) → (pending_content stores r.oid ≡ None → stores ≡ taken_back stores r) → option_map (λ (x : PendingStore). x.content) (cond b (Some s) (pending_of stores r.oid)) ≡ None
        → s ∷ stores ≡ cond b (with_later s (undone r.earlier s.content) ∷ stores) (s ∷ taken_back stores r)
    by_cases true rest gone = absurd cc
    by_cases false rest gone = ap (λ (ps : List PendingStore). s ∷ ps) (rest gone)

none_given : (stores : List PendingStore) (oid : ℕ) (c : Content) → pending_content stores oid ≡ None → with_content stores oid c ≡ stores
none_given [] oid c none = refl
none_given (s ∷ stores) oid c none = by_cases (eqb oid s.oid) (λ gone. none_given stores oid c gone) none
  where
    by_cases : (b : Bool) → (pending_content stores oid ≡ None → with_content stores oid c ≡ stores) → option_map (λ (x : PendingStore). x.content) (cond b (Some s) (pending_of stores oid)) ≡ None
        → cond b (with_later s c ∷ stores) (s ∷ with_content stores oid c) ≡ s ∷ stores
    by_cases true rest gone = absurd cc
    by_cases false rest gone = ap (λ (ps : List PendingStore). s ∷ ps) (rest gone)

some_back : (stores : List PendingStore) (r : Replaced) (c : Content) → pending_content stores r.oid ≡ Some c → with_content stores r.oid (undone r.earlier c) ≡ taken_back stores r
some_back [] r c there = absurd cc
some_back (s ∷ stores) r c there = by_cases (eqb r.oid s.oid) (λ some. some_back stores r c some) there
  where
    by_cases : (b : Bool) → (pending_content stores r.oid ≡ Some c → with_content stores r.oid (undone r.earlier c) ≡ taken_back stores r) → option_map (λ (x : PendingStore). x.content) (cond b (Some s) (pending_of stores r.oid)) ≡ Some c
        → cond b (with_later s (undone r.earlier c) ∷ stores) (s ∷ with_content stores r.oid (undone r.earlier c)) ≡ cond b (with_later s (undone r.earlier s.content) ∷ stores) (s ∷ taken_back stores r)
    by_cases true rest some = ap (λ (d : Content). with_later s (undone r.earlier d) ∷ stores) (sym (same_content s.content c some))
    by_cases false rest some = ap (λ (ps : List PendingStore). s ∷ ps) (rest some)

one_back : (stores : List PendingStore) (r : Replaced) (c : Content) → HasOrNone (pending_content stores r.oid) c → with_content stores r.oid (undone r.earlier c) ≡ taken_back stores r
one_back stores r c has =
    ⊎_elim (λ (there : pending_content stores r.oid ≡ Some c). some_back stores r c there) (λ (none : pending_content stores r.oid ≡ None). none_given stores r.oid (undone r.earlier c) none ∙ none_back stores r none) has

some_of : (e : Content → Content) (found : Option Content) (c : Content) → Some c ≡ option_map e found → (d : Content) × (found ≡ Some d) × (e d ≡ c)
some_of e None c is = absurd cc
some_of e (Some d) c is = (d, refl, same_content (e d) c (sym is))

none_of : (e : Content → Content) (found : Option Content) → None ≡ option_map e found → found ≡ None
none_of e None is = refl
none_of e (Some d) is = absurd cc

-- an earlier content is given: the change is taken back
pub one_given_back : (stores : List PendingStore) (es now : List (ℕ × Content)) (r : Replaced) (c : Content) → Some c ≡ option_map (undone r.earlier) (content_in stores es r.oid) → now ≡ insert_entry nat_eq es r.oid c
    → with_contents stores now ≡ taken_back (with_contents stores es) r
one_given_back stores es now r c before is =
    let found = some_of (undone r.earlier) (content_in stores es r.oid) c before in
    ap (with_contents stores) is
    ∙ one_more stores es r.oid c
    ∙ ap (with_content (with_contents stores es) r.oid) (sym found.2)
    ∙ one_back (with_contents stores es) r found.0 (has_found stores es r.oid found.0 found.1)

-- nothing is pending for the object: there is nothing to take back
pub not_given_back : (stores : List PendingStore) (es : List (ℕ × Content)) (r : Replaced) → None ≡ option_map (undone r.earlier) (content_in stores es r.oid) → with_contents stores es ≡ taken_back (with_contents stores es) r
not_given_back stores es r before = none_back (with_contents stores es) r (has_none stores es r.oid (none_of (undone r.earlier) (content_in stores es r.oid) before))

-- one change more is taken back
pub one_back_more : (stores now : List PendingStore) (log : List Replaced) (i : ℕ) (r : Replaced) → i < length log → r ≡ get_or log i r → now ≡ taken_back (all_taken_back stores (drop (i + 1) log)) r → now ≡ all_taken_back stores (drop i log)
one_back_more stores now log i r within is back =
    back ∙ ap (taken_back (all_taken_back stores (drop (i + 1) log))) is ∙ sym (ap (all_taken_back stores) (drop_more log i r within))

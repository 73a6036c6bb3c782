-- Puts one after another.
use Rattle.std.proofs.Common.{◌≡◌, ℕ, Bool, true, false, List, [], ◌∷◌, ◌++◌, Option, Some, None, refl, sym, ◌∙◌, ap, subst, append_assoc, append-nil, arith}
use Rattle.std.specs.Prelude.{if◌then◌else◌, map, ◌==◌}
use Rattle.std.proofs.lemmas.Grind.{common_steps}
use Rattle.btree_family.specs.Classes.{Class}
use Rattle.btree_shapes.specs.declared.space.Call.{Call}
use Rattle.btree_shapes.specs.declared.space.Call.TheVariants.{Wrote}
use Rattle.btree_shapes.specs.Nodes.{Holds, held_in}
use Rattle.btree_shapes.specs.Spaces.{with_bytes}
use Rattle.btree_putting.specs.declared.puts.Put.{Put}
use Rattle.btree_putting.specs.declared.kept.Kept.{Kept}
use Rattle.btree_putting.specs.Kept.{AreKept, IsKept, kept_put}
use Rattle.btree_putting.specs.Puts.{keeps, all_keep, put_bytes, put_all}
use Rattle.btree_putting.specs.Storing.{wrote, IsStored, IsStoredFront}

keep_first : (b : Bool) (class leaf : Class) (xs : List Put) (put : Put) → (if b then all_keep class leaf xs else false) ≡ true → (all_keep class leaf xs ≡ true → all_keep class leaf (xs ++ put ∷ []) ≡ true) → (if b then all_keep class leaf (xs ++ put ∷ []) else false) ≡ true
keep_first true class leaf xs put a f = f a
keep_first false class leaf xs put a f = cc

keep_last : (class leaf : Class) (puts : List Put) (put : Put) → all_keep class leaf puts ≡ true → keeps class leaf put ≡ true → all_keep class leaf (puts ++ put ∷ []) ≡ true
keep_last class leaf [] put a k = ap (λ b. if b then true else false) k
keep_last class leaf (x ∷ xs) put a k = keep_first (keeps class leaf x) class leaf xs put a (λ h. keep_last class leaf xs put h k)

put_last : (class leaf : Class) (puts : List Put) (put : Put) (contents : ℕ → Option (List ℕ)) → put_all class leaf (puts ++ put ∷ []) contents ≡ with_bytes (put_all class leaf puts contents) put.oid (put_bytes class leaf put)
put_last class leaf [] put contents = refl
put_last class leaf (x ∷ xs) put contents = put_last class leaf xs put (with_bytes contents x.oid (put_bytes class leaf x))

wrote_last : (puts : List Put) (put : Put) → map wrote (puts ++ put ∷ []) ≡ map wrote puts ++ Wrote put.oid ∷ []
wrote_last [] put = refl
wrote_last (x ∷ xs) put = ap (λ zs. Wrote x.oid ∷ zs) (wrote_last xs put)

-- some of the puts are done
pub record StoredSo (told : Type 0) (class leaf : Class) (puts left : List Put) (contents contents' : ℕ → Option (List ℕ)) (log log' : List Call) : Type 0 where
  pub done : List Put
  pub cut : puts ≡ done ++ left
  pub stored : IsStored told class leaf done contents contents' log log'

pub stored_start : (told : Type 0) (class leaf : Class) (puts : List Put) (contents : ℕ → Option (List ℕ)) (log : List Call) → StoredSo told class leaf puts puts contents contents log log
stored_start told class leaf puts contents log = record { done = []; cut = refl; stored = record { kept = refl; contents = refl; log = λ t. sym (append-nil log) } }

pub stored_step : (told : Type 0) (class leaf : Class) (puts left left' : List Put) (put : Put) (contents middle contents' : ℕ → Option (List ℕ)) (log between log' : List Call) → StoredSo told class leaf puts left contents middle log between → left ≡ put ∷ left' → keeps class leaf put ≡ true → contents' ≡ with_bytes middle put.oid (put_bytes class leaf put) → (told → log' ≡ between ++ Wrote put.oid ∷ []) → StoredSo told class leaf puts left' contents contents' log log'
stored_step told class leaf puts left left' put contents middle contents' log between log' s l k c w = record {
  done = s.done ++ put ∷ [];
  cut = s.cut ∙ ap (λ xs. s.done ++ xs) l ∙ sym (append_assoc s.done (put ∷ []) left');
  stored = record {
    kept = keep_last class leaf s.done put s.stored.kept k;
    contents = c ∙ ap (λ f. with_bytes f put.oid (put_bytes class leaf put)) s.stored.contents ∙ sym (put_last class leaf s.done put contents);
    log = λ t. w t ∙ ap (λ l. l ++ Wrote put.oid ∷ []) (s.stored.log t) ∙ append_assoc log (map wrote s.done) (Wrote put.oid ∷ []) ∙ ap (λ l. log ++ l) (sym (wrote_last s.done put));
  };
}

pub stored_end : (told : Type 0) (class leaf : Class) (puts left : List Put) (contents contents' : ℕ → Option (List ℕ)) (log log' : List Call) → StoredSo told class leaf puts left contents contents' log log' → left ≡ [] → IsStored told class leaf puts contents contents' log log'
stored_end told class leaf puts left contents contents' log log' s e =
    let same : puts ≡ s.done = s.cut ∙ ap (λ xs. s.done ++ xs) e ∙ append-nil s.done in
    record {
      kept = ap (all_keep class leaf) same ∙ s.stored.kept;
      contents = s.stored.contents ∙ ap (λ ps. put_all class leaf ps contents) (sym same);
      log = λ t. s.stored.log t ∙ ap (λ ps. log ++ map wrote ps) (sym same);
    }

pub stored_front : (told : Type 0) (class leaf : Class) (puts left : List Put) (contents middle contents' : ℕ → Option (List ℕ)) (log between log' : List Call) → StoredSo told class leaf puts left contents middle log between → contents' ≡ middle → (told → log' ≡ between) → IsStoredFront told class leaf puts contents contents' log log'
stored_front told class leaf puts left contents middle contents' log between log' s c l = record {
  front = s.done;
  behind = left;
  cut = s.cut;
  stored = record { kept = s.stored.kept; contents = c ∙ s.stored.contents; log = λ t. l t ∙ s.stored.log t };
}

-- ---- puts that were tried

pub first_kept : (class leaf : Class) (left left' : List Kept) (one : Kept) → AreKept class leaf left → left ≡ one ∷ left' → IsKept class leaf one
first_kept class leaf left left' one are l = (subst (AreKept class leaf) l are).0

pub rest_kept : (class leaf : Class) (left left' : List Kept) (one : Kept) → AreKept class leaf left → left ≡ one ∷ left' → AreKept class leaf left'
rest_kept class leaf left left' one are l = (subst (AreKept class leaf) l are).1

pub stored_next : (told : Type 0) (class leaf : Class) (puts : List Put) (left left' : List Kept) (one : Kept) (contents middle contents' : ℕ → Option (List ℕ)) (log between log' : List Call) → StoredSo told class leaf puts (map kept_put left) contents middle log between → left ≡ one ∷ left' → AreKept class leaf left → contents' ≡ with_bytes middle one.put.oid (put_bytes class leaf one.put) → (told → log' ≡ between ++ Wrote one.put.oid ∷ []) → StoredSo told class leaf puts (map kept_put left') contents contents' log log'
stored_next told class leaf puts left left' one contents middle contents' log between log' s l are c w =
    stored_step told class leaf puts (map kept_put left) (map kept_put left') one.put contents middle contents' log between log' s (ap (map kept_put) l) (first_kept class leaf left left' one are l).keeps_so c w

with_there : (contents : ℕ → Option (List ℕ)) (o : ℕ) (bytes : List ℕ) → with_bytes contents o bytes o ≡ Some bytes
with_there contents o bytes = grind (arith, common_steps)

-- what was put holds what its bytes hold
pub put_holds : (class leaf : Class) (kept : Kept) (contents contents' : ℕ → Option (List ℕ)) → IsKept class leaf kept → contents' ≡ with_bytes contents kept.put.oid kept.bytes → held_in (Some class) (contents' kept.put.oid) ≡ Holds kept.entry.class kept.entry.node
put_holds class leaf kept contents contents' k c = ap (λ f. held_in (Some class) (f kept.put.oid)) c ∙ ap (held_in (Some class)) (with_there contents kept.put.oid kept.bytes) ∙ k.holds

pub put_so : (class leaf : Class) (kept : Kept) (contents contents' : ℕ → Option (List ℕ)) → IsKept class leaf kept → contents' ≡ with_bytes contents kept.put.oid kept.bytes → contents' ≡ with_bytes contents kept.put.oid (put_bytes class leaf kept.put)
put_so class leaf kept contents contents' k c = c ∙ ap (with_bytes contents kept.put.oid) k.bytes_are

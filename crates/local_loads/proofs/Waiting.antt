-- Stores that wait one after another, each of another object.
use Rattle.std.proofs.Common.{◌≡◌, ℕ, Bool, false, cond, eqb, List, [], ◌∷◌, ◌++◌, map, refl, sym, ap, subst, ◌∙◌, append_assoc}
use Rattle.std.specs.Prelude.{nat_eq}
use Rattle.std.specs.List.{AllByRecursion, IsDistinct}
use Rattle.std.proofs.lemmas.Bool.{eqb-false, ne_eqb}
use Rattle.std.proofs.lemmas.List.{append-nil}
use Rattle.std.proofs.lemmas.Map.Keys.{IsDistinct-head, IsDistinct-tail}
use Rattle.zb_model.specs.declared.pending.PendingStore.{PendingStore}
use Rattle.commit_phases.specs.Pending.{with_pending}

abbrev pub oids_of : List PendingStore → List ℕ
oids_of stores = map (λ (p : PendingStore). p.oid) stores

-- stores behind others, one after another
abbrev pub waiting_with : List PendingStore → List PendingStore → List PendingStore
waiting_with stores [] = stores
waiting_with stores (p ∷ more) = waiting_with (with_pending stores p) more

flipped : (a b : ℕ) → nat_eq a b ≡ false → eqb b a ≡ false
flipped a b e = ne_eqb b a (λ q. eqb-false a b e (sym q))

apart_at : (oid : ℕ) (stores : List PendingStore) (p : PendingStore) (more : List PendingStore) → AllByRecursion (λ n. nat_eq oid n ≡ false) (oids_of (stores ++ p ∷ more)) → nat_eq oid p.oid ≡ false
apart_at oid [] p more apart = apart.0
apart_at oid (q ∷ stores) p more apart = apart_at oid stores p more apart.1

-- the store of another object goes behind them
behind_all : (stores : List PendingStore) (p : PendingStore) (more : List PendingStore) → IsDistinct nat_eq (oids_of (stores ++ p ∷ more)) → with_pending stores p ≡ stores ++ p ∷ []
behind_all [] p more once = refl
behind_all (q ∷ stores) p more once =
    ap (λ (b : Bool). cond b ((record { oid = q.oid; base = q.base; content = p.content }) ∷ stores) (q ∷ with_pending stores p))
    (flipped q.oid p.oid (apart_at q.oid stores p more (IsDistinct-head nat_eq q.oid (oids_of (stores ++ p ∷ more)) once)))
    ∙ ap (λ (ps : List PendingStore). q ∷ ps) (behind_all stores p more (IsDistinct-tail nat_eq q.oid (oids_of (stores ++ p ∷ more)) once))

waiting_all : (stores more : List PendingStore) → IsDistinct nat_eq (oids_of (stores ++ more)) → waiting_with stores more ≡ stores ++ more
waiting_all stores [] once = sym (append-nil stores)
waiting_all stores (p ∷ more) once =
    let one : (stores ++ p ∷ []) ++ more ≡ stores ++ p ∷ more = append_assoc stores (p ∷ []) more in
    ap (λ (ps : List PendingStore). waiting_with ps more) (behind_all stores p more once)
    ∙ waiting_all (stores ++ p ∷ []) more (subst (λ (ps : List PendingStore). IsDistinct nat_eq (oids_of ps)) (sym one) once)
    ∙ one

-- stores of different objects, each behind those before it where none waits yet, wait as they stand
pub all_wait : (none items stores : List PendingStore) → none ≡ [] → items ≡ stores → IsDistinct nat_eq (oids_of stores) → waiting_with none items ≡ stores
all_wait none items stores empty is once =
    ap (λ (ps : List PendingStore). waiting_with ps items) empty ∙ ap (λ (ps : List PendingStore). waiting_with [] ps) is ∙ waiting_all [] stores once

-- the first of those that are left waits behind the others
pub one_more_waits : (old new items left : List PendingStore) (p : PendingStore) (all : List PendingStore) → items ≡ p ∷ left → new ≡ with_pending old p → waiting_with old items ≡ all → waiting_with new left ≡ all
one_more_waits old new items left p all is one rest =
    ap (λ (ps : List PendingStore). waiting_with ps left) one ∙ sym (ap (λ (ps : List PendingStore). waiting_with old ps) is) ∙ rest

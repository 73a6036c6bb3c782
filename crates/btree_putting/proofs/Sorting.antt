-- Puts in rising order of their numbers.
use Rattle.std.proofs.Common.{◌≡◌, ℕ, ◌<◌, ◌≤◌, Bool, true, false, List, [], ◌∷◌, ◌++◌, refl, arith, sym, ◌∙◌, ap, length, suc, drop, take, inl, inr}
use Rattle.std.specs.Prelude.{insert, if◌then◌else◌, nat_lt}
use Rattle.btree_putting.specs.declared.puts.Put.{Put}
use Rattle.btree_putting.specs.Puts.{put_place, add_put, add_all}

add_with : (b : Bool) (x : Put) (xs : List Put) (p : Put) → insert xs (put_place p.oid xs) p ≡ add_put p xs → insert (x ∷ xs) (if b then suc (put_place p.oid xs) else 0) p ≡ (if b then x ∷ add_put p xs else p ∷ x ∷ xs)
add_with true x xs p e = ap (λ ys. x ∷ ys) e
add_with false x xs p e = refl

add_here : (ps : List Put) (p : Put) → insert ps (put_place p.oid ps) p ≡ add_put p ps
add_here [] p = refl
add_here (x ∷ xs) p = add_with (nat_lt x.oid p.oid) x xs p (add_here xs p)

pub add_at : (p : Put) (ps : List Put) (i : ℕ) → i ≡ put_place p.oid ps → insert ps i p ≡ add_put p ps
add_at p ps i e = rw e (add_here ps p)

pub add_all_last : (ps : List Put) (p : Put) (acc : List Put) → add_all (ps ++ p ∷ []) acc ≡ add_all ps (add_put p acc)
add_all_last [] p acc = refl
add_all_last (x ∷ xs) p acc = ap (add_put x) (add_all_last xs p acc)

pub add_all_append : (ps qs acc : List Put) → add_all (ps ++ qs) acc ≡ add_all ps (add_all qs acc)
add_all_append [] qs acc = refl
add_all_append (x ∷ xs) qs acc = ap (add_put x) (add_all_append xs qs acc)

-- Numbers of new objects, in the order in which they were drawn.
use Rattle.std.proofs.Common.{◌≡◌, ℕ, ◌+◌, ◌<◌, List, [], ◌∷◌, ◌++◌, Option, Some, None, refl, arith, sym, ◌∙◌, ap, length, zero, suc, append_assoc, append-nil}
use Rattle.std.specs.Prelude.{map, slice_get}
use Rattle.btree_shapes.specs.declared.space.Call.{Call}
use Rattle.btree_shapes.specs.declared.space.Call.TheVariants.{Drew}
use Rattle.btree_putting.specs.declared.puts.Put.{Put}
use Rattle.btree_putting.specs.Puts.{put_oid}
use Rattle.btree_setting.specs.Changes.{AreDrawn}

pub oids-append : (xs ys : List Put) → map put_oid (xs ++ ys) ≡ map put_oid xs ++ map put_oid ys
oids-append [] ys = refl
oids-append (x ∷ xs) ys = ap (λ zs. x.oid ∷ zs) (oids-append xs ys)

-- the first of the rest
get_behind : (news : List Put) (rest : List ℕ) (oid : ℕ) → slice_get (map put_oid news ++ rest) (length news) ≡ Some oid → (more : List ℕ) × (rest ≡ oid ∷ more)
get_behind [] [] oid e = cc
get_behind [] (x ∷ xs) oid e = (xs, ap (λ y. y ∷ xs) (cc))
get_behind (n ∷ news) rest oid e = get_behind news rest oid e

pub drawn_none : (oids : List ℕ) → AreDrawn oids []
drawn_none oids = record { rest = oids; cut = refl }

pub drawn_empty : (oids : List ℕ) (news : List Put) → news ≡ [] → AreDrawn oids news
drawn_empty oids news e = record { rest = oids; cut = ap (λ ps. map put_oid ps ++ oids) (sym e) }

pub drawn_more : (oids : List ℕ) (news : List Put) (put : Put) → AreDrawn oids news → slice_get oids (length news) ≡ Some put.oid → AreDrawn oids (news ++ put ∷ [])
drawn_more oids news put d e =
    let g : slice_get (map put_oid news ++ d.rest) (length news) ≡ Some put.oid = ap (λ xs. slice_get xs (length news)) (sym d.cut) ∙ e in
    let b = get_behind news d.rest put.oid g in
    record {
      rest = b.0;
      cut = d.cut ∙ ap (λ xs. map put_oid news ++ xs) b.1 ∙ sym (append_assoc (map put_oid news) (put.oid ∷ []) b.0) ∙ ap (λ xs. xs ++ b.0) (sym (oids-append news (put ∷ [])));
    }

pub drawn_one : (oids : List ℕ) (put : Put) → slice_get oids 0 ≡ Some put.oid → AreDrawn oids (put ∷ [])
drawn_one oids put e = drawn_more oids [] put (drawn_none oids) e

pub drawn_two : (oids : List ℕ) (put other : Put) → slice_get oids 0 ≡ Some put.oid → slice_get oids 1 ≡ Some other.oid → AreDrawn oids (put ∷ other ∷ [])
drawn_two oids put other e f = drawn_more oids (put ∷ []) other (drawn_one oids put e) f

-- ---- drawing

drew_last : (oids : List ℕ) (oid : ℕ) → map Drew (oids ++ oid ∷ []) ≡ map Drew oids ++ Drew oid ∷ []
drew_last [] oid = refl
drew_last (x ∷ xs) oid = ap (λ zs. Drew x ∷ zs) (drew_last xs oid)

pub drew_none : (log : List Call) → log ≡ log ++ map Drew []
drew_none log = sym (append-nil log)

pub drew_more : (log middle log' : List Call) (oids : List ℕ) (oid : ℕ) → middle ≡ log ++ map Drew oids → log' ≡ middle ++ Drew oid ∷ [] → log' ≡ log ++ map Drew (oids ++ oid ∷ [])
drew_more log middle log' oids oid e f =
    f ∙ ap (λ l. l ++ Drew oid ∷ []) e ∙ append_assoc log (map Drew oids) (Drew oid ∷ []) ∙ ap (λ l. log ++ l) (sym (drew_last oids oid))

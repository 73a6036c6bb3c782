-- Laws of what was read.
use Rattle.std.proofs.Common.{◌≡◌, ℕ, Bool, true, false, List, [], ◌∷◌, ◌++◌, refl, sym, ◌∙◌, ap, append_assoc, append-nil, inl, inr}
use Rattle.btree_shapes.specs.declared.space.Call.{Call}
use Rattle.btree_shapes.specs.declared.space.Call.TheVariants.{Read}
use Rattle.btree_shapes.specs.Spaces.{IsLogged}
use Rattle.btree_shapes.specs.Ways.{OnlyReads, reads}

reads_append : (xs ys : List ℕ) → reads (xs ++ ys) ≡ reads xs ++ reads ys
reads_append [] ys = refl
reads_append (x ∷ xs) ys = ap (λ zs. Read x ∷ zs) (reads_append xs ys)

pub only_none : (log : List Call) → OnlyReads log log
only_none log = record { oids = []; grown = sym (append-nil log) }

pub only_same : (log log' : List Call) → log' ≡ log → OnlyReads log log'
only_same log log' e = record { oids = []; grown = e ∙ sym (append-nil log) }

pub only_one : (log log' : List Call) (oid : ℕ) → log' ≡ log ++ Read oid ∷ [] → OnlyReads log log'
only_one log log' oid e = record { oids = oid ∷ []; grown = e }

pub only_read : (log log' : List Call) (oid : ℕ) (b : Bool) → IsLogged oid b log log' → OnlyReads log log'
only_read log log' oid true (inl e) = only_same log log' e
only_read log log' oid true (inr e) = only_one log log' oid e
only_read log log' oid false e = only_one log log' oid e

pub only_more : (a b c : List Call) → OnlyReads a b → OnlyReads b c → OnlyReads a c
only_more a b c x y = record {
  oids = x.oids ++ y.oids;
  grown = y.grown ∙ ap (λ l. l ++ reads y.oids) x.grown ∙ append_assoc a (reads x.oids) (reads y.oids) ∙ ap (λ l. a ++ l) (sym (reads_append x.oids y.oids));
}

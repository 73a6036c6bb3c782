-- Where the data records of a new transaction stand that is written at a place. Source: own.
use Rattle.std.specs.Prelude.{ℕ, ◌+◌, List, [], ◌∷◌}
use Rattle.zb_model.specs.declared.new_transaction.NewChange.{NewChange}
use Rattle.fs_index.specs.declared.place.Placed.{Placed}
use Rattle.fs_records.specs.Writing.{record_size}

-- where the data records of some changes stand, one behind another from q on
abbrev pub placed_from : ℕ → ℕ → List NewChange → List Placed
placed_from tid q [] = []
placed_from tid q (c ∷ cs) = record { oid = c.oid; place = record { serial = tid; at = q } } ∷ placed_from tid (q + record_size c.content) cs

-- the place behind these records
abbrev pub placed_end : ℕ → List NewChange → ℕ
placed_end q [] = q
placed_end q (c ∷ cs) = placed_end (q + record_size c.content) cs

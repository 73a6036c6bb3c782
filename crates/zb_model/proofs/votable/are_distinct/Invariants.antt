use Rattle.std.proofs.Common.{drop, map}
use Rattle.std.specs.Prelude.{nat_eq}
use Rattle.std.specs.List.{IsDistinct}
use Rattle.zb_model.proofs.votable.are_distinct.Given as goal

-- the places so far neither make the whole distinct nor keep it from being so
abbrev pub invariant-loop-place : goal.invariant-loop-place
invariant-loop-place l = record {
  up : IsDistinct nat_eq (map (λ c. c.oid) (drop l.place l.changes)) → IsDistinct nat_eq (map (λ c. c.oid) l.changes);
  down : IsDistinct nat_eq (map (λ c. c.oid) l.changes) → IsDistinct nat_eq (map (λ c. c.oid) (drop l.place l.changes));
}

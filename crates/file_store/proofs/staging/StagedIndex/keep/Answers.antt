use Rattle.std.proofs.Common.{◌≡◌, ◌++◌, List, Option, Some, ap, sym, subst, ◌∙◌}
use Rattle.fs_index.specs.declared.place.Placed.{Placed}
use Rattle.fs_index.specs.Places.{places_in, placed_of}
use Rattle.file_store.specs.declared.staged.Staged.{Staged}
use Rattle.file_store.specs.Staging.{IsStagedIndex}
use Rattle.file_store.proofs.Placing.{index_with, with_staged}
use Rattle.file_store.proofs.staging.StagedIndex.keep.Goals as goal

pub invariant_of-self : goal.invariant_of-self
invariant_of-self c =
    let old = c.self.inside.index in
    let new = c.add_reserved.new.self in
    let s = c.in-Some.staged in
    let some : c.self.inside.staged ≡ Some s = sym c.take.ensures.value ∙ c.in-Some.is in
    subst (λ (o : Option Staged). IsStagedIndex o new s.tid s.end) (sym c.take.ensures.after)
    (index_with s old new c.self.inside.newest c.self.inside.end (with_staged c.self.inside.staged s old c.self.inside.newest c.self.inside.end some c.self.invariant)
    (λ oid. c.add_reserved.ensures.records oid ∙ ap (λ (ps : List Placed). places_in old.entries oid ++ placed_of oid ps) c.as_slice.ensures) c.add_reserved.ensures.transactions)

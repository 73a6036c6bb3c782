use Rattle.std.proofs.Common.{List, ap, subst, arith}
use Rattle.fs_index.specs.declared.place.Placed.{Placed}
use Rattle.fs_index.specs.Places.{HasRoomFor}
use Rattle.file_store.specs.Staging.{StagedKept}
use Rattle.file_store.proofs.Placing.{index_staged}
use Rattle.file_store.proofs.staging.StagedIndex.stage.Goals as goal

pub invariant_of-self-2 : goal.invariant_of-self-2
invariant_of-self-2 c =
    let newest = ap (λ (i : StagedKept). i.newest) c.self.view_is in
    let end = ap (λ (i : StagedKept). i.end) c.self.view_is in
    index_staged c.self.inside.staged c.args.tid c.args.from c.args.end c.args.changes.now c.in_ok-records.records c.self.inside.index c.reserve.new.self c.self.inside.newest c.self.inside.end c.self.invariant
    (omega (arith, newest, c.requires.above)) c.requires.bound (omega (arith, end, c.requires.from)) c.requires.within c.requires.limit c.requires.distinct c.in_ok-records.ensures
    (subst (λ (ps : List Placed). HasRoomFor c.reserve.new.self ps) c.as_slice.ensures c.in_ok-reserve.ensures.room) c.reserve.ensures.places c.reserve.ensures.transactions

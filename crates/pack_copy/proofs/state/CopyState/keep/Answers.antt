use Rattle.std.proofs.Common.{◌≡◌, ℕ, ◌≤◌, All, List, ap, sym, subst, ◌∙◌, arith}
use Rattle.std.specs.Prelude.{◌++◌}
use Rattle.fs_index.specs.declared.place.Placed.{Placed}
use Rattle.fs_index.specs.Places.{Kept, places_in, placed_of}
use Rattle.fs_records.specs.PlacingLaws.{IsRecordOf}
use Rattle.fs_recovery.specs.Opens.{newest_kept}
use Rattle.pack_copy.specs.Copying.{CopyKept}
use Rattle.pack_copy.proofs.Keeping.{index_bounded}
use Rattle.pack_copy.proofs.state.CopyState.keep.Goals as goal

pub invariant_of-self : goal.invariant_of-self
invariant_of-self c =
    let next = c.requires.next in
    let end : c.self.inside.end ≡ c.args.self.now.end = ap (λ (k : CopyKept). k.end) c.self.view_is in
    let index : c.self.inside.index ≡ c.args.self.now.index = ap (λ (k : CopyKept). k.index) c.self.view_is in
    let records : c.as_slice.result.now ≡ c.args.ready.now.records = c.as_slice.ensures in
    let all : All (IsRecordOf c.args.tid c.self.inside.end c.args.ready.now.end) c.args.ready.now.records =
    subst (λ (n : ℕ). All (IsRecordOf c.args.tid n c.args.ready.now.end) c.args.ready.now.records) (sym end) next.records in
    let above : newest_kept c.self.inside.index ≤ c.args.tid = subst (λ (k : Kept). newest_kept k ≤ c.args.tid) (sym index) c.requires.above in
    index_bounded c.self.inside.index c.add_reserved.new.self c.self.inside.numbers c.add.new.self c.self.inside.end c.args.ready.now.end c.args.tid c.args.ready.now.records
    c.self.invariant above c.requires.bound (omega (arith, next.some, end)) next.limit all
    (λ oid. c.add_reserved.ensures.records oid ∙ ap (λ (rs : List Placed). places_in c.self.inside.index.entries oid ++ placed_of oid rs) records) c.add_reserved.ensures.transactions

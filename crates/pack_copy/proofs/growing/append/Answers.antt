use Rattle.std.proofs.Common.{refl, ap}
use Rattle.zb_volume.specs.declared.areas.Area.TheVariants.{Main}
use Rattle.zb_volume.specs.Disk.{seen}
use Rattle.pack_copy.specs.Appending.{with_held}
use Rattle.pack_copy.specs.Copying.{CopyKept}
use Rattle.pack_copy.proofs.Grown.{grown_so}
use Rattle.pack_copy.proofs.Keeping.{newest_with, stands_next}
use Rattle.pack_copy.proofs.Stays.{others_same}
use Rattle.pack_copy.proofs.growing.append.Goals as goal

pub returns-in_err-ready-clause-others : goal.returns-in_err-ready-clause-others
returns-in_err-ready-clause-others g c = λ told. others_same _ _ refl

pub keep-requires-clause-next : goal.keep-requires-clause-next
keep-requires-clause-next g c = stands_next c.make_ready.new.self c.args.outline.now c.in_ok-ready.ready c.requires.outline c.in_ok-ready.ensures.ready

pub returns-clause-copied : goal.returns-clause-copied
returns-clause-copied g c = λ told.
    (grown_so (with_held (g.V.Volume.state c.args.volume.now).log c.args.buffer.now) (seen (g.V.Volume.state c.args.volume.now).log Main) (with_held (g.V.Volume.state c.put_block.new.volume).log c.put_block.new.buffer) c.args.to.now c.make_ready.new.self c.keep.new.self c.args.outline.now c.in_ok-ready.ready
    c.to.inside.end c.to.inside.index (ap (λ (k : CopyKept). k.end) c.to.view_is) (ap (λ (k : CopyKept). k.index) c.to.view_is) (c.requires.copied told) c.in_ok-ready.ensures.same c.requires.outline (c.requires.within told) c.in_ok-ready.ensures.ready
    (c.in_ok-put_block.ensures.appended told).text_is (c.in_ok-put_block.ensures.appended told).fits (c.in_ok-put_block.ensures.room told) c.keep.ensures c.requires.bound (c.requires.later told)).copied

pub returns-clause-list : goal.returns-clause-list
returns-clause-list g c = λ told.
    (grown_so (with_held (g.V.Volume.state c.args.volume.now).log c.args.buffer.now) (seen (g.V.Volume.state c.args.volume.now).log Main) (with_held (g.V.Volume.state c.put_block.new.volume).log c.put_block.new.buffer) c.args.to.now c.make_ready.new.self c.keep.new.self c.args.outline.now c.in_ok-ready.ready
    c.to.inside.end c.to.inside.index (ap (λ (k : CopyKept). k.end) c.to.view_is) (ap (λ (k : CopyKept). k.index) c.to.view_is) (c.requires.copied told) c.in_ok-ready.ensures.same c.requires.outline (c.requires.within told) c.in_ok-ready.ensures.ready
    (c.in_ok-put_block.ensures.appended told).text_is (c.in_ok-put_block.ensures.appended told).fits (c.in_ok-put_block.ensures.room told) c.keep.ensures c.requires.bound (c.requires.later told)).list

pub returns-clause-newest : goal.returns-clause-newest
returns-clause-newest g c = newest_with c.make_ready.new.self c.keep.new.self c.args.outline.now.tid c.args.outline.now.packed c.in_ok-ready.ready c.keep.ensures

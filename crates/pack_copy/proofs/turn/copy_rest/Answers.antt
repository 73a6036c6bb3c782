use Rattle.std.proofs.Common.{◌≡◌, refl, ap, ◌∙◌}
use Rattle.zb_volume.specs.declared.areas.Area.TheVariants.{Main, Side, Hint}
use Rattle.zb_volume.specs.Disk.{seen}
use Rattle.zb_model.specs.Packing.{packed_by}
use Rattle.fs_records.specs.Listed.{listed}
use Rattle.fs_recovery.specs.Opens.{newest_kept}
use Rattle.pack_copy.specs.CopiedLaws.{copied_in_full}
use Rattle.pack_copy.specs.InFull.{full_file}
use Rattle.pack_copy.proofs.Turns.{all_copied, goes_on, next_of, to_the_end}
use Rattle.pack_copy.proofs.turn.copy_rest.Goals as goal
use Rattle.pack_copy.proofs.turn.copy_rest.Goals.{In_ok-copy_from}

pub copy_from-requires-clause-next : goal.copy_from-requires-clause-next
copy_from-requires-clause-next g c = next_of c.args.from.now (newest_kept c.args.to.now.index) c.transactions.result.now c.newest.result c.count_up_to-first.result c.transactions.ensures.value c.newest.ensures.value c.count_up_to-first.ensures c.requires.bound

pub copy_from-requires-clause-up_to : goal.copy_from-requires-clause-up_to
copy_from-requires-clause-up_to g c = λ told.
    goes_on (seen (g.V.Volume.state c.args.volume.now).log Main) (seen (g.V.Volume.state c.args.volume.now).log Side) c.args.from.now c.args.to.now c.args.keep.now c.transactions.result.now c.newest.result c.count_up_to-first.result
    (c.requires.source told) (c.requires.copied told) (c.requires.prefix told) c.transactions.ensures.value c.newest.ensures.value c.count_up_to-first.ensures

-- the whole packed list stands there
whole : (g : _) (c : In_ok-copy_from g) → g.V.Volume.told → listed (seen (g.V.Volume.state c.copy_from.new.volume).log Side) ≡ packed_by c.args.to.now.tid c.args.keep.now (listed (seen (g.V.Volume.state c.args.volume.now).log Main))
whole g c told =
    let main = seen (g.V.Volume.state c.args.volume.now).log Main in
    let side = seen (g.V.Volume.state c.copy_from.new.volume).log Side in
    let ends = (c.in_ok-copy_from.ensures.went told).ends in
    all_copied main side c.args.from.now c.copy_from.new.to c.args.keep.now c.args.to.now.tid (c.requires.source told) c.copy_from.ensures.tid
    (to_the_end (listed main) side c.copy_from.new.to c.args.keep.now _ _ _ (c.in_ok-copy_from.ensures.rest refl) ends)

pub returns-clause-copied : goal.returns-clause-copied
returns-clause-copied g c = λ told. (c.in_ok-copy_from.ensures.went told).ends.up_to.copied

pub returns-clause-list : goal.returns-clause-list
returns-clause-list g c = λ told. whole g c told

pub returns-clause-text : goal.returns-clause-text
returns-clause-text g c = λ told. copied_in_full (seen (g.V.Volume.state c.copy_from.new.volume).log Side) c.copy_from.new.to (c.in_ok-copy_from.ensures.went told).ends.up_to.copied ∙ ap full_file (whole g c told)

pub returns-clause-main : goal.returns-clause-main
returns-clause-main g c = λ told. c.copy_from.ensures.others told Main refl

pub returns-in_err-copy_from-clause-main : goal.returns-in_err-copy_from-clause-main
returns-in_err-copy_from-clause-main g c = λ told. c.copy_from.ensures.others told Main refl

pub returns-clause-hint : goal.returns-clause-hint
returns-clause-hint g c = λ told. c.copy_from.ensures.others told Hint refl

pub returns-in_err-copy_from-clause-hint : goal.returns-in_err-copy_from-clause-hint
returns-in_err-copy_from-clause-hint g c = λ told. c.copy_from.ensures.others told Hint refl

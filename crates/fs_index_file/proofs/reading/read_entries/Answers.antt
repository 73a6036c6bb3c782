use Rattle.std.proofs.Common.{ℕ, Bool, List, refl, ap, subst, ◌∙◌}
use Rattle.std.specs.Prelude.{None}
use Rattle.zb_volume.specs.declared.areas.Area.TheVariants.{Hint}
use Rattle.zb_volume.specs.Disk.{seen}
use Rattle.fs_index.specs.declared.place.Place.{Place}
use Rattle.fs_index_file.specs.Counts.{AreCounted, CountsGive}
use Rattle.fs_index_file.specs.Scans.{RecordsGive}
use Rattle.fs_index_file.proofs.Saying.{none_by_records, some_entries}
use Rattle.fs_index_file.proofs.reading.read_entries.Goals as goal

pub returns-then-not-branch-2-clause-value : goal.returns-then-not-branch-2-clause-value
returns-then-not-branch-2-clause-value g c = λ told.
    none_by_records (seen (g.V.Volume.state c.args.volume.now).log Hint) c.args.head.now c.read_starts.new.index.transactions c.read_starts.new.packed.items c.in_ok-read_starts.field-0 c.in_ok-read_records.field-0 c.newest_of-newest.result c.read_records.new.index.entries c.if-not-branch.false c.if-not-branch-2.true c.newest_of-newest.ensures (c.in_ok-read_starts.ensures.value told) (subst (λ (b : List ℕ). RecordsGive b c.args.head.now c.newest_of-newest.result c.read_records.new.index.entries c.in_ok-read_records.field-0) (ap (λ l. seen l Hint) c.read_starts.ensures.read.same) (c.in_ok-read_records.ensures.value told))

pub returns-clause-value : goal.returns-clause-value
returns-clause-value g c = λ told.
    let bytes = seen (g.V.Volume.state c.args.volume.now).log Hint in
    let same = ap (λ l. seen l Hint) c.read_starts.ensures.read.same in
    let starts = c.read_starts.new.index.transactions in
    some_entries bytes c.args.head.now starts c.read_starts.new.packed.items c.read_records.new.counted c.in_ok-read_starts.field-0 c.in_ok-read_records.field-0 c.newest_of-newest.result (record { index = c.read_records.new.index; numbers = c.in_ok-numbers.numbers; end = c.args.head.now.end; cut = None }) c.if-not-branch.false c.if-not-branch-2.false c.newest_of-newest.ensures
    refl c.read_records.ensures.transactions
    (subst (λ (ps : List Place). AreCounted ps c.read_starts.new.packed.items c.read_records.new.counted c.in_ok-numbers.numbers) (c.transactions-starts.ensures.value ∙ c.read_records.ensures.transactions)
    (subst (λ (bs : List Bool). AreCounted c.transactions-starts.result.now bs c.read_records.new.counted c.in_ok-numbers.numbers) c.as_slice.ensures.value
    c.in_ok-numbers.ensures))
    (c.in_ok-read_starts.ensures.value told) (subst (λ (b : List ℕ). RecordsGive b c.args.head.now c.newest_of-newest.result c.read_records.new.index.entries c.in_ok-read_records.field-0) same (c.in_ok-read_records.ensures.value told))
    (subst (λ (b : List ℕ). CountsGive b c.args.head.now starts c.read_records.new.counted c.in_ok-read_records.field-0) same (c.in_ok-read_records.ensures.counted told))

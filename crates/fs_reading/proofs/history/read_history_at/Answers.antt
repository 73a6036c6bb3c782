use Rattle.std.proofs.Common.{◌≡◌, ℕ, ◌∙◌, List, filter, ap}
use Rattle.std.specs.Prelude.{reverse}
use Rattle.zb_model.specs.declared.lists.Revision.{Revision}
use Rattle.fs_records.specs.Blocks.{Known}
use Rattle.fs_records.specs.Indexed.{is_of}
use Rattle.zb_volume.specs.Disk.{main_bytes}
use Rattle.fs_reading.specs.Standing.{RecordStands}
use Rattle.fs_reading.specs.RecordsStand.{each-filter}
use Rattle.fs_reading.specs.Histories.{stands}
use Rattle.fs_reading.proofs.Notes.{all_noted, lines_are}
use Rattle.fs_reading.proofs.history.read_history_at.Goals as goal

pub note_all-requires-clause-stand : goal.note_all-requires-clause-stand
note_all-requires-clause-stand g c = λ told.
    let bytes : List ℕ = main_bytes (g.V.Volume.state c.args.volume.now).log in
    let file = c.requires told in
    (filter (is_of file.oid) file.reached.known, file.are, each-filter (RecordStands bytes) (is_of file.oid) file.reached.known (stands bytes file.reached file.begins).records)

pub lines_of-requires-clause-stand : goal.lines_of-requires-clause-stand
lines_of-requires-clause-stand g c = λ told.
    let bytes : List ℕ = main_bytes (g.V.Volume.state c.args.volume.now).log in
    let file = c.requires told in
    let ks : List Known = filter (is_of file.oid) file.reached.known in
    let all = each-filter (RecordStands bytes) (is_of file.oid) file.reached.known (stands bytes file.reached file.begins).records in
    let noted : c.deref.result.now ≡ c.in_ok-noted.noted.items = c.deref.ensures.value in
    let again = all_noted bytes (main_bytes (g.V.Volume.state c.note_all.new.volume).log) ks c.args.places.now c.deref.result.now (ap main_bytes c.note_all.ensures.read.same) file.are all (noted ∙ c.in_ok-noted.ensures.noted told ks file.are all) in
    (ks, file.are, again.0, again.1)

pub returns-clause-lines : goal.returns-clause-lines
returns-clause-lines g c = λ told reached oid begins are.
    let bytes : List ℕ = main_bytes (g.V.Volume.state c.args.volume.now).log in
    let there = stands bytes reached begins in
    let ks = filter (is_of oid) reached.known in
    let all = each-filter (RecordStands bytes) (is_of oid) reached.known there.records in
    let again = all_noted bytes (main_bytes (g.V.Volume.state c.note_all.new.volume).log) ks c.args.places.now c.deref.result.now (ap main_bytes c.note_all.ensures.read.same) are all (c.deref.ensures.value ∙ c.in_ok-noted.ensures.noted told ks are all) in
    lines_are bytes (main_bytes (g.V.Volume.state c.note_all.new.volume).log) ks c.in_ok-lines.lines (ap main_bytes c.note_all.ensures.read.same) (c.in_ok-lines.ensures.lines told ks are again.0 again.1)
    ∙ ap (λ (l : List Revision). reverse l) (there.histories oid)

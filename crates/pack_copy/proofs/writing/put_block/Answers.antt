use Rattle.std.proofs.Common.{◌≡◌, ℕ, ◌-◌, ◌++◌, List, cond, length, map, refl, sym, ap, subst, ◌∙◌, arith}
use Rattle.std.specs.List.{AllByRecursion}
use Rattle.std.proofs.lemmas.List.{append-nil}
use Rattle.zb_volume.specs.declared.areas.Area.TheVariants.{Main}
use Rattle.zb_volume.specs.Disk.{main_bytes}
use Rattle.fs_records.specs.declared.header.Header.{Header}
use Rattle.fs_records.specs.Blocks.{records_text}
use Rattle.fs_records.specs.Headers.{header_text}
use Rattle.fs_records.specs.Writing.{HasRoom}
use Rattle.fs_reading.specs.declared.outline.OutlinedChange.{OutlinedChange}
use Rattle.fs_reading.specs.Outlines.{AllStandWithin}
use Rattle.pack_copy.specs.Outlined.{record_in, records_begin}
use Rattle.pack_copy.proofs.Appendings.{appended_is, appended_join, ok_so, ok_then}
use Rattle.pack_copy.proofs.Outlines.{end_behind}
use Rattle.pack_copy.proofs.Stays.{others_join, seen_same}
use Rattle.pack_copy.proofs.Texts.{length_is, whole_text}
use Rattle.pack_copy.proofs.writing.put_block.Goals as goal

pub overflow_sub-length-2 : goal.overflow_sub-length-2
overflow_sub-length-2 g c = omega (arith, c.requires.end, end_behind (records_begin c.args.at c.args.outline.now) c.args.outline.now.changes)

pub returns-in_err-put_records-clause-others : goal.returns-in_err-put_records-clause-others
returns-in_err-put_records-clause-others g c = λ told. others_join _ _ _ (c.put_head.ensures.others told) (c.put_records.ensures.others told)

pub returns-clause-others : goal.returns-clause-others
returns-clause-others g c = λ told. others_join _ _ _ (others_join _ _ _ (c.put_head.ensures.others told) (c.put_records.ensures.others told)) (c.put.ensures.others told)

pub put_records-requires-clause-short : goal.put_records-requires-clause-short
put_records-requires-clause-short g c = λ told. omega (arith, c.requires.short told, ap (λ (xs : List ℕ). length xs) (seen_same Main _ _ (c.put_head.ensures.others told Main refl)))

pub put_records-requires-clause-within : goal.put_records-requires-clause-within
put_records-requires-clause-within g c = λ told.
    subst (λ (cs : List OutlinedChange). AllStandWithin (main_bytes (g.V.Volume.state c.put_head.new.volume).log) cs) (sym c.as_slice-changes.ensures)
    (subst (λ (xs : List ℕ). AllStandWithin xs c.args.outline.now.changes) (sym (seen_same Main _ _ (c.put_head.ensures.others told Main refl))) (c.requires.within told))

-- the whole text was put behind Side and what is held
pub returns-clause-appended : goal.returns-clause-appended
returns-clause-appended g c = λ told.
    let o = c.args.outline.now in
    let main : List ℕ = main_bytes (g.V.Volume.state c.args.volume.now).log in
    let entries = c.args.places.now.entries in
    let long : ℕ = c.args.end - 8 - c.args.at in
    let h : Header = record { tid = o.tid; length = long; status = c.status_of.result; user = c.len.result; description = c.len-2.result; extension = c.len-3.result } in
    let head : h ≡ record { tid = o.tid; length = long; status = cond o.packed 112 32; user = length o.user; description = length o.description; extension = length o.extension } =
    rw (c.status_of.ensures, c.len.ensures, c.len-2.ensures, c.len-3.ensures) refl in
    let same : main_bytes (g.V.Volume.state c.put_head.new.volume).log ≡ main = seen_same Main _ _ (c.put_head.ensures.others told Main refl) in
    let long_is = length_is entries main c.args.at c.args.end o (c.requires.within told) c.requires.end in
    let first : List ℕ = header_text h ++ (o.user ++ (o.description ++ o.extension)) in
    let records : records_text c.args.at o.tid (map (record_in entries (main_bytes (g.V.Volume.state c.put_head.new.volume).log)) c.as_slice-changes.result.now) ≡ records_text c.args.at o.tid (map (record_in entries main) o.changes) =
    ap (λ (xs : List ℕ). records_text c.args.at o.tid (map (record_in entries xs) c.as_slice-changes.result.now)) same ∙ ap (λ (cs : List OutlinedChange). records_text c.args.at o.tid (map (record_in entries main) cs)) c.as_slice-changes.ensures in
    let text = ap (λ (xs : List ℕ). (first ++ xs) ++ c.number_bytes.result) records
    ∙ ap (λ (xs : List ℕ). (first ++ records_text c.args.at o.tid (map (record_in entries main) o.changes)) ++ xs) c.number_bytes.ensures
    ∙ sym (append-nil _)
    ∙ whole_text entries main c.args.at long o h long_is head in
    let two = appended_join _ _ _ _ _ _ first _ (c.in_ok-put_head.ensures.appended told) (c.in_ok-put_records.ensures.appended told) in
    ok_then c.put.result _ _ (λ rest. appended_is _ _ _ _ _ _ text (appended_join _ _ _ _ _ _ _ _ two rest)) (c.put.ensures.appended told)

pub returns-clause-room : goal.returns-clause-room
returns-clause-room g c = λ told.
    let entries = c.args.places.now.entries in
    let same = seen_same Main _ _ (c.put_head.ensures.others told Main refl) in
    ok_so c.put.result _
    (subst (λ (cs : List OutlinedChange). AllByRecursion HasRoom (map (record_in entries (main_bytes (g.V.Volume.state c.args.volume.now).log)) cs)) c.as_slice-changes.ensures
    (subst (λ (xs : List ℕ). AllByRecursion HasRoom (map (record_in entries xs) c.as_slice-changes.result.now)) same (c.in_ok-put_records.ensures.room told)))

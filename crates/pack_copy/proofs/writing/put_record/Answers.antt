use Rattle.std.proofs.Common.{◌≡◌, ℕ, ◌++◌, List, None, length, refl, ap, sym, subst, ◌∙◌, arith}
use Rattle.std.specs.List.{last_or}
use Rattle.zb_volume.specs.declared.areas.Area.TheVariants.{Main}
use Rattle.zb_volume.specs.Disk.{main_bytes}
use Rattle.fs_records.specs.declared.header.DataHeader.{DataHeader}
use Rattle.fs_index.specs.declared.place.Place.{Place}
use Rattle.fs_records.specs.Blocks.{payload_text}
use Rattle.fs_records.specs.Headers.{data_header_text}
use Rattle.fs_records.specs.Writing.{at_or_0, previous_in}
use Rattle.fs_reading.specs.Outlines.{StandsWithin, outlined_content}
use Rattle.pack_copy.specs.InFull.{full_payload}
use Rattle.pack_copy.specs.Outlined.{source_length}
use Rattle.pack_copy.proofs.Appendings.{appended_is, appended_join, ok_so, ok_then}
use Rattle.pack_copy.proofs.Stays.{others_join, seen_same}
use Rattle.pack_copy.proofs.Texts.{head_of, record_is, room_is}
use Rattle.pack_copy.proofs.writing.put_record.Goals as goal

pub put_payload-requires-clause-short : goal.put_payload-requires-clause-short
put_payload-requires-clause-short g c = λ told. omega (arith, c.requires.short told, ap (λ (xs : List ℕ). length xs) (seen_same Main _ _ (c.put.ensures.others told Main refl)))

pub put_payload-requires-clause-within : goal.put_payload-requires-clause-within
put_payload-requires-clause-within g c = λ told. subst (λ (xs : List ℕ). StandsWithin xs c.args.change.now.source) (sym (seen_same Main _ _ (c.put.ensures.others told Main refl))) (c.requires.within told)

pub returns-clause-appended : goal.returns-clause-appended
returns-clause-appended g c = λ told.
    let main : List ℕ = main_bytes (g.V.Volume.state c.args.volume.now).log in
    let oid : ℕ = c.args.change.now.oid in
    let h : DataHeader = head_of oid c.args.tid c.newest.result c.args.at c.length_of.result in
    let previous : c.newest.result ≡ previous_in c.args.places.now.entries oid = c.newest.ensures ∙ ap (λ (ps : List Place). at_or_0 (last_or None ps)) c.places.ensures.value in
    let head : h ≡ head_of oid c.args.tid (previous_in c.args.places.now.entries oid) c.args.at (source_length c.args.change.now.source) =
    ap (λ (n : ℕ). head_of oid c.args.tid n c.args.at c.length_of.result) previous ∙ ap (head_of oid c.args.tid (previous_in c.args.places.now.entries oid) c.args.at) c.length_of.ensures in
    let same : main_bytes (g.V.Volume.state c.put.new.volume).log ≡ main = seen_same Main _ _ (c.put.ensures.others told Main refl) in
    let payload : List ℕ → List ℕ = λ xs. payload_text (full_payload (outlined_content xs c.args.change.now.source)) in
    let text = ap (λ (xs : List ℕ). xs ++ payload (main_bytes (g.V.Volume.state c.put.new.volume).log)) c.write_data_header.ensures.text ∙ ap (λ (xs : List ℕ). data_header_text h ++ payload xs) same
    ∙ record_is c.args.places.now.entries main c.args.at c.args.tid c.args.change.now h (c.requires.within told) head in
    ok_then c.put_payload.result _ _ (λ rest. appended_is _ _ _ _ _ _ text (appended_join _ _ _ _ _ _ _ _ (c.in_ok-put.ensures.appended told) rest)) (c.put_payload.ensures.appended told)

pub returns-clause-room : goal.returns-clause-room
returns-clause-room g c = λ told.
    let main : List ℕ = main_bytes (g.V.Volume.state c.args.volume.now).log in
    let oid : ℕ = c.args.change.now.oid in
    let h : DataHeader = head_of oid c.args.tid c.newest.result c.args.at c.length_of.result in
    let previous : c.newest.result ≡ previous_in c.args.places.now.entries oid = c.newest.ensures ∙ ap (λ (ps : List Place). at_or_0 (last_or None ps)) c.places.ensures.value in
    let head : h ≡ head_of oid c.args.tid (previous_in c.args.places.now.entries oid) c.args.at (source_length c.args.change.now.source) =
    ap (λ (n : ℕ). head_of oid c.args.tid n c.args.at c.length_of.result) previous ∙ ap (head_of oid c.args.tid (previous_in c.args.places.now.entries oid) c.args.at) c.length_of.ensures in
    ok_so c.put_payload.result _ (room_is c.args.places.now.entries main c.args.at c.args.tid c.args.change.now h (c.requires.within told) head c.is_data_header.ensures)

pub returns-clause-others : goal.returns-clause-others
returns-clause-others g c = λ told. others_join _ _ _ (c.put.ensures.others told) (c.put_payload.ensures.others told)

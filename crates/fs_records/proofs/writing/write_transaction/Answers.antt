use Rattle.std.proofs.Common.{◌≡◌, ℕ, ◌-◌, ◌^◌, ◌<◌, ◌++◌, List, length, map, arith, rules, ap, ◌∙◌, refl}
use Rattle.fs_records.specs.declared.header.Header.{Header}
use Rattle.fs_records.specs.Headers.{header_text}
use Rattle.fs_records.specs.Numbers.{number}
use Rattle.std.proofs.lemmas.List.{length-append}
use Rattle.fs_records.specs.Blocks.{records_text}
use Rattle.fs_records.specs.Writing.{written_of}
use Rattle.fs_records.proofs.Voting.{is_next}
use Rattle.fs_records.proofs.Written.{whole_text}
use Rattle.fs_records.proofs.writing.write_transaction.Goals as goal

pub returns-clause-text : goal.returns-clause-text
returns-clause-text c =
    let entries = c.args.places.now.entries in
    let new = c.args.new.now in
    let h : Header = record { tid = new.tid; length = c.in-Some.length - 8; status = 99; user = length new.user; description = length new.description; extension = length new.extension } in
    let head : c.extend_from_slice.new.self.items ≡ header_text h = search rules in
    let user : c.extend_from_slice-2.new.self.items ≡ c.extend_from_slice.new.self.items ++ new.user = c.in_ok-extend_from_slice-2.ensures.items ∙ ap (λ (x : List ℕ). c.extend_from_slice.new.self.items ++ x) c.as_slice.ensures.value in
    let description : c.extend_from_slice-3.new.self.items ≡ c.extend_from_slice-2.new.self.items ++ new.description = c.in_ok-extend_from_slice-3.ensures.items ∙ ap (λ (x : List ℕ). c.extend_from_slice-2.new.self.items ++ x) c.as_slice-2.ensures.value in
    let extension : c.extend_from_slice-4.new.self.items ≡ c.extend_from_slice-3.new.self.items ++ new.extension = c.in_ok-extend_from_slice-4.ensures.items ∙ ap (λ (x : List ℕ). c.extend_from_slice-3.new.self.items ++ x) c.as_slice-3.ensures.value in
    let text : c.extend_from_slice-5.new.self.items ≡ c.write_records.new.text.items ++ number 8 (c.in-Some.length - 8) = c.in_ok-extend_from_slice-5.ensures.items ∙ ap (λ (x : List ℕ). c.write_records.new.text.items ++ x) c.number_bytes.ensures in
    c.from_vec.ensures
    ∙ whole_text entries c.args.at c.in-Some.length new h c.extend_from_slice.new.self.items c.extend_from_slice-2.new.self.items c.extend_from_slice-3.new.self.items c.extend_from_slice-4.new.self.items c.write_records.new.text.items c.extend_from_slice-5.new.self.items
    c.in-Some.ensures refl head user description extension c.in_ok-write_records.ensures.text text

pub returns-clause-block : goal.returns-clause-block
returns-clause-block c =
    let text = c.write_records.new.text in
    let entries = c.args.places.now.entries in
    let new = c.args.new.now in
    let records = records_text c.args.at new.tid (map (written_of entries) new.changes) in
    let long : length (records_text c.args.at new.tid (map (written_of entries) new.changes)) < 2 ^ 63 =
    omega (arith, ap length c.in_ok-write_records.ensures.text, length-append c.extend_from_slice-4.new.self.items records, text.ok.0, text.ok.1, text.small) in
    λ bytes s begins index here votable. is_next bytes s c.args.places.now new c.args.at begins index here votable c.requires.well_formed c.requires.at c.in_ok-write_records.ensures.room long

use Rattle.std.proofs.Common.{◌≡◌, ℕ, ◌+◌, ◌-◌, ◌<◌, List, ◌++◌, length, map, get_or, take, drop, cond, Some, None, ap, sym, subst, ◌∙◌, arith}
use Rattle.std.specs.Prelude.{reverse}
use Rattle.std.specs.Option.{option_to_list}
use Rattle.std.proofs.lemmas.List.{length-map, take_rest}
use Rattle.zb_model.specs.declared.lists.Revision.{Revision}
use Rattle.fs_index.specs.declared.place.Place.{Place}
use Rattle.fs_records.specs.Blocks.{Known}
use Rattle.fs_records.specs.Indexed.{place_of}
use Rattle.zb_volume.specs.Disk.{main_bytes}
use Rattle.fs_reading.specs.Standing.{RecordStands, lasts, is_replaced, revision_line_of}
use Rattle.fs_reading.specs.declared.noted.Noted.{Noted}
use Rattle.fs_reading.specs.Sizes.{noted_of}
use Rattle.fs_reading.proofs.Lines.{at_index, later_places, one_revision}
use Rattle.fs_reading.proofs.Notes.{noted_index}
use Rattle.fs_reading.proofs.history.lines_of.Goals as goal

pub line_of_last-requires-clause-stands : goal.line_of_last-requires-clause-stands
line_of_last-requires-clause-stands g c = λ told.
    let bytes : List ℕ = main_bytes (g.V.Volume.state c.args.volume.now).log in
    let now : main_bytes (g.V.Volume.state c.loop-left.volume).log ≡ bytes = ap main_bytes c.loop-left.invariant.same in
    let stand = c.requires.stand told in
    let ks : List Known = stand.0 in
    let place : Place = c.index-places-left.result in
    let within : c.loop-left.left - 1 < length ks = omega (arith, c.loop-left-test.true, c.loop-left.invariant.within, ap (λ (l : List Place). length l) stand.1, length-map ks place_of) in
    let x = at_index (RecordStands bytes) ks (c.loop-left.left - 1) place place stand.2 within (c.index-places-left.is ∙ ap (λ (l : List Place). get_or l (c.loop-left.left - 1) place) stand.1) in
    let none : Noted = record { size = None; transaction = 0 } in
    let note : Noted = get_or c.args.noted.now (c.loop-left.left - 1) none in
    let noted : note ≡ noted_of bytes x.known = ap (λ (l : List Noted). get_or l (c.loop-left.left - 1) none) stand.3 ∙ noted_index (noted_of bytes) ks (c.loop-left.left - 1) x.known none x.rest in
    let both = subst (λ (b : List ℕ). RecordStands b x.known × (note ≡ noted_of b x.known)) (sym now) (x.holds, noted) in
    (x.known, both.0, both.1)

pub loop-left-preserved : goal.loop-left-preserved
loop-left-preserved g c = record {
  within = omega (arith, c.loop-left.invariant.within);
  same = c.line_of_last.ensures.read.same ∙ c.loop-left.invariant.same;
  reads = c.in_ok-line.ensures.read.uncounted ∙ c.loop-left.invariant.reads;
  writes = c.line_of_last.ensures.read.write_faults ∙ c.loop-left.invariant.writes;
  lines = λ told ks is all noted_all.
      let bytes : List ℕ = main_bytes (g.V.Volume.state c.args.volume.now).log in
      let now : main_bytes (g.V.Volume.state c.loop-left.volume).log ≡ bytes = ap main_bytes c.loop-left.invariant.same in
      let i : ℕ = c.loop-left.left - 1 in
      let left_is : c.loop-left.left ≡ i + 1 = omega (arith, c.loop-left-test.true) in
      let place : Place = c.index-places-left.result in
      let within : i < length ks = omega (arith, c.loop-left-test.true, c.loop-left.invariant.within, ap (λ (l : List Place). length l) is, length-map ks place_of) in
      let x = at_index (RecordStands bytes) ks i place place all within (c.index-places-left.is ∙ ap (λ (l : List Place). get_or l i place) is) in
      let rest : List Known = drop (i + 1) ks in
      let later : take (length c.args.places.now - c.loop-left.left) (drop c.loop-left.left c.args.places.now) ≡ map place_of rest = take_rest c.args.places.now c.loop-left.left ∙ ap (λ (n : ℕ). drop n c.args.places.now) left_is ∙ later_places c.args.places.now ks (i + 1) is in
      let none : Noted = record { size = None; transaction = 0 } in
      let note : Noted = get_or c.args.noted.now i none in
      let noted : note ≡ noted_of bytes x.known = ap (λ (l : List Noted). get_or l i none) noted_all ∙ noted_index (noted_of bytes) ks i x.known none x.rest in
      let serial : (get_or c.args.places.now i place).serial ≡ x.known.tid = ap (λ (p : Place). p.serial) (sym c.index-places-left.is ∙ x.is) in
      let line = c.in_ok-line.ensures.value told x.known rest serial later (subst (λ (b : List ℕ). RecordStands b x.known) (sym now) x.holds) (subst (λ (b : List ℕ). note ≡ noted_of b x.known) (sym now) noted) in
      let line_is : c.in_ok-line.line ≡ cond (is_replaced x.known rest) None (Some (revision_line_of bytes x.known)) = line ∙ ap (λ (b : List ℕ). cond (is_replaced x.known rest) None (Some (revision_line_of b x.known))) now in
      let so_far : c.loop-left.lines ≡ reverse (map (revision_line_of bytes) (lasts rest)) = c.loop-left.invariant.lines told ks is all noted_all ∙ ap (λ (n : ℕ). reverse (map (revision_line_of bytes) (lasts (drop n ks)))) left_is in
      c.in_ok-keep.ensures.ok
      ∙ ap (λ (l : List Revision). l ++ option_to_list c.in_ok-line.line) so_far
      ∙ ap (λ o. reverse (map (revision_line_of bytes) (lasts rest)) ++ option_to_list o) line_is
      ∙ one_revision (revision_line_of bytes) ks i x.known x.rest;
}

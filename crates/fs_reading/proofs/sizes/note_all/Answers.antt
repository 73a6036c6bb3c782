use Rattle.std.proofs.Common.{◌≡◌, ℕ, List, ◌++◌, ◌∷◌, [], length, map, get_or, take, ap, sym, subst, ◌∙◌, arith}
use Rattle.std.specs.List.{AllByRecursion}
use Rattle.std.proofs.lemmas.Grind.{common_steps}
use Rattle.std.proofs.lemmas.List.{length-map, take_all}
use Rattle.zb_model.specs.Lists.{size_of}
use Rattle.fs_index.specs.declared.place.Place.{Place}
use Rattle.fs_records.specs.Blocks.{Known}
use Rattle.fs_records.specs.Indexed.{place_of}
use Rattle.zb_volume.specs.Disk.{main_bytes}
use Rattle.fs_reading.specs.declared.noted.Noted.{Noted}
use Rattle.fs_reading.specs.Sizes.{noted_of}
use Rattle.fs_reading.specs.Standing.{data_head_at, IsContent, RecordStands}
use Rattle.fs_reading.proofs.Chains.{head_within}
use Rattle.fs_reading.proofs.Lines.{at_index}
use Rattle.fs_reading.proofs.Notes.{content_there, front_places, front_stands, noted_is, noted_more}
use Rattle.fs_reading.proofs.sizes.note_all.Goals as goal

pub data_header_at-requires : goal.data_header_at-requires
data_header_at-requires g c = λ told.
    let bytes : List ℕ = main_bytes (g.V.Volume.state c.args.volume.now).log in
    let now : main_bytes (g.V.Volume.state c.note.volume).log ≡ bytes = ap main_bytes c.note.invariant.same in
    let stand = c.requires.stand told in
    let place : Place = c.index-places-count.result in
    let x = at_index (RecordStands bytes) stand.0 c.note.count place place stand.2 (omega (arith, c.note-test.true, ap (λ (l : List Place). length l) stand.1, length-map stand.0 place_of)) (c.index-places-count.is ∙ ap (λ (l : List Place). get_or l c.note.count place) stand.1) in
    let h = head_within bytes x.known.content place.at (content_there bytes place x.known x.is x.holds) in
    omega (arith, h, ap (λ (b : List ℕ). length b) now)

pub size_at-requires-clause-some : goal.size_at-requires-clause-some
size_at-requires-clause-some g c = λ told.
    let bytes : List ℕ = main_bytes (g.V.Volume.state c.args.volume.now).log in
    let then : main_bytes (g.V.Volume.state c.data_header_at.new.volume).log ≡ bytes = ap main_bytes (c.data_header_at.ensures.read.same ∙ c.note.invariant.same) in
    let stand = c.requires.stand told in
    let place : Place = c.index-places-count.result in
    let x = at_index (RecordStands bytes) stand.0 c.note.count place place stand.2 (omega (arith, c.note-test.true, ap (λ (l : List Place). length l) stand.1, length-map stand.0 place_of)) (c.index-places-count.is ∙ ap (λ (l : List Place). get_or l c.note.count place) stand.1) in
    (x.known.content, subst (λ (b : List ℕ). IsContent b x.known.content place.at) (sym then) (content_there bytes place x.known x.is x.holds))

pub note-preserved : goal.note-preserved
note-preserved g c =
    let bytes : List ℕ = main_bytes (g.V.Volume.state c.args.volume.now).log in
    let now : main_bytes (g.V.Volume.state c.note.volume).log ≡ bytes = ap main_bytes c.note.invariant.same in
    let then : main_bytes (g.V.Volume.state c.data_header_at.new.volume).log ≡ bytes = ap main_bytes c.data_header_at.ensures.read.same ∙ now in
    let i : ℕ = c.note.count in
    let place : Place = c.index-places-count.result in
    record {
      same = c.size_at.ensures.read.same ∙ c.data_header_at.ensures.read.same ∙ c.note.invariant.same;
      reads = c.in_ok-size.ensures.read.uncounted ∙ c.in_ok-header.ensures.read.uncounted ∙ c.note.invariant.reads;
      writes = c.size_at.ensures.read.write_faults ∙ c.data_header_at.ensures.read.write_faults ∙ c.note.invariant.writes;
      long = grind (arith, common_steps);
      noted = λ told ks is all.
          let x = at_index (RecordStands bytes) ks i place place all (omega (arith, c.note-test.true, ap (λ (l : List Place). length l) is, length-map ks place_of)) (c.index-places-count.is ∙ ap (λ (l : List Place). get_or l i place) is) in
          let front = front_stands (RecordStands bytes) ks i all in
          let so_far : c.note.noted.items ≡ map (noted_of bytes) (take i ks) = c.note.invariant.noted told ks is all in
          let size : c.in_ok-size.size ≡ size_of x.known.content =
          c.in_ok-size.ensures.value told x.known.content (take i ks) (subst (λ (b : List ℕ). IsContent b x.known.content place.at) (sym then) (content_there bytes place x.known x.is x.holds))
          (ap (λ (l : List Place). take i l) is ∙ front_places ks i)
          (c.deref.ensures.value ∙ so_far ∙ ap (λ (b : List ℕ). map (noted_of b) (take i ks)) (sym then))
          (subst (λ (b : List ℕ). AllByRecursion (RecordStands b) (take i ks)) (sym then) front) in
          let head : c.in_ok-header.header ≡ data_head_at bytes place.at = c.in_ok-header.ensures.value told ∙ ap (λ (b : List ℕ). data_head_at b place.at) now in
          c.in_ok-push.ensures.items ∙ ap (λ (l : List Noted). l ++ record { size = c.in_ok-size.size; transaction = c.in_ok-header.header.transaction } ∷ []) so_far
          ∙ ap (λ (n : Noted). map (noted_of bytes) (take i ks) ++ n ∷ []) (noted_is bytes place x.known c.in_ok-size.size c.in_ok-header.header x.is size head) ∙ sym (noted_more (noted_of bytes) ks i x.known x.rest);
    }

pub returns-clause-noted : goal.returns-clause-noted
returns-clause-noted g c = λ told ks is all.
    c.note.invariant.noted told ks is all ∙ ap (λ (l : List Known). map (noted_of (main_bytes (g.V.Volume.state c.args.volume.now).log)) l) (take_all c.note.count ks (omega (arith, c.note-test.false, ap (λ (l : List Place). length l) is, length-map ks place_of)))

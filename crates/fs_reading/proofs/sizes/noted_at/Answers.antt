use Rattle.std.proofs.Common.{List, None, ap, ◌∙◌, get_or, length, arith}
use Rattle.std.proofs.lemmas.List.{length-map}
use Rattle.fs_index.specs.declared.place.Place.{Place}
use Rattle.fs_records.specs.Indexed.{place_of}
use Rattle.fs_reading.specs.declared.noted.Noted.{Noted}
use Rattle.fs_reading.proofs.Notes.{noted_there}
use Rattle.fs_reading.proofs.sizes.noted_at.Goals as goal

pub returns : goal.returns
returns c = λ bytes ks is noted_are all.
    let n = c.partition_point-n.result in
    let p : Place = c.index-places-n.result in
    let none : Noted = record { size = None; transaction = 0 } in
    noted_there bytes ks n c.args.at p p (get_or c.args.noted.now n none) none all (omega (arith, ap (λ (l : List Place). length l) is, length-map ks place_of))
    (c.index-places-n.is ∙ ap (λ (l : List Place). get_or l n p) is) (ap (λ (l : List Noted). get_or l n none) noted_are) (ap (λ (q : Place). q.at) c.index-places-n.is ∙ c.if-places-n.false)

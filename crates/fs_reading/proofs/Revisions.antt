-- An object's revision below a front by the places of its records.
use Rattle.std.proofs.Common.{◌≡◌, ℕ, true, List, Option, Some, None, sym, ap, subst, ◌∙◌}
use Rattle.std.specs.Prelude.{option_map}
use Rattle.zb_model.specs.declared.data.Content.{Content}
use Rattle.zb_model.specs.declared.found.Found.TheVariants.{Nothing}
use Rattle.zb_model.specs.Database.{ObjectRevision}
use Rattle.zb_model.specs.Queries.{end_of, found_as, found_of, found_below}
use Rattle.fs_index.specs.declared.place.Place.{Place}
use Rattle.fs_records.specs.Blocks.{Reached, Begins, is_known, content_at}
use Rattle.fs_index.specs.Places.{last_below}
use Rattle.fs_records.specs.Indexed.{places_of}
use Rattle.fs_records.specs.Lookups.{RevisionRead, revision_read, next_read}
use Rattle.fs_index.specs.Found.{first_from}

-- what is read where a place was looked up
read_there : (bytes : List ℕ) (s : Reached) (oid front : ℕ) (places : List Place) (r o : Option Place) → Begins bytes s → places ≡ places_of oid s.known → r ≡ last_below front places → r ≡ o → RevisionRead s oid front o
read_there bytes s oid front places r o begins are found is =
    subst (λ (x : Option Place). RevisionRead s oid front x) (ap (last_below front) (sym are) ∙ sym found ∙ is) (revision_read bytes s oid front begins)

-- nothing, where no place is below the front
pub nothing_below : (bytes : List ℕ) (s : Reached) (oid front : ℕ) (places : List Place) (r : Option Place) → Begins bytes s → places ≡ places_of oid s.known → r ≡ last_below front places → r ≡ None → Nothing ≡ found_below oid front s.list
nothing_below bytes s oid front places r begins are found is =
    sym (ap (λ (o : Option ObjectRevision). found_of o (end_of oid front s.list)) (read_there bytes s oid front places r None begins are found is))

-- a record was read at the last place below the front
pub known_below : (bytes : List ℕ) (s : Reached) (oid front : ℕ) (places : List Place) (r : Option Place) (p : Place) → Begins bytes s → places ≡ places_of oid s.known → r ≡ last_below front places → r ≡ Some p → is_known s.known oid p.at ≡ true
known_below bytes s oid front places r p begins are found is = (read_there bytes s oid front places r (Some p) begins are found is).0

-- with its content, and the serial of the next place, it is the last revision
pub found_there : (bytes : List ℕ) (s : Reached) (oid front : ℕ) (places : List Place) (r : Option Place) (p : Place) (content : Content) (end : Option ℕ) → Begins bytes s → places ≡ places_of oid s.known → r ≡ last_below front places → r ≡ Some p
    → content ≡ content_at s.known oid p.at → end ≡ option_map (λ (x : Place). x.serial) (first_from front places) → found_as content p.serial end ≡ found_below oid front s.list
found_there bytes s oid front places r p content end begins are found is content_is end_is =
    let revision = (read_there bytes s oid front places r (Some p) begins are found is).1 in
    let next : end ≡ end_of oid front s.list = end_is ∙ ap (λ (ps : List Place). option_map (λ (x : Place). x.serial) (first_from front ps)) are ∙ next_read bytes s oid front begins in
    ap (λ (c : Content). found_as c p.serial end) content_is
    ∙ ap (found_as (content_at s.known oid p.at) p.serial) next
    ∙ sym (ap (λ (o : Option ObjectRevision). found_of o (end_of oid front s.list)) revision)

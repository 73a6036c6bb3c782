-- A file in which each content stands in full, and one transaction more.
use Rattle.std.proofs.Common.{◌≡◌, ℕ, List, [], ◌∷◌, ◌++◌, None, map, refl, sym, ap, ◌∙◌, append_assoc}
use Rattle.std.specs.List.{last_or}
use Rattle.std.proofs.lemmas.List.{append-nil}
use Rattle.zb_model.specs.declared.data.Content.{Content}
use Rattle.zb_model.specs.declared.data.Content.TheVariants.{Held, Absent}
use Rattle.zb_model.specs.declared.data.Change.{Change}
use Rattle.zb_model.specs.declared.data.Transaction.{Transaction}
use Rattle.fs_index.specs.declared.place.Place.{Place}
use Rattle.fs_records.specs.Blocks.{Payload, Written, Block, Reached, file_start, magic, block_text, after_block}
use Rattle.fs_index.specs.Places.{PlacesKept}
use Rattle.fs_records.specs.Indexed.{ArePlacesOf, places_of}
use Rattle.fs_records.specs.Writing.{at_or_0, payload_of, written_of, block_of}
use Rattle.pack_copy.specs.InFull.{after_full, full_block, full_file, full_payload, full_record, full_text}
use Rattle.pack_copy.specs.Renewing.{anew, change_anew, content_anew, status_of}

payload_same : (entries : List (ℕ × PlacesKept)) (oid : ℕ) (c : Content) → payload_of entries oid (content_anew c) ≡ full_payload c
payload_same entries oid (Held bytes) = refl
payload_same entries oid Absent = refl

record_same : (s : Reached) (entries : List (ℕ × PlacesKept)) (c : Change) → ArePlacesOf s.known entries → written_of entries (change_anew c) ≡ full_record s c
record_same s entries c index =
    ap (λ (ps : List Place). record { oid = c.oid; previous = at_or_0 (last_or None ps); payload = payload_of entries c.oid (content_anew c.content) }) (index c.oid)
    ∙ ap (λ (p : Payload). record { oid = c.oid; previous = at_or_0 (last_or None (places_of c.oid s.known)); payload = p }) (payload_same entries c.oid c.content)

records_same : (s : Reached) (entries : List (ℕ × PlacesKept)) (cs : List Change) → ArePlacesOf s.known entries → map (written_of entries) (map change_anew cs) ≡ map (full_record s) cs
records_same s entries [] index = refl
records_same s entries (c ∷ cs) index = ap (λ (r : Written). r ∷ map (written_of entries) (map change_anew cs)) (record_same s entries c index) ∙ ap (λ (rs : List Written). full_record s c ∷ rs) (records_same s entries cs index)

-- a transaction that is written anew has each content in full
pub block_same : (s : Reached) (entries : List (ℕ × PlacesKept)) (x : Transaction) → ArePlacesOf s.known entries → block_of (status_of x) entries (anew x) ≡ full_block s x
block_same s entries x index =
    ap (λ (rs : List Written). record { tid = x.tid; status = status_of x; user = x.user; description = x.description; extension = x.extension; records = rs }) (records_same s entries x.changes index)

after-push : (s : Reached) (xs : List Transaction) (x : Transaction) → after_full s (xs ++ x ∷ []) ≡ after_block (after_full s xs) (full_block (after_full s xs) x)
after-push s [] x = refl
after-push s (y ∷ ys) x = after-push (after_block s (full_block s y)) ys x

text-push : (s : Reached) (xs : List Transaction) (x : Transaction) → full_text s (xs ++ x ∷ []) ≡ full_text s xs ++ block_text (after_full s xs).end (full_block (after_full s xs) x)
text-push s [] x = append-nil (block_text s.end (full_block s x))
text-push s (y ∷ ys) x =
    ap (λ (t : List ℕ). block_text s.end (full_block s y) ++ t) (text-push (after_block s (full_block s y)) ys x)
    ∙ sym (append_assoc (block_text s.end (full_block s y)) (full_text (after_block s (full_block s y)) ys) _)

-- what is reached with it, and the bytes
pub after_one : (s : Reached) (b : Block) (x : Transaction) → b ≡ full_block s x → s ≡ after_full file_start s.list → (after_block s b).list ≡ s.list ++ x ∷ [] → after_block s b ≡ after_full file_start (after_block s b).list
after_one s b x same is list =
    ap (after_block s) same
    ∙ ap (λ (r : Reached). after_block r (full_block r x)) is
    ∙ sym (after-push file_start s.list x)
    ∙ ap (after_full file_start) (sym list)

pub file_one : (bytes text : List ℕ) (s : Reached) (b : Block) (x : Transaction) → b ≡ full_block s x → s ≡ after_full file_start s.list → bytes ≡ full_file s.list → text ≡ block_text s.end b → (list : List Transaction) → list ≡ s.list ++ x ∷ [] → bytes ++ text ≡ full_file list
file_one bytes text s b x same is so_far text_is list more =
    let last : text ≡ block_text (after_full file_start s.list).end (full_block (after_full file_start s.list) x) = text_is ∙ ap (block_text s.end) same ∙ ap (λ (r : Reached). block_text r.end (full_block r x)) is in
    ap (λ (t : List ℕ). t ++ text) so_far
    ∙ append_assoc magic (full_text file_start s.list) text
    ∙ ap (λ (t : List ℕ). magic ++ (full_text file_start s.list ++ t)) last
    ∙ ap (λ (t : List ℕ). magic ++ t) (sym (text-push file_start s.list x))
    ∙ ap full_file (sym more)

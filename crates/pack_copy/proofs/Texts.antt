-- The text of an outlined transaction, part by part.
use Rattle.std.proofs.Common.{◌≡◌, ℕ, ◌+◌, ◌-◌, ◌<◌, ◌^◌, List, [], ◌∷◌, ◌++◌, cond, length, get_or, map, take, Option, Some, None, refl, sym, ap, subst, ◌∙◌, append_assoc, arith}
use Rattle.std.specs.List.{AllByRecursion}
use Rattle.std.proofs.lemmas.List.{append-nil, map-append, take_more}
use Rattle.std.proofs.lemmas.Grind.{flat_map-append}
use Rattle.zb_base.specs.Lists.{each_more}
use Rattle.fs_records.specs.declared.header.DataHeader.{DataHeader}
use Rattle.fs_records.specs.declared.header.Header.{Header}
use Rattle.fs_records.specs.Blocks.{Payload, Written, block_text, header_for, length_of, payload_length, payload_text, record_text, records_text}
use Rattle.fs_records.specs.HeaderLaws.{IsDataHeader}
use Rattle.fs_records.specs.Headers.{data_header_text, header_text}
use Rattle.fs_records.specs.Numbers.{number}
use Rattle.fs_index.specs.Places.{PlacesKept}
use Rattle.fs_records.specs.WriteLaws.{length-block_text}
use Rattle.fs_records.specs.Writing.{HasRoom, PayloadFits, payload_of, previous_in}
use Rattle.fs_reading.specs.declared.outline.Source.{Source}
use Rattle.fs_reading.specs.declared.outline.OutlinedChange.{OutlinedChange}
use Rattle.fs_reading.specs.declared.outline.Outline.{Outline}
use Rattle.fs_reading.specs.Outlines.{AllStandWithin, StandsWithin, outlined_content}
use Rattle.pack_copy.specs.InFull.{full_payload}
use Rattle.pack_copy.specs.Outlined.{block_in, end_in, record_in, records_begin, source_length}
use Rattle.pack_copy.specs.Renewing.{content_anew}
use Rattle.pack_copy.proofs.Outlines.{end_long, part_long}

-- ---- one data record

-- the header of a data record
abbrev pub head_of : ℕ → ℕ → ℕ → ℕ → ℕ → DataHeader
head_of oid tid previous at long = record { oid = oid; tid = tid; previous = previous; transaction = at; version = 0; length = long }

payload_is : (entries : List (ℕ × PlacesKept)) (oid : ℕ) (bytes : List ℕ) (source : Option Source) → full_payload (outlined_content bytes source) ≡ payload_of entries oid (content_anew (outlined_content bytes source))
payload_is entries oid bytes None = refl
payload_is entries oid bytes (Some s) = refl

payload_long : (bytes : List ℕ) (source : Option Source) → StandsWithin bytes source → source_length source ≡ payload_length (full_payload (outlined_content bytes source))
payload_long bytes None within = refl
payload_long bytes (Some s) within = sym (part_long s.length (s.at + 42) bytes within)

payload_fits : (bytes : List ℕ) (source : Option Source) → StandsWithin bytes source → source_length source < 2 ^ 64 → PayloadFits (full_payload (outlined_content bytes source))
payload_fits bytes None within small = omega arith
payload_fits bytes (Some s) within small = omega (arith, part_long s.length (s.at + 42) bytes within, small)

pub record_is : (entries : List (ℕ × PlacesKept)) (bytes : List ℕ) (at tid : ℕ) (c : OutlinedChange) (h : DataHeader) → StandsWithin bytes c.source → h ≡ head_of c.oid tid (previous_in entries c.oid) at (source_length c.source)
    → data_header_text h ++ payload_text (full_payload (outlined_content bytes c.source)) ≡ record_text at tid (record_in entries bytes c)
unfolding record_text
record_is entries bytes at tid c h within head =
    ap (λ (x : DataHeader). data_header_text x ++ payload_text (full_payload (outlined_content bytes c.source))) (head ∙ ap (head_of c.oid tid (previous_in entries c.oid) at) (payload_long bytes c.source within))
    ∙ ap (λ (p : Payload). data_header_text (head_of c.oid tid (previous_in entries c.oid) at (payload_length p)) ++ payload_text p) (payload_is entries c.oid bytes c.source)

-- its numbers have room
pub room_is : (entries : List (ℕ × PlacesKept)) (bytes : List ℕ) (at tid : ℕ) (c : OutlinedChange) (h : DataHeader) → StandsWithin bytes c.source → h ≡ head_of c.oid tid (previous_in entries c.oid) at (source_length c.source) → IsDataHeader h → HasRoom (record_in entries bytes c)
room_is entries bytes at tid c h within head fits =
    let all : IsDataHeader (head_of c.oid tid (previous_in entries c.oid) at (source_length c.source)) = subst (λ (x : DataHeader). IsDataHeader x) head fits in
    record { oid = all.oid; previous = all.previous; payload = subst (λ (p : Payload). PayloadFits p) (payload_is entries c.oid bytes c.source) (payload_fits bytes c.source within all.length) }

-- ---- one data record more

one_more : (entries : List (ℕ × PlacesKept)) (bytes : List ℕ) (cs : List OutlinedChange) (i : ℕ) (c : OutlinedChange) → i < length cs → c ≡ get_or cs i c → map (record_in entries bytes) (take (i + 1) cs) ≡ map (record_in entries bytes) (take i cs) ++ record_in entries bytes c ∷ []
one_more entries bytes cs i c within is =
    ap (map (record_in entries bytes)) (take_more cs i c within) ∙ map-append (record_in entries bytes) (take i cs) (get_or cs i c ∷ [])
    ∙ ap (λ (x : OutlinedChange). map (record_in entries bytes) (take i cs) ++ record_in entries bytes x ∷ []) (sym is)

pub text_more : (entries : List (ℕ × PlacesKept)) (bytes : List ℕ) (at tid : ℕ) (cs : List OutlinedChange) (i : ℕ) (c : OutlinedChange) → i < length cs → c ≡ get_or cs i c
    → records_text at tid (map (record_in entries bytes) (take i cs)) ++ record_text at tid (record_in entries bytes c) ≡ records_text at tid (map (record_in entries bytes) (take (i + 1) cs))
text_more entries bytes at tid cs i c within is =
    let rs : List Written = map (record_in entries bytes) (take i cs) in
    let r : Written = record_in entries bytes c in
    sym (ap (records_text at tid) (one_more entries bytes cs i c within is) ∙ flat_map-append (record_text at tid) rs (r ∷ []) ∙ ap (λ (x : List ℕ). records_text at tid rs ++ x) (append-nil (record_text at tid r)))

pub room_more : (entries : List (ℕ × PlacesKept)) (bytes : List ℕ) (cs : List OutlinedChange) (i : ℕ) (c : OutlinedChange) → i < length cs → c ≡ get_or cs i c
    → AllByRecursion HasRoom (map (record_in entries bytes) (take i cs)) → HasRoom (record_in entries bytes c) → AllByRecursion HasRoom (map (record_in entries bytes) (take (i + 1) cs))
room_more entries bytes cs i c within is so_far one =
    subst (λ (rs : List Written). AllByRecursion HasRoom rs) (sym (one_more entries bytes cs i c within is)) (each_more HasRoom (map (record_in entries bytes) (take i cs)) (record_in entries bytes c) so_far one)

-- ---- the whole

pub head_text : (h u d e : List ℕ) {header user description extension : List ℕ} → header ≡ h → user ≡ u → description ≡ d → extension ≡ e → ((header ++ user) ++ description) ++ extension ≡ h ++ (u ++ (d ++ e))
head_text h u d e p q r s = rw (p, q, r, s) (append_assoc (h ++ u) d e ∙ append_assoc h u (d ++ e))

pub length_is : (entries : List (ℕ × PlacesKept)) (bytes : List ℕ) (at end : ℕ) (o : Outline) → AllStandWithin bytes o.changes → end ≡ end_in (records_begin at o) o.changes + 8 → end - 8 - at ≡ length_of at (block_in entries bytes o)
length_is entries bytes at end o within is = omega (arith, is, end_long entries bytes at o within, length-block_text at (block_in entries bytes o))

pub whole_text : (entries : List (ℕ × PlacesKept)) (bytes : List ℕ) (at long : ℕ) (o : Outline) (h : Header) → long ≡ length_of at (block_in entries bytes o)
    → h ≡ record { tid = o.tid; length = long; status = cond o.packed 112 32; user = length o.user; description = length o.description; extension = length o.extension }
    → (((header_text h ++ (o.user ++ (o.description ++ o.extension))) ++ records_text at o.tid (map (record_in entries bytes) o.changes)) ++ number 8 long) ++ [] ≡ block_text at (block_in entries bytes o)
unfolding block_text
whole_text entries bytes at long o h long_is head =
    let b = block_in entries bytes o in
    let texts : List ℕ = o.user ++ (o.description ++ o.extension) in
    let rs : List ℕ = records_text at o.tid (map (record_in entries bytes) o.changes) in
    append-nil (((header_text h ++ texts) ++ rs) ++ number 8 long)
    ∙ ap (λ (n : ℕ). ((header_text h ++ texts) ++ rs) ++ number 8 n) long_is
    ∙ ap (λ (x : Header). ((header_text x ++ texts) ++ rs) ++ number 8 (length_of at b)) (head ∙ ap (λ (n : ℕ). record { tid = o.tid; length = n; status = cond o.packed 112 32; user = length o.user; description = length o.description; extension = length o.extension }) long_is)
    ∙ append_assoc (header_text (header_for at b) ++ texts) rs (number 8 (length_of at b))
    ∙ append_assoc (header_text (header_for at b)) texts (rs ++ number 8 (length_of at b))

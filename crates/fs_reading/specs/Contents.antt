-- What data records that were written say of their content.
use Rattle.std.proofs.Common.{◌≡◌, ◌≢◌, ℕ, ◌+◌, ◌^◌, ◌<◌, ◌≤◌, Bool, true, false, cond, eqb, List, [], ◌∷◌, ◌++◌, length, take, drop, refl, sym, ap, subst, ◌∙◌, append_assoc, arith}
use Rattle.std.specs.Prelude.{◌&&◌, ◌||◌}
use Rattle.std.specs.List.{AllByRecursion}
use Rattle.std.proofs.lemmas.List.{length-drop, length-append, drop-drop, drop_at, take_at}
use Rattle.std.proofs.lemmas.Bool.{eqb-true, eqb-false, ne_eqb}
use Rattle.zb_model.specs.declared.data.Content.TheVariants.{Held, Absent}
use Rattle.fs_records.specs.declared.header.DataHeader.{DataHeader}
use Rattle.fs_records.specs.Numbers.{number, number_in}
use Rattle.fs_records.specs.NumberLaws.{length-number, number_in-number}
use Rattle.fs_records.specs.Headers.{data_header_of, data_header_text}
use Rattle.fs_records.specs.HeaderLaws.{IsDataHeader, data_header_again, length-data_header_text}
use Rattle.fs_records.specs.Blocks.{Payload, Full, From, Written, Known, payload_length, payload_text, data_header, record_text, is_at, is_known, content_at, content_of, known_at, IsPayload, IsWrittenRecord}
use Rattle.fs_records.specs.RecordLaws.{payload_fits}
use Rattle.fs_records.specs.Rules.{payload_size}
use Rattle.fs_reading.specs.Cases.{by_bool}
use Rattle.fs_reading.specs.Standing.{data_head_at, back_at, HasPayload, IsContent, held, absent, earlier}

-- ---- what is known stands, and before here

-- a known record's content stands at its place
abbrev pub ContentStands : List ℕ → Known → Type 0
ContentStands bytes k = IsContent bytes k.content k.place

-- a known record stands before this place
abbrev pub StandsBefore : ℕ → Known → Type 0
StandsBefore q k = k.place < q

both : (a b : Bool) → (a && b) ≡ true → b ≡ true
both true b h = h
both false b h = absurd cc

-- a known record of an object at a place has that content there
pub known_content : (bytes : List ℕ) (known : List Known) (oid place : ℕ) → AllByRecursion (ContentStands bytes) known → is_known known oid place ≡ true → IsContent bytes (content_at known oid place) place
known_content bytes [] oid place all is = absurd cc
known_content bytes (k ∷ ks) oid place all is =
    let P : Bool → Type 0 = λ b. (b || is_known ks oid place) ≡ true → IsContent bytes (cond b k.content (content_at ks oid place)) place in
    by_bool P (is_at oid place k)
    (λ at h. subst (λ (n : ℕ). IsContent bytes k.content n) (eqb-true k.place place (both (eqb oid k.oid) (eqb k.place place) at)) all.0)
    (λ at h. known_content bytes ks oid place all.1 h) is

known_before : (q : ℕ) (known : List Known) (oid place : ℕ) → AllByRecursion (StandsBefore q) known → is_known known oid place ≡ true → place < q
known_before q [] oid place all is = absurd cc
known_before q (k ∷ ks) oid place all is =
    let P : Bool → Type 0 = λ b. (b || is_known ks oid place) ≡ true → place < q in
    by_bool P (is_at oid place k)
    (λ at h. let same : k.place ≡ place = eqb-true k.place place (both (eqb oid k.oid) (eqb k.place place) at) in let first : k.place < q = all.0 in omega arith)
    (λ at h. known_before q ks oid place all.1 h) is

-- ---- a data record that stands there

-- its header is read again
pub record_head : (bytes : List ℕ) (known : List Known) (place tid q : ℕ) (r : Written) (more : List ℕ) → tid < 2 ^ 64 → place < 2 ^ 64 → IsWrittenRecord known r → drop q bytes ≡ record_text place tid r ++ more
    → (data_head_at bytes q ≡ data_header place tid r) × (drop (q + 42) bytes ≡ payload_text r.payload ++ more)
unfolding record_text
record_head bytes known place tid q r more tid_fits place_fits is stands =
    let h : DataHeader = data_header place tid r in
    let p : List ℕ = payload_text r.payload in
    let fits : IsDataHeader h = record { oid = is.oid; tid = tid_fits; previous = is.previous; transaction = place_fits; version = omega arith; length = payload_fits known r.oid r.payload is.payload } in
    let regrouped : drop q bytes ≡ data_header_text h ++ (p ++ more) = stands ∙ append_assoc (data_header_text h) p more in (
      ap data_header_of regrouped ∙ data_header_again h (p ++ more) fits,
      sym (drop-drop 42 q bytes) ∙ ap (drop 42) regrouped ∙ drop_at (data_header_text h) (p ++ more) 42 (length-data_header_text h),
    )

leads : (z k : Bool) → z ≡ false → (z || k) ≡ true → k ≡ true
leads true k e h = absurd cc
leads false k e h = h

is_zero : (n : ℕ) → eqb n 0 ≡ true → n ≡ 0
is_zero n e = eqb-true n 0 e

-- by its payload
content_by : (bytes : List ℕ) (known : List Known) (q oid : ℕ) (p : Payload) (more : List ℕ) → IsPayload known oid p
    → (data_head_at bytes q).length ≡ payload_length p → drop (q + 42) bytes ≡ payload_text p ++ more
    → AllByRecursion (ContentStands bytes) known → AllByRecursion (StandsBefore q) known → IsContent bytes (content_of known oid p) q
content_by bytes known q oid (Full text) more is len behind all before =
    let long : q + 42 + length text ≤ length bytes = omega (arith, ap length behind, length-drop (q + 42) bytes, length-append text more, is.0) in
    let some : eqb (length text) 0 ≡ false = ne_eqb (length text) 0 (omega arith) in
    let size : payload_size (data_head_at bytes q) ≡ length text = rw (len, some) refl in
    held q (omega arith) (omega arith) (ap (λ (x : List ℕ). Held x) (sym (ap (λ (n : ℕ). take n (drop (q + 42) bytes)) len ∙ ap (take (length text)) behind ∙ take_at text more (length text) refl)))
content_by bytes known q oid (From at) more is len behind all before =
    let small : at < 2 ^ 64 = is.0 in
    let long : q + 42 + 8 ≤ length bytes = omega (arith, ap length behind, length-drop (q + 42) bytes, length-append (number 8 at) more, length-number 8 at) in
    let size : payload_size (data_head_at bytes q) ≡ 8 = rw (len) refl in
    let back : back_at bytes q ≡ at = ap (number_in 8) behind ∙ number_in-number 8 at more (omega arith) in
    let whole : HasPayload bytes q = omega arith in
    by_cases (eqb at 0) refl whole back
  where
    by_cases : (b : Bool) → eqb at 0 ≡ b → HasPayload bytes q → back_at bytes q ≡ at → IsContent bytes (cond b Absent (content_at known oid at)) q
    by_cases true zero whole back = absent q whole len (back ∙ is_zero at zero) refl
    by_cases false some whole back =
        let k : is_known known oid at ≡ true = leads (eqb at 0) (is_known known oid at) some is.1 in
        let apart : at ≢ 0 = eqb-false at 0 some in
        earlier q whole len (omega arith) (let b : at < q = known_before q known oid at before k in omega arith) (subst (λ (n : ℕ). IsContent bytes (content_at known oid at) n) (sym back) (known_content bytes known oid at all k))

-- a data record that stands there has the content that is known of it
pub record_content : (bytes : List ℕ) (known : List Known) (place tid q : ℕ) (r : Written) (more : List ℕ) → tid < 2 ^ 64 → place < 2 ^ 64 → IsWrittenRecord known r → drop q bytes ≡ record_text place tid r ++ more
    → AllByRecursion (ContentStands bytes) known → AllByRecursion (StandsBefore q) known → ContentStands bytes (known_at known tid q r)
record_content bytes known place tid q r more tid_fits place_fits is stands all before =
    let h = record_head bytes known place tid q r more tid_fits place_fits is stands in
    content_by bytes known q r.oid r.payload more is.payload (ap (λ (x : DataHeader). x.length) h.0) h.1 all before

-- A record that is read stands there, and a record that stands there is read.
use Rattle.std.proofs.Common.{◌≡◌, ℕ, ◌+◌, ◌-◌, ◌^◌, ◌<◌, ◌≤◌, ◌≢◌, Bool, true, false, cond, eqb, ltb, List, ◌++◌, length, take, drop, Result, Ok, Err, refl, eq-eqb, sym, ap, ◌∙◌, append_assoc, arith}
use Rattle.std.specs.Prelude.{not, ◌||◌}
use Rattle.std.proofs.lemmas.Bool.{eqb-true, eqb-false, ltb-false, le-ltb}
use Rattle.std.proofs.lemmas.List.{length-take-le, length-drop, length-append, take-append-drop, drop-drop, take_at, drop_at}
use Rattle.fs_records.specs.declared.header.DataHeader.{DataHeader}
use Rattle.fs_records.specs.declared.field.Field.{Field}
use Rattle.fs_records.specs.declared.field.Field.TheVariants.{Serial, Position, Version, Size, Back}
use Rattle.fs_records.specs.Numbers.{number, number_in}
use Rattle.fs_records.specs.NumberLaws.{length-number, number_in-number, number_in-lt, number_back_8}
use Rattle.fs_records.specs.Headers.{data_header_text, data_header_of}
use Rattle.fs_records.specs.HeaderLaws.{data_header_from, data_header_split, data_header_again, length-data_header_text, IsDataHeader}
use Rattle.fs_records.specs.Blocks.{Payload, Full, From, Written, Known, payload_length, payload_text, data_header, record_text, is_known, IsPayload, IsWrittenRecord}
use Rattle.fs_records.specs.Rules.{payload_size, is_astray, record_at, payload_in, record_in}
use Rattle.zb_base.specs.Bytes.{AreBytes, AreBytes-drop, AreBytes-take}

-- a test that did not fail
pub unless : {A E : Type 0} (b : Bool) (e : E) (r : Result A E) (y : A) → cond b (Err e) r ≡ Ok y → (b ≡ false) × (r ≡ Ok y)
unless true e r y h = absurd cc
unless false e r y h = (refl, h)

pub not_false : (b : Bool) → not b ≡ false → b ≡ true
not_false true h = refl
not_false false h = absurd cc

either : (a b : Bool) → cond a false (not b) ≡ false → (a || b) ≡ true
either true b h = refl
either false true h = refl
either false false h = absurd cc

-- a data record is its header of 42 bytes and its payload
pub length-record_text : (place tid : ℕ) (r : Written) → length (record_text place tid r) ≡ 42 + length (payload_text r.payload)
unfolding record_text
length-record_text place tid r = omega (arith, length-append (data_header_text (data_header place tid r)) (payload_text r.payload), length-data_header_text (data_header place tid r))

-- a payload and what stands behind it
pub record PayloadTaken (known : List Known) (oid len size : ℕ) (tail : List ℕ) (p : Payload) : Type 0 where
  pub parts : tail ≡ payload_text p ++ drop size tail
  pub len_is : payload_length p ≡ len
  pub size_is : length (payload_text p) ≡ size
  pub is : IsPayload known oid p

payload_taken : (known : List Known) (knows : ℕ → ℕ → Bool) (oid len : ℕ) (tail : List ℕ) (b : Bool) → eqb len 0 ≡ b → ((at : ℕ) → knows oid at ≡ is_known known oid at) → AreBytes tail → len < 2 ^ 64 → cond b 8 len ≤ length tail
    → cond b (cond (eqb (number_in 8 tail) 0) false (not (knows oid (number_in 8 tail)))) false ≡ false
    → PayloadTaken known oid len (cond b 8 len) tail (cond b (From (number_in 8 tail)) (Full (take len tail)))
payload_taken known knows oid len tail true zero_is same fits small long leads =
    let back : number 8 (number_in 8 tail) ≡ take 8 tail = number_back_8 tail long fits in
    record {
      parts = sym (take-append-drop 8 tail) ∙ ap (λ (x : List ℕ). x ++ drop 8 tail) (sym back);
      len_is = sym (eqb-true _ _ zero_is);
      size_is = length-number 8 (number_in 8 tail);
      is = (omega (arith, number_in-lt 8 tail fits), ap (λ b. eqb (number_in 8 tail) 0 || b) (sym (same (number_in 8 tail))) ∙ either (eqb (number_in 8 tail) 0) (knows oid (number_in 8 tail)) leads);
    }
payload_taken known knows oid len tail false some same fits small long leads =
    let l : length (take len tail) ≡ len = length-take-le len tail long in
    let apart : len ≢ 0 = eqb-false _ _ some in
    record {
      parts = sym (take-append-drop len tail);
      len_is = l;
      size_is = l;
      is = (omega arith, omega arith);
    }

-- what was read is a record, and stands there
pub record IsRecordRead (known : List Known) (place tid room : ℕ) (rest : List ℕ) (oid size : ℕ) : Type 0 where
  pub oid_is : oid ≡ (record_in rest).oid
  pub fits : size ≤ room
  pub some : 0 < size
  pub size_is : size ≡ length (record_text place tid (record_in rest))
  pub parts : rest ≡ record_text place tid (record_in rest) ++ drop size rest
  pub is : IsWrittenRecord known (record_in rest)

abbrev pair : {A : Type 0} → A → Result A Field
pair x = Ok x

ok_is : {A : Type 0} (x y : A) → pair x ≡ pair y → x ≡ y
ok_is x y e = cc

pub record_takes : (known : List Known) (knows : ℕ → ℕ → Bool) (place tid room : ℕ) (rest : List ℕ) (oid size : ℕ)
    → ((oid at : ℕ) → knows oid at ≡ is_known known oid at) → AreBytes rest → room ≤ length rest
    → record_at knows place tid room rest ≡ Ok (oid, size) → IsRecordRead known place tid room rest oid size
unfolding record_at record_text data_header_of
record_takes known knows place tid room rest oid size same fits long e =
    let h : DataHeader = data_header_of rest in
    let a = unless (ltb room 42) Size _ (oid, size) e in
    let b = unless (not (eqb h.tid tid)) Serial _ (oid, size) a.1 in
    let c = unless (not (eqb h.transaction place)) Position _ (oid, size) b.1 in
    let d = unless (not (eqb h.version 0)) Version _ (oid, size) c.1 in
    let f = unless (ltb (room - 42) (payload_size h)) Size _ (oid, size) d.1 in
    let g = unless (is_astray knows h rest) Back _ (oid, size) f.1 in
    let got : ◌≡◌ {A = ℕ × ℕ} (h.oid, 42 + payload_size h) (oid, size) = ok_is (h.oid, 42 + payload_size h) (oid, size) g.1 in
    let some : 42 ≤ room = ltb-false _ _ a.0 in
    let enough : payload_size h ≤ room - 42 = ltb-false _ _ f.0 in
    let tid_is : h.tid ≡ tid = eqb-true _ _ (not_false _ b.0) in
    let place_is : h.transaction ≡ place = eqb-true _ _ (not_false _ c.0) in
    let version_is : h.version ≡ 0 = eqb-true _ _ (not_false _ d.0) in
    let oid_is : h.oid ≡ oid = ap (λ (p : ℕ × ℕ). p.0) got in
    let size_is : 42 + payload_size h ≡ size = ap (λ (p : ℕ × ℕ). p.1) got in
    let p = payload_taken known knows h.oid h.length (drop 42 rest) (eqb h.length 0) refl (same h.oid) (AreBytes-drop 42 rest fits) (omega (arith, number_in-lt 8 (drop 34 rest) (AreBytes-drop 34 rest fits))) (omega (arith, length-drop 42 rest)) g.0 in
    let header_is : data_header place tid (record_in rest) ≡ h = data_header_from h refl (sym tid_is) refl (sym place_is) (sym version_is) p.len_is in
    let split = data_header_split rest (omega arith) (AreBytes-take 42 rest fits) in
    let text_is : record_text place tid (record_in rest) ≡ data_header_text h ++ payload_text (payload_in h rest) = ap (λ (x : DataHeader). data_header_text x ++ payload_text (payload_in h rest)) header_is in
    let behind : drop size rest ≡ drop (payload_size h) (drop 42 rest) = ap (λ (n : ℕ). drop n rest) (sym size_is) ∙ sym (drop-drop (payload_size h) 42 rest) in
    record {
      oid_is = sym oid_is;
      fits = omega arith;
      some = omega arith;
      size_is = sym size_is ∙ sym (ap length text_is ∙ length-append (data_header_text h) (payload_text (payload_in h rest)) ∙ ap (λ (n : ℕ). n + length (payload_text (payload_in h rest))) (length-data_header_text h) ∙ ap (λ (n : ℕ). 42 + n) p.size_is);
      parts = split ∙ ap (λ (x : List ℕ). data_header_text h ++ x) p.parts ∙ sym (append_assoc (data_header_text h) (payload_text (payload_in h rest)) (drop (payload_size h) (drop 42 rest))) ∙ ap (λ (x : List ℕ). x ++ drop (payload_size h) (drop 42 rest)) (sym text_is) ∙ ap (λ (x : List ℕ). record_text place tid (record_in rest) ++ x) (sym behind);
      is = record { oid = omega (arith, number_in-lt 8 rest fits); previous = omega (arith, number_in-lt 8 (drop 16 rest) (AreBytes-drop 16 rest fits)); payload = p.is };
    }

eqb-same : (n : ℕ) → eqb n n ≡ true
eqb-same n = eq-eqb n n refl

-- what the rules want of the header and of what stands behind it
reads : (knows : ℕ → ℕ → Bool) (place tid room : ℕ) (rest : List ℕ) (h : DataHeader) → data_header_of rest ≡ h → h.tid ≡ tid → h.transaction ≡ place → h.version ≡ 0 → 42 + payload_size h ≤ room → is_astray knows h rest ≡ false
    → record_at knows place tid room rest ≡ Ok (h.oid, 42 + payload_size h)
unfolding record_at
reads knows place tid room rest h is tid_is place_is version_is fits leads =
    let a : ltb room 42 ≡ false = le-ltb _ _ (omega arith) in
    let f : ltb (room - 42) (payload_size h) ≡ false = le-ltb _ _ (omega arith) in
    rw (is, a, tid_is, eqb-same tid, place_is, eqb-same place, version_is, f, leads) refl

not_same : (m n : ℕ) → m ≢ n → eqb m n ≡ false
not_same m n h = by_cases (eqb m n) refl
  where
    by_cases : (b : Bool) → eqb m n ≡ b → b ≡ false
    by_cases true e = absurd (h (eqb-true m n e))
    by_cases false e = refl

-- what must lead to a record leads there
leading : (a k : Bool) → (a || k) ≡ true → cond a false (not k) ≡ false
leading true k h = refl
leading false true h = refl
leading false false h = absurd cc

-- a payload that stands there
payload_again : (known : List Known) (knows : ℕ → ℕ → Bool) (oid : ℕ) (p : Payload) (rest more : List ℕ) (h : DataHeader) → ((at : ℕ) → knows oid at ≡ is_known known oid at) → IsPayload known oid p → h.oid ≡ oid → h.length ≡ payload_length p → drop 42 rest ≡ payload_text p ++ more
    → (payload_size h ≡ length (payload_text p)) × (is_astray knows h rest ≡ false) × (payload_in h rest ≡ p)
payload_again known knows oid (Full bytes) rest more h same is oid_is len_is tail_is =
    let some : eqb (length bytes) 0 ≡ false = not_same (length bytes) 0 (omega arith) in
    rw (len_is, some, tail_is, take_at bytes more (length bytes) refl) (refl, refl, refl)
payload_again known knows oid (From at) rest more h same is oid_is len_is tail_is =
    let n : number_in 8 (number 8 at ++ more) ≡ at = number_in-number 8 at more (omega (arith, is.0)) in
    rw (len_is, tail_is, n, oid_is, same at) (sym (length-number 8 at), leading (eqb at 0) (is_known known oid at) is.1, refl)

-- a payload that may stand there has a length that fits into its field
pub payload_fits : (known : List Known) (oid : ℕ) (p : Payload) → IsPayload known oid p → payload_length p < 2 ^ 64
payload_fits known oid (Full bytes) is = is.1
payload_fits known oid (From at) is = omega arith

abbrev written : ℕ → ℕ → Payload → Written
written oid previous p = record { oid = oid; previous = previous; payload = p }

pub record_again : (known : List Known) (knows : ℕ → ℕ → Bool) (place tid room : ℕ) (r : Written) (more : List ℕ) → ((oid at : ℕ) → knows oid at ≡ is_known known oid at) → IsWrittenRecord known r → tid < 2 ^ 64 → place < 2 ^ 64 → length (record_text place tid r) ≤ room
    → (record_at knows place tid room (record_text place tid r ++ more) ≡ Ok (r.oid, length (record_text place tid r))) × (record_in (record_text place tid r ++ more) ≡ r)
unfolding record_text
record_again known knows place tid room r more same is tid_fits place_fits fits =
    let h : DataHeader = data_header place tid r in
    let p : List ℕ = payload_text r.payload in
    let rest : List ℕ = (data_header_text h ++ p) ++ more in
    let regrouped : rest ≡ data_header_text h ++ (p ++ more) = append_assoc (data_header_text h) p more in
    let header_fits : IsDataHeader h = record { oid = is.oid; tid = tid_fits; previous = is.previous; transaction = place_fits; version = omega arith; length = payload_fits known r.oid r.payload is.payload } in
    let header_is : data_header_of rest ≡ h = ap data_header_of regrouped ∙ data_header_again h (p ++ more) header_fits in
    let tail_is : drop 42 rest ≡ p ++ more = ap (drop 42) regrouped ∙ drop_at (data_header_text h) (p ++ more) 42 (length-data_header_text h) in
    let known_payload = payload_again known knows r.oid r.payload rest more h (same r.oid) is.payload refl refl tail_is in
    let size : length (data_header_text h ++ p) ≡ 42 + payload_size h = length-append (data_header_text h) p ∙ ap (λ (n : ℕ). n + length p) (length-data_header_text h) ∙ ap (λ (n : ℕ). 42 + n) (sym known_payload.0) in
    let first = reads knows place tid room rest h header_is refl refl refl (omega (arith, size)) known_payload.1 in
    let in_is : record_in rest ≡ r = ap (λ (x : DataHeader). written x.oid x.previous (payload_in x rest)) header_is ∙ ap (λ (x : Payload). written r.oid r.previous x) known_payload.2 in
    (first ∙ ap (λ (n : ℕ). pair (r.oid, n)) (sym size), in_is)

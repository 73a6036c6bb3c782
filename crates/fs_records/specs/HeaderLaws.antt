-- Headers that are written are read again, and the other way round.
use Rattle.std.proofs.Common.{◌≡◌, ℕ, ◌+◌, ◌-◌, ◌^◌, ◌<◌, ◌≤◌, List, [], ◌∷◌, ◌++◌, length, get_or, take, drop, refl, sym, ap, ◌∙◌, append_assoc, arith}
use Rattle.std.proofs.lemmas.List.{length-take, length-drop, length-append, take-append-drop, drop-drop, drop_more, drop_at, take_all, get_or-drop, get_or-take, drop-take, append-nil}
use Rattle.fs_records.specs.declared.header.Header.{Header}
use Rattle.fs_records.specs.declared.header.DataHeader.{DataHeader}
use Rattle.fs_records.specs.Numbers.{number, number_in}
use Rattle.fs_records.specs.NumberLaws.{length-number, number_in-number, number_in-take, number_in-lt, number_back_8, number_back_2}
use Rattle.fs_records.specs.Headers.{header_text, header_of, data_header_text, data_header_of}
use Rattle.zb_base.specs.Bytes.{AreBytes, AreBytes-drop}

-- the first n bytes from k on, and the rest
split_at : (k n m : ℕ) (bytes : List ℕ) → k + n ≡ m → take n (drop k bytes) ++ drop m bytes ≡ drop k bytes
split_at k n m bytes e = rw (← e) (ap (λ (x : List ℕ). take n (drop k bytes) ++ x) (sym (drop-drop n k bytes)) ∙ take-append-drop n (drop k bytes))

-- what the numbers of these widths from k on are
eight : (k m : ℕ) (bytes rest : List ℕ) → k + 8 ≡ m → m ≤ length bytes → AreBytes bytes → rest ≡ drop m bytes → number 8 (number_in 8 (drop k bytes)) ++ rest ≡ drop k bytes
eight k m bytes rest e long fits is =
    rw (number_back_8 (drop k bytes) (omega (arith, length-drop k bytes)) (AreBytes-drop k bytes fits), is) (split_at k 8 m bytes e)

two : (k m : ℕ) (bytes rest : List ℕ) → k + 2 ≡ m → m ≤ length bytes → AreBytes bytes → rest ≡ drop m bytes → number 2 (number_in 2 (drop k bytes)) ++ rest ≡ drop k bytes
two k m bytes rest e long fits is =
    rw (number_back_2 (drop k bytes) (omega (arith, length-drop k bytes)) (AreBytes-drop k bytes fits), is) (split_at k 2 m bytes e)

last_two : (k : ℕ) (bytes : List ℕ) → k + 2 ≡ length bytes → AreBytes bytes → number 2 (number_in 2 (drop k bytes)) ≡ drop k bytes
last_two k bytes e fits = number_back_2 (drop k bytes) (omega (arith, length-drop k bytes)) (AreBytes-drop k bytes fits) ∙ take_all 2 (drop k bytes) (omega (arith, length-drop k bytes))

last_eight : (k : ℕ) (bytes : List ℕ) → k + 8 ≡ length bytes → AreBytes bytes → number 8 (number_in 8 (drop k bytes)) ≡ drop k bytes
last_eight k bytes e fits = number_back_8 (drop k bytes) (omega (arith, length-drop k bytes)) (AreBytes-drop k bytes fits) ∙ take_all 8 (drop k bytes) (omega (arith, length-drop k bytes))

pub header_back : (bytes : List ℕ) → length bytes ≡ 23 → AreBytes bytes → header_text (header_of bytes) ≡ bytes
unfolding header_text header_of
header_back bytes long fits =
    let e : number 2 (number_in 2 (drop 21 bytes)) ≡ drop 21 bytes = last_two 21 bytes (omega arith) fits in
    let d = two 19 21 bytes _ refl (omega arith) fits e in
    let u = two 17 19 bytes _ refl (omega arith) fits d in
    let s : get_or bytes 16 0 ∷ _ ≡ drop 16 bytes = ap (λ (x : List ℕ). get_or bytes 16 0 ∷ x) u ∙ sym (drop_more bytes 16 0 (omega arith)) in
    let l = eight 8 16 bytes _ refl (omega arith) fits s in
    eight 0 8 bytes _ refl (omega arith) fits l

pub data_header_back : (bytes : List ℕ) → length bytes ≡ 42 → AreBytes bytes → data_header_text (data_header_of bytes) ≡ bytes
unfolding data_header_text data_header_of
data_header_back bytes long fits =
    let a = last_eight 34 bytes (omega arith) fits in
    let b = two 32 34 bytes _ refl (omega arith) fits a in
    let c = eight 24 32 bytes _ refl (omega arith) fits b in
    let d = eight 16 24 bytes _ refl (omega arith) fits c in
    let e = eight 8 16 bytes _ refl (omega arith) fits d in
    eight 0 8 bytes _ refl (omega arith) fits e

-- each number of a transaction's header fits into its field
pub record IsHeader (h : Header) : Type 0 where
  pub tid : h.tid < 2 ^ 64
  pub length : h.length < 2 ^ 64
  pub user : h.user < 2 ^ 16
  pub description : h.description < 2 ^ 16
  pub extension : h.extension < 2 ^ 16

pub length-header_text : (h : Header) → length (header_text h) ≡ 23
unfolding header_text
length-header_text h = simp (length-append, length-number) (omega (arith, length-number 8 h.tid, length-number 8 h.length, length-number 2 h.user, length-number 2 h.description, length-number 2 h.extension))

drop_number : (n x : ℕ) (rest : List ℕ) → drop n (number n x ++ rest) ≡ rest
drop_number n x rest = drop_at (number n x) rest n (length-number n x)

-- one number further
further : (k n m x : ℕ) (all rest : List ℕ) → k + n ≡ m → drop k all ≡ number n x ++ rest → drop m all ≡ rest
further k n m x all rest e is = rw (← e) (sym (drop-drop n k all) ∙ ap (drop n) is ∙ drop_number n x rest)

pub header_from : (h : Header) {t l s u d e : ℕ} → t ≡ h.tid → l ≡ h.length → s ≡ h.status → u ≡ h.user → d ≡ h.description → e ≡ h.extension
    → let made : Header = record { tid = t; length = l; status = s; user = u; description = d; extension = e } in made ≡ h
header_from h p q r s t u = rw (p, q, r, s, t, u) refl

pub header_again : (h : Header) (rest : List ℕ) → IsHeader h → header_of (header_text h ++ rest) ≡ h
unfolding header_text header_of
header_again h rest fits =
    let all : List ℕ = header_text h ++ rest in
    let t4 = number 2 h.extension ++ rest in
    let t3 = number 2 h.description ++ t4 in
    let t2 = number 2 h.user ++ t3 in
    let t1 : List ℕ = h.status ∷ t2 in
    let t0 = number 8 h.length ++ t1 in
    let r0 : all ≡ number 8 h.tid ++ t0 = simp append_assoc in
    let r8 : drop 8 all ≡ t0 = further 0 8 8 h.tid all t0 refl r0 in
    let r16 : drop 16 all ≡ t1 = further 8 8 16 h.length all t1 refl r8 in
    let r17 : drop 17 all ≡ t2 = sym (drop-drop 1 16 all) ∙ ap (drop 1) r16 in
    let r19 : drop 19 all ≡ t3 = further 17 2 19 h.user all t3 refl r17 in
    let r21 : drop 21 all ≡ t4 = further 19 2 21 h.description all t4 refl r19 in
    let a : number_in 8 all ≡ h.tid = ap (number_in 8) r0 ∙ number_in-number 8 h.tid t0 (omega (arith, fits.tid)) in
    let b : number_in 8 (drop 8 all) ≡ h.length = ap (number_in 8) r8 ∙ number_in-number 8 h.length t1 (omega (arith, fits.length)) in
    let c : get_or all 16 0 ≡ h.status = sym (get_or-drop 16 all 0 0) ∙ ap (λ (x : List ℕ). get_or x 0 0) r16 in
    let d : number_in 2 (drop 17 all) ≡ h.user = ap (number_in 2) r17 ∙ number_in-number 2 h.user t3 (omega (arith, fits.user)) in
    let e : number_in 2 (drop 19 all) ≡ h.description = ap (number_in 2) r19 ∙ number_in-number 2 h.description t4 (omega (arith, fits.description)) in
    let f : number_in 2 (drop 21 all) ≡ h.extension = ap (number_in 2) r21 ∙ number_in-number 2 h.extension rest (omega (arith, fits.extension)) in
    header_from h a b c d e f

-- each number of a data record's header fits into its field
pub record IsDataHeader (h : DataHeader) : Type 0 where
  pub oid : h.oid < 2 ^ 64
  pub tid : h.tid < 2 ^ 64
  pub previous : h.previous < 2 ^ 64
  pub transaction : h.transaction < 2 ^ 64
  pub version : h.version < 2 ^ 16
  pub length : h.length < 2 ^ 64

pub data_header_from : (h : DataHeader) {o t p a v l : ℕ} → o ≡ h.oid → t ≡ h.tid → p ≡ h.previous → a ≡ h.transaction → v ≡ h.version → l ≡ h.length
    → let made : DataHeader = record { oid = o; tid = t; previous = p; transaction = a; version = v; length = l } in made ≡ h
data_header_from h p q r s t u = rw (p, q, r, s, t, u) refl

pub length-data_header_text : (h : DataHeader) → length (data_header_text h) ≡ 42
unfolding data_header_text
length-data_header_text h = simp (length-append, length-number) refl

pub data_header_again : (h : DataHeader) (rest : List ℕ) → IsDataHeader h → data_header_of (data_header_text h ++ rest) ≡ h
unfolding data_header_text data_header_of
data_header_again h rest fits =
    let all : List ℕ = data_header_text h ++ rest in
    let t4 = number 8 h.length ++ rest in
    let t3 = number 2 h.version ++ t4 in
    let t2 = number 8 h.transaction ++ t3 in
    let t1 = number 8 h.previous ++ t2 in
    let t0 = number 8 h.tid ++ t1 in
    let r0 : all ≡ number 8 h.oid ++ t0 = simp append_assoc in
    let r8 : drop 8 all ≡ t0 = further 0 8 8 h.oid all t0 refl r0 in
    let r16 : drop 16 all ≡ t1 = further 8 8 16 h.tid all t1 refl r8 in
    let r24 : drop 24 all ≡ t2 = further 16 8 24 h.previous all t2 refl r16 in
    let r32 : drop 32 all ≡ t3 = further 24 8 32 h.transaction all t3 refl r24 in
    let r34 : drop 34 all ≡ t4 = further 32 2 34 h.version all t4 refl r32 in
    data_header_from h
    (ap (number_in 8) r0 ∙ number_in-number 8 h.oid t0 (omega (arith, fits.oid)))
    (ap (number_in 8) r8 ∙ number_in-number 8 h.tid t1 (omega (arith, fits.tid)))
    (ap (number_in 8) r16 ∙ number_in-number 8 h.previous t2 (omega (arith, fits.previous)))
    (ap (number_in 8) r24 ∙ number_in-number 8 h.transaction t3 (omega (arith, fits.transaction)))
    (ap (number_in 2) r32 ∙ number_in-number 2 h.version t4 (omega (arith, fits.version)))
    (ap (number_in 8) r34 ∙ number_in-number 8 h.length rest (omega (arith, fits.length)))

-- a header reads its own bytes alone
part : (n k m : ℕ) (bytes : List ℕ) → k + n ≤ m → number_in n (drop k (take m bytes)) ≡ number_in n (drop k bytes)
part n k m bytes h =
    let e : k + (m - k) ≡ m = omega arith in
    ap (λ (j : ℕ). number_in n (drop k (take j bytes))) (sym e) ∙ ap (number_in n) (drop-take k (m - k) bytes) ∙ number_in-take n (m - k) (drop k bytes) (omega arith)

pub data_header_of-take : (bytes : List ℕ) → data_header_of (take 42 bytes) ≡ data_header_of bytes
unfolding data_header_of
data_header_of-take bytes =
    data_header_from (data_header_of bytes) (part 8 0 42 bytes (omega arith)) (part 8 8 42 bytes (omega arith)) (part 8 16 42 bytes (omega arith)) (part 8 24 42 bytes (omega arith)) (part 2 32 42 bytes (omega arith)) (part 8 34 42 bytes (omega arith))

pub header_of-take : (bytes : List ℕ) → header_of (take 23 bytes) ≡ header_of bytes
unfolding header_of
header_of-take bytes =
    header_from (header_of bytes) (part 8 0 23 bytes (omega arith)) (part 8 8 23 bytes (omega arith)) (get_or-take 23 bytes 16 0 (omega arith)) (part 2 17 23 bytes (omega arith)) (part 2 19 23 bytes (omega arith)) (part 2 21 23 bytes (omega arith))

-- a header and what stands behind it
pub data_header_split : (bytes : List ℕ) → 42 ≤ length bytes → AreBytes (take 42 bytes) → bytes ≡ data_header_text (data_header_of bytes) ++ drop 42 bytes
data_header_split bytes long fits =
    let front : data_header_text (data_header_of bytes) ≡ take 42 bytes = ap data_header_text (sym (data_header_of-take bytes)) ∙ data_header_back (take 42 bytes) (omega (arith, length-take 42 bytes)) fits in
    sym (take-append-drop 42 bytes) ∙ ap (λ (x : List ℕ). x ++ drop 42 bytes) (sym front)

pub header_split : (bytes : List ℕ) → 23 ≤ length bytes → AreBytes (take 23 bytes) → bytes ≡ header_text (header_of bytes) ++ drop 23 bytes
header_split bytes long fits =
    let front : header_text (header_of bytes) ≡ take 23 bytes = ap header_text (sym (header_of-take bytes)) ∙ header_back (take 23 bytes) (omega (arith, length-take 23 bytes)) fits in
    sym (take-append-drop 23 bytes) ∙ ap (λ (x : List ℕ). x ++ drop 23 bytes) (sym front)

-- numbers of their widths
pub header_small : (bytes : List ℕ) → AreBytes bytes → IsHeader (header_of bytes)
unfolding header_of
header_small bytes fits = record {
  tid = number_in-lt 8 bytes fits;
  length = number_in-lt 8 (drop 8 bytes) (AreBytes-drop 8 bytes fits);
  user = number_in-lt 2 (drop 17 bytes) (AreBytes-drop 17 bytes fits);
  description = number_in-lt 2 (drop 19 bytes) (AreBytes-drop 19 bytes fits);
  extension = number_in-lt 2 (drop 21 bytes) (AreBytes-drop 21 bytes fits);
}

-- what is written is read again
pub header_same : (h : Header) → IsHeader h → header_of (header_text h) ≡ h
header_same h fits = ap header_of (sym (append-nil (header_text h))) ∙ header_again h [] fits

pub data_header_same : (h : DataHeader) → IsDataHeader h → data_header_of (data_header_text h) ≡ h
data_header_same h fits = ap data_header_of (sym (append-nil (data_header_text h))) ∙ data_header_again h [] fits

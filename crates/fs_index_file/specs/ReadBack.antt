-- What is written as an index file is read again.
use Rattle.std.proofs.Common.{◌≡◌, ℕ, ◌+◌, ◌*◌, ◌^◌, ◌<◌, List, [], ◌∷◌, ◌++◌, length, get_or, drop, refl, sym, ap, ◌∙◌, append_assoc, arith}
use Rattle.std.specs.List.{AllByRecursion, flat_map}
use Rattle.std.proofs.lemmas.List.{append-nil, drop-drop, drop_at, get_or-drop}
use Rattle.fs_index.specs.declared.place.Placed.{Placed}
use Rattle.fs_records.specs.Numbers.{number, number_in}
use Rattle.fs_records.specs.NumberLaws.{length-number, number_in-number}
use Rattle.fs_index_file.specs.declared.entries.Head.{Head}
use Rattle.fs_index_file.specs.declared.entries.Start.{Start}
use Rattle.fs_index_file.specs.Hints.{AreSmall, Entries, IsSmallRecord, IsSmallStart, entries_in, head_of, hint_text, record_of, record_text, records_in, rest_text, start_of, start_text, starts_in}

-- ---- one entry

drop_number : (n x : ℕ) (rest : List ℕ) → drop n (number n x ++ rest) ≡ rest
drop_number n x rest = drop_at (number n x) rest n (length-number n x)

-- one number further
further : (k m x : ℕ) (all rest : List ℕ) → k + 8 ≡ m → drop k all ≡ number 8 x ++ rest → drop m all ≡ rest
further k m x all rest e is = rw (← e) (sym (drop-drop 8 k all) ∙ ap (drop 8) is ∙ drop_number 8 x rest)

number_there : (k x : ℕ) (all rest : List ℕ) → x < 2 ^ 64 → drop k all ≡ number 8 x ++ rest → number_in 8 (drop k all) ≡ x
number_there k x all rest small is = ap (number_in 8) is ∙ number_in-number 8 x rest (omega (arith, small))

start_from : (s : Start) {t p c : ℕ} → t ≡ s.place.serial → p ≡ s.place.at → c ≡ s.status → let made : Start = record { place = record { serial = t; at = p }; status = c } in made ≡ s
start_from s a b c = rw (a, b, c) refl

record_from : (r : Placed) {o t p : ℕ} → o ≡ r.oid → t ≡ r.place.serial → p ≡ r.place.at → let made : Placed = record { oid = o; place = record { serial = t; at = p } } in made ≡ r
record_from r a b c = rw (a, b, c) refl

start_parts : (s : Start) (rest : List ℕ) → start_text s ++ rest ≡ number 8 s.place.serial ++ (number 8 s.place.at ++ (s.status ∷ rest))
unfolding start_text
start_parts s rest = append_assoc (number 8 s.place.serial) (number 8 s.place.at ++ s.status ∷ []) rest ∙ ap (λ (x : List ℕ). number 8 s.place.serial ++ x) (append_assoc (number 8 s.place.at) (s.status ∷ []) rest)

record_parts : (r : Placed) (rest : List ℕ) → record_text r ++ rest ≡ number 8 r.oid ++ (number 8 r.place.serial ++ (number 8 r.place.at ++ rest))
unfolding record_text
record_parts r rest = append_assoc (number 8 r.oid) (number 8 r.place.serial ++ number 8 r.place.at) rest ∙ ap (λ (x : List ℕ). number 8 r.oid ++ x) (append_assoc (number 8 r.place.serial) (number 8 r.place.at) rest)

start_again : (s : Start) (all rest : List ℕ) → IsSmallStart s → all ≡ start_text s ++ rest → start_of all ≡ s
unfolding start_of
start_again s all rest small is =
    let p0 : drop 0 all ≡ number 8 s.place.serial ++ (number 8 s.place.at ++ (s.status ∷ rest)) = is ∙ start_parts s rest in
    let p8 = further 0 8 s.place.serial all (number 8 s.place.at ++ (s.status ∷ rest)) refl p0 in
    let p16 = further 8 16 s.place.at all (s.status ∷ rest) refl p8 in
    start_from s (number_there 0 s.place.serial all _ small.0 p0) (number_there 8 s.place.at all _ small.1 p8) (sym (get_or-drop 16 all 0 0) ∙ ap (λ (x : List ℕ). get_or x 0 0) p16)

start_behind : (s : Start) (all rest : List ℕ) → all ≡ start_text s ++ rest → drop 17 all ≡ rest
start_behind s all rest is =
    let p0 : drop 0 all ≡ number 8 s.place.serial ++ (number 8 s.place.at ++ (s.status ∷ rest)) = is ∙ start_parts s rest in
    let p8 = further 0 8 s.place.serial all (number 8 s.place.at ++ (s.status ∷ rest)) refl p0 in
    let p16 = further 8 16 s.place.at all (s.status ∷ rest) refl p8 in
    sym (drop-drop 1 16 all) ∙ ap (drop 1) p16

record_again : (r : Placed) (all rest : List ℕ) → IsSmallRecord r → all ≡ record_text r ++ rest → record_of all ≡ r
unfolding record_of
record_again r all rest small is =
    let p0 : drop 0 all ≡ number 8 r.oid ++ (number 8 r.place.serial ++ (number 8 r.place.at ++ rest)) = is ∙ record_parts r rest in
    let p8 = further 0 8 r.oid all (number 8 r.place.serial ++ (number 8 r.place.at ++ rest)) refl p0 in
    let p16 = further 8 16 r.place.serial all (number 8 r.place.at ++ rest) refl p8 in
    record_from r (number_there 0 r.oid all _ small.0 p0) (number_there 8 r.place.serial all _ small.1 p8) (number_there 16 r.place.at all _ small.2 p16)

record_behind : (r : Placed) (all rest : List ℕ) → all ≡ record_text r ++ rest → drop 24 all ≡ rest
record_behind r all rest is =
    let p0 : drop 0 all ≡ number 8 r.oid ++ (number 8 r.place.serial ++ (number 8 r.place.at ++ rest)) = is ∙ record_parts r rest in
    let p8 = further 0 8 r.oid all (number 8 r.place.serial ++ (number 8 r.place.at ++ rest)) refl p0 in
    let p16 = further 8 16 r.place.serial all (number 8 r.place.at ++ rest) refl p8 in
    further 16 24 r.place.at all rest refl p16

-- ---- all of them

starts_again : (ss : List Start) (all rest : List ℕ) → AllByRecursion IsSmallStart ss → all ≡ flat_map start_text ss ++ rest → starts_in (length ss) all ≡ ss
starts_again [] all rest small is = refl
starts_again (s ∷ ss) all rest small is =
    let here : all ≡ start_text s ++ (flat_map start_text ss ++ rest) = is ∙ append_assoc (start_text s) (flat_map start_text ss) rest in
    ap (λ (x : Start). x ∷ starts_in (length ss) (drop 17 all)) (start_again s all (flat_map start_text ss ++ rest) small.0 here)
    ∙ ap (λ (xs : List Start). s ∷ xs) (starts_again ss (drop 17 all) rest small.1 (start_behind s all (flat_map start_text ss ++ rest) here))

starts_behind : (ss : List Start) (all rest : List ℕ) → all ≡ flat_map start_text ss ++ rest → drop (17 * length ss) all ≡ rest
starts_behind [] all rest is = is
starts_behind (s ∷ ss) all rest is =
    let here : all ≡ start_text s ++ (flat_map start_text ss ++ rest) = is ∙ append_assoc (start_text s) (flat_map start_text ss) rest in
    let e : 17 * length (s ∷ ss) ≡ 17 + 17 * length ss = omega arith in
    ap (λ (n : ℕ). drop n all) e ∙ sym (drop-drop (17 * length ss) 17 all) ∙ starts_behind ss (drop 17 all) rest (start_behind s all (flat_map start_text ss ++ rest) here)

records_again : (rs : List Placed) (all rest : List ℕ) → AllByRecursion IsSmallRecord rs → all ≡ flat_map record_text rs ++ rest → records_in (length rs) all ≡ rs
records_again [] all rest small is = refl
records_again (r ∷ rs) all rest small is =
    let here : all ≡ record_text r ++ (flat_map record_text rs ++ rest) = is ∙ append_assoc (record_text r) (flat_map record_text rs) rest in
    ap (λ (x : Placed). x ∷ records_in (length rs) (drop 24 all)) (record_again r all (flat_map record_text rs ++ rest) small.0 here)
    ∙ ap (λ (xs : List Placed). r ∷ xs) (records_again rs (drop 24 all) rest small.1 (record_behind r all (flat_map record_text rs ++ rest) here))

-- ---- the whole

record Parts (e : Entries) (all : List ℕ) : Type 0 where
  p1 : drop 1 all ≡ number 8 e.end ++ (number 8 (length e.starts) ++ (number 8 (length e.records) ++ (flat_map start_text e.starts ++ flat_map record_text e.records)))
  p9 : drop 9 all ≡ number 8 (length e.starts) ++ (number 8 (length e.records) ++ (flat_map start_text e.starts ++ flat_map record_text e.records))
  p17 : drop 17 all ≡ number 8 (length e.records) ++ (flat_map start_text e.starts ++ flat_map record_text e.records)
  p25 : drop 25 all ≡ flat_map start_text e.starts ++ flat_map record_text e.records
  gate : get_or all 0 0 ≡ 1

parts : (e : Entries) → Parts e (hint_text e)
unfolding rest_text
parts e =
    let all = hint_text e in
    let t25 = flat_map start_text e.starts ++ flat_map record_text e.records in
    let t17 = number 8 (length e.records) ++ t25 in
    let t9 = number 8 (length e.starts) ++ t17 in
    let q9 = further 1 9 e.end all t9 refl refl in
    let q17 = further 9 17 (length e.starts) all t17 refl q9 in
    record { p1 = refl; p9 = q9; p17 = q17; p25 = further 17 25 (length e.records) all t25 refl q17; gate = refl }

head_from : (h : Head) {g e s r : ℕ} → g ≡ h.gate → e ≡ h.end → s ≡ h.starts → r ≡ h.records → let made : Head = record { gate = g; end = e; starts = s; records = r } in made ≡ h
head_from h a b c d = rw (a, b, c, d) refl

abbrev pub head_for : Entries → Head
head_for e = record { gate = 1; end = e.end; starts = length e.starts; records = length e.records }

pub head_again : (e : Entries) → AreSmall e → head_of (hint_text e) ≡ head_for e
unfolding head_of
head_again e small =
    let p = parts e in
    let all = hint_text e in
    head_from (head_for e) p.gate (number_there 1 e.end all _ small.end p.p1) (number_there 9 (length e.starts) all _ small.count_starts p.p9) (number_there 17 (length e.records) all _ small.count_records p.p17)

-- the entries of an index file are those that it was written with
pub entries_again : (e : Entries) → AreSmall e → entries_in (hint_text e) ≡ e
unfolding entries_in
entries_again e small =
    let p = parts e in
    let all = hint_text e in
    let is = head_again e small in
    let starts : starts_in (head_of all).starts (drop 25 all) ≡ e.starts = ap (λ (h : Head). starts_in h.starts (drop 25 all)) is ∙ starts_again e.starts (drop 25 all) (flat_map record_text e.records) small.starts p.p25 in
    let place : drop (25 + 17 * (head_of all).starts) all ≡ flat_map record_text e.records =
    ap (λ (h : Head). drop (25 + 17 * h.starts) all) is ∙ sym (drop-drop (17 * length e.starts) 25 all) ∙ starts_behind e.starts (drop 25 all) (flat_map record_text e.records) p.p25 in
    let records : records_in (head_of all).records (drop (25 + 17 * (head_of all).starts) all) ≡ e.records =
    ap (λ (h : Head). records_in h.records (drop (25 + 17 * (head_of all).starts) all)) is ∙ records_again e.records (drop (25 + 17 * (head_of all).starts) all) [] small.records (place ∙ sym (append-nil (flat_map record_text e.records))) in
    entries_from e (ap (λ (h : Head). h.end) is) starts records
  where
    entries_from : (e : Entries) {n : ℕ} {ss : List Start} {rs : List Placed} → n ≡ e.end → ss ≡ e.starts → rs ≡ e.records → let made : Entries = record { end = n; starts = ss; records = rs } in made ≡ e
    entries_from e a b c = rw (a, b, c) refl

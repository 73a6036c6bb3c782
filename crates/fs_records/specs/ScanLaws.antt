-- One record more.
use Rattle.std.proofs.Common.{◌≡◌, ℕ, ◌+◌, ◌-◌, ◌<◌, ◌≤◌, Bool, true, false, cond, eqb, List, [], ◌∷◌, ◌++◌, length, map, filter, All, drop, Ok, Err, refl, sym, ap, subst, ◌∙◌, append_assoc, arith}
use Rattle.std.specs.Prelude.{◌||◌, ◌&&◌}
use Rattle.std.specs.List.{list_any}
use Rattle.std.proofs.lemmas.List.{append-nil, length-append, length-drop, drop-drop}
use Rattle.std.proofs.lemmas.List.Elements.{All-weaker, All-push}
use Rattle.fs_records.specs.declared.field.Field.{Field}
use Rattle.fs_index.specs.declared.place.Place.{Place}
use Rattle.zb_base.specs.Bytes.{AreBytes}
use Rattle.fs_records.specs.Blocks.{Known, Written, AreWritten, IsWrittenRecord, with_record, with_records, records_text, record_text, is_known}
use Rattle.fs_records.specs.Rules.{AreRecordsBetween, record_at, record_in}
use Rattle.fs_records.specs.File.{RecordFault}
use Rattle.fs_index.specs.Places.{PlacesKept, IsBefore, Added, places_in, knows, AreBefore}
use Rattle.fs_records.specs.Indexed.{place_of, places_of, is_of, ArePlacesOf}
use Rattle.fs_records.specs.RecordLaws.{record_takes}
use Rattle.fs_records.specs.Scan.{RecordsIndexed}

pub record_at-same : (f g : ℕ → ℕ → Bool) (place tid room : ℕ) (rest : List ℕ) → ((oid at : ℕ) → f oid at ≡ g oid at) → record_at f place tid room rest ≡ record_at g place tid room rest
unfolding record_at
record_at-same f g place tid room rest h = simp h refl

any_place : (known : List Known) (oid at : ℕ) → list_any (λ (p : Place). eqb p.at at) (places_of oid known) ≡ is_known known oid at
any_place [] oid at = refl
any_place (k ∷ ks) oid at = by_cases (eqb oid k.oid) (any_place ks oid at)
  where
    by_cases : (b : Bool) → list_any (λ (p : Place). eqb p.at at) (places_of oid ks) ≡ is_known ks oid at → list_any (λ (p : Place). eqb p.at at) (map place_of (cond b (k ∷ filter (is_of oid) ks) (filter (is_of oid) ks))) ≡ ((b && eqb k.place at) || is_known ks oid at)
    by_cases true e = ap (λ b. eqb k.place at || b) e
    by_cases false e = e

-- an index knows a record exactly where one was read
pub knows_is : (known : List Known) (entries : List (ℕ × PlacesKept)) → ArePlacesOf known entries → (oid at : ℕ) → knows entries oid at ≡ is_known known oid at
knows_is known entries h oid at = ap (λ (ps : List Place). list_any (λ (p : Place). eqb p.at at) ps) (h oid) ∙ any_place known oid at

pub places_of-push : (oid : ℕ) (known : List Known) (k : Known) → places_of oid (known ++ k ∷ []) ≡ cond (eqb oid k.oid) (places_of oid known ++ place_of k ∷ []) (places_of oid known)
places_of-push oid [] k = by_cases (eqb oid k.oid)
  where
    by_cases : (b : Bool) → map place_of (cond b (k ∷ []) []) ≡ cond b (place_of k ∷ []) []
    by_cases true = refl
    by_cases false = refl
places_of-push oid (x ∷ xs) k = by_cases (eqb oid x.oid) (eqb oid k.oid) (places_of-push oid xs k)
  where
    by_cases : (a b : Bool) → places_of oid (xs ++ k ∷ []) ≡ cond b (places_of oid xs ++ place_of k ∷ []) (places_of oid xs)
        → map place_of (cond a (x ∷ filter (is_of oid) (xs ++ k ∷ [])) (filter (is_of oid) (xs ++ k ∷ []))) ≡ cond b (map place_of (cond a (x ∷ filter (is_of oid) xs) (filter (is_of oid) xs)) ++ place_of k ∷ []) (map place_of (cond a (x ∷ filter (is_of oid) xs) (filter (is_of oid) xs)))
    by_cases true true e = ap (λ (ps : List Place). place_of x ∷ ps) e
    by_cases true false e = ap (λ (ps : List Place). place_of x ∷ ps) e
    by_cases false true e = e
    by_cases false false e = e

-- an index with the place of one record more
pub index_more : (known : List Known) (old new : List (ℕ × PlacesKept)) (k : Known) → ArePlacesOf known old → Added old k.oid (place_of k) new → ArePlacesOf (known ++ k ∷ []) new
index_more known old new k is added o =
    added o ∙ ap (λ (ps : List Place). cond (eqb o k.oid) (ps ++ place_of k ∷ []) ps) (is o) ∙ sym (places_of-push o known k)

-- all places are before the end of what was added
pub before_more : (old new : List (ℕ × PlacesKept)) (oid tid q size : ℕ) → 0 < size → AreBefore old tid q → Added old oid (record { serial = tid; at = q }) new → AreBefore new tid (q + size)
before_more old new oid tid q size some before added o =
    let place : Place = record { serial = tid; at = q } in
    let weaker = All-weaker (IsBefore tid q) (IsBefore tid (q + size)) (λ p h. (h.0, omega (arith, h.1))) (places_in old o) (before o) in
    let more = All-push (IsBefore tid (q + size)) (places_in old o) place weaker (omega arith, omega arith) in
    let P : Bool → Type 0 = λ b. All (IsBefore tid (q + size)) (cond b (places_in old o ++ place ∷ []) (places_in old o)) in
    subst (λ (ps : List Place). All (IsBefore tid (q + size)) ps) (sym (added o)) (elim (eqb o oid) as P [ true ↦ more | false ↦ weaker ])

-- ---- one record more

AreWritten-push : (known : List Known) (place tid q : ℕ) (rs : List Written) (r : Written) → AreWritten known place tid q rs → IsWrittenRecord (with_records known place tid q rs) r → AreWritten known place tid q (rs ++ r ∷ [])
AreWritten-push known place tid q [] r h one = (one, tt)
AreWritten-push known place tid q (x ∷ xs) r h one = (h.0, AreWritten-push (with_record known tid q x) place tid (q + length (record_text place tid x)) xs r h.1 one)

records_text-push : (place tid : ℕ) (rs : List Written) (r : Written) → records_text place tid (rs ++ r ∷ []) ≡ records_text place tid rs ++ record_text place tid r
records_text-push place tid [] r = append-nil (record_text place tid r)
records_text-push place tid (x ∷ xs) r = ap (λ (t : List ℕ). record_text place tid x ++ t) (records_text-push place tid xs r) ∙ sym (append_assoc (record_text place tid x) (records_text place tid xs) (record_text place tid r))

-- the first fault
pub fault_found : (bytes : List ℕ) (known : List Known) (place tid from q end : ℕ) (field : Field) (entries : List (ℕ × PlacesKept)) → q < end → Err field ≡ record_at (knows entries) place tid (end - q) (drop q bytes)
    → RecordsIndexed bytes known place tid from q entries → RecordFault bytes known place tid from end q field
fault_found bytes known place tid from q end field entries before fault so_far = record {
  records = so_far.records;
  stand = so_far.stand;
  before = before;
  fault = sym (fault ∙ record_at-same (knows entries) (is_known (with_records known place tid from so_far.records)) place tid (end - q) (drop q bytes) (knows_is (with_records known place tid from so_far.records) entries so_far.index));
}

-- the same without an index
pub stand_more : (bytes : List ℕ) (known : List Known) (place tid from q end oid size : ℕ) (rs : List Written) → AreBytes (drop q bytes) → end ≤ length bytes → q ≤ end
    → AreRecordsBetween bytes known place tid from q rs → record_at (is_known (with_records known place tid from rs)) place tid (end - q) (drop q bytes) ≡ Ok (oid, size)
    → AreRecordsBetween bytes known place tid from (q + size) (rs ++ record_in (drop q bytes) ∷ []) × (0 < size) × (size ≤ end - q)
stand_more bytes known place tid from q end oid size rs fits within order stand read =
    let r = record_in (drop q bytes) in
    let known_now = with_records known place tid from rs in
    let t = record_takes known_now (is_known known_now) place tid (end - q) (drop q bytes) oid size (λ o a. refl) fits (omega (arith, length-drop q bytes)) read in
    let text = record_text place tid r in
    let pushed = records_text-push place tid rs r in (
      record {
        written = AreWritten-push known place tid from rs r stand.written t.is;
        parts = stand.parts ∙ ap (λ (x : List ℕ). records_text place tid rs ++ x) (t.parts ∙ ap (λ (x : List ℕ). text ++ x) (drop-drop size q bytes)) ∙ sym (append_assoc (records_text place tid rs) text (drop (q + size) bytes)) ∙ ap (λ (x : List ℕ). x ++ drop (q + size) bytes) (sym pushed);
        next = omega (arith, stand.next, t.size_is, ap length pushed, length-append (records_text place tid rs) text);
      },
      t.some,
      t.fits,
    )

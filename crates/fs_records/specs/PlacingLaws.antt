-- The places of the data records of a new transaction, and what was read with it, for the proofs of those who write one.
use Rattle.std.proofs.Common.{◌≡◌, ℕ, suc, ◌+◌, ◌<◌, ◌≤◌, Bool, true, false, cond, eqb, List, [], ◌∷◌, ◌++◌, length, map, filter, All, refl, sym, ap, ◌∙◌, append_assoc, arith}
use Rattle.std.proofs.lemmas.List.{length-append, append-nil, map-append}
use Rattle.std.proofs.lemmas.List.Elements.{filter-append, All-weaker, All-nil, All-cons, All-head, All-tail}
use Rattle.zb_model.specs.declared.new_transaction.NewContent.{NewContent}
use Rattle.zb_model.specs.declared.new_transaction.NewContent.TheVariants as new_content
use Rattle.zb_model.specs.declared.new_transaction.NewChange.{NewChange}
use Rattle.zb_model.specs.declared.new_transaction.NewTransaction.{NewTransaction}
use Rattle.fs_index.specs.declared.place.Place.{Place}
use Rattle.fs_index.specs.declared.place.Placed.{Placed}
use Rattle.fs_records.specs.Blocks.{Known, Written, records_text, records_from, block_text, with_record, with_records, known_at}
use Rattle.fs_index.specs.Places.{PlacesKept, is_placed, placed_of, places_in, oids_placed, IsBefore, AreBefore, StandBehind}
use Rattle.fs_records.specs.Indexed.{place_of, is_of, places_of}
use Rattle.fs_records.specs.WriteLaws.{length-block_text}
use Rattle.fs_records.specs.Writing.{written_of, block_of, record_size, records_size}
use Rattle.fs_records.specs.SizeLaws.{record_long, records_long}
use Rattle.fs_records.specs.Placing.{placed_from, placed_end}

-- ---- the places

-- they are of the objects that change
pub oids_from : (tid q : ℕ) (cs : List NewChange) → oids_placed (placed_from tid q cs) ≡ map (λ (c : NewChange). c.oid) cs
oids_from tid q [] = refl
oids_from tid q (c ∷ cs) = ap (λ (oids : List ℕ). c.oid ∷ oids) (oids_from tid (q + record_size c.content) cs)

pub length_placed : (tid q : ℕ) (cs : List NewChange) → length (placed_from tid q cs) ≡ length cs
length_placed tid q [] = refl
length_placed tid q (c ∷ cs) = ap (λ (n : ℕ). suc n) (length_placed tid (q + record_size c.content) cs)

grows : (content : NewContent) → 0 < record_size content
grows (new_content.Bytes bytes) = omega arith
grows new_content.Absent = omega arith
grows (new_content.AsOf serial) = omega arith

pub end_behind : (q : ℕ) (cs : List NewChange) → q ≤ placed_end q cs
end_behind q [] = omega arith
end_behind q (c ∷ cs) = omega (arith, end_behind (q + record_size c.content) cs)

-- a data record of this transaction, between two places
abbrev pub IsRecordOf : ℕ → ℕ → ℕ → Placed → Type 0
IsRecordOf tid from to p = (p.place.serial ≡ tid) × (from ≤ p.place.at) × (p.place.at < to)

pub records_between : (tid from to q : ℕ) (cs : List NewChange) → from ≤ q → placed_end q cs ≤ to → All (IsRecordOf tid from to) (placed_from tid q cs)
records_between tid from to q [] behind within = All-nil (IsRecordOf tid from to)
records_between tid from to q (c ∷ cs) behind within =
    All-cons (IsRecordOf tid from to) (record { oid = c.oid; place = record { serial = tid; at = q } }) (placed_from tid (q + record_size c.content) cs)
    (refl, behind, omega (arith, grows c.content, end_behind (q + record_size c.content) cs, within)) (records_between tid from to (q + record_size c.content) cs (omega (arith, behind)) within)

-- what stands before a place, of no later transaction, stands before a later one
pub further : (newest end tid to : ℕ) (ps : List Place) → newest ≤ tid → end ≤ to → All (IsBefore newest end) ps → All (IsBefore tid to) ps
further newest end tid to ps above behind all = All-weaker (IsBefore newest end) (IsBefore tid to) (λ p h. (omega (arith, h.0, above), omega (arith, h.1, behind))) ps all

-- they stand behind what is kept before the first of them
pub placed_behind : (entries : List (ℕ × PlacesKept)) (newest end tid to : ℕ) (ps : List Placed) → newest ≤ tid → AreBefore entries newest end → All (IsRecordOf tid end to) ps → StandBehind entries ps
placed_behind entries newest end tid to ps above before all =
    All-weaker (IsRecordOf tid end to) (λ (p : Placed). All (IsBefore p.place.serial p.place.at) (places_in entries p.oid))
    (λ p h. further newest end p.place.serial p.place.at (places_in entries p.oid) (omega (arith, h.0, above)) h.1 (before p.oid)) ps all

-- those of one object lie before the end
pub placed_before : (oid tid from to : ℕ) (ps : List Placed) → All (IsRecordOf tid from to) ps → All (IsBefore tid to) (placed_of oid ps)
placed_before oid tid from to [] all = All-nil (IsBefore tid to)
placed_before oid tid from to (p ∷ ps) all = by_cases (eqb oid p.oid) (placed_before oid tid from to ps (All-tail (IsRecordOf tid from to) p ps all))
  where
    by_cases : (b : Bool) → All (IsBefore tid to) (placed_of oid ps) → All (IsBefore tid to) (map (λ (q : Placed). q.place) (cond b (p ∷ filter (is_placed oid) ps) (filter (is_placed oid) ps)))
    by_cases true rest = let h = All-head (IsRecordOf tid from to) p ps all in All-cons (IsBefore tid to) p.place (placed_of oid ps) (omega (arith, h.0), h.2) rest
    by_cases false rest = rest

-- ---- the text

sized : (q : ℕ) (cs : List NewChange) → placed_end q cs ≡ q + records_size cs
sized q [] = omega arith
sized q (c ∷ cs) = omega (arith, sized (q + record_size c.content) cs)

records_end : (entries : List (ℕ × PlacesKept)) (place tid q : ℕ) (cs : List NewChange) → placed_end q cs ≡ q + length (records_text place tid (map (written_of entries) cs))
records_end entries place tid q cs = omega (arith, sized q cs, records_long entries place tid cs)

-- the data records end eight bytes before the text does
pub text_end : (status : ℕ) (entries : List (ℕ × PlacesKept)) (end : ℕ) (new : NewTransaction) → placed_end (records_from end (block_of status entries new)) new.changes + 8 ≡ end + length (block_text end (block_of status entries new))
text_end status entries end new =
    let b = block_of status entries new in
    omega (arith, records_end entries end new.tid (records_from end b) new.changes, length-block_text end b)

-- where they begin
pub begins_at : (status : ℕ) (entries : List (ℕ × PlacesKept)) (end : ℕ) (new : NewTransaction) → records_from end (block_of status entries new) ≡ end + (23 + (length new.user + length new.description + length new.extension))
begins_at status entries end new = omega (arith, length-append new.user (new.description ++ new.extension), length-append new.description new.extension)

-- a text has more bytes than its header
pub text_long : (status : ℕ) (entries : List (ℕ × PlacesKept)) (end : ℕ) (new : NewTransaction) → 31 ≤ length (block_text end (block_of status entries new))
text_long status entries end new = omega (arith, length-block_text end (block_of status entries new))

-- ---- what was read with its data records has their places

one_place : (oid tid q : ℕ) (known : List Known) (r : Written) → places_of oid (with_record known tid q r) ≡ places_of oid known ++ placed_of oid (record { oid = r.oid; place = record { serial = tid; at = q } } ∷ [])
one_place oid tid q known r =
    ap (map place_of) (filter-append (is_of oid) known (known_at known tid q r ∷ [])) ∙ map-append place_of (filter (is_of oid) known) (filter (is_of oid) (known_at known tid q r ∷ [])) ∙ ap (λ (ps : List Place). places_of oid known ++ ps) (by_cases (eqb oid r.oid))
  where
    by_cases : (b : Bool) → map place_of (cond b (known_at known tid q r ∷ []) []) ≡ map (λ (p : Placed). p.place) (cond b (record { oid = r.oid; place = record { serial = tid; at = q } } ∷ []) [])
    by_cases true = refl
    by_cases false = refl

placed_of-cons : (oid : ℕ) (p : Placed) (ps : List Placed) → placed_of oid (p ∷ ps) ≡ placed_of oid (p ∷ []) ++ placed_of oid ps
placed_of-cons oid p ps = by_cases (eqb oid p.oid)
  where
    by_cases : (b : Bool) → map (λ (x : Placed). x.place) (cond b (p ∷ filter (is_placed oid) ps) (filter (is_placed oid) ps)) ≡ map (λ (x : Placed). x.place) (cond b (p ∷ []) []) ++ placed_of oid ps
    by_cases true = refl
    by_cases false = refl

-- the places of an object's records, with those of a new transaction that was read
pub places_read : (entries : List (ℕ × PlacesKept)) (oid place tid q : ℕ) (known : List Known) (cs : List NewChange) → places_of oid (with_records known place tid q (map (written_of entries) cs)) ≡ places_of oid known ++ placed_of oid (placed_from tid q cs)
places_read entries oid place tid q known [] = sym (append-nil (places_of oid known))
places_read entries oid place tid q known (c ∷ cs) =
    let r = written_of entries c in
    let first : Placed = record { oid = c.oid; place = record { serial = tid; at = q } } in
    ap (λ (n : ℕ). places_of oid (with_records (with_record known tid q r) place tid (q + n) (map (written_of entries) cs))) (record_long entries place tid c)
    ∙ places_read entries oid place tid (q + record_size c.content) (with_record known tid q r) cs
    ∙ ap (λ (ps : List Place). ps ++ placed_of oid (placed_from tid (q + record_size c.content) cs)) (one_place oid tid q known r)
    ∙ append_assoc (places_of oid known) (placed_of oid (first ∷ [])) (placed_of oid (placed_from tid (q + record_size c.content) cs))
    ∙ ap (λ (ps : List Place). places_of oid known ++ ps) (sym (placed_of-cons oid first (placed_from tid (q + record_size c.content) cs)))

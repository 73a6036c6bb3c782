-- An outlined transaction, and the transaction with the contents that stand in some bytes.
use Rattle.std.proofs.Common.{◌≡◌, ℕ, ◌+◌, ◌<◌, ◌≤◌, cond, List, [], ◌∷◌, ◌++◌, All, length, get_or, map, take, drop, drop-cons, add-one, append_assoc, Option, Some, None, refl, sym, ap, subst, ◌∙◌, arith}
use Rattle.std.specs.Prelude.{nat_eq}
use Rattle.std.specs.List.{IsDistinct}
use Rattle.std.proofs.lemmas.List.{append-nil, drop_all, length-drop, length-take-le}
use Rattle.std.proofs.lemmas.List.Elements.{All-cons, All-nil, All-head, All-tail}
use Rattle.zb_model.specs.declared.data.Change.{Change}
use Rattle.fs_index.specs.declared.place.Placed.{Placed}
use Rattle.fs_records.specs.Blocks.{Written, block_text, records_from}
use Rattle.fs_index.specs.Places.{PlacesKept, oids_placed}
use Rattle.fs_records.specs.Placing.{placed_end, placed_from}
use Rattle.fs_records.specs.PlacingLaws.{IsRecordOf, begins_at, text_end}
use Rattle.fs_records.specs.Writing.{block_of, record_size, written_of}
use Rattle.fs_reading.specs.declared.outline.Source.{Source}
use Rattle.fs_reading.specs.declared.outline.OutlinedChange.{OutlinedChange}
use Rattle.fs_reading.specs.declared.outline.Outline.{Outline}
use Rattle.fs_reading.specs.Formed.{HasBytes, IsFormed}
use Rattle.fs_reading.specs.Outlines.{AllStandWithin, HasLength, IsOutline, StandsWithin, outlined_change, outlined_content, outlined_transaction}
use Rattle.pack_copy.specs.Outlined.{block_in, end_in, placed_in, record_in, records_begin, source_size}
use Rattle.pack_copy.specs.Renewing.{anew, change_anew, content_anew, status_of}

-- ---- where its data records stand

grows : (source : Option Source) → 0 < source_size source
grows None = omega arith
grows (Some s) = omega arith

pub end_behind : (q : ℕ) (cs : List OutlinedChange) → q ≤ end_in q cs
end_behind q [] = omega arith
end_behind q (c ∷ cs) = omega (arith, end_behind (q + source_size c.source) cs)

pub records_within : (tid from to q : ℕ) (cs : List OutlinedChange) → from ≤ q → end_in q cs ≤ to → All (IsRecordOf tid from to) (placed_in tid q cs)
records_within tid from to q [] behind within = All-nil (IsRecordOf tid from to)
records_within tid from to q (c ∷ cs) behind within =
    All-cons (IsRecordOf tid from to) (record { oid = c.oid; place = record { serial = tid; at = q } }) (placed_in tid (q + source_size c.source) cs)
    (refl, behind, omega (arith, grows c.source, end_behind (q + source_size c.source) cs, within)) (records_within tid from to (q + source_size c.source) cs (omega (arith, behind)) within)

-- one of each object
pub oids_in : (tid q : ℕ) (cs : List OutlinedChange) → oids_placed (placed_in tid q cs) ≡ map (λ (c : OutlinedChange). c.oid) cs
oids_in tid q [] = refl
oids_in tid q (c ∷ cs) = ap (λ (oids : List ℕ). c.oid ∷ oids) (oids_in tid (q + source_size c.source) cs)

-- the first places, so many, and where the next one stands: the rest gives the whole
pub record PlacedSoFar (tid from at i : ℕ) (cs : List OutlinedChange) (placed : List Placed) : Type 0 where
  pub records : placed ++ placed_in tid at (drop i cs) ≡ placed_in tid from cs
  pub end : end_in at (drop i cs) ≡ end_in from cs

pub none_placed : (tid from : ℕ) (cs : List OutlinedChange) (placed : List Placed) → placed ≡ [] → PlacedSoFar tid from from 0 cs placed
none_placed tid from cs placed is = subst (λ (ps : List Placed). PlacedSoFar tid from from 0 cs ps) (sym is) (record { records = refl; end = refl })

drop_next : (cs : List OutlinedChange) (i : ℕ) (c : OutlinedChange) → i < length cs → c ≡ get_or cs i c → drop i cs ≡ c ∷ drop (i + 1) cs
drop_next cs i c within is =
    let e : drop i cs ≡ get_or cs i c ∷ drop (i + 1) cs = rw add-one (drop-cons cs i c within) in
    e ∙ ap (λ (x : OutlinedChange). x ∷ drop (i + 1) cs) (sym is)

pub one_placed : (tid from at next i : ℕ) (cs : List OutlinedChange) (placed new : List Placed) (c : OutlinedChange) → i < length cs → c ≡ get_or cs i c → next ≡ at + source_size c.source
    → new ≡ placed ++ record { oid = c.oid; place = record { serial = tid; at = at } } ∷ [] → PlacedSoFar tid from at i cs placed → PlacedSoFar tid from next (i + 1) cs new
one_placed tid from at next i cs placed new c within is next_is new_is so_far =
    let here : Placed = record { oid = c.oid; place = record { serial = tid; at = at } } in
    let rest = drop_next cs i c within is in
    record {
      records = ap (λ (ps : List Placed). ps ++ placed_in tid next (drop (i + 1) cs)) new_is
          ∙ append_assoc placed (here ∷ []) (placed_in tid next (drop (i + 1) cs))
          ∙ ap (λ (n : ℕ). placed ++ here ∷ placed_in tid n (drop (i + 1) cs)) next_is
          ∙ ap (λ (xs : List OutlinedChange). placed ++ placed_in tid at xs) (sym rest) ∙ so_far.records;
      end = ap (λ (n : ℕ). end_in n (drop (i + 1) cs)) next_is ∙ ap (end_in at) (sym rest) ∙ so_far.end;
    }

pub all_placed : (tid from at i : ℕ) (cs : List OutlinedChange) (placed : List Placed) → length cs ≤ i → PlacedSoFar tid from at i cs placed → (placed ≡ placed_in tid from cs) × (at ≡ end_in from cs)
all_placed tid from at i cs placed past so_far =
    let none = drop_all i cs past in (
      sym (append-nil placed) ∙ ap (λ (xs : List OutlinedChange). placed ++ placed_in tid at xs) (sym none) ∙ so_far.records,
      ap (end_in at) (sym none) ∙ so_far.end,
    )

-- ---- over bytes in which its contents stand

pub part_long : (n m : ℕ) (bytes : List ℕ) → m + n ≤ length bytes → length (take n (drop m bytes)) ≡ n
part_long n m bytes within = length-take-le n (drop m bytes) (omega (arith, length-drop m bytes))

size_same : (bytes : List ℕ) (source : Option Source) → StandsWithin bytes source → record_size (content_anew (outlined_content bytes source)) ≡ source_size source
size_same bytes None within = refl
size_same bytes (Some s) within = omega (arith, part_long s.length (s.at + 42) bytes within)

abbrev contents : List ℕ → List OutlinedChange → List Change
contents bytes cs = map (outlined_change bytes) cs

pub placed_same : (bytes : List ℕ) (tid q : ℕ) (cs : List OutlinedChange) → AllStandWithin bytes cs → placed_in tid q cs ≡ placed_from tid q (map change_anew (contents bytes cs))
placed_same bytes tid q [] within = refl
placed_same bytes tid q (c ∷ cs) within =
    ap (λ (ps : List Placed). record { oid = c.oid; place = record { serial = tid; at = q } } ∷ ps)
    (placed_same bytes tid (q + source_size c.source) cs (All-tail (λ (x : OutlinedChange). StandsWithin bytes x.source) c cs within)
    ∙ ap (λ (n : ℕ). placed_from tid (q + n) (map change_anew (contents bytes cs))) (sym (size_same bytes c.source (All-head (λ (x : OutlinedChange). StandsWithin bytes x.source) c cs within))))

pub end_same : (bytes : List ℕ) (q : ℕ) (cs : List OutlinedChange) → AllStandWithin bytes cs → end_in q cs ≡ placed_end q (map change_anew (contents bytes cs))
end_same bytes q [] within = refl
end_same bytes q (c ∷ cs) within =
    end_same bytes (q + source_size c.source) cs (All-tail (λ (x : OutlinedChange). StandsWithin bytes x.source) c cs within)
    ∙ ap (λ (n : ℕ). placed_end (q + n) (map change_anew (contents bytes cs))) (sym (size_same bytes c.source (All-head (λ (x : OutlinedChange). StandsWithin bytes x.source) c cs within)))

pub records_same : (entries : List (ℕ × PlacesKept)) (bytes : List ℕ) (cs : List OutlinedChange) → map (record_in entries bytes) cs ≡ map (written_of entries) (map change_anew (contents bytes cs))
records_same entries bytes [] = refl
records_same entries bytes (c ∷ cs) = ap (λ (rs : List Written). record_in entries bytes c ∷ rs) (records_same entries bytes cs)

-- it is written as the transaction is
pub block_same : (entries : List (ℕ × PlacesKept)) (bytes : List ℕ) (o : Outline) → block_in entries bytes o ≡ block_of (status_of (outlined_transaction bytes o)) entries (anew (outlined_transaction bytes o))
block_same entries bytes o =
    ap (λ (rs : List Written). record { tid = o.tid; status = cond o.packed 112 32; user = o.user; description = o.description; extension = o.extension; records = rs }) (records_same entries bytes o.changes)

-- and ends where it does
pub end_long : (entries : List (ℕ × PlacesKept)) (bytes : List ℕ) (at : ℕ) (o : Outline) → AllStandWithin bytes o.changes → end_in (records_begin at o) o.changes + 8 ≡ at + length (block_text at (block_in entries bytes o))
end_long entries bytes at o within =
    let x = outlined_transaction bytes o in
    let b = block_of (status_of x) entries (anew x) in
    let from : records_from at b ≡ records_begin at o = begins_at (status_of x) entries at (anew x) in
    let end : end_in (records_begin at o) o.changes ≡ placed_end (records_from at b) (anew x).changes = end_same bytes (records_begin at o) o.changes within ∙ ap (λ (n : ℕ). placed_end n (anew x).changes) (sym from) in
    omega (arith, end, text_end (status_of x) entries at (anew x), ap (λ (y : _). length (block_text at y)) (block_same entries bytes o))

-- it is formed where the outline is
oids_same : (bytes : List ℕ) (cs : List OutlinedChange) → map (λ (c : Change). c.oid) (contents bytes cs) ≡ map (λ (c : OutlinedChange). c.oid) cs
oids_same bytes [] = refl
oids_same bytes (c ∷ cs) = ap (λ (oids : List ℕ). c.oid ∷ oids) (oids_same bytes cs)

filled : (bytes : List ℕ) (source : Option Source) → StandsWithin bytes source → HasLength source → HasBytes (outlined_content bytes source)
filled bytes None within some = tt
filled bytes (Some s) within some = omega (arith, part_long s.length (s.at + 42) bytes within, some)

all_filled : (bytes : List ℕ) (cs : List OutlinedChange) → AllStandWithin bytes cs → All (λ (c : OutlinedChange). HasLength c.source) cs → All (λ (c : Change). HasBytes c.content) (contents bytes cs)
all_filled bytes [] within some = All-nil (λ (c : Change). HasBytes c.content)
all_filled bytes (c ∷ cs) within some =
    All-cons (λ (x : Change). HasBytes x.content) (outlined_change bytes c) (contents bytes cs)
    (filled bytes c.source (All-head (λ (x : OutlinedChange). StandsWithin bytes x.source) c cs within) (All-head (λ (x : OutlinedChange). HasLength x.source) c cs some))
    (all_filled bytes cs (All-tail (λ (x : OutlinedChange). StandsWithin bytes x.source) c cs within) (All-tail (λ (x : OutlinedChange). HasLength x.source) c cs some))

pub outline_formed : (bytes : List ℕ) (o : Outline) → AllStandWithin bytes o.changes → IsOutline o → IsFormed (outlined_transaction bytes o)
outline_formed bytes o within is = record {
  user = is.user;
  description = is.description;
  extension = is.extension;
  changes = record {
    distinct = subst (λ (oids : List ℕ). IsDistinct nat_eq oids) (sym (oids_same bytes o.changes)) is.changes.distinct;
    filled = all_filled bytes o.changes within is.changes.filled;
  };
}

-- its objects are those of its places
pub oids_placed_same : (bytes : List ℕ) (tid q : ℕ) (cs : List OutlinedChange) → map (λ (c : Change). c.oid) (contents bytes cs) ≡ oids_placed (placed_in tid q cs)
oids_placed_same bytes tid q cs = oids_same bytes cs ∙ sym (oids_in tid q cs)

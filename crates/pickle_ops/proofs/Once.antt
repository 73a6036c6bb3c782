-- A table in which no byte stands twice.
use Rattle.std.proofs.Common.{◌≡◌, ℕ, zero, suc, Bool, true, false, List, [], ◌∷◌, Some, refl, sym, ◌∙◌, ap, cond, eqb, eq-eqb, slice_get}
use Rattle.std.proofs.lemmas.Bool.{false≢true, ne_eqb, eqb-true}
use Rattle.pickle_ops.specs.Rows.{row_in, has_byte, no_byte_twice}
use Rattle.pickle_ops.specs.declared.table.Row.{Row}

-- a table has the bytes of its rows
has_byte-row : (rows : List Row) (i : ℕ) (row : Row) → slice_get rows i ≡ Some row → has_byte rows row.byte ≡ true
has_byte-row [] i row h = cc
has_byte-row (first ∷ rows) zero row h =
    let same : first ≡ row = cc in
    let e : eqb first.byte row.byte ≡ true = eq-eqb first.byte row.byte (ap (λ (r : Row). r.byte) same) in
    rw e refl
has_byte-row (first ∷ rows) (suc i) row h = either (eqb first.byte row.byte) (has_byte rows row.byte) (has_byte-row rows i row h)
  where
    either : (t b : Bool) → b ≡ true → cond t true b ≡ true
    either true b e = refl
    either false b e = e

-- the first row's byte stands in no later row
apart : (first : Row) (rows : List Row) (i : ℕ) (row : Row) → no_byte_twice (first ∷ rows) ≡ true → slice_get rows i ≡ Some row → first.byte ≡ row.byte → ⊥
apart first rows i row h here same =
    let has : has_byte rows first.byte ≡ true = ap (has_byte rows) same ∙ has_byte-row rows i row here in
    false≢true (sym (ap (λ b. cond b false (no_byte_twice rows)) has) ∙ h)

-- the later rows have no byte twice
later : (first : Row) (rows : List Row) → no_byte_twice (first ∷ rows) ≡ true → no_byte_twice rows ≡ true
later first rows h = second (has_byte rows first.byte) (no_byte_twice rows) h
  where
    second : (t b : Bool) → cond t false b ≡ true → b ≡ true
    second true b e = absurd (false≢true e)
    second false b e = e

-- a byte leads to its row
pub row_in-byte : (rows : List Row) (i : ℕ) (row : Row) → no_byte_twice rows ≡ true → slice_get rows i ≡ Some row → row_in rows row.byte ≡ Some row
row_in-byte [] i row h here = cc
row_in-byte (first ∷ rows) zero row h here =
    let same : first ≡ row = cc in
    let e : eqb first.byte row.byte ≡ true = eq-eqb first.byte row.byte (ap (λ (r : Row). r.byte) same) in
    rw e (ap Some same)
row_in-byte (first ∷ rows) (suc i) row h here =
    let e : eqb first.byte row.byte ≡ false = ne_eqb first.byte row.byte (apart first rows i row h here) in
    rw e (row_in-byte rows i row (later first rows h) here)

-- rows with the same byte stand at the same place
pub same_place : (rows : List Row) (i j : ℕ) (a b : Row) → no_byte_twice rows ≡ true → slice_get rows i ≡ Some a → slice_get rows j ≡ Some b → a.byte ≡ b.byte → i ≡ j
same_place [] i j a b h at_i at_j same = cc
same_place (first ∷ rows) zero zero a b h at_i at_j same = refl
same_place (first ∷ rows) zero (suc j) a b h at_i at_j same =
    let e : first ≡ a = cc in
    absurd (apart first rows j b h at_j (ap (λ (r : Row). r.byte) e ∙ same))
same_place (first ∷ rows) (suc i) zero a b h at_i at_j same =
    let e : first ≡ b = cc in
    absurd (apart first rows i a h at_i (ap (λ (r : Row). r.byte) e ∙ sym same))
same_place (first ∷ rows) (suc i) (suc j) a b h at_i at_j same =
    ap (λ n. suc n) (same_place rows i j a b (later first rows h) at_i at_j same)

-- the row of a byte has that byte
pub byte-row_in : (rows : List Row) (byte : ℕ) (row : Row) → row_in rows byte ≡ Some row → row.byte ≡ byte
byte-row_in [] byte row h = cc
byte-row_in (first ∷ rows) byte row h = first_or (byte-row_in rows byte row) (eqb first.byte byte) refl h
  where
    first_or : (row_in rows byte ≡ Some row → row.byte ≡ byte) → (t : Bool) → eqb first.byte byte ≡ t → cond t (Some first) (row_in rows byte) ≡ Some row → row.byte ≡ byte
    first_or later true e h = let same : first ≡ row = cc in sym (ap (λ (r : Row). r.byte) same) ∙ eqb-true _ _ e
    first_or later false e h = later h

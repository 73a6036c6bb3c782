-- The list that bytes stand for.
use Rattle.std.proofs.Common.{◌≡◌, ◌⊎◌, ◌≢◌, ℕ, ◌^◌, ◌<◌, Bool, true, false, eqb, List, [], ◌∷◌, ◌++◌, length, take, drop, Option, None, inl, inr, refl, sym, ap, ◌∙◌, arith}
use Rattle.std.proofs.lemmas.Bool.{eqb-true, eqb-false}
use Rattle.std.proofs.lemmas.List.{length-take, take_at}
use Rattle.zb_model.specs.declared.data.Transaction.{Transaction}
use Rattle.fs_records.specs.declared.field.Field.{Field}
use Rattle.zb_base.specs.Bytes.{AreBytes}
use Rattle.fs_records.specs.Blocks.{Reached, file_start, magic, Begins, blocks_text}
use Rattle.fs_records.specs.File.{StandsFor, no_bytes, a_file, IsNoFile, IsDamaged}
use Rattle.fs_records.specs.Unique as readings
use Rattle.fs_records.specs.Always.{FileOr, file_or_damage}

-- bytes that begin as a file are some, and their first four are `FS30`
some_bytes : (bytes : List ℕ) (s : Reached) → Begins bytes s → bytes ≢ []
some_bytes bytes s begins none = absurd (cc (begins.parts, none))

first_four : (bytes : List ℕ) (s : Reached) → Begins bytes s → take 4 bytes ≡ magic
first_four bytes s begins = ap (take 4) begins.parts ∙ take_at magic (blocks_text file_start begins.blocks ++ drop s.end bytes) 4 refl

pub one_list : (bytes : List ℕ) (list other : List Transaction) (a b : Option ℕ) → StandsFor bytes list a → StandsFor bytes other b → (list ≡ other) × (a ≡ b)
one_list bytes list other a b (no_bytes none l c) (no_bytes none_too m d) = (l ∙ sym m, c ∙ sym d)
one_list bytes list other a b (no_bytes none l c) (a_file t stands m) = absurd (some_bytes bytes t stands.begins none)
one_list bytes list other a b (a_file s stands l) (no_bytes none m d) = absurd (some_bytes bytes s stands.begins none)
one_list bytes list other a b (a_file s hs l) (a_file t ht m) =
    let same = readings.one_list bytes s t a b hs ht in
    (l ∙ ap (λ (r : Reached). r.list) same.0 ∙ sym m, same.1)

pub not_damaged : (bytes : List ℕ) (list : List Transaction) (cut : Option ℕ) (at : ℕ) (field : Field) → StandsFor bytes list cut → IsDamaged bytes at field → ⊥
not_damaged bytes list cut at field (no_bytes none l c) damaged = some_bytes bytes damaged.reached damaged.begins none
not_damaged bytes list cut at field (a_file s stands l) damaged = readings.never_both bytes s cut at field stands damaged

pub not_no_file : (bytes : List ℕ) (list : List Transaction) (cut : Option ℕ) → StandsFor bytes list cut → IsNoFile bytes → ⊥
not_no_file bytes list cut (no_bytes none l c) is = is.0 none
not_no_file bytes list cut (a_file s stands l) is = is.1 (first_four bytes s stands.begins)

pub damaged_file : (bytes : List ℕ) (at : ℕ) (field : Field) → IsDamaged bytes at field → IsNoFile bytes → ⊥
damaged_file bytes at field damaged is = is.1 (first_four bytes damaged.reached damaged.begins)

-- ---- one of the three always holds

-- bytes stand for a list, or are no file, or are damaged somewhere
abbrev pub Answers : List ℕ → Type 0
Answers bytes = ((list : List Transaction) × (cut : Option ℕ) × StandsFor bytes list cut) ⊎ (IsNoFile bytes ⊎ ((at : ℕ) × (field : Field) × IsDamaged bytes at field))

same_or_not : (xs ys : List ℕ) → (xs ≡ ys) ⊎ (xs ≢ ys)
same_or_not [] [] = inl refl
same_or_not [] (y ∷ ys) = inr (λ e. cc e)
same_or_not (x ∷ xs) [] = inr (λ e. cc e)
same_or_not (x ∷ xs) (y ∷ ys) = by_cases (eqb x y) refl (same_or_not xs ys)
  where
    by_cases : (b : Bool) → eqb x y ≡ b → (xs ≡ ys) ⊎ (xs ≢ ys) → ((x ∷ xs) ≡ (y ∷ ys)) ⊎ ((x ∷ xs) ≢ (y ∷ ys))
    by_cases true e (inl same) = let first : x ≡ y = eqb-true x y e in inl (cc (first, same))
    by_cases true e (inr apart) = inr (λ whole. apart (cc whole))
    by_cases false e rest = inr (λ whole. let first : x ≡ y = cc whole in eqb-false x y e first)

answer_of : (bytes : List ℕ) → FileOr bytes → Answers bytes
answer_of bytes (inl stands) = inl (stands.0.list, stands.1, a_file stands.0 stands.2 refl)
answer_of bytes (inr damaged) = inr (inr damaged)

pub always : (bytes : List ℕ) → AreBytes bytes → length bytes < 2 ^ 64 → Answers bytes
always [] fits short = inl ([], None, no_bytes refl refl refl)
always (x ∷ xs) fits short =
    elim (same_or_not (take 4 (x ∷ xs)) magic) [
      | inl is ↦ answer_of (x ∷ xs) (file_or_damage (x ∷ xs) fits short (omega (arith, length-take 4 (x ∷ xs), ap length is)) is)
      | inr other ↦ inr (inl ((λ none. cc none), other))
    ]

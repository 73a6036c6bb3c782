-- Digits are read a piece at a time.
use Rattle.literal_reading.specs.declared.error.LiteralError.{LiteralError}
use Rattle.literal_reading.specs.declared.error.LiteralError.TheVariants as error
use Rattle.literal_reading.specs.Reading.{RefusesLiteral}
use Rattle.std.proofs.Common.{◌≡◌, ℕ, ◌+◌, ◌*◌, ◌/◌, ◌%◌, ◌<◌, ◌≤◌, List, [], ◌∷◌, ◌++◌, length, get_or, drop, take, Option, Some, None, refl, sym, ap, subst, ◌∙◌, append_assoc, option_map, arith, slice_set, set}
use Rattle.std.proofs.lemmas.List.{append-nil, take_more_set, take-append-drop}
use Rattle.zb_ids.specs.Hex.{◌>>=◌, bytes_at, pair_value}
use Rattle.zb_ids.specs.HexLaws.{behind_prefix, pair_read, all_read}

-- ---- in one piece

-- one byte more is read, and put behind the others
pub byte_read : (text piece : List ℕ) (i byte : ℕ) (total : Option (List ℕ)) → 2 * i + 1 < length text → i < length piece
    → pair_value (get_or text (2 * i) 0) (get_or text (2 * i + 1) 0) ≡ Some byte
    → behind_prefix (take i piece) (bytes_at (drop (2 * i) text)) ≡ total
    → behind_prefix (take (i + 1) (set piece i byte)) (bytes_at (drop (2 * (i + 1)) text)) ≡ total
byte_read text piece i byte total h fits e so_far =
    rw (take_more_set piece i byte fits) (pair_read text (take i piece) i byte total h e so_far)

-- ---- piece by piece

-- what two texts spell, one behind the other
abbrev pub joined : Option (List ℕ) → Option (List ℕ) → Option (List ℕ)
joined (Some front) rest = behind_prefix front rest
joined None rest = None

one_joined : (byte : Option ℕ) (front rest : Option (List ℕ))
    → (byte >>= λ b. joined front rest >>= λ bytes. Some (b ∷ bytes)) ≡ joined (byte >>= λ b. front >>= λ bytes. Some (b ∷ bytes)) rest
one_joined (Some b) (Some front) (Some rest) = refl
one_joined (Some b) (Some front) None = refl
one_joined (Some b) None rest = refl
one_joined None front rest = refl

nothing_before : (read : Option (List ℕ)) → read ≡ behind_prefix [] read
nothing_before (Some bytes) = refl
nothing_before None = refl

pub bytes_joined : (front rest : List ℕ) → length front % 2 ≡ 0 → bytes_at (front ++ rest) ≡ joined (bytes_at front) (bytes_at rest)
unfolding bytes_at
bytes_joined [] rest h = nothing_before (bytes_at rest)
bytes_joined (a ∷ []) rest h = absurd (omega (arith, h))
bytes_joined (a ∷ b ∷ cs) rest h = rw (bytes_joined cs rest (omega (arith, h))) (one_joined (pair_value a b) (bytes_at cs) (bytes_at rest))

prefix_joined : (front : List ℕ) (more rest : Option (List ℕ)) → behind_prefix front (joined more rest) ≡ joined (behind_prefix front more) rest
prefix_joined front (Some more) (Some rest) = ap (λ (x : List ℕ). Some x) (sym (append_assoc front more rest))
prefix_joined front (Some more) None = refl
prefix_joined front None rest = refl

-- a text that is cut in two behind an even number of digits
cut_joined : (text : List ℕ) (n : ℕ) → length (take n text) % 2 ≡ 0 → bytes_at text ≡ joined (bytes_at (take n text)) (bytes_at (drop n text))
cut_joined text n h = ap bytes_at (sym (take-append-drop n text)) ∙ bytes_joined (take n text) (drop n text) h

-- how a text that is cut in two is read behind bytes that were read before
pub cut_read : (text bytes : List ℕ) (n : ℕ) (total : Option (List ℕ)) → length (take n text) % 2 ≡ 0
    → behind_prefix bytes (bytes_at text) ≡ total
    → joined (behind_prefix bytes (bytes_at (take n text))) (bytes_at (drop n text)) ≡ total
cut_read text bytes n total even so_far =
    sym (ap (behind_prefix bytes) (cut_joined text n even) ∙ prefix_joined bytes (bytes_at (take n text)) (bytes_at (drop n text))) ∙ so_far

-- a piece is refused, and so the whole is
pub piece_refused : (why : LiteralError) (text bytes : List ℕ) (n : ℕ) (total : Option (List ℕ)) → length (take n text) % 2 ≡ 0
    → behind_prefix bytes (bytes_at text) ≡ total
    → RefusesLiteral why (behind_prefix bytes (bytes_at (take n text)))
    → RefusesLiteral why total
piece_refused error.NotLiteral text bytes n total even so_far refused =
    sym (cut_read text bytes n total even so_far) ∙ ap (λ (x : Option (List ℕ)). joined x (bytes_at (drop n text))) refused
piece_refused error.Memory text bytes n total even so_far refused = tt

-- a piece was read, and what is left gives the whole
pub piece_read : (text bytes now : List ℕ) (n : ℕ) (total : Option (List ℕ)) → length (take n text) % 2 ≡ 0
    → behind_prefix bytes (bytes_at text) ≡ total
    → behind_prefix bytes (bytes_at (take n text)) ≡ Some now
    → behind_prefix now (bytes_at (drop n text)) ≡ total
piece_read text bytes now n total even so_far read =
    sym (ap (λ (x : Option (List ℕ)). joined x (bytes_at (drop n text))) read) ∙ cut_read text bytes n total even so_far

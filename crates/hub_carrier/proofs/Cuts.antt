-- Pieces that are whole frames.
use Rattle.std.proofs.Common.{◌≡◌, ℕ, ◌+◌, ◌<◌, ◌^◌, Bool, true, false, List, [], ◌∷◌, ◌++◌, Option, Some, None, length, take, drop, get_or, refl, sym, ap, ◌∙◌, append_assoc, length-append, arith, eqb}
use Rattle.std.specs.Prelude.{◌==◌}
use Rattle.std.proofs.lemmas.List.{append-nil, drop_at, drop_more, take_at}
use Rattle.std.proofs.lemmas.Bool.{eq-eqb, ne_eqb, eqb-true, eqb-false}
use Rattle.byteorder.specs.Endian.{big_bytes}
use Rattle.byteorder.specs.Numbers.{big_number-reads_back, length-bytes_high_first}
use Rattle.zeo_frames.specs.declared.error.FrameError.{FrameError}
use Rattle.zeo_frames.specs.declared.error.FrameError.TheVariants.{FrameTooLong, Memory}
use Rattle.zeo_frames.specs.Frames.{AreCut, GoesOn, HasCome, Reading, frame, frames, length_field}
use Rattle.hub_carrier.specs.Cutting.{AreItsPayloads}

-- a frame's length, and its length field
pub frame_length : (payload : List ℕ) → length (frame payload) ≡ 4 + length payload
unfolding frame
frame_length payload = length-append (big_bytes 4 (length payload)) payload ∙ ap (λ (n : ℕ). n + length payload) (length-bytes_high_first 4 (length payload))

pub frames_length : (payload : List ℕ) (rest : List (List ℕ)) → length (frames (payload ∷ rest)) ≡ (4 + length payload) + length (frames rest)
frames_length payload rest = length-append (frame payload) (frames rest) ∙ ap (λ (n : ℕ). n + length (frames rest)) (frame_length payload)

field_of : (payload rest : List ℕ) → length payload < 2 ^ 32 → length_field (frame payload ++ rest) ≡ length payload
unfolding frame
field_of payload rest short =
    ap length_field (append_assoc (big_bytes 4 (length payload)) payload rest)
    ∙ big_number-reads_back 4 (length payload) (payload ++ rest) (omega arith)

-- one frame each, and more behind them
same_first : (one other behind other_behind : List ℕ) → length one < 2 ^ 32 → length other < 2 ^ 32 → frame one ++ behind ≡ frame other ++ other_behind
    → (one ≡ other) × (behind ≡ other_behind)
unfolding frame
same_first one other behind other_behind short other_short e =
    let size : length one ≡ length other = sym (field_of one behind short) ∙ ap length_field e ∙ field_of other other_behind other_short in
    let four = length-bytes_high_first 4 (length one) in
    let other_four = length-bytes_high_first 4 (length other) in
    let open_one = append_assoc (big_bytes 4 (length one)) one behind in
    let open_other = append_assoc (big_bytes 4 (length other)) other other_behind in
    let tails : one ++ behind ≡ other ++ other_behind =
    sym (drop_at (big_bytes 4 (length one)) (one ++ behind) 4 four) ∙ ap (λ (x : List ℕ). drop 4 x) (sym open_one ∙ e ∙ open_other)
    ∙ drop_at (big_bytes 4 (length other)) (other ++ other_behind) 4 other_four in (
      sym (take_at one behind (length one) refl) ∙ ap (λ (x : List ℕ). take (length one) x) tails ∙ take_at other other_behind (length one) (sym size),
      sym (drop_at one behind (length one) refl) ∙ ap (λ (x : List ℕ). drop (length one) x) tails ∙ drop_at other other_behind (length one) (sym size),
    )

-- frames of fewer than 2^32 bytes are those of one list of payloads
frames_only : (given others : List (List ℕ)) → length (frames given) < 2 ^ 32 → frames given ≡ frames others → given ≡ others
frames_only [] [] short e = refl
frames_only [] (other ∷ others) short e = absurd (omega (arith, ap (λ (bs : List ℕ). length bs) e, frames_length other others))
frames_only (payload ∷ given) [] short e = absurd (omega (arith, ap (λ (bs : List ℕ). length bs) e, frames_length payload given))
frames_only (payload ∷ given) (other ∷ others) short e =
    let long = ap (λ (bs : List ℕ). length bs) e in
    let one = frames_length payload given in
    let two = frames_length other others in
    let parts = same_first payload other (frames given) (frames others) (omega (arith, short, one)) (omega (arith, short, long, two)) e in
    let rest = frames_only given others (omega (arith, short, one)) parts.1 in
    ap (λ (x : List ℕ). x ∷ given) parts.0 ∙ ap (λ (xs : List (List ℕ)). other ∷ xs) rest

no_rest : (rest : List ℕ) → length rest ≡ 0 → rest ≡ []
no_rest [] none = refl
no_rest (x ∷ xs) none = absurd (omega arith)

cut_whole : (piece rest : List ℕ) (given : List (List ℕ)) → length piece < 2 ^ 32 → AreCut piece given rest → length (frames given) ≡ length piece → AreItsPayloads piece given
cut_whole piece rest given short cut all =
    let long : length piece ≡ length (frames given) + length rest = ap (λ (bs : List ℕ). length bs) cut.spelled ∙ length-append (frames given) rest in
    let none = no_rest rest (omega (arith, long, all)) in
    let whole : piece ≡ frames given = cut.spelled ∙ (ap (λ (bs : List ℕ). frames given ++ bs) none ∙ append-nil (frames given)) in
    record {
      whole = whole;
      only = λ others is. frames_only given others (omega (arith, short, all)) (sym whole ∙ is);
    }

-- payloads that were cut off a piece, whose frames are as long
pub its_payloads : (piece : List ℕ) (given : List (List ℕ)) (reading : Reading) → length piece < 2 ^ 32 → HasCome piece given reading → GoesOn given reading.ended
    → length (frames given) ≡ length piece → AreItsPayloads piece given
its_payloads piece given reading short come on all = by_end reading.ended come on
  where
    by_end : (ended : Option FrameError) → HasCome piece given (record { rest = reading.rest; ended = ended }) → GoesOn given ended → AreItsPayloads piece given
    by_end None come on = cut_whole piece reading.rest given short come.cut all
    by_end (Some (FrameTooLong excess)) come on = cut_whole piece come.rest given short come.cut all
    by_end (Some Memory) come on = absurd on

-- ---- the length of frames

-- behind one payload so many are left, or there aren't enough
length_behind : (rest more : List (List ℕ)) (payload : List ℕ) (left behind : ℕ) → rest ≡ payload ∷ more → behind + (4 + length payload) ≡ left
    → (length (frames rest) == left) ≡ (length (frames more) == behind)
length_behind rest more payload left behind is enough = by_same (eqb (length (frames more)) behind) refl
  where
    long : length (frames rest) ≡ (4 + length payload) + length (frames more)
    long = ap (λ (ps : List (List ℕ)). length (frames ps)) is ∙ frames_length payload more

    by_same : (b : Bool) → eqb (length (frames more)) behind ≡ b → eqb (length (frames rest)) left ≡ eqb (length (frames more)) behind
    by_same true same = eq-eqb (length (frames rest)) left (omega (arith, long, enough, eqb-true (length (frames more)) behind same)) ∙ sym same
    by_same false differs =
        ne_eqb (length (frames rest)) left (λ (all : length (frames rest) ≡ left). eqb-false (length (frames more)) behind differs (omega (arith, long, enough, all))) ∙ sym differs

length_above : (rest more : List (List ℕ)) (payload : List ℕ) (left : ℕ) → rest ≡ payload ∷ more → left < 4 + length payload → (length (frames rest) == left) ≡ false
length_above rest more payload left is short =
    let long : length (frames rest) ≡ (4 + length payload) + length (frames more) = ap (λ (ps : List (List ℕ)). length (frames ps)) is ∙ frames_length payload more in
    ne_eqb (length (frames rest)) left (λ (all : length (frames rest) ≡ left). omega (arith, long, short, all))

-- and so of payloads of which some first ones were looked at
pub length_next : (ps : List (List ℕ)) (i : ℕ) (d : List ℕ) (left behind : ℕ) → i < length ps → behind + (4 + length (get_or ps i d)) ≡ left → (length (frames (drop i ps)) == left) ≡ (length (frames (drop (i + 1) ps)) == behind)
length_next ps i d left behind lt enough = length_behind (drop i ps) (drop (i + 1) ps) (get_or ps i d) left behind (drop_more ps i d lt) enough

pub length_last : (ps : List (List ℕ)) (i : ℕ) (d : List ℕ) (left : ℕ) → i < length ps → left < 4 + length (get_or ps i d) → (length (frames (drop i ps)) == left) ≡ false
length_last ps i d left lt short = length_above (drop i ps) (drop (i + 1) ps) (get_or ps i d) left (drop_more ps i d lt) short

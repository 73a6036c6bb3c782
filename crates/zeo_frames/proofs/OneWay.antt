-- Bytes are cut into frames in one way.
use Rattle.std.proofs.Common.{◌≡◌, ◌≢◌, ℕ, suc, ◌+◌, ◌-◌, ◌<◌, ◌≤◌, List, [], ◌∷◌, ◌++◌, Option, Some, None, length, take, drop, refl, sym, ap, subst, ◌∙◌, inl, inr, ◌⊎◌, append_assoc, length-append, arith}
use Rattle.std.specs.List.{AllByRecursion}
use Rattle.std.proofs.lemmas.List.{append-nil, take_at, drop_at}
use Rattle.byteorder.specs.Endian.{big_bytes}
use Rattle.byteorder.specs.Numbers.{big_number-reads_back, length-bytes_high_first}
use Rattle.zeo_frames.specs.declared.limit.TheConstants.{FRAME_LIMIT}
use Rattle.zeo_frames.specs.declared.error.FrameError.{FrameError}
use Rattle.zeo_frames.specs.declared.error.FrameError.TheVariants.{FrameTooLong, Memory}
use Rattle.zeo_frames.specs.Frames.{frame, frames, length_field, IsWithinLimit, AreCut, IsTooLong, IsUnfinished, IsGoing, IsStopped, IsRead, HasCome, Reading}
use Rattle.zeo_frames.specs.Laws.{AreCutOneWay}

-- no whole frame stands at the front
IsEnd : List ℕ → Type 0
IsEnd rest = IsUnfinished rest ⊎ ((excess : ℕ) × IsTooLong rest excess)

-- a frame's length field
field_of : (payload rest : List ℕ) → IsWithinLimit payload → length_field (frame payload ++ rest) ≡ length payload
unfolding frame
field_of payload rest within =
    ap length_field (append_assoc (big_bytes 4 (length payload)) payload rest)
    ∙ big_number-reads_back 4 (length payload) (payload ++ rest) (omega arith)

frame_length : (payload : List ℕ) → length (frame payload) ≡ 4 + length payload
unfolding frame
frame_length payload = length-append (big_bytes 4 (length payload)) payload ∙ ap (λ (n : ℕ). n + length payload) (length-bytes_high_first 4 (length payload))

-- a frame isn't the beginning of a rest
never : (payload behind rest : List ℕ) → IsWithinLimit payload → rest ≡ frame payload ++ behind → IsEnd rest → ⊥
unfolding IsEnd
never payload behind rest within e end =
    let field : length_field rest ≡ length payload = ap length_field e ∙ field_of payload behind within in
    let long : length rest ≡ length (frame payload) + length behind = ap length e ∙ length-append (frame payload) behind in
    let four = frame_length payload in
    elim end [
      | inl more ↦ elim more [ inl short ↦ omega arith | inr less ↦ omega (arith, less.0, less.1) ]
      | inr too_long ↦ omega (arith, too_long.1.says, too_long.1.above)
    ]

-- one frame each, and more behind them
same_first : (one other behind other_behind : List ℕ) → IsWithinLimit one → IsWithinLimit other → frame one ++ behind ≡ frame other ++ other_behind
    → (one ≡ other) × (behind ≡ other_behind)
unfolding frame
same_first one other behind other_behind within other_within e =
    let size : length one ≡ length other = sym (field_of one behind within) ∙ ap length_field e ∙ field_of other other_behind other_within in
    let four = length-bytes_high_first 4 (length one) in
    let other_four = length-bytes_high_first 4 (length other) in
    let open_one = append_assoc (big_bytes 4 (length one)) one behind in
    let open_other = append_assoc (big_bytes 4 (length other)) other other_behind in
    let tails : one ++ behind ≡ other ++ other_behind =
    sym (drop_at (big_bytes 4 (length one)) (one ++ behind) 4 four) ∙ ap (λ (x : List ℕ). drop 4 x) (sym open_one ∙ e ∙ open_other)
    ∙ drop_at (big_bytes 4 (length other)) (other ++ other_behind) 4 other_four in (
      sym (take_at one behind (length one) refl) ∙ ap (λ (x : List ℕ). take (length one) x) tails ∙ take_at other other_behind (length one) (sym size),
      sym (drop_at one behind (length one) refl) ∙ ap (λ (x : List ℕ). drop (length one) x) tails ∙ drop_at other other_behind (length one) (sym size),
    )

pub record IsSame (given other_given : List (List ℕ)) (rest other_rest : List ℕ) : Type 0 where
  pub given_same : given ≡ other_given
  pub rest_same : rest ≡ other_rest

-- bytes have one cut behind which no whole frame stands
one_cut : (bytes rest other_rest : List ℕ) (given other_given : List (List ℕ)) → bytes ≡ frames given ++ rest → bytes ≡ frames other_given ++ other_rest
    → AllByRecursion IsWithinLimit given → AllByRecursion IsWithinLimit other_given → IsEnd rest → IsEnd other_rest
    → IsSame given other_given rest other_rest
one_cut bytes rest other_rest [] [] e f all other_all end other_end = record { given_same = refl; rest_same = sym e ∙ f }
one_cut bytes rest other_rest [] (payload ∷ others) e f all other_all end other_end =
    absurd (never payload (frames others ++ other_rest) rest other_all.0 (sym e ∙ f ∙ append_assoc (frame payload) (frames others) other_rest) end)
one_cut bytes rest other_rest (payload ∷ given) [] e f all other_all end other_end =
    absurd (never payload (frames given ++ rest) other_rest all.0 (sym f ∙ e ∙ append_assoc (frame payload) (frames given) rest) other_end)
one_cut bytes rest other_rest (payload ∷ given) (other ∷ others) e f all other_all end other_end =
    let parts = same_first payload other (frames given ++ rest) (frames others ++ other_rest) all.0 other_all.0
    (sym (append_assoc (frame payload) (frames given) rest) ∙ sym e ∙ f ∙ append_assoc (frame other) (frames others) other_rest) in
    let same = one_cut (frames given ++ rest) rest other_rest given others refl parts.1 all.1 other_all.1 end other_end in
    record { given_same = ap (λ (x : List ℕ). x ∷ given) parts.0 ∙ ap (λ (xs : List (List ℕ)). other ∷ xs) same.given_same; rest_same = same.rest_same }

reading_same : (rest other_rest : List ℕ) (ended other_ended : Option FrameError) → rest ≡ other_rest → ended ≡ other_ended
    → let one : Reading = record { rest = rest; ended = ended } in let other : Reading = record { rest = other_rest; ended = other_ended } in one ≡ other
reading_same rest other_rest ended other_ended r e = cc

-- a length above the limit isn't the beginning of an unfinished frame
apart : (rest : List ℕ) (excess : ℕ) → IsTooLong rest excess → IsUnfinished rest → ⊥
apart rest excess long more =
    elim more [ inl short ↦ omega (arith, long.whole) | inr less ↦ omega (arith, less.0, long.says, long.above) ]

same_read : (came : List ℕ) (given other_given : List (List ℕ)) (kept other_kept : List ℕ) (ended other_ended : Option FrameError)
    → IsRead came given kept ended → IsRead came other_given other_kept other_ended → ended ≢ Some Memory → other_ended ≢ Some Memory
    → (given ≡ other_given) × (kept ≡ other_kept) × (ended ≡ other_ended)
unfolding IsEnd
same_read came given other_given kept other_kept None None one other lives other_lives =
    let same = one_cut came kept other_kept given other_given one.cut.spelled other.cut.spelled one.cut.within other.cut.within (inl one.more) (inl other.more) in
    (same.given_same, same.rest_same, refl)
same_read came given other_given kept other_kept None (Some (FrameTooLong excess)) one other lives other_lives =
    let same = one_cut came kept other.rest given other_given one.cut.spelled other.cut.spelled one.cut.within other.cut.within (inl one.more) (inr (excess, other.long)) in
    absurd (apart other.rest excess other.long (subst IsUnfinished same.rest_same one.more))
same_read came given other_given kept other_kept (Some (FrameTooLong excess)) None one other lives other_lives =
    let same = one_cut came one.rest other_kept given other_given one.cut.spelled other.cut.spelled one.cut.within other.cut.within (inr (excess, one.long)) (inl other.more) in
    absurd (apart one.rest excess one.long (subst IsUnfinished (sym same.rest_same) other.more))
same_read came given other_given kept other_kept (Some (FrameTooLong excess)) (Some (FrameTooLong other_excess)) one other lives other_lives =
    let same = one_cut came one.rest other.rest given other_given one.cut.spelled other.cut.spelled one.cut.within other.cut.within (inr (excess, one.long)) (inr (other_excess, other.long)) in
    let fields : excess ≡ other_excess = sym one.long.says ∙ ap length_field same.rest_same ∙ other.long.says in
    (same.given_same, one.none ∙ sym other.none, ap (λ (n : ℕ). Some (FrameTooLong n)) fields)
same_read came given other_given kept other_kept (Some Memory) ended one other lives other_lives = absurd (lives refl)
same_read came given other_given kept other_kept ended (Some Memory) one other lives other_lives = absurd (other_lives refl)

pub cut_one_way : AreCutOneWay
cut_one_way came given other_given one other first second lives other_lives =
    let same = same_read came given other_given one.rest other.rest one.ended other.ended first second lives other_lives in
    (same.0, reading_same one.rest other.rest one.ended other.ended same.1 same.2)

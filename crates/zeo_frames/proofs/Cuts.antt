-- Bytes cut into frames, one piece after another.
use Rattle.std.proofs.Common.{◌≡◌, ◌≢◌, ℕ, suc, ◌+◌, ◌-◌, ◌<◌, ◌≤◌, List, [], ◌∷◌, ◌++◌, Option, Some, None, Result, Ok, Err, length, take, drop, refl, sym, ap, subst, ◌∙◌, inl, inr, append_assoc, length-append, arith}
use Rattle.std.specs.List.{flat_map, AllByRecursion}
use Rattle.std.proofs.lemmas.Bool.{cases_lt}
use Rattle.std.proofs.lemmas.List.{append-nil, take-append-drop}
use Rattle.std.proofs.lemmas.List.Concat.{flat_map-append}
use Rattle.byteorder.specs.Endian.{big_bytes}
use Rattle.zeo_frames.specs.declared.limit.TheConstants.{FRAME_LIMIT}
use Rattle.zeo_frames.specs.declared.error.FrameError.{FrameError}
use Rattle.zeo_frames.specs.declared.error.FrameError.TheVariants.{FrameTooLong, Memory}
use Rattle.zeo_frames.specs.Frames.{frame, frames, length_field, IsWithinLimit, AreCut, IsHeld, IsWhole, IsTaken, IsFilled, IsTooLong, IsUnfinished, IsCutOff, IsCutUp, Cuts, IsGoing, IsStopped, IsRead, HasCome, Reading}
use Rattle.zeo_frames.proofs.Filling.{length_field-append}

-- what holds of the items of two lists holds of those of both
pub all_both : {X : Type 0} (P : X → Type 0) (xs ys : List X) → AllByRecursion P xs → AllByRecursion P ys → AllByRecursion P (xs ++ ys)
all_both P [] ys one other = other
all_both P (x ∷ xs) ys one other = (one.0, all_both P xs ys one.1 other)

-- nothing is cut off
pub cut_none : (bytes : List ℕ) → AreCut bytes [] bytes
cut_none bytes = record { spelled = refl; within = tt }

-- what is left is cut on, with more behind it
pub cut_on : (came piece rest left : List ℕ) (given more : List (List ℕ)) → AreCut came given rest → AreCut (rest ++ piece) more left
    → AreCut (came ++ piece) (given ++ more) left
cut_on came piece rest left given more first second =
    record {
      spelled =
          ap (λ (x : List ℕ). x ++ piece) first.spelled ∙ append_assoc (frames given) rest piece
          ∙ ap (λ (x : List ℕ). frames given ++ x) second.spelled ∙ sym (append_assoc (frames given) (frames more) left)
          ∙ ap (λ (x : List ℕ). x ++ left) (sym (flat_map-append frame given more));
      within = all_both IsWithinLimit given more first.within second.within;
    }

-- a length above the limit stands in front of whatever comes
pub long_on : (bytes more : List ℕ) (excess : ℕ) → IsTooLong bytes excess → IsTooLong (bytes ++ more) excess
long_on bytes more excess long =
    record {
      whole = omega (arith, length-append bytes more, long.whole);
      says = length_field-append bytes more long.whole ∙ long.says;
      above = long.above;
    }

-- what is held isn't a whole frame
pub held_unfinished : (head body : List ℕ) → IsHeld head body → IsUnfinished (head ++ body)
held_unfinished head body held =
    let lengths = length-append head body in
    elim (cases_lt (length head) 4) [
      | inl lt ↦ let none = ap length (held.none lt) in inl (omega arith)
      | inr le ↦
          let said = length_field-append head body le in
          let more = held.more le in
          inr (omega (arith, more.0), omega (arith, more.1, held.short))
    ]

-- one frame more was cut off
pub cut_more : (bytes head body held piece : List ℕ) (given : List (List ℕ)) (payload : List ℕ) (count : ℕ)
    → AreCut bytes given (held ++ piece) → IsFilled count held piece head body → frame payload ≡ head ++ body → payload ≡ body
    → AreCut bytes (given ++ payload ∷ []) (drop count piece)
cut_more bytes head body held piece given payload count cut filled spelled same =
    let one : AreCut (head ++ body) (payload ∷ []) [] =
    record { spelled = sym spelled ∙ sym (append-nil (frame payload)) ∙ sym (append-nil (frame payload ++ [])); within = (omega (arith, ap length same, filled.whole.within, filled.whole.all), tt) } in
    let more : AreCut ((head ++ body) ++ drop count piece) (payload ∷ []) (drop count piece) =
    cut_on (head ++ body) (drop count piece) [] (drop count piece) (payload ∷ []) [] one (cut_none (drop count piece)) in
    let text : held ++ piece ≡ (head ++ body) ++ drop count piece =
    ap (λ (x : List ℕ). held ++ x) (sym (take-append-drop count piece)) ∙ sym (append_assoc held (take count piece) (drop count piece))
    ∙ ap (λ (x : List ℕ). x ++ drop count piece) (sym filled.text) in
    let whole : AreCut (held ++ piece) (payload ∷ []) (drop count piece) = subst (λ (x : List ℕ). AreCut x (payload ∷ []) (drop count piece)) (sym text) more in
    let all = cut_on bytes [] (held ++ piece) (drop count piece) given (payload ∷ []) cut (subst (λ (x : List ℕ). AreCut x (payload ∷ []) (drop count piece)) (sym (append-nil (held ++ piece))) whole) in
    subst (λ (x : List ℕ). AreCut x (given ++ payload ∷ []) (drop count piece)) (append-nil bytes) all

-- the whole piece was taken
pub cut_all : (bytes head body held piece : List ℕ) (given : List (List ℕ)) → AreCut bytes given (held ++ piece) → IsTaken held piece head body
    → IsCutUp bytes given head body
cut_all bytes head body held piece given cut taken =
    record { cut = subst (λ (x : List ℕ). AreCut bytes given x) (sym taken.text) cut; kept = taken.kept }

-- ---- all that came

-- of what came before and a piece, where reading goes on
pub come_on : (came given_rest piece head body : List ℕ) (given more : List (List ℕ)) → IsGoing came given given_rest
    → IsCutUp (given_rest ++ piece) more head body → IsGoing (came ++ piece) (given ++ more) (head ++ body)
come_on came rest piece head body given more before cut =
    record { cut = cut_on came piece rest (head ++ body) given more before.cut cut.cut; more = held_unfinished head body cut.kept }

-- and where it stops
pub come_off : (came given_rest piece kept : List ℕ) (given more : List (List ℕ)) (excess : ℕ) → IsGoing came given given_rest
    → IsCutOff (given_rest ++ piece) more excess → kept ≡ [] → IsStopped (came ++ piece) (given ++ more) excess kept
come_off came rest piece kept given more excess before cut none =
    record { rest = cut.rest; cut = cut_on came piece rest cut.rest given more before.cut cut.cut; long = cut.long; none = none }

-- what has stopped stays so
pub come_after : (came piece kept : List ℕ) (given : List (List ℕ)) (excess : ℕ) → IsStopped came given excess kept
    → IsStopped (came ++ piece) (given ++ []) excess kept
come_after came piece kept given excess before =
    record {
      rest = before.rest ++ piece;
      cut = cut_on came piece before.rest (before.rest ++ piece) given [] before.cut (cut_none (before.rest ++ piece));
      long = long_on before.rest piece excess before.long;
      none = before.none;
    }

pub come_ended : (came piece : List ℕ) (given : List (List ℕ)) (kept : List ℕ) (error : FrameError) → IsRead came given kept (Some error)
    → IsRead (came ++ piece) (given ++ []) kept (Some error)
come_ended came piece given kept (FrameTooLong excess) before = come_after came piece kept given excess before
come_ended came piece given kept Memory before = tt

-- what came before and a piece that was cut up whole
pub come_named : (came rest piece head body : List ℕ) (given more : List (List ℕ)) (ended : Option FrameError) (excess : Option ℕ) → ended ≡ None → excess ≡ None
    → IsRead came given rest ended → Cuts (rest ++ piece) more excess head body → IsRead (came ++ piece) (given ++ more) (head ++ body) ended
come_named came rest piece head body given more None None e f before cut = come_on came rest piece head body given more before cut
come_named came rest piece head body given more None (Some excess) e f before cut = absurd (cc)
come_named came rest piece head body given more (Some error) excess e f before cut = absurd (cc)

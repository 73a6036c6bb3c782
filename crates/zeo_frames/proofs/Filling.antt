-- A piece behind what has come of a frame.
use Rattle.std.proofs.Common.{◌≡◌, ℕ, suc, ◌+◌, ◌-◌, ◌<◌, ◌≤◌, List, [], ◌∷◌, ◌++◌, length, take, drop, min, refl, sym, ap, subst, ◌∙◌, inl, inr, append_assoc, length-append, length-take, length-drop, arith}
use Rattle.std.proofs.Math.Seq.{take-add}
use Rattle.std.proofs.lemmas.Bool.{cases_lt}
use Rattle.std.proofs.lemmas.List.{append-nil, take_all, take-append-drop}
use Rattle.byteorder.specs.Endian.{big_bytes}
use Rattle.byteorder.specs.Numbers.{big_from-append}
use Rattle.zeo_frames.specs.declared.limit.TheConstants.{FRAME_LIMIT}
use Rattle.zeo_frames.specs.Frames.{frame, length_field, IsHeld, IsWhole, IsTaken, IsFilled, IsTooLong, IsUnfinished}

-- a length reads no byte behind its own
pub length_field-append : (bytes more : List ℕ) → 4 ≤ length bytes → length_field (bytes ++ more) ≡ length_field bytes
length_field-append bytes more h = big_from-append 4 bytes more h

-- where the length is whole, nothing more is taken for it; else nothing has come of the payload
text_of : (head body piece : List ℕ) (first : ℕ) → IsHeld head body → first ≡ min (4 - length head) (length piece)
    → (head ++ take first piece) ++ (body ++ drop first piece) ≡ (head ++ body) ++ piece
text_of head body piece first held count =
    elim (cases_lt (length head) 4) [
      | inl lt ↦
          rw (held.none lt, append-nil head, append_assoc head (take first piece) (drop first piece), take-append-drop first piece) refl
      | inr le ↦
          let zero_taken : first ≡ 0 = omega arith in
          rw (zero_taken, append-nil head, append_assoc head body piece) refl
    ]

-- what is taken for the length and then for the payload stands behind what was there
pub both_taken : (head body piece : List ℕ) (first second : ℕ) → IsHeld head body → first ≡ min (4 - length head) (length piece)
    → (head ++ take first piece) ++ (body ++ take second (drop first piece)) ≡ (head ++ body) ++ take (first + second) piece
both_taken head body piece first second held count =
    elim (cases_lt (length head) 4) [
      | inl lt ↦
          rw (held.none lt, append-nil head, append_assoc head (take first piece) (take second (drop first piece)), take-add first second piece) refl
      | inr le ↦
          let zero_taken : first ≡ 0 = omega arith in
          let zero_and : 0 + second ≡ second = omega arith in
          rw (zero_taken, zero_and, append-nil head, append_assoc head body (take second piece)) refl
    ]

-- the length that was completed by a piece stands in front of all
pub long_stands : (head body piece : List ℕ) (first excess : ℕ) → IsHeld head body → first ≡ min (4 - length head) (length piece)
    → 4 ≤ length (head ++ take first piece) → excess ≡ length_field (head ++ take first piece) → FRAME_LIMIT < excess
    → IsTooLong ((head ++ body) ++ piece) excess
long_stands head body piece first excess held count four says above =
    let text = text_of head body piece first held count in
    let lengths = ap length text in
    let said = length_field-append (head ++ take first piece) (body ++ drop first piece) four in
    record {
      whole = omega (arith, lengths, length-append (head ++ take first piece) (body ++ drop first piece));
      says = ap length_field (sym text) ∙ said ∙ sym says;
      above = above;
    }

-- the piece ended before the frame
pub all_taken : (head body piece : List ℕ) (first second size : ℕ) → IsHeld head body → first ≡ min (4 - length head) (length piece)
    → 4 ≤ length (head ++ take first piece) → size ≡ length_field (head ++ take first piece) → size ≤ FRAME_LIMIT
    → second ≡ min (size - length body) (length (drop first piece))
    → length (body ++ take second (drop first piece)) < size
    → IsTaken (head ++ body) piece (head ++ take first piece) (body ++ take second (drop first piece))
all_taken head body piece first second size held count four says within more less =
    let lengths = length-append body (take second (drop first piece)) in
    let taken = length-take second (drop first piece) in
    let left = length-drop first piece in
    let heads = length-append head (take first piece) in
    let front = length-take first piece in
    let all : length piece ≤ first + second = omega arith in
    let whole = take_all (first + second) piece all in
    let text = both_taken head body piece first second held count in
    record {
      text = text ∙ ap (λ (x : List ℕ). (head ++ body) ++ x) whole;
      kept = record {
        short = omega (arith, held.short);
        none = λ lt. absurd (omega arith);
        more = λ le. (omega arith, omega arith);
      };
    }

-- the body is not longer than the length says
body_within : (head body piece : List ℕ) (first size : ℕ) → IsHeld head body → first ≡ min (4 - length head) (length piece)
    → size ≡ length_field (head ++ take first piece) → length body ≤ size
body_within head body piece first size held count says =
    elim (cases_lt (length head) 4) [
      | inl lt ↦ let none = ap length (held.none lt) in omega arith
      | inr le ↦
          let said = length_field-append head (take first piece) le in
          let less = (held.more le).1 in
          omega arith
    ]

-- some byte was missing
some_missing : (head body piece : List ℕ) (first second size : ℕ) → IsHeld head body → first ≡ min (4 - length head) (length piece)
    → 4 ≤ length head + first → size ≡ length_field (head ++ take first piece) → size ≤ length body + second → 0 < first + second
some_missing head body piece first second size held count four says enough =
    elim (cases_lt (length head) 4) [
      | inl lt ↦ omega arith
      | inr le ↦
          let said = length_field-append head (take first piece) le in
          let less = (held.more le).1 in
          omega arith
    ]

-- the frame became whole
pub all_filled : (head body piece : List ℕ) (first second size : ℕ) → IsHeld head body → first ≡ min (4 - length head) (length piece)
    → 4 ≤ length (head ++ take first piece) → size ≡ length_field (head ++ take first piece) → size ≤ FRAME_LIMIT
    → (length (head ++ take first piece) ≡ 4 → big_bytes 4 (length_field (head ++ take first piece)) ≡ head ++ take first piece)
    → second ≡ min (size - length body) (length (drop first piece))
    → size ≤ length (body ++ take second (drop first piece))
    → IsFilled (first + second) (head ++ body) piece (head ++ take first piece) (body ++ take second (drop first piece))
all_filled head body piece first second size held count four says within spelled more enough =
    let lengths = length-append body (take second (drop first piece)) in
    let taken = length-take second (drop first piece) in
    let left = length-drop first piece in
    let heads = length-append head (take first piece) in
    let front = length-take first piece in
    let just : length (head ++ take first piece) ≡ 4 = omega (arith, held.short) in
    let short = body_within head body piece first size held count says in
    record {
      some = some_missing head body piece first second size held count (omega arith) says (omega arith);
      within = omega arith;
      text = both_taken head body piece first second held count;
      whole = record { spelled = spelled just; within = omega arith; all = omega arith };
    }

-- ---- the same, where what was taken has names

pub long_named : (head body piece new_head : List ℕ) (first excess : ℕ) → IsHeld head body → first ≡ min (4 - length head) (length piece)
    → new_head ≡ head ++ take first piece → 4 ≤ length new_head → excess ≡ length_field new_head → FRAME_LIMIT < excess
    → IsTooLong ((head ++ body) ++ piece) excess
long_named head body piece new_head first excess held count named four says above =
    long_stands head body piece first excess held count
    (subst (λ (x : List ℕ). 4 ≤ length x) named four) (says ∙ ap length_field named) above

pub taken_named : (head body piece new_head rest new_body : List ℕ) (first second size : ℕ) → IsHeld head body → first ≡ min (4 - length head) (length piece)
    → new_head ≡ head ++ take first piece → rest ≡ drop first piece → new_body ≡ body ++ take second rest
    → 4 ≤ length new_head → size ≡ length_field new_head → size ≤ FRAME_LIMIT → second ≡ min (size - length body) (length rest) → length new_body < size
    → IsTaken (head ++ body) piece new_head new_body
taken_named head body piece new_head rest new_body first second size held count named left more four says within second_count less =
    let bodies : new_body ≡ body ++ take second (drop first piece) = more ∙ ap (λ (x : List ℕ). body ++ take second x) left in
    let taken = all_taken head body piece first second size held count
    (subst (λ (x : List ℕ). 4 ≤ length x) named four) (says ∙ ap length_field named) within
    (second_count ∙ ap (λ (x : List ℕ). min (size - length body) (length x)) left)
    (subst (λ (x : List ℕ). length x < size) bodies less) in
    let with_head : IsTaken (head ++ body) piece new_head (body ++ take second (drop first piece)) =
    subst (λ (x : List ℕ). IsTaken (head ++ body) piece x (body ++ take second (drop first piece))) (sym named) taken in
    subst (λ (x : List ℕ). IsTaken (head ++ body) piece new_head x) (sym bodies) with_head

pub filled_named : (head body piece new_head rest new_body : List ℕ) (first second size : ℕ) → IsHeld head body → first ≡ min (4 - length head) (length piece)
    → new_head ≡ head ++ take first piece → rest ≡ drop first piece → new_body ≡ body ++ take second rest
    → 4 ≤ length new_head → size ≡ length_field new_head → size ≤ FRAME_LIMIT
    → (length new_head ≡ 4 → big_bytes 4 (length_field new_head) ≡ new_head)
    → second ≡ min (size - length body) (length rest) → size ≤ length new_body
    → IsFilled (first + second) (head ++ body) piece new_head new_body
filled_named head body piece new_head rest new_body first second size held count named left more four says within spelled second_count enough =
    let bodies : new_body ≡ body ++ take second (drop first piece) = more ∙ ap (λ (x : List ℕ). body ++ take second x) left in
    let filled = all_filled head body piece first second size held count
    (subst (λ (x : List ℕ). 4 ≤ length x) named four) (says ∙ ap length_field named) within
    (subst (λ (x : List ℕ). length x ≡ 4 → big_bytes 4 (length_field x) ≡ x) named spelled)
    (second_count ∙ ap (λ (x : List ℕ). min (size - length body) (length x)) left)
    (subst (λ (x : List ℕ). size ≤ length x) bodies enough) in
    let with_head : IsFilled (first + second) (head ++ body) piece new_head (body ++ take second (drop first piece)) =
    subst (λ (x : List ℕ). IsFilled (first + second) (head ++ body) piece x (body ++ take second (drop first piece))) (sym named) filled in
    subst (λ (x : List ℕ). IsFilled (first + second) (head ++ body) piece new_head x) (sym bodies) with_head

-- What is sent for a reply are frames of messages that may come.
use Rattle.std.proofs.Common.{◌≡◌, ℕ, ◌-◌, ◌≤◌, ◌<◌, ◌^◌, Bool, true, false, cond, List, [], ◌∷◌, ◌++◌, map, Option, Some, length, length-append, refl, sym, ap, subst, ◌∙◌, arith}
use Rattle.std.specs.Prelude.{codes, nat_eq, nat_le, nat_lt}
use Rattle.std.specs.List.{concat}
use Rattle.std.proofs.lemmas.Bool.{and_from, eq-eqb, leb-true, lt-ltb, ltb-false, ltb-true}
use Rattle.zb_model.specs.declared.refusal.Refusal.TheVariants as refusals
use Rattle.zodb_core.specs.declared.reply.Reply.{Reply}
use Rattle.zodb_core.specs.declared.reply.Reply.TheVariants as replies
use Rattle.zeo_frames.specs.declared.limit.TheConstants.{FRAME_LIMIT}
use Rattle.zeo_frames.specs.Frames.{frame, frames}
use Rattle.zeo_messages.specs.declared.answer.Answer.{Answer}
use Rattle.zeo_messages.specs.declared.answer.Answer.TheVariants as answers
use Rattle.zeo_messages.specs.declared.call.Call.{Call}
use Rattle.zeo_messages.specs.declared.message.Message.{Message}
use Rattle.zeo_messages.specs.declared.message.Message.TheVariants.{Answered, Told}
use Rattle.zeo_messages.specs.declared.message.Notice.{Notice}
use Rattle.zeo_messages.specs.Answers.{HoldsAnswer, fits_answer, value_of}
use Rattle.zeo_messages.specs.LengthLaws.{answer_counted, payload_length}
use Rattle.zeo_messages.specs.Messages.{payload_of, payload_with}
use Rattle.zeo_values.specs.LengthLaws.{count_of_four, count_of_one, count_of_two, count_short, long_bytes_length, zero_length}
use Rattle.zeo_values.specs.Values.{bytes_text, count_text, id_text, maybe_text, name_text}
use Rattle.zeo_news.specs.Notices.{notice_frame, notice_payload}
use Rattle.zeo_desk.specs.declared.asked.Asked.{Asked}
use Rattle.zeo_desk.specs.Answering.{answer_frame, answer_to, counted_length, frames_before, in_place_of, is_allowed, reply_frames, sent_answer, within_frame}
use Rattle.zeo_client.specs.Rows.{answers_call}
use Rattle.zeo_client.specs.Whole.{MayBeSent}
use Rattle.remote_loads.specs.Sending.{messages_of, notices_before}

-- ---- frames

news_are : (reply : Reply) → frames_before reply ≡ map notice_frame (notices_before reply)
news_are (replies.Front front news switches) = refl
news_are _ = refl

notice_is : (notice : Notice) → notice_frame notice ≡ frame (payload_of (Told notice))
unfolding notice_payload
notice_is notice = refl

one_frame : (p : List ℕ) → concat (frame p ∷ []) ≡ frames (p ∷ [])
one_frame p = refl

joined : (notices : List Notice) (last : Message) → concat (map notice_frame notices ++ frame (payload_of last) ∷ []) ≡ frames (map payload_of (map (λ n. Told n) notices ++ last ∷ []))
joined [] last = one_frame (payload_of last)
joined (n ∷ notices) last = ap (λ (xs : List ℕ). xs ++ concat (map notice_frame notices ++ frame (payload_of last) ∷ [])) (notice_is n) ∙ ap (λ (xs : List ℕ). frame (payload_of (Told n)) ++ xs) (joined notices last)

pub frames_are : (number : ℕ) (a : Asked) (reply : Reply) → concat (reply_frames number a reply) ≡ frames (map payload_of (messages_of number a reply))
frames_are number a reply =
    ap (λ (xs : List (List ℕ)). concat (xs ++ answer_frame number (sent_answer a (answer_to a reply)) ∷ [])) (news_are reply) ∙ joined (notices_before reply) (Answered number (sent_answer a (answer_to a reply)))

-- ---- how long an answer is

number_length : (number : ℕ) → number < 2 ^ 31 → length (count_text number) ≤ 5
number_length number low = by_small (nat_lt number 256) refl
  where
    by_middle : 256 ≤ number → (b : Bool) → nat_lt number 65536 ≡ b → length (count_text number) ≤ 5
    by_middle above true is = let a = count_of_two number above (ltb-true number 65536 is) in omega (arith, a)
    by_middle above false is = let a = count_of_four number (ltb-false number 65536 is) low in omega (arith, a)

    by_small : (b : Bool) → nat_lt number 256 ≡ b → length (count_text number) ≤ 5
    by_small true is = let a = count_of_one number (ltb-true number 256 is) in omega (arith, a)
    by_small false is = by_middle (ltb-false number 256 is) (nat_lt number 65536) refl

error_length : length (name_text (codes ".error")) ≡ 11
unfolding name_text
error_length = refl

bad_message_length : length (name_text (codes "BadMessage")) ≡ 15
unfolding name_text
bad_message_length = refl

too_long_length : length (name_text (codes "TooLong")) ≡ 12
unfolding name_text
too_long_length = refl

short_refusal : (number : ℕ) (value : List ℕ) → length value ≤ 100 → length (payload_with number 0 (codes ".error") value) ≤ FRAME_LIMIT
short_refusal number value h =
    let a = payload_length number 0 (codes ".error") value in
    let b = count_short number in
    let c = zero_length in
    let d = error_length in
    omega (arith, a, b, c, d, h)

bad_message_within : (number : ℕ) → length (payload_of (Answered number (answers.Refused refusals.BadMessage))) ≤ FRAME_LIMIT
bad_message_within number =
    let a = length-append (name_text (codes "BadMessage")) (0x85 ∷ []) in
    let b = bad_message_length in
    short_refusal number (value_of (answers.Refused refusals.BadMessage)) (omega (arith, a, b))

too_long_within : (number n : ℕ) → length (payload_of (Answered number (answers.Refused (refusals.TooLong n)))) ≤ FRAME_LIMIT
too_long_within number n =
    let a = length-append (name_text (codes "TooLong")) (count_text n ++ 0x86 ∷ []) in
    let b = length-append (count_text n) (0x86 ∷ []) in
    let c = count_short n in
    let d = too_long_length in
    short_refusal number (value_of (answers.Refused (refusals.TooLong n))) (omega (arith, a, b, c, d))

-- ---- an answer that is sent

-- what holds of an answer that is one of its row and fits a frame, and of the refusals that may stand in its place, holds of what is sent
module _ (P : Answer → Type 0) (a : Asked) (answer : Answer) (refuses : (n : ℕ) → in_place_of a n ≡ answers.Refused (refusals.TooLong n)) where
  pub by_sent : (is_allowed answer ≡ true → counted_length answer ≤ FRAME_LIMIT → P answer) → ((n : ℕ) → P (answers.Refused (refusals.TooLong n))) → P (answers.Refused refusals.BadMessage) → P (sent_answer a answer)
  by_sent whole long bad = by_row (is_allowed answer) refl
    where
      by_length : is_allowed answer ≡ true → (b : Bool) → nat_le (counted_length answer) FRAME_LIMIT ≡ b → P (cond b answer (in_place_of a (counted_length answer)))
      by_length row true short = whole row (leb-true (counted_length answer) FRAME_LIMIT short)
      by_length row false short = subst (λ (x : Answer). P x) (sym (refuses (counted_length answer))) (long (counted_length answer))

      by_row : (b : Bool) → is_allowed answer ≡ b → P (cond b (within_frame a answer (counted_length answer)) (answers.Refused refusals.BadMessage))
      by_row true row = by_length row (nat_le (counted_length answer) FRAME_LIMIT) refl
      by_row false row = bad

-- a record within a frame has fewer bytes than its length can say
short_record : (bytes : List ℕ) (serial : ℕ) (end : Option ℕ) (upto : ℕ) → counted_length (answers.Loaded bytes serial end upto) ≤ FRAME_LIMIT → nat_lt (length bytes) (2 ^ 32) ≡ true
short_record bytes serial end upto short = by_few (nat_lt (length bytes) 256) refl
  where
    by_few : (b : Bool) → nat_lt (length bytes) 256 ≡ b → nat_lt (length bytes) (2 ^ 32) ≡ true
    by_few true is = let few = ltb-true (length bytes) 256 is in lt-ltb (length bytes) (2 ^ 32) (omega (arith, few))
    by_few false is =
        let a = payload_length (2 ^ 31 - 1) 0 (codes ".reply") (value_of (answers.Loaded bytes serial end upto)) in
        let b = length-append (bytes_text bytes) (id_text serial ++ (maybe_text id_text end ++ (id_text upto ++ 0x74 ∷ []))) in
        let c = long_bytes_length bytes (ltb-false (length bytes) 256 is) in
        lt-ltb (length bytes) (2 ^ 32) (omega (arith, a, b, c, short))

-- it says what its row allows
allowed_fits : (answer : Answer) → is_allowed answer ≡ true → counted_length answer ≤ FRAME_LIMIT → fits_answer answer ≡ true
allowed_fits (answers.Loaded bytes serial end upto) row short = short_record bytes serial end upto short
allowed_fits answer row short = row

same_number : (n : ℕ) → nat_eq n n ≡ true
same_number n = eq-eqb n n refl

-- an answer of a call's row, or a refusal in its place, may come behind that call
pub answer_comes : (number : ℕ) (call : Call) (a : Asked) (answer : Answer) → ((n : ℕ) → in_place_of a n ≡ answers.Refused (refusals.TooLong n)) → number < 2 ^ 31
    → HoldsAnswer (sent_answer a answer) → answers_call call answer ≡ true → MayBeSent number (Some call) (Answered number (sent_answer a answer))
answer_comes number call a answer refuses low held row = record {
  held = held;
  row = and_from (nat_lt number (2 ^ 31)) (fits_answer (sent_answer a answer)) (lt-ltb number (2 ^ 31) low) (by_sent (λ x. fits_answer x ≡ true) a answer refuses (allowed_fits answer) (λ n. refl) refl);
  may = and_from (nat_eq number number) (answers_call call (sent_answer a answer)) (same_number number) (by_sent (λ x. answers_call call x ≡ true) a answer refuses (λ allowed short. row) (λ n. refl) refl);
  within = by_sent (λ x. length (payload_of (Answered number x)) ≤ FRAME_LIMIT) a answer refuses within (too_long_within number) (bad_message_within number);
}
  where
    within : is_allowed answer ≡ true → counted_length answer ≤ FRAME_LIMIT → length (payload_of (Answered number answer)) ≤ FRAME_LIMIT
    within allowed short = let a = answer_counted number answer in let b = number_length number low in omega (arith, a, b, short)

-- Which answer is sent, by the tests that are made.
use Rattle.std.proofs.Common.{◌≡◌, ℕ, ◌<◌, ◌≤◌, ◌^◌, true, false, List, Option, length, refl, sym, arith}
use Rattle.std.proofs.lemmas.Bool.{le-leb, lt-leb, lt-ltb}
use Rattle.zb_model.specs.declared.refusal.Refusal.TheVariants as refusals
use Rattle.zeo_frames.specs.declared.limit.TheConstants.{FRAME_LIMIT}
use Rattle.zeo_messages.specs.declared.answer.Answer.{Answer}
use Rattle.zeo_messages.specs.declared.answer.Answer.TheVariants as answers
use Rattle.zeo_messages.specs.Answers.{fits_answer}
use Rattle.zeo_desk.specs.declared.asked.Asked.{Asked}
use Rattle.zeo_desk.specs.Answering.{counted_length, in_place_of, is_allowed, sent_answer}

pub sent_whole : (a : Asked) (answer : Answer) → is_allowed answer ≡ true → counted_length answer ≤ FRAME_LIMIT → sent_answer a answer ≡ answer
sent_whole a answer h k = rw h (rw (le-leb (counted_length answer) FRAME_LIMIT k) refl)

pub sent_long : (a : Asked) (answer : Answer) (n : ℕ) → is_allowed answer ≡ true → counted_length answer ≡ n → FRAME_LIMIT < n → sent_answer a answer ≡ in_place_of a n
sent_long a answer n h e k = rw h (rw e (rw (lt-leb n FRAME_LIMIT k) refl))

pub sent_bad : (a : Asked) (answer : Answer) → is_allowed answer ≡ false → sent_answer a answer ≡ answers.Refused refusals.BadMessage
sent_bad a answer h = rw h refl

-- a record that isn't longer than a frame is allowed
pub record_allowed : (bytes : List ℕ) (serial : ℕ) (end : Option ℕ) (upto : ℕ) → length bytes ≤ FRAME_LIMIT
    → is_allowed (answers.Loaded bytes serial end upto) ≡ fits_answer (answers.Loaded bytes serial end upto)
record_allowed bytes serial end upto h = sym (lt-ltb (length bytes) (2 ^ 32) (omega (arith, h)))

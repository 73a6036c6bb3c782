-- What the rows of calls and answers say of them.
use Rattle.std.proofs.Common.{◌≡◌, ℕ, ◌<◌, ◌≤◌, ◌^◌, true, false, ◌&&◌, List, [], ◌∷◌, length, arith}
use Rattle.std.specs.Prelude.{nat_lt}
use Rattle.std.proofs.lemmas.Bool.{and_from, and_parts, lt-ltb, ltb-true}
use Rattle.zodb_core.specs.HubState.{IsFitting}
use Rattle.zodb_core.specs.declared.request.Request.TheVariants as requests
use Rattle.zeo_messages.specs.declared.call.Call.{Call}
use Rattle.zeo_messages.specs.declared.call.Call.TheVariants as calls
use Rattle.zeo_messages.specs.declared.answer.Answer.{Answer}
use Rattle.zeo_messages.specs.declared.message.Message.TheVariants.{Asked, Answered}
use Rattle.zeo_messages.specs.Calls.{fits_call, is_falling, is_filled, is_short}
use Rattle.zeo_messages.specs.Answers.{fits_answer}
use Rattle.zeo_messages.specs.Messages.{fits, is_number}

pub number_fits : (number : ℕ) (call : Call) → fits (Asked number call) ≡ true → number < 2 ^ 31
number_fits number call h = ltb-true number (2 ^ 31) (and_parts (is_number number) (fits_call call) h).0

pub call_fits : (number : ℕ) (call : Call) → fits (Asked number call) ≡ true → fits_call call ≡ true
call_fits number call h = (and_parts (is_number number) (fits_call call) h).1

-- ---- the fields of calls

filled_length : (bytes : List ℕ) → is_filled bytes ≡ true → 0 < length bytes
filled_length [] h = absurd (cc)
filled_length (b ∷ bytes) h = omega arith

pub store_filled : (oid base : ℕ) (bytes : List ℕ) → fits_call (calls.Storea oid base bytes) ≡ true → 0 < length bytes
store_filled oid base bytes h = filled_length bytes (and_parts (is_filled bytes) (nat_lt (length bytes) (2 ^ 32)) h).0

short_length : (text : List ℕ) → is_short text ≡ true → length text ≤ 65535
short_length text h = let e = ltb-true (length text) 65536 h in omega (arith, e)

pub record AreShort (user description extension : List ℕ) : Type 0 where
  pub short_user : length user ≤ 65535
  pub short_description : length description ≤ 65535
  pub short_extension : length extension ≤ 65535

pub texts_short : (user description extension : List ℕ) → fits_call (calls.TpcBegin user description extension) ≡ true → AreShort user description extension
texts_short user description extension h =
    let first = and_parts (is_short user) (is_short description && is_short extension) h in
    let second = and_parts (is_short description) (is_short extension) first.1 in
    record { short_user = short_length user first.0; short_description = short_length description second.0; short_extension = short_length extension second.1 }

pub oids_fit : (count : ℕ) → fits_call (calls.NewOids count) ≡ true → IsFitting (requests.NewOids count)
oids_fit count h =
    let both = and_parts (nat_lt 0 count) (nat_lt count 101) h in
    let below = ltb-true count 101 both.1 in
    (ltb-true 0 count both.0, omega (arith, below))

pub undo_fits : (user description tids : List ℕ) → fits_call (calls.Undoa user description tids) ≡ true → IsFitting (requests.Undo user description tids)
undo_fits user description tids h =
    let first = and_parts (is_short user) (is_short description && is_falling tids) h in
    let second = and_parts (is_short description) (is_falling tids) first.1 in
    (short_length user first.0, short_length description second.0)

-- ---- answers

pub answer_fits : (number : ℕ) (answer : Answer) → number < 2 ^ 31 → fits_answer answer ≡ true → fits (Answered number answer) ≡ true
answer_fits number answer h k = and_from (is_number number) (fits_answer answer) (lt-ltb number (2 ^ 31) h) k

pub row_allowed : (number : ℕ) (answer : Answer) → fits (Answered number answer) ≡ true → fits_answer answer ≡ true
row_allowed number answer h = (and_parts (is_number number) (fits_answer answer) h).1

pub row_refused : (number : ℕ) (answer : Answer) → number < 2 ^ 31 → fits (Answered number answer) ≡ false → fits_answer answer ≡ false
row_refused number answer h k = rw (lt-ltb number (2 ^ 31) h) at k

-- What an answer says to a remote client. Own.
use Rattle.std.specs.Prelude.{ℕ, List, [], ◌∷◌, Option, Some, None, Result, Ok, Err}
use Rattle.zb_model.specs.declared.refusal.Refusal.{Refusal}
use Rattle.zb_model.specs.declared.refusal.Refusal.TheVariants as refusal
use Rattle.connection_view.specs.declared.loads.Loaded.{Loaded}
use Rattle.connection_view.specs.declared.loads.Loaded.TheVariants as loaded
use Rattle.zeo_messages.specs.declared.answer.Answer.{Answer}
use Rattle.zeo_messages.specs.declared.answer.Answer.TheVariants as answers
use Rattle.remote_loads.specs.Causes.{far_refusal}

-- why a call is refused by an answer that doesn't serve it
abbrev pub refusal_in : Answer → Refusal
refusal_in (answers.Refused r) = far_refusal r
refusal_in answer = refusal.BadMessage

abbrev pub load_answer : Answer → Result Loaded Refusal
load_answer (answers.Loaded bytes serial end upto) = Ok (loaded.Held serial bytes)
load_answer (answers.Nothing switches) = Ok (loaded.Nothing switches)
load_answer answer = Err (refusal_in answer)

abbrev pub first_oid : List ℕ → Result ℕ Refusal
first_oid [] = Err refusal.BadMessage
first_oid (oid ∷ oids) = Ok oid

abbrev pub oid_answer : Answer → Result ℕ Refusal
oid_answer (answers.Oids oids) = first_oid oids
oid_answer answer = Err (refusal_in answer)

abbrev pub done_answer : Answer → Result (Unit {0}) Refusal
done_answer answers.Done = Ok tt
done_answer answer = Err (refusal_in answer)

abbrev pub tid_answer : Answer → Result ℕ Refusal
tid_answer (answers.OneTid tid) = Ok tid
tid_answer answer = Err (refusal_in answer)

abbrev pub finish_answer : Answer → Result (Option ℕ) Refusal
finish_answer (answers.OneTid tid) = Ok (Some tid)
finish_answer answers.Done = Ok None
finish_answer answer = Err (refusal_in answer)

abbrev pub count_answer : Answer → Result ℕ Refusal
count_answer (answers.TidAndCount tid count) = Ok tid
count_answer answer = Err (refusal_in answer)

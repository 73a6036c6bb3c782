-- How a call of a local client ends is how its step ended. For the proofs of those who count faults.
use Rattle.std.proofs.Common.{◌≡◌, Option, Result, Ok, Err, refl}
use Rattle.zb_model.specs.declared.refusal.Refusal.{Refusal}
use Rattle.zb_model.specs.declared.refusal.Refusal.TheVariants as refusal
use Rattle.zodb_core.specs.declared.reply.Reply.{Reply}
use Rattle.zodb_core.specs.declared.reply.Reply.TheVariants as reply
use Rattle.zodb_core.specs.Outcomes.{Answered, StepOutcome, outcome_of, outcome_of_refusal}
use Rattle.local_loads.specs.declared.told.Told.{Told}
use Rattle.local_loads.specs.Answers.{abort_answer, finish_answer, front_answer, load_answer, oid_answer, refusal_in, server_refusal, vote_answer}

-- what an answer says of its step
abbrev pub outcome_of_answer : {T : Type 0} → Result T Refusal → StepOutcome
outcome_of_answer (Ok x) = Answered
outcome_of_answer (Err why) = outcome_of_refusal why

pub server_outcome : (why : Refusal) → outcome_of_refusal (server_refusal why) ≡ outcome_of_refusal why
server_outcome (refusal.Missing oid packed) = refl
server_outcome refusal.NoTransaction = refl
server_outcome refusal.InTransaction = refl
server_outcome (refusal.NoSavepoint number) = refl
server_outcome (refusal.Mixed stores) = refl
server_outcome (refusal.NotATree oid) = refl
server_outcome (refusal.NodeMissing oid) = refl
server_outcome refusal.BadKey = refl
server_outcome _ = refl

refusal_outcome : (r : Reply) → outcome_of_refusal (refusal_in r) ≡ outcome_of r
refusal_outcome (reply.Refused why) = server_outcome why
refusal_outcome _ = refl

pub front_outcome : (t : Option Told) (r : Reply) → outcome_of_answer (front_answer t r) ≡ outcome_of r
front_outcome t (reply.Front front news switches) = refl
front_outcome t r = refusal_outcome r

pub load_outcome : (r : Reply) → outcome_of_answer (load_answer r) ≡ outcome_of r
load_outcome (reply.Loaded serial bytes end upto) = refl
load_outcome (reply.Nothing oid switches) = refl
load_outcome r = refusal_outcome r

pub oid_outcome : (r : Reply) → outcome_of_answer (oid_answer r) ≡ outcome_of r
oid_outcome (reply.Oids first count) = refl
oid_outcome r = refusal_outcome r

pub vote_outcome : (r : Reply) → outcome_of_answer (vote_answer r) ≡ outcome_of r
vote_outcome reply.Voted = refl
vote_outcome r = refusal_outcome r

pub finish_outcome : (r : Reply) → outcome_of_answer (finish_answer r) ≡ outcome_of r
finish_outcome (reply.Committed tid) = refl
finish_outcome reply.Empty = refl
finish_outcome r = refusal_outcome r

pub abort_outcome : (r : Reply) → outcome_of_answer (abort_answer r) ≡ outcome_of r
abort_outcome reply.Aborted = refl
abort_outcome r = refusal_outcome r

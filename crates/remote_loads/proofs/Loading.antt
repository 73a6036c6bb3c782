-- What a load of a remote client keeps and answers.
use Rattle.std.proofs.Common.{◌≡◌, inl, inr, ℕ, ◌≤◌, Bool, true, false, List, Option, Some, Ok, Err, refl, sym, ap, subst, ◌∙◌}
use Rattle.std.specs.Prelude.{IfOk, nat_le}
use Rattle.std.proofs.lemmas.Bool.{leb-true}
use Rattle.zb_model.specs.declared.found.Found.{Found}
use Rattle.zb_model.specs.declared.found.Found.TheVariants as found
use Rattle.zb_model.specs.declared.refusal.Refusal.{Refusal}
use Rattle.zb_model.specs.declared.refusal.Refusal.TheVariants as refusal
use Rattle.zb_model.specs.Queries.{found_below}
use Rattle.zodb_core.specs.declared.reply.Reply.{Reply}
use Rattle.zodb_core.specs.declared.reply.Reply.TheVariants as reply
use Rattle.zodb_core.specs.declared.request.Request.TheVariants as request
use Rattle.zodb_core.specs.Machine.{Machine, Rules, front_of}
use Rattle.zodb_core.specs.Outcomes.{FaultCounts, IsStepMade, outcome_of}
use Rattle.zodb_core.specs.Sound.{IsSoundMachine}
use Rattle.zodb_core.specs.Steps.{Stepped, loaded as loaded_reply, step_of}
use Rattle.connection_view.specs.Loading.{IsLoaded}
use Rattle.connection_view.specs.Views.{Client}
use Rattle.zeo_messages.specs.declared.answer.Answer.{Answer}
use Rattle.zeo_messages.specs.declared.answer.Answer.TheVariants as answers
use Rattle.zeo_messages.specs.declared.call.Call.TheVariants as calls
use Rattle.zeo_desk.specs.declared.asked.Asked.TheVariants as asked
use Rattle.zeo_desk.specs.Answering.{reply_answer}
use Rattle.zeo_cache.specs.Intervals.{CachedIntervals}
use Rattle.zeo_serving.specs.declared.standing.Standing.{Standing}
use Rattle.zeo_serving.specs.MayLaws.{answered_step, held_is_loaded, may_step, none_is_loaded}
use Rattle.zeo_serving.specs.Serving.{IsServed, MayBeServed, server_at}
use Rattle.zeo_serving.specs.ServingLaws.{own_keep}
use Rattle.zeo_client.specs.Hearing.{Held, IsAnswerHeard}
use Rattle.zeo_client.specs.SyncLaws.{loads_serve}
use Rattle.remote_loads.specs.Answers.{load_answer}
use Rattle.remote_loads.specs.Carrying.{IsMachineStep}
use Rattle.remote_loads.specs.Talking.{MayBeHeard, answer_sent}
use Rattle.remote_loads.specs.KnownLaws.{known_may}
use Rattle.remote_loads.proofs.Rows.{by_reply}
use Rattle.remote_loads.proofs.Sendings.{by_sent}

-- ---- a client by what it holds

abbrev pub At : Machine → ℕ → Held → Client → Type 0
At m n h c = IsServed m n h.standing h.cache.entries c

abbrev pub MayBeAt : Machine → ℕ → Held → Client → Type 0
MayBeAt m n h c = MayBeServed m n h.standing h.cache.entries c

pub same_at : (m : Machine) (n : ℕ) (old new : Held) (c : Client) → new.cache ≡ old.cache → new.standing ≡ old.standing → At m n old c → At m n new c
same_at m n old new c cache standing x =
    subst (λ (s : Standing). IsServed m n s new.cache.entries c) (sym standing)
    (subst (λ (k : CachedIntervals). IsServed m n old.standing k.entries c) (sym cache) x)

-- ---- an answer that is heard

abbrev Heard : ℕ → ℕ → Answer → Held → Held → Type 0
Heard oid front answer old new = IsAnswerHeard (Some (calls.LoadBefore oid front)) answer old new

module _ (rules : Rules) (m : Machine) (n oid front stamp : ℕ) (made : Stepped) (counts behind : FaultCounts) (step : IsStepMade rules m n (request.LoadBefore oid front) stamp made counts behind) (sound : IsSoundMachine m) (c : Client) (old new : Held) where
  -- hearing what is sent for a reply keeps the client
  abbrev Keeps : Answer → Type 0
  Keeps answer = Heard oid front answer old new → At m n old c → At m n new c

  none_kept : (new.cache ≡ old.cache) × (new.standing ≡ old.standing) → At m n old c → At m n new c
  none_kept heard x = same_at m n old new c heard.0 heard.1 x

  refused_kept : (why : Refusal) → Keeps (answer_sent (reply.Refused why))
  refused_kept why = by_sent Keeps asked.Other (answers.Refused why) (λ n. refl) (λ allowed short. none_kept) (λ n. none_kept) none_kept

  revision_kept : (serial upto : ℕ) (bytes : List ℕ) (end : Option ℕ) → made.reply ≡ reply.Loaded serial bytes end upto → Keeps (answers.Loaded bytes serial end upto)
  revision_kept serial upto bytes end is heard x = by_known (nat_le front old.standing.known) refl
    where
      said : (step_of rules m n (request.LoadBefore oid front) stamp).reply ≡ reply.Loaded serial bytes end upto
      said = sym (ap (λ (s : Stepped). s.reply) (answered_step rules m n (request.LoadBefore oid front) stamp made counts behind (reply.Loaded serial bytes end upto) step is refl)) ∙ is

      by_known : (b : Bool) → nat_le front old.standing.known ≡ b → At m n new c
      by_known true known = loads_serve rules m n oid front stamp serial upto bytes end sound said old new c x (leb-true front old.standing.known known) heard
      by_known false known = none_kept ((rw known at heard.0), heard.1) x

  found_kept : (f : Found) → made.reply ≡ loaded_reply m oid f → Keeps (answer_sent (loaded_reply m oid f))
  found_kept (found.Held serial bytes end) is = by_sent Keeps asked.Other (answers.Loaded bytes serial end (front_of m.list)) (λ n. refl) (λ allowed short. revision_kept serial (front_of m.list) bytes end is) (λ n. none_kept) none_kept
  found_kept (found.Absent serial) is = by_sent Keeps asked.Other (reply_answer asked.Other (loaded_reply m oid (found.Absent serial))) (λ n. refl) (λ allowed short. none_kept) (λ n. none_kept) none_kept
  found_kept found.Nothing is = by_sent Keeps asked.Other (reply_answer asked.Other (loaded_reply m oid found.Nothing)) (λ n. refl) (λ allowed short. none_kept) (λ n. none_kept) none_kept

  heard_kept : Keeps (answer_sent made.reply)
  heard_kept = by_reply (λ r. made.reply ≡ r → Keeps (answer_sent r)) rules m n (request.LoadBefore oid front) stamp made counts behind step (λ none. found_kept (found_below oid front m.list)) (λ why is. refused_kept why) refl

  -- and so where it may not have been heard
  pub load_keeps : MayBeHeard (calls.LoadBefore oid front) (answer_sent made.reply) old new → At m n old c → At m n new c
  load_keeps (inl same) x = subst (λ (h : Held). At m n h c) (sym same) x
  load_keeps (inr heard) x = heard_kept heard x

-- ---- a step with its answer

refused_at : (m : Machine) (n oid front : ℕ) (why : Refusal) (c : Client) (old new : Held) → MayBeHeard (calls.LoadBefore oid front) (answer_sent (reply.Refused why)) old new → At m n old c → At m n new c
refused_at m n oid front why c old new (inl same) x = subst (λ (h : Held). At m n h c) (sym same) x
refused_at m n oid front why c old new (inr heard) x =
    by_sent (λ a. Heard oid front a old new → At m n old c → At m n new c) asked.Other (answers.Refused why) (λ n. refl) (λ allowed short. none) (λ n. none) none heard x
  where
    none : (new.cache ≡ old.cache) × (new.standing ≡ old.standing) → At m n old c → At m n new c
    none heard x = same_at m n old new c heard.0 heard.1 x

pub load_step : (m : Machine) (n oid front : ℕ) (r : Reply) (now : Machine) (c : Client) (old new : Held) → IsMachineStep m n (request.LoadBefore oid front) r now → MayBeHeard (calls.LoadBefore oid front) (answer_sent r) old new
    → MayBeAt m n old c → MayBeAt now n new c
load_step m n oid front r now c old new step heard may =
    let made : Stepped = record { reply = r; machine = step.left; ticks = step.ticks } in
    known_may step.left now n new.standing new.cache.entries c step.known
    (may_step step.rules m n (request.LoadBefore oid front) step.stamp made step.before step.after old.standing new.standing old.cache.entries new.cache.entries c c step.made may (record {
      formed = tt;
      whole = λ sound x.
          own_keep step.rules m n (request.LoadBefore oid front) step.stamp (outcome_of r) sound refl new.standing new.cache.entries c
          (load_keeps step.rules m n oid front step.stamp made step.before step.after step.made sound c old new heard x);
      lost = λ is at sound x. refused_at at n oid front refusal.NotOpen c old new (subst (λ (k : Reply). MayBeHeard (calls.LoadBefore oid front) (answer_sent k) old new) is heard) x;
      front = may.front;
      switches = may.switches;
    }))

-- ---- the answer

err_ok : {T : Type 0} (why : Refusal) (x : T) → Err why ≡ Ok x → ⊥
err_ok why x is = absurd cc

module _ (m : Machine) (n oid front : ℕ) (now : Machine) (c : Client) (old : Held) (may : MayBeAt m n old c) (within : front ≤ c.told.front) where
  abbrev Answers : Answer → Type 0
  Answers a = IfOk (load_answer a) (λ l. IsLoaded oid front c.told (server_at m) l)

  module _ (r : Reply) (step : IsMachineStep m n (request.LoadBefore oid front) r now) where
    abbrev made : Stepped
    made = record { reply = r; machine = step.left; ticks = step.ticks }

    refused_answers : (why : Refusal) → Answers (answer_sent (reply.Refused why))
    refused_answers why = by_sent Answers asked.Other (answers.Refused why) (λ n. refl) (λ allowed short. tt) (λ n. tt) tt

    none_answers : (o switches : ℕ) → r ≡ reply.Nothing o switches → Answers (answer_sent (reply.Nothing o switches))
    none_answers o switches is =
        by_sent Answers asked.Other (answers.Nothing switches) (λ n. refl)
        (λ allowed short. none_is_loaded step.rules m n oid front step.stamp made step.before step.after old.standing old.cache.entries c o switches step.made may is within) (λ n. tt) tt

    found_answers : (f : Found) → r ≡ loaded_reply m oid f → Answers (answer_sent (loaded_reply m oid f))
    found_answers (found.Held serial bytes end) is =
        by_sent Answers asked.Other (answers.Loaded bytes serial end (front_of m.list)) (λ n. refl)
        (λ allowed short. held_is_loaded step.rules m n oid front step.stamp made step.before step.after old.standing old.cache.entries c serial (front_of m.list) bytes end step.made may is within) (λ n. tt) tt
    found_answers (found.Absent serial) is = none_answers oid _ is
    found_answers found.Nothing is = none_answers oid _ is

    pub reply_answers : Answers (answer_sent r)
    reply_answers =
        by_reply (λ x. r ≡ x → Answers (answer_sent x)) step.rules m n (request.LoadBefore oid front) step.stamp made step.before step.after step.made (λ none. found_answers (found_below oid front m.list)) (λ why is. refused_answers why) refl

-- What the loads of a remote client leave, answer and make.
use Rattle.std.proofs.Common.{◌≡◌, inr, ℕ, ◌≤◌, Bool, true, false, cond, List, Option, Some, None, Result, Ok, Err, refl, sym, ap, subst, ◌∙◌}
use Rattle.std.specs.Prelude.{IfOk, nat_le}
use Rattle.std.proofs.lemmas.Bool.{leb-true}
use Rattle.zb_model.specs.declared.refusal.Refusal.{Refusal}
use Rattle.zodb_core.specs.declared.reply.Reply.{Reply}
use Rattle.zodb_core.specs.declared.request.Request.{Request}
use Rattle.zodb_core.specs.declared.request.Request.TheVariants as request
use Rattle.zodb_core.specs.Machine.{Machine}
use Rattle.connection_view.specs.declared.loads.Loaded.{Loaded}
use Rattle.connection_view.specs.declared.loads.Loaded.TheVariants as loaded
use Rattle.connection_view.specs.Loading.{IsLoaded}
use Rattle.connection_view.specs.Views.{Client}
use Rattle.zeo_messages.specs.declared.answer.Answer.{Answer}
use Rattle.zeo_messages.specs.declared.call.Call.{Call}
use Rattle.zeo_messages.specs.declared.call.Call.TheVariants as calls
use Rattle.zeo_messages.specs.Calls.{HoldsCall}
use Rattle.zeo_reading.specs.Reading.{AreReadBack}
use Rattle.zeo_desk.specs.Desks.{DeskState}
use Rattle.zeo_cache.specs.Intervals.{found_at}
use Rattle.zeo_serving.specs.declared.standing.Standing.{Standing}
use Rattle.zeo_serving.specs.MayLaws.{hit_is_loaded, may_alone}
use Rattle.zeo_serving.specs.Serving.{IsServed, server_at}
use Rattle.zeo_serving.specs.VoteLaws.{less_serves}
use Rattle.zeo_client.specs.Hearing.{Held}
use Rattle.zeo_client.specs.Taking.{ClientState}
use Rattle.zeo_client.specs.Whole.{WholePiecesAreHeard}
use Rattle.zeo_client.specs.declared.error.ClientError.{ClientError}
use Rattle.remote_loads.specs.Answers.{load_answer}
use Rattle.remote_loads.specs.Carrying.{IsMachineStep}
use Rattle.remote_loads.specs.Leaving.{LoadLeaves}
use Rattle.remote_loads.specs.Making.{IsLoadMade, IsUsed, MakesOne, answered_so, cached, hit, makes_answered, makes_lost, makes_none, makes_unsent, miss, missed, no_room, starved}
use Rattle.remote_loads.specs.Standing.{IsAtRest, IsWayEnd, Stands}
use Rattle.remote_loads.specs.Talking.{IsCalled, answered, unheard, unmade, unsent}
use Rattle.remote_loads.proofs.Called.{NamesOne, asked_so}
use Rattle.remote_loads.proofs.Loading.{MayBeAt, load_step, reply_answers}
use Rattle.remote_loads.proofs.Rows.{load_row}

-- ---- calls of one step

-- what such a call makes
pub makes_one : {S T : Type 0} (steps : Request → Reply → S → S → Type 0) (request : Request) (call : Call) (answer_of : Answer → Result T Refusal) (before now : S) (old new : Held) (result : Result Answer Refusal)
    → IsCalled steps request call before old result new now → MakesOne steps request call answer_of before (answered_so answer_of result) now
makes_one steps request call answer_of before _ _ _ _ (unsent e why) = makes_unsent e why
makes_one steps request call answer_of before _ _ _ _ (unmade r way) = makes_none r way
makes_one steps request call answer_of before _ _ _ _ (unheard r reply new now way step heard) = makes_lost r reply now way step
makes_one steps request call answer_of before _ _ _ _ (answered reply new now step heard) = makes_answered reply now step

-- ---- the cache in use

used_standing : (old new : ClientState) → IsUsed old new → new.held.standing ≡ old.held.standing
used_standing old new used = ap (λ (k : ClientState). k.held.standing) used.others.0

pub used_rest : (d : DeskState) (old new : ClientState) → IsUsed old new → IsAtRest d old → IsAtRest d new
used_rest d old new used rest =
    let ended : new.ended ≡ old.ended = ap (λ (k : ClientState). k.ended) used.others.0 in
    let reading : new.reading ≡ old.reading = ap (λ (k : ClientState). k.reading) used.others.0 in
    record { registered = rest.registered; end = subst (λ (e : Option ClientError). IsWayEnd e) (sym ended) rest.end; reading = λ none. reading ∙ rest.reading (sym ended ∙ none) }

pub used_may : (m : Machine) (n : ℕ) (old new : ClientState) (c : Client) → IsUsed old new → MayBeAt m n old.held c → MayBeAt m n new.held c
used_may m n old new c used may =
    may_alone m n old.held.standing new.held.standing old.held.cache.entries new.held.cache.entries c c may.front may.switches
    (λ at sound x.
    subst (λ (s : Standing). IsServed at n s new.held.cache.entries c) (sym (used_standing old new used))
    (less_serves at n old.held.standing old.held.standing new.held.cache.entries old.held.cache.entries c (record {
      known = refl;
      switches = refl;
      news = λ oid none. none;
      asked = λ oid none. none;
      entries = λ oid e there. sym (used.same.each oid) ∙ there;
    }) x)) may

-- ---- a load

module _ {S : Type 0} (steps : Request → Reply → S → S → Type 0) (machine : S → Machine) (n : ℕ) (stepped : (q : Request) (r : Reply) (s t : S) → steps q r s t → IsMachineStep (machine s) n q r (machine t)) (read_back : AreReadBack) (whole : WholePiecesAreHeard) where
  load_held : (before now : S) (oid front : ℕ) (c : Client) (old new : Held) (result : Result Answer Refusal) → IsCalled steps (request.LoadBefore oid front) (calls.LoadBefore oid front) before old result new now
      → MayBeAt (machine before) n old c → MayBeAt (machine now) n new c
  load_held before _ oid front c _ _ _ (unsent e why) may = may
  load_held before _ oid front c _ _ _ (unmade r way) may = may
  load_held before _ oid front c old _ _ (unheard r reply new now way step heard) may =
      load_step (machine before) n oid front reply (machine now) c old new (stepped (request.LoadBefore oid front) reply before now step) heard may
  load_held before _ oid front c old _ _ (answered reply new now step heard) may =
      load_step (machine before) n oid front reply (machine now) c old new (stepped (request.LoadBefore oid front) reply before now step) (inr heard) may

  load_said : (before now : S) (oid front : ℕ) (c : Client) (old new : Held) (result : Result Answer Refusal) → IsCalled steps (request.LoadBefore oid front) (calls.LoadBefore oid front) before old result new now
      → MayBeAt (machine before) n old c → front ≤ c.told.front → IfOk (answered_so load_answer result) (λ l. IsLoaded oid front c.told (server_at (machine before)) l)
  load_said before _ oid front c _ _ _ (unsent e why) may within = tt
  load_said before _ oid front c _ _ _ (unmade r way) may within = tt
  load_said before _ oid front c old _ _ (unheard r reply new now way step heard) may within = tt
  load_said before _ oid front c old _ _ (answered reply new now step heard) may within =
      reply_answers (machine before) n oid front (machine now) c old may within reply (stepped (request.LoadBefore oid front) reply before now step)

  under : (P : Loaded → Type 0) (low : Type 0) (result : Result Loaded Refusal) → (low → IfOk result P) → IfOk result (λ l. low → P l)
  under P low (Ok l) is = is
  under P low (Err r) is = tt

  pub load_leaves : (before now : S) (d left : DeskState) (oid front : ℕ) (old new : ClientState) (result : Result Loaded Refusal) → HoldsCall (calls.LoadBefore oid front)
      → IsLoadMade steps before d old oid front result new now left → (c : Client) → Stands (machine before) n d old c → LoadLeaves steps machine n before d old oid front c result new now left
  load_leaves before _ d _ oid front old _ _ held no_room c x = record { stands = x; loaded = tt; made = starved }
  load_leaves before _ d _ oid front old _ _ held (hit found new there used) c x = record {
    stands = record { served = used_may (machine before) n old new c used x.served; rest = used_rest d old new used x.rest };
    loaded = λ within. by_known (nat_le front old.held.standing.known) refl there within;
    made = cached found there;
  }
    where
      none_found : ◌≡◌ {A = Option (ℕ × List ℕ)} None (Some found) → ⊥
      none_found is = absurd cc

      by_known : (b : Bool) → nat_le front old.held.standing.known ≡ b → cond b (found_at old.held.cache.entries oid front) None ≡ Some found → front ≤ c.told.front
          → IsLoaded oid front c.told (server_at (machine before)) (loaded.Held found.0 found.1)
      by_known true known is within =
          hit_is_loaded (machine before) n old.held.standing old.held.cache.entries c oid front found x.served (leb-true front old.held.standing.known known) is within
      by_known false known is within = absurd (none_found is)
  load_leaves before _ d _ oid front old _ _ held (miss mid result new now left none used asked) c x =
      let served : MayBeAt (machine before) n mid.held c = used_may (machine before) n old mid c used x.served in
      let names : NamesOne (calls.LoadBefore oid front) (request.LoadBefore oid front) =
      record { held = held; row = refl; once = record { last = λ r. refl; answer = λ r. refl; long = λ k. refl }; names = λ k number. refl } in
      let called = asked_so steps whole (calls.LoadBefore oid front) (request.LoadBefore oid front)
      (λ reply s t step. load_row (machine s) n oid front reply (machine t) (stepped (request.LoadBefore oid front) reply s t step)) names.once read_back names before d mid (used_rest d old mid used x.rest) result new now left asked in
      record {
        stands = record { served = load_held before now oid front c mid.held new.held result called.0 served; rest = called.1 };
        loaded = under (λ l. IsLoaded oid front c.told (server_at (machine before)) l) (front ≤ c.told.front) (answered_so load_answer result) (load_said before now oid front c mid.held new.held result called.0 served);
        made = missed (answered_so load_answer result) now none (makes_one steps (request.LoadBefore oid front) (calls.LoadBefore oid front) load_answer before now mid.held new.held result called.0);
      }

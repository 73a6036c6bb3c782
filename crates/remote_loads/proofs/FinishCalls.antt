-- What the finish of a remote client leaves, answers and makes.
use Rattle.std.proofs.Common.{◌≡◌, ◌⊎◌, inl, inr, ℕ, Bool, true, false, cond, List, [], ◌∷◌, ◌++◌, map, Option, Some, None, Result, Ok, Err, refl, sym, ap, subst, ◌∙◌}
use Rattle.std.specs.Prelude.{IfErr, IfOk, MatchOption, OnOk}
use Rattle.std.specs.List.{concat}
use Rattle.zb_model.specs.declared.data.Transaction.{Transaction}
use Rattle.zb_model.specs.declared.news.News.{News}
use Rattle.zb_model.specs.declared.refusal.Refusal.{Refusal}
use Rattle.zb_model.specs.declared.refusal.Refusal.TheVariants as refusal
use Rattle.zodb_core.specs.declared.reply.Reply.{Reply}
use Rattle.zodb_core.specs.declared.reply.Reply.TheVariants as reply
use Rattle.zodb_core.specs.declared.request.Request.{Request}
use Rattle.zodb_core.specs.declared.request.Request.TheVariants as request
use Rattle.zodb_core.specs.Machine.{Machine, MachineVote, Rules}
use Rattle.zodb_core.specs.Outcomes.{Answered as IsAnswered, EndsFor, NoMemory, ReadingFailed, StepOutcome, StoreFailed, machine_left, outcome_of}
use Rattle.zodb_core.specs.Sound.{IsSoundMachine}
use Rattle.zodb_core.specs.Steps.{Stepped, early_refusal, finish_gives, finish_step, step_of, unless_early}
use Rattle.connection_view.specs.Loading.{IsNothingDone}
use Rattle.connection_view.specs.Views.{Client, committed, unvoted, view_of}
use Rattle.zeo_messages.specs.declared.answer.Answer.{Answer}
use Rattle.zeo_messages.specs.declared.answer.Answer.TheVariants as answers
use Rattle.zeo_messages.specs.declared.call.Call.TheVariants as calls
use Rattle.zeo_messages.specs.declared.message.Message.{Message}
use Rattle.zeo_messages.specs.declared.message.Message.TheVariants.{Answered, Asked, Told}
use Rattle.zeo_messages.specs.declared.message.Notice.{Notice}
use Rattle.zeo_messages.specs.Answers.{HoldsAnswer}
use Rattle.zeo_messages.specs.Messages.{payload_of}
use Rattle.zeo_news.specs.Notices.{notices_of}
use Rattle.zeo_reading.specs.Reading.{AreReadBack}
use Rattle.zeo_desk.specs.declared.asked.Asked.{Asked as AskedOf}
use Rattle.zeo_desk.specs.declared.asked.Asked.TheVariants as asked
use Rattle.zeo_desk.specs.Answering.{answer_to, reply_answer, sent_answer}
use Rattle.zeo_desk.specs.Desks.{DeskState, asks, committed_tid, taken}
use Rattle.zeo_cache.specs.declared.interval.Interval.{Interval}
use Rattle.zeo_cache.specs.Intervals.{Intervals, interval_of}
use Rattle.zeo_serving.specs.declared.standing.Standing.{Standing}
use Rattle.zeo_serving.specs.Laws.{AreDropped, nothing_asked}
use Rattle.zeo_serving.specs.MayLaws.{answered_step, may_alone, may_step}
use Rattle.zeo_serving.specs.OtherLaws.{failed_other, same}
use Rattle.zeo_serving.specs.Serving.{IsServed, asks_for, server_at}
use Rattle.zeo_serving.specs.ServingLaws.{served_on}
use Rattle.zeo_serving.specs.VoteLaws.{less_serves, votes_end}
use Rattle.zeo_client.specs.declared.error.ClientError.{ClientError}
use Rattle.zeo_client.specs.declared.asking.AskError.{AskError}
use Rattle.zeo_client.specs.Asking.{next_number}
use Rattle.zeo_client.specs.Hearing.{Held}
use Rattle.zeo_client.specs.SyncLaws.{HearsAll}
use Rattle.zeo_client.specs.Taking.{ClientState, IsFed}
use Rattle.zeo_client.specs.Whole.{HearsMessages, WholePiecesAreHeard}
use Rattle.remote_loads.specs.Answers.{count_answer, finish_answer}
use Rattle.remote_loads.specs.Carrying.{IsMachineStep}
use Rattle.remote_loads.specs.Causes.{behind_commit, unasked}
use Rattle.remote_loads.specs.Finishing.{FinishLeaves, FinishSteps, IsDropped, IsFinishMade, IsRemoteFinish, IsToldBehind, asks_nothing, behind_finish, finish_answered, finish_committed, finish_commits, finish_empty, finish_lost, finish_and_front, finish_refused, not_finished, one_finish, told_behind}
use Rattle.remote_loads.specs.Making.{IsMadeBy, MakesFront, answered_so, left_alone, made_by}
use Rattle.remote_loads.specs.Sending.{HoldsReply, messages_of, notices_before}
use Rattle.remote_loads.specs.Standing.{IsAtRest, IsWayEnd, Stands}
use Rattle.remote_loads.specs.Talking.{IsAsked, IsExchanged, IsTalked, IsUnsent, IsWayLost, answer_in, answer_sent, broke_off, came, not_sent, refused_so, talk_answered, talk_failed, talk_waited, waiting_for, was_sent}
use Rattle.remote_loads.proofs.BrokenCall.{call_taken}
use Rattle.remote_loads.proofs.Called.{next_low}
use Rattle.remote_loads.proofs.Commits.{IsBehind, IsNearly, behind_nearly, commit_leaves, freed, front_nearly, front_refused, nearly_syncs}
use Rattle.remote_loads.proofs.FinishServed.{FinishServed, by_end, by_front, commit_sent, done_sent, end_sent, finish_breaks, finish_served, served_alone, served_commit, tid_sent}
use Rattle.remote_loads.proofs.Heard.{AllCame, all_come, answer_behind, news_heard}
use Rattle.remote_loads.specs.KnownLaws.{known_may, whole_same}
use Rattle.remote_loads.proofs.Loading.{MayBeAt}
use Rattle.remote_loads.proofs.Sendings.{by_sent, frames_are}
use Rattle.remote_loads.proofs.SyncCalls.{SyncGot, got_front, sync_got}

-- ---- what is dropped

module _ (old mid : ClientState) (is : IsDropped old mid) where
  standing_is : mid.held.standing ≡ old.held.standing
  standing_is = ap (λ (k : ClientState). k.held.standing) is.others.0

  are_dropped : AreDropped old.held.standing mid.held.cache.entries old.held.cache.entries
  are_dropped oid e there = by_asked (asks_for old.held.standing.asked oid) refl (sym (is.dropped.each oid) ∙ there)
    where
      none_there : ◌≡◌ {A = Option Interval} None (Some e) → ⊥
      none_there gone = absurd cc

      by_asked : (b : Bool) → asks_for old.held.standing.asked oid ≡ b → cond b None (interval_of old.held.cache.entries oid) ≡ Some e → (interval_of old.held.cache.entries oid ≡ Some e) × (asks_for old.held.standing.asked oid ≡ false)
      by_asked true asks gone = absurd (none_there gone)
      by_asked false asks at = (at, asks)

  dropped_may : (m : Machine) (n : ℕ) (c : Client) → MayBeAt m n old.held c → MayBeAt m n mid.held c
  dropped_may m n c may =
      may_alone m n old.held.standing mid.held.standing old.held.cache.entries mid.held.cache.entries c c may.front may.switches
      (λ at sound x.
      subst (λ (s : Standing). IsServed at n s mid.held.cache.entries c) (sym standing_is)
      (less_serves at n old.held.standing old.held.standing mid.held.cache.entries old.held.cache.entries c (record {
        known = refl;
        switches = refl;
        news = λ oid none. none;
        asked = λ oid none. none;
        entries = λ oid e there. (are_dropped oid e there).0;
      }) x)) may

  dropped_rest : (d : DeskState) → IsAtRest d old → IsAtRest d mid
  dropped_rest d rest =
      let ended : mid.ended ≡ old.ended = ap (λ (k : ClientState). k.ended) is.others.0 in
      let reading : mid.reading ≡ old.reading = ap (λ (k : ClientState). k.reading) is.others.0 in
      record { registered = rest.registered; end = subst (λ (e : Option ClientError). IsWayEnd e) (sym ended) rest.end; reading = λ none. reading ∙ rest.reading (sym ended ∙ none) }

-- ---- a finish that doesn't commit

finish_not : (m : Machine) (n : ℕ) (why : Refusal) (early : Option Refusal) → (unless_early early m (finish_step m n m.vote)).reply ≡ reply.Refused why → (unless_early early m (finish_step m n m.vote)).machine ≡ m
finish_not m n why (Some r) is = refl
finish_not m n why None is = by_vote m.vote is
  where
    by_writes : (writes : Option Transaction) → (finish_gives m n writes).reply ≡ reply.Refused why → (finish_gives m n writes).machine ≡ m
    by_writes None is = absurd cc
    by_writes (Some t) is = absurd cc

    by_vote : (vote : Option MachineVote) → (finish_step m n vote).reply ≡ reply.Refused why → (finish_step m n vote).machine ≡ m
    by_vote None is = refl
    by_vote (Some v) is = by_writes v.writes is

finish_keeps : (rules : Rules) (m : Machine) (n stamp : ℕ) (why : Refusal) → (step_of rules m n request.Finish stamp).reply ≡ reply.Refused why → (z : Standing) (entries : Intervals) (c : Client) → IsServed m n z entries c
    → IsServed (step_of rules m n request.Finish stamp).machine n z entries c
finish_keeps rules m n stamp why is z entries c x = subst (λ (k : Machine). IsServed k n z entries c) (sym (finish_not m n why (early_refusal m n request.Finish) is)) x

-- a finish that is refused keeps the client
refused_step : (m : Machine) (n : ℕ) (why : Refusal) (now : Machine) (c : Client) (h : Held) → IsMachineStep m n request.Finish (reply.Refused why) now → MayBeAt m n h c → MayBeAt now n h c
refused_step m n why now c h step may =
    known_may step.left now n h.standing h.cache.entries c step.known
    (may_step step.rules m n request.Finish step.stamp made step.before step.after h.standing h.standing h.cache.entries h.cache.entries c c step.made may (record {
      formed = tt;
      whole = λ sound x. by_outcome sound x (outcome_of made.reply) step.made.cause;
      lost = λ is at sound x. x;
      front = may.front;
      switches = may.switches;
    }))
  where
    made : Stepped
    made = record { reply = reply.Refused why; machine = step.left; ticks = step.ticks }

    by_outcome : (sound : IsSoundMachine m) → IsServed m n h.standing h.cache.entries c → (o : StepOutcome) → EndsFor step.rules m n request.Finish step.stamp made step.before step.after o
        → IsServed (machine_left step.rules m n request.Finish step.stamp o) n h.standing h.cache.entries c
    by_outcome sound x IsAnswered cause = finish_keeps step.rules m n step.stamp why (sym (ap (λ (s : Stepped). s.reply) cause)) h.standing h.cache.entries c x
    by_outcome sound x ReadingFailed cause = x
    by_outcome sound x NoMemory cause = x
    by_outcome sound x StoreFailed cause = served_on m (machine_left step.rules m n request.Finish step.stamp StoreFailed) n sound (failed_other m n) h.standing h.cache.entries c x

-- and one that had nothing to write ends the vote
empty_step : (m : Machine) (n : ℕ) (now : Machine) (c : Client) (h : Held) → IsMachineStep m n request.Finish reply.Empty now → MayBeAt m n h c → MayBeAt now n (freed h) (unvoted c)
empty_step m n now c h step may =
    known_may step.left now n (nothing_asked h.standing) h.cache.entries (unvoted c) step.known
    (may_step step.rules m n request.Finish step.stamp made step.before step.after h.standing (nothing_asked h.standing) h.cache.entries h.cache.entries c (unvoted c) step.made may (record {
      formed = tt;
      whole = λ sound x. votes_end step.rules m n request.Finish step.stamp sound said h.standing h.cache.entries c x;
      lost = λ refused at sound x. absurd (never refused);
      front = may.front;
      switches = may.switches;
    }))
  where
    made : Stepped
    made = record { reply = reply.Empty; machine = step.left; ticks = step.ticks }

    said : (step_of step.rules m n request.Finish step.stamp).reply ≡ reply.Empty
    said = sym (ap (λ (s : Stepped). s.reply) (answered_step step.rules m n request.Finish step.stamp made step.before step.after reply.Empty step.made refl refl))

    never : reply.Empty ≡ reply.Refused refusal.NotOpen → ⊥
    never is = absurd cc

-- ---- the call

module _ {S : Type 0} (steps : Request → Reply → S → S → Type 0) (machine : S → Machine) (n : ℕ) (stepped : (q : Request) (r : Reply) (s t : S) → steps q r s t → IsMachineStep (machine s) n q r (machine t)) (read_back : AreReadBack) (whole : WholePiecesAreHeard) where
  module _ (before : S) (d : DeskState) (old : ClientState) (rest : IsAtRest d old) where
    abbrev mid : ClientState
    mid = waiting_for old calls.TpcFinish

    abbrev number : ℕ
    number = next_number old.number

    abbrev payload : List ℕ
    payload = payload_of (Asked number calls.TpcFinish)

    takes : taken d payload ≡ Some (asks d number asked.Finish request.Finish)
    takes = call_taken read_back d number calls.TpcFinish rest.registered (next_low old.number) tt refl

    abbrev Hears : AskedOf → Reply → ClientState → Type 0
    Hears a r new = HearsMessages (Some calls.TpcFinish) (messages_of number a r) old.held new.held

    -- all messages of a reply came
    pub data FinishGot : List Message → ClientState → S → DeskState → Type 0 where
      got_alone : (r : Reply) (new : ClientState) (now : S) (left : DeskState) → steps request.Finish r before now → committed_tid r ≡ None → Hears asked.Finish r new → IsAtRest left new
          → FinishGot (messages_of number asked.Finish r) new now left
      got_commit : (tid : ℕ) (r : Reply) (between : S) (new : ClientState) (now : S) (left : DeskState) → steps request.Finish (reply.Committed tid) before between → steps request.Front r between now
          → Hears (asked.NewsBehind tid) r new → IsAtRest left new → FinishGot (messages_of number (asked.NewsBehind tid) r) new now left

    abbrev Lost : Refusal → S → Type 0
    Lost r now = IsWayLost r × FinishSteps steps before now

    abbrev Exchanged : Result (List Message) Refusal → ClientState → S → DeskState → Type 0
    Exchanged (Err r) new now left = Lost r now
    Exchanged (Ok messages) new now left = FinishGot messages new now left

    -- what is answered is what was sent
    pub data FinishSaid : Answer → ClientState → S → DeskState → Type 0 where
      said_alone : (r : Reply) (new : ClientState) (now : S) (left : DeskState) → steps request.Finish r before now → committed_tid r ≡ None → Hears asked.Finish r new → IsAtRest left new
          → FinishSaid (sent_answer asked.Finish (reply_answer asked.Finish r)) new now left
      said_commit : (tid : ℕ) (r : Reply) (between : S) (new : ClientState) (now : S) (left : DeskState) → steps request.Finish (reply.Committed tid) before between → steps request.Front r between now
          → Hears (asked.NewsBehind tid) r new → IsAtRest left new → FinishSaid (answers.OneTid tid) new now left

    abbrev pub FinishHeard : Result Answer Refusal → ClientState → S → DeskState → Type 0
    FinishHeard (Err r) new now left = ((error : AskError) × (r ≡ unasked error) × IsUnsent calls.TpcFinish error × (new ≡ old) × (now ≡ before) × (left ≡ d)) ⊎ Lost r now
    FinishHeard (Ok answer) new now left = FinishSaid answer new now left

    waits : IsAtRest d mid
    waits = record { registered = rest.registered; end = rest.end; reading = rest.reading }

    come_so : (messages : List Message) (now : S) (left : DeskState) (result : Result (List Message) ClientError) (new : ClientState) → FinishSteps steps before now → (HearsMessages (Some calls.TpcFinish) messages old.held new.held → IsAtRest left new → FinishGot messages new now left)
        → AllCame messages mid left result new → Exchanged (refused_so result) new now left
    come_so messages now left result new made got (inl none) = subst (λ (k : Result (List Message) ClientError). Exchanged (refused_so k) new now left) (sym none) (tt, made)
    come_so messages now left result new made got (inr all) = subst (λ (k : Result (List Message) ClientError). Exchanged (refused_so k) new now left) (sym all.0) (got all.1 all.2)

    by_served : (now : S) (left : DeskState) (out : List (List ℕ)) (result : Result (List Message) ClientError) (new : ClientState) → FinishServed steps number before out now → left.registered ≡ true
        → IsFed mid (concat out) result new → Exchanged (refused_so result) new now left
    by_served _ left _ result new (served_alone r now out step held none is) registered fed =
        come_so (messages_of number asked.Finish r) now left result new (one_finish r now step) (λ heard at. got_alone r new now left step none heard at)
        (all_come whole (messages_of number asked.Finish r) mid new d left result (concat out) waits registered (end_sent (machine before) n r (machine now) number (next_low old.number) (stepped request.Finish r before now step) held)
        (ap concat is ∙ frames_are number asked.Finish r) fed)
    by_served _ left _ result new (served_commit tid r between now out step held front front_held is) registered fed =
        come_so (messages_of number (asked.NewsBehind tid) r) now left result new (finish_and_front tid r between now step front) (λ heard at. got_commit tid r between new now left step front heard at)
        (all_come whole (messages_of number (asked.NewsBehind tid) r) mid new d left result (concat out) waits registered
        (commit_sent (machine before) n tid r (machine between) (machine now) number (next_low old.number) held (stepped request.Front r between now front) front_held)
        (ap concat is ∙ frames_are number (asked.NewsBehind tid) r) fed)

    exchanged : (result : Result (List Message) Refusal) (new : ClientState) (now : S) (left : DeskState) → IsExchanged steps before d mid (payload ∷ []) result new now left → Exchanged result new now left
    exchanged _ _ _ _ (broke_off r now left way front) = (way, (finish_breaks steps d number rest.registered payload takes left before now front).0)
    exchanged _ _ _ _ (came out result new now left serves fed) =
        let served = finish_served steps d number rest.registered payload takes left before now out serves in
        by_served now left out result new served.0 served.1 fed

    got_said : (messages : List Message) (answer : Answer) (new : ClientState) (now : S) (left : DeskState) → FinishGot messages new now left → answer_in messages ≡ Some answer → FinishSaid answer new now left
    got_said _ answer _ _ _ (got_alone r new now left step none heard at) is =
        let e : ◌≡◌ {A = Option Answer} (Some answer) (Some (sent_answer asked.Finish (reply_answer asked.Finish r))) = sym is ∙ answer_behind (notices_before r) number (sent_answer asked.Finish (reply_answer asked.Finish r)) in
        let same : answer ≡ sent_answer asked.Finish (reply_answer asked.Finish r) = cc in
        subst (λ (a : Answer). FinishSaid a new now left) (sym same) (said_alone r new now left step none heard at)
    got_said _ answer _ _ _ (got_commit tid r between new now left step front heard at) is =
        let e : ◌≡◌ {A = Option Answer} (Some answer) (Some (sent_answer (asked.NewsBehind tid) (answers.OneTid tid))) = sym is ∙ answer_behind (notices_before r) number (sent_answer (asked.NewsBehind tid) (answers.OneTid tid)) in
        let same : answer ≡ sent_answer (asked.NewsBehind tid) (answers.OneTid tid) = cc in
        subst (λ (a : Answer). FinishSaid a new now left) (sym (same ∙ tid_sent (asked.NewsBehind tid) tid)) (said_commit tid r between new now left step front heard at)

    answer_none : (answer : Answer) → ◌≡◌ {A = Option Answer} (Some answer) None → ⊥
    answer_none answer is = absurd cc

    got_some : (messages : List Message) (new : ClientState) (now : S) (left : DeskState) → FinishGot messages new now left → answer_in messages ≡ None → ⊥
    got_some _ _ _ _ (got_alone r new now left step none heard at) is =
        answer_none (sent_answer asked.Finish (reply_answer asked.Finish r)) (sym (answer_behind (notices_before r) number (sent_answer asked.Finish (reply_answer asked.Finish r))) ∙ is)
    got_some _ _ _ _ (got_commit tid r between new now left step front heard at) is =
        answer_none (sent_answer (asked.NewsBehind tid) (answers.OneTid tid)) (sym (answer_behind (notices_before r) number (sent_answer (asked.NewsBehind tid) (answers.OneTid tid))) ∙ is)

    talked : (result : Result Answer Refusal) (new : ClientState) (now : S) (left : DeskState) → IsTalked steps before d mid (payload ∷ []) result new now left → FinishHeard result new now left
    talked _ _ _ _ (talk_failed r new now left ex) = inr (exchanged (Err r) new now left ex)
    talked _ _ _ _ (talk_answered messages answer new now left ex is) = got_said messages answer new now left (exchanged (Ok messages) new now left ex) is
    talked _ _ _ _ (talk_waited messages result between_client new middle now between left ex is) = absurd (got_some messages between_client middle between (exchanged (Ok messages) between_client middle between ex) is)

    pub finish_heard : (result : Result Answer Refusal) (new : ClientState) (now : S) (left : DeskState) → IsAsked steps before d old calls.TpcFinish result new now left → FinishHeard result new now left
    finish_heard _ _ _ _ (not_sent e why) = inl (e, refl, why, refl, refl, refl)
    finish_heard _ _ _ _ (was_sent result new now left is) = talked result new now left is

-- ---- the front that the client asks for behind its commit

module _ (m : Machine) (n : ℕ) (r : Reply) (now : Machine) (c : Client) (old new : Held) (number : ℕ) (step : IsMachineStep m n request.Front r now) (holds : HoldsReply r) (x : IsNearly m n old c) where
  abbrev Knows : Answer → Type 0
  Knows a = OnOk (count_answer a) (MayBeAt now n new (committed (view_of (server_at now)) c))

  refused_knows : (why : Refusal) → Knows (answer_sent (reply.Refused why))
  refused_knows why = by_sent Knows asked.Other (answers.Refused why) (λ k. refl) (λ allowed short. tt) (λ k. tt) tt

  front_knows : (front switches : ℕ) (news : News) → r ≡ reply.Front front news switches → HearsMessages (Some calls.Sync) (messages_of number asked.Other (reply.Front front news switches)) old new
      → Knows (answer_sent (reply.Front front news switches))
  front_knows front switches news is heard =
      let said : IsMachineStep m n request.Front (reply.Front front news switches) now = subst (λ (x : Reply). IsMachineStep m n request.Front x now) is step in
      by_sent (λ a. HoldsAnswer a → HearsMessages (Some calls.Sync) (map (λ k. Told k) (notices_of front news) ++ Answered number a ∷ []) old new → Knows a) asked.Other (answers.TidAndCount front switches) (λ k. refl)
      (λ allowed short held heard.
      let both = news_heard (Some calls.Sync) (notices_of front news) number (answers.TidAndCount front switches) old new heard in
      nearly_syncs m n now c old both.0 new front switches news said x held.1 both.1 both.2)
      (λ k held heard. tt) (λ held heard. tt) ((subst (λ (x : Reply). HoldsReply x) is holds).answer asked.Other) heard

  nearly_knows : HearsMessages (Some calls.Sync) (messages_of number asked.Other r) old new → Knows (answer_sent r)
  nearly_knows heard =
      by_front (λ x. r ≡ x → HearsMessages (Some calls.Sync) (messages_of number asked.Other x) old new → Knows (answer_sent x)) m n r now step (λ front switches news is. front_knows front switches news is) (λ why is got. refused_knows why) refl heard

-- ---- what was heard behind a commit

-- where its front was refused, nothing was
none_heard : (k : ℕ) (answer : Answer) (old new : Held) → HearsMessages (Some calls.TpcFinish) (Answered k answer ∷ []) old new → new ≡ old
none_heard k answer old new heard = heard.2 ∙ heard.1

module _ (m : Machine) (n tid : ℕ) (r : Reply) (now : Machine) (c : Client) (old new : Held) (number : ℕ) (step : IsMachineStep m n request.Front r now) (x : IsBehind m n old c) where
  -- the client is to take a front
  commit_heard : HearsMessages (Some calls.TpcFinish) (messages_of number (asked.NewsBehind tid) r) old new → IsNearly now n (freed new) c
  commit_heard heard =
      by_front (λ k. r ≡ k → HearsMessages (Some calls.TpcFinish) (messages_of number (asked.NewsBehind tid) k) old new → IsNearly now n (freed new) c) m n r now step by_told by_refused refl heard
    where
      by_told : (front switches : ℕ) (news : News) → r ≡ reply.Front front news switches → HearsMessages (Some calls.TpcFinish) (messages_of number (asked.NewsBehind tid) (reply.Front front news switches)) old new → IsNearly now n (freed new) c
      by_told front switches news is got =
          let made : Stepped = record { reply = r; machine = step.left; ticks = step.ticks } in
          let said : made ≡ step_of step.rules m n request.Front step.stamp = answered_step step.rules m n request.Front step.stamp made step.before step.after (reply.Front front news switches) step.made is refl in
          let both = news_heard (Some calls.TpcFinish) (notices_of front news) number (sent_answer (asked.NewsBehind tid) (answers.OneTid tid)) old new got in
          let told : HearsAll (notices_of front news) old new = subst (λ (h : Held). HearsAll (notices_of front news) old h) (sym both.2) both.1 in
          let nearly = front_nearly m n old c x step.rules step.stamp front switches news (sym (ap (λ (s : Stepped). s.reply) said) ∙ is) new told in
          let left_is : step.left ≡ (step_of step.rules m n request.Front step.stamp).machine = ap (λ (s : Stepped). s.machine) said in
          let now_is : now ≡ (step_of step.rules m n request.Front step.stamp).machine = whole_same step.left now step.known (ap (λ (k : Machine). k.failed) left_is ∙ nearly.whole) ∙ left_is in
          subst (λ (k : Machine). IsNearly k n (freed new) c) (sym now_is) nearly

      by_refused : (why : Refusal) → r ≡ reply.Refused why → HearsMessages (Some calls.TpcFinish) (messages_of number (asked.NewsBehind tid) (reply.Refused why)) old new → IsNearly now n (freed new) c
      by_refused why is got =
          let left_is : step.left ≡ m = front_refused step.rules m n step.stamp (record { reply = r; machine = step.left; ticks = step.ticks }) step.before step.after why step.made is in
          let now_is : now ≡ m = whole_same step.left now step.known (ap (λ (k : Machine). k.failed) left_is ∙ x.whole) ∙ left_is in
          subst (λ (k : Machine). IsNearly k n (freed new) c) (sym now_is)
          (subst (λ (h : Held). IsNearly m n (freed h) c) (sym (none_heard number (sent_answer (asked.NewsBehind tid) (answers.OneTid tid)) old new got)) (behind_nearly m n old c x))

-- ---- what a finish leaves

lost_done : (r : Refusal) → IsWayLost r → IsNothingDone r → ⊥
lost_done refusal.LinkFault way done = done
lost_done refusal.Closed way done = done
lost_done refusal.Memory way done = done
lost_done _ way done = way

-- what refuses the sync behind a commit never says that nothing was done
behind_done : (r : Refusal) → IsNothingDone (behind_commit r) → ⊥
behind_done refusal.StoreFault done = done
behind_done refusal.Memory done = done
behind_done refusal.LinkFault done = done
behind_done refusal.Closed done = done
behind_done (refusal.FrameTooLong length) done = done
behind_done _ done = done

err_ok : {T : Type 0} (why : Refusal) (x : T) → Err why ≡ Ok x → ⊥
err_ok why x is = absurd cc

ok_err : {T : Type 0} (why : Refusal) (x : T) → Ok x ≡ Err why → ⊥
ok_err why x is = absurd cc

none_some : (tid : ℕ) → ◌≡◌ {A = Result (Option ℕ) Refusal} (Ok None) (Ok (Some tid)) → ⊥
none_some tid is = absurd cc

some_none : (tid : ℕ) → ◌≡◌ {A = Result (Option ℕ) Refusal} (Ok (Some tid)) (Ok None) → ⊥
some_none tid is = absurd cc

commit_none : (tid : ℕ) → committed_tid (reply.Committed tid) ≡ None → ⊥
commit_none tid is = absurd cc

-- what a finish says that doesn't commit
abbrev EndsAs : (Result (Option ℕ) Refusal → Type 0) → Reply → Type 0
EndsAs P r = P (finish_answer (sent_answer asked.Finish (reply_answer asked.Finish r)))

refused_says : (P : Result (Option ℕ) Refusal → Type 0) (why : Refusal) → ((r : Refusal) → P (Err r)) → EndsAs P (reply.Refused why)
refused_says P why says = by_sent (λ a. P (finish_answer a)) asked.Finish (answers.Refused why) (λ k. refl) (λ allowed short. says _) (λ k. says _) (says _)

empty_says : (P : Result (Option ℕ) Refusal → Type 0) → P (Ok None) → EndsAs P reply.Empty
empty_says P says = subst (λ (a : Answer). P (finish_answer a)) (sym (done_sent asked.Finish)) says

module _ {S : Type 0} (steps : Request → Reply → S → S → Type 0) (machine : S → Machine) (n : ℕ) (stepped : (q : Request) (r : Reply) (s t : S) → steps q r s t → IsMachineStep (machine s) n q r (machine t)) (read_back : AreReadBack) (whole : WholePiecesAreHeard) where
  module _ (before : S) (d : DeskState) (old mid : ClientState) (c : Client) (x : Stands (machine before) n d old c) (drop : IsDropped old mid) where
    rest_mid : IsAtRest d mid
    rest_mid = dropped_rest old mid drop d x.rest

    may_mid : MayBeAt (machine before) n mid.held c
    may_mid = dropped_may old mid drop (machine before) n c x.served

    abbrev Leaves : Result (Option ℕ) Refusal → ClientState → S → DeskState → Type 0
    Leaves result new now left = FinishLeaves steps machine n before c result new now left

    abbrev Heard : Result Answer Refusal → ClientState → S → DeskState → Type 0
    Heard result new now left = FinishHeard steps machine n stepped read_back whole before d mid rest_mid result new now left

    abbrev Said : Answer → ClientState → S → DeskState → Type 0
    Said answer new now left = FinishSaid steps machine n stepped read_back whole before d mid rest_mid answer new now left

    -- where no news was told, hearing changes nothing
    same_held : (r : Reply) (number : ℕ) (new : ClientState) → notices_before r ≡ [] → HearsMessages (Some calls.TpcFinish) (messages_of number asked.Finish r) mid.held new.held → new.held ≡ mid.held
    same_held r number new none heard =
        none_heard number (sent_answer asked.Finish (answer_to asked.Finish r)) mid.held new.held
        (subst (λ (ns : List Notice). HearsMessages (Some calls.TpcFinish) (map (λ k. Told k) ns ++ Answered number (sent_answer asked.Finish (answer_to asked.Finish r)) ∷ []) mid.held new.held) none heard)

    -- refused
    refuses : (r : Refusal) (new : ClientState) (now : S) (left : DeskState) (why : Refusal) → steps request.Finish (reply.Refused why) before now → new.held ≡ mid.held → IsAtRest left new → Stands (machine now) n left new c
    refuses r new now left why step same rest = record {
      served = subst (λ (h : Held). MayBeAt (machine now) n h c) (sym same) (refused_step (machine before) n why (machine now) c mid.held (stepped request.Finish (reply.Refused why) before now step) may_mid);
      rest = rest;
    }

    empties : (new : ClientState) (now : S) (left : DeskState) → steps request.Finish reply.Empty before now → new.held ≡ mid.held → IsAtRest left new → Stands (machine now) n left (asks_nothing new) (unvoted c)
    empties new now left step same rest = record {
      served = subst (λ (h : Held). MayBeAt (machine now) n (freed h) (unvoted c)) (sym same) (empty_step (machine before) n (machine now) c mid.held (stepped request.Finish reply.Empty before now step) may_mid);
      rest = record { registered = rest.registered; end = rest.end; reading = rest.reading };
    }

    -- what a reply that doesn't commit leaves
    abbrev Alone : ClientState → S → DeskState → Reply → Result (Option ℕ) Refusal → Type 0
    Alone new now left k result = (IfOk result (λ tid. MatchOption tid (Stands (machine now) n left (asks_nothing new) (unvoted c)) (λ tid. ⊥))) × (IfErr result (λ r. Stands (machine now) n left new c))

    alone : (r : Reply) (new : ClientState) (now : S) (left : DeskState) (number : ℕ) → steps request.Finish r before now → committed_tid r ≡ None → HearsMessages (Some calls.TpcFinish) (messages_of number asked.Finish r) mid.held new.held → IsAtRest left new
        → EndsAs (Alone new now left r) r
    alone r new now left number step none heard rest =
        by_end (λ k. r ≡ k → EndsAs (Alone new now left r) k) (machine before) n r (machine now) (stepped request.Finish r before now step)
        (λ tid is. absurd (commit_none tid (sym (ap committed_tid is) ∙ none)))
        (λ is. empty_says (Alone new now left r) (empties new now left (subst (λ (k : Reply). steps request.Finish k before now) is step) (same_held r number new (ap notices_before is) heard) rest, tt))
        (λ why is. refused_says (Alone new now left r) why (λ w. (tt, refuses w new now left why (subst (λ (k : Reply). steps request.Finish k before now) is step) (same_held r number new (ap notices_before is) heard) rest)))
        refl

    -- a refusal
    fails_so : (result : Result Answer Refusal) (r : Refusal) (new : ClientState) (now : S) (left : DeskState) → Heard result new now left → answered_so finish_answer result ≡ Err r → Leaves (Err r) new now left
    fails_so (Err why) r new now left (inl un) is =
        let same : why ≡ r = cc in
        let stands : Stands (machine now) n left new c =
        subst (λ (k : DeskState). Stands (machine now) n k new c) (sym un.5)
        (subst (λ (k : ClientState). Stands (machine now) n d k c) (sym un.3)
        (subst (λ (s : S). Stands (machine s) n d mid c) (sym un.4) (record { served = may_mid; rest = rest_mid }))) in
        record {
          committed = tt;
          same = λ done. stands;
          made = subst (λ (k : Refusal). IsRemoteFinish steps before (Err k) now) (sym un.1 ∙ same) (subst (λ (s : S). IsRemoteFinish steps before (Err (unasked un.0)) s) (sym un.4) (not_finished un.0 un.2));
        }
    fails_so (Err why) r new now left (inr lost) is =
        let same : why ≡ r = cc in
        record {
          committed = tt;
          same = λ done. absurd (lost_done why lost.0 (subst (λ (k : Refusal). IsNothingDone k) (sym same) done));
          made = subst (λ (k : Refusal). IsRemoteFinish steps before (Err k) now) same (finish_lost why now lost.0 lost.1);
        }
    fails_so (Ok answer) r new now left said is = by_said answer new now left said is
      where
        by_said : (answer : Answer) (new : ClientState) (now : S) (left : DeskState) → Said answer new now left → finish_answer answer ≡ Err r → Leaves (Err r) new now left
        by_said _ _ _ _ (said_alone k new now left step none heard rest) is = record {
          committed = tt;
          same = λ done. (subst (λ (result : Result (Option ℕ) Refusal). Alone new now left k result) is (alone k new now left (next_number mid.number) step none heard rest)).1;
          made = subst (λ (result : Result (Option ℕ) Refusal). IsRemoteFinish steps before result now) is (finish_answered k now step none);
        }
        by_said _ _ _ _ (said_commit tid k between new now left step front heard rest) is = absurd (ok_err r (Some tid) is)

    empty_so : (result : Result Answer Refusal) (new : ClientState) (now : S) (left : DeskState) → Heard result new now left → answered_so finish_answer result ≡ Ok None → Leaves (Ok None) (asks_nothing new) now left
    empty_so (Err why) new now left heard is = absurd (err_ok why None is)
    empty_so (Ok answer) new now left said is = by_said answer new now left said is
      where
        by_said : (answer : Answer) (new : ClientState) (now : S) (left : DeskState) → Said answer new now left → finish_answer answer ≡ Ok None → Leaves (Ok None) (asks_nothing new) now left
        by_said _ _ _ _ (said_alone k new now left step none heard rest) is = record {
          committed = (subst (λ (result : Result (Option ℕ) Refusal). Alone new now left k result) is (alone k new now left (next_number mid.number) step none heard rest)).0;
          same = tt;
          made = subst (λ (result : Result (Option ℕ) Refusal). IsRemoteFinish steps before result now) is (finish_answered k now step none);
        }
        by_said _ _ _ _ (said_commit tid k between new now left step front heard rest) is = absurd (some_none tid is)

    -- a commit
    module _ (tid : ℕ) (r : Reply) (between : S) (new : ClientState) (now : S) (left : DeskState) (number : ℕ) (step : steps request.Finish (reply.Committed tid) before between) (front : steps request.Front r between now)
        (heard : HearsMessages (Some calls.TpcFinish) (messages_of number (asked.NewsBehind tid) r) mid.held new.held) (rest : IsAtRest left new) where
      nearly : IsNearly (machine now) n (freed new.held) c
      nearly =
          commit_heard (machine between) n tid r (machine now) c mid.held new.held number (stepped request.Front r between now front)
          (commit_leaves (machine before) n tid (machine between) old.held mid.held c (stepped request.Finish (reply.Committed tid) before between step) x.served (are_dropped old mid drop) (standing_is old mid drop)) heard

      rest_freed : IsAtRest left (asks_nothing new)
      rest_freed = record { registered = rest.registered; end = rest.end; reading = rest.reading }

      sync_front : (result : Result Answer Refusal) (last : ClientState) (end : S) (gone : DeskState) → SyncGot steps machine n stepped read_back whole now left (asks_nothing new) rest_freed result last end gone
          → MakesFront steps now (answered_so count_answer result) end
      sync_front result last end gone got = got_front steps machine n stepped read_back whole now left (asks_nothing new) rest_freed result last end gone got

      -- behind which the client synced
      synced_so : (result : Result Answer Refusal) (last : ClientState) (end : S) (gone : DeskState) → SyncGot steps machine n stepped read_back whole now left (asks_nothing new) rest_freed result last end gone
          → Leaves (behind_finish tid (answered_so count_answer result)) last end gone
      synced_so (Err why) last end gone got = record { committed = tt; same = λ done. absurd (behind_done why done); made = finish_committed tid r between now (Err why) end step front (sync_front (Err why) last end gone got) }
      synced_so (Ok answer) last end gone got =
          by_count (count_answer answer) refl
          (subst (λ (a : Answer). OnOk (count_answer a) (MayBeAt (machine end) n last.held (committed (view_of (server_at (machine end))) c))) (sym got.2)
          (nearly_knows (machine now) n got.0 (machine end) c (freed new.held) last.held (next_number new.number) (stepped request.Front got.0 now end got.1) got.5 nearly got.3))
        where
          fronts : (count : Result ℕ Refusal) → count_answer answer ≡ count → MakesFront steps now count end
          fronts count same = subst (λ (k : Result ℕ Refusal). MakesFront steps now k end) same (sync_front (Ok answer) last end gone got)

          by_count : (count : Result ℕ Refusal) → count_answer answer ≡ count → OnOk count (MayBeAt (machine end) n last.held (committed (view_of (server_at (machine end))) c)) → Leaves (behind_finish tid count) last end gone
          by_count (Ok k) same may = record { committed = record { served = may; rest = got.4 }; same = tt; made = finish_committed tid r between now (Ok k) end step front (fronts (Ok k) same) }
          by_count (Err why) same may = record { committed = tt; same = λ done. absurd (behind_done why done); made = finish_committed tid r between now (Err why) end step front (fronts (Err why) same) }

      by_sync : (synced : Result ℕ Refusal) (last : ClientState) (end : S) (gone : DeskState) → IsMadeBy steps now left (asks_nothing new) calls.Sync count_answer left_alone synced last end gone → Leaves (behind_finish tid synced) last end gone
      by_sync _ _ _ _ (made_by result last end gone made) = synced_so result last end gone (sync_got steps machine n stepped read_back whole now left (asks_nothing new) rest_freed result last end gone made)

      sync_so : (told : Result (Option ℕ) Refusal) (last : ClientState) (end : S) (gone : DeskState) → IsToldBehind steps now left (asks_nothing new) tid told last end gone → Leaves told last end gone
      sync_so _ _ _ _ (told_behind synced last end gone made) = by_sync synced last end gone made

    commits_so : (result : Result Answer Refusal) (tid : ℕ) (new : ClientState) (now : S) (left : DeskState) (told : Result (Option ℕ) Refusal) (last : ClientState) (end : S) (gone : DeskState) → Heard result new now left
        → answered_so finish_answer result ≡ Ok (Some tid) → IsToldBehind steps now left (asks_nothing new) tid told last end gone → Leaves told last end gone
    commits_so (Err why) tid new now left told last end gone heard is made = absurd (err_ok why (Some tid) is)
    commits_so (Ok answer) tid new now left told last end gone said is made = by_said answer new now left said is made
      where
        by_said : (answer : Answer) (new : ClientState) (now : S) (left : DeskState) → Said answer new now left → finish_answer answer ≡ Ok (Some tid) → IsToldBehind steps now left (asks_nothing new) tid told last end gone
            → Leaves told last end gone
        by_said _ _ _ _ (said_alone k new now left step none heard rest) is made =
            absurd (subst (λ (result : Result (Option ℕ) Refusal). Alone new now left k result) is (alone k new now left (next_number mid.number) step none heard rest)).0
        by_said _ _ _ _ (said_commit t k between new now left step front heard rest) is made =
            let same : t ≡ tid = cc in
            sync_so t k between new now left (next_number mid.number) step front heard rest told last end gone (subst (λ (i : ℕ). IsToldBehind steps now left (asks_nothing new) i told last end gone) (sym same) made)

  pub finish_leaves : (before now : S) (d left : DeskState) (old new : ClientState) (result : Result (Option ℕ) Refusal) → IsFinishMade steps before d old result new now left → (c : Client) → Stands (machine before) n d old c
      → FinishLeaves steps machine n before c result new now left
  finish_leaves before _ d _ old _ _ (finish_refused mid result r new now left drop asked is) c x =
      fails_so before d old mid c x drop result r new now left (finish_heard steps machine n stepped read_back whole before d mid (rest_mid before d old mid c x drop) result new now left asked) is
  finish_leaves before _ d _ old _ _ (finish_empty mid result new now left drop asked is) c x =
      empty_so before d old mid c x drop result new now left (finish_heard steps machine n stepped read_back whole before d mid (rest_mid before d old mid c x drop) result new now left asked) is
  finish_leaves before _ d _ old _ _ (finish_commits mid result tid new now left told last end gone drop asked is made) c x =
      commits_so before d old mid c x drop result tid new now left told last end gone (finish_heard steps machine n stepped read_back whole before d mid (rest_mid before d old mid c x drop) result new now left asked) is made

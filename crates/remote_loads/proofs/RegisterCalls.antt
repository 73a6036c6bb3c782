-- What the registering of a remote client leaves and makes.
use Rattle.std.proofs.Common.{◌≡◌, ◌⊎◌, ◌∙◌, inl, inr, ℕ, ◌-◌, ◌<◌, ◌^◌, true, false, List, [], ◌∷◌, ◌++◌, map, Option, Some, None, Result, Ok, Err, refl, sym, ap, subst, arith}
use Rattle.std.specs.Prelude.{OnOk}
use Rattle.std.specs.List.{AllByRecursion, concat}
use Rattle.zb_model.specs.declared.refusal.Refusal.{Refusal}
use Rattle.zodb_core.specs.declared.reply.Reply.{Reply}
use Rattle.zodb_core.specs.declared.reply.Reply.TheVariants as reply
use Rattle.zodb_core.specs.declared.request.Request.{Request}
use Rattle.zodb_core.specs.declared.request.Request.TheVariants as request
use Rattle.zodb_core.specs.Machine.{Machine}
use Rattle.zeo_messages.specs.declared.answer.Answer.{Answer}
use Rattle.zeo_messages.specs.declared.answer.Answer.TheVariants as answers
use Rattle.zeo_messages.specs.declared.call.Call.{Call}
use Rattle.zeo_messages.specs.declared.call.Call.TheVariants as calls
use Rattle.zeo_messages.specs.declared.message.Message.{Message}
use Rattle.zeo_messages.specs.declared.message.Message.TheVariants.{Answered, Asked, Told}
use Rattle.zeo_messages.specs.Answers.{HoldsAnswer}
use Rattle.zeo_messages.specs.Messages.{payload_of}
use Rattle.zeo_news.specs.Notices.{notices_of}
use Rattle.zeo_reading.specs.Reading.{AreReadBack}
use Rattle.zeo_desk.specs.declared.asked.Asked.TheVariants as asked
use Rattle.zeo_desk.specs.Answering.{reply_answer, sent_answer}
use Rattle.zeo_desk.specs.Desks.{DeskState, registers, taken}
use Rattle.zeo_cache.specs.Intervals.{Intervals, interval_of}
use Rattle.zeo_serving.specs.Laws.{fresh_client}
use Rattle.zeo_serving.specs.Serving.{MayBeServed}
use Rattle.zeo_client.specs.declared.asking.AskError.{AskError}
use Rattle.zeo_client.specs.declared.error.ClientError.{ClientError}
use Rattle.zeo_client.specs.Asking.{next_number}
use Rattle.zeo_client.specs.Hearing.{Held}
use Rattle.zeo_client.specs.SyncLaws.{HearsAll}
use Rattle.zeo_client.specs.Taking.{ClientState}
use Rattle.zeo_client.specs.Whole.{HearsMessages, MayBeSent, WholePiecesAreHeard}
use Rattle.remote_loads.specs.Answers.{count_answer, tid_answer}
use Rattle.remote_loads.specs.Causes.{unasked}
use Rattle.remote_loads.specs.Carrying.{IsMachineStep}
use Rattle.remote_loads.specs.Making.{IsMadeBy, MakesFront, answered_so, left_alone, made_by}
use Rattle.remote_loads.specs.Registering.{IsNewcomer, IsRegistered, RegisterLeaves, RegisterSteps, not_registered, register_lost, register_refused, register_synced, registers_so, unregistered}
use Rattle.remote_loads.specs.Sending.{HoldsReply, messages_of, notices_before}
use Rattle.remote_loads.specs.Served.{MaySteps, one_step}
use Rattle.remote_loads.specs.Standing.{IsAtRest, Stands}
use Rattle.remote_loads.specs.Talking.{IsAsked, IsExchanged, IsTalked, IsUnsent, IsWayLost, answer_in, answer_sent, broke_off, came, not_sent, refused_so, talk_answered, talk_failed, talk_waited, waiting_for, was_sent}
use Rattle.remote_loads.proofs.Called.{next_low}
use Rattle.remote_loads.proofs.FinishServed.{by_front}
use Rattle.remote_loads.proofs.Heard.{AllCame, all_come, answer_behind, news_heard, news_sent}
use Rattle.remote_loads.proofs.Registering.{IsFresh, fresh_now, fresh_synced, register_breaks, register_served, register_taken}
use Rattle.remote_loads.proofs.Sendings.{answer_comes, by_sent, frames_are}
use Rattle.remote_loads.proofs.SyncCalls.{SyncGot, front_as, got_front, sync_got}

-- ---- messages

abbrev register : Call
register = calls.Register false

-- the messages of the reply to the first front may come
register_sent : (m : Machine) (n : ℕ) (r : Reply) (now : Machine) (number : ℕ) → number < 2 ^ 31 → IsMachineStep m n request.Front r now → HoldsReply r
    → AllByRecursion (MayBeSent number (Some register)) (messages_of number asked.Register r)
register_sent m n r now number low step held =
    by_front (λ k. HoldsReply k → AllByRecursion (MayBeSent number (Some register)) (messages_of number asked.Register k)) m n r now step
    (λ front switches news has.
    news_sent number (Some register) front news (Answered number (sent_answer asked.Register (answers.OneTid (front - 1)))) has.notices
    (answer_comes number register asked.Register (answers.OneTid (front - 1)) (λ k. refl) low (has.answer asked.Register) refl))
    (λ why has. (answer_comes number register asked.Register (answers.Refused why) (λ k. refl) low (has.answer asked.Register) refl, tt)) held

abbrev answer_told : Reply → Answer
answer_told r = sent_answer asked.Register (reply_answer asked.Register r)

-- ---- the call

module _ {S : Type 0} (steps : Request → Reply → S → S → Type 0) (machine : S → Machine) (n : ℕ) (stepped : (q : Request) (r : Reply) (s t : S) → steps q r s t → IsMachineStep (machine s) n q r (machine t)) (read_back : AreReadBack) (whole : WholePiecesAreHeard) where
  module _ (before : S) (d : DeskState) (old : ClientState) (x : IsNewcomer (machine before) n d old) where
    abbrev mid : ClientState
    mid = waiting_for old register

    abbrev number : ℕ
    number = next_number old.number

    abbrev payload : List ℕ
    payload = payload_of (Asked number register)

    takes : taken d payload ≡ Some (registers d number)
    takes = register_taken read_back d number x.early (next_low old.number)

    abbrev Hears : Reply → ClientState → Type 0
    Hears r new = HearsMessages (Some register) (messages_of number asked.Register r) old.held new.held

    -- the way back was lost, behind one step at most
    abbrev Lost : Refusal → S → Type 0
    Lost r now = IsWayLost r × MaySteps steps request.Front before now

    abbrev Exchanged : Result (List Message) Refusal → ClientState → S → DeskState → Type 0
    Exchanged (Err r) new now left = Lost r now
    Exchanged (Ok messages) new now left = (r : Reply) × steps request.Front r before now × (messages ≡ messages_of number asked.Register r) × Hears r new × IsAtRest left new

    abbrev RegisterGot : Result Answer Refusal → ClientState → S → DeskState → Type 0
    RegisterGot (Err r) new now left = ((e : AskError) × IsUnsent register e × (r ≡ unasked e) × (now ≡ before)) ⊎ Lost r now
    RegisterGot (Ok answer) new now left = (r : Reply) × steps request.Front r before now × (answer ≡ answer_told r) × Hears r new × IsAtRest left new

    all_so : (r : Reply) (now : S) (left : DeskState) (result : Result (List Message) ClientError) (new : ClientState) → steps request.Front r before now → AllCame (messages_of number asked.Register r) mid left result new
        → Exchanged (refused_so result) new now left
    all_so r now left result new step (inl none) = subst (λ (k : Result (List Message) ClientError). Exchanged (refused_so k) new now left) (sym none) (tt, one_step r now step)
    all_so r now left result new step (inr all) = subst (λ (k : Result (List Message) ClientError). Exchanged (refused_so k) new now left) (sym all.0) (r, step, refl, all.1, all.2)

    exchanged : (result : Result (List Message) Refusal) (new : ClientState) (now : S) (left : DeskState) → IsExchanged steps before d mid (payload ∷ []) result new now left → Exchanged result new now left
    exchanged _ _ _ _ (broke_off r now left way front) = (way, register_breaks steps d number payload takes left before now front)
    exchanged _ _ _ _ (came out result new now left serves fed) =
        let by = register_served steps d number payload takes left before now out serves in
        let step : IsMachineStep (machine before) n request.Front by.reply (machine now) = stepped request.Front by.reply before now by.step in
        all_so by.reply now left result new by.step
        (all_come whole (messages_of number asked.Register by.reply) mid new (record d { registered = true }) left result (concat out) (record { registered = refl; end = x.end; reading = x.reading }) by.registered
        (register_sent (machine before) n by.reply (machine now) number (next_low old.number) step by.held)
        (ap concat by.sent ∙ frames_are number asked.Register by.reply) fed)

    answer_none : (answer : Answer) → ◌≡◌ {A = Option Answer} (Some answer) None → ⊥
    answer_none answer is = absurd cc

    said_in : (messages : List Message) (r : Reply) → messages ≡ messages_of number asked.Register r → answer_in messages ≡ Some (answer_told r)
    said_in messages r is = ap answer_in is ∙ answer_behind (notices_before r) number (answer_told r)

    talked : (result : Result Answer Refusal) (new : ClientState) (now : S) (left : DeskState) → IsTalked steps before d mid (payload ∷ []) result new now left → RegisterGot result new now left
    talked _ _ _ _ (talk_failed r new now left ex) = inr (exchanged (Err r) new now left ex)
    talked _ _ _ _ (talk_answered messages answer new now left ex is) =
        let got = exchanged (Ok messages) new now left ex in
        let same : answer ≡ answer_told got.0 = let e : ◌≡◌ {A = Option Answer} (Some answer) (Some (answer_told got.0)) = sym is ∙ said_in messages got.0 got.2 in cc in
        (got.0, got.1, same, got.3, got.4)
    talked _ _ _ _ (talk_waited messages result between_client new middle now between left ex is) =
        let got = exchanged (Ok messages) between_client middle between ex in
        absurd (answer_none (answer_told got.0) (sym (said_in messages got.0 got.2) ∙ is))

    register_got : (result : Result Answer Refusal) (new : ClientState) (now : S) (left : DeskState) → IsAsked steps before d old register result new now left → RegisterGot result new now left
    register_got _ _ _ _ (not_sent e why) = inl (e, why, refl, refl)
    register_got _ _ _ _ (was_sent result new now left is) = talked result new now left is

    fresh_before : IsFresh (machine before) n old.held
    fresh_before = record {
      whole = x.whole;
      sound = x.sound;
      told = x.told;
      free = x.free;
      among = λ oid e there. subst (λ (es : Intervals). interval_of es oid ≡ Some e) x.empty there;
      low = let k = x.known in omega (arith, k);
    }

    -- behind the first front, where it is answered
    heard_fresh : (r : Reply) (new : ClientState) (now : S) → steps request.Front r before now → Hears r new → (tid : ℕ) → tid_answer (answer_told r) ≡ Ok tid → IsFresh (machine now) n new.held
    heard_fresh r new now step heard tid is =
        by_front (λ k. r ≡ k → Hears k new → tid_answer (answer_told k) ≡ Ok tid → IsFresh (machine now) n new.held) (machine before) n r (machine now) (stepped request.Front r before now step)
        (λ front switches news same got said.
        let both = news_heard (Some register) (notices_of front news) number (sent_answer asked.Register (answers.OneTid (front - 1))) old.held new.held got in
        let told : HearsAll (notices_of front news) old.held new.held = subst (λ (h : Held). HearsAll (notices_of front news) old.held h) (sym both.2) both.1 in
        fresh_now (machine before) n (machine now) old.held new.held front switches news (subst (λ (k : Reply). IsMachineStep (machine before) n request.Front k (machine now)) same (stepped request.Front r before now step)) fresh_before told)
        (λ why same got said. absurd (refused_says why tid said)) refl heard is
      where
        err_ok : (why : Refusal) → Err why ≡ Ok tid → ⊥
        err_ok why is = absurd cc

        refused_says : (why : Refusal) (tid : ℕ) → tid_answer (answer_told (reply.Refused why)) ≡ Ok tid → ⊥
        refused_says why tid said = by_sent (λ a. tid_answer a ≡ Ok tid → ⊥) asked.Register (answers.Refused why) (λ k. refl) (λ allowed short is. absurd cc) (λ k is. absurd cc) (λ is. absurd cc) said

    -- and the sync behind it
    synced_knows : (m : Machine) (r : Reply) (now : Machine) (h last : Held) (k : ℕ) → IsMachineStep m n request.Front r now → HoldsReply r → IsFresh m n h → HearsMessages (Some calls.Sync) (messages_of k asked.Other r) h last
        → OnOk (count_answer (answer_sent r)) (MayBeServed now n last.standing last.cache.entries (fresh_client now))
    synced_knows m r now h last k step holds fresh heard =
        by_front (λ z. r ≡ z → HearsMessages (Some calls.Sync) (messages_of k asked.Other z) h last → OnOk (count_answer (answer_sent z)) Knows) m n r now step
        (λ front switches news is got.
        let said : IsMachineStep m n request.Front (reply.Front front news switches) now = subst (λ (z : Reply). IsMachineStep m n request.Front z now) is step in
        by_sent (λ a. HoldsAnswer a → HearsMessages (Some calls.Sync) (map (λ z. Told z) (notices_of front news) ++ Answered k a ∷ []) h last → OnOk (count_answer a) Knows) asked.Other (answers.TidAndCount front switches) (λ z. refl)
        (λ allowed short held all.
        let both = news_heard (Some calls.Sync) (notices_of front news) k (answers.TidAndCount front switches) h last all in
        fresh_synced m n now h both.0 front switches news said fresh both.1 last held.1 both.2)
        (λ z held all. tt) (λ held all. tt) ((subst (λ (z : Reply). HoldsReply z) is holds).answer asked.Other) got)
        (λ why is got. by_sent (λ a. OnOk (count_answer a) Knows) asked.Other (answers.Refused why) (λ z. refl) (λ allowed short. tt) (λ z. tt) tt) refl heard
      where
        Knows : Type 0
        Knows = MayBeServed now n last.standing last.cache.entries (fresh_client now)

    abbrev Leaves : Result ℕ Refusal → ClientState → S → DeskState → Type 0
    Leaves result new now left = RegisterLeaves steps machine n before result new now left

    refused_steps : (result : Result Answer Refusal) (r : Refusal) (new : ClientState) (now : S) (left : DeskState) → RegisterGot result new now left → answered_so tid_answer result ≡ Err r → RegisterSteps {T = ℕ} steps before (Err r) now
    refused_steps (Err why) r new now left got is = by_got got
      where
        same : why ≡ r
        same = cc

        by_got : ((e : AskError) × IsUnsent register e × (why ≡ unasked e) × (now ≡ before)) ⊎ Lost why now → RegisterSteps {T = ℕ} steps before (Err r) now
        by_got (inl un) = subst (λ (k : Refusal). RegisterSteps {T = ℕ} steps before (Err k) now) (sym un.2 ∙ same) (subst (λ (s : S). RegisterSteps {T = ℕ} steps before (Err (unasked un.0)) s) (sym un.3) (unregistered un.0 un.1))
        by_got (inr lost) = subst (λ (k : Refusal). RegisterSteps {T = ℕ} steps before (Err k) now) same (register_lost why now lost.0 lost.1)
    refused_steps (Ok answer) r new now left got is = not_registered r got.0 now got.1 (sym (ap tid_answer got.2) ∙ is)

    synced_so : (result : Result Answer Refusal) (tid : ℕ) (new : ClientState) (now : S) (left : DeskState) (synced : Result ℕ Refusal) (last : ClientState) (end : S) (gone : DeskState) → RegisterGot result new now left
        → answered_so tid_answer result ≡ Ok tid → IsMadeBy steps now left new calls.Sync count_answer left_alone synced last end gone → Leaves synced last end gone
    synced_so (Err why) tid new now left synced last end gone got is made = absurd (err_ok why is)
      where
        err_ok : (why : Refusal) → Err why ≡ Ok tid → ⊥
        err_ok why is = absurd cc
    synced_so (Ok answer) tid new now left _ _ _ _ got is (made_by result last end gone asked) =
        by_sync result (sync_got steps machine n stepped read_back whole now left new got.4 result last end gone asked)
      where
        fresh : IsFresh (machine now) n new.held
        fresh = heard_fresh got.0 new now got.1 got.3 tid (sym (ap tid_answer got.2) ∙ is)

        behind : (result : Result Answer Refusal) → SyncGot steps machine n stepped read_back whole now left new got.4 result last end gone → RegisterSteps steps before (answered_so count_answer result) end
        behind result sync =
            registers_so tid got.0 now (answered_so count_answer result) end got.1 (sym (ap tid_answer got.2) ∙ is) (got_front steps machine n stepped read_back whole now left new got.4 result last end gone sync)

        by_sync : (result : Result Answer Refusal) → SyncGot steps machine n stepped read_back whole now left new got.4 result last end gone → Leaves (answered_so count_answer result) last end gone
        by_sync (Err why) sync = (tt, behind (Err why) sync)
        by_sync (Ok said) sync = (
          by_count (count_answer said) (subst (λ (a : Answer). OnOk (count_answer a) (MayBeServed (machine end) n last.held.standing last.held.cache.entries (fresh_client (machine end)))) (sym sync.2)
              (synced_knows (machine now) sync.0 (machine end) new.held last.held (next_number new.number) (stepped request.Front sync.0 now end sync.1) sync.5 fresh sync.3)),
          behind (Ok said) sync,
        )
          where
            by_count : (count : Result ℕ Refusal) → OnOk count (MayBeServed (machine end) n last.held.standing last.held.cache.entries (fresh_client (machine end))) → OnOk count (Stands (machine end) n gone last (fresh_client (machine end)))
            by_count (Ok k) may = record { served = may; rest = sync.4 }
            by_count (Err why) may = tt

  pub register_leaves : (before now : S) (d left : DeskState) (old new : ClientState) (result : Result ℕ Refusal) → IsRegistered steps before d old result new now left → IsNewcomer (machine before) n d old
      → RegisterLeaves steps machine n before result new now left
  register_leaves before _ d _ old _ _ (register_refused result r new now left asked is) x =
      (tt, refused_steps before d old x result r new now left (register_got before d old x result new now left asked) is)
  register_leaves before _ d _ old _ _ (register_synced result tid new now left synced last end gone asked is made) x =
      synced_so before d old x result tid new now left synced last end gone (register_got before d old x result new now left asked) is made

-- whatever front is answered
pub register_as : {S : Type 0} (steps : Request → Reply → S → S → Type 0) (machine : S → Machine) (n : ℕ) (before now : S) (one other : ℕ) (new : ClientState) (left : DeskState) → RegisterLeaves steps machine n before (Ok one) new now left
    → RegisterLeaves steps machine n before (Ok other) new now left
register_as {S} steps machine n before now one other new left leaves = (leaves.0, by_steps leaves.1 refl)
  where
    by_steps : {result : Result ℕ Refusal} {end : S} → RegisterSteps steps before result end → result ≡ Ok one → RegisterSteps {T = ℕ} steps before (Ok other) end
    by_steps (unregistered error unsent) is = absurd cc
    by_steps (register_lost r end way may) is = absurd cc
    by_steps (not_registered r reply end step said) is = absurd cc
    by_steps (registers_so tid reply between result end step said front) is =
        registers_so tid reply between (Ok other) end step said (front_as steps between end one other (subst (λ (k : Result ℕ Refusal). MakesFront steps between k end) is front))

-- What a sync of a remote client leaves, where it is answered.
use Rattle.std.proofs.Common.{◌≡◌, ◌⊎◌, inl, inr, ℕ, ◌+◌, ◌<◌, ◌^◌, Bool, true, false, List, [], ◌∷◌, ◌++◌, map, Option, Some, None, Result, Ok, Err, refl, sym, ap, subst, ◌∙◌, arith}
use Rattle.std.specs.Prelude.{OnOk}
use Rattle.std.specs.List.{AllByRecursion, concat}
use Rattle.zb_model.specs.declared.news.News.{News}
use Rattle.zb_model.specs.declared.refusal.Refusal.{Refusal}
use Rattle.zb_model.specs.declared.refusal.Refusal.TheVariants as refusal
use Rattle.zb_model.specs.Database.{newest_tid}
use Rattle.zodb_core.specs.declared.reply.Reply.{Reply}
use Rattle.zodb_core.specs.declared.reply.Reply.TheVariants as reply
use Rattle.zodb_core.specs.declared.request.Request.{Request}
use Rattle.zodb_core.specs.declared.request.Request.TheVariants as request
use Rattle.zodb_core.specs.Machine.{Machine, switches_of}
use Rattle.zodb_core.specs.Sound.{IsSoundMachine}
use Rattle.zodb_core.specs.Steps.{Stepped, early_refusal, front_step, step_of, unless_early}
use Rattle.connection_view.specs.Views.{Client}
use Rattle.zeo_messages.specs.declared.answer.Answer.{Answer}
use Rattle.zeo_messages.specs.declared.answer.Answer.TheVariants as answers
use Rattle.zeo_messages.specs.declared.call.Call.TheVariants as calls
use Rattle.zeo_messages.specs.declared.message.Message.{Message}
use Rattle.zeo_messages.specs.declared.message.Message.TheVariants.{Answered, Asked, Told}
use Rattle.zeo_messages.specs.Messages.{payload_of}
use Rattle.zeo_messages.specs.Answers.{HoldsAnswer}
use Rattle.zeo_reading.specs.Reading.{AreReadBack}
use Rattle.zeo_news.specs.Notices.{notices_of}
use Rattle.zeo_desk.specs.declared.asked.Asked.TheVariants as asked
use Rattle.zeo_desk.specs.Answering.{reply_answer}
use Rattle.zeo_desk.specs.Desks.{DeskState}
use Rattle.zeo_serving.specs.MayLaws.{answered_step, may_step, shut_step}
use Rattle.zeo_serving.specs.Serving.{synced, view_at}
use Rattle.zeo_client.specs.declared.asking.AskError.{AskError}
use Rattle.zeo_client.specs.declared.error.ClientError.{ClientError}
use Rattle.zeo_client.specs.Asking.{next_number}
use Rattle.zeo_client.specs.Hearing.{Held, IsAnswerHeard}
use Rattle.zeo_client.specs.Rows.{answers_call}
use Rattle.zeo_client.specs.SyncLaws.{HearsAll, syncs_serve}
use Rattle.zeo_client.specs.Taking.{ClientState}
use Rattle.zeo_client.specs.Whole.{HearsMessages, MayBeSent, WholePiecesAreHeard}
use Rattle.remote_loads.specs.Answers.{count_answer}
use Rattle.remote_loads.specs.Carrying.{IsMachineStep}
use Rattle.remote_loads.specs.Leaving.{SyncLeaves}
use Rattle.remote_loads.specs.Causes.{unasked}
use Rattle.remote_loads.specs.Making.{IsAnsweredLike, IsMadeBy, MakesFront, MakesOne, answered_so, left_alone, made_by, makes_answered, makes_lost, makes_none, makes_unsent}
use Rattle.remote_loads.specs.Sending.{HoldsReply, messages_of, notices_before}
use Rattle.remote_loads.specs.Served.{IsAnsweredAtOnce, MaySteps, no_step, one_step}
use Rattle.remote_loads.specs.Standing.{IsAtRest, Stands}
use Rattle.remote_loads.specs.Talking.{IsAsked, IsExchanged, IsTalked, IsUnsent, IsWayLost, answer_in, answer_sent, broke_off, came, not_sent, refused_so, talk_answered, talk_failed, talk_waited, waiting_for, was_sent}
use Rattle.remote_loads.specs.KnownLaws.{known_may}
use Rattle.remote_loads.proofs.BrokenCall.{one_call_breaks}
use Rattle.remote_loads.proofs.Called.{next_low}
use Rattle.remote_loads.proofs.Heard.{AllCame, all_come, answer_behind, news_heard, news_sent}
use Rattle.remote_loads.proofs.Loading.{MayBeAt}
use Rattle.remote_loads.proofs.OneCall.{one_call}
use Rattle.remote_loads.proofs.Rows.{by_reply}
use Rattle.remote_loads.proofs.Sendings.{answer_comes, by_sent, frames_are}

-- ---- the step

-- a front that was answered
pub record FrontSaid (m : Machine) (front switches : ℕ) : Type 0 where
  pub high : front ≡ newest_tid m.list + 1
  pub packs : switches ≡ switches_of m.journal

front_said : (m : Machine) (n front switches : ℕ) (news : News) (early : Option Refusal) → (unless_early early m (front_step m n)).reply ≡ reply.Front front news switches → FrontSaid m front switches
front_said m n front switches news (Some r) is = absurd cc
front_said m n front switches news None is = record { high = cc; packs = cc }

module _ (m : Machine) (n : ℕ) (now : Machine) (c : Client) (old new mid : Held) (front switches : ℕ) (news : News) (step : IsMachineStep m n request.Front (reply.Front front news switches) now) where
  abbrev made : Stepped
  made = record { reply = reply.Front front news switches; machine = step.left; ticks = step.ticks }

  said : (step_of step.rules m n request.Front step.stamp).reply ≡ reply.Front front news switches
  said = sym (ap (λ (s : Stepped). s.reply) (answered_step step.rules m n request.Front step.stamp made step.before step.after (reply.Front front news switches) step.made refl refl))

  never : reply.Front front news switches ≡ reply.Refused refusal.NotOpen → ⊥
  never same = absurd cc

  parts : FrontSaid m front switches
  parts = front_said m n front switches news (early_refusal m n request.Front) said

  low : MayBeAt m n old c → newest_tid m.list + 1 < 2 ^ 64
  low may = by_failed m.failed refl
    where
      by_failed : (b : Bool) → m.failed ≡ b → newest_tid m.list + 1 < 2 ^ 64
      by_failed true broke = absurd (never (shut_step step.rules m n request.Front step.stamp made step.before step.after (may.shut broke) step.made).reply)
      by_failed false whole =
          let b = (subst (λ (k : Machine). IsSoundMachine k) (may.whole whole) may.sound).database.bounded in
          omega (arith, b)

  pub synced_step : switches < 2 ^ 64 → HearsAll (notices_of front news) old mid → IsAnswerHeard (Some calls.Sync) (answers.TidAndCount front switches) mid new → MayBeAt m n old c → MayBeAt now n new (synced (view_at m) c)
  synced_step few heard answered may =
      known_may step.left now n new.standing new.cache.entries (synced (view_at m) c) step.known
      (may_step step.rules m n request.Front step.stamp made step.before step.after old.standing new.standing old.cache.entries new.cache.entries c (synced (view_at m) c) step.made may (record {
        formed = tt;
        whole = λ sound x. syncs_serve step.rules m n front switches step.stamp news sound said old mid new c x heard answered;
        lost = λ is at sound x. absurd (never is);
        front = low may;
        switches = subst (λ (k : ℕ). k < 2 ^ 64) parts.packs few;
      }))

-- ---- the answer

sync_row : (m : Machine) (n : ℕ) (r : Reply) (now : Machine) → IsMachineStep m n request.Front r now → answers_call calls.Sync (reply_answer asked.Other r) ≡ true
sync_row m n r now step =
    by_reply (λ x. answers_call calls.Sync (reply_answer asked.Other x) ≡ true) step.rules m n request.Front step.stamp (record { reply = r; machine = step.left; ticks = step.ticks }) step.before step.after step.made (λ none. refl) (λ why. refl)

-- the messages of a reply may come
sync_sent : (m : Machine) (n : ℕ) (r : Reply) (now : Machine) (number : ℕ) → number < 2 ^ 31 → IsMachineStep m n request.Front r now → HoldsReply r
    → AllByRecursion (MayBeSent number (Some calls.Sync)) (messages_of number asked.Other r)
sync_sent m n r now number low step held =
    by_reply (λ x. r ≡ x → AllByRecursion (MayBeSent number (Some calls.Sync)) (messages_of number asked.Other x)) step.rules m n request.Front step.stamp (record { reply = r; machine = step.left; ticks = step.ticks }) step.before step.after step.made
    (λ none is. news_sent number (Some calls.Sync) _ _ (Answered number (answer_sent (front_step m n).reply)) (subst (λ (x : Reply). HoldsReply x) is held).notices (one (front_step m n).reply is refl))
    (λ why is. (one (reply.Refused why) is refl, tt)) refl
  where
    one : (x : Reply) → r ≡ x → answers_call calls.Sync (reply_answer asked.Other x) ≡ true → MayBeSent number (Some calls.Sync) (Answered number (answer_sent x))
    one x is row = answer_comes number calls.Sync asked.Other (reply_answer asked.Other x) (λ k. refl) low ((subst (λ (y : Reply). HoldsReply y) is held).answer asked.Other) row

-- once they are heard, and the answer is none of a refusal, the client knows the list as it stood
module _ (m : Machine) (n : ℕ) (r : Reply) (now : Machine) (c : Client) (old new : Held) (number : ℕ) (step : IsMachineStep m n request.Front r now) (holds : HoldsReply r) (may : MayBeAt m n old c) where
  abbrev Knows : Answer → Type 0
  Knows a = OnOk (count_answer a) (MayBeAt now n new (synced (view_at m) c))

  refused_knows : (why : Refusal) → Knows (answer_sent (reply.Refused why))
  refused_knows why = by_sent Knows asked.Other (answers.Refused why) (λ k. refl) (λ allowed short. tt) (λ k. tt) tt

  front_knows : (front switches : ℕ) (news : News) → r ≡ reply.Front front news switches → HearsMessages (Some calls.Sync) (messages_of number asked.Other (reply.Front front news switches)) old new
      → Knows (answer_sent (reply.Front front news switches))
  front_knows front switches news is heard =
      let said : IsMachineStep m n request.Front (reply.Front front news switches) now = subst (λ (x : Reply). IsMachineStep m n request.Front x now) is step in
      by_sent (λ a. HoldsAnswer a → HearsMessages (Some calls.Sync) (map (λ k. Told k) (notices_of front news) ++ Answered number a ∷ []) old new → Knows a) asked.Other (answers.TidAndCount front switches) (λ k. refl)
      (λ allowed short held heard.
      let both = news_heard (Some calls.Sync) (notices_of front news) number (answers.TidAndCount front switches) old new heard in
      synced_step m n now c old new both.0 front switches news said held.1 both.1 both.2 may)
      (λ k held heard. tt) (λ held heard. tt) ((subst (λ (x : Reply). HoldsReply x) is holds).answer asked.Other) heard

  heard_knows : HearsMessages (Some calls.Sync) (messages_of number asked.Other r) old new → Knows (answer_sent r)
  heard_knows heard =
      by_reply (λ x. r ≡ x → HearsMessages (Some calls.Sync) (messages_of number asked.Other x) old new → Knows (answer_sent x)) step.rules m n request.Front step.stamp (record { reply = r; machine = step.left; ticks = step.ticks })
      step.before step.after step.made (λ none is. front_knows _ _ _ is) (λ why is got. refused_knows why) refl heard

-- ---- the call

-- a front's reply is answered at once
front_once : IsAnsweredAtOnce request.Front
front_once = record { last = λ r. refl; answer = λ r. refl; long = λ k. refl }

like_itself : {T : Type 0} (r : Result T Refusal) → IsAnsweredLike r r
like_itself (Ok x) = tt
like_itself (Err r) = refl

module _ {S : Type 0} (steps : Request → Reply → S → S → Type 0) (machine : S → Machine) (n : ℕ) (stepped : (q : Request) (r : Reply) (s t : S) → steps q r s t → IsMachineStep (machine s) n q r (machine t)) (read_back : AreReadBack) (whole : WholePiecesAreHeard) where
  module _ (before : S) (d : DeskState) (old : ClientState) (rest : IsAtRest d old) where
    abbrev mid : ClientState
    mid = waiting_for old calls.Sync

    abbrev payloads : List (List ℕ)
    payloads = payload_of (Asked (next_number old.number) calls.Sync) ∷ []

    -- a front's messages were heard
    abbrev Hears : Reply → ClientState → Type 0
    Hears r new = HearsMessages (Some calls.Sync) (messages_of (next_number old.number) asked.Other r) old.held new.held

    -- the way back was lost, behind one step at most
    abbrev Lost : Refusal → S → Type 0
    Lost r now = IsWayLost r × MaySteps steps request.Front before now

    -- all that was sent came
    abbrev Exchanged : Result (List Message) Refusal → ClientState → S → DeskState → Type 0
    Exchanged (Err r) new now left = Lost r now
    Exchanged (Ok messages) new now left = (r : Reply) × steps request.Front r before now × (messages ≡ messages_of (next_number old.number) asked.Other r) × Hears r new × IsAtRest left new × HoldsReply r

    -- what is answered is what was sent
    abbrev pub SyncGot : Result Answer Refusal → ClientState → S → DeskState → Type 0
    SyncGot (Err r) new now left = ((e : AskError) × IsUnsent calls.Sync e × (r ≡ unasked e) × (now ≡ before)) ⊎ Lost r now
    SyncGot (Ok answer) new now left = (r : Reply) × steps request.Front r before now × (answer ≡ answer_sent r) × Hears r new × IsAtRest left new × HoldsReply r

    all_so : (r : Reply) (now : S) (left : DeskState) (result : Result (List Message) ClientError) (new : ClientState) → steps request.Front r before now → HoldsReply r → AllCame (messages_of (next_number old.number) asked.Other r) mid left result new
        → Exchanged (refused_so result) new now left
    all_so r now left result new step holds (inl none) = subst (λ (k : Result (List Message) ClientError). Exchanged (refused_so k) new now left) (sym none) (tt, one_step r now step)
    all_so r now left result new step holds (inr all) = subst (λ (k : Result (List Message) ClientError). Exchanged (refused_so k) new now left) (sym all.0) (r, step, refl, all.1, all.2, holds)

    exchanged : (result : Result (List Message) Refusal) (new : ClientState) (now : S) (left : DeskState) → IsExchanged steps before d mid payloads result new now left → Exchanged result new now left
    exchanged _ _ _ _ (broke_off r now left way front) = (way, (one_call_breaks steps read_back d left (next_number old.number) calls.Sync request.Front before now rest.registered (next_low old.number) tt refl front_once refl front).0)
    exchanged _ _ _ _ (came out result new now left serves fed) =
        let by = one_call steps read_back d left (next_number old.number) calls.Sync request.Front before now out rest.registered (next_low old.number) tt refl front_once refl serves in
        let step : IsMachineStep (machine before) n request.Front by.reply (machine now) = stepped request.Front by.reply before now by.step in
        let registered : left.registered ≡ true = ap (λ (k : DeskState). k.registered) by.desk ∙ rest.registered in
        all_so by.reply now left result new by.step by.held
        (all_come whole (messages_of (next_number old.number) asked.Other by.reply) mid new d left result (concat out) (record { registered = rest.registered; end = rest.end; reading = rest.reading }) registered
        (sync_sent (machine before) n by.reply (machine now) (next_number old.number) (next_low old.number) step by.held)
        (ap concat by.sent ∙ frames_are (next_number old.number) asked.Other by.reply) fed)

    answer_none : (answer : Answer) → ◌≡◌ {A = Option Answer} (Some answer) None → ⊥
    answer_none answer is = absurd cc

    said_in : (messages : List Message) (r : Reply) → messages ≡ messages_of (next_number old.number) asked.Other r → answer_in messages ≡ Some (answer_sent r)
    said_in messages r is = ap answer_in is ∙ answer_behind (notices_before r) (next_number old.number) (answer_sent r)

    talked : (result : Result Answer Refusal) (new : ClientState) (now : S) (left : DeskState) → IsTalked steps before d mid payloads result new now left → SyncGot result new now left
    talked _ _ _ _ (talk_failed r new now left ex) = inr (exchanged (Err r) new now left ex)
    talked _ _ _ _ (talk_answered messages answer new now left ex is) =
        let got = exchanged (Ok messages) new now left ex in
        let same : answer ≡ answer_sent got.0 = let e : ◌≡◌ {A = Option Answer} (Some answer) (Some (answer_sent got.0)) = sym is ∙ said_in messages got.0 got.2 in cc in
        (got.0, got.1, same, got.3, got.4, got.5)
    talked _ _ _ _ (talk_waited messages result between_client new middle now between left ex is) =
        let got = exchanged (Ok messages) between_client middle between ex in
        absurd (answer_none (answer_sent got.0) (sym (said_in messages got.0 got.2) ∙ is))

    pub sync_got : (result : Result Answer Refusal) (new : ClientState) (now : S) (left : DeskState) → IsAsked steps before d old calls.Sync result new now left → SyncGot result new now left
    sync_got _ _ _ _ (not_sent e why) = inl (e, why, refl, refl)
    sync_got _ _ _ _ (was_sent result new now left is) = talked result new now left is

    abbrev Made : Result ℕ Refusal → S → Type 0
    Made result now = MakesOne steps request.Front calls.Sync count_answer before result now

    lost_made : (r : Refusal) (now : S) → IsWayLost r → MaySteps steps request.Front before now → Made (Err r) now
    lost_made r _ way no_step = makes_none r way
    lost_made r _ way (one_step reply now step) = makes_lost r reply now way step

    got_made : (result : Result Answer Refusal) (new : ClientState) (now : S) (left : DeskState) → SyncGot result new now left → Made (answered_so count_answer result) now
    got_made (Err r) new now left (inl un) = subst (λ (k : Refusal). Made (Err k) now) (sym un.2) (subst (λ (s : S). Made (Err (unasked un.0)) s) (sym un.3) (makes_unsent un.0 un.1))
    got_made (Err r) new now left (inr lost) = lost_made r now lost.0 lost.1
    got_made (Ok answer) new now left got = subst (λ (a : Answer). Made (count_answer a) now) (sym got.2) (makes_answered got.0 now got.1)

    pub got_front : (result : Result Answer Refusal) (new : ClientState) (now : S) (left : DeskState) → SyncGot result new now left → MakesFront steps before (answered_so count_answer result) now
    got_front result new now left got = (answered_so count_answer result, got_made result new now left got, like_itself (answered_so count_answer result))

  module _ (before : S) (d : DeskState) (old : ClientState) (c : Client) (x : Stands (machine before) n d old c) where
    answered_leaves : (r : Reply) (new : ClientState) (now : S) (left : DeskState) → steps request.Front r before now → HoldsReply r → HearsMessages (Some calls.Sync) (messages_of (next_number old.number) asked.Other r) old.held new.held → IsAtRest left new
        → (result : Result ℕ Refusal) → count_answer (answer_sent r) ≡ result → OnOk result (Stands (machine now) n left new (synced (view_at (machine before)) c))
    answered_leaves r new now left step holds heard rest result is =
        by_answer (count_answer (answer_sent r)) is (heard_knows (machine before) n r (machine now) c old.held new.held (next_number old.number) (stepped request.Front r before now step) holds x.served heard)
      where
        by_answer : (said : Result ℕ Refusal) → said ≡ result → OnOk said (MayBeAt (machine now) n new.held (synced (view_at (machine before)) c)) → OnOk result (Stands (machine now) n left new (synced (view_at (machine before)) c))
        by_answer (Ok front) same may = subst (λ (k : Result ℕ Refusal). OnOk k (Stands (machine now) n left new (synced (view_at (machine before)) c))) same (record { served = may; rest = rest })
        by_answer (Err why) same may = subst (λ (k : Result ℕ Refusal). OnOk k (Stands (machine now) n left new (synced (view_at (machine before)) c))) same tt

    by_got : (result : Result Answer Refusal) (new : ClientState) (now : S) (left : DeskState) → SyncGot before d old x.rest result new now left → SyncLeaves steps machine n before c (answered_so count_answer result) new now left
    by_got (Err r) new now left got = (tt, got_front before d old x.rest (Err r) new now left got)
    by_got (Ok answer) new now left got =
        (answered_leaves got.0 new now left got.1 got.5 got.3 got.4 (count_answer answer) (sym (ap count_answer got.2)), got_front before d old x.rest (Ok answer) new now left got)

    pub sync_leaves : (result : Result Answer Refusal) (new : ClientState) (now : S) (left : DeskState) → IsAsked steps before d old calls.Sync result new now left → SyncLeaves steps machine n before c (answered_so count_answer result) new now left
    sync_leaves result new now left is = by_got result new now left (sync_got before d old x.rest result new now left is)

  pub made_leaves : (before now : S) (d left : DeskState) (old new : ClientState) (result : Result ℕ Refusal) → IsMadeBy steps before d old calls.Sync count_answer left_alone result new now left
      → (c : Client) → Stands (machine before) n d old c → SyncLeaves steps machine n before c result new now left
  made_leaves before _ d _ old _ _ (made_by result new now left made) c x = sync_leaves before d old c x result new now left made

-- whatever front is answered
pub front_as : {S : Type 0} (steps : Request → Reply → S → S → Type 0) (before now : S) (one other : ℕ) → MakesFront {T = ℕ} steps before (Ok one) now → MakesFront {T = ℕ} steps before (Ok other) now
front_as steps before now one other (Ok said, makes, like) = (Ok said, makes, tt)
front_as steps before now one other (Err r, makes, like) = absurd like

pub sync_as : {S : Type 0} (steps : Request → Reply → S → S → Type 0) (machine : S → Machine) (n : ℕ) (before now : S) (c : Client) (one other : ℕ) (new : ClientState) (left : DeskState) → SyncLeaves {T = ℕ} steps machine n before c (Ok one) new now left
    → SyncLeaves {T = ℕ} steps machine n before c (Ok other) new now left
sync_as steps machine n before now c one other new left leaves = (leaves.0, front_as steps before now one other leaves.1)

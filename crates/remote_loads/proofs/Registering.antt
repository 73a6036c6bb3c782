-- What the registering of a remote client leaves and makes.
use Rattle.std.proofs.Common.{◌≡◌, ℕ, ◌+◌, ◌<◌, ◌≤◌, ◌^◌, max, Bool, true, false, cond, List, [], ◌∷◌, Option, Some, None, length, refl, sym, ap, subst, ◌∙◌, arith}
use Rattle.std.specs.Prelude.{IsTrue, ◌&&◌, ◌||◌, nat_lt}
use Rattle.std.specs.List.{AllByRecursion}
use Rattle.std.proofs.lemmas.Bool.{lt-ltb}
use Rattle.zb_model.specs.declared.news.News.{News}
use Rattle.zb_model.specs.declared.refusal.Refusal.{Refusal}
use Rattle.zb_model.specs.Database.{newest_tid}
use Rattle.zodb_core.specs.declared.reply.Reply.{Reply}
use Rattle.zodb_core.specs.declared.reply.Reply.TheVariants as reply
use Rattle.zodb_core.specs.declared.request.Request.{Request}
use Rattle.zodb_core.specs.declared.request.Request.TheVariants as request
use Rattle.zodb_core.specs.Machine.{Machine, MachineVote, is_open_in, news_of, switches_of, told_of, untold}
use Rattle.zodb_core.specs.Outcomes.{Answered as IsAnswered}
use Rattle.zodb_core.specs.Sound.{IsSoundMachine}
use Rattle.zodb_core.specs.SoundLaws.{left_sound}
use Rattle.zodb_core.specs.Steps.{Stepped, early_refusal, front_step, step_of, unless_early}
use Rattle.zeo_messages.specs.declared.answer.Answer.TheVariants as answers
use Rattle.zeo_messages.specs.declared.call.Call.TheVariants as calls
use Rattle.zeo_messages.specs.declared.message.Message.{Message}
use Rattle.zeo_messages.specs.declared.message.Message.TheVariants.{Asked}
use Rattle.zeo_messages.specs.Calls.{fits_call}
use Rattle.zeo_messages.specs.Messages.{payload_of}
use Rattle.zeo_news.specs.Notices.{notices_of}
use Rattle.zeo_reading.specs.Reading.{AreReadBack, message_in}
use Rattle.zeo_desk.specs.declared.asked.Asked.TheVariants as asked
use Rattle.zeo_desk.specs.declared.next.Next.{Next}
use Rattle.zeo_desk.specs.declared.next.Next.TheVariants.{Send, Step}
use Rattle.zeo_desk.specs.Answering.{reply_frames}
use Rattle.zeo_desk.specs.Desks.{DeskState, Turn, call_in, called, called_early, registers, replied, taken, taken_if}
use Rattle.zeo_cache.specs.declared.interval.Interval.{Interval}
use Rattle.zeo_cache.specs.Intervals.{CachedIntervals, Intervals, interval_of}
use Rattle.zeo_serving.specs.declared.standing.Standing.{Standing}
use Rattle.zeo_serving.specs.Entries.{AreAmong}
use Rattle.zeo_serving.specs.FrontLaws.{front_open, told_now}
use Rattle.zeo_serving.specs.Laws.{fresh_client}
use Rattle.zeo_serving.specs.MayLaws.{answered_step, step_failed}
use Rattle.zeo_serving.specs.Serving.{IsServed, MayBeServed}
use Rattle.zeo_serving.specs.ServingLaws.{drop_nothing, opening_is_served}
use Rattle.zeo_serving.specs.VoteLaws.{less_serves}
use Rattle.zeo_client.specs.Hearing.{Held, IsAnswerHeard}
use Rattle.zeo_client.specs.SyncLaws.{HearsAll, IsNewsHeard, news_is_heard}
use Rattle.remote_loads.specs.Carrying.{IsMachineStep}
use Rattle.remote_loads.specs.Sending.{HoldsReply}
use Rattle.remote_loads.specs.Served.{Does, DoesFront, MaySteps, Serves, ServesFront, begins, no_step, one_step, serves_none, serves_on, steps_off, steps_on, stops}
use Rattle.remote_loads.proofs.BrokenCall.{front_none, front_sent}
use Rattle.remote_loads.proofs.Commits.{IsLeft, heard_left, served_may}
use Rattle.remote_loads.specs.KnownLaws.{whole_same}
use Rattle.remote_loads.proofs.OneCall.{serves_one, was_asked, was_sent}

-- ---- the desk

module _ (read_back : AreReadBack) (d : DeskState) (number : ℕ) (early : d.registered ≡ false) (low : number < 2 ^ 31) where
  -- its message registers the client
  pub register_taken : taken d (payload_of (Asked number (calls.Register false))) ≡ Some (registers d number)
  register_taken =
      ap (λ (m : Option Message). taken_if d (call_in m)) read ∙ ap (λ (b : Bool). Some (cond b (called d number (calls.Register false)) (called_early d number (calls.Register false)))) early
    where
      numbered : IsTrue (nat_lt number (2 ^ 31) && fits_call (calls.Register false))
      numbered = rw (lt-ltb number (2 ^ 31) low) refl

      read : message_in (payload_of (Asked number (calls.Register false))) ≡ Some (Asked number (calls.Register false))
      read = read_back (Asked number (calls.Register false)) tt numbered

module _ {S : Type 0} (steps : Request → Reply → S → S → Type 0) (d : DeskState) (number : ℕ) (payload : List ℕ) (takes : taken d payload ≡ Some (registers d number)) where
  turn_is : (p : List ℕ) (turn : Turn) → p ≡ payload → taken d p ≡ Some turn → turn ≡ registers d number
  turn_is p turn head was = let e : ◌≡◌ {A = Option Turn} (Some turn) (Some (registers d number)) = sym was ∙ ap (λ (x : List ℕ). taken d x) head ∙ takes in cc

  -- a front was made, and its reply was sent
  pub record IsRegisterServed (before : S) (out : List (List ℕ)) (left : DeskState) (now : S) : Type 0 where
    pub reply : Reply
    pub step : steps request.Front reply before now
    pub held : HoldsReply reply
    pub sent : out ≡ reply_frames number asked.Register reply
    pub registered : left.registered ≡ true

  does_register : (desk left : DeskState) (next : Next) (before now : S) (out : List (List ℕ)) → Does steps desk next before out left now → desk ≡ (registers d number).desk → next ≡ Step request.Front → IsRegisterServed before out left now
  does_register desk left next before now out does is asks_is =
      let one = was_asked steps desk left next before now out request.Front does asks_is in
      let rest : Does steps (replied (registers d number).desk one.reply).desk (replied (registers d number).desk one.reply).next one.between out left now =
      subst (λ (k : DeskState). Does steps (replied k one.reply).desk (replied k one.reply).next one.between out left now) is one.rest in
      let sent = was_sent steps (replied (registers d number).desk one.reply).desk left (Send (reply_frames number asked.Register one.reply)) one.between now out (reply_frames number asked.Register one.reply) rest refl in
      record { reply = one.reply; step = subst (λ (x : S). steps request.Front one.reply before x) (sym sent.state) one.step; held = one.held; sent = sent.frames_are; registered = ap (λ (k : DeskState). k.registered) sent.desk }

  pub register_served : (left : DeskState) (before now : S) (out : List (List ℕ)) → Serves steps d (payload ∷ []) before out left now → IsRegisterServed before out left now
  register_served left before now out serves =
      let one = serves_one steps d left (payload ∷ []) payload before now out serves refl in
      let same = turn_is payload one.turn refl one.takes in
      does_register one.turn.desk left one.turn.next before now out one.does (ap (λ (t : Turn). t.desk) same) (ap (λ (t : Turn). t.next) same)

  register_front : (desk left : DeskState) (next : Next) (before now : S) → DoesFront steps desk next before left now → desk ≡ (registers d number).desk → next ≡ Step request.Front → MaySteps steps request.Front before now
  register_front _ _ _ _ _ (stops desk next s) is asks_is = no_step
  register_front _ _ _ _ _ (steps_off desk q r s behind made) is asks_is = let same : q ≡ request.Front = cc in one_step r behind (subst (λ (k : Request). steps k r s behind) same made)
  register_front _ _ _ _ _ (steps_on desk q r s between last left made rest) is asks_is =
      let same : q ≡ request.Front = cc in
      let rest_is : DoesFront steps (replied (registers d number).desk r).desk (replied (registers d number).desk r).next between left last =
      subst (λ (k : DeskState). DoesFront steps (replied k r).desk (replied k r).next between left last) is rest in
      let sent = front_sent steps (replied (registers d number).desk r).desk left (Send (reply_frames number asked.Register r)) between last (reply_frames number asked.Register r) rest_is refl in
      one_step r last (subst (λ (x : S). steps request.Front r s x) (sym sent.state) (subst (λ (k : Request). steps k r s between) same made))

  by_payloads : (left : DeskState) (ps : List (List ℕ)) (before now : S) → ServesFront steps d ps before left now → ps ≡ payload ∷ [] → MaySteps steps request.Front before now
  by_payloads _ _ _ _ (serves_none d ps s) is = no_step
  by_payloads _ _ _ _ (begins d left p rest turn s last was does) is =
      let head : p ≡ payload = cc in
      let same = turn_is p turn head was in
      register_front turn.desk left turn.next s last does (ap (λ (t : Turn). t.desk) same) (ap (λ (t : Turn). t.next) same)
  by_payloads _ _ _ _ (serves_on d between left p rest turn s middle last out was does more) is =
      let head : p ≡ payload = cc in
      let tail : rest ≡ [] = cc in
      let same = turn_is p turn head was in
      let served = does_register turn.desk between turn.next s middle out does (ap (λ (t : Turn). t.desk) same) (ap (λ (t : Turn). t.next) same) in
      let end = front_none steps between left rest middle last more tail in
      subst (λ (x : S). MaySteps steps request.Front s x) (sym end.state) (one_step served.reply middle served.step)

  pub register_breaks : (left : DeskState) (before now : S) → ServesFront steps d (payload ∷ []) before left now → MaySteps steps request.Front before now
  register_breaks left before now front = by_payloads left (payload ∷ []) before now front refl

-- ---- what it leaves

none_of : (oid : ℕ) (e : Interval) → interval_of [] oid ≡ Some e → ⊥
none_of oid e is = absurd cc

-- A session that was told all and holds no vote, of a machine that is whole; its client has nothing cached.
pub record IsFresh (m : Machine) (n : ℕ) (h : Held) : Type 0 where
  pub whole : m.failed ≡ false
  pub sound : IsSoundMachine m
  pub told : told_of n m.sessions ≡ length m.journal
  pub free : (v : MachineVote) → m.vote ≡ Some v → v.session ≡ n → ⊥
  pub among : AreAmong h.cache.entries []
  pub low : h.standing.known ≤ newest_tid m.list + 1

-- what a front that was answered leaves of the machine
pub record IsFrontLeft (m now : Machine) (n front switches : ℕ) (news : News) : Type 0 where
  pub high : front ≡ newest_tid m.list + 1
  pub news_is : news ≡ news_of (untold m n)
  pub switches_is : switches ≡ switches_of m.journal
  pub list : now.list ≡ m.list
  pub journal : now.journal ≡ m.journal
  pub vote : now.vote ≡ m.vote
  pub told : told_of n now.sessions ≡ length m.journal

front_left : (m : Machine) (n front switches : ℕ) (news : News) (early : Option Refusal) → (early ≡ None → is_open_in m.sessions n ≡ true) → (unless_early early m (front_step m n)).reply ≡ reply.Front front news switches
    → IsFrontLeft m (unless_early early m (front_step m n)).machine n front switches news
front_left m n front switches news (Some r) open_in is = absurd cc
front_left m n front switches news None open_in is =
    let f : newest_tid m.list + 1 ≡ front = cc in
    let w : news_of (untold m n) ≡ news = cc in
    let s : switches_of m.journal ≡ switches = cc in
    record { high = sym f; news_is = sym w; switches_is = sym s; list = refl; journal = refl; vote = refl; told = told_now m.sessions n _ (open_in refl) }

module _ (m : Machine) (n : ℕ) (now : Machine) (old new : Held) (front switches : ℕ) (news : News) (step : IsMachineStep m n request.Front (reply.Front front news switches) now) (x : IsFresh m n old) (heard : HearsAll (notices_of front news) old new) where
  abbrev made : Stepped
  made = record { reply = reply.Front front news switches; machine = step.left; ticks = step.ticks }

  abbrev next : Machine
  next = (step_of step.rules m n request.Front step.stamp).machine

  said : made ≡ step_of step.rules m n request.Front step.stamp
  said = answered_step step.rules m n request.Front step.stamp made step.before step.after (reply.Front front news switches) step.made refl refl

  pub left_by : IsFrontLeft m next n front switches news
  left_by = front_left m n front switches news (early_refusal m n request.Front) (front_open m n) (sym (ap (λ (s : Stepped). s.reply) said))

  whole_next : next.failed ≡ false
  whole_next = step_failed step.rules m n request.Front step.stamp ∙ x.whole

  pub now_next : now ≡ next
  now_next =
      let left_is : step.left ≡ next = ap (λ (s : Stepped). s.machine) said in
      whole_same step.left now step.known (ap (λ (k : Machine). k.failed) left_is ∙ whole_next) ∙ left_is

  no_news : news ≡ news_of []
  no_news = left_by.news_is ∙ ap news_of (drop_nothing m n x.told)

  pub heard_so : IsNewsHeard front news old new
  heard_so =
      let low = x.low in
      let f = left_by.high in
      news_is_heard front news old new (subst (λ (w : News). AllByRecursion (λ k. k.tid < front) w.commits) (sym no_news) tt) (omega (arith, low, f)) heard

  fresh_next : IsFresh next n new
  fresh_next = record {
    whole = whole_next;
    sound = left_sound step.rules m n request.Front step.stamp IsAnswered x.sound tt;
    told = left_by.told ∙ ap length (sym left_by.journal);
    free = λ v e s. x.free v (sym left_by.vote ∙ e) s;
    among = λ oid e there. absurd (by_left (heard_left front news old new [] heard_so x.among) oid e there);
    low =
        let same : newest_tid next.list ≡ newest_tid m.list = ap newest_tid left_by.list in
        let known = heard_so.known in
        let f = left_by.high in
        omega (arith, same, known, f);
  }
    where
      by_left : IsLeft news new.cache.entries [] → (oid : ℕ) (e : Interval) → interval_of new.cache.entries oid ≡ Some e → ⊥
      by_left is oid e there = by_gone (news.forget || news.packed) refl
        where
          at : interval_of is.left oid ≡ Some e
          at = is.among oid e there

          by_gone : (b : Bool) → (news.forget || news.packed) ≡ b → ⊥
          by_gone true gone = none_of oid e (subst (λ (es : Intervals). interval_of es oid ≡ Some e) (is.delivered.1 gone) at)
          by_gone false stay = let came = is.delivered.0 stay oid e at in none_of oid came.was came.there

  pub fresh_now : IsFresh now n new
  fresh_now = subst (λ (k : Machine). IsFresh k n new) (sym now_next) fresh_next

  -- and once it is answered, the client knows the list as it stands
  pub fresh_synced : (last : Held) → switches < 2 ^ 64 → IsAnswerHeard (Some calls.Sync) (answers.TidAndCount front switches) new last → MayBeServed now n last.standing last.cache.entries (fresh_client now)
  fresh_synced last few sync = subst (λ (k : Machine). MayBeServed k n last.standing last.cache.entries (fresh_client k)) (sym now_next) may
    where
      known_is : last.standing.known ≡ newest_tid next.list + 1
      known_is =
          let known : last.standing.known ≡ max new.standing.known front = ap (λ (s : Standing). s.known) sync.1 in
          let top = heard_so.known in
          let f = left_by.high in
          let same : newest_tid next.list ≡ newest_tid m.list = ap newest_tid left_by.list in
          omega (arith, known, top, f, same)

      switches_are : last.standing.switches ≡ switches_of next.journal
      switches_are = ap (λ (s : Standing). s.switches) sync.1 ∙ left_by.switches_is ∙ ap switches_of (sym left_by.journal)

      served : IsServed next n last.standing [] (fresh_client next)
      served = opening_is_served next n last.standing fresh_next.sound fresh_next.told known_is switches_are fresh_next.free

      served_last : IsServed next n last.standing last.cache.entries (fresh_client next)
      served_last =
          less_serves next n last.standing last.standing last.cache.entries [] (fresh_client next) (record {
            known = refl;
            switches = refl;
            news = λ oid none. none;
            asked = λ oid none. none;
            entries = λ oid e there. fresh_next.among oid e (subst (λ (k : CachedIntervals). interval_of k.entries oid ≡ Some e) sync.0 there);
          }) served

      may : MayBeServed next n last.standing last.cache.entries (fresh_client next)
      may =
          let b = fresh_next.sound.database.bounded in
          served_may next n last.standing last.cache.entries (fresh_client next) whole_next fresh_next.sound (omega (arith, b))
          (subst (λ (k : ℕ). k < 2 ^ 64) (left_by.switches_is ∙ ap switches_of (sym left_by.journal)) few) served_last

-- What a desk does for the finish of a remote client, and what comes of it.
use Rattle.std.proofs.Common.{◌≡◌, ℕ, ◌-◌, ◌<◌, ◌≤◌, ◌^◌, Bool, true, cond, List, [], ◌∷◌, ◌++◌, map, Option, Some, None, refl, sym, ap, subst, ◌∙◌, arith}
use Rattle.std.specs.Prelude.{codes}
use Rattle.std.specs.List.{AllByRecursion}
use Rattle.std.proofs.lemmas.Bool.{le-leb}
use Rattle.zb_model.specs.declared.data.Transaction.{Transaction}
use Rattle.zb_model.specs.declared.refusal.Refusal.{Refusal}
use Rattle.zb_model.specs.declared.refusal.Refusal.TheVariants as refusal
use Rattle.zodb_core.specs.declared.reply.Reply.{Reply}
use Rattle.zodb_core.specs.declared.reply.Reply.TheVariants as reply
use Rattle.zodb_core.specs.declared.request.Request.{Request}
use Rattle.zodb_core.specs.declared.request.Request.TheVariants as request
use Rattle.zodb_core.specs.Machine.{Machine, MachineVote}
use Rattle.zodb_core.specs.Steps.{finish_gives, finish_step}
use Rattle.zeo_frames.specs.declared.limit.TheConstants.{FRAME_LIMIT}
use Rattle.zeo_messages.specs.declared.answer.Answer.TheVariants as answers
use Rattle.zeo_messages.specs.declared.call.Call.TheVariants as calls
use Rattle.zeo_messages.specs.declared.message.Message.TheVariants.{Answered, Told}
use Rattle.zeo_messages.specs.declared.message.Notice.{Notice}
use Rattle.zeo_messages.specs.Answers.{value_of}
use Rattle.zeo_messages.specs.LengthLaws.{payload_length}
use Rattle.zeo_values.specs.LengthLaws.{count_short, id_length, name_length, zero_length}
use Rattle.zeo_desk.specs.declared.asked.Asked.{Asked as AskedOf}
use Rattle.zeo_desk.specs.declared.asked.Asked.TheVariants as asked
use Rattle.zeo_desk.specs.declared.next.Next.{Next}
use Rattle.zeo_desk.specs.declared.next.Next.TheVariants.{Send, Step}
use Rattle.zeo_desk.specs.Answering.{counted_length, in_place_of, reply_answer, reply_frames, sent_answer}
use Rattle.zeo_desk.specs.Desks.{DeskState, Turn, answered, asks, committed_tid, replied, taken}
use Rattle.zeo_client.specs.Rows.{answers_call}
use Rattle.zeo_client.specs.Whole.{MayBeSent}
use Rattle.remote_loads.specs.Carrying.{IsMachineStep}
use Rattle.remote_loads.specs.Finishing.{FinishSteps, finish_and_front, no_finish, one_finish}
use Rattle.remote_loads.specs.Sending.{HoldsReply, messages_of, notices_before}
use Rattle.remote_loads.specs.Served.{Does, DoesFront, Serves, ServesFront, begins, serves_none, serves_on, steps_off, steps_on, stops}
use Rattle.remote_loads.proofs.BrokenCall.{front_none, front_sent}
use Rattle.remote_loads.proofs.Heard.{news_sent}
use Rattle.remote_loads.proofs.OneCall.{serves_one, was_asked, was_sent as frames_sent}
use Rattle.remote_loads.proofs.Rows.{by_reply}
use Rattle.remote_loads.proofs.Sendings.{answer_comes}

-- ---- the answer to a commit

tid_counted : (tid : ℕ) → counted_length (answers.OneTid tid) ≤ FRAME_LIMIT
tid_counted tid =
    let a = payload_length (2 ^ 31 - 1) 0 (codes ".reply") (value_of (answers.OneTid tid)) in
    let b = count_short (2 ^ 31 - 1) in
    let c = zero_length in
    let d = name_length (codes ".reply") in
    let e = id_length tid in
    omega (arith, a, b, c, d, e)

-- it is sent as it is
pub tid_sent : (a : AskedOf) (tid : ℕ) → sent_answer a (answers.OneTid tid) ≡ answers.OneTid tid
tid_sent a tid = ap (λ (b : Bool). cond b (answers.OneTid tid) (in_place_of a (counted_length (answers.OneTid tid)))) (le-leb (counted_length (answers.OneTid tid)) FRAME_LIMIT (tid_counted tid))

done_counted : counted_length answers.Done ≤ FRAME_LIMIT
done_counted =
    let a = payload_length (2 ^ 31 - 1) 0 (codes ".reply") (value_of answers.Done) in
    let b = count_short (2 ^ 31 - 1) in
    let c = zero_length in
    let d = name_length (codes ".reply") in
    omega (arith, a, b, c, d)

pub done_sent : (a : AskedOf) → sent_answer a answers.Done ≡ answers.Done
done_sent a = ap (λ (b : Bool). cond b answers.Done (in_place_of a (counted_length answers.Done))) (le-leb (counted_length answers.Done) FRAME_LIMIT done_counted)

-- ---- replies

pub is_commit : (r : Reply) (tid : ℕ) → committed_tid r ≡ Some tid → r ≡ reply.Committed tid
is_commit (reply.Committed t) tid is = let same : t ≡ tid = cc in ap (λ (k : ℕ). reply.Committed k) same
is_commit (reply.Front front news switches) tid is = absurd cc
is_commit (reply.Loaded serial bytes end upto) tid is = absurd cc
is_commit (reply.Nothing oid switches) tid is = absurd cc
is_commit (reply.Oids first count) tid is = absurd cc
is_commit reply.Voted tid is = absurd cc
is_commit reply.Empty tid is = absurd cc
is_commit reply.Aborted tid is = absurd cc
is_commit (reply.History list) tid is = absurd cc
is_commit (reply.UndoLog list) tid is = absurd cc
is_commit (reply.Packed kept dropped) tid is = absurd cc
is_commit (reply.Packing t) tid is = absurd cc
is_commit (reply.Marking count) tid is = absurd cc
is_commit (reply.Marked count) tid is = absurd cc
is_commit (reply.Copying count) tid is = absurd cc
is_commit (reply.Copied count) tid is = absurd cc
is_commit (reply.Last t changes) tid is = absurd cc
is_commit (reply.Since keep commits) tid is = absurd cc
is_commit reply.Closed tid is = absurd cc
is_commit (reply.Refused r) tid is = absurd cc

-- what a finish is answered that doesn't commit
pub by_end : (P : Reply → Type 0) (m : Machine) (n : ℕ) (r : Reply) (now : Machine) → IsMachineStep m n request.Finish r now → ((tid : ℕ) → P (reply.Committed tid)) → P reply.Empty → ((why : Refusal) → P (reply.Refused why)) → P r
by_end P m n r now step commits empty refused =
    by_reply P step.rules m n request.Finish step.stamp (record { reply = r; machine = step.left; ticks = step.ticks }) step.before step.after step.made (λ none. by_vote m.vote) refused
  where
    by_writes : (writes : Option Transaction) → P (finish_gives m n writes).reply
    by_writes None = empty
    by_writes (Some t) = commits t.tid

    by_vote : (vote : Option MachineVote) → P (finish_step m n vote).reply
    by_vote None = refused refusal.NotVoted
    by_vote (Some v) = by_writes v.writes

-- and a front
pub by_front : (P : Reply → Type 0) (m : Machine) (n : ℕ) (r : Reply) (now : Machine) → IsMachineStep m n request.Front r now → ((front switches : ℕ) (news : _) → P (reply.Front front news switches)) → ((why : Refusal) → P (reply.Refused why)) → P r
by_front P m n r now step told refused =
    by_reply P step.rules m n request.Front step.stamp (record { reply = r; machine = step.left; ticks = step.ticks }) step.before step.after step.made (λ none. told _ _ _) refused

-- ---- the desk

module _ {S : Type 0} (steps : Request → Reply → S → S → Type 0) where
  -- a finish that didn't commit was made, and its reply was sent; or one that did, with a front behind it
  pub data FinishServed (number : ℕ) (before : S) : List (List ℕ) → S → Type 0 where
    served_alone : (r : Reply) (now : S) (out : List (List ℕ)) → steps request.Finish r before now → HoldsReply r → committed_tid r ≡ None → out ≡ reply_frames number asked.Finish r → FinishServed number before out now
    served_commit : (tid : ℕ) (r : Reply) (between now : S) (out : List (List ℕ)) → steps request.Finish (reply.Committed tid) before between → HoldsReply (reply.Committed tid)
        → steps request.Front r between now → HoldsReply r → out ≡ reply_frames number (asked.NewsBehind tid) r → FinishServed number before out now

  module _ (d : DeskState) (number : ℕ) (registered : d.registered ≡ true) where
    abbrev finishes : Turn
    finishes = asks d number asked.Finish request.Finish

    -- what is done behind the reply to a finish
    abbrev behind : Reply → Option ℕ → Turn
    behind r tid = answered finishes.desk number asked.Finish r tid

    finish_does : (r : Reply) (before between now : S) (out : List (List ℕ)) (left : DeskState) (tid : Option ℕ) → committed_tid r ≡ tid → steps request.Finish r before between → HoldsReply r
        → Does steps (behind r tid).desk (behind r tid).next between out left now → FinishServed number before out now × (left.registered ≡ true)
    finish_does r before between now out left None is step held does =
        let sent = frames_sent steps (behind r None).desk left (Send (reply_frames number asked.Finish r)) between now out (reply_frames number asked.Finish r) does refl in
        (served_alone r now out (subst (λ (x : S). steps request.Finish r before x) (sym sent.state) step) held is sent.frames_are, ap (λ (k : DeskState). k.registered) sent.desk ∙ registered)
    finish_does r before between now out left (Some tid) is step held does =
        let one = was_asked steps (behind r (Some tid)).desk left (Step request.Front) between now out request.Front does refl in
        let sent = frames_sent steps (replied (behind r (Some tid)).desk one.reply).desk left (Send (reply_frames number (asked.NewsBehind tid) one.reply)) one.between now out (reply_frames number (asked.NewsBehind tid) one.reply) one.rest refl in (
          served_commit tid one.reply between now out (subst (λ (k : Reply). steps request.Finish k before between) (is_commit r tid is) step) (subst (λ (k : Reply). HoldsReply k) (is_commit r tid is) held)
              (subst (λ (x : S). steps request.Front one.reply between x) (sym sent.state) one.step) one.held sent.frames_are,
          ap (λ (k : DeskState). k.registered) sent.desk ∙ registered,
        )

    pub finish_asked : (desk left : DeskState) (next : Next) (before now : S) (out : List (List ℕ)) → Does steps desk next before out left now → desk ≡ finishes.desk → next ≡ Step request.Finish → FinishServed number before out now × (left.registered ≡ true)
    finish_asked desk left next before now out does is asks_is =
        let one = was_asked steps desk left next before now out request.Finish does asks_is in
        finish_does one.reply before one.between now out left (committed_tid one.reply) refl one.step one.held
        (subst (λ (k : DeskState). Does steps (replied k one.reply).desk (replied k one.reply).next one.between out left now) is one.rest)

    -- and where nothing comes
    front_behind : (r : Reply) (before between now : S) (left : DeskState) (tid : Option ℕ) → committed_tid r ≡ tid → steps request.Finish r before between
        → DoesFront steps (behind r tid).desk (behind r tid).next between left now → FinishSteps steps before now × (left.registered ≡ true)
    front_behind r before between now left None is step does =
        let sent = front_sent steps (behind r None).desk left (Send (reply_frames number asked.Finish r)) between now (reply_frames number asked.Finish r) does refl in
        (one_finish r now (subst (λ (x : S). steps request.Finish r before x) (sym sent.state) step), ap (λ (k : DeskState). k.registered) sent.desk ∙ registered)
    front_behind r before between now left (Some tid) is step does = by_does (behind r (Some tid)).desk left (Step request.Front) between now does refl refl step
      where
        by_does : (desk left : DeskState) (next : Next) (s now : S) → DoesFront steps desk next s left now → desk ≡ (behind r (Some tid)).desk → next ≡ Step request.Front → steps request.Finish r before s → FinishSteps steps before now × (left.registered ≡ true)
        by_does _ _ _ _ _ (stops desk next s) there asks_is made = (one_finish r s made, ap (λ (k : DeskState). k.registered) there ∙ registered)
        by_does _ _ _ _ _ (steps_off desk q second s last made) there asks_is first =
            let same : q ≡ request.Front = cc in (
              finish_and_front tid second s last (subst (λ (k : Reply). steps request.Finish k before s) (is_commit r tid is) first) (subst (λ (k : Request). steps k second s last) same made),
              ap (λ (k : DeskState). k.registered) there ∙ registered,
            )
        by_does _ _ _ _ _ (steps_on desk q second s middle last left made rest) there asks_is first =
            let same : q ≡ request.Front = cc in
            let rest_is : DoesFront steps (replied (behind r (Some tid)).desk second).desk (replied (behind r (Some tid)).desk second).next middle left last =
            subst (λ (k : DeskState). DoesFront steps (replied k second).desk (replied k second).next middle left last) there rest in
            let sent = front_sent steps (replied (behind r (Some tid)).desk second).desk left (Send (reply_frames number (asked.NewsBehind tid) second)) middle last (reply_frames number (asked.NewsBehind tid) second) rest_is refl in
            let front : steps request.Front second s last = subst (λ (x : S). steps request.Front second s x) (sym sent.state) (subst (λ (k : Request). steps k second s middle) same made) in
            (finish_and_front tid second s last (subst (λ (k : Reply). steps request.Finish k before s) (is_commit r tid is) first) front, ap (λ (k : DeskState). k.registered) sent.desk ∙ registered)

    finish_front : (desk left : DeskState) (next : Next) (before now : S) → DoesFront steps desk next before left now → desk ≡ finishes.desk → next ≡ Step request.Finish → FinishSteps steps before now × (left.registered ≡ true)
    finish_front _ _ _ _ _ (stops desk next s) is asks_is = (no_finish, ap (λ (k : DeskState). k.registered) is ∙ registered)
    finish_front _ _ _ _ _ (steps_off desk q r s last made) is asks_is =
        let same : q ≡ request.Finish = cc in (one_finish r last (subst (λ (k : Request). steps k r s last) same made), ap (λ (k : DeskState). k.registered) is ∙ registered)
    finish_front _ _ _ _ _ (steps_on desk q r s between last left made rest) is asks_is =
        let same : q ≡ request.Finish = cc in
        front_behind r s between last left (committed_tid r) refl (subst (λ (k : Request). steps k r s between) same made)
        (subst (λ (k : DeskState). DoesFront steps (replied k r).desk (replied k r).next between left last) is rest)

    module _ (payload : List ℕ) (takes : taken d payload ≡ Some finishes) where
      turn_is : (p : List ℕ) (turn : Turn) → p ≡ payload → taken d p ≡ Some turn → turn ≡ finishes
      turn_is p turn head was = let e : ◌≡◌ {A = Option Turn} (Some turn) (Some finishes) = sym was ∙ ap (λ (x : List ℕ). taken d x) head ∙ takes in cc

      pub finish_served : (left : DeskState) (before now : S) (out : List (List ℕ)) → Serves steps d (payload ∷ []) before out left now → FinishServed number before out now × (left.registered ≡ true)
      finish_served left before now out serves =
          let one = serves_one steps d left (payload ∷ []) payload before now out serves refl in
          let same = turn_is payload one.turn refl one.takes in
          finish_asked one.turn.desk left one.turn.next before now out one.does (ap (λ (t : Turn). t.desk) same) (ap (λ (t : Turn). t.next) same)

      by_payloads : (left : DeskState) (ps : List (List ℕ)) (before now : S) → ServesFront steps d ps before left now → ps ≡ payload ∷ [] → FinishSteps steps before now × (left.registered ≡ true)
      by_payloads _ _ _ _ (serves_none d ps s) is = (no_finish, registered)
      by_payloads _ _ _ _ (begins d left p rest turn s last was does) is =
          let head : p ≡ payload = cc in
          let same = turn_is p turn head was in
          finish_front turn.desk left turn.next s last does (ap (λ (t : Turn). t.desk) same) (ap (λ (t : Turn). t.next) same)
      by_payloads _ _ _ _ (serves_on d between left p rest turn s middle last out was does more) is =
          let head : p ≡ payload = cc in
          let tail : rest ≡ [] = cc in
          let same = turn_is p turn head was in
          let served = finish_asked turn.desk between turn.next s middle out does (ap (λ (t : Turn). t.desk) same) (ap (λ (t : Turn). t.next) same) in
          let end = front_none steps between left rest middle last more tail in
          (subst (λ (x : S). FinishSteps steps s x) (sym end.state) (by_served s middle out served.0), ap (λ (k : DeskState). k.registered) end.desk ∙ served.1)
        where
          by_served : (s now : S) (out : List (List ℕ)) → FinishServed number s out now → FinishSteps steps s now
          by_served s _ _ (served_alone r now out step held none is) = one_finish r now step
          by_served s _ _ (served_commit tid r between now out step held front front_held is) = finish_and_front tid r between now step front

      pub finish_breaks : (left : DeskState) (before now : S) → ServesFront steps d (payload ∷ []) before left now → FinishSteps steps before now × (left.registered ≡ true)
      finish_breaks left before now front = by_payloads left (payload ∷ []) before now front refl

-- ---- the messages that come

-- the reply to a finish has no news, and is answered by its row
end_row : (m : Machine) (n : ℕ) (r : Reply) (now : Machine) → IsMachineStep m n request.Finish r now → (notices_before r ≡ []) × (answers_call calls.TpcFinish (reply_answer asked.Finish r) ≡ true)
end_row m n r now step = by_end (λ k. (notices_before k ≡ []) × (answers_call calls.TpcFinish (reply_answer asked.Finish k) ≡ true)) m n r now step (λ tid. (refl, refl)) (refl, refl) (λ why. (refl, refl))

-- a reply that doesn't commit
pub end_sent : (m : Machine) (n : ℕ) (r : Reply) (now : Machine) (number : ℕ) → number < 2 ^ 31 → IsMachineStep m n request.Finish r now → HoldsReply r
    → AllByRecursion (MayBeSent number (Some calls.TpcFinish)) (messages_of number asked.Finish r)
end_sent m n r now number low step held =
    subst (λ (ns : List Notice). AllByRecursion (MayBeSent number (Some calls.TpcFinish)) (map (λ k. Told k) ns ++ Answered number (sent_answer asked.Finish (reply_answer asked.Finish r)) ∷ [])) (sym (end_row m n r now step).0)
    (answer_comes number calls.TpcFinish asked.Finish (reply_answer asked.Finish r) (λ k. refl) low (held.answer asked.Finish) (end_row m n r now step).1, tt)

-- and one that does, behind the news of a front
pub commit_sent : (m : Machine) (n tid : ℕ) (r : Reply) (between now : Machine) (number : ℕ) → number < 2 ^ 31 → HoldsReply (reply.Committed tid) → IsMachineStep between n request.Front r now → HoldsReply r
    → AllByRecursion (MayBeSent number (Some calls.TpcFinish)) (messages_of number (asked.NewsBehind tid) r)
commit_sent m n tid r between now number low held step front_held =
    by_front (λ k. HoldsReply k → AllByRecursion (MayBeSent number (Some calls.TpcFinish)) (messages_of number (asked.NewsBehind tid) k)) between n r now step
    (λ front switches news has. news_sent number (Some calls.TpcFinish) front news (Answered number (sent_answer (asked.NewsBehind tid) (answers.OneTid tid))) has.notices said)
    (λ why has. (said, tt)) front_held
  where
    said : MayBeSent number (Some calls.TpcFinish) (Answered number (sent_answer (asked.NewsBehind tid) (answers.OneTid tid)))
    said = answer_comes number calls.TpcFinish (asked.NewsBehind tid) (answers.OneTid tid) (λ k. refl) low (held.answer (asked.NewsBehind tid)) refl

-- What a crash leaves in a step.
use Rattle.std.proofs.Common.{Bool, Err, List, None, Ok, Option, Result, Some, [], ap, false, inl, inr, not, refl, subst, sym, true, ℕ, ◌∙◌, ◌≡◌}
use Rattle.std.specs.Prelude.{slice_get}
use Rattle.std.specs.Option.{option_map, option_or}
use Rattle.zb_ids.specs.declared.stamp.Stamp.{Stamp}
use Rattle.zb_volume.specs.Calls.{Event}
use Rattle.zb_volume.specs.declared.areas.Area.TheVariants.{Main}
use Rattle.zb_volume.specs.Moments.{Leaves, LeavesOnly, here}
use Rattle.zb_volume.specs.Runs.{joined, weaker}
use Rattle.zb_model.specs.declared.data.Transaction.{Transaction}
use Rattle.zb_model.specs.declared.refusal.Refusal.{Refusal}
use Rattle.zb_model.specs.declared.refusal.Refusal.TheVariants as refusal
use Rattle.zodb_core.specs.declared.request.Request.{Request}
use Rattle.zodb_core.specs.declared.request.Request.TheVariants as request
use Rattle.zodb_core.specs.declared.reply.Reply.{Reply}
use Rattle.zodb_core.specs.declared.reply.Reply.TheVariants as reply
use Rattle.zodb_core.specs.HubState.{HubState, IsBeforeOrBehind, is_store_failed}
use Rattle.zodb_core.specs.Machine.{Machine, Rules, is_open_in}
use Rattle.zodb_core.specs.Outcomes.{Answered, NoMemory, ReadingFailed, StepOutcome, StoreFailed, is_pack, machine_left, outcome_of}
use Rattle.zodb_core.specs.StepCases.{by_unanswered}
use Rattle.zodb_core.specs.Steps.{refuse_if, request_refusal, request_step, step_of, unless_early}
use Rattle.zb_answers.specs.declared.answer.Answer.{Answer}
use Rattle.zb_script.specs.declared.line.Line.{Line}
use Rattle.zb_script.specs.declared.line.Line.TheVariants as line
use Rattle.zb_script.specs.declared.line.Turn.{Turn}
use Rattle.connection_view.specs.Works.{Work}
use Rattle.connection_view.specs.Connections.{work_of}
use Rattle.connection_view.specs.Views as views
use Rattle.client_turns.specs.declared.member.Member.{Member}
use Rattle.client_turns.specs.declared.member.Member.TheVariants.{Near, Far}
use Rattle.client_turns.specs.Asking.{plain_request}
use Rattle.client_turns.specs.Clients.{Changes, Moment, OpenTransaction, changes_of, client_found, client_named, place_of_client}
use Rattle.client_turns.specs.Clients as clients
use Rattle.client_turns.specs.Lines.{asking_excess, is_committed, is_delivery, pending_in, request_of}
use Rattle.client_turns.specs.Refusing.{connection_refusal, refusal_within}
use Rattle.client_turns.specs.Steps.{IsRefusedAt, IsStepAt}
use Rattle.client_turns.specs.ListLaws.{asked_kept, stepped_kept}
use Rattle.client_turns.specs.TurnLaws.{IsListBehind, same_request, step_left, told_list}
use Rattle.client_turns.specs.Turns.{IsLine, IsLineOf, IsLineTaken, IsLineUnless, IsStepLine, IsStepUnless, fronts_behind}
use Rattle.connection_view.specs.declared.connection.Connection.{Connection}
use Rattle.client_turns.specs.Members.{IsFarOf, IsLinkedOpen, IsMemberOf, IsOpenAs, session_of, work_far, work_kept}
use Rattle.client_turns.specs.Standing.{AreClientsOf, ClientsState, IsEndListOf, IsFinishListOf, IsListAsked, IsListIn, IsListOf, IsListStepped, IsStepListOf, StandsForMoment, kept_found, kept_named, packs_list, request_unless}
use Rattle.client_turns.proofs.Placing.{member_session, IsClientAt, client_at, same_place}

-- ---- the list behind a step

-- where a step leaves the list, what may stand for it is the list
pub before_of : (stands : List ℕ → List Transaction → Type 0) (rules : Rules) (m : Machine) (n : ℕ) (q : Request) (bytes : List ℕ) → (step_of rules m n q 0).machine.list ≡ m.list → IsBeforeOrBehind stands rules m n q bytes → stands bytes m.list
before_of stands rules m n q bytes same (inl before) = before
before_of stands rules m n q bytes same (inr behind) = subst (stands bytes) same (behind 0)

-- no stamp changes the list that a step leaves
stamp_free : (rules : Rules) (m : Machine) (n : ℕ) (q : Request) (s t : ℕ) → (step_of rules m n q s).machine.list ≡ (step_of rules m n q t).machine.list
stamp_free rules m n (request.Vote user description extension pending) s t =
    step_left rules m n (request.Vote user description extension pending) s ∙ sym (step_left rules m n (request.Vote user description extension pending) t)
stamp_free rules m n (request.Undo user description tids) s t = step_left rules m n (request.Undo user description tids) s ∙ sym (step_left rules m n (request.Undo user description tids) t)
stamp_free rules m n _ s t = refl

-- a closed session's step leaves the list
closed_step : (rules : Rules) (m : Machine) (n : ℕ) (q : Request) → is_open_in m.sessions n ≡ false → (step_of rules m n q 0).machine.list ≡ m.list
closed_step rules m n q closed = ap (λ (b : Bool). (unless_early (option_or (refuse_if (not b) refusal.NotOpen) (request_refusal m n q)) m (request_step rules m n q 0)).machine.list) closed

-- the list behind a step, however it ended
data IsStepList (rules : Rules) (m : Machine) (n : ℕ) (q : Request) (l : List Transaction) : Type 0 where
  unstepped : l ≡ m.list → IsStepList rules m n q l
  stepped : (stamp : ℕ) → l ≡ (step_of rules m n q stamp).machine.list → IsStepList rules m n q l

ended_list : (rules : Rules) (m : Machine) (n : ℕ) (q : Request) (stamp : ℕ) (o : StepOutcome) → IsStepList rules m n q (machine_left rules m n q stamp o).list
ended_list rules m n q stamp Answered = stepped stamp refl
ended_list rules m n q stamp ReadingFailed = by_unanswered (λ x. IsStepList rules m n q x.list) q m (unstepped refl) (unstepped refl)
ended_list rules m n q stamp NoMemory = by_unanswered (λ x. IsStepList rules m n q x.list) q m (unstepped refl) (unstepped refl)
ended_list rules m n q stamp StoreFailed = unstepped refl

step_list : (rules : Rules) (m : Moment) (n : ℕ) (q : Request) (r : Reply) (now : Moment) → IsStepAt rules m n q r now → IsStepList rules m.machine n q now.machine.list
step_list rules m n q r now step = subst (λ (x : Machine). IsStepList rules m.machine n q x.list) (sym step.made.left) (ended_list rules m.machine n q step.stamp (outcome_of r))

-- what stands for it may be seen in the step
seen_in : (stands : List ℕ → List Transaction → Type 0) (rules : Rules) (m : Machine) (n : ℕ) (q : Request) (l : List Transaction) (bytes : List ℕ) → IsStepList rules m n q l → stands bytes l → IsBeforeOrBehind stands rules m n q bytes
seen_in stands rules m n q l bytes (unstepped is) left = inl (subst (stands bytes) is left)
seen_in stands rules m n q l bytes (stepped stamp is) left = inr (λ other. subst (stands bytes) (is ∙ stamp_free rules m n q stamp other) left)

leaves_weaker : (P R : List ℕ → Type 0) (old new : List Event) → ((bytes : List ℕ) → P bytes → R bytes) → LeavesOnly Main P old new → LeavesOnly Main R old new
leaves_weaker P R old new less only = weaker (Leaves Main P) (Leaves Main R) old new (λ log leaves image crash. less image (leaves image crash)) only

-- in a step that leaves the list each image stands for it
pub kept_moments : (stands : List ℕ → List Transaction → Type 0) (rules : Rules) (m : Machine) (n : ℕ) (q : Request) (old new : List Event) → (step_of rules m n q 0).machine.list ≡ m.list → LeavesOnly Main (IsBeforeOrBehind stands rules m n q) old new
    → LeavesOnly Main (λ bytes. stands bytes m.list) old new
kept_moments stands rules m n q old new same only = leaves_weaker (IsBeforeOrBehind stands rules m n q) (λ bytes. stands bytes m.list) old new (λ bytes. before_of stands rules m n q bytes same) only

-- a list that a step left keeps what may be seen in it
pub left_moments : (stands : List ℕ → List Transaction → Type 0) (rules : Rules) (m b : Moment) (n : ℕ) (q : Request) (r : Reply) (old new : List Event) → IsStepAt rules m n q r b → LeavesOnly Main (λ bytes. stands bytes b.machine.list) old new
    → LeavesOnly Main (IsBeforeOrBehind stands rules m.machine n q) old new
left_moments stands rules m b n q r old new step only =
    leaves_weaker (λ bytes. stands bytes b.machine.list) (IsBeforeOrBehind stands rules m.machine n q) old new (λ bytes. seen_in stands rules m.machine n q b.machine.list bytes (step_list rules m n q r b step)) only

-- nothing was done
pub unmoved : (P : List ℕ → Type 0) (old new : List Event) → new ≡ old → Leaves Main P old → LeavesOnly Main P old new
unmoved P old new is leaves = subst (LeavesOnly Main P old) (sym is) (here leaves)

-- a commit, and the front behind it, if there is one
pub step_and_told : (P : List ℕ → Type 0) (committed : Bool) (old mid new : List Event) → LeavesOnly Main P old mid → (committed ≡ false → new ≡ mid) → (committed ≡ true → LeavesOnly Main P mid new) → LeavesOnly Main P old new
step_and_told P false old mid new step untold told = subst (LeavesOnly Main P old) (sym (untold refl)) step
step_and_told P true old mid new step untold told = joined (Leaves Main P) old mid new step (told refl)

-- a store that committed hasn't failed
pub committed_whole : (r : Reply) → is_committed r ≡ true → is_store_failed (outcome_of r) ≡ false
committed_whole (reply.Committed tid) is = refl
committed_whole _ is = absurd cc

-- ---- by the line, of a client as it is kept

step_kept : (stands : List ℕ → List Transaction → Type 0) (rules : Rules) (x : Option Member) (q : Request) (m : Machine) (bytes : List ℕ) → stands bytes m.list → IsStepListOf stands rules x q m bytes
step_kept stands rules None q m bytes left = left
step_kept stands rules (Some x) q m bytes left = inl left

end_kept : (stands : List ℕ → List Transaction → Type 0) (rules : Rules) (n : ℕ) (w : Result Work Refusal) (m : Machine) (bytes : List ℕ) → stands bytes m.list → IsEndListOf stands rules n w m bytes
end_kept stands rules n (Err r) m bytes left = left
end_kept stands rules n (Ok w) m bytes left = inl left

finish_kept : (stands : List ℕ → List Transaction → Type 0) (rules : Rules) (x : Option Member) (m : Machine) (bytes : List ℕ) → stands bytes m.list → IsFinishListOf stands rules x m bytes
finish_kept stands rules None m bytes left = left
finish_kept stands rules (Some x) m bytes left = end_kept stands rules (session_of x) (work_kept x) m bytes left

-- a list that only was as it was may be seen in each line
line_kept : (stands : List ℕ → List Transaction → Type 0) (rules : Rules) (x : Option Member) (l : Line) (m : Machine) (bytes : List ℕ) → stands bytes m.list → IsListOf stands rules x l m bytes
line_kept stands rules x line.Finish m bytes left = finish_kept stands rules x m bytes left
line_kept stands rules x (line.Pack tid collect) m bytes left = step_kept stands rules x (request.Pack tid collect) m bytes left
line_kept stands rules x line.PackTurn m bytes left = step_kept stands rules x request.PackTurn m bytes left
line_kept stands rules x _ m bytes left = left

pub unmoved_in : (stands : List ℕ → List Transaction → Type 0) (rules : Rules) (x : Option Member) (l : Line) (m : Machine) (old new : List Event) → new ≡ old → Leaves Main (λ bytes. stands bytes m.list) old → LeavesOnly Main (IsListOf stands rules x l m) old new
unmoved_in stands rules x l m old new is leaves =
    leaves_weaker (λ bytes. stands bytes m.list) (IsListOf stands rules x l m) old new (line_kept stands rules x l m) (unmoved (λ bytes. stands bytes m.list) old new is leaves)

-- a step of a client that leaves the list
step_same : (stands : List ℕ → List Transaction → Type 0) (rules : Rules) (x : Option Member) (q : Request) (m : Machine) (bytes : List ℕ) → ((n : ℕ) → (step_of rules m n q 0).machine.list ≡ m.list) → IsStepListOf stands rules x q m bytes → stands bytes m.list
step_same stands rules None q m bytes same left = left
step_same stands rules (Some x) q m bytes same left = before_of stands rules m (session_of x) q bytes (same (session_of x)) left

-- what is seen in a step is seen in its line
line_of_step : (stands : List ℕ → List Transaction → Type 0) (rules : Rules) (x : Option Member) (l : Line) (q : Request) (m : Machine) (bytes : List ℕ) → Some q ≡ plain_request l → IsStepListOf stands rules x q m bytes → IsListOf stands rules x l m bytes
line_of_step stands rules x line.New q m bytes asks left =
    step_same stands rules x (request.NewOids 1) m bytes (λ n. step_left rules m n (request.NewOids 1) 0) (subst (λ (z : Request). IsStepListOf stands rules x z m bytes) (same_request q (request.NewOids 1) asks) left)
line_of_step stands rules x (line.History oid) q m bytes asks left =
    step_same stands rules x (request.History oid) m bytes (λ n. step_left rules m n (request.History oid) 0) (subst (λ (z : Request). IsStepListOf stands rules x z m bytes) (same_request q (request.History oid) asks) left)
line_of_step stands rules x line.UndoLog q m bytes asks left =
    step_same stands rules x request.UndoLog m bytes (λ n. step_left rules m n request.UndoLog 0) (subst (λ (z : Request). IsStepListOf stands rules x z m bytes) (same_request q request.UndoLog asks) left)
line_of_step stands rules x (line.Pack tid collect) q m bytes asks left = subst (λ (z : Request). IsStepListOf stands rules x z m bytes) (same_request q (request.Pack tid collect) asks) left
line_of_step stands rules x (line.PackBegin tid collect) q m bytes asks left =
    step_same stands rules x (request.PackBegin tid collect) m bytes (λ n. step_left rules m n (request.PackBegin tid collect) 0)
    (subst (λ (z : Request). IsStepListOf stands rules x z m bytes) (same_request q (request.PackBegin tid collect) asks) left)
line_of_step stands rules x line.PackTurn q m bytes asks left = subst (λ (z : Request). IsStepListOf stands rules x z m bytes) (same_request q request.PackTurn asks) left
line_of_step stands rules x line.Close q m bytes asks left =
    step_same stands rules x request.Close m bytes (λ n. step_left rules m n request.Close 0) (subst (λ (z : Request). IsStepListOf stands rules x z m bytes) (same_request q request.Close asks) left)
line_of_step stands rules x _ q m bytes asks left = absurd cc

pub in_step : (stands : List ℕ → List Transaction → Type 0) (rules : Rules) (x : Option Member) (l : Line) (q : Request) (m : Machine) (old new : List Event) → Some q ≡ plain_request l → LeavesOnly Main (IsStepListOf stands rules x q m) old new
    → LeavesOnly Main (IsListOf stands rules x l m) old new
in_step stands rules x l q m old new asks only = leaves_weaker (IsStepListOf stands rules x q m) (IsListOf stands rules x l m) old new (λ bytes. line_of_step stands rules x l q m bytes asks) only

-- ---- of a client of a moment

-- a step that no transaction refuses
open_step : (stands : List ℕ → List Transaction → Type 0) (rules : Rules) (m : Machine) (n : ℕ) (q : Request) (bytes : List ℕ) (b : Bool) → is_open_in m.sessions n ≡ b → IsBeforeOrBehind stands rules m n q bytes
    → IsListStepped stands rules m n (request_unless (option_or (refuse_if (not b) refusal.NotOpen) None) (Some q)) bytes
open_step stands rules m n q bytes true is left = left
open_step stands rules m n q bytes false is left = before_of stands rules m n q bytes (closed_step rules m n q is) left

-- a transaction is kept where one is open
abbrev pub IsKeptAs : Result Work Refusal → Option OpenTransaction → Type 0
IsKeptAs (Ok w) None = ⊥
IsKeptAs _ _ = Unit {0}

near_as : (k : Connection) (told : views.Client) (w : Result Work Refusal) (t : Option OpenTransaction) → IsOpenAs k told w t → IsKeptAs w t
near_as k told (Ok w) (Some t) is = tt
near_as k told (Ok w) None is = absurd is
near_as k told (Err r) t is = tt

far_as : (k : Connection) (told : views.Client) (w : Result Work Refusal) (t : Option OpenTransaction) → IsLinkedOpen k told w t → IsKeptAs w t
far_as k told (Ok w) (Some t) is = tt
far_as k told (Ok w) None is = absurd is
far_as k told (Err r) t is = tt

open_finish : (stands : List ℕ → List Transaction → Type 0) (rules : Rules) (m : Machine) (n : ℕ) (c : clients.Client) (w : Result Work Refusal) (t : Option OpenTransaction) (bytes : List ℕ)
    → n ≡ c.session → IsKeptAs w t → IsEndListOf stands rules n w m bytes
    → IsListStepped stands rules m c.session (request_unless (option_or (refuse_if (not (is_open_in m.sessions c.session)) refusal.NotOpen) (refusal_within (option_map (λ (u : OpenTransaction). u.changes) t) line.Finish)) (Some request.Finish)) bytes
open_finish stands rules m n c (Ok w) (Some t) bytes session is left =
    open_step stands rules m c.session request.Finish bytes (is_open_in m.sessions c.session) refl (subst (λ (n : ℕ). IsBeforeOrBehind stands rules m n request.Finish bytes) session left)
open_finish stands rules m n c (Ok w) None bytes session is left = absurd is
open_finish stands rules m n c (Err r) t bytes session is left =
    stepped_kept stands rules m c.session (request_unless (option_or (refuse_if (not (is_open_in m.sessions c.session)) refusal.NotOpen) (refusal_within (option_map (λ (u : OpenTransaction). u.changes) t) line.Finish)) (Some request.Finish)) bytes left

-- what may be seen in a line of a client as it is kept may be seen in that of its client
asked_by : (stands : List ℕ → List Transaction → Type 0) (rules : Rules) (m : Machine) (x : Member) (c : clients.Client) (l : Line) (bytes : List ℕ) → c.session ≡ session_of x → IsKeptAs (work_kept x) c.transaction → IsListOf stands rules (Some x) l m bytes
    → IsListAsked stands rules m (Some c) l bytes
asked_by stands rules m x c line.Finish bytes session kept left = open_finish stands rules m (session_of x) c (work_kept x) c.transaction bytes (sym session) kept left
asked_by stands rules m x c (line.Pack tid collect) bytes session kept left =
    open_step stands rules m c.session (request.Pack tid collect) bytes (is_open_in m.sessions c.session) refl (subst (λ (n : ℕ). IsBeforeOrBehind stands rules m n (request.Pack tid collect) bytes) (sym session) left)
asked_by stands rules m x c line.PackTurn bytes session kept left =
    open_step stands rules m c.session request.PackTurn bytes (is_open_in m.sessions c.session) refl (subst (λ (n : ℕ). IsBeforeOrBehind stands rules m n request.PackTurn bytes) (sym session) left)
asked_by stands rules m x c l bytes session kept left = asked_kept stands rules m (Some c) l bytes left

kept_as : {R F : Type 0} (h : HubState R F) (x : Member) (c : clients.Client) → IsMemberOf h x c → IsKeptAs (work_kept x) c.transaction
kept_as h (Near x) c is = near_as x.connection is.told (work_of x.connection) c.transaction is.transaction
kept_as h (Far x) c is = by_lost x.is_lost is
  where
    by_lost : (b : Bool) → IsFarOf h b x.client c → IsKeptAs (work_far b x.client.connection) c.transaction
    by_lost false is = far_as x.client.connection is.told (work_of x.client.connection) c.transaction is.transaction
    by_lost true is = tt

asked_of : {R F : Type 0} (stands : List ℕ → List Transaction → Type 0) (rules : Rules) (m : Machine) (h : HubState R F) (x : Member) (c : clients.Client) (l : Line) (bytes : List ℕ) → IsMemberOf h x c → IsListOf stands rules (Some x) l m bytes
    → IsListAsked stands rules m (Some c) l bytes
asked_of stands rules m h x c l bytes is left = asked_by stands rules m x c l bytes (member_session h x c is) (kept_as h x c is) left

none_left : (stands : List ℕ → List Transaction → Type 0) (rules : Rules) (l : Line) (m : Machine) (bytes : List ℕ) → IsListOf stands rules None l m bytes → stands bytes m.list
none_left stands rules line.Finish m bytes left = left
none_left stands rules (line.Pack tid collect) m bytes left = left
none_left stands rules line.PackTurn m bytes left = left
none_left stands rules _ m bytes left = left

module _ {R F : Type 0} (stands : List ℕ → List Transaction → Type 0) (rules : Rules) (m : Machine) (h : HubState R F) (xs : List Member) (cs : List clients.Client) (l : Line) (bytes : List ℕ) (are : AreClientsOf h xs cs) where
  asked_at : (at : ℕ) (o : Option Member) → slice_get xs at ≡ o → IsListOf stands rules o l m bytes → IsListAsked stands rules m (slice_get cs at) l bytes
  asked_at at None is left = asked_kept stands rules m (slice_get cs at) l bytes (none_left stands rules l m bytes left)
  asked_at at (Some x) is left =
      let k : IsClientAt h cs at x = client_at h xs cs at x are is in
      subst (λ (c : Option clients.Client). IsListAsked stands rules m c l bytes) (sym k.there) (asked_of stands rules m h x k.client l bytes k.is left)

  asked_found : (at : Option ℕ) → IsListOf stands rules (kept_found xs at) l m bytes → IsListAsked stands rules m (client_found cs at) l bytes
  asked_found None left = none_left stands rules l m bytes left
  asked_found (Some at) left = asked_at at (slice_get xs at) refl left

  asked_named : (name : List ℕ) → IsListOf stands rules (kept_named name xs) l m bytes → IsListAsked stands rules m (client_named name cs) l bytes
  asked_named name left = asked_found (place_of_client name cs) (subst (λ (at : Option ℕ). IsListOf stands rules (kept_found xs at) l m bytes) (same_place h xs cs name are) left)

-- ---- the list behind a line

module _ (stands : List ℕ → List Transaction → Type 0) (rules : Rules) (m : Moment) (l : Line) (a : Answer) (b : Moment) (bytes : List ℕ) (left : stands bytes b.machine.list) where
  refused_in : (c : Option clients.Client) (why : Refusal) → IsRefusedAt m why a b → IsListAsked stands rules m.machine c l bytes
  refused_in c why refused = asked_kept stands rules m.machine c l bytes (subst (stands bytes) (ap (λ (x : Moment). x.machine.list) refused.1) left)

  behind_step : (at : ℕ) (c : clients.Client) (d : Bool) (q : Request) → IsStepLine rules m at c d q a b → IsBeforeOrBehind stands rules m.machine c.session q bytes
  behind_step at c d q step =
      seen_in stands rules m.machine c.session q step.behind.machine.list bytes (step_list rules m c.session q step.reply step.behind step.step)
      (subst (stands bytes) (ap (λ (x : Moment). x.machine.list) step.left ∙ told_list rules step.behind step.told c.session (fronts_behind (is_committed step.reply) c.standing) step.front) left)

  behind_long : (at : ℕ) (c : clients.Client) (d : Bool) (q : Request) (e : Option ℕ) → IsStepUnless rules m at c d q e a b → IsBeforeOrBehind stands rules m.machine c.session q bytes
  behind_long at c d q None step = behind_step at c d q step
  behind_long at c d q (Some n) refused = inl (subst (stands bytes) (ap (λ (x : Moment). x.machine.list) refused.1) left)

  -- a line that makes a step, which its connection doesn't refuse
  behind_taken : (at : ℕ) (c : clients.Client) (why : Option Refusal) (q : Request) → request_of c.standing (changes_of c) l ≡ Some q → IsLineUnless rules m at c l why a b → IsListStepped stands rules m.machine c.session (request_unless why (Some q)) bytes
  behind_taken at c (Some why) q asks refused = subst (stands bytes) (ap (λ (x : Moment). x.machine.list) refused.1) left
  behind_taken at c None q asks taken = behind_long at c (is_delivery l) q (asking_excess c.standing q) (subst (λ (o : Option Request). IsLineTaken rules m at c l o a b) asks taken)

  behind_unless : (at : ℕ) (c : clients.Client) (q : Request) → request_of c.standing (changes_of c) l ≡ Some q → IsLineUnless rules m at c l (connection_refusal m.machine c l) a b → IsListAsked stands rules m.machine (Some c) l bytes
  behind_unless at c q asks line =
      subst (λ (o : Option Request). IsListStepped stands rules m.machine c.session (request_unless (connection_refusal m.machine c l) o) bytes) (sym asks) (behind_taken at c (connection_refusal m.machine c l) q asks line)

  -- the line of a client by its name
  behind_line : (at : Option ℕ) (q : Request) → ((c : clients.Client) → request_of c.standing (changes_of c) l ≡ Some q) → IsLineOf rules m at l a b → IsListAsked stands rules m.machine (client_found m.clients at) l bytes
  behind_line None q asks line = refused_in None refusal.NotOpen line
  behind_line (Some at) q asks line =
      subst (λ (c : Option clients.Client). IsListAsked stands rules m.machine c l bytes) (sym line.1) (behind_unless at line.0 q (asks line.0) line.2)

-- what stands for the list that a line leaves may be seen in its turn
line_behind : (stands : List ℕ → List Transaction → Type 0) (rules : Rules) (m : Moment) (name : List ℕ) (l : Line) (a : Answer) (b : Moment) (bytes : List ℕ) → IsLine rules m name l a b → IsListBehind rules m.machine l b.machine.list
    → stands bytes b.machine.list → IsListAsked stands rules m.machine (client_named name m.clients) l bytes
line_behind stands rules m name line.Finish a b bytes taken is left = behind_line stands rules m line.Finish a b bytes left (place_of_client name m.clients) request.Finish (λ c. refl) taken
line_behind stands rules m name (line.Pack tid collect) a b bytes taken is left =
    behind_line stands rules m (line.Pack tid collect) a b bytes left (place_of_client name m.clients) (request.Pack tid collect) (λ c. refl) taken
line_behind stands rules m name line.PackTurn a b bytes taken is left = behind_line stands rules m line.PackTurn a b bytes left (place_of_client name m.clients) request.PackTurn (λ c. refl) taken
line_behind stands rules m name l a b bytes taken is left = asked_kept stands rules m.machine (client_named name m.clients) l bytes (subst (stands bytes) is left)

-- ---- turns

-- a line, as its turn says
pub line_moments : {R F : Type 0} (stands : List ℕ → List Transaction → Type 0) (rules : Rules) (m : Moment) (t : Turn) (seen : ClientsState R F) (left : Option (List Stamp)) (old new : List Event) → StandsForMoment seen left m
    → LeavesOnly Main (IsListOf stands rules (kept_named t.client seen.clients) t.line m.machine) old new → LeavesOnly Main (IsListIn stands rules m t) old new
line_moments stands rules m t seen left old new is only =
    leaves_weaker (IsListOf stands rules (kept_named t.client seen.clients) t.line m.machine) (IsListIn stands rules m t) old new
    (λ bytes. asked_named stands rules m.machine seen.hub seen.clients m.clients t.line bytes is.clients t.client) only

-- a line, and the closing behind it
pub turn_moments : (stands : List ℕ → List Transaction → Type 0) (rules : Rules) (m b : Moment) (t : Turn) (a : Answer) (old mid new : List Event) → LeavesOnly Main (IsListIn stands rules m t) old mid
    → IsLine rules m t.client t.line a b → IsListBehind rules m.machine t.line b.machine.list
    → LeavesOnly Main (λ bytes. stands bytes b.machine.list) mid new → LeavesOnly Main (IsListIn stands rules m t) old new
turn_moments stands rules m b t a old mid new line_only line is closing =
    joined (Leaves Main (IsListIn stands rules m t)) old mid new line_only
    (leaves_weaker (λ bytes. stands bytes b.machine.list) (IsListIn stands rules m t) mid new (λ bytes. line_behind stands rules m t.client t.line a b bytes line is) closing)

-- ---- a line that packs

-- no other line asks for a pack
pub asked_no_pack : (s : clients.Standing) (ch : Option Changes) (l : Line) (q : Request) → Some q ≡ request_of s ch l → packs_list l ≡ false → is_pack q ≡ false
asked_no_pack (clients.Linked known) ch line.Begin q asks not = absurd cc
asked_no_pack clients.Local ch line.Begin q asks not = ap is_pack (same_request q request.Front asks)
asked_no_pack s ch line.New q asks not = ap is_pack (same_request q (request.NewOids 1) asks)
asked_no_pack s ch (line.Vote user description) q asks not = ap is_pack (same_request q (request.Vote user description [] (pending_in ch)) asks)
asked_no_pack s ch (line.Undo user description tids) q asks not = ap is_pack (same_request q (request.Undo user description tids) asks)
asked_no_pack s ch line.Finish q asks not = ap is_pack (same_request q request.Finish asks)
asked_no_pack s ch line.Abort q asks not = ap is_pack (same_request q request.Abort asks)
asked_no_pack s ch line.Deliver q asks not = ap is_pack (same_request q request.Front asks)
asked_no_pack s ch (line.History oid) q asks not = ap is_pack (same_request q (request.History oid) asks)
asked_no_pack s ch line.UndoLog q asks not = ap is_pack (same_request q request.UndoLog asks)
asked_no_pack s ch line.Close q asks not = ap is_pack (same_request q request.Close asks)
asked_no_pack s ch _ q asks not = absurd cc

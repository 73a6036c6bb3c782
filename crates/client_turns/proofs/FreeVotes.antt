-- A vote or an undo isn't answered Busy while no other session holds the vote.
use Rattle.std.proofs.Common.{◌≡◌, ℕ, Bool, true, false, not, List, Option, Some, None, refl, sym, ap, subst, ◌∙◌}
use Rattle.std.specs.Prelude.{bytes_eq, nat_lt, slice_get, ◌&&◌}
use Rattle.std.specs.Option.{option_map, option_map_or, option_or}
use Rattle.std.specs.List.{position}
use Rattle.zb_ids.specs.declared.stamp.Stamp.{Stamp}
use Rattle.zb_model.specs.declared.data.Transaction.{Transaction}
use Rattle.zb_model.specs.declared.refusal.Refusal.{Refusal}
use Rattle.zb_model.specs.declared.refusal.Refusal.TheVariants as refusal
use Rattle.zb_answers.specs.declared.answer.Answer.{Answer}
use Rattle.zb_answers.specs.declared.answer.Answer.TheVariants as answer
use Rattle.zb_script.specs.declared.line.Line.{Line}
use Rattle.zb_script.specs.declared.line.Line.TheVariants as line
use Rattle.zodb_core.specs.declared.reply.Reply.{Reply}
use Rattle.zodb_core.specs.declared.reply.Reply.TheVariants as reply
use Rattle.zodb_core.specs.declared.request.Request.{Request}
use Rattle.zodb_core.specs.declared.vote.HubVote.{HubVote}
use Rattle.zodb_core.specs.Entries.{free_votes_are_served}
use Rattle.zodb_core.specs.HubState.{vote_of_hub}
use Rattle.zodb_core.specs.Machine.{Rules, is_open_in}
use Rattle.zodb_core.specs.Steps.{busy_for, refuse_if}
use Rattle.zodb_core.specs.Waiting.{is_held_by_another, needs_vote}
use Rattle.client_turns.specs.declared.member.Member.{Member as Kept}
use Rattle.client_turns.specs.Members.{name_of, session_of}
use Rattle.client_turns.specs.Clients.{Changes, Client, Moment, Standing, changes_of, place_of_client}
use Rattle.client_turns.specs.Lines.{answer_of, answer_to, answering_excess, asking_excess, delivered_as, is_delivery, request_of, step_answer, unless_long}
use Rattle.client_turns.specs.Refusing.{connection_refusal, line_refusal, mixed, pending_count}
use Rattle.client_turns.specs.Standing.{ClientsState, StandsForMoment, kept_found, kept_named}
use Rattle.client_turns.specs.Turns.{IsLine, IsLineOf, IsLineTaken, IsLineUnless, IsStepLine, IsStepUnless}
use Rattle.client_turns.specs.Waiting.{FreeTurnsAreServed, is_busy as is_busy_answer, waits_for_vote}
use Rattle.client_turns.proofs.Placing.{member_session, kept_at, same_place}

-- ---- the vote

none_busy : (n : ℕ) (voted : Option Transaction) (v : Option HubVote) → is_held_by_another n v ≡ false → busy_for n (option_map (vote_of_hub voted) v) ≡ None
none_busy n voted None free = refl
none_busy n voted (Some v) free = rw free refl

replied_busy : (r : Reply) (holder : ℕ) → answer_of r ≡ answer.Refused (refusal.Busy holder) → r ≡ reply.Refused (refusal.Busy holder)
replied_busy (reply.Refused why) holder is = ap reply.Refused (same why is)
  where
    same : (why : Refusal) → answer.Refused why ≡ answer.Refused (refusal.Busy holder) → why ≡ refusal.Busy holder
    same why e = cc
replied_busy (reply.Nothing oid switches) holder is = absurd cc
replied_busy _ holder is = absurd cc

unless_busy : (o : Option ℕ) (a : Answer) (holder : ℕ) → unless_long o a ≡ answer.Refused (refusal.Busy holder) → a ≡ answer.Refused (refusal.Busy holder)
unless_busy None a holder is = is
unless_busy (Some n) a holder is = absurd cc

delivered_busy : (r : Reply) (holder : ℕ) → delivered_as r ≡ answer.Refused (refusal.Busy holder) → answer_of r ≡ answer.Refused (refusal.Busy holder)
delivered_busy (reply.Front front news switches) holder is = absurd cc
delivered_busy _ holder is = is

to_busy : (delivers : Bool) (r : Reply) (holder : ℕ) → answer_to delivers r ≡ answer.Refused (refusal.Busy holder) → answer_of r ≡ answer.Refused (refusal.Busy holder)
to_busy true r holder is = delivered_busy r holder is
to_busy false r holder is = is

step_busy : (s : Standing) (delivers : Bool) (r : Reply) (holder : ℕ) → step_answer s delivers r ≡ answer.Refused (refusal.Busy holder) → r ≡ reply.Refused (refusal.Busy holder)
step_busy s delivers r holder is = replied_busy r holder (to_busy delivers r holder (unless_busy (answering_excess s r) _ holder is))

-- ---- what a connection refuses

abbrev is_busy : Refusal → Bool
is_busy (refusal.Busy holder) = true
is_busy _ = false

-- it refuses something else, if anything
abbrev IsOther : Option Refusal → Type 0
IsOther None = Unit {0}
IsOther (Some why) = is_busy why ≡ false

unless_other : (b : Bool) (why : Refusal) (o : Option Refusal) → is_busy why ≡ false → IsOther o → IsOther (option_or (refuse_if b why) o)
unless_other true why o other rest = other
unless_other false why o other rest = rest

if_other : (b : Bool) (why : Refusal) → is_busy why ≡ false → IsOther (refuse_if b why)
if_other true why other = other
if_other false why other = tt

vote_other : (changes : Option Changes) (user description : List ℕ) → IsOther (line_refusal changes (line.Vote user description))
vote_other None user description = refl
vote_other (Some t) user description = if_other t.is_voted refusal.Voted refl

undo_other : (changes : Option Changes) (user description tids : List ℕ) → IsOther (line_refusal changes (line.Undo user description tids))
undo_other None user description tids = refl
undo_other (Some t) user description tids =
    unless_other t.is_voted refusal.Voted (mixed t.pending) refl (if_other (nat_lt 0 (pending_count t.pending)) (refusal.Mixed (pending_count t.pending)) refl)

-- ---- lines

module _ {R F : Type 0} (rules : Rules) (seen : ClientsState R F) (left : Option (List Stamp)) (m : Moment) (stands : StandsForMoment seen left m) (whole : seen.hub.store.broken ≡ false) where
  -- the vote is free for the client at the place of its name
  free_at : (name : List ℕ) (at : ℕ) (c : Client) → place_of_client name m.clients ≡ Some at → slice_get m.clients at ≡ Some c
      → option_map_or (λ (x : Kept). is_held_by_another (session_of x) seen.hub.vote) (kept_named name seen.clients) false ≡ false → busy_for c.session m.machine.vote ≡ None
  free_at name at c place there free =
      let k = kept_at seen.hub seen.clients m.clients at c stands.clients there in
      let here : position (λ (x : Kept). bytes_eq (name_of x) name) seen.clients ≡ Some at = same_place seen.hub seen.clients m.clients name stands.clients ∙ place in
      let kept : kept_named name seen.clients ≡ Some k.kept = ap (kept_found seen.clients) here ∙ k.there in
      let mine : is_held_by_another (session_of k.kept) seen.hub.vote ≡ false = sym (ap (λ (o : Option Kept). option_map_or (λ (x : Kept). is_held_by_another (session_of x) seen.hub.vote) o false) kept) ∙ free in
      let his : is_held_by_another c.session seen.hub.vote ≡ false = ap (λ (n : ℕ). is_held_by_another n seen.hub.vote) (member_session seen.hub k.kept c k.is) ∙ mine in
      ap (busy_for c.session) (stands.hub.vote whole) ∙ none_busy c.session seen.hub.store.voted seen.hub.vote his

  step_served : (at : ℕ) (c : Client) (delivers : Bool) (q : Request) (a : Answer) (now : Moment) (holder : ℕ) → needs_vote q ≡ true → busy_for c.session m.machine.vote ≡ None
      → IsStepLine rules m at c delivers q a now → a ≡ answer.Refused (refusal.Busy holder) → ⊥
  step_served at c delivers q a now holder needs free l busy =
      free_votes_are_served rules m.machine c.session q l.step.stamp (record { reply = l.reply; machine = l.behind.machine; ticks = l.step.ticks }) m.counts l.behind.counts l.step.made needs (λ here. free) holder
      (step_busy c.standing delivers l.reply holder (sym l.answer ∙ busy))

  long_served : (at : ℕ) (c : Client) (delivers : Bool) (q : Request) (o : Option ℕ) (a : Answer) (now : Moment) (holder : ℕ) → needs_vote q ≡ true → busy_for c.session m.machine.vote ≡ None
      → IsStepUnless rules m at c delivers q o a now → a ≡ answer.Refused (refusal.Busy holder) → ⊥
  long_served at c delivers q None a now holder needs free l busy = step_served at c delivers q a now holder needs free l busy
  long_served at c delivers q (Some n) a now holder needs free (is, same) busy = never n (sym is ∙ busy)
    where
      never : (n : ℕ) → answer.Refused (refusal.TooLong n) ≡ answer.Refused (refusal.Busy holder) → ⊥
      never n e = cc

  unless_served : (at : ℕ) (c : Client) (l : Line) (q : Request) (o : Option Refusal) (a : Answer) (now : Moment) (holder : ℕ) → request_of c.standing (changes_of c) l ≡ Some q → needs_vote q ≡ true → busy_for c.session m.machine.vote ≡ None
      → IsOther o → IsLineUnless rules m at c l o a now → a ≡ answer.Refused (refusal.Busy holder) → ⊥
  unless_served at c l q (Some why) a now holder asks needs free other (is, same) busy =
      let busy_why : why ≡ refusal.Busy holder = refused_so why (sym is ∙ busy) in
      never (sym (ap is_busy busy_why) ∙ other)
    where
      refused_so : (why : Refusal) → answer.Refused why ≡ answer.Refused (refusal.Busy holder) → why ≡ refusal.Busy holder
      refused_so why e = cc

      never : true ≡ false → ⊥
      never e = cc
  unless_served at c l q None a now holder asks needs free other taken busy =
      long_served at c (is_delivery l) q (asking_excess c.standing q) a now holder needs free (subst (λ (x : Option Request). IsTakenBy x) asks taken) busy
    where
      IsTakenBy : Option Request → Type 0
      IsTakenBy x = IsLineTaken rules m at c l x a now

  place_served : (name : List ℕ) (l : Line) (o : Option ℕ) (a : Answer) (now : Moment) (holder : ℕ)
      → ((c : Client) → IsOther (connection_refusal m.machine c l)) → ((c : Client) → (q : Request) × (request_of c.standing (changes_of c) l ≡ Some q) × (needs_vote q ≡ true))
      → option_map_or (λ (x : Kept). is_held_by_another (session_of x) seen.hub.vote) (kept_named name seen.clients) false ≡ false
      → place_of_client name m.clients ≡ o → IsLineOf rules m o l a now → a ≡ answer.Refused (refusal.Busy holder) → ⊥
  place_served name l None a now holder other asks free place (is, same) busy = never a is busy
    where
      never : (a : Answer) → a ≡ answer.Refused refusal.NotOpen → a ≡ answer.Refused (refusal.Busy holder) → ⊥
      never a e f = cc
  place_served name l (Some at) a now holder other asks free place (c, there, unless) busy =
      let q = asks c in
      unless_served at c l q.0 (connection_refusal m.machine c l) a now holder q.1 q.2 (free_at name at c place there free) (other c) unless busy

  line_served : (name : List ℕ) (l : Line) (a : Answer) (now : Moment) (holder : ℕ) → waits_for_vote l ≡ true
      → option_map_or (λ (x : Kept). is_held_by_another (session_of x) seen.hub.vote) (kept_named name seen.clients) false ≡ false
      → IsLine rules m name l a now → a ≡ answer.Refused (refusal.Busy holder) → ⊥
  line_served name (line.Vote user description) a now holder waits free is busy =
      place_served name (line.Vote user description) (place_of_client name m.clients) a now holder
      (λ c. unless_other (not (is_open_in m.machine.sessions c.session)) refusal.NotOpen _ refl (vote_other (changes_of c) user description))
      (λ c. (_, refl, refl)) free refl is busy
  line_served name (line.Undo user description tids) a now holder waits free is busy =
      place_served name (line.Undo user description tids) (place_of_client name m.clients) a now holder
      (λ c. unless_other (not (is_open_in m.machine.sessions c.session)) refusal.NotOpen _ refl (undo_other (changes_of c) user description tids))
      (λ c. (_, refl, refl)) free refl is busy
  line_served name _ a now holder waits free is busy = absurd cc

held_so : (waits held : Bool) → waits ≡ true → (waits && held) ≡ false → held ≡ false
held_so true held is free = free
held_so false held is free = absurd cc

busy_unless : (a : Answer) → ((holder : ℕ) → a ≡ answer.Refused (refusal.Busy holder) → ⊥) → is_busy_answer a ≡ false
busy_unless (answer.Refused (refusal.Busy holder)) never = absurd (never holder refl)
busy_unless (answer.Refused _) never = refl
busy_unless _ never = refl

pub free_served : {R F : Type 0} (seen : ClientsState R F) → seen.hub.store.broken ≡ false → FreeTurnsAreServed seen
free_served seen whole rules left m t last a now stands free turn waits =
    busy_unless a (λ holder busy. line_served rules seen left m stands whole t.client t.line a turn.behind holder waits (held_so (waits_for_vote t.line) _ waits free) turn.line busy)

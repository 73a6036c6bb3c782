-- What a front of the hub tells a client.
use Rattle.std.proofs.Common.{◌≡◌, ℕ, ◌<◌, ◌^◌, ◌+◌, Bool, true, false, not, ◌&&◌, List, Option, Some, None, refl, sym, ap, subst, ◌∙◌, arith}
use Rattle.std.specs.Prelude.{◌==◌, if◌then◌else◌}
use Rattle.std.specs.Option.{option_or}
use Rattle.std.proofs.lemmas.Bool.{eqb-true}
use Rattle.zb_ids.specs.declared.stamp.Stamp.{Stamp}
use Rattle.zb_model.specs.declared.data.Transaction.{Transaction}
use Rattle.zb_model.specs.declared.news.News.{News}
use Rattle.zb_model.specs.declared.refusal.Refusal.TheVariants as refusal
use Rattle.zb_model.specs.Database.{newest_tid}
use Rattle.zb_model.specs.Rules.{MergeRules}
use Rattle.zodb_core.specs.declared.journal.JournalEntry.{JournalEntry}
use Rattle.zodb_core.specs.declared.reply.Reply.TheVariants as reply
use Rattle.zodb_core.specs.declared.request.Request.TheVariants as request
use Rattle.zodb_core.specs.HubState.{HubState, rules_of}
use Rattle.zodb_core.specs.Machine.{Machine, Rules, front_of, is_open_in, switches_of}
use Rattle.zodb_core.specs.Outcomes.{Answered, NoMemory, ReadingFailed, StepOutcome, StoreFailed, machine_left, outcome_of}
use Rattle.zodb_core.specs.Steps.{Stepped, front_step, refuse_if, unless_early}
use Rattle.connection_view.specs.declared.loads.FrontView.{FrontView}
use Rattle.connection_view.specs.Loading.{IsFront}
use Rattle.connection_view.specs.Views.{Client, Later, Quiet, View, read_below, view_of}
use Rattle.local_loads.specs.declared.told.Told.{Told}
use Rattle.local_loads.specs.Answers.{news_since, no_news, all_news}
use Rattle.local_loads.specs.Local.{IsToldOf, MayBeTold, server_of}
use Rattle.local_loads.specs.LocalLaws.{later_self, machine_of, stands_for, view_at, view_whole}
use Rattle.local_loads.specs.Making.{IsHubStep}

-- ---- a front of a machine

front_reply : (b : Bool) (m : Machine) (n f : ℕ) (news : News) (s : ℕ) → reply.Front f news s ≡ (unless_early (option_or (refuse_if b refusal.NotOpen) None) m (front_step m n)).reply → (f ≡ front_of m.list) × (s ≡ switches_of m.journal)
front_reply true m n f news s is = absurd cc
front_reply false m n f news s is = (cc, cc)

-- it leaves the list and what happened to it
record LeavesList (m now : Machine) : Type 0 where
  list : now.list ≡ m.list
  journal : now.journal ≡ m.journal

front_answered : (b : Bool) (m : Machine) (n : ℕ) → LeavesList m (unless_early (option_or (refuse_if b refusal.NotOpen) None) m (front_step m n)).machine
front_answered true m n = record { list = refl; journal = refl }
front_answered false m n = record { list = refl; journal = refl }

front_left : (rules : Rules) (m : Machine) (n stamp : ℕ) (o : StepOutcome) → LeavesList m (machine_left rules m n request.Front stamp o)
front_left rules m n stamp Answered = front_answered (not (is_open_in m.sessions n)) m n
front_left rules m n stamp ReadingFailed = record { list = refl; journal = refl }
front_left rules m n stamp NoMemory = record { list = refl; journal = refl }
front_left rules m n stamp StoreFailed = record { list = refl; journal = refl }

same_view : (m now : Machine) → LeavesList m now → view_at now ≡ view_at m
same_view m now leaves =
    ap (λ (l : List Transaction). let w : View = record { front = newest_tid l + 1; list = l; switches = switches_of now.journal } in w) leaves.list
    ∙ ap (λ (j : List JournalEntry). let w : View = record { front = newest_tid m.list + 1; list = m.list; switches = switches_of j } in w) leaves.journal

-- ---- a front of a hub

-- a front that is answered is that of the list, and leaves it
pub record IsFrontOf {R F : Type 0} (old new : HubState R F) (f s : ℕ) : Type 0 where
  pub whole : old.store.broken ≡ false
  pub still : new.store.broken ≡ false
  pub front : f ≡ (view_of (server_of old)).front
  pub switches : s ≡ (view_of (server_of old)).switches
  pub view : view_of (server_of new) ≡ view_of (server_of old)
  pub bounded : f < 2 ^ 64

pub front_is : {R F : Type 0} (told lasts : Type 0) (stands : List ℕ → List Transaction → Type 0) (rules : R → MergeRules) (named : F → List ℕ → Option (List ℕ)) (n f : ℕ) (news : News) (s : ℕ) (old new : HubState R F) (before after : Option (List Stamp))
    → told → IsHubStep told lasts stands rules named n request.Front (reply.Front f news s) old new before after → IsFrontOf old new f s
front_is {R} {F} told lasts stands rules named n f news s old new before after tells step = by_old old.store.broken refl
  where
    by_old : (b : Bool) → old.store.broken ≡ b → IsFrontOf old new f s
    by_old true broke = absurd (never (step.failed broke).0)
      where
        never : reply.Front f news s ≡ reply.Refused refusal.NotOpen → ⊥
        never is = absurd cc
    by_old false whole =
        let made = step.step tells (machine_of old) (stands_for old) in
        let view : view_of (server_of old) ≡ view_at (machine_of old) = view_whole old (machine_of old) (stands_for old) whole in
        let still : new.store.broken ≡ false = step.safe.broken whole in
        let both : (f ≡ front_of old.store.list) × (s ≡ switches_of old.journal) =
        front_reply (not (is_open_in (machine_of old).sessions n)) (machine_of old) n f news s (ap (λ (x : Stepped). x.reply) made.made.cause) in
        let bound = (step.database tells whole).bounded in
        record {
          whole = whole;
          still = still;
          front = both.0 ∙ sym (ap (λ (w : View). w.front) view);
          switches = both.1 ∙ sym (ap (λ (w : View). w.switches) view);
          view = view_whole new made.left made.stands still
              ∙ same_view (machine_of old) made.left (subst (LeavesList (machine_of old)) (sym made.made.left) (front_left (rules_of rules named old) (machine_of old) n made.stamp (outcome_of (reply.Front f news s))))
              ∙ sym view;
          bounded = omega (arith, both.0, bound);
        }

-- ---- the news

both_true : (a b : Bool) → (a && b) ≡ true → (a ≡ true) × (b ≡ true)
both_true true true is = (refl, refl)
both_true true false is = absurd cc
both_true false b is = absurd cc

true_false : true ≡ false → ⊥
true_false is = absurd cc

quiet_test : (t : Told) (v w : View) (f s : ℕ) (own : ℕ → Bool) (b : Bool) → ((t.front == f) && (t.switches == s)) ≡ b → IsToldOf (Some t) v → Later v w → f ≡ w.front → s ≡ w.switches → Quiet v w (if b then no_news else all_news) own
quiet_test t v w f s own false is told later front switches = λ oid un none. absurd (true_false un)
quiet_test t v w f s own true is told later front switches = λ oid un none.
    let same = both_true (t.front == f) (t.switches == s) is in
    let still : v.switches ≡ w.switches = sym told.1 ∙ eqb-true t.switches s same.1 ∙ switches in
    let here : w.front ≡ v.front = sym front ∙ sym (eqb-true t.front f same.0) ∙ told.0 in
    ap (λ (k : ℕ). read_below oid k w.list) here ∙ later.same still oid v.front (omega arith)

quiet_since : (last : Option Told) (v w : View) (f s : ℕ) (own : ℕ → Bool) → IsToldOf last v → Later v w → f ≡ w.front → s ≡ w.switches → Quiet v w (news_since last f s) own
quiet_since None v w f s own told later front switches = λ oid un none. absurd (true_false un)
quiet_since (Some t) v w f s own told later front switches = quiet_test t v w f s own ((t.front == f) && (t.switches == s)) refl told later front switches

-- ---- what the client is told

pub front_answers : {R F : Type 0} (last : Option Told) (old new : HubState R F) (c : Client) (f s : ℕ) (r : FrontView) → MayBeTold last old c.told c.known → IsFrontOf old new f s → r ≡ record { front = f; news = news_since last f s; switches = s }
    → IsFront c (view_of (server_of old)) r
front_answers last old new c f s r may is made =
    subst (IsFront c (view_of (server_of old))) (sym made) (record {
      front = is.front;
      switches = is.switches;
      later = may.later;
      known = may.known is.whole;
      quiet = quiet_since last c.told (view_of (server_of old)) f s c.own may.last may.later is.front is.switches;
    })

pub front_renews : {R F : Type 0} (last : Option Told) (old new : HubState R F) (v known : View) (f s : ℕ) → s < 2 ^ 64 → MayBeTold last new v known → IsFrontOf old new f s
    → MayBeTold (Some (record { front = f; switches = s })) new (view_of (server_of old)) (view_of (server_of old))
front_renews last old new v known f s within kept is = record {
  last = (is.front, is.switches);
  front = subst (λ (k : ℕ). k < 2 ^ 64) is.front is.bounded;
  switches = subst (λ (k : ℕ). k < 2 ^ 64) is.switches within;
  later = subst (λ (w : View). Later (view_of (server_of old)) w) (sym is.view) (later_self (view_of (server_of old)));
  known = λ _. subst (λ (w : View). Later (view_of (server_of old)) w) (sym is.view) (later_self (view_of (server_of old)));
  votes = kept.votes;
  within = kept.within;
}

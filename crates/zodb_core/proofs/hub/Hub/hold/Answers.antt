use Rattle.std.proofs.Common.{rules, refl, ◌+◌, arith, Some, None, true, false}
use Rattle.zb_model.specs.declared.refusal.Refusal.TheVariants as refusal
use Rattle.zodb_core.specs.declared.reply.Reply.TheVariants as reply
use Rattle.zodb_core.specs.Holding.{IsNextTid}
use Rattle.zodb_core.proofs.Stepping.{still}
use Rattle.zodb_core.specs.HubState.{rules_of}
use Rattle.zodb_core.proofs.Holding.{hold_empty, hold_fails_safely, hold_full, hold_failed, hold_spent, hold_starved, hold_voted, kept_voted}
use Rattle.zodb_core.proofs.Votes.{leaves_now, leaves_same}
use Rattle.zodb_core.proofs.hub.Hub.hold.Goals as goal

-- ---- what a crash leaves

pub returns-then-is_empty-clause-any_moment : goal.returns-then-is_empty-clause-any_moment
returns-then-is_empty-clause-any_moment g c = λ lasts told.
    let s = g.St.Store.state c.self.inside.store in
    leaves_now g.St.Store.stands c.args.self.now.store s s.log (search rules) (g.met.St.Store.lasting c.self.inside.store lasts (search rules)) (search rules)

pub returns-then-count-gt-JOURNAL_LIMIT-clause-any_moment : goal.returns-then-count-gt-JOURNAL_LIMIT-clause-any_moment
returns-then-count-gt-JOURNAL_LIMIT-clause-any_moment g c = λ lasts told.
    let s = g.St.Store.state c.self.inside.store in
    leaves_now g.St.Store.stands c.args.self.now.store s c.args.self.now.store.log (search rules) (g.met.St.Store.lasting c.self.inside.store lasts (search rules)) refl

pub returns-in_default-clause-any_moment : goal.returns-in_default-clause-any_moment
returns-in_default-clause-any_moment g c = λ lasts told.
    let s = g.St.Store.state c.self.inside.store in
    leaves_now g.St.Store.stands c.args.self.now.store s s.log (search rules) (g.met.St.Store.lasting c.self.inside.store lasts (search rules)) (search rules)

pub returns-in_default-tick-clause-any_moment : goal.returns-in_default-tick-clause-any_moment
returns-in_default-tick-clause-any_moment g c = λ lasts told.
    let s = g.St.Store.state c.self.inside.store in
    leaves_now g.St.Store.stands c.args.self.now.store s s.log (search rules) (g.met.St.Store.lasting c.self.inside.store lasts (search rules)) (search rules)

pub returns-in-Err-clause-any_moment : goal.returns-in-Err-clause-any_moment
returns-in-Err-clause-any_moment g c = λ lasts told.
    let s = g.St.Store.state c.self.inside.store in
    leaves_same g.St.Store.stands c.args.self.now.store s (g.St.Store.state c.vote.new.self).log (search rules) (c.vote.ensures.any_moment lasts)

pub returns-clause-any_moment : goal.returns-clause-any_moment
returns-clause-any_moment g c = λ lasts told.
    let s = g.St.Store.state c.self.inside.store in
    leaves_same g.St.Store.stands c.args.self.now.store s (g.St.Store.state c.vote.new.self).log (search rules) (c.vote.ensures.any_moment lasts)

-- ---- the step

pub returns-then-is_empty-clause-step : goal.returns-then-is_empty-clause-step
returns-then-is_empty-clause-step g c = record {
  stamp = 0;
  ticks = false;
  clock = search rules;
  step = λ told m stands q votes.
      let rules_now = rules_of g.R.Resolver.rules g.F.Refs.named c.args.self.now in
      still rules_now m c.args.session q reply.Voted c.args.self.now _ (λ stamps.
      hold_empty rules_now m c.args.session q c.args.texts c.args.changes c.args.self.now _ stamps stamps
      stands (search rules) votes (search rules) (search rules) (search rules) (search rules) (search rules) (search rules) (search rules) (search rules) refl);
}

pub returns-then-count-gt-JOURNAL_LIMIT-clause-step : goal.returns-then-count-gt-JOURNAL_LIMIT-clause-step
returns-then-count-gt-JOURNAL_LIMIT-clause-step g c = record {
  stamp = 0;
  ticks = false;
  clock = refl;
  step = λ told m stands q votes.
      let rules_now = rules_of g.R.Resolver.rules g.F.Refs.named c.args.self.now in
      let kept = c.self.inside.changes in
      still rules_now m c.args.session q _ c.args.self.now c.args.self.now (λ stamps.
      hold_full rules_now m c.args.session q c.args.texts c.args.changes kept (kept + c.len.result) c.args.self.now c.args.self.now stamps stamps
      stands votes (λ none. search rules) (search rules) (search rules) (search rules)
      (record { reads = omega arith; others = omega arith }) stands refl);
}

pub returns-in_default-clause-step : goal.returns-in_default-clause-step
returns-in_default-clause-step g c = record {
  stamp = 0;
  ticks = false;
  clock = search rules;
  step = λ told m stands q votes.
      let rules_now = rules_of g.R.Resolver.rules g.F.Refs.named c.args.self.now in
      still rules_now m c.args.session q (reply.Refused refusal.Memory) c.args.self.now _ (λ stamps.
      hold_starved rules_now m c.args.session q c.args.texts c.args.changes c.args.self.now _ stamps stamps votes (search rules) (search (stands, rules)) refl);
}

pub returns-in_default-tick-clause-step : goal.returns-in_default-tick-clause-step
returns-in_default-tick-clause-step g c =
    let next : IsNextTid c.newest.result _ _ None = search rules in
    record {
      stamp = next.stamp;
      ticks = true;
      clock = next.clock;
      step = λ told m stands q votes.
          let rules_now = rules_of g.R.Resolver.rules g.F.Refs.named c.args.self.now in
          let kept = c.self.inside.changes in
          hold_spent rules_now m c.args.session q c.args.texts c.args.changes kept c.newest.result c.args.self.now _ _ _
          stands votes (λ none. search rules) (search rules) (search rules) (search rules) next (search rules) (search rules);
    }

pub returns-in-Err-clause-step : goal.returns-in-Err-clause-step
returns-in-Err-clause-step g c =
    let next : IsNextTid c.newest.result _ _ (Some c.in-Some.tid) = search rules in
    record {
      stamp = next.stamp;
      ticks = true;
      clock = next.clock;
      step = λ told m stands q votes.
          let rules_now = rules_of g.R.Resolver.rules g.F.Refs.named c.args.self.now in
          let kept = c.self.inside.changes in
          rw c.fault_reply.ensures
          (hold_failed rules_now m c.args.session q c.args.texts c.args.changes kept c.newest.result c.in-Some.tid c.in-Err.error c.args.self.now _ _ _
          stands (search rules) votes (λ none. search rules) (search rules) (search rules) (search rules) next (search rules) (search rules) (λ fault. search (fault, rules)) (search rules)
          (search rules) (search rules) (search rules) (search rules) (search rules));
    }

pub returns-clause-step : goal.returns-clause-step
returns-clause-step g c =
    let next : IsNextTid c.newest.result _ _ (Some c.in-Some.tid) = search rules in
    record {
      stamp = next.stamp;
      ticks = true;
      clock = next.clock;
      step = λ told m stands q votes.
          let rules_now = rules_of g.R.Resolver.rules g.F.Refs.named c.args.self.now in
          let kept = c.self.inside.changes in
          hold_voted rules_now m c.args.session q c.args.texts c.args.changes kept c.newest.result c.in-Some.tid _ c.args.self.now _ _ _
          stands (search rules) votes (λ none. search rules) (search rules) (search rules) (search rules) next (search rules) (search rules) (search rules) (search rules)
          (search rules) (search rules) (search rules) refl (search (told, rules)) (search rules);
    }

-- ---- whatever the store tells

pub returns-in-Err-clause-safe : goal.returns-in-Err-clause-safe
returns-in-Err-clause-safe g c =
    rw c.fault_reply.ensures
    (hold_fails_safely c.in-Err.error c.args.self.now _ (search rules) (search rules) (λ fault. search (fault, rules)) (search rules) (search rules) (search rules) (search rules))

-- ---- what is kept

pub invariant_of-self-2 : goal.invariant_of-self-2
invariant_of-self-2 g c =
    rw c.reserve-room.ensures.sessions
    (kept_voted g.St.Store.told (g.St.Store.state c.self.inside.store) (g.St.Store.state c.vote.new.self) c.self.inside.journal.entries c.reserve-room.new.self.entries c.self.inside.journal.capacity c.reserve-room.new.self.capacity
    c.self.inside.changes c.self.inside.switches c.self.inside.journal.sessions c.self.inside.vote c.self.inside.pack c.self.inside.failed (g.F.Refs.named c.self.inside.refs) c.args.session (record { tid = c.in-Some.tid; oids = c.in-Ok-Ok.oids })
    (record { tid = c.in-Some.tid; user = c.args.texts.user; description = c.args.texts.description; extension = c.args.texts.extension; changes = c.args.changes })
    c.self.invariant (search rules) (search rules) (search rules) (search rules) (search rules) (search rules) refl (search rules) (λ tells. search (tells, rules))
    (search rules) (λ tells. search (tells, rules)) (search rules) (search rules) (search rules))

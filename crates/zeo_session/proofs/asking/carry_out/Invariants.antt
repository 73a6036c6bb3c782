use Rattle.std.proofs.Common.{◌≡◌}
use Rattle.zeo_desk.specs.Desks.{IsFittingNext}
use Rattle.zeo_session.specs.Served.{Progress}
use Rattle.zeo_session.proofs.Steps.{LeadsTo}
use Rattle.zeo_session.proofs.asking.carry_out.Given as goal

abbrev pub invariant-steps : goal.invariant-steps
invariant-steps g l =
    let J = g.J.Origin in
    record {
      can : (goal.iterator-steps g).can_next l.iterator';
      finite : (goal.iterator-steps g).is_finite l.iterator';
      fitting : IsFittingNext l.to_do;
      leads : (s : Progress) → s.known ≡ l.fn.pass → LeadsTo g.St.Store.told J.rules J.list J.counts s l.fn.desk l.fn.next l.now l.desk l.to_do;
    }

use Rattle.std.proofs.Common.{◌≡◌, ◌≤◌}
use mathlib.Core.List.{IsPrefix}
use Rattle.zeo_server.proofs.Pieces.{Pushes}
use Rattle.zeo_server.proofs.pushing.push_news.Given as goal

abbrev pub invariant-pushing : goal.invariant-pushing
invariant-pushing g l =
    let O = g.O.Sink in
    let J = g.J.Origin in
    record {
      can : (goal.iterator-pushing g).can_next l.iterator';
      finite : (goal.iterator-pushing g).is_finite l.iterator';
      begins : IsPrefix l.fn.ear.seen l.now.seen;
      session : l.now.session ≡ l.fn.ear.session;
      counted : O.faults l.fn.link_out ≤ O.faults l.link_out;
      pushed : g.St.Store.told → Pushes J.rules J.list l.fn.ear l.now (O.taken l.fn.link_out) (O.taken l.link_out);
    }

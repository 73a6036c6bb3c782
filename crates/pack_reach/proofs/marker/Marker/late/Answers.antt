use Rattle.std.proofs.Common.{◌≡◌, None, Err, ◌∙◌, sym, ap, subst}
use Rattle.std.proofs.lemmas.Result.{err_from_is_err_and}
use Rattle.pack_reach.specs.Outcomes.{IsLate, readable_as}
use Rattle.pack_reach.proofs.Counting.{readable_none}
use Rattle.pack_reach.proofs.Overtaking.{late_found, late_refused}
use Rattle.pack_reach.proofs.marker.Marker.late.Goals as goal

pub returns-in_err-readable-clause-late : goal.returns-in_err-readable-clause-late
returns-in_err-readable-clause-late g c = λ told front commits grown whole.
    let named = g.F.Refs.named c.args.refs.now in
    let m = c.mark_commits.new.self in
    let are = c.in_ok-late.ensures.late told front commits grown whole in
    let p = err_from_is_err_and c.from_residual-in_err-readable.result c.from_residual-in_err-readable.ensures.1 in
    let why : readable_as m.unreadable ≡ Err p.0 = sym c.readable.ensures ∙ c.in_err-readable.was ∙ ap Err (sym p.2) in
    subst (IsLate named front commits c.args.self.now m) (sym p.1) (late_refused named front commits c.args.self.now m c.in_ok-late.late p.0 are c.mark_commits.ensures.keeps.tid why)

pub returns-clause-late : goal.returns-clause-late
returns-clause-late g c = λ told front commits grown whole.
    let named = g.F.Refs.named c.args.refs.now in
    let m = c.mark_commits.new.self in
    let are = c.in_ok-late.ensures.late told front commits grown whole in
    let none : m.unreadable ≡ None = readable_none m.unreadable c.in_ok-readable.field-0 (sym c.readable.ensures ∙ c.in_ok-readable.was) in
    late_found named front commits c.args.self.now m c.in_ok-late.late are c.mark_commits.ensures.keeps.tid none

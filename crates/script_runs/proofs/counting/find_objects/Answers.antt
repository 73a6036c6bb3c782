use Rattle.std.proofs.Common.{List, ap, ◌≡◌, ◌∙◌}
use Rattle.zb_model.specs.declared.data.Transaction.{Transaction}
use Rattle.zb_model.specs.Stores.{ReadKeepsRest, StoreState}
use Rattle.script_runs.proofs.Held.{read_then, taken_all, taken_more, taken_none}
use Rattle.script_runs.specs.Counted.{with_object}
use Rattle.script_runs.proofs.counting.find_objects.Goals as goal

pub returns-in_default-clause-found : goal.returns-in_default-clause-found
returns-in_default-clause-found g c = λ told.
    let old = g.St.Store.state c.args.store.now in
    let here : (g.St.Store.state c.loop-number.store).list ≡ old.list = ap (λ (s : StoreState). s.list) c.loop-number.invariant.same in
    taken_none old.list (g.St.Store.state c.loop-number.store).list c.args.tid c.loop-number.number c.args.found.now c.loop-number.found here (c.loop-number.invariant.found told) c.in_ok-change.field-0 (c.in_ok-change.ensures.found told) c.in_default.is

pub returns-clause-found : goal.returns-clause-found
returns-clause-found g c = λ told.
    taken_all (g.St.Store.state c.args.store.now).list c.args.tid c.loop-number.number c.changes_to-count.result c.args.found.now c.loop-number.found (c.loop-number.invariant.found told) (c.changes_to-count.ensures told) c.loop-number-test.false

pub loop-number-preserved : goal.loop-number-preserved
loop-number-preserved g c =
    let old = g.St.Store.state c.args.store.now in
    let here : (g.St.Store.state c.loop-number.store).list ≡ old.list = ap (λ (s : StoreState). s.list) c.loop-number.invariant.same in
    let read : ReadKeepsRest old (g.St.Store.state c.change_at.new.self) = read_then old (g.St.Store.state c.loop-number.store) (g.St.Store.state c.change_at.new.self) c.loop-number.invariant.same c.change_at.ensures.read.same in
    let then : (g.St.Store.state c.change_at.new.self).list ≡ old.list = ap (λ (s : StoreState). s.list) read in
    record {
      same = read_then old (g.St.Store.state c.change_at.new.self) (g.St.Store.state c.find_object.new.store) read c.find_object.ensures.read.same;
      faults = c.in_ok-find_object.ensures.read.answered ∙ c.in_ok-change.ensures.read.answered ∙ c.loop-number.invariant.faults;
      found = λ told x before at was.
          c.in_ok-find_object.ensures.found told ∙ ap (λ (list : List Transaction). with_object list c.loop-number.found c.in-Some.change.oid) then
          ∙ taken_more old.list (g.St.Store.state c.loop-number.store).list c.args.tid c.loop-number.number c.args.found.now c.loop-number.found here (c.loop-number.invariant.found told) c.in_ok-change.field-0 (c.in_ok-change.ensures.found told) c.in-Some.change c.in-Some.is
          x before at was;
    }

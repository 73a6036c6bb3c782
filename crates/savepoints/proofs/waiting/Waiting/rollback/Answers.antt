use Rattle.std.proofs.Common.{◌≡◌, ◌∙◌, Some, ap, sym, rules}
use Rattle.std.specs.Prelude.{◌+◌, slice_get, take}
use Rattle.commit_phases.specs.Pending.{PendingChanges}
use Rattle.commit_phases.specs.Earlier.{with_contents}
use Rattle.savepoints.specs.Log.{saved_at}
use Rattle.savepoints.specs.Saved.{Waits}
use Rattle.savepoints.proofs.Marks.{are_back, log_reaches, marks_back, pending_back, saved_back, saved_is, size_back}
use Rattle.savepoints.proofs.waiting.Waiting.rollback.Goals as goal

pub contents_at-requires : goal.contents_at-requires
contents_at-requires c =
    let there : slice_get c.self.inside.marks.items c.args.number ≡ Some c.in-Some.mark = search rules in
    log_reaches c.self.inside.pending c.self.inside.log.items c.as_slice-2.result.now c.self.inside.marks.items c.args.number c.in-Some.mark c.self.invariant there c.as_slice-2.ensures.value

pub go_back-requires-clause-stores : goal.go_back-requires-clause-stores
go_back-requires-clause-stores c =
    let there : slice_get c.self.inside.marks.items c.args.number ≡ Some c.in-Some.mark = search rules in
    are_back c.self.inside.pending c.self.inside.log.items c.as_slice-2.result.now c.self.inside.marks.items c.args.number c.in-Some.mark (with_contents c.self.inside.pending.stores c.in_ok-contents.contents.items) c.self.invariant there
    c.as_slice-2.ensures.value c.in_ok-contents.ensures

pub go_back-requires-clause-size : goal.go_back-requires-clause-size
go_back-requires-clause-size c =
    let there : slice_get c.self.inside.marks.items c.args.number ≡ Some c.in-Some.mark = search rules in
    size_back c.self.inside.pending c.self.inside.log.items c.as_slice-2.result.now c.self.inside.marks.items c.args.number c.in-Some.mark (with_contents c.self.inside.pending.stores c.in_ok-contents.contents.items) c.self.invariant there
    c.as_slice-2.ensures.value c.in_ok-contents.ensures

pub invariant_of-self : goal.invariant_of-self
invariant_of-self c =
    let there : slice_get c.self.inside.marks.items c.args.number ≡ Some c.in-Some.mark = search rules in
    let is : c.go_back.new.self ≡ saved_at c.self.inside.pending c.self.inside.log.items c.in-Some.mark =
    pending_back c.self.inside.pending c.go_back.new.self c.self.inside.log.items c.as_slice-2.result.now c.in-Some.mark (with_contents c.self.inside.pending.stores c.in_ok-contents.contents.items) c.as_slice-2.ensures.value c.in_ok-contents.ensures
    c.go_back.ensures.stores c.go_back.ensures.checks in
    marks_back c.self.inside.pending c.go_back.new.self c.self.inside.log.items c.truncate.new.self.items c.self.inside.marks.items c.truncate-2.new.self.items c.args.number c.in-Some.mark c.self.invariant there is c.truncate.ensures.items
    c.truncate-2.ensures.items

pub returns-clause-answer : goal.returns-clause-answer
returns-clause-answer c =
    let there : slice_get c.self.inside.marks.items c.args.number ≡ Some c.in-Some.mark = search rules in
    let is : c.go_back.new.self ≡ saved_at c.self.inside.pending c.self.inside.log.items c.in-Some.mark =
    pending_back c.self.inside.pending c.go_back.new.self c.self.inside.log.items c.as_slice-2.result.now c.in-Some.mark (with_contents c.self.inside.pending.stores c.in_ok-contents.contents.items) c.as_slice-2.ensures.value c.in_ok-contents.ensures
    c.go_back.ensures.stores c.go_back.ensures.checks in
    ap (λ (w : Waits). slice_get w.savepoints c.args.number) (sym c.self.view_is)
    ∙ saved_is c.self.inside.pending c.self.inside.log.items c.self.inside.marks.items c.args.number c.in-Some.mark there
    ∙ ap (λ (p : PendingChanges). Some p) (sym is)

pub returns-clause-ok : goal.returns-clause-ok
returns-clause-ok c =
    let there : slice_get c.self.inside.marks.items c.args.number ≡ Some c.in-Some.mark = search rules in
    let is : c.go_back.new.self ≡ saved_at c.self.inside.pending c.self.inside.log.items c.in-Some.mark =
    pending_back c.self.inside.pending c.go_back.new.self c.self.inside.log.items c.as_slice-2.result.now c.in-Some.mark (with_contents c.self.inside.pending.stores c.in_ok-contents.contents.items) c.as_slice-2.ensures.value c.in_ok-contents.ensures
    c.go_back.ensures.stores c.go_back.ensures.checks in
    saved_back c.self.inside.pending c.go_back.new.self c.self.inside.log.items c.truncate.new.self.items c.self.inside.marks.items c.truncate-2.new.self.items c.args.number c.in-Some.mark c.self.invariant there is c.truncate.ensures.items
    c.truncate-2.ensures.items
    ∙ ap (λ (w : Waits). take (c.args.number + 1) w.savepoints) c.self.view_is

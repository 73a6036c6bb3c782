-- One object of a level.
use Rattle.std.proofs.Common.{◌≡◌, Some, sym}
use Rattle.btree_family.specs.Classes.{class_seen}
use Rattle.tree_attempts.specs.Calls.{contents_of}
use Rattle.tree_attempts.specs.Known.{known_at}
use Rattle.tree_attempts.proofs.Looking.{level_opened, level_wanted, on_ok_more}
use Rattle.tree_attempts.proofs.ahead.open_at.Goals as goal

pub returns-in_ok-push-in-None-clause-met : goal.returns-in_ok-push-in-None-clause-met
returns-in_ok-push-in-None-clause-met c = λ objects root room agrees is within met ahead.
    level_wanted (contents_of objects) root c.args.span.now room c.args.oid c.args.below.now.items c.args.wanted.now c.push.new.self within met c.in_ok-push-in-None.ensures.ok ahead

pub returns-else-left-eq0-clause-met : goal.returns-else-left-eq0-clause-met
returns-else-left-eq0-clause-met c = λ objects root room agrees is within met ahead.
    let there : known_at c.args.known.now c.args.oid ≡ Some c.in-Some.seen.now = sym c.in-Some.ensures in
    on_ok_more _ _ c.open_object.result
    (λ more. level_opened c.args.known.now objects root (class_seen c.args.row.now) c.args.span.now room c.args.oid c.in-Some.seen.now c.args.below.now.items c.open_object.new.below.items c.args.wanted.now agrees is there met more ahead)
    c.open_object.ensures

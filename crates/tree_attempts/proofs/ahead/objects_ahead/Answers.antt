-- What a call is going to read is what it may read.
use Rattle.std.proofs.Common.{◌≡◌, ◌∙◌, Some, sym, subst}
use Rattle.std.specs.Prelude.{IfSome}
use Rattle.btree_family.specs.Classes.{class_seen}
use Rattle.btree_shapes.specs.Nodes.{class_held}
use Rattle.tree_attempts.specs.Ahead.{span_of}
use Rattle.tree_attempts.specs.Calls.{contents_of}
use Rattle.tree_attempts.proofs.Looking.{if_ok_more, may_read}
use Rattle.tree_attempts.proofs.ahead.objects_ahead.Goals as goal

pub returns-clause-read : goal.returns-clause-read
returns-clause-read c = λ objects agrees.
    let span : span_of c.args.operation.now ≡ Some c.in-Some.span = sym c.in_ok-span.ensures ∙ c.in-Some.is in
    let known : IfSome c.in_ok-row.field-0 (λ r. class_held (contents_of objects c.args.root) ≡ Some (class_seen r.now)) = c.in_ok-row.ensures objects agrees in
    let is : class_held (contents_of objects c.args.root) ≡ Some (class_seen c.in-Some-2.row.now) =
    subst (λ o. IfSome o (λ r. class_held (contents_of objects c.args.root) ≡ Some (class_seen r.now))) c.in-Some-2.is known in
    if_ok_more _ _ c.ahead_of.result (λ oids met. may_read (contents_of objects) c.args.root c.args.operation.now c.in-Some.span oids span met) (c.ahead_of.ensures.met objects agrees is)

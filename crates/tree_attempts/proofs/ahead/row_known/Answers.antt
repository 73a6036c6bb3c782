-- The class of the root, where it is known.
use Rattle.std.proofs.Common.{◌≡◌, Option, Some, sym, subst}
use Rattle.std.specs.Prelude.{IfOk, IfSome}
use Rattle.btree_family.specs.Classes.{Class, class_seen}
use Rattle.tree_attempts.specs.Known.{known_at}
use Rattle.tree_attempts.proofs.Looking.{class_of_known}
use Rattle.tree_attempts.proofs.ahead.row_known.Goals as goal

pub returns : goal.returns
returns c = λ objects agrees.
    let there : known_at c.args.known.now c.args.root ≡ Some c.in-Some.seen.now = sym c.in-Some.ensures in
    subst (λ (held : Option Class). IfOk c.row_seen.result (λ row. IfSome row (λ r. held ≡ Some (class_seen r.now)))) (sym (class_of_known c.args.known.now objects c.args.root c.in-Some.seen.now agrees there)) c.row_seen.ensures

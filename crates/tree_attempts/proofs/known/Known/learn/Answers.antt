-- One more object is known.
use Rattle.std.proofs.Common.{◌∙◌, ℕ, List, Option, Some, ap}
use Rattle.std.specs.Prelude.{if◌then◌else◌, nat_eq}
use Rattle.tree_attempts.specs.declared.known.Seen.{Seen}
use Rattle.tree_attempts.specs.Known.{known_at}
use Rattle.tree_attempts.proofs.known.Known.learn.Goals as goal

pub returns-clause-known : goal.returns-clause-known
returns-clause-known c = λ other.
    c.in_ok-insert.ensures.updates.0 other ∙ ap (λ (es : List (ℕ × Option Seen)). if nat_eq c.args.oid other then Some c.args.seen else known_at es other) c.self.view_is

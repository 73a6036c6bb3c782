use Rattle.std.proofs.Common.{◌≡◌, ℕ, ◌+◌, List, [], Some, sym, ap, subst, ◌∙◌}
use Rattle.std.proofs.lemmas.Option.{same_Some}
use Rattle.zb_ids.specs.HexLaws.{from_bind}
use Rattle.pickle_graph.specs.declared.node.Node.{Node}
use Rattle.pickle_writing.specs.declared.depth.TheConstants.{WALK_LIMIT}
use Rattle.pickle_graph.specs.Graph.{Graph}
use Rattle.literal_reading.specs.Exact.{graph_spelled, SpelledIsLiteral, LiteralIsSpelled}
use Rattle.zb_literals.specs.Graphs.{last_of, with_value}
use Rattle.literal_reading.specs.Literals.{IsLiteral}
use Rattle.literal_reading.specs.Reading.{literal_at}
use Rattle.literal_reading.proofs.AgainLaws.{literal_takes}
use Rattle.literal_reading.proofs.Results.{read_again}
use Rattle.literal_reading.proofs.exact.literals_are_exact.Goals as goal

abbrev graph_named : List Node → Graph
graph_named nodes = record { nodes = nodes; root = last_of nodes }

spelled : SpelledIsLiteral
unfolding graph_spelled
spelled bytes graph e =
    from_bind (literal_at (WALK_LIMIT + 1) bytes) _ graph e (λ nodes at is.
    let t = literal_takes (WALK_LIMIT + 1) bytes nodes at in
    record { tree = t.tree; each = t.is; text = t.text; stands = sym (same_Some (graph_named nodes) graph is) ∙ ap graph_named t.nodes_are })

literal : LiteralIsSpelled
unfolding graph_spelled
literal bytes graph h =
    rw (read_again bytes h.tree h.each h.text) (ap (λ (g : Graph). Some g) (sym h.stands))

pub returns-clause-spelled : goal.returns-clause-spelled
returns-clause-spelled c = spelled

pub returns-clause-literal : goal.returns-clause-literal
returns-clause-literal c = literal

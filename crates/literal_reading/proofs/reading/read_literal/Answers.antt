use Rattle.std.proofs.Common.{Some, ap}
use Rattle.std.proofs.lemmas.Result.{err_from_is_err_and}
use Rattle.pickle_graph.specs.Graph.{Graph}
use Rattle.literal_reading.proofs.Loops.{fails_some}
use Rattle.literal_reading.proofs.Results.{read_graph, read_literal_is, read_only, read_again, read_shallow}
use Rattle.literal_reading.proofs.reading.read_literal.Goals as goal

pub returns-in_err-nodes-clause-only : goal.returns-in_err-nodes-clause-only
returns-in_err-nodes-clause-only c tree each text =
    let p = err_from_is_err_and c.from_residual.result c.from_residual.ensures.1 in
    rw (p.1, p.2) (fails_some c.in_err-nodes.field-0.0 _ _ _ (read_again c.args.bytes.now tree each text) c.in_err-nodes.ensures)

pub new-requires : goal.new-requires
new-requires c = record { graph = read_graph 201 c.args.bytes.now c.in_ok-nodes.nodes c.in_ok-root.root c.in_ok-nodes.ensures c.in_ok-root.ensures.ok }

pub returns-clause-found : goal.returns-clause-found
returns-clause-found c = read_literal_is c.args.bytes.now c.new.result c.in_ok-nodes.nodes c.in_ok-root.root c.in_ok-nodes.ensures c.in_ok-root.ensures.ok c.new.ensures.nodes c.new.ensures.root

pub returns-clause-only : goal.returns-clause-only
returns-clause-only c tree each text = ap (λ (g : Graph). Some g) (read_only c.args.bytes.now c.new.result c.in_ok-nodes.nodes c.in_ok-root.root c.in_ok-nodes.ensures c.in_ok-root.ensures.ok c.new.ensures.nodes c.new.ensures.root tree each text)

pub returns-clause-shallow : goal.returns-clause-shallow
returns-clause-shallow c = read_shallow c.args.bytes.now c.new.result c.in_ok-nodes.nodes c.in_ok-root.root c.in_ok-nodes.ensures c.in_ok-root.ensures.ok c.new.ensures.nodes c.new.ensures.root

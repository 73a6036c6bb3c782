use Rattle.std.proofs.Common.{◌∙◌, sym, take, drop}
use Rattle.std.proofs.lemmas.List.{take-append-drop}
use Rattle.pack_reach.proofs.Growing.{on_err}
use Rattle.pack_reach.proofs.marker.Marker.mark_each.Goals as goal

pub returns-in_err-mark-clause-err : goal.returns-in_err-mark-clause-err
returns-in_err-mark-clause-err c =
    let oids = c.args.oids.now in
    on_err c.from_residual.result (take c.loop-oid.oid-index oids, drop c.loop-oid.oid-index oids, sym (take-append-drop c.loop-oid.oid-index oids), c.in_err-mark.ensures.err ∙ c.loop-oid.invariant)

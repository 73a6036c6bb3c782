use Rattle.std.proofs.Common.{drop}
use Rattle.zeo_client.proofs.Takings.{GivesWhole}
use Rattle.zeo_client.proofs.taking.take_all.Given as goal

abbrev pub invariant-loop-payload : goal.invariant-loop-payload
invariant-loop-payload l =
    GivesWhole l.number l.last l.payloads (drop l.payload-index l.payloads) (record { cache = l.fn.cache; standing = l.fn.standing }) (record { cache = l.cache; standing = l.standing }) l.messages

use Rattle.std.proofs.Common.{◌≡◌, ℕ, ap, arith}
use Rattle.zeo_client.specs.Taking.{ClientState}
use Rattle.zeo_client.proofs.Knowing.{piece_known}
use Rattle.zeo_client.proofs.client.ZeoClient.feed.Goals as goal

pub returns-clause-never_falls : goal.returns-clause-never_falls
returns-clause-never_falls c =
    let known = piece_known c.args.self.now c.args.piece.now c.take_piece-taken.result c.take_piece-taken.new.self c.take_piece-taken.ensures.taken in
    let same : c.self-2.inside.standing.known ≡ c.take_piece-taken.new.self.held.standing.known = ap (λ (s : ClientState). s.held.standing.known) c.self-2.view_is in
    omega (arith, known, same)

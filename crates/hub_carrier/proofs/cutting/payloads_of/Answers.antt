use Rattle.std.proofs.Common.{[], length, ap, sym, ◌∙◌, arith}
use Rattle.std.proofs.lemmas.Bool.{eqb-true}
use Rattle.zeo_frames.specs.Frames.{frames}
use Rattle.hub_carrier.proofs.Cuts.{its_payloads}
use Rattle.hub_carrier.proofs.cutting.payloads_of.Goals as goal

pub returns-clause-cut : goal.returns-clause-cut
returns-clause-cut c =
    let few = c.if-piece.false in
    its_payloads c.args.piece.now c.in-Ok.payloads c.feed.new.self (omega (arith, few)) (c.in-Ok.ensures.come [] [] c.new-frames.ensures.begun) c.in-Ok.ensures.ok
    (ap (λ ps. length (frames ps)) (sym c.as_slice.ensures) ∙ eqb-true _ _ (sym c.have_length.ensures ∙ c.if-not-have_length.false))

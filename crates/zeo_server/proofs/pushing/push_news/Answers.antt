use Rattle.std.proofs.Common.{◌≤◌, ◌∙◌, [], append-nil, arith, refl, subst}
use Rattle.hub_shared.specs.declared.heard.Heard.{Heard}
use Rattle.hub_shared.specs.Calls.{HasHeard}
use Rattle.zeo_server.proofs.Pieces.{more_pushed, nothing_pushed, piece_failed, prefix_trans}
use Rattle.zeo_server.proofs.pushing.push_news.Goals as goal

pub pushing-init : goal.pushing-init
pushing-init g c = record {
  can = tt;
  finite = tt;
  begins = ([], append-nil c.args.ear.seen);
  session = refl;
  counted = omega arith;
  pushed = λ told. nothing_pushed g.J.Origin.rules g.J.Origin.list c.args.ear (g.O.Sink.taken c.args.link_out.now);
}

pub returns-in-Err-clause-pushed : goal.returns-in-Err-clause-pushed
returns-in-Err-clause-pushed g c told =
    let heard = subst (λ (h : Heard). HasHeard g.J.Origin.rules g.J.Origin.list c.pushing.now c.hear-next.result.0 h) c.in-News.is (c.hear-next.ensures.heard told) in
    piece_failed g.J.Origin.rules g.J.Origin.list c.args.ear c.pushing.now c.hear-next.result.0 (g.O.Sink.taken c.args.link_out.now) (g.O.Sink.taken c.pushing.link_out)
    (g.O.Sink.taken c.push_piece.new.link_out) c.in-News.news c.in-News.front c.in-Err.end c.in-Err.ensures.ends (c.pushing.invariant.pushed told) c.hear-next.ensures.begins
    c.hear-next.ensures.session c.pushing.invariant.session heard c.in-Err.ensures.err

pub pushing-preserved : goal.pushing-preserved
pushing-preserved g c = record {
  can = tt;
  finite = tt;
  begins = prefix_trans c.args.ear.seen c.pushing.now.seen c.hear-next.result.0.seen c.pushing.invariant.begins c.hear-next.ensures.begins;
  session = c.hear-next.ensures.session ∙ c.pushing.invariant.session;
  counted = omega (arith, c.pushing.invariant.counted, c.push_piece.ensures.counted);
  pushed = λ told.
      let heard = subst (λ (h : Heard). HasHeard g.J.Origin.rules g.J.Origin.list c.pushing.now c.hear-next.result.0 h) c.in-News.is (c.hear-next.ensures.heard told) in
      more_pushed g.J.Origin.rules g.J.Origin.list c.args.ear c.pushing.now c.hear-next.result.0 (g.O.Sink.taken c.args.link_out.now) (g.O.Sink.taken c.pushing.link_out)
      (g.O.Sink.taken c.push_piece.new.link_out) c.in-News.news c.in-News.front (c.pushing.invariant.pushed told) c.hear-next.ensures.begins c.hear-next.ensures.session heard c.in_default.ensures.ok;
}

-- What a load is answered.
use Rattle.std.proofs.Common.{refl, ◌∙◌}
use Rattle.zodb_top.proofs.Asks.{last_is}
use Rattle.zodb_top.proofs.checking.content_below.Goals as goal

pub returns-clause-content : goal.returns-clause-content
returns-clause-content g c = λ told m stands at.
    c.content_in.ensures ∙ (last_is m.list m c.args.session c.args.oid c.args.front _ refl at (c.in_ok-reply.ensures.reply told m stands)).content

use Rattle.std.proofs.Common.{subst}
use Rattle.zodb_core.specs.declared.reply.Reply.{Reply}
use Rattle.zodb_core.specs.declared.request.Request.TheVariants as request
use Rattle.zodb_top.specs.Asking.{IsStepped}
use Rattle.zodb_top.proofs.Asks.{front_is}
use Rattle.zodb_top.proofs.asking.front.Goals as goal

pub returns-in-Front-clause-front : goal.returns-in-Front-clause-front
returns-in-Front-clause-front g c = λ told m stands.
    front_is m c.args.session c.in-Front.front c.in-Front.news c.in-Front.switches
    (subst (λ (r : Reply). IsStepped m c.args.session request.Front r) c.in-Front.is (c.in_ok-front.ensures.reply told m stands))

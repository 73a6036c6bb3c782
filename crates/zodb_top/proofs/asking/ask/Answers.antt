use Rattle.std.proofs.Common.{Some, None, rules, sym, ◌∙◌}
use Rattle.zodb_core.specs.HubState.{counts_of}
use Rattle.zodb_top.proofs.Asks.{failed_by, reading_calm, reading_keeps, stepped_so, unrefused_by, whole_by}
use Rattle.zodb_top.proofs.asking.ask.Goals as goal

pub returns-in-Some-clause-asks : goal.returns-in-Some-clause-asks
returns-in-Some-clause-asks g c = record {
  keeps = λ told m stands whole.
      reading_keeps m c.args.session c.args.request c.step-reply.result c.args.hub.now c.step-reply.new.self _ _ c.requires.reads (c.step-reply.ensures.step told m stands) c.step-reply.ensures.safe whole;
  failed = λ is.
      failed_by (counts_of c.args.hub.now.store) (counts_of c.step-reply.new.self.store) c.step-reply.result c.in-Some.error (sym c.refusal_in.ensures ∙ c.in-Some.is) c.step-reply.ensures.safe.cause cc;
  calm = λ other.
      reading_calm c.args.request c.step-reply.result (Some c.in-Some.error) _ _ c.requires.reads c.step-reply.ensures.unwritten c.step-reply.ensures.safe.cause (sym c.refusal_in.ensures ∙ c.in-Some.is) (λ is. other cc);
  others = whole_by c.args.request c.step-reply.result _ c.requires.reads c.step-reply.ensures.unwritten c.step-reply.ensures.safe.others;
  later = search rules;
}

pub returns-in-None-clause-asks : goal.returns-in-None-clause-asks
returns-in-None-clause-asks g c = record {
  keeps = λ told m stands whole.
      reading_keeps m c.args.session c.args.request c.step-reply.result c.args.hub.now c.step-reply.new.self _ _ c.requires.reads (c.step-reply.ensures.step told m stands) c.step-reply.ensures.safe whole;
  failed = λ is. absurd cc;
  calm = λ other.
      reading_calm c.args.request c.step-reply.result None _ _ c.requires.reads c.step-reply.ensures.unwritten c.step-reply.ensures.safe.cause (sym c.refusal_in.ensures ∙ c.in-None.is) (λ is. absurd cc);
  others = whole_by c.args.request c.step-reply.result _ c.requires.reads c.step-reply.ensures.unwritten c.step-reply.ensures.safe.others;
  later = search rules;
}

pub returns-in-None-clause-reply : goal.returns-in-None-clause-reply
returns-in-None-clause-reply g c = λ told m stands.
    stepped_so m c.args.session c.args.request c.step-reply.result c.args.hub.now c.step-reply.new.self _ _ (c.step-reply.ensures.step told m stands) (unrefused_by c.step-reply.result (sym c.refusal_in.ensures ∙ c.in-None.is))

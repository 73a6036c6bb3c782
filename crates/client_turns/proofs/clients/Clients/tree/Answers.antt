-- A line of a tree.
use Rattle.std.proofs.Common.{◌≡◌, ◌∙◌, List, ap, inr, refl, subst, sym}
use Rattle.std.specs.Prelude.{slice_get, slice_set}
use Rattle.zb_script.specs.declared.line.Line.TheVariants as line
use Rattle.zodb_core.specs.Outcomes.{NoMemory}
use Rattle.client_turns.specs.declared.member.Member.{Member}
use Rattle.client_turns.specs.Lines.{outcome_of_answer}
use Rattle.client_turns.specs.OverQuestions.{ReadsLinked}
use Rattle.client_turns.specs.Standing.{MayReadFor}
use Rattle.client_turns.proofs.Calling.{call_made, call_refused, call_starved, line_starved}
use Rattle.client_turns.proofs.Telling.{calm_linked, still_linked}
use Rattle.client_turns.proofs.clients.Clients.tree.Goals as goal

pub returns-in_default-clause-line : goal.returns-in_default-clause-line
returns-in_default-clause-line g c = λ told m stands may. line_starved m c.args.at (line.Tree c.args.root c.args.call.now) c.args.self.now _ stands

pub returns-in_default-clause-hub : goal.returns-in_default-clause-hub
returns-in_default-clause-hub g c = (still_linked (g.St.Store.told × MayReadFor c.args.self.now (g.C.Clock.stamps c.args.clock.now) c.args.at) g.St.Store.lasts g.St.Store.stands NoMemory (inr refl) c.args.self.now.hub).keeps

pub returns-in-Err-clause-line : goal.returns-in-Err-clause-line
returns-in-Err-clause-line g c = λ told m stands may.
    call_refused m c.args.at c.args.root c.args.call.now _ c.in-Err.why c.call.new.self _ c.in-Ok.ensures (c.in-Err.ensures.ends told m stands may)

pub returns-in-Err-clause-hub : goal.returns-in-Err-clause-hub
returns-in-Err-clause-hub g c = c.in-Err.ensures.hub.keeps

pub returns-in_default-stores_put-clause-line : goal.returns-in_default-stores_put-clause-line
returns-in_default-stores_put-clause-line g c = λ told m stands may. call_starved m c.args.at c.args.root c.args.call.now _ c.in-Ok-call.field-0 c.call.new.self _ c.in-Ok.ensures (c.in-Ok-call.ensures.ends told m stands may)

pub returns-in_default-stores_put-clause-hub : goal.returns-in_default-stores_put-clause-hub
returns-in_default-stores_put-clause-hub g c =
    (calm_linked (g.St.Store.told × MayReadFor c.args.self.now (g.C.Clock.stamps c.args.clock.now) c.args.at) g.St.Store.lasts g.St.Store.stands NoMemory (inr refl) c.args.self.now.hub c.call.new.self.hub c.in-Ok-call.ensures.hub).keeps

pub returns-clause-line : goal.returns-clause-line
returns-clause-line g c = λ told m stands may.
    call_made m c.args.at c.args.root c.args.call.now _ c.in-Ok-call.field-0 c.answer_told.result c.in-Ok-stores_put.stores c.put_all_at.result c.call.new.self (record { hub = c.self.inside.hub; clients = c.put_all_at.new.clients.items }) _ c.in-Ok.ensures
    c.answer_told.ensures.told c.in-Ok-stores_put.ensures.stores (c.in-Ok-call.ensures.ends told m stands may) (ap (λ s. s.hub) c.self.view_is)
    (λ x there.
    let put = c.put_all_at.ensures.put x (ap (λ s. slice_get s.clients c.args.at) c.self.view_is ∙ there) in
    (put.0, subst (λ (xs : List Member). c.put_all_at.new.clients.items ≡ slice_set xs c.args.at put.0) (ap (λ s. s.clients) c.self.view_is) put.1, put.2))

pub returns-clause-hub : goal.returns-clause-hub
returns-clause-hub g c =
    (subst (λ s. ReadsLinked (g.St.Store.told × MayReadFor c.args.self.now (g.C.Clock.stamps c.args.clock.now) c.args.at) g.St.Store.lasts g.St.Store.stands (outcome_of_answer c.put_all_at.result) c.args.self.now.hub s.hub) (sym c.self.view_is)
    (calm_linked (g.St.Store.told × MayReadFor c.args.self.now (g.C.Clock.stamps c.args.clock.now) c.args.at) g.St.Store.lasts g.St.Store.stands (outcome_of_answer c.put_all_at.result) c.put_all_at.ensures.calm c.args.self.now.hub c.call.new.self.hub c.in-Ok-call.ensures.hub)).keeps

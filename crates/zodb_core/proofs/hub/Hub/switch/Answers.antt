use Rattle.std.proofs.Common.{rules}
use Rattle.zodb_core.specs.HubState.{rules_of}
use Rattle.zodb_core.proofs.Switching.{moments_shown, moments_unpacked, pack_moments, switch_failed, switch_fails_safely, switch_made, switch_starved}
use Rattle.zodb_core.proofs.hub.Hub.switch.Goals as goal

-- ---- the step

pub returns-in_default-clause-step : goal.returns-in_default-clause-step
returns-in_default-clause-step g c = λ told m stands q packs stamps.
    let rules_now = rules_of g.R.Resolver.rules g.F.Refs.named c.args.self.now in
    switch_starved rules_now m c.args.session q c.args.tid c.args.keep.now c.args.self.now _ stamps stands (search rules) packs
    (search rules) (search rules) (search rules) (search rules) (search rules) (search rules) (search rules)

pub returns-in-Err-clause-step : goal.returns-in-Err-clause-step
returns-in-Err-clause-step g c = λ told m stands q packs stamps.
    let rules_now = rules_of g.R.Resolver.rules g.F.Refs.named c.args.self.now in
    rw c.fault_reply.ensures
    (switch_failed rules_now m c.args.session q c.args.tid c.args.keep.now c.in-Err.error c.args.self.now _ stamps stands (search rules) packs (search rules) (search rules) (λ fault. search (fault, rules))
    (search rules) (search (told, rules)) (search rules) (search rules) (search rules) (search rules) (search rules) (search rules))

pub returns-clause-step : goal.returns-clause-step
returns-clause-step g c = λ told m stands q packs stamps.
    let rules_now = rules_of g.R.Resolver.rules g.F.Refs.named c.args.self.now in
    switch_made rules_now m c.args.session q c.args.tid c.args.keep.now c.in-Ok-replace.packed c.args.self.now _ stamps stands (search rules) packs (search rules)
    (search rules) (search (told, rules)) (search (told, rules)) (search rules) (search rules) (search rules) (search rules) (search rules) (search rules)

-- ---- whatever the store tells

pub returns-in-Err-clause-safe : goal.returns-in-Err-clause-safe
returns-in-Err-clause-safe g c =
    rw c.fault_reply.ensures
    (switch_fails_safely c.in-Err.error c.args.self.now _ (search rules) (search rules) (search rules) (λ fault. search (fault, rules)) (search rules) (search rules) (search rules) (search rules))

-- ---- what a crash leaves

pub returns-in_default-clause-any_moment : goal.returns-in_default-clause-any_moment
returns-in_default-clause-any_moment g c = λ lasts told m stands q packs.
    let rules_now = rules_of g.R.Resolver.rules g.F.Refs.named c.args.self.now in
    let s = g.St.Store.state c.self.inside.store in
    moments_unpacked g.St.Store.stands rules_now m c.args.session q c.args.self.now s s.log stands (search rules) (search rules) (g.met.St.Store.lasting c.self.inside.store lasts (search rules)) (search rules)

pub returns-in-Err-clause-any_moment : goal.returns-in-Err-clause-any_moment
returns-in-Err-clause-any_moment g c = λ lasts told m stands q packs.
    let rules_now = rules_of g.R.Resolver.rules g.F.Refs.named c.args.self.now in
    let log = (g.St.Store.state c.replace.new.store).log in
    pack_moments g.St.Store.stands rules_now m c.args.session q c.args.tid c.args.keep.now c.args.self.now log stands (search rules) packs
    (moments_shown g.St.Store.stands c.args.tid c.args.keep.now c.args.self.now.store (g.St.Store.state c.self.inside.store) log (search rules) (c.replace.ensures.any_moment lasts told))

pub returns-clause-any_moment : goal.returns-clause-any_moment
returns-clause-any_moment g c = λ lasts told m stands q packs.
    let rules_now = rules_of g.R.Resolver.rules g.F.Refs.named c.args.self.now in
    let log = (g.St.Store.state c.replace.new.store).log in
    pack_moments g.St.Store.stands rules_now m c.args.session q c.args.tid c.args.keep.now c.args.self.now log stands (search rules) packs
    (moments_shown g.St.Store.stands c.args.tid c.args.keep.now c.args.self.now.store (g.St.Store.state c.self.inside.store) log (search rules) (c.replace.ensures.any_moment lasts told))

use Rattle.std.proofs.Common.{rules, ◌≡◌, ◌+◌, ◌-◌, map, drop, Some, ◌∙◌, ap, refl, subst}
use Rattle.std.specs.Prelude.{◌^◌, min}
use Rattle.zeo_serving_links.specs.declared.task.LinkDone.{LinkDone}
use Rattle.zeo_serving_links.specs.declared.task.LinkDone.TheVariants as link_done
use Rattle.zeo_serving_links.specs.Links.{IsHandedBack, faulty_one, opening_of}
use Rattle.zeo_serving_links.proofs.Steps.{takes_news, takes_session}
use Rattle.hub_shared.specs.Seats.{Known}
use Rattle.zeo_serving_links.proofs.feeding.LinkFeederFeeder.take_back.Goals as goal

pub returns-in-Some-clause-later : goal.returns-in-Some-clause-later
returns-in-Some-clause-later g c =
    let was : c.args.self.now.seen ≡ Some c.in-Some.seen = search rules in
    let back : IsHandedBack g.St.Store.told g.J.Origin.rules g.J.Origin.list g.J.Origin.counts c.requires.0 (link_done.Session c.in-Session.pass c.in-Session.end) =
    subst (λ (d : LinkDone Known). IsHandedBack g.St.Store.told g.J.Origin.rules g.J.Origin.list g.J.Origin.counts c.requires.0 d) c.in-Session.is c.requires.3 in
    let counted : c.saturating_add-self.result ≡ min (c.args.self.now.faulty + faulty_one c.in-Session.end) (2 ^ 64 - 1) = search rules in (
      refl,
      (
        refl,
        takes_session g.St.Store.told g.J.Origin.rules g.J.Origin.list g.J.Origin.counts c.args.self.now.count c.args.self.now.seen (Some c.leave.result) c.in-Some.seen c.leave.result
            (map (λ one. opening_of g.D.In.Source.left one.value) c.args.self.now.given.items) (map (λ one. opening_of g.D.In.Source.left one.value) c.forget_first.new.given.items) c.requires.0 c.requires.1 c.args.self.now.opened c.args.self.now.faulty
            c.saturating_add-self.result c.args.self.now.stop (g.D.Doors.told c.args.self.now.doors.now) (g.D.Doors.faults c.args.self.now.doors.now) c.in-Session.pass c.in-Session.end
            c.requires.2 back c.forget_first.ensures was refl c.leave.ensures.seen c.leave.ensures.pass counted,
      ),
    )

pub returns-in-News-clause-later : goal.returns-in-News-clause-later
returns-in-News-clause-later g c =
    let back : IsHandedBack g.St.Store.told g.J.Origin.rules g.J.Origin.list g.J.Origin.counts c.requires.0 (link_done.News c.in-News.end) =
    subst (λ (d : LinkDone Known). IsHandedBack g.St.Store.told g.J.Origin.rules g.J.Origin.list g.J.Origin.counts c.requires.0 d) c.in-News.is c.requires.3 in (
      refl,
      (
        refl,
        takes_news g.St.Store.told g.J.Origin.rules g.J.Origin.list g.J.Origin.counts c.args.self.now.count c.args.self.now.seen
            (map (λ one. opening_of g.D.In.Source.left one.value) c.args.self.now.given.items) (map (λ one. opening_of g.D.In.Source.left one.value) c.forget_first.new.given.items) c.requires.0 c.requires.1 c.args.self.now.opened c.args.self.now.faulty
            c.args.self.now.stop (g.D.Doors.told c.args.self.now.doors.now) (g.D.Doors.faults c.args.self.now.doors.now) c.in-News.end c.requires.2 back c.forget_first.ensures,
      ),
    )

use Rattle.std.proofs.Common.{rules, ◌≡◌, ◌++◌, ◌+◌, ◌<◌, ◌∷◌, [], Some, None, map, refl, sym, ap, subst, arith}
use Rattle.std.specs.Prelude.{IfErr, IfOk}
use mathlib.Core.List.{IsPrefix}
use Rattle.zb_links.specs.Told.{Gives}
use Rattle.zeo_serving_links.specs.Feeding.{IsOfLink, IsUnopened, seen_in}
use Rattle.zeo_serving_links.specs.FeedingLaws.{begins_self}
use Rattle.zeo_serving_links.specs.Links.{opening_of}
use Rattle.zeo_serving_links.proofs.Steps.{gives_news, gives_session, stops_memory, stops_unopened}
use Rattle.zeo_serving_links.proofs.feeding.LinkFeederFeeder.next.Goals as goal

pub returns-in_default-note-clause-later : goal.returns-in_default-note-clause-later
returns-in_default-note-clause-later g c =
    let on : c.args.self.now.stop ≡ None = search rules in
    let same : c.note.new.given.items ≡ c.args.self.now.given.items = search rules in (
      refl,
      (
        refl,
        stops_memory g.St.Store.told g.J.Origin.rules g.J.Origin.list g.J.Origin.counts c.args.self.now.count c.args.self.now.seen c.args.self.now.seen
            (map (λ one. opening_of g.D.In.Source.left one.value) c.args.self.now.given.items) (map (λ one. opening_of g.D.In.Source.left one.value) c.note.new.given.items) c.args.self.now.opened c.args.self.now.faulty c.args.self.now.stop
            (g.D.Doors.told c.args.self.now.doors.now) (g.D.Doors.told c.args.self.now.doors.now) (g.D.Doors.faults c.args.self.now.doors.now) (g.D.Doors.faults c.args.self.now.doors.now)
            on (ap (λ xs. map (λ one. opening_of g.D.In.Source.left one.value) xs) same) (begins_self (seen_in c.args.self.now.seen)) (omega arith),
      ),
    )

pub returns-in-Some-clause-later : goal.returns-in-Some-clause-later
returns-in-Some-clause-later g c =
    let none : c.news_work-work.result ≡ None = search rules in
    let more : map (λ one. opening_of g.D.In.Source.left one.value) c.note.new.given.items ≡ map (λ one. opening_of g.D.In.Source.left one.value) c.args.self.now.given.items ++ c.news_work-work.result ∷ [] = search rules in (
      refl,
      (
        refl,
        gives_news g.St.Store.told g.J.Origin.rules g.J.Origin.list g.J.Origin.counts c.args.self.now.count c.args.self.now.seen
            (map (λ one. opening_of g.D.In.Source.left one.value) c.args.self.now.given.items) (map (λ one. opening_of g.D.In.Source.left one.value) c.note.new.given.items) c.news_work-work.result c.args.self.now.opened c.args.self.now.faulty c.args.self.now.stop
            (g.D.Doors.told c.args.self.now.doors.now) (g.D.Doors.faults c.args.self.now.doors.now) none more,
      ),
    )

pub returns-in-Err-clause-later : goal.returns-in-Err-clause-later
returns-in-Err-clause-later g c =
    let on : c.args.self.now.stop ≡ None = search rules in
    let was : c.args.self.now.seen ≡ Some c.in-Some-take.seen = search rules in
    let begins = subst (λ o. IsPrefix (seen_in o) (seen_in (Some c.open_link-seen.result.0))) (sym was) c.open_link-seen.ensures.begins in
    let why = subst (λ r. IfErr r (λ end. IsUnopened end c.open_link-seen.result.0)) c.in-Err.is c.open_link-seen.ensures.err in (
      refl,
      (
        refl,
        stops_unopened g.St.Store.told g.J.Origin.rules g.J.Origin.list g.J.Origin.counts c.args.self.now.count c.in-Err.end c.args.self.now.seen (Some c.open_link-seen.result.0)
            (map (λ one. opening_of g.D.In.Source.left one.value) c.args.self.now.given.items) c.args.self.now.opened c.args.self.now.faulty c.args.self.now.stop (Some c.in-Err.end)
            (g.D.Doors.told c.args.self.now.doors.now) (g.D.Doors.told c.accept.new.self) (g.D.Doors.faults c.args.self.now.doors.now) (g.D.Doors.faults c.accept.new.self)
            on refl begins c.accept.ensures.cause.later why,
      ),
    )

pub returns-in_default-note-2-clause-later : goal.returns-in_default-note-2-clause-later
returns-in_default-note-2-clause-later g c =
    let on : c.args.self.now.stop ≡ None = search rules in
    let was : c.args.self.now.seen ≡ Some c.in-Some-take.seen = search rules in
    let begins = subst (λ o. IsPrefix (seen_in o) (seen_in (Some c.open_link-seen.result.0))) (sym was) c.open_link-seen.ensures.begins in
    let same : c.note-2.new.given.items ≡ c.args.self.now.given.items = search rules in (
      refl,
      (
        refl,
        stops_memory g.St.Store.told g.J.Origin.rules g.J.Origin.list g.J.Origin.counts c.args.self.now.count c.args.self.now.seen (Some c.open_link-seen.result.0)
            (map (λ one. opening_of g.D.In.Source.left one.value) c.args.self.now.given.items) (map (λ one. opening_of g.D.In.Source.left one.value) c.note-2.new.given.items) c.args.self.now.opened c.args.self.now.faulty c.args.self.now.stop
            (g.D.Doors.told c.args.self.now.doors.now) (g.D.Doors.told c.accept.new.self) (g.D.Doors.faults c.args.self.now.doors.now) (g.D.Doors.faults c.accept.new.self)
            on (ap (λ xs. map (λ one. opening_of g.D.In.Source.left one.value) xs) same) begins c.accept.ensures.cause.later,
      ),
    )

pub returns-clause-later : goal.returns-clause-later
returns-clause-later g c =
    let on : c.args.self.now.stop ≡ None = search rules in
    let was : c.args.self.now.seen ≡ Some c.in-Some-take.seen = search rules in
    let begins = subst (λ o. IsPrefix (seen_in o) (seen_in (Some c.open_link-seen.result.0))) (sym was) c.open_link-seen.ensures.begins in
    let link = subst (λ r. IfOk r (λ link. IsOfLink c.args.self.now.opened (g.D.In.Source.left c.in-Ok.link_in) link.0)) c.in-Ok-opened.is c.open_link-seen.ensures.ok in
    let gives : Gives (g.D.Doors.told c.args.self.now.doors.now) (g.D.Doors.told c.accept.new.self) (g.D.In.Source.left c.in-Ok.link_in) = search rules in
    let more : map (λ one. opening_of g.D.In.Source.left one.value) c.note-2.new.given.items ≡ map (λ one. opening_of g.D.In.Source.left one.value) c.args.self.now.given.items ++ c.in-Ok-opened.both.0 ∷ [] = search rules in
    let room : c.args.self.now.opened < c.args.self.now.count = search rules in (
      refl,
      (
        refl,
        gives_session g.St.Store.told g.J.Origin.rules g.J.Origin.list g.J.Origin.counts c.args.self.now.count c.args.self.now.seen (Some c.open_link-seen.result.0)
            (map (λ one. opening_of g.D.In.Source.left one.value) c.args.self.now.given.items) (map (λ one. opening_of g.D.In.Source.left one.value) c.note-2.new.given.items) c.in-Ok-opened.both.0 (g.D.In.Source.left c.in-Ok.link_in)
            c.args.self.now.opened (c.args.self.now.opened + 1) c.args.self.now.faulty c.args.self.now.stop
            (g.D.Doors.told c.args.self.now.doors.now) (g.D.Doors.told c.accept.new.self) (g.D.Doors.faults c.args.self.now.doors.now) (g.D.Doors.faults c.accept.new.self)
            on begins link gives more refl room c.accept.ensures.cause.later,
      ),
    )

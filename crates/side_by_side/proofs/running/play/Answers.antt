use Rattle.std.proofs.Common.{◌≡◌, List, Option, ap, refl, sym, subst, ◌∙◌}
use Rattle.zb_ids.specs.declared.stamp.Stamp.{Stamp}
use Rattle.side_by_side.specs.Plays.{IsPlay, IsPlayed, play_start, play_state}
use Rattle.side_by_side.proofs.Ends.{ends, reached_keeps}
use Rattle.side_by_side.proofs.running.play.Goals as goal

pub returns : goal.returns
returns g c =
    let St = g.St.Store in
    let C = g.C.Clock in
    let begun = c.new-begun.result in
    let over = c.play-over.result in
    let parts = c.into_parts-store.result in
    let b = play_start (St.state c.args.store) (C.stamps c.args.clock.now) c.args.lines.items in
    let place : over.clock.ghost_name ≡ begun.clock.ghost_name =
    reached_keeps begun over c.play-over.ensures.reached (λ s. s.clock.ghost_name ≡ begun.clock.ghost_name) refl (λ r s n t took kept. took.0 ∙ kept) in
    let is = reached_keeps begun over c.play-over.ensures.reached
    (λ s. IsPlay St.told St.lasts St.stands b (play_state s.clients (C.stamps s.clock.now) s.lines.items s.taken.items s.ended))
    c.new-begun.ensures.play (λ r s n t took kept. took.1 b kept) in
    let done : IsPlayed St.told St.lasts St.stands b (St.state parts.0) (C.stamps over.clock.now) over.taken.items over.ended =
    ends St.told St.lasts St.stands b over.clients (C.stamps over.clock.now) over.lines.items over.taken.items over.ended (St.state parts.0) c.into_parts-store.ensures.store is c.play-over.ensures.over in
    let stamps = ap C.stamps (c.clock-1.given.1 (sym (c.into_parts-store.ensures.place ∙ place ∙ c.new-begun.ensures.place)) ∙ c.into_parts-store.ensures.clock) in
    subst (λ (ss : Option (List Stamp)). IsPlayed St.told St.lasts St.stands b (St.state parts.0) ss parts.1.items parts.2) (sym stamps)
    (rw (c.into_parts-store.ensures.taken, c.into_parts-store.ensures.ended) done)

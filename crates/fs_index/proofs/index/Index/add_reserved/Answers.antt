use Rattle.std.proofs.Common.{All, ap, subst, sym, arith}
use Rattle.fs_index.specs.Places.{Kept, IsBefore, StandBehind}
use Rattle.fs_index.proofs.Adding.{pushed}
use Rattle.fs_index.proofs.Rising.{sound_with}
use Rattle.fs_index.proofs.index.Index.add_reserved.Goals as goal

pub invariant_of-self : goal.invariant_of-self
invariant_of-self c =
    let room = ap (λ (k : Kept). k.transactions_room) c.self.view_is in
    let ok = c.push.ensures.succeeds (omega (arith, room, c.requires.room.transaction)) in
    sound_with c.self.inside.objects.entries c.keep_each.new.objects.entries c.self.inside.transactions.items c.push.new.self.items c.args.start c.args.placed.now c.self.invariant
    (subst (λ (k : Kept). All (IsBefore c.args.start.serial c.args.start.at) k.transactions) (sym c.self.view_is) c.requires.start) (pushed c.push.result c.self.inside.transactions.items c.push.new.self.items c.args.start ok c.push.ensures.items)
    c.requires.distinct (subst (λ (k : Kept). StandBehind k.entries c.args.placed.now) (sym c.self.view_is) c.requires.behind) c.keep_each.ensures

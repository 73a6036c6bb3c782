use Rattle.std.proofs.Common.{List, sym, subst}
use Rattle.fs_index.specs.declared.place.Place.{Place}
use Rattle.fs_index.specs.Places.{IsRising}
use Rattle.fs_index.proofs.index.Index.places.Goals as goal

pub returns-clause-rising : goal.returns-clause-rising
returns-clause-rising c = subst (λ (ps : List Place). IsRising ps) (sym c.places.ensures) (c.self.invariant.objects c.args.oid)

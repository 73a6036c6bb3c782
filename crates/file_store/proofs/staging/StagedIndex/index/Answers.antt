use Rattle.std.proofs.Common.{◌<◌, ◌-◌, ◌^◌, arith}
use Rattle.std.proofs.lemmas.List.Elements.{All-weaker}
use Rattle.fs_index.specs.declared.place.Place.{Place}
use Rattle.fs_index.specs.Places.{IsBefore}
use Rattle.file_store.proofs.staging.StagedIndex.index.Goals as goal

pub returns-clause-bound : goal.returns-clause-bound
returns-clause-bound c =
    All-weaker (IsBefore c.self.inside.newest c.self.inside.end) (λ (p : Place). p.serial < 2 ^ 64 - 1) (λ p before. omega (arith, before.0, c.self.invariant.bound)) c.self.inside.index.transactions c.self.invariant.up_to.transactions

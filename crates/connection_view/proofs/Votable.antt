-- What waits may be voted on.
use Rattle.zb_model.specs.declared.pending.PendingStore.{PendingStore}
use Rattle.std.proofs.Common.{List}
use Rattle.commit_phases.specs.Pending.{AreStores}
use Rattle.connection_view.specs.Loading.{AreVotable}

pub votable : (stores : List PendingStore) → AreStores stores → AreVotable stores
votable stores are = record { distinct = are.distinct; filled = are.filled; short = are.short; within = are.within }

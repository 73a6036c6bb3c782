use Rattle.std.proofs.Common.{sym}
use Rattle.mapping_store.proofs.Votes.{made_database}
use Rattle.mapping_store.proofs.mapping.MappingStoreStore.vote.Goals as goal

pub invariant_of-self-2-clause-voted_database : goal.invariant_of-self-2-clause-voted_database
invariant_of-self-2-clause-voted_database c = λ voted some. made_database c.args.self.now.items.items c.reserve.new.self.items c.args.new.now c.in_ok-voted.voted voted c.reserve.ensures.items (rw (sym c.as_slice.ensures.value) c.in_ok-voted.ensures) some c.args.self.now.database c.requires.well_formed (c.requires.votable tt)

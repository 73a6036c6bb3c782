-- The list with what was made of a new transaction.
use Rattle.std.proofs.Common.{◌≡◌, List, [], ◌∷◌, ◌++◌, Some, arith}
use Rattle.zb_model.specs.declared.data.Transaction.{Transaction}
use Rattle.zb_model.specs.declared.new_transaction.NewTransaction.{NewTransaction}
use Rattle.zb_model.specs.Database.{IsDatabase}
use Rattle.zb_model.specs.Voting.{IsWellFormed, IsVotable, voted_of}
use Rattle.zb_model.specs.VotingLaws.{newest-push, voted_database}

pub made_database : (list now : List Transaction) (new : NewTransaction) (made voted : Transaction) → now ≡ list → made ≡ voted_of list new → Some made ≡ Some voted → IsDatabase list → IsWellFormed new → IsVotable list new → IsDatabase (now ++ voted ∷ [])
made_database list now new made voted same is some database formed votable =
    let v : voted ≡ voted_of list new = grind (arith, some, is) in
    rw same (rw v (voted_database list new database formed votable))

-- the newest with what is put behind the list
pub ruleset pushed = (newest-push)

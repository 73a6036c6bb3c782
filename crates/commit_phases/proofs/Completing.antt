-- A vote of which all may go in is refused for a failure alone.
use Rattle.std.proofs.Common.{◌≡◌, List, Option, Some, None, Result, Ok, Err}
use Rattle.zb_model.specs.declared.data.Change.{Change}
use Rattle.zb_model.specs.declared.refusal.Refusal.{Refusal}
use Rattle.commit_phases.specs.declared.errors.VoteRefusal.{VoteRefusal}
use Rattle.commit_phases.specs.declared.errors.VoteRefusal.TheVariants as vote_refusal
use Rattle.commit_phases.specs.Voted.{IsFailedCheck, IsFailure, IsVoteRefusal}

pub not_refused : (decided : Result (List Change) Refusal) (changes : List Change) (r : Refusal) → decided ≡ Ok changes → decided ≡ Err r → ⊥
not_refused decided changes r goes refused = cc

-- what goes in isn't refused
pub fails_alone : (decided : Result (List Change) Refusal) (changes : List Change) (why : VoteRefusal) → decided ≡ Ok changes → IsVoteRefusal decided why → IsFailure why
fails_alone decided changes (vote_refusal.Conflict oid base current reason) goes is = not_refused decided changes _ goes is
fails_alone decided changes (vote_refusal.NothingToDelete oid current) goes is = not_refused decided changes _ goes is
fails_alone decided changes (vote_refusal.ReadConflict oid base current) goes is = not_refused decided changes _ goes is
fails_alone decided changes (vote_refusal.TooLong n) goes is = not_refused decided changes _ goes is
fails_alone decided changes vote_refusal.ReadFault goes is = tt
fails_alone decided changes vote_refusal.Memory goes is = tt

none_failed : (failed : Option Refusal) (r : Refusal) → failed ≡ None → failed ≡ Some r → ⊥
none_failed failed r none some = cc

-- nor does a check that holds refuse
pub holds_alone : (failed : Option Refusal) (why : VoteRefusal) → failed ≡ None → IsFailedCheck failed why → IsFailure why
holds_alone failed (vote_refusal.Conflict oid base current reason) none is = is
holds_alone failed (vote_refusal.NothingToDelete oid current) none is = is
holds_alone failed (vote_refusal.ReadConflict oid base current) none is = none_failed failed _ none is
holds_alone failed (vote_refusal.TooLong n) none is = is
holds_alone failed vote_refusal.ReadFault none is = tt
holds_alone failed vote_refusal.Memory none is = tt

-- When a session waits for the vote. Own.
use Rattle.std.specs.Prelude.{ℕ, Option, Bool, false, not, ◌==◌}
use Rattle.std.specs.Option.{option_map_or}
use Rattle.zodb_core.specs.declared.request.Request.{Request}
use Rattle.zodb_core.specs.declared.request.Request.TheVariants as request
use Rattle.zodb_core.specs.declared.vote.HubVote.{HubVote}
use Rattle.std.specs.Prelude.{true}

-- the vote is held, and not by this session
abbrev pub is_held_by_another : ℕ → Option HubVote → Bool
is_held_by_another n vote = option_map_or (λ v. not (v.session == n)) vote false

-- a request that needs the vote
abbrev pub needs_vote : Request → Bool
needs_vote (request.Vote user description extension pending) = true
needs_vote (request.Undo user description tids) = true
needs_vote _ = false

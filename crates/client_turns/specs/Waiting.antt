-- Which turns wait for the vote of another session. Own.
use Rattle.std.specs.Prelude.{◌≡◌, List, Option, Ok, Bool, true, false, ◌&&◌}
use Rattle.std.specs.Option.{option_map_or}
use Rattle.zb_answers.specs.declared.answer.Answer.{Answer}
use Rattle.zb_answers.specs.declared.answer.Answer.TheVariants as answer
use Rattle.zb_ids.specs.declared.stamp.Stamp.{Stamp}
use Rattle.zb_model.specs.declared.refusal.Refusal.TheVariants as refusal
use Rattle.zb_script.specs.declared.line.Line.{Line}
use Rattle.zb_script.specs.declared.line.Line.TheVariants as line
use Rattle.zb_script.specs.declared.line.Turn.{Turn}
use Rattle.zodb_core.specs.Waiting.{is_held_by_another}
use Rattle.zodb_core.specs.Machine.{Rules}
use Rattle.client_turns.specs.Clients.{Moment}
use Rattle.client_turns.specs.Members.{session_of}
use Rattle.client_turns.specs.Standing.{ClientsState, StandsForMoment, kept_named}
use Rattle.client_turns.specs.Turns.{IsTurn}

-- a line that needs the vote
abbrev pub waits_for_vote : Line → Bool
waits_for_vote (line.Vote user description) = true
waits_for_vote (line.Undo user description tids) = true
waits_for_vote _ = false

-- a turn whose line needs the vote while a session holds it that isn't its client's
abbrev pub is_held_up : {R F : Type 0} → ClientsState R F → Turn → Bool
is_held_up seen t = waits_for_vote t.line && option_map_or (λ x. is_held_by_another (session_of x) seen.hub.vote) (kept_named t.client seen.clients) false

-- an answer says that another session holds the vote
abbrev pub is_busy : Answer → Bool
is_busy (answer.Refused (refusal.Busy holder)) = true
is_busy _ = false

-- a line that needs the vote isn't answered so
abbrev pub IsServed : Line → Answer → Type 0
IsServed l a = waits_for_vote l ≡ true → is_busy a ≡ false

-- the law that no turn is, that isn't held up: of clients whose store is whole, at each moment that they stand for
abbrev pub FreeTurnsAreServed : {R F : Type 0} → ClientsState R F → Type 0
FreeTurnsAreServed seen = (rules : Rules) (left : Option (List Stamp)) (m : Moment) (t : Turn) (last : Bool) (a : Answer) (now : Moment)
    → StandsForMoment seen left m → is_held_up seen t ≡ false → IsTurn rules m t last (Ok a) now → IsServed t.line a

-- Of the counts of faults behind turns, over the file.
use Rattle.std.proofs.Common.{◌≡◌, ℕ, false, List, [], ◌∷◌, Option, Some, None, refl, ap, subst, ◌∙◌}
use Rattle.fs_recovery.specs.declared.errors.OpenError.{OpenError}
use Rattle.fs_recovery.specs.declared.errors.OpenError.TheVariants as open_error
use Rattle.zodb_core.specs.Outcomes.{FaultCounts}
use Rattle.client_turns.specs.declared.errors.TurnError.{TurnError}
use Rattle.client_turns.specs.declared.errors.TurnError.TheVariants as turn_error
use Rattle.client_turns.specs.Clients.{Moment}
use Rattle.client_turns.specs.CountLaws.{broken_calm, out_calm, out_others}
use Rattle.client_turns.specs.Output.{FlaggedTurn, has_read_fault}
use Rattle.side_by_side.specs.Runs.{stock}
use Rattle.script_runs.specs.Came.{BreaksOff, Came}
use Rattle.zodb_top.specs.Came.{CountsLeft}
use Rattle.zodb_top.specs.Outside.{Outside}
use Rattle.script_runs.specs.declared.status.Status.{Status}
use Rattle.script_runs.specs.declared.status.Status.TheVariants as status
use Rattle.zodb_top.specs.Unopened.{NamesError, SaysUnopened}

-- ---- counts

broken_off : (behind : Moment) (later : List FlaggedTurn) (now : Moment) → BreaksOff behind later (Some turn_error.Memory) now → now.counts ≡ behind.counts
broken_off behind [] now ends = absurd ends
broken_off behind (t ∷ later) now ends = broken_calm stock behind now t.turn t.is_last ends

came_left : (m : Moment) (turns : List FlaggedTurn) (broke : Option TurnError) (now : Moment) (c : Came m turns broke now) → now.counts ≡ c.behind.counts → (before after : Outside) → after.read_faults ≡ now.counts.reads → after.write_faults ≡ now.counts.others
    → m.counts ≡ record { reads = before.read_faults; others = before.write_faults } → (after.write_faults ≡ before.write_faults) × (has_read_fault c.answers ≡ false → after.read_faults ≡ before.read_faults)
came_left m turns broke now c ends before after reads others first = (
  others ∙ ap (λ (k : FaultCounts). k.others) ends ∙ out_others stock m c.taken c.answers c.behind c.answered ∙ ap (λ (k : FaultCounts). k.others) first,
  λ fine. reads ∙ ap (λ (k : FaultCounts). k.reads) (ends ∙ out_calm stock m c.taken c.answers c.behind c.answered fine ∙ first),
)

pub counts_left : (m : Moment) (turns : List FlaggedTurn) (broke : Option TurnError) (now : Moment) (c : Came m turns broke now) (before after : Outside) → after.read_faults ≡ now.counts.reads → after.write_faults ≡ now.counts.others
    → m.counts ≡ record { reads = before.read_faults; others = before.write_faults } → CountsLeft broke c.answers before after
counts_left m turns None now c before after reads others first = came_left m turns None now c (ap (λ (x : Moment). x.counts) c.ends) before after reads others first
counts_left m turns (Some turn_error.Memory) now c before after reads others first = came_left m turns (Some turn_error.Memory) now c (broken_off c.behind c.later now c.ends) before after reads others first
counts_left m turns (Some turn_error.StoreFault) now c before after reads others first = tt

pub unopened_other : (s : Status) (e : OpenError) (old new : Option (List ℕ)) (before now : ℕ) → SaysUnopened s e old new before now → ¬ (s ≡ status.StoreFault) → ¬ (e ≡ open_error.StoreFault)
unopened_other status.StoreFault e old new before now said other = absurd (other refl)
unopened_other status.Damaged e old new before now said other = λ is. subst (λ (x : OpenError). NamesError x said.0) is said.1
unopened_other status.NoMemory e old new before now said other = said.0
unopened_other _ e old new before now said other = absurd said

-- Steps, reads and changes at a moment, of which turns are made. Source: connections of ZODB.
use Rattle.std.specs.Prelude.{◌≡◌, ℕ, List, Result, Bool}
use Rattle.zb_model.specs.declared.refusal.Refusal.{Refusal}
use Rattle.zb_answers.specs.declared.answer.Answer.{Answer}
use Rattle.zb_answers.specs.declared.answer.Answer.TheVariants as answer
use Rattle.zodb_core.specs.declared.reply.Reply.{Reply}
use Rattle.zodb_core.specs.declared.request.Request.{Request}
use Rattle.zodb_core.specs.HubState.{HasTicked}
use Rattle.zodb_core.specs.Machine.{Rules}
use Rattle.zodb_core.specs.Outcomes.{AreLaterCounts, IsStepMade, outcome_of}
use Rattle.client_turns.specs.Clients.{Client, Moment, OpenTransaction, with_client}
use Rattle.client_turns.specs.Lines.{Changed, IsCountedBy, outcome_of_read, with_changes}
use Rattle.client_turns.specs.Reads.{EndsReading}

-- A step of session n leads from one moment to another. Only the machine, the clock, where it was read, and the counts have changed, and these as the reply says: a
-- count rose where something failed, and else none has moved.
pub record IsStepAt (rules : Rules) (m : Moment) (n : ℕ) (q : Request) (r : Reply) (now : Moment) : Type 0 where
  pub stamp : ℕ
  pub ticks : Bool
  pub made : IsStepMade rules m.machine n q stamp (record { reply = r; machine = now.machine; ticks = ticks }) m.counts now.counts
  pub counts : IsCountedBy m.counts now.counts (outcome_of r)
  pub clock : HasTicked ticks stamp m.stamps now.stamps
  pub clients : now.clients ≡ m.clients

-- A read of an object in a transaction's view leads from one moment to another, where just the counts may have risen, and that of failed reads alone where it says so.
pub record IsReadAt (m : Moment) (t : OpenTransaction) (oid : ℕ) (result : Result (ℕ × List ℕ) Refusal) (now : Moment) : Type 0 where
  pub later : AreLaterCounts m.counts now.counts
  pub ends : EndsReading t.framed m.machine t.view oid m.counts now.counts result
  pub counts : IsCountedBy m.counts now.counts (outcome_of_read result)
  pub rest : now ≡ record m { counts = now.counts }

-- a refusal leaves all as it is
abbrev pub IsRefusedAt : Moment → Refusal → Answer → Moment → Type 0
IsRefusedAt m why a now = (a ≡ answer.Refused why) × (now ≡ m)

-- a line that gives the client's transaction these changes, with nothing else done
abbrev pub IsChange : Moment → ℕ → Client → OpenTransaction → Changed → Answer → Moment → Type 0
IsChange m at c t w a now = (a ≡ w.answer) × (now ≡ with_client m at (with_changes c t w.changes))

-- A vote that nothing stands against is voted.
use Rattle.std.proofs.Common.{◌≡◌, ℕ, ◌+◌, ◌-◌, ◌<◌, ◌≤◌, ◌^◌, Bool, true, not, cond, List, [], ◌∷◌, length, map, Option, Some, None, Result, Ok, refl, ap, ◌∙◌, arith}
use Rattle.std.specs.Option.{option_or}
use Rattle.std.proofs.lemmas.Bool.{le-ltb, lt-ltb}
use Rattle.std.proofs.lemmas.List.{length-map}
use Rattle.zb_ids.specs.Tids.{tid_after}
use Rattle.zb_model.specs.declared.data.Change.{Change}
use Rattle.zb_model.specs.declared.refusal.Refusal.{Refusal}
use Rattle.zb_model.specs.declared.refusal.Refusal.TheVariants as refusal
use Rattle.zb_model.specs.Database.{newest_tid}
use Rattle.commit_phases.specs.Pending.{PendingChanges}
use Rattle.commit_phases.specs.ReadyLaws.{change_as_is, goes_in_as_is}
use Rattle.zodb_core.specs.declared.reply.Reply.TheVariants as reply
use Rattle.zodb_core.specs.declared.request.Request.TheVariants as request
use Rattle.zodb_core.specs.declared.texts.Texts.{Texts}
use Rattle.zodb_core.specs.Laws.{CurrentVotesAreVoted, IsCurrentVote, IsVotedUnlessFailed}
use Rattle.zodb_core.specs.Machine.{Machine, MachineVote, Rules, is_open_in}
use Rattle.zodb_core.specs.Outcomes.{Answered, EndsFor, NoMemory, ReadingFailed, StepOutcome, StoreFailed, outcome_of}
use Rattle.zodb_core.specs.Steps.{Stepped, changes_in_journal, journal_limit, refuse_if, replied_refusal, request_step, step_of, transaction_with, unless_early, vote_at, vote_counted, vote_refusal, vote_step, with_vote}

counted_voted : (m : Machine) (n : ℕ) (texts : Texts) (changes : List Change) (stamp count : ℕ) → count ≤ journal_limit → tid_after (newest_tid m.list) stamp < 2 ^ 64 - 1
    → (vote_counted m n texts changes stamp count).reply ≡ reply.Voted
counted_voted m n texts changes stamp count room left =
    let tid : ℕ = tid_after (newest_tid m.list) stamp in
    let held : Stepped = record { reply = reply.Voted; machine = with_vote m n (Some (transaction_with tid texts changes)); ticks = true } in
    let spent : Stepped = record { reply = reply.Refused refusal.TidsSpent; machine = m; ticks = true } in
    ap (λ (b : Bool). (cond b (replied_refusal m (refusal.JournalFull count)) (vote_at m n texts changes tid)).reply) (le-ltb journal_limit count room)
    ∙ ap (λ (b : Bool). (cond b held spent).reply) (lt-ltb tid (2 ^ 64 - 1) left)

changes_voted : (m : Machine) (n : ℕ) (texts : Texts) (changes : List Change) (stamp : ℕ) → changes_in_journal m.journal + length changes ≤ journal_limit → tid_after (newest_tid m.list) stamp < 2 ^ 64 - 1
    → (vote_step m n texts stamp (Ok changes)).reply ≡ reply.Voted
changes_voted m n texts [] stamp room left = refl
changes_voted m n texts (c ∷ changes) stamp room left = counted_voted m n texts (c ∷ changes) stamp (changes_in_journal m.journal + length (c ∷ changes)) room left

none_early : (open_now : Bool) (n : ℕ) (vote : Option MachineVote) → open_now ≡ true → vote ≡ None → option_or (refuse_if (not open_now) refusal.NotOpen) (vote_refusal n vote) ≡ None
none_early open_now n vote is free =
    ap (λ (b : Bool). option_or (refuse_if (not b) refusal.NotOpen) (vote_refusal n vote)) is ∙ ap (vote_refusal n) free

step_voted : (rules : Rules) (m : Machine) (n : ℕ) (user description extension : List ℕ) (pending : PendingChanges) (stamp : ℕ) → IsCurrentVote m n pending stamp
    → (step_of rules m n (request.Vote user description extension pending) stamp).reply ≡ reply.Voted
step_voted rules m n user description extension pending stamp is =
    let texts : Texts = record { user = user; description = description; extension = extension } in
    let room : changes_in_journal m.journal + length (map change_as_is pending.stores) ≤ journal_limit = omega (arith, is.room, length-map pending.stores change_as_is) in
    ap (λ (o : Option Refusal). (unless_early o m (request_step rules m n (request.Vote user description extension pending) stamp)).reply) (none_early (is_open_in m.sessions n) n m.vote is.is_open is.free)
    ∙ ap (λ (d : Result (List Change) Refusal). (vote_step m n texts stamp d).reply) (goes_in_as_is rules.merging m.list pending is.stores is.current)
    ∙ changes_voted m n texts (map change_as_is pending.stores) stamp room is.left

pub current_votes : CurrentVotesAreVoted
current_votes rules m n user description extension pending stamp made before now step is = by_outcome (outcome_of made.reply) step.cause
  where
    by_outcome : (o : StepOutcome) → EndsFor rules m n (request.Vote user description extension pending) stamp made before now o → IsVotedUnlessFailed before now made.reply o
    by_outcome Answered ends = ap (λ (s : Stepped). s.reply) ends ∙ step_voted rules m n user description extension pending stamp is
    by_outcome ReadingFailed ends = ends.1
    by_outcome NoMemory ends = tt
    by_outcome StoreFailed ends = ends.1

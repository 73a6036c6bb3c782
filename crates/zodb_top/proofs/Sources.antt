-- The script of an input, and what is said of the runs of its turns.
use Rattle.std.proofs.Common.{◌≡◌, ℕ, ◌<◌, Bool, true, false, if◌then◌else◌, length, nat_lt, List, [], ◌∷◌, Option, Some, None, inl, inr, subst, sym, refl, ◌∙◌, true≢false}
use Rattle.std.proofs.lemmas.Bool.{lt-ltb}
use Rattle.std.specs.Prelude.{◌≢◌, IfSome}
use Rattle.std.specs.Option.{IsSomeAnd}
use Rattle.std.specs.List.{AllByRecursion}
use Rattle.zb_script.specs.declared.limits.Limit.{Limit}
use Rattle.zb_script.specs.declared.limits.Limit.TheVariants as limits
use Rattle.zb_script.specs.declared.line.Line.{Line}
use Rattle.zb_script.specs.declared.line.Line.TheVariants as line
use Rattle.zb_script.specs.declared.line.Turn.{Turn}
use Rattle.zb_script.specs.Limits.{first_limit, limit_count}
use Rattle.zb_script.specs.Script.{IsBadLine}
use Rattle.zb_script.specs.Spelling.{IsLine, IsTurn}
use Rattle.client_turns.specs.Refusing.{IsFittingLine}
use Rattle.script_runs.specs.declared.manner.Manner.{Manner}
use Rattle.script_runs.specs.declared.status.Status.{Status}
use Rattle.script_runs.specs.declared.status.Status.TheVariants as status
use Rattle.zodb_top.specs.Played.{IsCutShort, IsFaulted, IsStarved, IsWhole}
use Rattle.zodb_top.specs.Inputs.{InputSays, SaysLimit, most_bytes}
use Rattle.zodb_top.specs.Opened.{IsUnopened}
use Rattle.zodb_top.specs.Outside.{Outside}
use Rattle.zodb_top.specs.Program.{IsInput, OfInput, ReadsToEnd, RunSays}
use Rattle.zodb_top.specs.Running.{FileSays}

-- ---- turns that were read fit

line_fits : (l : Line) → IsLine l → IsFittingLine l
line_fits (line.Store oid base bytes) is = is.2.some
line_fits (line.Put oid bytes) is = is.1
line_fits (line.Vote user description) is = (is.0.fits, is.1.fits)
line_fits (line.Undo user description tids) is = (is.0.fits, is.1.fits)
line_fits _ is = tt

pub turns_fit : (turns : List Turn) → AllByRecursion IsTurn turns → AllByRecursion (λ t. IsFittingLine t.line) turns
turns_fit [] are = tt
turns_fit (t ∷ turns) are = (line_fits t.line are.0.1, turns_fit turns are.1)

-- ---- the input

-- what holds of turns that were read holds of those of the input
of_read : (left : Option (List ℕ)) (all : List ℕ) (turns : List Turn) (P : List Turn → Type 0) → IfSome left (λ input. all ≡ input) → IsInput all turns → P turns → OfInput left P
of_read None all turns P is input holds = (turns, tt, holds)
of_read (Some bytes) all turns P is input holds = (turns, subst (λ (b : List ℕ). IsInput b turns) is input, holds)

pub run_of_input : (manner : Manner) (s : Status) (told unread : Type 0) (left : Option (List ℕ)) (all : List ℕ) (turns : List Turn) (before after : Outside) → IfSome left (λ input. all ≡ input) → IsInput all turns
    → FileSays manner s told turns before after → RunSays manner s told unread left before after
run_of_input manner status.Done told unread left all turns before after is input o = of_read left all turns (λ ts. told → IsWhole manner ts before after) is input o
run_of_input manner status.NoMemory told unread left all turns before after is input (inl (nothing, unopened, unfailed)) = inl (nothing, inr (unopened, unfailed))
run_of_input manner status.NoMemory told unread left all turns before after is input (inr o) =
    inr (of_read left all turns (λ ts. told → IsStarved manner ts before after) is input o)
run_of_input manner status.SinkFault told unread left all turns before after is input o = (o.0, of_read left all turns (λ ts. told → IsCutShort manner ts before after) is input o.1)
run_of_input manner status.StoreFault told unread left all turns before after is input (inl failed) = inl failed
run_of_input manner status.StoreFault told unread left all turns before after is input (inr (rose, o)) = inr (rose, of_read left all turns (λ ts. told → IsFaulted manner ts before after) is input o)
run_of_input manner status.Damaged told unread left all turns before after is input o = o
run_of_input manner _ told unread left all turns before after is input o = absurd o

-- the same, where the sink took nothing while the script was read
pub run_silent : (manner : Manner) (s : Status) (told unread : Type 0) (left : Option (List ℕ)) (all : List ℕ) (turns : List Turn) (before after : Outside) (taken : Option (List ℕ)) (faults : ℕ) → taken ≡ before.taken → faults ≡ before.sink_faults
    → IfSome left (λ input. all ≡ input) → IsInput all turns
    → FileSays manner s told turns (record { taken = taken; sink_faults = faults; stamps = before.stamps; log = before.log; read_faults = before.read_faults; write_faults = before.write_faults }) after → RunSays manner s told unread left before after
run_silent manner s told unread left all turns before after taken faults silent still is input o =
    let first = subst (λ (t : Option (List ℕ)). FileSays manner s told turns (record { taken = t; sink_faults = faults; stamps = before.stamps; log = before.log; read_faults = before.read_faults; write_faults = before.write_faults }) after) silent o in
    run_of_input manner s told unread left all turns before after is input
    (subst (λ (n : ℕ). FileSays manner s told turns (record { taken = before.taken; sink_faults = n; stamps = before.stamps; log = before.log; read_faults = before.read_faults; write_faults = before.write_faults }) after) still first)

-- what is told of an input holds of what the source had left
pub spread : (left : Option (List ℕ)) (all : List ℕ) (P : List ℕ → Type 0) → IfSome left (λ input. all ≡ input) → P all → IfSome left P
spread None all P is holds = tt
spread (Some input) all P is holds = subst P is holds

-- no script was read of the input
pub unread_input : (manner : Manner) (s : Status) (told unread : Type 0) (left : Option (List ℕ)) (all : List ℕ) (before after : Outside) → IfSome left (λ input. all ≡ input) → IsUnopened before after
    → InputSays s all before.taken after.taken before.sink_faults after.sink_faults → RunSays manner s told unread left before after
unread_input manner status.NoMemory told unread left all before after is unopened said = inl (said, inl unopened)
unread_input manner status.BadLine told unread left all before after is unopened said =
    (unopened, record { number = said.number; bad = spread left all (λ input. (first_limit input ≡ None) × IsBadLine input said.number) is (said.within, said.bad); written = said.written })
unread_input manner status.Limit told unread left all before after is unopened said =
    (unopened, record { limit = said.limit; first = spread left all (λ input. first_limit input ≡ Some said.limit) is said.first; written = said.written })
unread_input manner _ told unread left all before after is unopened said = absurd said

-- what holds of every input holds of what the source had left
pub of_any : (left : Option (List ℕ)) (P : List ℕ → Type 0) → ((input : List ℕ) → P input) → IfSome left P
of_any None P all = tt
of_any (Some input) P all = all input

-- ---- how far the source was read

-- what is longer than a script may be passes the limit of its bytes first
past_bytes : (input : List ℕ) (b : Bool) (other : Option Limit) → nat_lt (limit_count limits.Bytes) (length input) ≡ b → most_bytes < length input → (if b then Some limits.Bytes else other) ≡ Some limits.Bytes
past_bytes input true other is long = refl
past_bytes input false other is long = absurd (true≢false (sym (lt-ltb most_bytes (length input) long) ∙ is))

not_to_end : (left : Option (List ℕ)) → IfSome left (λ all. most_bytes < length all) → IsSomeAnd left (λ input. first_limit input ≢ Some limits.Bytes) → ⊥
not_to_end None long other = other
not_to_end (Some input) long other = other (past_bytes input (nat_lt (limit_count limits.Bytes) (length input)) _ refl long)

-- so where its bytes are told to pass their limit, or reading failed, no status says that it was read to its end
pub limit_unread : (s : Status) (left : Option (List ℕ)) (old new : Option (List ℕ)) (before now : ℕ) (X : Type 0) → IfSome left (λ all. most_bytes < length all) → SaysLimit limits.Bytes s old new before now → ReadsToEnd s left → X
limit_unread status.Limit left old new before now X long said ends = absurd (not_to_end left long ends)
limit_unread status.NoMemory left old new before now X long said ends = absurd ends
limit_unread _ left old new before now X long said ends = absurd said

pub fault_unread : (s : Status) (left : Option (List ℕ)) (X : Type 0) → s ≡ status.SourceFault → ReadsToEnd s left → X
fault_unread s left X is ends = absurd (subst (λ (x : Status). ReadsToEnd x left) is ends)

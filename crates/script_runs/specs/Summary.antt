-- The one line that is written of a script that is made. Own.
use Rattle.std.specs.Prelude.{ℕ, ◌+◌, List, [], ◌∷◌, ◌++◌, Bool, true, false, codes, decimal, filter, length}
use Rattle.std.specs.List.{flat_map}
use Rattle.std.specs.Ordering.{nat_cmp}
use Rattle.std.specs.FinSet.{FinSet, from_list, len}
use Rattle.zb_model.specs.declared.data.Transaction.{Transaction}
use Rattle.zb_model.specs.declared.found.Found.{Found}
use Rattle.zb_model.specs.declared.found.Found.TheVariants as found
use Rattle.zb_model.specs.declared.refusal.Refusal.{Refusal}
use Rattle.zb_model.specs.declared.refusal.Refusal.TheVariants as refusal
use Rattle.zb_model.specs.Queries.{found_below, oids_of}
use Rattle.zb_answers.specs.declared.answer.Answer.{Answer}
use Rattle.zb_answers.specs.declared.answer.Answer.TheVariants as answer
use Rattle.zodb_core.specs.Machine.{front_of}
use Rattle.client_turns.specs.Output.{TurnAnswer}
use Rattle.script_runs.specs.Texts.{line}

-- ---- replies

-- a reply that tells of a commit, one that is refused for a conflict, and any that is refused
abbrev pub is_commit : Answer → Bool
is_commit (answer.Committed tid) = true
is_commit _ = false

abbrev pub is_conflict : Refusal → Bool
is_conflict (refusal.Conflict oid base current why) = true
is_conflict _ = false

abbrev pub is_conflicted : Answer → Bool
is_conflicted (answer.Refused why) = is_conflict why
is_conflicted _ = false

abbrev pub is_refused : Answer → Bool
is_refused (answer.Refused why) = true
is_refused _ = false

-- how many of the replies are of a kind
abbrev pub count_of : (Answer → Bool) → List TurnAnswer → ℕ
count_of is answers = length (filter (λ o. is o.answer) answers)

-- ---- objects

-- what an object has in its last revision is a record
abbrev pub is_held : Found → Bool
is_held (found.Held serial bytes end) = true
is_held _ = false

abbrev pub is_held_in : List Transaction → ℕ → Bool
is_held_in list oid = is_held (found_below oid (front_of list) list)

-- of the objects that some transaction changes, those that are held
abbrev pub held_objects : List Transaction → FinSet nat_cmp
held_objects list = from_list (filter (is_held_in list) (flat_map oids_of list))

-- ---- the line

-- numbers, each behind its word
abbrev pub numbers_text : List (List ℕ × ℕ) → List ℕ
numbers_text numbers = flat_map (λ p. p.0 ++ decimal p.1) numbers

abbrev pub numbers_line : ℕ → ℕ → ℕ → ℕ → ℕ → ℕ → List ℕ
numbers_line rounds committed conflicts refused transactions objects =
    line (numbers_text ((codes "gen ", rounds) ∷ (codes " committed ", committed) ∷ (codes " conflicts ", conflicts) ∷ (codes " refused ", refused) ∷ (codes " transactions ", transactions) ∷ (codes " objects ", objects) ∷ []))

-- how many rounds the script has; how many of the replies tell of a commit, are refused for a conflict, and are refused; and how many transactions the list has, and
-- how many objects it holds
abbrev pub summary_line : ℕ → List TurnAnswer → List Transaction → List ℕ
summary_line rounds answers list =
    numbers_line rounds (count_of is_commit answers) (count_of is_conflicted answers) (count_of is_refused answers) (length list) (len (held_objects list))

-- what stands in its place where the list can't be read
abbrev pub unread_line : List ℕ
unread_line = line (codes "refused ReadFault")

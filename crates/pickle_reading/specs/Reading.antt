-- Reading: the tokens up to the first STOP, each in its turn.
use Rattle.std.specs.Prelude.{ℕ, zero, suc, ◌+◌, ◌-◌, ℤ, List, [], ◌∷◌, length, Bool, true, false, Result, Ok, Err, take, drop, if◌then◌else◌}
use Rattle.pickle_ops.specs.declared.table.Op.{Op}
use Rattle.pickle_ops.specs.declared.table.Op.TheVariants as ops
use Rattle.pickle_ops.specs.declared.token.Token.{Token}
use Rattle.pickle_ops.specs.declared.token.TokenError.{TokenError}
use Rattle.pickle_ops.specs.declared.token.TokenError.TheVariants as faults
use Rattle.pickle_ops.specs.Tokens.{token_at}
use Rattle.pickle_reading.specs.declared.error.PickleError.{PickleError}
use Rattle.pickle_reading.specs.declared.error.PickleError.TheVariants as errors
use Rattle.pickle_graph.specs.declared.node.Node.{Node}
use Rattle.pickle_graph.specs.declared.pickle.Pickle.{Pickle}
use Rattle.pickle_reading.specs.declared.reading.TheConstants.{NODE_LIMIT}
use Rattle.pickle_reading.specs.declared.state.Item.{Item}
use Rattle.pickle_reading.specs.declared.state.Item.TheVariants.{Value}
use Rattle.pickle_reading.specs.Nodes.{State}
use Rattle.pickle_reading.specs.Nodes.{step}

-- the opcode ends the pickle
abbrev pub is_stop : Op → Bool
is_stop ops.Stop = true
is_stop _ = false

-- the bytes of a token's argument, in the bytes behind the place
abbrev pub bytes_of : ℕ → List ℕ → Token → List ℕ
bytes_of at bytes t = take t.length (drop (t.start - at) bytes)

-- A reader: what a token does to what it keeps, and what it answers at STOP, whose place is given
-- with the one behind it.
pub record Reader (S X : Type 0) : Type 0 where
  pub turn : Op → ℕ → ℤ → List ℕ → S → Result S PickleError
  pub finish : ℕ → ℕ → S → Result X PickleError

-- goes on behind a token that has a case
abbrev pub go_on : {S X : Type 0} → (S → Result X PickleError) → Result S PickleError → Result X PickleError
go_on more (Ok s) = more s
go_on more (Err e) = Err e

-- a token's turn, and more behind it
abbrev pub after_token : {S X : Type 0} → Reader S X → (ℕ → S → Result X PickleError) → S → ℕ → List ℕ → Result (Token × ℕ) TokenError → Result X PickleError
after_token r more s at bytes (Err e) = Err (errors.Token e)
after_token r more s at bytes (Ok found) =
    if is_stop found.0.op then r.finish at found.1 s
    else go_on (more found.1) (r.turn found.0.op at found.0.number (bytes_of at bytes found.0) s)

-- What the tokens of the bytes behind a place give, up to the first STOP. So many bytes are left of the token before.
unfoldable pub read_from : {S X : Type 0} → Reader S X → ℕ → S → ℕ → List ℕ → Result X PickleError
read_from r skip s at [] = Err (errors.Token (faults.Cut at))
read_from r (suc skip) s at (byte ∷ bytes) = read_from r skip s (at + 1) bytes
read_from r zero s at (byte ∷ bytes) =
    after_token r (λ next s'. read_from r (next - at - 1) s' (at + 1) bytes) s at (byte ∷ bytes) (token_at at (byte ∷ bytes))

-- at STOP the value on the top is the root
abbrev pub root_of : ℕ → ℕ → State → List Item → Result (Pickle × ℕ) PickleError
root_of at next s (Value v ∷ below) = Ok (record { nodes = s.nodes; root = v }, next)
root_of at next s _ = Err (errors.Stack at)

-- the reader of graphs
abbrev pub graphs : Reader State (Pickle × ℕ)
graphs = record { turn = step; finish = λ at next s. root_of at next s s.stack }

-- nothing was read yet
abbrev pub empty_state : ℕ → State
empty_state limit = record { limit = limit; nodes = []; stack = []; memo = [] }

-- the graph of the bytes behind a place, of so many nodes at most, and the place behind it; or the refusal
abbrev pub graph_at : ℕ → ℕ → List ℕ → Result (Pickle × ℕ) PickleError
graph_at limit at bytes = read_from graphs 0 (empty_state limit) at bytes

-- What the reader of the next pickle begins with: the nodes and the memo that the pickle before left, and an empty stack. So
-- many nodes more may come.
abbrev pub begun : ℕ → List Node → List (ℕ × ℕ) → State
begun limit nodes memo = record { limit = limit + length nodes; nodes = nodes; stack = []; memo = memo }

-- the graph of the bytes behind a place, behind a pickle that left these nodes and this memo
abbrev pub graph_behind : List Node → List (ℕ × ℕ) → ℕ → List ℕ → Result (Pickle × ℕ) PickleError
graph_behind nodes memo at bytes = read_from graphs 0 (begun NODE_LIMIT nodes memo) at bytes

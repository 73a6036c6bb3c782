-- What reading does at the front of a text, in any state and whatever follows.
use Rattle.std.proofs.Common.{◌≡◌, ℕ, ◌+◌, ◌-◌, ◌<◌, ◌≤◌, ℤ, false, List, [], ◌∷◌, ◌++◌, length, take, drop, Ok, Err, refl, arith, ◌∙◌, ap, append_assoc, length-append}
use Rattle.std.proofs.lemmas.List.{take_at, drop_at}
use Rattle.std.proofs.lemmas.Bool.{lt-ltb, le-ltb}
use Rattle.pickle_ops.specs.declared.table.Op.{Op}
use Rattle.pickle_ops.specs.declared.token.Token.{Token}
use Rattle.pickle_ops.specs.Grammar.{IsToken}
use Rattle.pickle_ops.specs.Laws.{SpelledIsRead}
use Rattle.pickle_graph.specs.declared.node.Node.{Node}
use Rattle.pickle_reading.specs.declared.error.PickleError.TheVariants as errors
use Rattle.pickle_reading.specs.Nodes.{State}
use Rattle.pickle_reading.specs.declared.state.Item.TheVariants.{Value}
use Rattle.pickle_reading.specs.Steps.{make}
use Rattle.pickle_reading.specs.Nodes.{step}
use Rattle.pickle_reading.specs.Reading.{graphs, read_from, is_stop}
use Rattle.pickle_reading.specs.RunLaws.{read_from-step, read_from-refused}

-- the text takes the reader from a state to another
abbrev pub Goes : State → List ℕ → State → Type 0
Goes s text s' = (at : ℕ) (tail : List ℕ) → read_from graphs 0 s at (text ++ tail) ≡ read_from graphs 0 s' (at + length text) tail

-- within the text too many nodes are made
abbrev pub Stops : State → List ℕ → Type 0
Stops s text = (at : ℕ) (tail : List ℕ) → (place : ℕ) × (read_from graphs 0 s at (text ++ tail) ≡ Err (errors.TooLarge place))

pub goes_none : (s : State) → Goes s [] s
goes_none s at tail = ap (λ (k : ℕ). read_from graphs 0 s k tail) (omega arith)

pub goes_then : (s s₁ s₂ : State) (t u : List ℕ) → Goes s t s₁ → Goes s₁ u s₂ → Goes s (t ++ u) s₂
goes_then s s₁ s₂ t u a b at tail =
    ap (read_from graphs 0 s at) (append_assoc t u tail) ∙ a at (u ++ tail) ∙ b (at + length t) tail ∙ ap (λ (k : ℕ). read_from graphs 0 s₂ k tail) (omega (arith, length-append t u))

pub goes_to : (s s₁ s₂ : State) (t : List ℕ) → s₁ ≡ s₂ → Goes s t s₁ → Goes s t s₂
goes_to s s₁ s₂ t e a at tail = a at tail ∙ ap (λ (x : State). read_from graphs 0 x (at + length t) tail) e

pub stops_left : (s : State) (t u : List ℕ) → Stops s t → Stops s (t ++ u)
stops_left s t u a at tail = let x = a at (u ++ tail) in (x.0, ap (read_from graphs 0 s at) (append_assoc t u tail) ∙ x.1)

pub stops_right : (s s₁ : State) (t u : List ℕ) → Goes s t s₁ → Stops s₁ u → Stops s (t ++ u)
stops_right s s₁ t u a b at tail = let x = b (at + length t) tail in (x.0, ap (read_from graphs 0 s at) (append_assoc t u tail) ∙ a at (u ++ tail) ∙ x.1)

-- ---- tokens

-- the text spells a token that does not stop, and ends with its bytes
pub record Spells (text : List ℕ) (op : Op) (number : ℤ) (held : List ℕ) : Type 0 where
  pub token : IsToken text op number held
  pub front : List ℕ
  pub split : text ≡ front ++ held
  pub on : is_stop op ≡ false

abbrev token_of : ℕ → List ℕ → Op → ℤ → List ℕ → Token
token_of at text op number held = record { op = op; number = number; start = at + (length text - length held); length = length held }

held_bytes : (at : ℕ) (text front held tail : List ℕ) → text ≡ front ++ held → take (length held) (drop (at + (length text - length held) - at) (text ++ tail)) ≡ held
held_bytes at text front held tail e =
    let n : length front ≡ at + (length text - length held) - at = omega (arith, ap length e, length-append front held) in
    let whole : text ++ tail ≡ front ++ (held ++ tail) = ap (λ (l : List ℕ). l ++ tail) e ∙ append_assoc front held tail in
    ap (λ (l : List ℕ). take (length held) (drop (at + (length text - length held) - at) l)) whole
    ∙ ap (take (length held)) (drop_at front (held ++ tail) (at + (length text - length held) - at) n) ∙ take_at held tail (length held) refl

token-some : (text : List ℕ) (op : Op) (number : ℤ) (held : List ℕ) → IsToken text op number held → 0 < length text
token-some text op number held t = let e = ap length t.spelled in omega (arith, e)

module _ (sr : SpelledIsRead) where
  pub goes_token : (s s' : State) (text : List ℕ) (op : Op) (number : ℤ) (held : List ℕ) → Spells text op number held → ((at : ℕ) → step op at number held s ≡ Ok s') → Goes s text s'
  goes_token s s' text op number held p does at tail =
      let some = token-some text op number held p.token in
      let t : Token = token_of at text op number held in
      let len : length text ≡ at + length text - at = omega arith in
      read_from-step graphs s s' at (text ++ tail) t (at + length text) (sr at text tail op number held p.token) p.on (omega (arith, some)) (omega (arith, length-append text tail))
      (ap (λ (x : List ℕ). step op at number x s) (held_bytes at text p.front held tail p.split) ∙ does at)
      ∙ ap (read_from graphs 0 s' (at + length text)) (drop_at text tail (at + length text - at) len)

  pub stops_token : (s : State) (text : List ℕ) (op : Op) (number : ℤ) (held : List ℕ) → Spells text op number held → ((at : ℕ) → step op at number held s ≡ Err (errors.TooLarge at)) → Stops s text
  stops_token s text op number held p does at tail =
      let some = token-some text op number held p.token in
      let t : Token = token_of at text op number held in (
        at,
        read_from-refused graphs s at (text ++ tail) t (at + length text) (errors.TooLarge at) (sr at text tail op number held p.token) p.on (omega (arith, some)) (omega (arith, length-append text tail))
            (ap (λ (x : List ℕ). step op at number x s) (held_bytes at text p.front held tail p.split) ∙ does at),
      )

-- ---- new nodes

abbrev pub made : State → Node → State
made s node = record s { nodes = s.nodes ++ node ∷ []; stack = Value (length s.nodes) ∷ s.stack }

make_room : (at : ℕ) (node : Node) (s : State) → length s.nodes < s.limit → make at node s ≡ Ok (made s node)
make_room at node s h = let e = lt-ltb (length s.nodes) s.limit h in rw e refl

make_over : (at : ℕ) (node : Node) (s : State) → s.limit ≤ length s.nodes → make at node s ≡ Err (errors.TooLarge at)
make_over at node s h = let e = le-ltb (length s.nodes) s.limit h in rw e refl

module _ (sr : SpelledIsRead) where
  -- a token that makes a node, of a state whose stack was changed before
  pub goes_make : (s s₀ : State) (node : Node) (text : List ℕ) (op : Op) (number : ℤ) (held : List ℕ) → Spells text op number held → ((at : ℕ) → step op at number held s ≡ make at node s₀) → length s₀.nodes < s₀.limit → Goes s text (made s₀ node)
  goes_make s s₀ node text op number held p does room = goes_token sr s (made s₀ node) text op number held p (λ at. does at ∙ make_room at node s₀ room)

  pub stops_make : (s s₀ : State) (node : Node) (text : List ℕ) (op : Op) (number : ℤ) (held : List ℕ) → Spells text op number held → ((at : ℕ) → step op at number held s ≡ make at node s₀) → s₀.limit ≤ length s₀.nodes → Stops s text
  stops_make s s₀ node text op number held p does over = stops_token sr s text op number held p (λ at. does at ∙ make_over at node s₀ over)

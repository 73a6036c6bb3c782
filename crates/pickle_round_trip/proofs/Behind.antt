-- What is written reads back also behind another pickle.
use Rattle.std.proofs.Common.{◌≡◌, ℕ, zero, suc, ◌+◌, ◌<◌, ◌≤◌, Bool, true, false, List, [], ◌∷◌, ◌++◌, length, drop, Option, Some, None, Ok, refl, arith, sym, ◌∙◌, ap, subst, append_assoc, length-append, eqb, ◌⊎◌, inl, inr}
use Rattle.std.specs.Prelude.{slice_get, map}
use Rattle.std.specs.Option.{option_map}
use Rattle.std.proofs.lemmas.Option.{slice_get-map}
use Rattle.std.proofs.lemmas.Bool.{eqb-true}
use Rattle.pickle_ops.specs.Laws.{SpelledIsRead}
use Rattle.pickle_graph.specs.declared.node.Act.{Act}
use Rattle.pickle_graph.specs.declared.node.Act.TheVariants.{Append, Set, Build}
use Rattle.pickle_graph.specs.declared.node.Node.{Node}
use Rattle.pickle_graph.specs.declared.node.Node.TheVariants as kinds
use Rattle.pickle_writing.specs.declared.depth.TheConstants.{WALK_LIMIT}
use Rattle.pickle_reading.specs.declared.reading.TheConstants.{NODE_LIMIT}
use Rattle.pickle_reading.specs.Nodes.{State}
use Rattle.pickle_reading.specs.declared.state.Item.TheVariants.{Value}
use Rattle.pickle_graph.specs.Graph.{Graph, IsGraph, IsNode, AreNodes, AllBelow, PairsBelow, ActBelow, ActsBelow}
use Rattle.pickle_references.specs.Named.{with_name, named_in}
use Rattle.pickle_reading.specs.Reading.{graphs, read_from, begun}
use Rattle.pickle_graph.specs.Walks.{has_walk}
use Rattle.pickle_writing.specs.Shared.{is_shared, times}
use Rattle.pickle_writing.specs.Spelling.{Piece, root_piece}
use Rattle.pickle_graph.specs.Same.{HasOrigin, HaveOrigins, PairsStandFor, ActStandsFor, ActsStandFor, IsCopy, AllCopies, is_held_at, IsSame, AreSame}
use Rattle.pickle_round_trip.specs.Laws.{ReadsBehind, RefusedBehind, WrittenReadsBehind}
use Rattle.pickle_references.specs.Cores.{name_of, has_form, name-on}
use Rattle.pickle_writing.specs.SharedLaws.{times-append}
use Rattle.pickle_graph.specs.WalkLaws.{cases_bool}
use Rattle.pickle_round_trip.proofs.Going.{stops_right}
use Rattle.pickle_round_trip.proofs.Standing.{Tuples, Stands, at_end, copies-append, copies-length}
use Rattle.pickle_round_trip.proofs.Building.{Shown, Built, room_or}
use Rattle.pickle_round_trip.proofs.Visits.{visits}
use Rattle.pickle_round_trip.proofs.Once.{apart-times, visits-once}
use Rattle.pickle_references.specs.AlikeLaws.{form-of, more-names, name-alike}
use Rattle.pickle_round_trip.proofs.Back.{tuple-below, written, piece-shown, proto_goes, stop-read}

-- ---- numbers one after the other

abbrev counting : ℕ → List Node → List ℕ
counting i [] = []
counting i (x ∷ xs) = i ∷ counting (i + 1) xs

counting-length : (i : ℕ) (xs : List Node) → length (counting i xs) ≡ length xs
counting-length i [] = refl
counting-length i (x ∷ xs) = ap (λ k. suc k) (counting-length (i + 1) xs)

counting-at : (i : ℕ) (xs : List Node) (n : ℕ) → n < length xs → slice_get (counting i xs) n ≡ Some (i + n)
counting-at i [] n l = absurd (omega arith)
counting-at i (x ∷ xs) zero l = let e : i ≡ i + 0 = omega arith in ap (λ (k : ℕ). Some k) e
counting-at i (x ∷ xs) (suc n) l = let e : i + 1 + n ≡ i + suc n = omega arith in counting-at (i + 1) xs n (omega arith) ∙ ap (λ (k : ℕ). Some k) e

some_is : (a b : ℕ) → Some a ≡ Some b → a ≡ b
some_is a b e = cc

-- each is as great as the first, or greater
counting-least : (i : ℕ) (xs : List Node) (n m : ℕ) → slice_get (counting i xs) n ≡ Some m → i ≤ m
counting-least i [] n m e = absurd cc
counting-least i (x ∷ xs) zero m e = let s = some_is i m e in omega (arith, s)
counting-least i (x ∷ xs) (suc n) m e = let l = counting-least (i + 1) xs n m e in omega (arith, l)

-- how often a number stands in a list that begins with another
times-head : (k x : ℕ) (xs : List ℕ) → (times k (x ∷ xs) ≡ times k xs) ⊎ ((x ≡ k) × (times k (x ∷ xs) ≡ 1 + times k xs))
times-head k x xs = elim (cases_bool (eqb x k)) [
  | inl e ↦ inr (eqb-true x k e, rw e refl)
  | inr e ↦ inl (rw e (omega arith))
]

times-none : (k i : ℕ) (xs : List Node) → k < i → times k (counting i xs) ≡ 0
times-none k i [] l = refl
times-none k i (x ∷ xs) l = elim (times-head k i (counting (i + 1) xs)) [
  | inl e ↦ e ∙ times-none k (i + 1) xs (omega arith)
  | inr e ↦ let s = e.0 in absurd (omega (arith, l, s))
]

times-once : (k i : ℕ) (xs : List Node) → times k (counting i xs) ≤ 1
times-once k i [] = omega arith
times-once k i (x ∷ xs) = elim (times-head k i (counting (i + 1) xs)) [
  | inl e ↦ let l = times-once k (i + 1) xs in omega (arith, e, l)
  | inr e ↦ let s = e.0 in let f = e.1 in let n = times-none k (i + 1) xs (omega (arith, s)) in omega (arith, f, n)
]

times-low : (k n : ℕ) (xs : List ℕ) → AllBelow n xs → n ≤ k → times k xs ≡ 0
times-low k n [] h l = refl
times-low k n (x ∷ xs) h l = elim (times-head k x xs) [
  | inl e ↦ e ∙ times-low k n xs h.1 l
  | inr e ↦ let s = e.0 in let b = h.0 in absurd (omega (arith, s, b, l))
]

-- ---- numbers of lists

in-list : (xs : List ℕ) (n m : ℕ) → slice_get xs n ≡ Some m → n < length xs
in-list [] n m e = absurd cc
in-list (x ∷ xs) zero m e = omega arith
in-list (x ∷ xs) (suc n) m e = let l = in-list xs n m e in omega (arith, l)

get-front : (xs ys : List ℕ) (n : ℕ) → n < length xs → slice_get (xs ++ ys) n ≡ slice_get xs n
get-front [] ys n l = absurd (omega arith)
get-front (x ∷ xs) ys zero l = refl
get-front (x ∷ xs) ys (suc n) l = get-front xs ys n (omega arith)

get-back : (xs ys : List Node) (n : ℕ) → slice_get (xs ++ ys) (length xs + n) ≡ slice_get ys n
get-back [] ys n = ap (slice_get ys) (omega arith)
get-back (x ∷ xs) ys n = let e : length (x ∷ xs) + n ≡ suc (length xs + n) = omega arith in ap (slice_get (x ∷ xs ++ ys)) e ∙ get-back xs ys n

no-node : (ns : List Node) (m : ℕ) → length ns ≤ m → slice_get ns m ≡ None
no-node [] m l = refl
no-node (x ∷ ns) zero l = absurd (omega arith)
no-node (x ∷ ns) (suc m) l = no-node ns m (omega arith)

drop-front : (xs ys : List Node) → drop (length xs) (xs ++ ys) ≡ ys
drop-front [] ys = refl
drop-front (x ∷ xs) ys = drop-front xs ys

-- ---- a node that stands for itself

module _ (origin : List ℕ) (ns : List Node) (stands : (n : ℕ) → n < length ns → HasOrigin origin n n) where
  items-self : (items : List ℕ) → AllBelow (length ns) items → HaveOrigins origin items items
  items-self [] h = tt
  items-self (n ∷ items) h = (stands n h.0, items-self items h.1)

  pairs-self : (pairs : List (ℕ × ℕ)) → PairsBelow (length ns) pairs → PairsStandFor origin pairs pairs
  pairs-self [] h = tt
  pairs-self (pair ∷ pairs) h = (stands pair.0 h.0, stands pair.1 h.1, pairs-self pairs h.2)

  act-self : (act : Act) → ActBelow (length ns) act → ActStandsFor origin act act
  act-self (Append n) h = stands n h
  act-self (Set n k) h = (stands n h.0, stands k h.1)
  act-self (Build n) h = stands n h

  acts-self : (acts : List Act) → ActsBelow (length ns) acts → ActsStandFor origin acts acts
  acts-self [] h = tt
  acts-self (act ∷ acts) h = (act-self act h.0, acts-self acts h.1)

  node-self : (x : Node) → IsNode ns x → IsCopy origin x (Some x)
  node-self kinds.None h = tt
  node-self (kinds.Bool b) h = refl
  node-self (kinds.Number n) h = refl
  node-self (kinds.Wide b) h = refl
  node-self (kinds.Float b) h = refl
  node-self (kinds.Bytes b) h = refl
  node-self (kinds.OldText b) h = refl
  node-self (kinds.Text b) h = refl
  node-self (kinds.Tuple items) h = items-self items h
  node-self (kinds.List items) h = items-self items h
  node-self (kinds.Dict pairs) h = pairs-self pairs h
  node-self (kinds.Global a b) h = (refl, refl)
  node-self (kinds.Reference n) h = stands n h
  node-self (kinds.Object a b by_new acts) h = record { called = stands a h.called; taken = stands b (tuple-below ns b h.taken); made = refl; done = acts-self acts h.done }

-- ---- a copy's node that stands for itself at a greater number

abbrev moved_pair : ℕ → ℕ × ℕ → ℕ × ℕ
moved_pair by pair = (by + pair.0, by + pair.1)

abbrev moved_act : ℕ → Act → Act
moved_act by (Append n) = Append (by + n)
moved_act by (Set key value) = Set (by + key) (by + value)
moved_act by (Build n) = Build (by + n)

-- the node with numbers greater by so many
abbrev moved : ℕ → Node → Node
moved by (kinds.Tuple items) = kinds.Tuple (map (λ n. by + n) items)
moved by (kinds.List items) = kinds.List (map (λ n. by + n) items)
moved by (kinds.Dict pairs) = kinds.Dict (map (moved_pair by) pairs)
moved by (kinds.Reference id) = kinds.Reference (by + id)
moved by (kinds.Object callee arguments by_new acts) = kinds.Object (by + callee) (by + arguments) by_new (map (moved_act by) acts)
moved by node = node

module _ (origin old : List ℕ) (by : ℕ) (stands : (n : ℕ) → n < length old → HasOrigin origin n (by + n)) where
  one-moved : (n m : ℕ) → HasOrigin old n m → HasOrigin origin n (by + n)
  one-moved n m h = stands n (in-list old n m h)

  items-moved : (ns ms : List ℕ) → HaveOrigins old ns ms → HaveOrigins origin ns (map (λ n. by + n) ns)
  items-moved [] [] h = tt
  items-moved (n ∷ ns) (m ∷ ms) h = (one-moved n m h.0, items-moved ns ms h.1)
  items-moved [] (m ∷ ms) h = absurd h
  items-moved (n ∷ ns) [] h = absurd h

  pairs-moved : (ns ms : List (ℕ × ℕ)) → PairsStandFor old ns ms → PairsStandFor origin ns (map (moved_pair by) ns)
  pairs-moved [] [] h = tt
  pairs-moved (n ∷ ns) (m ∷ ms) h = (one-moved n.0 m.0 h.0, one-moved n.1 m.1 h.1, pairs-moved ns ms h.2)
  pairs-moved [] (m ∷ ms) h = absurd h
  pairs-moved (n ∷ ns) [] h = absurd h

  act-moved : (n m : Act) → ActStandsFor old n m → ActStandsFor origin n (moved_act by n)
  act-moved (Append n) (Append m) h = one-moved n m h
  act-moved (Set n k) (Set m l) h = (one-moved n m h.0, one-moved k l h.1)
  act-moved (Build n) (Build m) h = one-moved n m h
  act-moved (Append n) (Set m l) h = absurd h
  act-moved (Append n) (Build m) h = absurd h
  act-moved (Set n k) (Append m) h = absurd h
  act-moved (Set n k) (Build m) h = absurd h
  act-moved (Build n) (Append m) h = absurd h
  act-moved (Build n) (Set m l) h = absurd h

  acts-moved : (ns ms : List Act) → ActsStandFor old ns ms → ActsStandFor origin ns (map (moved_act by) ns)
  acts-moved [] [] h = tt
  acts-moved (n ∷ ns) (m ∷ ms) h = (act-moved n m h.0, acts-moved ns ms h.1)
  acts-moved [] (m ∷ ms) h = absurd h
  acts-moved (n ∷ ns) [] h = absurd h

  node-moved : (x : Node) (found : Option Node) → IsCopy old x found → IsCopy origin x (Some (moved by x))
  node-moved (kinds.Tuple ns) (Some (kinds.Tuple ms)) h = items-moved ns ms h
  node-moved (kinds.List ns) (Some (kinds.List ms)) h = items-moved ns ms h
  node-moved (kinds.Dict ns) (Some (kinds.Dict ms)) h = pairs-moved ns ms h
  node-moved (kinds.Reference n) (Some (kinds.Reference m)) h = one-moved n m h
  node-moved (kinds.Object a b c acts) (Some (kinds.Object d e f other)) h = record { called = one-moved a d h.called; taken = one-moved b e h.taken; made = refl; done = acts-moved acts other h.done }
  node-moved (kinds.Tuple ns) _ h = absurd h
  node-moved (kinds.List ns) _ h = absurd h
  node-moved (kinds.Dict ns) _ h = absurd h
  node-moved (kinds.Reference n) _ h = absurd h
  node-moved (kinds.Object a b c acts) _ h = absurd h
  node-moved kinds.None found h = tt
  node-moved (kinds.Bool b) found h = refl
  node-moved (kinds.Number n) found h = refl
  node-moved (kinds.Wide b) found h = refl
  node-moved (kinds.Float b) found h = refl
  node-moved (kinds.Bytes b) found h = refl
  node-moved (kinds.OldText b) found h = refl
  node-moved (kinds.Text b) found h = refl
  node-moved (kinds.Global a b) found h = (refl, refl)

  -- nodes stand for those at greater numbers
  all-moved : (g whole rest : List Node) (ms : List ℕ) (i : ℕ) → AllCopies old g rest ms → ((k : ℕ) → slice_get whole (i + k) ≡ option_map (moved by) (slice_get rest k)) → AllCopies origin whole rest (counting i rest)
  all-moved g whole [] [] i h at = tt
  all-moved g whole (x ∷ rest) (m ∷ ms) i h at =
      let here : slice_get whole i ≡ Some (moved by x) = (let e : i ≡ i + 0 = omega arith in ap (slice_get whole) e) ∙ at 0 in (
        subst (λ (found : Option Node). IsCopy origin x found) (sym here) (node-moved x (slice_get g m) h.0),
        all-moved g whole rest ms (i + 1) h.1 (λ k. (let e : i + 1 + k ≡ i + suc k = omega arith in ap (slice_get whole) e) ∙ at (suc k)),
      )
  all-moved g whole [] (m ∷ ms) i h at = absurd h
  all-moved g whole (x ∷ rest) [] i h at = absurd h

-- ---- a graph among more nodes

no-copy : (origin : List ℕ) (x : Node) → IsCopy origin x None → ⊥
no-copy origin kinds.None h = h
no-copy origin _ h = h

-- what a copy's node stands for is there
old-there : (origin : List ℕ) (g : List Node) (x : Node) (m : ℕ) → IsCopy origin x (slice_get g m) → m < length g
old-there origin g x m h = elim (room_or (length g) m) [
  | inl l ↦ absurd (no-copy origin x (subst (IsCopy origin x) (no-node g m l) h))
  | inr l ↦ l
]

olds-there : (origin : List ℕ) (g xs : List Node) (ms : List ℕ) → AllCopies origin g xs ms → AllBelow (length g) ms
olds-there origin g [] [] h = tt
olds-there origin g (x ∷ xs) (m ∷ ms) h = (old-there origin g x m h.0, olds-there origin g xs ms h.1)
olds-there origin g [] (m ∷ ms) h = absurd h
olds-there origin g (x ∷ xs) [] h = absurd h

get-first : (g more : List Node) (m : ℕ) → m < length g → slice_get (g ++ more) m ≡ slice_get g m
get-first [] more m l = absurd (omega arith)
get-first (x ∷ g) more zero l = refl
get-first (x ∷ g) more (suc m) l = get-first g more m (omega arith)

copies-wider : (origin : List ℕ) (g more xs : List Node) (ms : List ℕ) → AllCopies origin g xs ms → AllCopies origin (g ++ more) xs ms
copies-wider origin g more [] [] h = tt
copies-wider origin g more (x ∷ xs) (m ∷ ms) h =
    (subst (λ (found : Option Node). IsCopy origin x found) (sym (get-first g more m (old-there origin g x m h.0))) h.0, copies-wider origin g more xs ms h.1)
copies-wider origin g more [] (m ∷ ms) h = absurd h
copies-wider origin g more (x ∷ xs) [] h = absurd h

selves : (origin : List ℕ) (ns whole rest : List Node) (i : ℕ) (stands : (n : ℕ) → n < length ns → HasOrigin origin n n) → AreNodes ns rest → ((k : ℕ) → k < length rest → slice_get whole (i + k) ≡ slice_get rest k) → AllCopies origin whole rest (counting i rest)
selves origin ns whole [] i stands h at = tt
selves origin ns whole (x ∷ rest) i stands h at =
    let here : slice_get whole i ≡ Some x = (let e : i ≡ i + 0 = omega arith in ap (slice_get whole) e) ∙ at 0 (omega arith) in (
      subst (λ (found : Option Node). IsCopy origin x found) (sym here) (node-self origin ns stands x h.0),
      selves origin ns whole rest (i + 1) stands h.1 (λ k l. (let e : i + 1 + k ≡ i + suc k = omega arith in ap (slice_get whole) e) ∙ at (suc k) (omega arith)),
    )

-- a graph is a copy of itself among more nodes
same-among : (g : Graph) (more : List Node) → IsGraph g.nodes g.root → IsSame (record { nodes = g.nodes ++ more; root = g.root }) g
same-among g more is =
    let origin : List ℕ = counting 0 g.nodes in
    let stands : (n : ℕ) → n < length g.nodes → HasOrigin origin n n = λ n l. counting-at 0 g.nodes n l ∙ (let e : 0 + n ≡ n = omega arith in ap (λ (k : ℕ). Some k) e) in
    record {
      origin = origin;
      each = selves origin g.nodes (g.nodes ++ more) g.nodes 0 stands is.each (λ k l. (let e : 0 + k ≡ k = omega arith in ap (slice_get (g.nodes ++ more)) e) ∙ get-first g.nodes more k l);
      root = stands g.root is.rooted;
      once = apart-times (g.nodes ++ more) origin (λ k held. times-once k 0 g.nodes);
    }

-- ---- behind a pickle

module _ (sr : SpelledIsRead) (before g copy : Graph) (memo : List (ℕ × ℕ)) (text : List ℕ) (is : IsSame before copy) (few : length copy.nodes ≤ NODE_LIMIT) (graph : IsGraph g.nodes g.root) where
  abbrev size : ℕ
  size = length g.nodes

  -- the nodes that were left stand for none of the graph
  abbrev apart : List ℕ
  apart = counting size copy.nodes

  abbrev start : State
  start = begun NODE_LIMIT copy.nodes memo

  apart-tuples : Tuples g.nodes apart copy.nodes
  apart-tuples i m e t =
      let least = counting-least size copy.nodes i m e in
      let below = tuple-below g.nodes m t in
      absurd (omega (arith, least, below))

  starts : Stands g.nodes apart start []
  starts = record { count = sym (counting-length size copy.nodes); tuples = apart-tuples; memo = λ m k e. absurd cc; few = omega arith; limit = omega (arith, few) }

  abbrev whole : List Node
  whole = g.nodes ++ map (moved size) copy.nodes

  module _ (p : Piece) (os : List ℕ) (x : Built g.nodes g.root p os start apart) (held : (k : ℕ) → is_held_at g.nodes k ≡ true → times k os ≤ 1) where
    abbrev origin : List ℕ
    origin = apart ++ os

    abbrev found : List Node
    found = copy.nodes ++ x.nodes

    counts : length copy.nodes ≡ length is.origin
    counts = copies-length is.origin before.nodes copy.nodes is.origin is.each

    moved-stands : (n : ℕ) → n < length is.origin → HasOrigin origin n (size + n)
    moved-stands n l =
        let there : n < length copy.nodes = omega (arith, l, counts) in
        let many = counting-length size copy.nodes in
        get-front apart os n (omega (arith, there, many)) ∙ counting-at size copy.nodes n there

    each : AllCopies origin whole found origin
    each =
        copies-append origin whole copy.nodes apart x.nodes os
        (all-moved origin is.origin size moved-stands before.nodes whole copy.nodes is.origin size is.each (λ k. get-back g.nodes (map (moved size) copy.nodes) k ∙ slice_get-map (moved size) copy.nodes k))
        (copies-wider origin g.nodes (map (moved size) copy.nodes) x.nodes os x.copies)

    once-in : (k : ℕ) → is_held_at whole k ≡ true → times k origin ≤ 1
    once-in k h =
        let sum = times-append k apart os in
        elim (room_or size k) [
          | inl l ↦
              let none = times-low k size os (olds-there origin g.nodes x.nodes os x.copies) l in
              let one = times-once k size copy.nodes in
              omega (arith, sum, none, one)
          | inr l ↦
              let none = times-none k size copy.nodes l in
              let here : is_held_at g.nodes k ≡ true = ap (λ (f : Option Node). Rattle.pickle_graph.specs.Same.holds_items f) (sym (get-first g.nodes (map (moved size) copy.nodes) k l)) ∙ h in
              let one = held k here in
              omega (arith, sum, none, one)
        ]

    same-found : IsSame (record { nodes = whole; root = g.root }) (record { nodes = found; root = x.number })
    same-found = record { origin = origin; each = each; root = x.found; once = apart-times whole origin once-in }

    both-same : AreSame g (record { nodes = found; root = x.number })
    both-same = record { whole = record { nodes = whole; root = g.root }; first = same-among g (map (moved size) copy.nodes) graph; second = same-found }

    -- what the references among the new nodes name
    module _ (oids : List ℕ) (named : named_in g.nodes g.nodes ≡ Some oids) where
      ref-form : (n k : ℕ) (old : Option Node) → slice_get g.nodes k ≡ old → IsCopy origin (kinds.Reference n) old → has_form (name_of found n) ≡ true
      ref-form n k (Some (kinds.Reference m)) e c =
          let form = form-of g.nodes g.nodes k m oids named e in
          ap has_form (name-alike origin whole found each n m c ∙ name-on g.nodes (map (moved size) copy.nodes) m form) ∙ form
      ref-form n k _ e c = absurd c

      in-found : (xs : List Node) (ms : List ℕ) → AllCopies origin g.nodes xs ms → (told : List ℕ) × (named_in found xs ≡ Some told)
      in-found [] [] c = ([], refl)
      in-found [] (k ∷ ms) c = absurd c
      in-found (x ∷ xs) [] c = absurd c
      in-found (kinds.Reference n ∷ xs) (k ∷ ms) c =
          let rest = in-found xs ms c.1 in
          let one = more-names (name_of found n) rest.0 (ref-form n k (slice_get g.nodes k) refl c.0) in
          (one.0, ap (with_name (name_of found n)) rest.1 ∙ one.1)
      in-found (_ ∷ xs) (k ∷ ms) c = in-found xs ms c.1

      told-behind : (told : List ℕ) × (named_in found (drop (length copy.nodes) found) ≡ Some told)
      told-behind = let t = in-found x.nodes os x.copies in (t.0, ap (named_in found) (drop-front copy.nodes x.nodes) ∙ t.1)

  module _ (split : text ≡ 0x80 ∷ 3 ∷ ((root_piece g.nodes g.root).text ++ 0x2e ∷ [])) (short : has_walk (suc WALK_LIMIT) g.nodes g.root ≡ false)
      (a : Shown g.nodes g.root (root_piece g.nodes g.root) [] (visits (suc WALK_LIMIT) g.nodes (is_shared g.nodes g.root) g.root [])) where
    abbrev piece : Piece
    piece = root_piece g.nodes g.root

    held-once : (k : ℕ) → is_held_at g.nodes k ≡ true → times k a.origins ≤ 1
    held-once k held = let e = a.same k in let f = visits-once g.nodes g.root short k held in omega (arith, e, f)

    tail-split : (tail : List ℕ) → text ++ tail ≡ 0x80 ∷ 3 ∷ (piece.text ++ 0x2e ∷ tail)
    tail-split tail = ap (λ (l : List ℕ). l ++ tail) split ∙ ap (λ (l : List ℕ). 0x80 ∷ 3 ∷ l) (append_assoc piece.text (0x2e ∷ []) tail)

    reads-behind : piece.made ≤ NODE_LIMIT → ReadsBehind copy.nodes memo g text
    reads-behind room =
        let x = a.built start apart starts (omega (arith, room)) in
        let last : State = at_end start x.nodes (Value x.number ∷ []) x.memo in
        let read : Graph = record { nodes = copy.nodes ++ x.nodes; root = x.number } in
        record {
          copy = read;
          reads = λ at tail.
              let end : at + 2 + length piece.text + 1 ≡ at + length text = let e = ap length split in omega (arith, e, length-append piece.text (0x2e ∷ [])) in
              ap (read_from graphs 0 start at) (tail-split tail) ∙ proto_goes sr start at (piece.text ++ 0x2e ∷ tail) ∙ x.goes (at + 2) (0x2e ∷ tail)
              ∙ stop-read sr last x.number [] (at + 2 + length piece.text) tail refl ∙ ap (λ (k : ℕ). Ok (read, k)) end;
          same = both-same piece a.origins x held-once;
          named = λ oids named. told-behind piece a.origins x held-once oids named;
        }

    refused-behind : NODE_LIMIT < piece.made → RefusedBehind copy.nodes memo text
    refused-behind over at tail =
        let stops = stops_right start start (0x80 ∷ 3 ∷ []) piece.text (proto_goes sr start) (a.beyond start apart starts (omega arith) (omega (arith, over))) in
        let x = stops at (0x2e ∷ tail) in
        (x.0, ap (read_from graphs 0 start at) (tail-split tail) ∙ x.1)

-- What is written reads back behind another pickle.
pub read_behind : SpelledIsRead → WrittenReadsBehind
read_behind sr before g copy memo text is few graph e =
    let w = written g text (has_walk (WALK_LIMIT + 1) g.nodes g.root) e in
    let a = piece-shown sr g.nodes graph.each (is_shared g.nodes g.root) (suc WALK_LIMIT) g.root [] w.0 graph.rooted in
    record { within = reads-behind sr before g copy memo text is few graph w.1 w.0 a; beyond = refused-behind sr before g copy memo text is few graph w.1 w.0 a }

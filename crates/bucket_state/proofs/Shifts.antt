-- A graph that lies within another one, at greater numbers, is spelled as by itself.
use Rattle.std.proofs.Common.{◌≡◌, ℕ, zero, suc, ◌+◌, ◌<◌, false, List, [], ◌∷◌, map, length, Option, Some, refl, sym, ◌∙◌, ap, subst, arith, eqb}
use Rattle.std.specs.Prelude.{slice_get}
use Rattle.std.proofs.lemmas.Bool.{ne_eqb}
use Rattle.pickle_graph.specs.declared.node.Node.{Node}
use Rattle.pickle_graph.specs.declared.node.Node.TheVariants as nodes
use Rattle.pickle_graph.specs.declared.node.Act.{Act}
use Rattle.pickle_graph.specs.declared.node.Act.TheVariants.{Append, Set, Build}
use Rattle.pickle_graph.specs.Graph.{AllBelow, PairsBelow, ActBelow, ActsBelow}
use Rattle.pickle_graph.specs.Same.{HasOrigin, HaveOrigins, PairsStandFor, ActStandsFor, ActsStandFor, IsCopy, AllCopies, StandOnce, IsSame, has}
use Rattle.pickle_writing.specs.Spelling.{spelling_of}
use Rattle.pickle_graph.specs.Walks.{has_walk}
use Rattle.bucket_state.proofs.Ways.{walks_alike}
use Rattle.bucket_state.specs.Written.{shifted, shifted_act, shifted_pair}
use Rattle.bucket_state.proofs.Sound.{in_range}
use Rattle.bucket_state.proofs.Spelled.{same_spelled}

-- what a node names are numbers below a bound
abbrev pub NamesBelow : ℕ → Node → Type 0
NamesBelow n (nodes.Tuple items) = AllBelow n items
NamesBelow n (nodes.List items) = AllBelow n items
NamesBelow n (nodes.Dict pairs) = PairsBelow n pairs
NamesBelow n (nodes.Reference id) = id < n
NamesBelow n (nodes.Object callee arguments by_new acts) = (callee < n) × (arguments < n) × ActsBelow n acts
NamesBelow n _ = Unit {0}

abbrev pub AllNameBelow : ℕ → List Node → Type 0
AllNameBelow n [] = Unit {0}
AllNameBelow n (x ∷ xs) = NamesBelow n x × AllNameBelow n xs

-- ---- copies name numbers of copies

have_below : (origin ns ms : List ℕ) → HaveOrigins origin ns ms → AllBelow (length origin) ns
have_below origin [] [] h = tt
have_below origin (n ∷ ns) (m ∷ ms) h = (in_range origin n m h.0, have_below origin ns ms h.1)
have_below origin [] (m ∷ ms) h = absurd h
have_below origin (n ∷ ns) [] h = absurd h

pairs_below : (origin : List ℕ) (ns ms : List (ℕ × ℕ)) → PairsStandFor origin ns ms → PairsBelow (length origin) ns
pairs_below origin [] [] h = tt
pairs_below origin (n ∷ ns) (m ∷ ms) h = (in_range origin n.0 m.0 h.0, in_range origin n.1 m.1 h.1, pairs_below origin ns ms h.2)
pairs_below origin [] (m ∷ ms) h = absurd h
pairs_below origin (n ∷ ns) [] h = absurd h

act_below : (origin : List ℕ) (a b : Act) → ActStandsFor origin a b → ActBelow (length origin) a
act_below origin (Append n) (Append m) h = in_range origin n m h
act_below origin (Set n k) (Set m l) h = (in_range origin n m h.0, in_range origin k l h.1)
act_below origin (Build n) (Build m) h = in_range origin n m h
act_below origin (Append n) (Set m l) h = absurd h
act_below origin (Append n) (Build m) h = absurd h
act_below origin (Set n k) (Append m) h = absurd h
act_below origin (Set n k) (Build m) h = absurd h
act_below origin (Build n) (Append m) h = absurd h
act_below origin (Build n) (Set m l) h = absurd h

acts_below : (origin : List ℕ) (ns ms : List Act) → ActsStandFor origin ns ms → ActsBelow (length origin) ns
acts_below origin [] [] h = tt
acts_below origin (n ∷ ns) (m ∷ ms) h = (act_below origin n m h.0, acts_below origin ns ms h.1)
acts_below origin [] (m ∷ ms) h = absurd h
acts_below origin (n ∷ ns) [] h = absurd h

copy_below : (origin : List ℕ) (x : Node) (o : Option Node) → IsCopy origin x o → NamesBelow (length origin) x
copy_below origin (nodes.Tuple ns) (Some (nodes.Tuple ms)) h = have_below origin ns ms h
copy_below origin (nodes.List ns) (Some (nodes.List ms)) h = have_below origin ns ms h
copy_below origin (nodes.Dict ns) (Some (nodes.Dict ms)) h = pairs_below origin ns ms h
copy_below origin (nodes.Reference n) (Some (nodes.Reference m)) h = in_range origin n m h
copy_below origin (nodes.Object a b by_new acts) (Some (nodes.Object c d old_by_new old_acts)) h =
    (in_range origin a c h.called, in_range origin b d h.taken, acts_below origin acts old_acts h.done)
copy_below origin (nodes.Tuple ns) _ h = absurd h
copy_below origin (nodes.List ns) _ h = absurd h
copy_below origin (nodes.Dict ns) _ h = absurd h
copy_below origin (nodes.Reference ns) _ h = absurd h
copy_below origin (nodes.Object a b by_new acts) _ h = absurd h
copy_below origin _ o h = tt

pub copies_below : (origin : List ℕ) (ns cs : List Node) (ms : List ℕ) → AllCopies origin ns cs ms → AllNameBelow (length origin) cs
copies_below origin ns [] [] h = tt
copies_below origin ns (c ∷ cs) (m ∷ ms) h = (copy_below origin c (slice_get ns m) h.0, copies_below origin ns cs ms h.1)
copies_below origin ns [] (m ∷ ms) h = absurd h
copies_below origin ns (c ∷ cs) [] h = absurd h

pub as_many : (origin : List ℕ) (ns cs : List Node) (ms : List ℕ) → AllCopies origin ns cs ms → length ms ≡ length cs
as_many origin ns [] [] h = refl
as_many origin ns (c ∷ cs) (m ∷ ms) h = ap suc (as_many origin ns cs ms h.1)
as_many origin ns [] (m ∷ ms) h = absurd h
as_many origin ns (c ∷ cs) [] h = absurd h

-- ---- numbers one after the other

abbrev counting : ℕ → List Node → List ℕ
counting i [] = []
counting i (x ∷ xs) = i ∷ counting (i + 1) xs

counting_at : (i : ℕ) (xs : List Node) (n : ℕ) → n < length xs → slice_get (counting i xs) n ≡ Some (i + n)
counting_at i [] n l = absurd (omega arith)
counting_at i (x ∷ xs) zero l = let e : i ≡ i + 0 = omega arith in ap Some e
counting_at i (x ∷ xs) (suc n) l = let e : i + 1 + n ≡ i + suc n = omega arith in counting_at (i + 1) xs n (omega arith) ∙ ap Some e

counting_none : (m i : ℕ) (xs : List Node) → m < i → has m (counting i xs) ≡ false
counting_none m i [] l = refl
counting_none m i (x ∷ xs) l =
    let apart : eqb i m ≡ false = ne_eqb i m (λ e. omega arith) in
    rw apart (counting_none m (i + 1) xs (omega arith))

counting_once : (ns : List Node) (i : ℕ) (xs : List Node) → StandOnce ns (counting i xs)
counting_once ns i [] = tt
counting_once ns i (x ∷ xs) = (λ held. counting_none i (i + 1) xs (omega arith), counting_once ns (i + 1) xs)

-- ---- a shifted node is the one that a node stands for

module _ (origin : List ℕ) (by size : ℕ) (stands : (n : ℕ) → n < size → HasOrigin origin n (by + n)) where
  items_shifted : (ns : List ℕ) → AllBelow size ns → HaveOrigins origin ns (map (λ n. by + n) ns)
  items_shifted [] h = tt
  items_shifted (n ∷ ns) h = (stands n h.0, items_shifted ns h.1)

  pairs_shift : (ns : List (ℕ × ℕ)) → PairsBelow size ns → PairsStandFor origin ns (map (shifted_pair by) ns)
  pairs_shift [] h = tt
  pairs_shift (n ∷ ns) h = (stands n.0 h.0, stands n.1 h.1, pairs_shift ns h.2)

  act_shift : (act : Act) → ActBelow size act → ActStandsFor origin act (shifted_act by act)
  act_shift (Append n) h = stands n h
  act_shift (Set n k) h = (stands n h.0, stands k h.1)
  act_shift (Build n) h = stands n h

  acts_shift : (acts : List Act) → ActsBelow size acts → ActsStandFor origin acts (map (shifted_act by) acts)
  acts_shift [] h = tt
  acts_shift (act ∷ acts) h = (act_shift act h.0, acts_shift acts h.1)

  node_shift : (x : Node) → NamesBelow size x → IsCopy origin x (Some (shifted by x))
  node_shift nodes.None h = tt
  node_shift (nodes.Bool b) h = refl
  node_shift (nodes.Number n) h = refl
  node_shift (nodes.Wide b) h = refl
  node_shift (nodes.Float b) h = refl
  node_shift (nodes.Bytes b) h = refl
  node_shift (nodes.OldText b) h = refl
  node_shift (nodes.Text b) h = refl
  node_shift (nodes.Tuple ns) h = items_shifted ns h
  node_shift (nodes.List ns) h = items_shifted ns h
  node_shift (nodes.Dict ns) h = pairs_shift ns h
  node_shift (nodes.Global a b) h = (refl, refl)
  node_shift (nodes.Reference n) h = stands n h
  node_shift (nodes.Object a b by_new acts) h = record { called = stands a h.0; taken = stands b h.1; made = refl; done = acts_shift acts h.2 }

-- the nodes stand within others, with numbers greater by so many
abbrev pub Within : List Node → List Node → ℕ → Type 0
Within big small by = (n : ℕ) (x : Node) → slice_get small n ≡ Some x → slice_get big (by + n) ≡ Some (shifted by x)

within_copies : (origin : List ℕ) (big small : List Node) (by i : ℕ) (rest : List Node) → ((n : ℕ) → n < length small → HasOrigin origin n (by + n)) → Within big small by → ((k : ℕ) → slice_get small (i + k) ≡ slice_get rest k) → AllNameBelow (length small) rest → AllCopies origin big rest (counting (by + i) rest)
within_copies origin big small by i [] stands within at below = tt
within_copies origin big small by i (x ∷ rest) stands within at below =
    let place : i + 0 ≡ i = omega arith in
    let here : slice_get small i ≡ Some x = sym (ap (slice_get small) place) ∙ at 0 in
    let there : slice_get big (by + i) ≡ Some (shifted by x) = within i x here in
    let next : (k : ℕ) → slice_get small (i + 1 + k) ≡ slice_get rest k = λ k. (let e : i + 1 + k ≡ i + suc k = omega arith in ap (slice_get small) e) ∙ at (suc k) in
    let count : by + (i + 1) ≡ by + i + 1 = omega arith in (
      subst (IsCopy origin x) (sym there) (node_shift origin by (length small) stands x below.0),
      subst (λ (k : ℕ). AllCopies origin big rest (counting k rest)) count (within_copies origin big small by (i + 1) rest stands within next below.1),
    )

-- the graph within is the same as by itself
within_same : (big small : List Node) (by root : ℕ) → Within big small by → AllNameBelow (length small) small → root < length small → IsSame (record { nodes = big; root = by + root }) (record { nodes = small; root = root })
within_same big small by root within below low =
    let origin : List ℕ = counting (by + 0) small in
    let stands : (n : ℕ) → n < length small → HasOrigin origin n (by + n) = λ n l. counting_at (by + 0) small n l ∙ (let e : by + 0 + n ≡ by + n = omega arith in ap Some e) in
    let front : (k : ℕ) → 0 + k ≡ k = λ k. omega arith in
    record {
      origin = origin;
      each = within_copies origin big small by 0 small stands within (λ k. ap (slice_get small) (front k)) below;
      root = stands root low;
      once = counting_once big (by + 0) small;
    }

pub spelled_within : (big small : List Node) (by root : ℕ) → Within big small by → AllNameBelow (length small) small → root < length small → spelling_of big (by + root) ≡ spelling_of small root
spelled_within big small by root within below low =
    sym (same_spelled (record { nodes = big; root = by + root }) (record { nodes = small; root = root }) (within_same big small by root within below low))

-- walks within are those of the graph by itself
pub walks_within : (n : ℕ) (big small : List Node) (by root : ℕ) → Within big small by → AllNameBelow (length small) small → root < length small → has_walk n big (by + root) ≡ has_walk n small root
walks_within n big small by root within below low =
    let same = within_same big small by root within below low in
    sym (walks_alike n same.origin big small root (by + root) same.each same.root)

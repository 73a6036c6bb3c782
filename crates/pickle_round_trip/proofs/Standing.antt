-- Nodes that stand for those of a graph, as more nodes come.
use Rattle.std.proofs.Common.{◌≡◌, ℕ, zero, suc, ◌+◌, ◌^◌, ◌<◌, ◌≤◌, Bool, true, false, cond, List, [], ◌∷◌, ◌++◌, length, Option, Some, None, refl, arith, sym, ◌∙◌, ap, length-append, eqb, ltb, inl, inr}
use Rattle.std.specs.Prelude.{slice_get, slice_set}
use Rattle.std.specs.Ordering.{nat_cmp}
use Rattle.std.specs.BTreeMap.{is_at}
use Rattle.std.proofs.lemmas.Bool.{eqb-true, eq-eqb, le-ltb}
use Rattle.pickle_graph.specs.declared.node.Act.{Act}
use Rattle.pickle_graph.specs.declared.node.Act.TheVariants.{Append, Set, Build}
use Rattle.pickle_graph.specs.declared.node.Node.{Node}
use Rattle.pickle_graph.specs.declared.node.Node.TheVariants as kinds
use Rattle.pickle_reading.specs.Nodes.{State}
use Rattle.pickle_reading.specs.declared.state.Item.{Item}
use Rattle.pickle_graph.specs.Graph.{is_tuple}
use Rattle.pickle_reading.specs.Stacks.{put_at, node_at}
use Rattle.pickle_writing.specs.Spelling.{put_number}
use Rattle.pickle_graph.specs.Same.{HaveOrigins, PairsStandFor, ActStandsFor, ActsStandFor, IsCopy, AllCopies}
use Rattle.pickle_graph.specs.WalkLaws.{cases_bool, not_true}

-- ---- lists

pub get-more : (xs ys : List ℕ) (i x : ℕ) → slice_get xs i ≡ Some x → slice_get (xs ++ ys) i ≡ Some x
get-more [] ys i x h = absurd cc
get-more (a ∷ xs) ys zero x h = h
get-more (a ∷ xs) ys (suc i) x h = get-more xs ys i x h

pub get-here : (xs ys : List ℕ) (x i : ℕ) → i ≡ length xs → slice_get (xs ++ x ∷ ys) i ≡ Some x
get-here [] ys x i h = ap (slice_get (x ∷ ys)) h
get-here (a ∷ xs) ys x zero h = absurd (omega arith)
get-here (a ∷ xs) ys x (suc i) h = get-here xs ys x i (omega arith)

pub get-between : {A : Type 0} (xs ys : List A) (x : A) → slice_get (xs ++ x ∷ ys) (length xs) ≡ Some x
get-between [] ys x = refl
get-between (a ∷ xs) ys x = get-between xs ys x

pub set-between : {A : Type 0} (xs ys : List A) (x y : A) → slice_set (xs ++ x ∷ ys) (length xs) y ≡ xs ++ y ∷ ys
set-between [] ys x y = refl
set-between (a ∷ xs) ys x y = ap (λ zs. a ∷ zs) (set-between xs ys x y)

-- ---- copies

pub all-more : (o p ns ms : List ℕ) → HaveOrigins o ns ms → HaveOrigins (o ++ p) ns ms
all-more o p [] [] h = tt
all-more o p [] (m ∷ ms) h = absurd h
all-more o p (n ∷ ns) [] h = absurd h
all-more o p (n ∷ ns) (m ∷ ms) h = (get-more o p n m h.0, all-more o p ns ms h.1)

pub all-length : (o ns ms : List ℕ) → HaveOrigins o ns ms → length ns ≡ length ms
all-length o [] [] h = refl
all-length o [] (m ∷ ms) h = absurd h
all-length o (n ∷ ns) [] h = absurd h
all-length o (n ∷ ns) (m ∷ ms) h = ap (λ k. suc k) (all-length o ns ms h.1)

pairs-more : (o p : List ℕ) (ns ms : List (ℕ × ℕ)) → PairsStandFor o ns ms → PairsStandFor (o ++ p) ns ms
pairs-more o p [] [] h = tt
pairs-more o p [] (m ∷ ms) h = absurd h
pairs-more o p (n ∷ ns) [] h = absurd h
pairs-more o p (n ∷ ns) (m ∷ ms) h = (get-more o p n.0 m.0 h.0, get-more o p n.1 m.1 h.1, pairs-more o p ns ms h.2)

act-more : (o p : List ℕ) (n m : Act) → ActStandsFor o n m → ActStandsFor (o ++ p) n m
act-more o p (Append n) (Append m) h = get-more o p n m h
act-more o p (Set n x) (Set m y) h = (get-more o p n m h.0, get-more o p x y h.1)
act-more o p (Build n) (Build m) h = get-more o p n m h
act-more o p _ _ h = h

pub acts-more : (o p : List ℕ) (ns ms : List Act) → ActsStandFor o ns ms → ActsStandFor (o ++ p) ns ms
acts-more o p [] [] h = tt
acts-more o p [] (m ∷ ms) h = absurd h
acts-more o p (n ∷ ns) [] h = absurd h
acts-more o p (n ∷ ns) (m ∷ ms) h = (act-more o p n m h.0, acts-more o p ns ms h.1)

pub acts-append : (o : List ℕ) (ns ms xs ys : List Act) → ActsStandFor o ns ms → ActsStandFor o xs ys → ActsStandFor o (ns ++ xs) (ms ++ ys)
acts-append o [] [] xs ys h k = k
acts-append o [] (m ∷ ms) xs ys h k = absurd h
acts-append o (n ∷ ns) [] xs ys h k = absurd h
acts-append o (n ∷ ns) (m ∷ ms) xs ys h k = (h.0, acts-append o ns ms xs ys h.1 k)

pub copy-more : (o p : List ℕ) (node : Node) (other : Option Node) → IsCopy o node other → IsCopy (o ++ p) node other
copy-more o p (kinds.Tuple ns) (Some (kinds.Tuple ms)) h = all-more o p ns ms h
copy-more o p (kinds.List ns) (Some (kinds.List ms)) h = all-more o p ns ms h
copy-more o p (kinds.Dict ns) (Some (kinds.Dict ms)) h = pairs-more o p ns ms h
copy-more o p (kinds.Reference n) (Some (kinds.Reference m)) h = get-more o p n m h
copy-more o p (kinds.Object c a b acts) (Some (kinds.Object c' a' b' acts')) h =
    record { called = get-more o p c c' h.called; taken = get-more o p a a' h.taken; made = h.made; done = acts-more o p acts acts' h.done }
copy-more o p _ _ h = h

pub copies-more : (o p : List ℕ) (g hs : List Node) (ms : List ℕ) → AllCopies o g hs ms → AllCopies (o ++ p) g hs ms
copies-more o p g [] [] h = tt
copies-more o p g [] (m ∷ ms) h = absurd h
copies-more o p g (x ∷ rest) [] h = absurd h
copies-more o p g (x ∷ rest) (m ∷ ms) h = (copy-more o p x (slice_get g m) h.0, copies-more o p g rest ms h.1)

pub copies-append : (o : List ℕ) (g hs : List Node) (ms : List ℕ) (hs' : List Node) (ms' : List ℕ) → AllCopies o g hs ms → AllCopies o g hs' ms' → AllCopies o g (hs ++ hs') (ms ++ ms')
copies-append o g [] [] hs' ms' h k = k
copies-append o g [] (m ∷ ms) hs' ms' h k = absurd h
copies-append o g (x ∷ rest) [] hs' ms' h k = absurd h
copies-append o g (x ∷ rest) (m ∷ ms) hs' ms' h k = (h.0, copies-append o g rest ms hs' ms' h.1 k)

pub copies-length : (o : List ℕ) (g hs : List Node) (ms : List ℕ) → AllCopies o g hs ms → length hs ≡ length ms
copies-length o g [] [] h = refl
copies-length o g [] (m ∷ ms) h = absurd h
copies-length o g (x ∷ rest) [] h = absurd h
copies-length o g (x ∷ rest) (m ∷ ms) h = ap (λ k. suc k) (copies-length o g rest ms h.1)

-- ---- tuples stand for tuples

pub copy-tuple : (o : List ℕ) (x : Node) (found : Option Node) → IsCopy o x found → is_tuple found ≡ true → is_tuple (Some x) ≡ true
copy-tuple o (kinds.Tuple ns) found h t = refl
copy-tuple o kinds.None (Some (kinds.Tuple ms)) h t = absurd h
copy-tuple o (kinds.Bool b) (Some (kinds.Tuple ms)) h t = absurd h
copy-tuple o (kinds.Number z) (Some (kinds.Tuple ms)) h t = absurd h
copy-tuple o (kinds.Wide b) (Some (kinds.Tuple ms)) h t = absurd h
copy-tuple o (kinds.Float b) (Some (kinds.Tuple ms)) h t = absurd h
copy-tuple o (kinds.Bytes b) (Some (kinds.Tuple ms)) h t = absurd h
copy-tuple o (kinds.OldText b) (Some (kinds.Tuple ms)) h t = absurd h
copy-tuple o (kinds.Text b) (Some (kinds.Tuple ms)) h t = absurd h
copy-tuple o (kinds.List b) (Some (kinds.Tuple ms)) h t = absurd h
copy-tuple o (kinds.Dict b) (Some (kinds.Tuple ms)) h t = absurd h
copy-tuple o (kinds.Global a b) (Some (kinds.Tuple ms)) h t = absurd h
copy-tuple o (kinds.Reference b) (Some (kinds.Tuple ms)) h t = absurd h
copy-tuple o (kinds.Object c a b acts) (Some (kinds.Tuple ms)) h t = absurd h
copy-tuple o x None h t = absurd cc
copy-tuple o x (Some kinds.None) h t = absurd cc
copy-tuple o x (Some (kinds.Bool b)) h t = absurd cc
copy-tuple o x (Some (kinds.Number z)) h t = absurd cc
copy-tuple o x (Some (kinds.Wide b)) h t = absurd cc
copy-tuple o x (Some (kinds.Float b)) h t = absurd cc
copy-tuple o x (Some (kinds.Bytes b)) h t = absurd cc
copy-tuple o x (Some (kinds.OldText b)) h t = absurd cc
copy-tuple o x (Some (kinds.Text b)) h t = absurd cc
copy-tuple o x (Some (kinds.List b)) h t = absurd cc
copy-tuple o x (Some (kinds.Dict b)) h t = absurd cc
copy-tuple o x (Some (kinds.Global a b)) h t = absurd cc
copy-tuple o x (Some (kinds.Reference b)) h t = absurd cc
copy-tuple o x (Some (kinds.Object c a b acts)) h t = absurd cc

abbrev pub Tuples : List Node → List ℕ → List Node → Type 0
Tuples g o ns = (i m : ℕ) → slice_get o i ≡ Some m → is_tuple (slice_get g m) ≡ true → is_tuple (slice_get ns i) ≡ true

some_is : (a b : ℕ) → Some a ≡ Some b → a ≡ b
some_is a b e = cc

pub tuples-copies : (o : List ℕ) (g ns : List Node) (os : List ℕ) → AllCopies o g ns os → Tuples g os ns
tuples-copies o g [] [] h i m e t = absurd cc
tuples-copies o g [] (x ∷ os) h i m e t = absurd h
tuples-copies o g (n ∷ ns) [] h i m e t = absurd h
tuples-copies o g (n ∷ ns) (x ∷ os) h zero m e t =
    copy-tuple o n (slice_get g x) h.0 (ap (λ (y : ℕ). is_tuple (slice_get g y)) (some_is x m e) ∙ t)
tuples-copies o g (n ∷ ns) (x ∷ os) h (suc i) m e t = tuples-copies o g ns os h.1 i m e t

pub tuples-append : (g : List Node) (o os : List ℕ) (ns ns' : List Node) → length ns ≡ length o → Tuples g o ns → Tuples g os ns' → Tuples g (o ++ os) (ns ++ ns')
tuples-append g [] os [] ns' l h k i m e t = k i m e t
tuples-append g [] os (n ∷ ns) ns' l h k i m e t = absurd (omega (arith, l))
tuples-append g (x ∷ o) os [] ns' l h k i m e t = absurd (omega (arith, l))
tuples-append g (x ∷ o) os (n ∷ ns) ns' l h k zero m e t = h zero m e t
tuples-append g (x ∷ o) os (n ∷ ns) ns' l h k (suc i) m e t = tuples-append g o os ns ns' (omega (arith, l)) (λ j y. h (suc j) y) k i m e t

-- one more node, that is a tuple where it stands for one
pub tuples-one : (g : List Node) (m : ℕ) (x : Node) → (is_tuple (slice_get g m) ≡ true → is_tuple (Some x) ≡ true) → Tuples g (m ∷ []) (x ∷ [])
tuples-one g m x h zero y e t = h (ap (λ (k : ℕ). is_tuple (slice_get g k)) (some_is m y e) ∙ t)
tuples-one g m x h (suc i) y e t = absurd cc

-- ---- the memo

-- the memo leads to the node that stands for each node put
abbrev pub MemoHas : List ℕ → List (ℕ × ℕ) → List ℕ → Type 0
MemoHas o memo puts = (m k : ℕ) → put_number m puts ≡ Some k → (i : ℕ) × (node_at memo k ≡ Some i) × (slice_get o i ≡ Some m)

pub memo-more : (o p : List ℕ) (memo : List (ℕ × ℕ)) (puts : List ℕ) → MemoHas o memo puts → MemoHas (o ++ p) memo puts
memo-more o p memo puts h m k e = let x = h m k e in (x.0, x.1, get-more o p x.0 m x.2)

pub place-less : (m k : ℕ) (puts : List ℕ) → put_number m puts ≡ Some k → k < length puts
place-less m k [] e = absurd cc
place-less m k (x ∷ puts) e = elim (cases_bool (eqb x m)) [
  | inl t ↦ let s : length puts ≡ k = some_is (length puts) k (ap (λ (b : Bool). cond b (Some (length puts)) (put_number m puts)) (sym t) ∙ e) in omega (arith, s)
  | inr t ↦ let l = place-less m k puts (ap (λ (b : Bool). cond b (Some (length puts)) (put_number m puts)) (sym t) ∙ e) in omega (arith, l)
]

not_less : (a : ℕ) → ltb a a ≡ false
not_less a = le-ltb a a (omega arith)

differ : (a b : ℕ) → (a ≡ b → ⊥) → eqb a b ≡ false
differ a b h = not_true (eqb a b) (λ t. h (eqb-true a b t))

at-same : (q : ℕ) → is_at (nat_cmp q) q ≡ true
at-same q = let a = not_less q in let b = eq-eqb q q refl in rw (a, b) refl

at-other : (q k : ℕ) → (q ≡ k → ⊥) → is_at (nat_cmp q) k ≡ false
at-other q k h = let b = differ q k h in elim (cases_bool (ltb q k)) [ inl a ↦ rw a refl | inr a ↦ rw (a, b) refl ]

pub put-same : (memo : List (ℕ × ℕ)) (k v : ℕ) → node_at (put_at memo k v) k ≡ Some v
put-same [] k v = let a = at-same k in rw a refl
put-same (e ∷ memo) k v = elim (cases_bool (ltb k e.0)) [
  | inl a ↦ let s = at-same k in rw (a, s) refl
  | inr a ↦ elim (cases_bool (eqb k e.0)) [
    | inl b ↦ let s : is_at (nat_cmp k) e.0 ≡ true = ap (is_at (nat_cmp k)) (sym (eqb-true k e.0 b)) ∙ at-same k in rw (a, b, s) refl
    | inr b ↦ let ih = put-same memo k v in let s : is_at (nat_cmp k) e.0 ≡ false = rw (a, b) refl in rw (a, b, s) ih
  ]
]

pub put-other : (memo : List (ℕ × ℕ)) (k v q : ℕ) → (q ≡ k → ⊥) → node_at (put_at memo k v) q ≡ node_at memo q
put-other [] k v q h = let a = at-other q k h in rw a refl
put-other (e ∷ memo) k v q h = elim (cases_bool (ltb k e.0)) [
  | inl a ↦ let s = at-other q k h in rw (a, s) refl
  | inr a ↦ elim (cases_bool (eqb k e.0)) [
    | inl b ↦
        let is : k ≡ e.0 = eqb-true k e.0 b in
        let s : is_at (nat_cmp q) e.0 ≡ false = at-other q e.0 (λ t. h (t ∙ sym is)) in
        rw (a, b, s) refl
    | inr b ↦
        let ih = put-other memo k v q h in
        elim (cases_bool (is_at (nat_cmp q) e.0)) [ inl s ↦ rw (a, b, s) refl | inr s ↦ rw (a, b, s) ih ]
  ]
]

pub memo-put : (o : List ℕ) (memo : List (ℕ × ℕ)) (puts : List ℕ) (v m : ℕ) → MemoHas o memo puts → slice_get o v ≡ Some m → MemoHas o (put_at memo (length puts) v) (m ∷ puts)
memo-put o memo puts v m h here m' k e = elim (cases_bool (eqb m m')) [
  | inl t ↦
      let s : length puts ≡ k = some_is (length puts) k (ap (λ (b : Bool). cond b (Some (length puts)) (put_number m' puts)) (sym t) ∙ e) in
      (v, ap (node_at (put_at memo (length puts) v)) (sym s) ∙ put-same memo (length puts) v, here ∙ ap (λ (y : ℕ). Some y) (eqb-true m m' t))
  | inr t ↦
      let old : put_number m' puts ≡ Some k = ap (λ (b : Bool). cond b (Some (length puts)) (put_number m' puts)) (sym t) ∙ e in
      let less = place-less m' k puts old in
      let x = h m' k old in
      (x.0, put-other memo (length puts) v k (λ z. omega (arith, less, z)) ∙ x.1, x.2)
]

-- ---- a state

-- the nodes of a state stand for those of the graph with these numbers
pub record Stands (g : List Node) (o : List ℕ) (s : State) (puts : List ℕ) : Type 0 where
  pub count : length s.nodes ≡ length o
  pub tuples : Tuples g o s.nodes
  pub memo : MemoHas o s.memo puts
  pub few : length puts ≤ length o
  pub limit : s.limit ≤ 2 ^ 32

abbrev pub at_end : State → List Node → List Item → List (ℕ × ℕ) → State
at_end s new stack memo = record s { nodes = s.nodes ++ new; stack = stack; memo = memo }

pub stands-end : (g : List Node) (o os : List ℕ) (s : State) (puts puts' : List ℕ) (new : List Node) (stack : List Item) (memo : List (ℕ × ℕ)) → Stands g o s puts → length new ≡ length os → Tuples g os new →
    MemoHas (o ++ os) memo puts' → length puts' ≤ length puts + length os → Stands g (o ++ os) (at_end s new stack memo) puts'
stands-end g o os s puts puts' new stack memo st len tuples has few = record {
  count = omega (arith, st.count, len, length-append s.nodes new, length-append o os);
  tuples = tuples-append g o os s.nodes new st.count st.tuples tuples;
  memo = has;
  few = omega (arith, few, st.few, length-append o os);
  limit = st.limit;
}

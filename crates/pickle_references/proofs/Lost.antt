-- An id without a form stays without one. So where all references of a graph name something, they are told.
use Rattle.std.proofs.Common.{◌≡◌, ℕ, zero, suc, ◌+◌, ◌-◌, ◌<◌, ◌≤◌, Bool, true, false, cond, List, [], ◌∷◌, ◌++◌, length, drop, Option, Some, None, Result, Ok, Err, refl, arith, sym, ◌∙◌, ap, subst, append_assoc, length-append}
use Rattle.std.specs.Prelude.{slice_get, map}
use Rattle.std.proofs.lemmas.List.{append-nil, length-map}
use Rattle.pickle_ops.specs.declared.table.Op.{Op}
use Rattle.pickle_ops.specs.declared.table.Op.TheVariants as ops
use Rattle.pickle_ops.specs.declared.token.Token.{Token}
use Rattle.pickle_ops.specs.declared.token.TokenError.{TokenError}
use Rattle.pickle_ops.specs.Tokens.{token_at}
use Rattle.pickle_graph.specs.declared.node.Node.{Node}
use Rattle.pickle_graph.specs.declared.node.Node.TheVariants as kinds
use Rattle.pickle_reading.specs.declared.error.PickleError.{PickleError}
use Rattle.pickle_references.specs.References.{Finding}
use Rattle.pickle_references.specs.declared.part.Part.{Part}
use Rattle.pickle_references.specs.declared.references.Named.{Named}
use Rattle.pickle_references.specs.declared.references.Named.TheVariants.{Strong, Weak, Bad}
use Rattle.pickle_reading.specs.declared.reading.TheConstants.{NODE_LIMIT}
use Rattle.pickle_reading.specs.Nodes.{State}
use Rattle.pickle_reading.specs.declared.state.Item.{Item}
use Rattle.pickle_reading.specs.declared.state.Item.TheVariants.{Value, Mark}
use Rattle.pickle_graph.specs.Graph.{Graph}
use Rattle.pickle_reading.specs.Sound.{StackBelow, TupleBelow, TuplesBelow}
use Rattle.pickle_reading.specs.Nodes.{Outcome, step}
use Rattle.pickle_reading.specs.Reading.{graphs, read_from, after_token, is_stop, bytes_of, go_on, root_of, begun}
use Rattle.pickle_references.specs.References.{Left, parts, left_of, part_at, oid_of, named_first, named_by, named_by_token, find}
use Rattle.pickle_references.specs.Naming.{noted, noted_in}
use Rattle.pickle_references.specs.Named.{with_name, named_in, IsLeft, NamedIsTold, PartIsLeft}
use Rattle.pickle_references.specs.Cores.{core, name_of, has_form, number-core}
use Rattle.pickle_references.proofs.Grown.{After, Grown, token_names, step-grown}
use Rattle.pickle_references.proofs.Inside.{Inside, step-inside}
use Rattle.pickle_reading.specs.RunLaws.{Gives, read_from-gives}
use Rattle.pickle_references.proofs.Told.{Names, names-step, names-none, drop-front, core-behind}

-- ---- names that stay

get-left : {A : Type 0} (xs ys : List A) (i : ℕ) → i < length xs → slice_get (xs ++ ys) i ≡ slice_get xs i
get-left [] ys i h = absurd (omega arith)
get-left (x ∷ xs) ys zero h = refl
get-left (x ∷ xs) ys (suc i) h = get-left xs ys i (omega arith)

abbrev FoundInside : ℕ → Option Node → Type 0
FoundInside n None = Unit {0}
FoundInside n (Some x) = TupleBelow n x

found-inside : (n : ℕ) (xs : List Node) (i : ℕ) → TuplesBelow n xs → FoundInside n (slice_get xs i)
found-inside n [] i h = tt
found-inside n (x ∷ xs) zero h = h.0
found-inside n (x ∷ xs) (suc i) h = found-inside n xs i h.1

inside-core : (n : ℕ) (xs : List Node) → TuplesBelow n xs → TuplesBelow n (map core xs)
inside-core n [] h = tt
inside-core n (kinds.Tuple items ∷ xs) h = (h.0, inside-core n xs h.1)
inside-core n (_ ∷ xs) h = (tt, inside-core n xs h.1)

first-stays : (ns more : List Node) (items : List ℕ) → TupleBelow (length ns) (kinds.Tuple items) → named_first (ns ++ more) items ≡ named_first ns items
first-stays ns more [] h = refl
first-stays ns more (first ∷ rest) h = ap oid_of (get-left ns more first h.0)

by-stays : (ns more : List Node) (n : Option Node) → FoundInside (length ns) n → named_by (ns ++ more) n ≡ named_by ns n
by-stays ns more (Some (kinds.Tuple items)) h = first-stays ns more items h
by-stays ns more _ h = refl

name-stays : (ns more : List Node) (id : ℕ) → id < length ns → TuplesBelow (length ns) ns → name_of (ns ++ more) id ≡ name_of ns id
name-stays ns more id lt h = ap (named_by (ns ++ more)) (get-left ns more id lt) ∙ by-stays ns more (slice_get ns id) (found-inside (length ns) ns id h)

core-stays : (ns more : List Node) (id : ℕ) → id < length ns → TuplesBelow (length ns) ns → name_of (map core ns ++ more) id ≡ name_of ns id
core-stays ns more id lt h =
    let len : length (map core ns) ≡ length ns = length-map ns core in
    name-stays (map core ns) more id (omega (arith, len)) (subst (λ (n : ℕ). TuplesBelow n (map core ns)) (sym len) (inside-core (length ns) ns h)) ∙ number-core ns id

seen-stays : (op : Op) (ns more : List Node) (stack : List Item) → TuplesBelow (length ns) ns → StackBelow (length ns) stack → named_by_token op ns stack ≡ Bad → named_by_token op (map core ns ++ more) stack ≡ Bad
seen-stays ops.BinPersid ns more (Value v ∷ below) h k e = core-stays ns more v k.0 h ∙ e
seen-stays ops.BinPersid ns more _ h k e = refl
seen-stays _ ns more stack h k e = absurd cc

-- ---- lists without names

bad-none : (o : Option (List ℕ)) → with_name Bad o ≡ None
bad-none None = refl
bad-none (Some oids) = refl

none-name : (n : Named) (o p : Option (List ℕ)) → (o ≡ None → p ≡ None) → with_name n o ≡ None → with_name n p ≡ None
none-name n None p f h = ap (with_name n) (f refl)
none-name Bad (Some oids) p f h = bad-none p
none-name (Strong oid) (Some oids) p f h = absurd cc
none-name Weak (Some oids) p f h = absurd cc

none-left : (ns xs ys : List Node) → named_in ns xs ≡ None → named_in ns (xs ++ ys) ≡ None
none-left ns [] ys h = absurd cc
none-left ns (kinds.Reference id ∷ xs) ys h = none-name (name_of ns id) (named_in ns xs) (named_in ns (xs ++ ys)) (none-left ns xs ys) h
none-left ns (_ ∷ xs) ys h = none-left ns xs ys h

none-right : (ns xs ys : List Node) → named_in ns ys ≡ None → named_in ns (xs ++ ys) ≡ None
none-right ns [] ys h = h
none-right ns (kinds.Reference id ∷ xs) ys h = ap (with_name (name_of ns id)) (none-right ns xs ys h)
none-right ns (_ ∷ xs) ys h = none-right ns xs ys h

-- whatever comes behind, the nodes behind so many have an id without a form
pub record Lost (n : ℕ) (s : State) : Type 0 where
  always : (more : List Node) → named_in (map core s.nodes ++ more) (drop n (map core s.nodes ++ more)) ≡ None

-- there are so many nodes, with cores in the place of nodes
many-cores : (n : ℕ) (ns : List Node) → n ≤ length ns → n ≤ length (map core ns)
many-cores n ns h = let e : length (map core ns) ≡ length ns = length-map ns core in omega (arith, e, h)

lost-here : (n : ℕ) (op : Op) (s s' : State) → Grown s.nodes (token_names op s.stack) s' → n ≤ length s.nodes → Inside s → named_by_token op s.nodes s.stack ≡ Bad → Lost n s'
lost-here n op s s' g first h bad = record {
  always = λ more.
      let ns : List Node = map core s.nodes in
      let all : List Node = (ns ++ g.more) ++ more in
      let still : named_by_token op all s.stack ≡ Bad = ap (λ (l : List Node). named_by_token op l s.stack) (append_assoc ns g.more more) ∙ seen-stays op s.nodes (g.more ++ more) s.stack h.tuples h.values bad in
      let some : n ≤ length ns = many-cores n s.nodes first in
      let wide : n ≤ length (ns ++ g.more) = let e = length-append ns g.more in omega (arith, e, some) in
      let here : named_in all (drop n (ns ++ g.more)) ≡ None = ap (named_in all) (drop-front n ns g.more some) ∙ none-right all (drop n ns) g.more (g.says all ∙ ap (λ x. with_name x (Some [])) still) in
      ap (λ (l : List Node). named_in (l ++ more) (drop n (l ++ more))) g.cores
      ∙ ap (named_in all) (drop-front n (ns ++ g.more) more wide) ∙ none-left all (drop n (ns ++ g.more)) more here;
}

lost-on : (n : ℕ) (op : Op) (s s' : State) → Grown s.nodes (token_names op s.stack) s' → Lost n s → Lost n s'
lost-on n op s s' g h = record {
  always = λ more.
      let ns : List Node = map core s.nodes in
      ap (λ (l : List Node). named_in (l ++ more) (drop n (l ++ more))) g.cores ∙ ap (λ (l : List Node). named_in l (drop n l)) (append_assoc ns g.more more) ∙ h.always (g.more ++ more);
}

abbrev whole : Graph → ℕ → Result (Graph × ℕ) PickleError
whole graph next = Ok (graph, next)

abbrev rooted : State → ℕ → Graph
rooted s v = record { nodes = s.nodes; root = v }

-- this is said by a pickle, which leaves some memo
abbrev Says : Result Left PickleError → Part → Type 0
Says read part = (left : List (ℕ × ℕ)) × (read ≡ Ok (part, left))

module _ (n : ℕ) (graph : Graph) (next : ℕ) where
  ends : (s : State) (v k : ℕ) → whole (rooted s v) k ≡ whole graph next → (rooted s v ≡ graph) × (k ≡ next)
  ends s v k e =
      let found : Graph × ℕ = (rooted s v, k) in
      let wanted : Graph × ℕ = (graph, next) in
      let pair : found ≡ wanted = cc in
      (ap (λ (x : Graph × ℕ). x.0) pair, ap (λ (x : Graph × ℕ). x.1) pair)

  lost-end : (at k : ℕ) (s : State) (stack : List Item) → Lost n s → root_of at k s stack ≡ Ok (graph, next) → named_in graph.nodes (drop n graph.nodes) ≡ None
  lost-end at k s (Value v ∷ below) h e =
      ap (λ (g : Graph). named_in g.nodes (drop n g.nodes)) (sym (ends s v k e).0) ∙ sym (core-behind n s.nodes) ∙ ap (λ (l : List Node). named_in l (drop n l)) (sym (append-nil (map core s.nodes))) ∙ h.always []
  lost-end at k s (Mark ∷ below) h e = absurd cc
  lost-end at k s [] h e = absurd cc

  lost-go : (op : Op) (s : State) (outcome : Outcome) (go : State → Result (Graph × ℕ) PickleError) → ((s' : State) → Lost n s' → go s' ≡ Ok (graph, next) → named_in graph.nodes (drop n graph.nodes) ≡ None) →
      After (Grown s.nodes (token_names op s.stack)) outcome → Lost n s → go_on go outcome ≡ Ok (graph, next) → named_in graph.nodes (drop n graph.nodes) ≡ None
  lost-go op s (Ok s') go later g h e = later s' (lost-on n op s s' g h) e
  lost-go op s (Err x) go later g h e = absurd cc

  lost-token : (s : State) (at : ℕ) (bytes : List ℕ) (token : Result (Token × ℕ) TokenError) (go : ℕ → State → Result (Graph × ℕ) PickleError) → Lost n s →
      ((k : ℕ) (s' : State) → Lost n s' → go k s' ≡ Ok (graph, next) → named_in graph.nodes (drop n graph.nodes) ≡ None) → after_token graphs go s at bytes token ≡ Ok (graph, next) → named_in graph.nodes (drop n graph.nodes) ≡ None
  lost-token s at bytes (Err x) go h later e = absurd cc
  lost-token s at bytes (Ok found) go h later e = test (is_stop found.0.op) e
    where
      test : (b : Bool) → cond b (root_of at found.1 s s.stack) (go_on (go found.1) (step found.0.op at found.0.number (bytes_of at bytes found.0) s)) ≡ Ok (graph, next) → named_in graph.nodes (drop n graph.nodes) ≡ None
      test true k = lost-end at found.1 s s.stack h k
      test false k = lost-go found.0.op s (step found.0.op at found.0.number (bytes_of at bytes found.0) s) (go found.1) (later found.1) (step-grown found.0.op at found.0.number (bytes_of at bytes found.0) s) h k

  lost-from : (skip : ℕ) (s : State) (at : ℕ) (bytes : List ℕ) → Lost n s → read_from graphs skip s at bytes ≡ Ok (graph, next) → named_in graph.nodes (drop n graph.nodes) ≡ None
  unfolding read_from
  lost-from zero s at [] h e = absurd cc
  lost-from (suc skip) s at [] h e = absurd cc
  lost-from (suc skip) s at (byte ∷ bytes) h e = lost-from skip s (at + 1) bytes h e
  lost-from zero s at (byte ∷ bytes) h e =
      lost-token s at (byte ∷ bytes) (token_at at (byte ∷ bytes)) (λ k s'. read_from graphs (k - at - 1) s' (at + 1) bytes) h (λ k s' h' e'. lost-from (k - at - 1) s' (at + 1) bytes h' e') e

  module _ (oids : List ℕ) (named : named_in graph.nodes (drop n graph.nodes) ≡ Some oids) where
    abbrev part : Part
    part = record { pickle = graph; oids = oids; behind = next }

    back-end : (at k : ℕ) (s : State) (stack : List Item) (have : List ℕ) → Names n s have → root_of at k s stack ≡ Ok (graph, next) → Says (left_of at k (record { state = s; oids = have }) stack) part
    back-end at k s (Value v ∷ below) have h e =
        let same = ends s v k e in
        let all : Some have ≡ Some oids = sym h.named ∙ ap (λ (g : Graph). named_in g.nodes (drop n g.nodes)) same.0 ∙ named in
        let all_oids : have ≡ oids = cc in (
          s.memo,
          ap (λ (g : Graph). Ok (record { pickle = g; oids = have; behind = k }, s.memo)) same.0
              ∙ ap (λ (l : List ℕ). Ok (record { pickle = graph; oids = l; behind = k }, s.memo)) all_oids ∙ ap (λ (m : ℕ). Ok (record { pickle = graph; oids = oids; behind = m }, s.memo)) same.1,
        )
    back-end at k s (Mark ∷ below) have h e = absurd cc
    back-end at k s [] have h e = absurd cc

    module _ (more : Finding → Result Left PickleError) (go : State → Result (Graph × ℕ) PickleError) (later : (s : State) (have : List ℕ) → Names n s have → Inside s → go s ≡ Ok (graph, next) → Says (more (record { state = s; oids = have })) part) (gone : (s : State) → Lost n s → go s ≡ Ok (graph, next) → named_in graph.nodes (drop n graph.nodes) ≡ None) where
      back-note : (op : Op) (at : ℕ) (s s' : State) (have : List ℕ) (name : Named) → Grown s.nodes (token_names op s.stack) s' → Inside s → Inside s' → Names n s have → named_by_token op s.nodes s.stack ≡ name → go s' ≡ Ok (graph, next) →
          Says (go_on more (noted at s' have name)) part
      back-note op at s s' have (Strong oid) g i i' h is e =
          later s' (have ++ oid ∷ []) (names-step n op s s' have (oid ∷ []) g h (ap has_form is) (ap (λ x. with_name x (Some [])) is)) i' e
      back-note op at s s' have Weak g i i' h is e =
          later s' have (subst (λ (l : List ℕ). Names n s' l) (append-nil have) (names-step n op s s' have [] g h (ap has_form is) (ap (λ x. with_name x (Some [])) is))) i' e
      back-note op at s s' have Bad g i i' h is e = absurd (let none = gone s' (lost-here n op s s' g h.first i is) e in cc)

      back-go : (op : Op) (at : ℕ) (s : State) (have : List ℕ) (outcome : Outcome) → After (Grown s.nodes (token_names op s.stack)) outcome → Inside s → After Inside outcome → Names n s have → go_on go outcome ≡ Ok (graph, next) →
          Says (go_on more (noted_in at have (named_by_token op s.nodes s.stack) outcome)) part
      back-go op at s have (Ok s') g i i' h e = back-note op at s s' have (named_by_token op s.nodes s.stack) g i i' h refl e
      back-go op at s have (Err x) g i i' h e = absurd cc

    back-token : (s : State) (have : List ℕ) (at : ℕ) (bytes : List ℕ) (token : Result (Token × ℕ) TokenError) (more : ℕ → Finding → Result Left PickleError) (go : ℕ → State → Result (Graph × ℕ) PickleError) → Names n s have → Inside s →
        ((k : ℕ) (s' : State) (have' : List ℕ) → Names n s' have' → Inside s' → go k s' ≡ Ok (graph, next) → Says (more k (record { state = s'; oids = have' })) part) →
        ((k : ℕ) (s' : State) → Lost n s' → go k s' ≡ Ok (graph, next) → named_in graph.nodes (drop n graph.nodes) ≡ None) →
        after_token graphs go s at bytes token ≡ Ok (graph, next) → Says (after_token parts more (record { state = s; oids = have }) at bytes token) part
    back-token s have at bytes (Err x) more go h i later gone e = absurd cc
    back-token s have at bytes (Ok found) more go h i later gone e = test (is_stop found.0.op) e
      where
        test : (b : Bool) → cond b (root_of at found.1 s s.stack) (go_on (go found.1) (step found.0.op at found.0.number (bytes_of at bytes found.0) s)) ≡ Ok (graph, next) →
            Says (cond b (left_of at found.1 (record { state = s; oids = have }) s.stack) (go_on (more found.1) (find found.0.op at found.0.number (bytes_of at bytes found.0) (record { state = s; oids = have })))) part
        test true k = back-end at found.1 s s.stack have h k
        test false k =
            back-go (more found.1) (go found.1) (later found.1) (gone found.1) found.0.op at s have (step found.0.op at found.0.number (bytes_of at bytes found.0) s)
            (step-grown found.0.op at found.0.number (bytes_of at bytes found.0) s) i (step-inside found.0.op at found.0.number (bytes_of at bytes found.0) s i) h k

    back-from : (skip : ℕ) (s : State) (have : List ℕ) (at : ℕ) (bytes : List ℕ) → Names n s have → Inside s → read_from graphs skip s at bytes ≡ Ok (graph, next) → Says (read_from parts skip (record { state = s; oids = have }) at bytes) part
    unfolding read_from
    back-from zero s have at [] h i e = absurd cc
    back-from (suc skip) s have at [] h i e = absurd cc
    back-from (suc skip) s have at (byte ∷ bytes) h i e = back-from skip s have (at + 1) bytes h i e
    back-from zero s have at (byte ∷ bytes) h i e =
        back-token s have at (byte ∷ bytes) (token_at at (byte ∷ bytes)) (λ k f. read_from parts (k - at - 1) f (at + 1) bytes) (λ k s'. read_from graphs (k - at - 1) s' (at + 1) bytes) h i
        (λ k s' have' h' i' e'. back-from (k - at - 1) s' have' (at + 1) bytes h' i' e') (λ k s' h' e'. lost-from (k - at - 1) s' (at + 1) bytes h' e') e

-- what may be left is inside at the start of the next pickle
inside-begun : (nodes : List Node) (memo : List (ℕ × ℕ)) → IsLeft nodes memo → Inside (begun NODE_LIMIT nodes memo)
inside-begun nodes memo h = record { tuples = h.tuples; values = tt; puts = h.puts }

-- Where a graph is read and its own references all name something, that is what the pickle says.
pub named-told : NamedIsTold
named-told nodes memo at bytes graph next oids is reads named =
    back-from (length nodes) graph next oids named 0 (begun NODE_LIMIT nodes memo) [] at bytes (names-none nodes memo) (inside-begun nodes memo is) reads

-- ---- what is left

abbrev InsideFound : Finding → Type 0
InsideFound f = Inside f.state

abbrev IsLeftBy : Left → Type 0
IsLeftBy left = IsLeft left.0.pickle.nodes left.1

noted-inside : (at : ℕ) (oids : List ℕ) (named : Named) (outcome : Outcome) → After Inside outcome → Gives InsideFound (noted_in at oids named outcome)
noted-inside at oids (Strong oid) (Ok s) h = h
noted-inside at oids Weak (Ok s) h = h
noted-inside at oids Bad (Ok s) h = tt
noted-inside at oids named (Err e) h = tt

left-inside : (at next : ℕ) (f : Finding) (stack : List Item) → Inside f.state → Gives IsLeftBy (left_of at next f stack)
left-inside at next f (Value v ∷ below) h = record { tuples = h.tuples; puts = h.puts }
left-inside at next f _ h = tt

given : (P : Left → Type 0) (read : Result Left PickleError) (left : Left) → Gives P read → read ≡ Ok left → P left
given P (Ok x) left h e = let same : x ≡ left = cc in subst P same h
given P (Err x) left h e = absurd cc

-- What a pickle leaves is what one may leave.
pub part-left : PartIsLeft
part-left nodes memo at bytes part left is e =
    given IsLeftBy (part_at nodes memo at bytes) (part, left)
    (read_from-gives parts InsideFound IsLeftBy (λ op a number held f h. noted-inside a f.oids (named_by_token op f.state.nodes f.state.stack) (step op a number held f.state) (step-inside op a number held f.state h))
    (λ a k f h. left-inside a k f f.state.stack h) 0 (record { state = begun NODE_LIMIT nodes memo; oids = [] }) at bytes (inside-begun nodes memo is)) e

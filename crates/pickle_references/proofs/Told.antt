-- Where the references of a pickle are told, its graph is read, and its references name them.
use Rattle.std.proofs.Common.{◌≡◌, ℕ, zero, suc, ◌+◌, ◌-◌, ◌≤◌, Bool, true, false, cond, List, [], ◌∷◌, ◌++◌, length, drop, Option, Some, Result, Ok, Err, refl, sym, ◌∙◌, ap, subst, arith, length-append}
use Rattle.std.specs.Prelude.{map}
use Rattle.std.proofs.lemmas.List.{append-nil, length-map}
use Rattle.pickle_ops.specs.declared.table.Op.{Op}
use Rattle.pickle_ops.specs.declared.table.Op.TheVariants as ops
use Rattle.pickle_ops.specs.declared.token.Token.{Token}
use Rattle.pickle_ops.specs.declared.token.TokenError.{TokenError}
use Rattle.pickle_ops.specs.Tokens.{token_at}
use Rattle.pickle_graph.specs.declared.node.Node.{Node}
use Rattle.pickle_reading.specs.declared.error.PickleError.{PickleError}
use Rattle.pickle_references.specs.References.{Finding}
use Rattle.pickle_references.specs.declared.part.Part.{Part}
use Rattle.pickle_references.specs.declared.references.Named.{Named}
use Rattle.pickle_references.specs.declared.references.Named.TheVariants.{Strong, Weak, Bad}
use Rattle.pickle_reading.specs.declared.reading.TheConstants.{NODE_LIMIT}
use Rattle.pickle_reading.specs.Nodes.{State}
use Rattle.pickle_reading.specs.declared.state.Item.{Item}
use Rattle.pickle_reading.specs.declared.state.Item.TheVariants.{Value, Mark}
use Rattle.pickle_graph.specs.Graph.{Graph}
use Rattle.pickle_reading.specs.Nodes.{Outcome, step}
use Rattle.pickle_reading.specs.Reading.{graphs, read_from, after_token, is_stop, bytes_of, go_on, root_of, begun}
use Rattle.pickle_references.specs.References.{Left, parts, left_of, named_by_token, find}
use Rattle.pickle_references.specs.Naming.{noted, noted_in}
use Rattle.pickle_references.specs.Named.{with_name, named_in, ToldIsNamed}
use Rattle.pickle_references.specs.Cores.{core, has_form, number-core, in-core, name-on, in-on, in-append}
use Rattle.pickle_references.proofs.Grown.{After, Grown, token_names, step-grown}

-- a graph was read up to a place, as a pickle says that has so many nodes before its own
pub record Told (read : Result (Graph × ℕ) PickleError) (n : ℕ) (part : Part) : Type 0 where
  pub reads : read ≡ Ok (part.pickle, part.behind)
  pub named : named_in part.pickle.nodes (drop n part.pickle.nodes) ≡ Some part.oids

-- the references among the nodes so far behind so many name these oids
pub record Names (n : ℕ) (s : State) (oids : List ℕ) : Type 0 where
  pub named : named_in s.nodes (drop n s.nodes) ≡ Some oids
  pub first : n ≤ length s.nodes

-- ---- lists

pub drop-front : (n : ℕ) (xs ys : List Node) → n ≤ length xs → drop n (xs ++ ys) ≡ drop n xs ++ ys
drop-front zero xs ys h = refl
drop-front (suc n) [] ys h = absurd (omega arith)
drop-front (suc n) (x ∷ xs) ys h = drop-front n xs ys (omega arith)

pub drop-core : (n : ℕ) (xs : List Node) → drop n (map core xs) ≡ map core (drop n xs)
drop-core zero xs = refl
drop-core (suc n) [] = refl
drop-core (suc n) (x ∷ xs) = drop-core n xs

pub drop-whole : (xs : List Node) → drop (length xs) xs ≡ []
drop-whole [] = refl
drop-whole (x ∷ xs) = drop-whole xs

-- what is named behind so many nodes depends on their cores alone
pub core-behind : (n : ℕ) (ns : List Node) → named_in (map core ns) (drop n (map core ns)) ≡ named_in ns (drop n ns)
core-behind n ns = ap (named_in (map core ns)) (drop-core n ns) ∙ in-core ns (drop n ns)

-- what a token names is the same among the nodes that come behind
seen-on : (op : Op) (ns more : List Node) (stack : List Item) → has_form (named_by_token op ns stack) ≡ true → named_by_token op (map core ns ++ more) stack ≡ named_by_token op ns stack
seen-on ops.BinPersid ns more (Value v ∷ below) h = name-on (map core ns) more v (ap has_form (number-core ns v) ∙ h) ∙ number-core ns v
seen-on ops.BinPersid ns more _ h = refl
seen-on _ ns more stack h = refl

-- there are as many nodes behind a token, or more
pub grown-longer : (ns : List Node) (names : List Node → Option (List ℕ)) (s' : State) → Grown ns names s' → length ns ≤ length s'.nodes
grown-longer ns names s' g =
    let e : length (map core s'.nodes) ≡ length (map core ns ++ g.more) = ap length g.cores in
    let a : length (map core s'.nodes) ≡ length s'.nodes = length-map s'.nodes core in
    let b : length (map core ns) ≡ length ns = length-map ns core in
    let c : length (map core ns ++ g.more) ≡ length (map core ns) + length g.more = length-append (map core ns) g.more in
    omega (arith, e, a, b, c)

-- the oids with what a token names
pub names-step : (n : ℕ) (op : Op) (s s' : State) (oids new : List ℕ) → Grown s.nodes (token_names op s.stack) s' → Names n s oids → has_form (named_by_token op s.nodes s.stack) ≡ true → with_name (named_by_token op s.nodes s.stack) (Some []) ≡ Some new → Names n s' (oids ++ new)
names-step n op s s' oids new g h form e =
    let ns : List Node = map core s.nodes in
    let many : length ns ≡ length s.nodes = length-map s.nodes core in
    let before : named_in ns (drop n ns) ≡ Some oids = core-behind n s.nodes ∙ h.named in
    let behind : named_in (ns ++ g.more) g.more ≡ Some new = g.says (ns ++ g.more) ∙ ap (λ x. with_name x (Some [])) (seen-on op s.nodes g.more s.stack form) ∙ e in
    record {
      named = sym (core-behind n s'.nodes) ∙ ap (λ (l : List Node). named_in l (drop n l)) g.cores
          ∙ ap (named_in (ns ++ g.more)) (drop-front n ns g.more (omega (arith, many, h.first)))
          ∙ in-append (ns ++ g.more) (drop n ns) g.more oids new (in-on ns g.more (drop n ns) oids before) behind;
      first = let l = grown-longer s.nodes (token_names op s.stack) s' g in omega (arith, l, h.first);
    }

told-end : (n at next : ℕ) (f : Finding) (stack : List Item) (part : Part) (left : List (ℕ × ℕ)) → Names n f.state f.oids → left_of at next f stack ≡ Ok (part, left) → Told (root_of at next f.state stack) n part
told-end n at next f (Value v ∷ below) part left h e =
    let own : Part = record { pickle = record { nodes = f.state.nodes; root = v }; oids = f.oids; behind = next } in
    let pair : (own, f.state.memo) ≡ (part, left) = cc in
    let same : own ≡ part = ap (λ (x : Part × List (ℕ × ℕ)). x.0) pair in
    subst (λ (p : Part). Told (Ok (own.pickle, own.behind)) n p) same (record { reads = refl; named = h.named })
told-end n at next f (Mark ∷ below) part left h e = absurd cc
told-end n at next f [] part left h e = absurd cc

module _ (n : ℕ) (part : Part) (left : List (ℕ × ℕ)) (more : Finding → Result Left PickleError) (go : State → Result (Graph × ℕ) PickleError) (later : (f : Finding) → Names n f.state f.oids → more f ≡ Ok (part, left) → Told (go f.state) n part) where
  told-note : (op : Op) (at : ℕ) (s s' : State) (have : List ℕ) (named : Named) → Grown s.nodes (token_names op s.stack) s' → Names n s have → named_by_token op s.nodes s.stack ≡ named → go_on more (noted at s' have named) ≡ Ok (part, left) → Told (go s') n part
  told-note op at s s' have (Strong oid) g h is e =
      later (record { state = s'; oids = have ++ oid ∷ [] }) (names-step n op s s' have (oid ∷ []) g h (ap has_form is) (ap (λ x. with_name x (Some [])) is)) e
  told-note op at s s' have Weak g h is e =
      later (record { state = s'; oids = have })
      (subst (λ (l : List ℕ). Names n s' l) (append-nil have) (names-step n op s s' have [] g h (ap has_form is) (ap (λ x. with_name x (Some [])) is))) e
  told-note op at s s' have Bad g h is e = absurd cc

  told-go : (op : Op) (at : ℕ) (s : State) (have : List ℕ) (outcome : Outcome) → After (Grown s.nodes (token_names op s.stack)) outcome → Names n s have → go_on more (noted_in at have (named_by_token op s.nodes s.stack) outcome) ≡ Ok (part, left) → Told (go_on go outcome) n part
  told-go op at s have (Ok s') g h e = told-note op at s s' have (named_by_token op s.nodes s.stack) g h refl e
  told-go op at s have (Err x) g h e = absurd cc

module _ (n : ℕ) (part : Part) (left : List (ℕ × ℕ)) where
  told-token : (f : Finding) (at : ℕ) (bytes : List ℕ) (token : Result (Token × ℕ) TokenError) (more : ℕ → Finding → Result Left PickleError) (go : ℕ → State → Result (Graph × ℕ) PickleError) → Names n f.state f.oids →
      ((k : ℕ) (f' : Finding) → Names n f'.state f'.oids → more k f' ≡ Ok (part, left) → Told (go k f'.state) n part) →
      after_token parts more f at bytes token ≡ Ok (part, left) → Told (after_token graphs go f.state at bytes token) n part
  told-token f at bytes (Err x) more go h later e = absurd cc
  told-token f at bytes (Ok found) more go h later e = test (is_stop found.0.op) e
    where
      test : (b : Bool) → cond b (left_of at found.1 f f.state.stack) (go_on (more found.1) (find found.0.op at found.0.number (bytes_of at bytes found.0) f)) ≡ Ok (part, left) →
          Told (cond b (root_of at found.1 f.state f.state.stack) (go_on (go found.1) (step found.0.op at found.0.number (bytes_of at bytes found.0) f.state))) n part
      test true k = told-end n at found.1 f f.state.stack part left h k
      test false k =
          told-go n part left (more found.1) (go found.1) (later found.1) found.0.op at f.state f.oids (step found.0.op at found.0.number (bytes_of at bytes found.0) f.state)
          (step-grown found.0.op at found.0.number (bytes_of at bytes found.0) f.state) h k

  told-from : (skip : ℕ) (f : Finding) (at : ℕ) (bytes : List ℕ) → Names n f.state f.oids → read_from parts skip f at bytes ≡ Ok (part, left) → Told (read_from graphs skip f.state at bytes) n part
  unfolding read_from
  told-from zero f at [] h e = absurd cc
  told-from (suc skip) f at [] h e = absurd cc
  told-from (suc skip) f at (byte ∷ bytes) h e = told-from skip f (at + 1) bytes h e
  told-from zero f at (byte ∷ bytes) h e =
      told-token f at (byte ∷ bytes) (token_at at (byte ∷ bytes)) (λ k f'. read_from parts (k - at - 1) f' (at + 1) bytes) (λ k s'. read_from graphs (k - at - 1) s' (at + 1) bytes) h
      (λ k f' h' e'. told-from (k - at - 1) f' (at + 1) bytes h' e') e

-- nothing is named yet
pub names-none : (nodes : List Node) (memo : List (ℕ × ℕ)) → Names (length nodes) (begun NODE_LIMIT nodes memo) []
names-none nodes memo = record { named = ap (named_in nodes) (drop-whole nodes); first = omega arith }

-- What a pickle says is its graph, and its oids are those that its own references name.
pub told-named : ToldIsNamed
told-named nodes memo at bytes part left h =
    let t = told-from (length nodes) part left 0 (record { state = begun NODE_LIMIT nodes memo; oids = [] }) at bytes (names-none nodes memo) h in
    record { reads = t.reads; named = t.named }

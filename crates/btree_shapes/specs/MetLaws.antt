-- Laws of the objects that a call comes to.
use Rattle.std.proofs.Common.{◌≡◌, ℕ, zero, suc, ◌-◌, ◌<◌, ◌^◌, Bool, true, false, List, [], ◌∷◌, ◌++◌, map, length, Option, Result, Ok, Err, refl, sym, ◌∙◌, ap, subst, arith, append_assoc, append-nil, inl, inr}
use Rattle.std.specs.Prelude.{◌&&◌, if◌then◌else◌}
use Rattle.pickle_graph.specs.Graph.{Graph}
use Rattle.btree_family.specs.declared.key.Key.{Key}
use Rattle.btree_shapes.specs.declared.error.TreeError.{TreeError}
use Rattle.btree_shapes.specs.declared.error.TreeError.TheVariants.{NotATree, NodeMissing, BadKey}
use Rattle.btree_shapes.specs.declared.node.Node.{Node}
use Rattle.btree_shapes.specs.declared.node.Node.TheVariants as node
use Rattle.btree_shapes.specs.declared.path.Step.{Step}
use Rattle.btree_shapes.specs.declared.space.Call.{Call}
use Rattle.btree_shapes.specs.declared.space.Call.TheVariants.{Read}
use Rattle.btree_shapes.specs.declared.way.Found.{Found}
use Rattle.btree_shapes.specs.Met.{ReadsFirst, ReadsUpTo, met_below, met_for, met_from, oids_of}
use Rattle.btree_shapes.specs.Nodes.{Held, Nothing, Foreign, Holds, child_for, node_suits, objects_of}
use Rattle.btree_shapes.specs.Spaces.{IsLogged}
use Rattle.btree_shapes.specs.Ways.{below_step, down_held, down_node, reads, stands_in, step_oid, way_from}
use Rattle.btree_shapes.specs.Steps.{way_suc}

-- ---- reads

reads_append : (xs ys : List ℕ) → reads (xs ++ ys) ≡ reads xs ++ reads ys
reads_append [] ys = refl
reads_append (x ∷ xs) ys = ap (λ zs. Read x ∷ zs) (reads_append xs ys)

-- nothing was read yet
pub first_none : (oids : List ℕ) (log log' : List Call) → log' ≡ log → ReadsFirst oids log log'
first_none oids log log' e = record { front = []; rest = oids; split = refl; grown = e ∙ sym (append-nil log) }

pub first_start : (oids : List ℕ) (log : List Call) → ReadsFirst oids log log
first_start oids log = first_none oids log log refl

-- all were read
pub first_all : (oids : List ℕ) (log log' : List Call) → log' ≡ log ++ reads oids → ReadsFirst oids log log'
first_all oids log log' e = record { front = oids; rest = []; split = sym (append-nil oids); grown = e }

-- one was read
pub first_one : (oid : ℕ) (rest : List ℕ) (log log' : List Call) → log' ≡ log ++ Read oid ∷ [] → ReadsFirst (oid ∷ rest) log log'
first_one oid rest log log' e = record { front = oid ∷ []; rest = rest; split = refl; grown = e }

-- one was read, or none for want of memory
pub first_logged : (oid : ℕ) (rest : List ℕ) (log log' : List Call) (b : Bool) → IsLogged oid b log log' → ReadsFirst (oid ∷ rest) log log'
first_logged oid rest log log' true (inl e) = first_none (oid ∷ rest) log log' e
first_logged oid rest log log' true (inr e) = first_one oid rest log log' e
first_logged oid rest log log' false e = first_one oid rest log log' e

-- of more objects
pub first_more : (oids more : List ℕ) (log log' : List Call) → ReadsFirst oids log log' → ReadsFirst (oids ++ more) log log'
first_more oids more log log' r = record {
  front = r.front;
  rest = r.rest ++ more;
  split = ap (λ xs. xs ++ more) r.split ∙ append_assoc r.front r.rest more;
  grown = r.grown;
}

-- some were read, and then the first of others
pub first_then : (oids more : List ℕ) (a b c : List Call) → b ≡ a ++ reads oids → ReadsFirst more b c → ReadsFirst (oids ++ more) a c
first_then oids more a b c e r = record {
  front = oids ++ r.front;
  rest = r.rest;
  split = ap (λ xs. oids ++ xs) r.split ∙ sym (append_assoc oids r.front r.rest);
  grown = r.grown ∙ ap (λ l. l ++ reads r.front) e ∙ append_assoc a (reads oids) (reads r.front) ∙ ap (λ l. a ++ l) (sym (reads_append oids r.front));
}

-- ---- reads one after another

pub up_to_start : (all : List ℕ) (log : List Call) → ReadsUpTo all all log log
up_to_start all log = record { front = []; split = refl; grown = sym (append-nil log) }

-- nothing more was read
pub up_to_end : (all left : List ℕ) (a b c : List Call) → ReadsUpTo all left a b → c ≡ b → ReadsFirst all a c
up_to_end all left a b c r e = record { front = r.front; rest = left; split = r.split; grown = e ∙ r.grown }

-- the first of those that are left were read
pub up_to_first : (all left : List ℕ) (a b c : List Call) → ReadsUpTo all left a b → ReadsFirst left b c → ReadsFirst all a c
up_to_first all left a b c r s = subst (λ xs. ReadsFirst xs a c) (sym r.split) (first_then r.front left a b c r.grown s)

-- one more was read
pub up_to_next : (all left : List ℕ) (oid : ℕ) (rest : List ℕ) (a b c : List Call) → ReadsUpTo all left a b → left ≡ oid ∷ rest → c ≡ b ++ Read oid ∷ [] → ReadsUpTo all rest a c
up_to_next all left oid rest a b c r l e = record {
  front = r.front ++ oid ∷ [];
  split = r.split ∙ ap (λ xs. r.front ++ xs) l ∙ sym (append_assoc r.front (oid ∷ []) rest);
  grown = e ∙ ap (λ l. l ++ Read oid ∷ []) r.grown ∙ append_assoc a (reads r.front) (Read oid ∷ []) ∙ ap (λ l. a ++ l) (sym (reads_append r.front (oid ∷ [])));
}

-- ---- the way for a key

pub met_suc : (key : Key) (objects : ℕ → Held) (room : ℕ) (above : List ℕ) (oid : ℕ) → met_from key objects (suc room) above oid ≡ (if stands_in above oid then [] else oid ∷ met_below (met_from key objects room (above ++ oid ∷ [])) key (objects oid))
unfolding met_from
met_suc key objects room above oid = refl

-- an object that doesn't stand above itself is met
pub met_here : (key : Key) (objects : ℕ → Held) (room : ℕ) (above : List ℕ) (oid : ℕ) → stands_in above oid ≡ false → met_from key objects (suc room) above oid ≡ oid ∷ met_below (met_from key objects room (above ++ oid ∷ [])) key (objects oid)
met_here key objects room above oid s =
    met_suc key objects room above oid ∙ ap (λ b. if b then [] else oid ∷ met_below (met_from key objects room (above ++ oid ∷ [])) key (objects oid)) s

-- ---- the root

pub met_root : (key : Key) (objects : ℕ → Held) (root : ℕ) → met_from key objects (2 ^ 64) [] root ≡ root ∷ met_below (met_from key objects (2 ^ 64 - 1) (root ∷ [])) key (objects root)
met_root key objects root = met_here key objects (2 ^ 64 - 1) [] root refl

pub root_read : (key : Key) (objects : ℕ → Held) (root : ℕ) (base log : List Call) → log ≡ base ++ Read root ∷ [] → ReadsFirst (met_from key objects (2 ^ 64) [] root) base log
root_read key objects root base log e =
    subst (λ xs. ReadsFirst xs base log) (sym (met_root key objects root)) (first_one root (met_below (met_from key objects (2 ^ 64 - 1) (root ∷ [])) key (objects root)) base log e)

pub root_logged : (key : Key) (objects : ℕ → Held) (root : ℕ) (base log : List Call) (no_memory : Bool) → IsLogged root no_memory base log → ReadsFirst (met_from key objects (2 ^ 64) [] root) base log
root_logged key objects root base log no_memory logged =
    subst (λ xs. ReadsFirst xs base log) (sym (met_root key objects root)) (first_logged root (met_below (met_from key objects (2 ^ 64 - 1) (root ∷ [])) key (objects root)) base log no_memory logged)

-- the objects of a tree whose root was read
pub met_of_root : (contents contents' : ℕ → Option (List ℕ)) (root root' : ℕ) (key : Key) (base log : List Call) → contents' ≡ contents → root' ≡ root → ReadsFirst (met_for contents' root' key) base log → ReadsFirst (met_for contents root key) base log
met_of_root contents contents' root root' key base log c r reads =
    subst (λ f. ReadsFirst (met_for f root key) base log) c (subst (λ x. ReadsFirst (met_for contents' x key) base log) r reads)

-- ---- a way that is found meets just its objects

abbrev pub as_found : Found → Result Found TreeError
as_found found = Ok found

same_found : (a b : Found) → as_found b ≡ as_found a → a ≡ b
same_found a b e = cc

below_found : (step : Step) (r : Result Found TreeError) (found : Found) → below_step step r ≡ as_found found → (inner : Found) × (r ≡ as_found inner) × (oids_of found ≡ step.oid ∷ oids_of inner)
below_found step (Ok inner) found e = (inner, refl, ap oids_of (same_found found (record { path = step ∷ inner.path; oid = inner.oid; class = inner.class; node = inner.node }) e))
below_found step (Err x) found e = absurd cc

lone_found : (found : Found) (oid : ℕ) (class : Graph) (n : Node) → as_found (record { path = []; oid = oid; class = class; node = n }) ≡ as_found found → oids_of found ≡ oid ∷ []
lone_found found oid class n e = ap oids_of (same_found found (record { path = []; oid = oid; class = class; node = n }) e)

met_node : (key : Key) (below : ℕ → Result Found TreeError) (met : ℕ → List ℕ) (oid : ℕ) (class : Graph) (n : Node) (found : Found) → ((next : ℕ) (inner : Found) → below next ≡ as_found inner → met next ≡ oids_of inner) → down_node below key oid class n ≡ as_found found → oid ∷ met_below met key (Holds class n) ≡ oids_of found
met_node key below met oid class (node.Inner inner) found same e =
    let b = below_found (record { oid = oid; class = class; inner = inner }) (below (child_for inner.head inner.tail key)) found e in
    ap (λ xs. oid ∷ xs) (same (child_for inner.head inner.tail key) b.0 b.1) ∙ sym b.2
met_node key below met oid class (node.Lone bucket) found same e = sym (lone_found found oid class (node.Lone bucket) e)
met_node key below met oid class (node.Leaf bucket) found same e = sym (lone_found found oid class (node.Leaf bucket) e)

met_fitting : (fits : Bool) (key : Key) (below : ℕ → Result Found TreeError) (met : ℕ → List ℕ) (oid : ℕ) (class : Graph) (n : Node) (found : Found) → ((next : ℕ) (inner : Found) → below next ≡ as_found inner → met next ≡ oids_of inner) → (b : Bool) → (if b then down_node below key oid class n else Err BadKey) ≡ as_found found → oid ∷ met_below met key (Holds class n) ≡ oids_of found
met_fitting fits key below met oid class n found same true e = met_node key below met oid class n found same e
met_fitting fits key below met oid class n found same false e = absurd cc

met_held : (fits : Bool) (key : Key) (below : ℕ → Result Found TreeError) (met : ℕ → List ℕ) (oid : ℕ) (held : Held) (found : Found) → ((next : ℕ) (inner : Found) → below next ≡ as_found inner → met next ≡ oids_of inner) → down_held below fits key oid held ≡ as_found found → oid ∷ met_below met key held ≡ oids_of found
met_held fits key below met oid Nothing found same e = absurd cc
met_held fits key below met oid Foreign found same e = absurd cc
met_held fits key below met oid (Holds class n) found same e = met_fitting fits key below met oid class n found same (fits && node_suits key n) e

met_unless : (fits : Bool) (key : Key) (objects : ℕ → Held) (below : ℕ → Result Found TreeError) (met : ℕ → List ℕ) (oid : ℕ) (found : Found) → ((next : ℕ) (inner : Found) → below next ≡ as_found inner → met next ≡ oids_of inner) → (b : Bool) → (if b then Err (NotATree oid) else down_held below fits key oid (objects oid)) ≡ as_found found → (if b then [] else oid ∷ met_below met key (objects oid)) ≡ oids_of found
met_unless fits key objects below met oid found same true e = absurd cc
met_unless fits key objects below met oid found same false e = met_held fits key below met oid (objects oid) found same e

never_found : (fits : Bool) (key : Key) (objects : ℕ → Held) (above : List ℕ) (oid : ℕ) (found : Found) → way_from fits key objects zero above oid ≡ as_found found → ⊥
unfolding way_from
never_found fits key objects above oid found e = absurd cc

pub met_found : (fits : Bool) (key : Key) (objects : ℕ → Held) (room : ℕ) (above : List ℕ) (oid : ℕ) (found : Found) → way_from fits key objects room above oid ≡ as_found found → met_from key objects room above oid ≡ oids_of found
met_found fits key objects zero above oid found e = absurd (never_found fits key objects above oid found e)
met_found fits key objects (suc room) above oid found e =
    met_suc key objects room above oid
    ∙ met_unless fits key objects (way_from fits key objects room (above ++ oid ∷ [])) (met_from key objects room (above ++ oid ∷ [])) oid found
    (λ next inner. met_found fits key objects room (above ++ oid ∷ []) next inner) (stands_in above oid) (sym (way_suc fits key objects room above oid) ∙ e)

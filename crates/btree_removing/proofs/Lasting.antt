-- Steps of the way by last children.
use Rattle.std.proofs.Common.{◌≡◌, ℕ, suc, zero, ◌-◌, ◌<◌, ◌^◌, Bool, true, false, List, [], ◌∷◌, ◌++◌, length, drop, Option, Some, Result, Ok, Err, refl, sym, ◌∙◌, ap, subst, arith, append_assoc, append-nil}
use Rattle.std.specs.Prelude.{if◌then◌else◌, map}
use Rattle.pickle_graph.specs.Graph.{Graph}
use Rattle.btree_family.specs.declared.key.Key.{Key}
use Rattle.btree_family.specs.Buckets.{BucketContents}
use Rattle.bucket_state.specs.declared.tree.Inner.{Inner}
use Rattle.btree_shapes.specs.declared.error.TreeError.{TreeError}
use Rattle.btree_shapes.specs.declared.error.TreeError.TheVariants.{NotATree, NodeMissing, BadKey, Refused, Memory}
use Rattle.btree_shapes.specs.declared.node.Node.{Node}
use Rattle.btree_shapes.specs.declared.node.Node.TheVariants as node
use Rattle.btree_shapes.specs.declared.space.Call.{Call}
use Rattle.btree_shapes.specs.declared.space.Call.TheVariants.{Read}
use Rattle.btree_shapes.specs.Nodes.{Held, Nothing, Foreign, Holds, node_suits}
use Rattle.btree_shapes.specs.Reading.{IsReadError}
use Rattle.btree_shapes.specs.Met.{ReadsFirst, ReadsUpTo}
use Rattle.btree_shapes.specs.MetLaws.{first_logged, first_one, up_to_first, up_to_next}
use Rattle.btree_shapes.specs.Spaces.{IsLogged}
use Rattle.btree_shapes.specs.Ways.{stands_in, IsRefusal, reads}
use Rattle.btree_removing.specs.declared.last.Last.{Last}
use Rattle.btree_removing.specs.Lasts.{last_child, last_node, last_held, last_from, met_last, met_last_below, oids_to}

last_suc : (key : Key) (objects : ℕ → Held) (room : ℕ) (above : List ℕ) (oid : ℕ) → last_from key objects (suc room) above oid ≡ (if stands_in above oid then Err (NotATree oid) else last_held (last_from key objects room (above ++ oid ∷ [])) key above oid (objects oid))
unfolding last_from
last_suc key objects room above oid = refl

-- with room for one more object on the way
room_suc : (n : ℕ) → n < 2 ^ 64 → 2 ^ 64 - n ≡ suc (2 ^ 64 - suc n)
room_suc n l = omega arith

length_last : (xs : List ℕ) (x : ℕ) → length (xs ++ x ∷ []) ≡ suc (length xs)
length_last [] x = refl
length_last (y ∷ ys) x = ap suc (length_last ys x)

-- what is left of the way gives the whole
abbrev pub Gives : Key → (ℕ → Held) → List ℕ → ℕ → Result Last TreeError → Type 0
Gives key objects above oid whole = last_from key objects (2 ^ 64 - length above) above oid ≡ whole

abbrev pub onward_from : Key → (ℕ → Held) → List ℕ → ℕ → ℕ → Result Last TreeError
onward_from key objects above oid next = last_from key objects (2 ^ 64 - suc (length above)) (above ++ oid ∷ []) next

here : (key : Key) (objects : ℕ → Held) (above : List ℕ) (oid : ℕ) (whole : Result Last TreeError) → Gives key objects above oid whole → length above < 2 ^ 64 → (if stands_in above oid then Err (NotATree oid) else last_held (onward_from key objects above oid) key above oid (objects oid)) ≡ whole
here key objects above oid whole g l =
    sym (ap (λ room. last_from key objects room above oid) (room_suc (length above) l) ∙ last_suc key objects (2 ^ 64 - suc (length above)) above oid) ∙ g

pub twice : (key : Key) (objects : ℕ → Held) (above : List ℕ) (oid : ℕ) (whole : Result Last TreeError) → Gives key objects above oid whole → length above < 2 ^ 64 → stands_in above oid ≡ true → whole ≡ Err (NotATree oid)
twice key objects above oid whole g l s =
    sym (here key objects above oid whole g l)
    ∙ ap (λ b. if b then Err (NotATree oid) else last_held (onward_from key objects above oid) key above oid (objects oid)) s

held_here : (key : Key) (objects : ℕ → Held) (above : List ℕ) (oid : ℕ) (whole : Result Last TreeError) (held : Held) → Gives key objects above oid whole → length above < 2 ^ 64 → stands_in above oid ≡ false → objects oid ≡ held → whole ≡ last_held (onward_from key objects above oid) key above oid held
held_here key objects above oid whole held g l s h =
    sym (here key objects above oid whole g l)
    ∙ ap (λ b. if b then Err (NotATree oid) else last_held (onward_from key objects above oid) key above oid (objects oid)) s
    ∙ ap (last_held (onward_from key objects above oid) key above oid) h

pub unread : (key : Key) (objects : ℕ → Held) (above : List ℕ) (oid : ℕ) (whole : Result Last TreeError) (e : TreeError) → Gives key objects above oid whole → length above < 2 ^ 64 → stands_in above oid ≡ false → IsReadError (objects oid) oid e → IsRefusal e whole
unread key objects above oid whole (NotATree other) g l s (o, h) = held_here key objects above oid whole Foreign g l s h ∙ ap (λ x. Err (NotATree x)) (sym o)
unread key objects above oid whole (NodeMissing other) g l s (o, h) = held_here key objects above oid whole Nothing g l s h ∙ ap (λ x. Err (NodeMissing x)) (sym o)
unread key objects above oid whole BadKey g l s h = absurd h
unread key objects above oid whole (Refused refusal) g l s h = tt
unread key objects above oid whole Memory g l s h = tt

by_suits : (key : Key) (objects : ℕ → Held) (above : List ℕ) (oid : ℕ) (whole : Result Last TreeError) (class : Graph) (node : Node) (b : Bool) → Gives key objects above oid whole → length above < 2 ^ 64 → stands_in above oid ≡ false → objects oid ≡ Holds class node → node_suits key node ≡ b → whole ≡ (if b then last_node (onward_from key objects above oid) above oid class node else Err BadKey)
by_suits key objects above oid whole class node b g l s h t =
    held_here key objects above oid whole (Holds class node) g l s h
    ∙ ap (λ x. if x then last_node (onward_from key objects above oid) above oid class node else Err BadKey) t

pub bad_key : (key : Key) (objects : ℕ → Held) (above : List ℕ) (oid : ℕ) (whole : Result Last TreeError) (class : Graph) (node : Node) → Gives key objects above oid whole → length above < 2 ^ 64 → stands_in above oid ≡ false → objects oid ≡ Holds class node → node_suits key node ≡ false → whole ≡ Err BadKey
bad_key key objects above oid whole class node g l s h t = by_suits key objects above oid whole class node false g l s h t

pub ends_lone : (key : Key) (objects : ℕ → Held) (above : List ℕ) (oid : ℕ) (whole : Result Last TreeError) (class : Graph) (leaf : BucketContents) → Gives key objects above oid whole → length above < 2 ^ 64 → stands_in above oid ≡ false → objects oid ≡ Holds class (node.Lone leaf) → node_suits key (node.Lone leaf) ≡ true → whole ≡ Ok (record { above = above; oid = oid; class = class; node = node.Lone leaf })
ends_lone key objects above oid whole class leaf g l s h t = by_suits key objects above oid whole class (node.Lone leaf) true g l s h t

pub ends_leaf : (key : Key) (objects : ℕ → Held) (above : List ℕ) (oid : ℕ) (whole : Result Last TreeError) (class : Graph) (leaf : BucketContents) → Gives key objects above oid whole → length above < 2 ^ 64 → stands_in above oid ≡ false → objects oid ≡ Holds class (node.Leaf leaf) → node_suits key (node.Leaf leaf) ≡ true → whole ≡ Ok (record { above = above; oid = oid; class = class; node = node.Leaf leaf })
ends_leaf key objects above oid whole class leaf g l s h t = by_suits key objects above oid whole class (node.Leaf leaf) true g l s h t

pub onward : (key : Key) (objects : ℕ → Held) (above above' : List ℕ) (oid next : ℕ) (whole : Result Last TreeError) (class : Graph) (inner : Inner) → Gives key objects above oid whole → length above < 2 ^ 64 → stands_in above oid ≡ false → objects oid ≡ Holds class (node.Inner inner) → node_suits key (node.Inner inner) ≡ true → next ≡ last_child inner.head inner.tail → above' ≡ above ++ oid ∷ [] → Gives key objects above' next whole
onward key objects above above' oid next whole class inner g l s h t n a =
    ap (λ xs. last_from key objects (2 ^ 64 - length xs) xs next) a
    ∙ ap (λ m. last_from key objects (2 ^ 64 - m) (above ++ oid ∷ []) next) (length_last above oid)
    ∙ ap (onward_from key objects above oid) n
    ∙ sym (by_suits key objects above oid whole class (node.Inner inner) true g l s h t)

-- ---- what was read

reads_last : (oids : List ℕ) (oid : ℕ) → reads (oids ++ oid ∷ []) ≡ reads oids ++ Read oid ∷ []
reads_last [] oid = refl
reads_last (x ∷ xs) oid = ap (λ zs. Read x ∷ zs) (reads_last xs oid)

-- the objects that were read so far stand behind those above the start
pub record ReadSo (start log : List Call) (first above : List ℕ) : Type 0 where
  pub oids : List ℕ
  pub above_is : above ≡ first ++ oids
  pub log_is : log ≡ start ++ reads oids

pub read_start : (log : List Call) (above : List ℕ) → ReadSo log log above above
read_start log above = record { oids = []; above_is = sym (append-nil above); log_is = sym (append-nil log) }

pub read_step : (start log log' : List Call) (first above above' : List ℕ) (oid : ℕ) → ReadSo start log first above → log' ≡ log ++ Read oid ∷ [] → above' ≡ above ++ oid ∷ [] → ReadSo start log' first above'
read_step start log log' first above above' oid r l a = record {
  oids = r.oids ++ oid ∷ [];
  above_is = a ∙ ap (λ xs. xs ++ oid ∷ []) r.above_is ∙ append_assoc first r.oids (oid ∷ []);
  log_is = l ∙ ap (λ xs. xs ++ Read oid ∷ []) r.log_is ∙ append_assoc start (reads r.oids) (Read oid ∷ []) ∙ ap (λ xs. start ++ xs) (sym (reads_last r.oids oid));
}

drop_front : (xs ys : List ℕ) → drop (length xs) (xs ++ ys) ≡ ys
drop_front [] ys = refl
drop_front (x ∷ xs) ys = drop_front xs ys

pub read_end : (start log log' : List Call) (first above : List ℕ) (oid : ℕ) (class : Graph) (node : Node) → ReadSo start log first above → log' ≡ log ++ Read oid ∷ [] → log' ≡ start ++ reads (oids_to first (Ok (record { above = above; oid = oid; class = class; node = node })))
read_end start log log' first above oid class node r l =
    l ∙ ap (λ xs. xs ++ Read oid ∷ []) r.log_is ∙ append_assoc start (reads r.oids) (Read oid ∷ [])
    ∙ ap (λ xs. start ++ xs) (sym (reads_last r.oids oid))
    ∙ ap (λ xs. start ++ reads (xs ++ oid ∷ [])) (sym (ap (drop (length first)) r.above_is ∙ drop_front first r.oids))

-- ---- what is met

met_suc : (objects : ℕ → Held) (room : ℕ) (above : List ℕ) (oid : ℕ) → met_last objects (suc room) above oid ≡ (if stands_in above oid then [] else oid ∷ met_last_below (met_last objects room (above ++ oid ∷ [])) (objects oid))
unfolding met_last
met_suc objects room above oid = refl

-- what is met from an object on
abbrev pub met_at : (ℕ → Held) → List ℕ → ℕ → List ℕ
met_at objects above oid = met_last objects (2 ^ 64 - length above) above oid

-- what is met below an object
abbrev met_beyond : (ℕ → Held) → List ℕ → ℕ → List ℕ
met_beyond objects above oid = met_last_below (met_last objects (2 ^ 64 - suc (length above)) (above ++ oid ∷ [])) (objects oid)

met_next : (objects : ℕ → Held) (above : List ℕ) (oid : ℕ) → length above < 2 ^ 64 → stands_in above oid ≡ false → met_at objects above oid ≡ oid ∷ met_beyond objects above oid
met_next objects above oid l s =
    ap (λ room. met_last objects room above oid) (room_suc (length above) l)
    ∙ met_suc objects (2 ^ 64 - suc (length above)) above oid
    ∙ ap (λ b. if b then [] else oid ∷ met_beyond objects above oid) s

pub logged_here : (objects : ℕ → Held) (above : List ℕ) (oid : ℕ) (all : List ℕ) (a b c : List Call) (no_memory : Bool) → ReadsUpTo all (met_at objects above oid) a b → length above < 2 ^ 64 → stands_in above oid ≡ false → IsLogged oid no_memory b c → ReadsFirst all a c
logged_here objects above oid all a b c no_memory r l s logged =
    up_to_first all (met_at objects above oid) a b c r
    (subst (λ xs. ReadsFirst xs b c) (sym (met_next objects above oid l s)) (first_logged oid (met_beyond objects above oid) b c no_memory logged))

pub read_here : (objects : ℕ → Held) (above : List ℕ) (oid : ℕ) (all : List ℕ) (a b c : List Call) → ReadsUpTo all (met_at objects above oid) a b → length above < 2 ^ 64 → stands_in above oid ≡ false → c ≡ b ++ Read oid ∷ [] → ReadsFirst all a c
read_here objects above oid all a b c r l s e =
    up_to_first all (met_at objects above oid) a b c r
    (subst (λ xs. ReadsFirst xs b c) (sym (met_next objects above oid l s)) (first_one oid (met_beyond objects above oid) b c e))

beyond_is : (objects : ℕ → Held) (above above' : List ℕ) (oid next : ℕ) (class : Graph) (inner : Inner) → objects oid ≡ Holds class (node.Inner inner) → next ≡ last_child inner.head inner.tail → above' ≡ above ++ oid ∷ [] → met_beyond objects above oid ≡ met_at objects above' next
beyond_is objects above above' oid next class inner h n a =
    ap (met_last_below (met_last objects (2 ^ 64 - suc (length above)) (above ++ oid ∷ []))) h
    ∙ ap (met_last objects (2 ^ 64 - suc (length above)) (above ++ oid ∷ [])) (sym n)
    ∙ ap (λ m. met_last objects (2 ^ 64 - m) (above ++ oid ∷ []) next) (sym (length_last above oid))
    ∙ ap (λ xs. met_last objects (2 ^ 64 - length xs) xs next) (sym a)

pub met_onward : (objects : ℕ → Held) (above above' : List ℕ) (oid next : ℕ) (all : List ℕ) (a b c : List Call) (class : Graph) (inner : Inner) → ReadsUpTo all (met_at objects above oid) a b → length above < 2 ^ 64 → stands_in above oid ≡ false → objects oid ≡ Holds class (node.Inner inner) → next ≡ last_child inner.head inner.tail → above' ≡ above ++ oid ∷ [] → c ≡ b ++ Read oid ∷ [] → ReadsUpTo all (met_at objects above' next) a c
met_onward objects above above' oid next all a b c class inner r l s h n p e =
    up_to_next all (met_at objects above oid) oid (met_at objects above' next) a b c r
    (met_next objects above oid l s ∙ ap (λ xs. oid ∷ xs) (beyond_is objects above above' oid next class inner h n p)) e

-- ---- a way that is found meets just its objects

abbrev as_last : Last → Result Last TreeError
as_last last = Ok last

-- the objects that stand behind those above the start, and the end
record MeetsLast (above met : List ℕ) (last : Last) : Type 0 where
  oids : List ℕ
  above_is : last.above ≡ above ++ oids
  met_is : met ≡ oids ++ last.oid ∷ []

ends_here : (above : List ℕ) (oid : ℕ) (class : Graph) (n : Node) (last : Last) → as_last (record { above = above; oid = oid; class = class; node = n }) ≡ as_last last → MeetsLast above (oid ∷ []) last
ends_here above oid class n last e = record {
  oids = [];
  above_is = ap (λ (l : Last). l.above) (same last (record { above = above; oid = oid; class = class; node = n }) e) ∙ sym (append-nil above);
  met_is = ap (λ (l : Last). l.oid ∷ []) (sym (same last (record { above = above; oid = oid; class = class; node = n }) e));
}
  where
    same : (a b : Last) → as_last b ≡ as_last a → a ≡ b
    same a b e = cc

goes_on : (above met : List ℕ) (oid : ℕ) (last : Last) → MeetsLast (above ++ oid ∷ []) met last → MeetsLast above (oid ∷ met) last
goes_on above met oid last m = record {
  oids = oid ∷ m.oids;
  above_is = m.above_is ∙ append_assoc above (oid ∷ []) m.oids;
  met_is = ap (λ xs. oid ∷ xs) m.met_is;
}

meets_node : (below : ℕ → Result Last TreeError) (met : ℕ → List ℕ) (above : List ℕ) (oid : ℕ) (class : Graph) (n : Node) (last : Last) → ((next : ℕ) → below next ≡ as_last last → MeetsLast (above ++ oid ∷ []) (met next) last) → last_node below above oid class n ≡ as_last last → MeetsLast above (oid ∷ met_last_below met (Holds class n)) last
meets_node below met above oid class (node.Inner inner) last same e =
    goes_on above (met (last_child inner.head inner.tail)) oid last (same (last_child inner.head inner.tail) e)
meets_node below met above oid class (node.Lone leaf) last same e = ends_here above oid class (node.Lone leaf) last e
meets_node below met above oid class (node.Leaf leaf) last same e = ends_here above oid class (node.Leaf leaf) last e

meets_suiting : (key : Key) (below : ℕ → Result Last TreeError) (met : ℕ → List ℕ) (above : List ℕ) (oid : ℕ) (class : Graph) (n : Node) (last : Last) → ((next : ℕ) → below next ≡ as_last last → MeetsLast (above ++ oid ∷ []) (met next) last) → (b : Bool) → (if b then last_node below above oid class n else Err BadKey) ≡ as_last last → MeetsLast above (oid ∷ met_last_below met (Holds class n)) last
meets_suiting key below met above oid class n last same true e = meets_node below met above oid class n last same e
meets_suiting key below met above oid class n last same false e = absurd cc

meets_held : (key : Key) (below : ℕ → Result Last TreeError) (met : ℕ → List ℕ) (above : List ℕ) (oid : ℕ) (held : Held) (last : Last) → ((next : ℕ) → below next ≡ as_last last → MeetsLast (above ++ oid ∷ []) (met next) last) → last_held below key above oid held ≡ as_last last → MeetsLast above (oid ∷ met_last_below met held) last
meets_held key below met above oid Nothing last same e = absurd cc
meets_held key below met above oid Foreign last same e = absurd cc
meets_held key below met above oid (Holds class n) last same e = meets_suiting key below met above oid class n last same (node_suits key n) e

meets_unless : (key : Key) (objects : ℕ → Held) (below : ℕ → Result Last TreeError) (met : ℕ → List ℕ) (above : List ℕ) (oid : ℕ) (last : Last) → ((next : ℕ) → below next ≡ as_last last → MeetsLast (above ++ oid ∷ []) (met next) last) → (b : Bool) → (if b then Err (NotATree oid) else last_held below key above oid (objects oid)) ≡ as_last last → MeetsLast above (if b then [] else oid ∷ met_last_below met (objects oid)) last
meets_unless key objects below met above oid last same true e = absurd cc
meets_unless key objects below met above oid last same false e = meets_held key below met above oid (objects oid) last same e

never_last : (key : Key) (objects : ℕ → Held) (above : List ℕ) (oid : ℕ) (last : Last) → last_from key objects zero above oid ≡ as_last last → ⊥
unfolding last_from
never_last key objects above oid last e = absurd cc

meets_last : (key : Key) (objects : ℕ → Held) (room : ℕ) (above : List ℕ) (oid : ℕ) (last : Last) → last_from key objects room above oid ≡ as_last last → MeetsLast above (met_last objects room above oid) last
meets_last key objects zero above oid last e = absurd (never_last key objects above oid last e)
meets_last key objects (suc room) above oid last e =
    subst (λ xs. MeetsLast above xs last) (sym (met_suc objects room above oid))
    (meets_unless key objects (last_from key objects room (above ++ oid ∷ [])) (met_last objects room (above ++ oid ∷ [])) above oid last
    (λ next. meets_last key objects room (above ++ oid ∷ []) next last) (stands_in above oid) (sym (last_suc key objects room above oid) ∙ e))

pub met_found : (key : Key) (objects : ℕ → Held) (room : ℕ) (above : List ℕ) (oid : ℕ) (last : Last) → last_from key objects room above oid ≡ Ok last → met_last objects room above oid ≡ drop (length above) last.above ++ last.oid ∷ []
met_found key objects room above oid last e =
    let m = meets_last key objects room above oid last e in
    m.met_is ∙ ap (λ xs. xs ++ last.oid ∷ []) (sym (ap (drop (length above)) m.above_is ∙ drop_front above m.oids))

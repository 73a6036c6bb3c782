-- Steps of the way for a key.
use Rattle.std.proofs.Common.{◌≡◌, ℕ, suc, ◌-◌, ◌<◌, ◌^◌, Bool, true, false, List, [], ◌∷◌, ◌++◌, length, Option, Some, Result, Ok, Err, refl, sym, ◌∙◌, ap, subst, arith, append_assoc, append-nil}
use Rattle.std.specs.Prelude.{map, ◌&&◌, if◌then◌else◌}
use Rattle.pickle_graph.specs.Graph.{Graph}
use Rattle.btree_family.specs.declared.key.Key.{Key}
use Rattle.btree_family.specs.Buckets.{BucketContents}
use Rattle.btree_family.specs.Classes.{Class}
use Rattle.btree_family.specs.Families.{key_fits}
use Rattle.bucket_state.specs.declared.tree.Inner.{Inner}
use Rattle.btree_shapes.specs.declared.error.TreeError.{TreeError}
use Rattle.btree_shapes.specs.declared.error.TreeError.TheVariants.{NotATree, NodeMissing, BadKey, Refused, Memory}
use Rattle.btree_shapes.specs.declared.node.Node.{Node}
use Rattle.btree_shapes.specs.declared.node.Node.TheVariants as node
use Rattle.btree_shapes.specs.declared.path.Step.{Step}
use Rattle.btree_shapes.specs.declared.way.Found.{Found}
use Rattle.btree_shapes.specs.declared.space.Call.{Call}
use Rattle.btree_shapes.specs.declared.space.Call.TheVariants.{Read}
use Rattle.btree_shapes.specs.Nodes.{Held, Nothing, Foreign, Holds, node_suits, child_for, items_in, value_in, class_held, objects_of}
use Rattle.btree_shapes.specs.Reading.{IsReadError}
use Rattle.btree_shapes.specs.Ways.{stands_in, step_oid, below_step, below_path, down_node, down_held, way_from, way_for, IsRefusal, Answers, family_key, key_way, value_found, value_under, reads, reads_of}
use Rattle.btree_shapes.specs.Steps.{way_suc, above_root, root_node}

-- with room for one more object on the way
pub room_suc : (n : ℕ) → n < 2 ^ 64 → 2 ^ 64 - n ≡ suc (2 ^ 64 - suc n)
room_suc n l = omega arith

pub oids_last : (path : List Step) (s : Step) → map step_oid (path ++ s ∷ []) ≡ map step_oid path ++ s.oid ∷ []
oids_last [] s = refl
oids_last (x ∷ xs) s = ap (λ zs. x.oid ∷ zs) (oids_last xs s)

pub length_last : (path : List Step) (s : Step) → length (path ++ s ∷ []) ≡ suc (length path)
length_last [] s = refl
length_last (x ∷ xs) s = ap suc (length_last xs s)

-- what is left of the way gives the whole
abbrev pub Gives : Bool → Key → (ℕ → Held) → List Step → ℕ → Result Found TreeError → Type 0
Gives fits key objects path oid whole = below_path path (way_from fits key objects (2 ^ 64 - length path) (map step_oid path) oid) ≡ whole

abbrev pub onward_from : Bool → Key → (ℕ → Held) → List Step → ℕ → ℕ → Result Found TreeError
onward_from fits key objects path oid next = way_from fits key objects (2 ^ 64 - suc (length path)) (map step_oid path ++ oid ∷ []) next

way_here : (fits : Bool) (key : Key) (objects : ℕ → Held) (path : List Step) (oid : ℕ) → length path < 2 ^ 64 → stands_in (map step_oid path) oid ≡ false → way_from fits key objects (2 ^ 64 - length path) (map step_oid path) oid ≡ down_held (onward_from fits key objects path oid) fits key oid (objects oid)
way_here fits key objects path oid l s =
    ap (λ room. way_from fits key objects room (map step_oid path) oid) (room_suc (length path) l)
    ∙ way_suc fits key objects (2 ^ 64 - suc (length path)) (map step_oid path) oid
    ∙ ap (λ b. if b then Err (NotATree oid) else down_held (onward_from fits key objects path oid) fits key oid (objects oid)) s

pub twice : (fits : Bool) (key : Key) (objects : ℕ → Held) (path : List Step) (oid : ℕ) (whole : Result Found TreeError) → Gives fits key objects path oid whole → length path < 2 ^ 64 → stands_in (map step_oid path) oid ≡ true → whole ≡ Err (NotATree oid)
twice fits key objects path oid whole g l s =
    sym g ∙ ap (below_path path) (
    ap (λ room. way_from fits key objects room (map step_oid path) oid) (room_suc (length path) l)
    ∙ way_suc fits key objects (2 ^ 64 - suc (length path)) (map step_oid path) oid
    ∙ ap (λ b. if b then Err (NotATree oid) else down_held (onward_from fits key objects path oid) fits key oid (objects oid)) s
    )

held_here : (fits : Bool) (key : Key) (objects : ℕ → Held) (path : List Step) (oid : ℕ) (whole : Result Found TreeError) (held : Held) → Gives fits key objects path oid whole → length path < 2 ^ 64 → stands_in (map step_oid path) oid ≡ false → objects oid ≡ held → whole ≡ below_path path (down_held (onward_from fits key objects path oid) fits key oid held)
held_here fits key objects path oid whole held g l s h =
    sym g ∙ ap (below_path path) (way_here fits key objects path oid l s ∙ ap (down_held (onward_from fits key objects path oid) fits key oid) h)

pub unread : (fits : Bool) (key : Key) (objects : ℕ → Held) (path : List Step) (oid : ℕ) (whole : Result Found TreeError) (e : TreeError) → Gives fits key objects path oid whole → length path < 2 ^ 64 → stands_in (map step_oid path) oid ≡ false → IsReadError (objects oid) oid e → IsRefusal e whole
unread fits key objects path oid whole (NotATree other) g l s (o, h) = held_here fits key objects path oid whole Foreign g l s h ∙ ap (λ x. Err (NotATree x)) (sym o)
unread fits key objects path oid whole (NodeMissing other) g l s (o, h) = held_here fits key objects path oid whole Nothing g l s h ∙ ap (λ x. Err (NodeMissing x)) (sym o)
unread fits key objects path oid whole BadKey g l s h = absurd h
unread fits key objects path oid whole (Refused refusal) g l s h = tt
unread fits key objects path oid whole Memory g l s h = tt

pub bad_key : (fits : Bool) (key : Key) (objects : ℕ → Held) (path : List Step) (oid : ℕ) (whole : Result Found TreeError) (class : Graph) (node : Node) → Gives fits key objects path oid whole → length path < 2 ^ 64 → stands_in (map step_oid path) oid ≡ false → objects oid ≡ Holds class node → (fits && node_suits key node) ≡ false → whole ≡ Err BadKey
bad_key fits key objects path oid whole class node g l s h t =
    held_here fits key objects path oid whole (Holds class node) g l s h
    ∙ ap (λ b. below_path path (if b then down_node (onward_from fits key objects path oid) key oid class node else Err BadKey)) t

node_here : (fits : Bool) (key : Key) (objects : ℕ → Held) (path : List Step) (oid : ℕ) (whole : Result Found TreeError) (class : Graph) (node : Node) → Gives fits key objects path oid whole → length path < 2 ^ 64 → stands_in (map step_oid path) oid ≡ false → objects oid ≡ Holds class node → (fits && node_suits key node) ≡ true → whole ≡ below_path path (down_node (onward_from fits key objects path oid) key oid class node)
node_here fits key objects path oid whole class node g l s h t =
    held_here fits key objects path oid whole (Holds class node) g l s h
    ∙ ap (λ b. below_path path (if b then down_node (onward_from fits key objects path oid) key oid class node else Err BadKey)) t

found_at : List Step → ℕ → Graph → Node → Result Found TreeError
found_at path oid class node = Ok (record { path = path; oid = oid; class = class; node = node })

pub ends_lone : (fits : Bool) (key : Key) (objects : ℕ → Held) (path : List Step) (oid : ℕ) (whole : Result Found TreeError) (class : Graph) (bucket : BucketContents) → Gives fits key objects path oid whole → length path < 2 ^ 64 → stands_in (map step_oid path) oid ≡ false → objects oid ≡ Holds class (node.Lone bucket) → (fits && node_suits key (node.Lone bucket)) ≡ true → whole ≡ Ok (record { path = path; oid = oid; class = class; node = node.Lone bucket })
ends_lone fits key objects path oid whole class bucket g l s h t =
    node_here fits key objects path oid whole class (node.Lone bucket) g l s h t
    ∙ ap (λ steps. Ok (record { path = steps; oid = oid; class = class; node = node.Lone bucket })) (append-nil path)

pub ends_leaf : (fits : Bool) (key : Key) (objects : ℕ → Held) (path : List Step) (oid : ℕ) (whole : Result Found TreeError) (class : Graph) (bucket : BucketContents) → Gives fits key objects path oid whole → length path < 2 ^ 64 → stands_in (map step_oid path) oid ≡ false → objects oid ≡ Holds class (node.Leaf bucket) → (fits && node_suits key (node.Leaf bucket)) ≡ true → whole ≡ Ok (record { path = path; oid = oid; class = class; node = node.Leaf bucket })
ends_leaf fits key objects path oid whole class bucket g l s h t =
    node_here fits key objects path oid whole class (node.Leaf bucket) g l s h t
    ∙ ap (λ steps. Ok (record { path = steps; oid = oid; class = class; node = node.Leaf bucket })) (append-nil path)

path_step : (path : List Step) (s : Step) (r : Result Found TreeError) → below_path path (below_step s r) ≡ below_path (path ++ s ∷ []) r
path_step path s (Ok found) = ap (λ steps. Ok (record { path = steps; oid = found.oid; class = found.class; node = found.node })) (sym (append_assoc path (s ∷ []) found.path))
path_step path s (Err e) = refl

pub onward : (fits : Bool) (key : Key) (objects : ℕ → Held) (path path' : List Step) (oid next : ℕ) (whole : Result Found TreeError) (class : Graph) (inner : Inner) → Gives fits key objects path oid whole → length path < 2 ^ 64 → stands_in (map step_oid path) oid ≡ false → objects oid ≡ Holds class (node.Inner inner) → (fits && node_suits key (node.Inner inner)) ≡ true → next ≡ child_for inner.head inner.tail key → path' ≡ path ++ (record { oid = oid; class = class; inner = inner }) ∷ [] → Gives fits key objects path' next whole
onward fits key objects path path' oid next whole class inner g l s h t n p =
    let step : Step = record { oid = oid; class = class; inner = inner } in
    let here = node_here fits key objects path oid whole class (node.Inner inner) g l s h t in
    let last : length (path ++ step ∷ []) ≡ suc (length path) = length_last path step in
    rw (p, n) (
    ap (λ above. below_path (path ++ step ∷ []) (way_from fits key objects (2 ^ 64 - length (path ++ step ∷ [])) above (child_for inner.head inner.tail key))) (oids_last path step)
    ∙ ap (λ m. below_path (path ++ step ∷ []) (way_from fits key objects (2 ^ 64 - m) (map step_oid path ++ oid ∷ []) (child_for inner.head inner.tail key))) last
    ∙ sym (path_step path step (onward_from fits key objects path oid (child_for inner.head inner.tail key)))
    ∙ sym here
    )

reads_last : (oids : List ℕ) (oid : ℕ) → reads (oids ++ oid ∷ []) ≡ reads oids ++ Read oid ∷ []
reads_last [] oid = refl
reads_last (x ∷ xs) oid = ap (λ zs. Read x ∷ zs) (reads_last xs oid)

-- one more object is read
pub read_last : (base log log' : List Call) (oids : List ℕ) (oid : ℕ) → log ≡ base ++ reads oids → log' ≡ log ++ Read oid ∷ [] → log' ≡ base ++ reads (oids ++ oid ∷ [])
read_last base log log' oids oid e f =
    f ∙ ap (λ l. l ++ Read oid ∷ []) e ∙ append_assoc base (reads oids) (Read oid ∷ []) ∙ ap (λ l. base ++ l) (sym (reads_last oids oid))

pub reads_onward : (base log log' : List Call) (path path' : List Step) (s : Step) → log ≡ base ++ reads (map step_oid path) → log' ≡ log ++ Read s.oid ∷ [] → path' ≡ path ++ s ∷ [] → log' ≡ base ++ reads (map step_oid path')
reads_onward base log log' path path' s e f p =
    rw p (read_last base log log' (map step_oid path) s.oid e f ∙ ap (λ oids. base ++ reads oids) (sym (oids_last path s)))

-- ---- the root

step_path : (s : Step) (r : Result Found TreeError) → below_path (s ∷ []) r ≡ below_step s r
step_path s (Ok found) = refl
step_path s (Err e) = refl

pub root_inner : (fits : Bool) (key : Key) (objects : ℕ → Held) (root next : ℕ) (class : Graph) (inner : Inner) (path : List Step) → objects root ≡ Holds class (node.Inner inner) → (fits && node_suits key (node.Inner inner)) ≡ true → next ≡ child_for inner.head inner.tail key → path ≡ (record { oid = root; class = class; inner = inner }) ∷ [] → below_path path (way_from fits key objects (2 ^ 64 - length path) (map step_oid path) next) ≡ way_for fits key objects root
root_inner fits key objects root next class inner path h t n p =
    rw (p, n) (step_path (record { oid = root; class = class; inner = inner }) (way_from fits key objects (2 ^ 64 - 1) (root ∷ []) (child_for inner.head inner.tail key)) ∙ sym (root_node fits key objects root class (node.Inner inner) h t))

-- ---- calls that go by a way

fits_family : (contents : ℕ → Option (List ℕ)) (root : ℕ) (key : Key) (class : Class) → class_held (contents root) ≡ Some class → family_key (class_held (contents root)) key ≡ key_fits class.key key
fits_family contents root key class e = ap (λ c. family_key c key) e

-- what was found by the way is what the call finds
pub way_is_call : (contents : ℕ → Option (List ℕ)) (root : ℕ) (key : Key) (class : Class) (fits : Bool) (result : Result Found TreeError) → class_held (contents root) ≡ Some class → fits ≡ key_fits class.key key → Answers result (way_for fits key (objects_of contents root) root) → Answers result (key_way contents root key)
way_is_call contents root key class fits result e f a =
    subst (λ b. Answers result (way_for b key (objects_of contents root) root)) (f ∙ sym (fits_family contents root key class e)) a

pub root_unread : (fits : Bool) (key : Key) (objects : ℕ → Held) (root : ℕ) (e : TreeError) → IsReadError (objects root) root e → IsRefusal e (way_for fits key objects root)
root_unread fits key objects root (NotATree other) (o, h) = above_root fits key objects root Foreign h ∙ ap (λ x. Err (NotATree x)) (sym o)
root_unread fits key objects root (NodeMissing other) (o, h) = above_root fits key objects root Nothing h ∙ ap (λ x. Err (NodeMissing x)) (sym o)
root_unread fits key objects root BadKey h = absurd h
root_unread fits key objects root (Refused refusal) h = tt
root_unread fits key objects root Memory h = tt

-- What a remove answers.
use Rattle.std.proofs.Common.{◌≡◌, ℕ, ◌^◌, Bool, true, false, List, [], ◌∷◌, ◌++◌, Option, Some, None, Result, Ok, Err, refl, sym, ◌∙◌, ap, subst, append_assoc, append-nil, inl, inr, ◌⊎◌}
use Rattle.std.specs.Prelude.{◌&&◌, map}
use Rattle.pickle_graph.specs.Graph.{Graph}
use Rattle.btree_family.specs.declared.key.Key.{Key}
use Rattle.btree_family.specs.Classes.{Class, classes, leaf_in}
use Rattle.btree_family.specs.Families.{key_fits}
use Rattle.btree_shapes.specs.declared.error.TreeError.{TreeError}
use Rattle.btree_shapes.specs.declared.error.TreeError.TheVariants.{NotATree, NodeMissing, BadKey, Refused, Memory}
use Rattle.btree_shapes.specs.declared.node.Node.{Node}
use Rattle.btree_shapes.specs.declared.way.Found.{Found}
use Rattle.btree_shapes.specs.declared.space.Call.{Call}
use Rattle.btree_shapes.specs.declared.space.Call.TheVariants.{Read}
use Rattle.btree_shapes.specs.Nodes.{Held, Nothing, Foreign, Holds, node_suits, class_held, objects_of}
use Rattle.btree_shapes.specs.Reading.{IsReadError}
use Rattle.btree_shapes.specs.Met.{ReadsFirst, met_for, oids_of}
use Rattle.btree_shapes.specs.MetLaws.{first_more, first_then, met_found, met_of_root, root_logged, root_read}
use Rattle.btree_shapes.specs.Spaces.{IsLogged}
use Rattle.btree_shapes.specs.Ways.{way_for, IsRefusal, family_key, reads, reads_of}
use Rattle.btree_shapes.specs.Steps.{above_root, root_bad_key}
use Rattle.btree_putting.specs.declared.puts.Put.{Put}
use Rattle.btree_putting.specs.Puts.{all_keep}
use Rattle.btree_putting.specs.declared.kept.Kept.{Kept}
use Rattle.btree_putting.specs.Kept.{AreTried, kept_put}
use Rattle.btree_putting.specs.Storing.{IsFree, IsStored, IsStoredFront}
use Rattle.btree_putting.specs.Writing.{has_leaf}
use Rattle.btree_removing.specs.Plans.{plan_found, plan_by, family_leaf, fits_tree, remove_way, plan_under, oids_found, beside_by, met_beside, met_under, reads_by, reads_under}
use Rattle.btree_removing.specs.Ends.{Breaks, Writes, HasPuts, Removes}

-- ---- writing

pub untried : (told : Type 0) (class leaf : Class) (puts : List Put) (f : ℕ → Option (List ℕ)) (log : List Call) → Writes told class leaf puts f f log log (Err Memory)
untried told class leaf puts f log = inl (record { contents = refl; log = λ t. refl })

pub unwritable : (told : Type 0) (class leaf : Class) (puts : List Put) (f : ℕ → Option (List ℕ)) (log : List Call) → all_keep class leaf puts ≡ false → Writes told class leaf puts f f log log (Err BadKey)
unwritable told class leaf puts f log k = record { fails = k; contents = refl; log = λ t. refl }

broken_off : (told : Type 0) (class leaf : Class) (puts : List Put) (f f' : ℕ → Option (List ℕ)) (log log' : List Call) (e : TreeError) → IsFree e → all_keep class leaf puts ≡ true → IsStoredFront told class leaf puts f f' log log' → Writes told class leaf puts f f' log log' (Err e)
broken_off told class leaf puts f f' log log' (NotATree oid) free k s = absurd free
broken_off told class leaf puts f f' log log' (NodeMissing oid) free k s = absurd free
broken_off told class leaf puts f f' log log' BadKey free k s = absurd free
broken_off told class leaf puts f f' log log' (Refused refusal) free k s = record { passes = k; stored = s }
broken_off told class leaf puts f f' log log' Memory free k s = inr (record { passes = k; stored = s })

pub all_stored : (told : Type 0) (class leaf : Class) (puts : List Put) (kept : List Kept) (f f' : ℕ → Option (List ℕ)) (log log' : List Call) → AreTried class leaf puts kept → IsStored told class leaf (map kept_put kept) f f' log log' → IsStored told class leaf puts f f' log log'
all_stored told class leaf puts kept f f' log log' t s = subst (λ ps. IsStored told class leaf ps f f' log log') t.puts_are s

pub some_stored : (told : Type 0) (class leaf : Class) (puts : List Put) (kept : List Kept) (f f' : ℕ → Option (List ℕ)) (log log' : List Call) (e : TreeError) → AreTried class leaf puts kept → IsFree e → IsStoredFront told class leaf (map kept_put kept) f f' log log' → Writes told class leaf puts f f' log log' (Err e)
some_stored told class leaf puts kept f f' log log' e t free s = broken_off told class leaf puts f f' log log' e free t.all_so (subst (λ ps. IsStoredFront told class leaf ps f f' log log') t.puts_are s)

-- ---- the way

refused_way : (objects : ℕ → Held) (key : Key) (way : Result Found TreeError) (e : TreeError) → IsRefusal e way → IsRefusal e (plan_by key objects way)
refused_way objects key way (NotATree oid) h = ap (plan_by key objects) h
refused_way objects key way (NodeMissing oid) h = ap (plan_by key objects) h
refused_way objects key way BadKey h = ap (plan_by key objects) h
refused_way objects key way (Refused refusal) h = tt
refused_way objects key way Memory h = tt

way_unread : (fits : Bool) (key : Key) (objects : ℕ → Held) (root : ℕ) (e : TreeError) → IsReadError (objects root) root e → IsRefusal e (way_for fits key objects root)
way_unread fits key objects root (NotATree other) (o, h) = above_root fits key objects root Foreign h ∙ ap (λ x. Err (NotATree x)) (sym o)
way_unread fits key objects root (NodeMissing other) (o, h) = above_root fits key objects root Nothing h ∙ ap (λ x. Err (NodeMissing x)) (sym o)
way_unread fits key objects root BadKey h = absurd h
way_unread fits key objects root (Refused refusal) h = tt
way_unread fits key objects root Memory h = tt

pub root_unread : (f : ℕ → Option (List ℕ)) (root : ℕ) (key : Key) (e : TreeError) → IsReadError (objects_of f root root) root e → IsRefusal e (plan_under f root key)
root_unread f root key e h =
    refused_way (objects_of f root) key (remove_way f root key) e (way_unread (fits_tree (class_held (f root)) key) key (objects_of f root) root e h)

and_false : (b : Bool) → (b && false) ≡ false
and_false true = refl
and_false false = refl

-- a key that is not of the family is refused at the root
bad_here : (f : ℕ → Option (List ℕ)) (root : ℕ) (key : Key) (own : Graph) (node : Node) → objects_of f root root ≡ Holds own node → fits_tree (class_held (f root)) key ≡ false → plan_under f root key ≡ Err BadKey
bad_here f root key own node h e =
    ap (plan_by key (objects_of f root))
    (root_bad_key (fits_tree (class_held (f root)) key) key (objects_of f root) root own node h (ap (λ b. b && node_suits key node) e))

pub no_leaf : (f : ℕ → Option (List ℕ)) (root : ℕ) (key : Key) (own : Graph) (node : Node) (class : Class) → objects_of f root root ≡ Holds own node → class_held (f root) ≡ Some class → leaf_in classes class ≡ None → plan_under f root key ≡ Err BadKey
no_leaf f root key own node class h c l =
    bad_here f root key own node h
    (ap (λ x. fits_tree x key) c ∙ ap (λ x. key_fits class.key key && has_leaf x) l ∙ and_false (key_fits class.key key))

pub no_key : (f : ℕ → Option (List ℕ)) (root : ℕ) (key : Key) (own : Graph) (node : Node) (class : Class) → objects_of f root root ≡ Holds own node → class_held (f root) ≡ Some class → key_fits class.key key ≡ false → plan_under f root key ≡ Err BadKey
no_key f root key own node class h c l =
    bad_here f root key own node h (ap (λ x. fits_tree x key) c ∙ ap (λ b. b && family_leaf (Some class)) l)

-- the key is of the family
pub fits_all : (f : ℕ → Option (List ℕ)) (root : ℕ) (key : Key) (class leaf : Class) → class_held (f root) ≡ Some class → leaf_in classes class ≡ Some leaf → key_fits class.key key ≡ true → fits_tree (class_held (f root)) key ≡ true
fits_all f root key class leaf c l k =
    ap (λ x. fits_tree x key) c ∙ ap (λ b. b && has_leaf (leaf_in classes class)) k ∙ ap has_leaf l

plan_so : (f : ℕ → Option (List ℕ)) (root : ℕ) (key : Key) → fits_tree (class_held (f root)) key ≡ true → plan_under f root key ≡ plan_by key (objects_of f root) (way_for true key (objects_of f root) root)
plan_so f root key e = ap (λ b. plan_by key (objects_of f root) (way_for b key (objects_of f root) root)) e

pub plan_is_found : (f : ℕ → Option (List ℕ)) (root : ℕ) (key : Key) (found : Found) → fits_tree (class_held (f root)) key ≡ true → way_for true key (objects_of f root) root ≡ Ok found → plan_under f root key ≡ plan_found key (objects_of f root) found
plan_is_found f root key found t h = plan_so f root key t ∙ ap (plan_by key (objects_of f root)) h

pub way_is_refused : (f : ℕ → Option (List ℕ)) (root : ℕ) (key : Key) (e : TreeError) (class leaf : Class) → class_held (f root) ≡ Some class → leaf_in classes class ≡ Some leaf → key_fits class.key key ≡ true → IsRefusal e (way_for true key (objects_of f root) root) → IsRefusal e (plan_under f root key)
way_is_refused f root key e class leaf c l k h =
    subst (IsRefusal e) (sym (plan_so f root key (fits_all f root key class leaf c l k))) (refused_way (objects_of f root) key (way_for true key (objects_of f root) root) e h)

pub plan_is_refused : (f : ℕ → Option (List ℕ)) (root : ℕ) (key : Key) (found : Found) (e : TreeError) (class leaf : Class) → class_held (f root) ≡ Some class → leaf_in classes class ≡ Some leaf → key_fits class.key key ≡ true → way_for true key (objects_of f root) root ≡ Ok found → IsRefusal e (plan_found key (objects_of f root) found) → IsRefusal e (plan_under f root key)
plan_is_refused f root key found e class leaf c l k w h =
    subst (IsRefusal e) (sym (plan_is_found f root key found (fits_all f root key class leaf c l k) w)) h

pub plan_is : (f : ℕ → Option (List ℕ)) (root : ℕ) (key : Key) (found : Found) (plan : Option (List Put)) (class leaf : Class) → class_held (f root) ≡ Some class → leaf_in classes class ≡ Some leaf → key_fits class.key key ≡ true → way_for true key (objects_of f root) root ≡ Ok found → plan_found key (objects_of f root) found ≡ Ok plan → plan_under f root key ≡ Ok plan
plan_is f root key found plan class leaf c l k w h = plan_is_found f root key found (fits_all f root key class leaf c l k) w ∙ h

-- ---- a way that was found

-- the key is of the family of the root's class, and the way below the root was found and read
pub record HasWay (f : ℕ → Option (List ℕ)) (root : ℕ) (key : Key) (found : Found) (log middle : List Call) : Type 0 where
  pub fits : fits_tree (class_held (f root)) key ≡ true
  pub way : way_for true key (objects_of f root) root ≡ Ok found
  pub read : middle ≡ log ++ reads_of (Ok found)

pub has_way : (f f' : ℕ → Option (List ℕ)) (root root' : ℕ) (key : Key) (found : Found) (class leaf : Class) (log first middle : List Call) → root' ≡ root → class_held (f root') ≡ Some class → Some leaf ≡ leaf_in classes class → key_fits class.key key ≡ true
    → f' ≡ f → way_for true key (objects_of f' root') root' ≡ Ok found → first ≡ log ++ Read root ∷ [] → ((base : List Call) → first ≡ base ++ Read root' ∷ [] → middle ≡ base ++ reads_of (Ok found)) → HasWay f root key found log middle
has_way f f' root root' key found class leaf log first middle r c l k s w h m = record {
  fits = fits_all f root key class leaf (ap (λ x. class_held (f x)) (sym r) ∙ c) (sym l) k;
  way = ap (λ x. way_for true key (objects_of f x) x) (sym r) ∙ ap (λ g. way_for true key (objects_of g root') root') (sym s) ∙ w;
  read = m log (h ∙ ap (λ x. log ++ Read x ∷ []) (sym r));
}

-- the contents of the root's objects, after its way was read, are those of before
pub same_objects : (f f' f'' : ℕ → Option (List ℕ)) (root root' : ℕ) → root' ≡ root → f' ≡ f → f'' ≡ f' → objects_of f'' root' ≡ objects_of f root
same_objects f f' f'' root root' r s s' = ap (λ h. objects_of h root') (s' ∙ s) ∙ ap (objects_of f) r

-- what was read is what the definition reads
pub all_reads : (f : ℕ → Option (List ℕ)) (root : ℕ) (key : Key) (objects : ℕ → Held) (found : Found) (log middle log' : List Call) → objects ≡ objects_of f root → HasWay f root key found log middle → log' ≡ middle ++ reads (oids_found key objects found) → log' ≡ log ++ reads_under f root key
all_reads f root key objects found log middle log' o h l =
    l ∙ ap (λ x. middle ++ reads (oids_found key x found)) o
    ∙ ap (λ x. x ++ reads (oids_found key (objects_of f root) found)) h.read
    ∙ append_assoc log (reads_of (Ok found)) (reads (oids_found key (objects_of f root) found))
    ∙ ap (λ w. log ++ reads_by key (objects_of f root) w) (sym (ap (λ b. way_for b key (objects_of f root) root) h.fits ∙ h.way))

-- ---- what was read of the way

pub met_at_root : (f : ℕ → Option (List ℕ)) (root : ℕ) (key : Key) (log log' : List Call) (no_memory : Bool) → IsLogged root no_memory log log' → ReadsFirst (met_under f root key) log log'
met_at_root f root key log log' no_memory l =
    first_more (met_for f root key) (beside_by key (objects_of f root) (remove_way f root key)) log log' (root_logged key (objects_of f root) root log log' no_memory l)

pub met_root_read : (f : ℕ → Option (List ℕ)) (root : ℕ) (key : Key) (log log' : List Call) → log' ≡ log ++ Read root ∷ [] → ReadsFirst (met_under f root key) log log'
met_root_read f root key log log' l =
    first_more (met_for f root key) (beside_by key (objects_of f root) (remove_way f root key)) log log' (root_read key (objects_of f root) root log log' l)

pub met_on_way : (f f' : ℕ → Option (List ℕ)) (root root' : ℕ) (key : Key) (log log' : List Call) → f' ≡ f → root' ≡ root → ReadsFirst (met_for f' root' key) log log' → ReadsFirst (met_under f root key) log log'
met_on_way f f' root root' key log log' c r reads =
    first_more (met_for f root key) (beside_by key (objects_of f root) (remove_way f root key)) log log' (met_of_root f f' root root' key log log' c r reads)

met_is : (f : ℕ → Option (List ℕ)) (root : ℕ) (key : Key) (found : Found) → fits_tree (class_held (f root)) key ≡ true → way_for true key (objects_of f root) root ≡ Ok found → met_under f root key ≡ oids_of found ++ met_beside key (objects_of f root) found
met_is f root key found t h =
    ap (λ xs. xs ++ beside_by key (objects_of f root) (remove_way f root key)) (met_found true key (objects_of f root) (2 ^ 64) [] root found h)
    ∙ ap (λ w. oids_of found ++ beside_by key (objects_of f root) w) (ap (λ b. way_for b key (objects_of f root) root) t ∙ h)

-- the way was found, and some of the objects besides it were read
pub met_past_way : (f : ℕ → Option (List ℕ)) (root : ℕ) (key : Key) (objects : ℕ → Held) (found : Found) (log middle log' : List Call) → objects ≡ objects_of f root → HasWay f root key found log middle → ReadsFirst (met_beside key objects found) middle log' → ReadsFirst (met_under f root key) log log'
met_past_way f root key objects found log middle log' o h r =
    subst (λ xs. ReadsFirst xs log log') (sym (met_is f root key found h.fits h.way))
    (first_then (oids_of found) (met_beside key (objects_of f root) found) log middle log' h.read (subst (λ x. ReadsFirst (met_beside key x found) middle log') o r))

-- ---- answers

pub refused_before : (told : Type 0) (f f' : ℕ → Option (List ℕ)) (log log' : List Call) (root : ℕ) (key : Key) (e : TreeError) → IsRefusal e (plan_under f root key) → f' ≡ f → (told → ReadsFirst (met_under f root key) log log') → Removes told f f' log log' root key (Err e)
refused_before told f f' log log' root key e r c l = inl (record { refusal = r; contents = c; log = l })

pub is_absent : (told : Type 0) (f f' : ℕ → Option (List ℕ)) (log log' : List Call) (root : ℕ) (key : Key) → plan_under f root key ≡ Ok None → f' ≡ f → (told → log' ≡ log ++ reads_under f root key) → Removes told f f' log log' root key (Ok false)
is_absent told f f' log log' root key n c l = record { none = n; contents = c; log = l }

has_puts : (told : Type 0) (f : ℕ → Option (List ℕ)) (log middle : List Call) (root : ℕ) (key : Key) (class leaf : Class) (puts : List Put) → class_held (f root) ≡ Some class → leaf_in classes class ≡ Some leaf → plan_under f root key ≡ Ok (Some puts) → (told → middle ≡ log ++ reads_under f root key) → HasPuts told f log middle root key class leaf puts
has_puts told f log middle root key class leaf puts c l p r = record { class_is = c; leaf_is = l; plan_is = p; reads = r }

pub is_removed : (told : Type 0) (f g f' : ℕ → Option (List ℕ)) (log middle log' : List Call) (root : ℕ) (key : Key) (class leaf : Class) (puts : List Put) → class_held (f root) ≡ Some class → leaf_in classes class ≡ Some leaf → plan_under f root key ≡ Ok (Some puts) → (told → middle ≡ log ++ reads_under f root key) → g ≡ f → IsStored told class leaf puts g f' middle log' → Removes told f f' log log' root key (Ok true)
is_removed told f g f' log middle log' root key class leaf puts c l p r e s = record {
  class = class;
  leaf = leaf;
  puts = puts;
  middle = middle;
  plan = has_puts told f log middle root key class leaf puts c l p r;
  stored = subst (λ x. IsStored told class leaf puts x f' middle log') e s;
}

pub is_stopped : (told : Type 0) (f g f' : ℕ → Option (List ℕ)) (log middle log' : List Call) (root : ℕ) (key : Key) (class leaf : Class) (puts : List Put) (e : TreeError) → class_held (f root) ≡ Some class → leaf_in classes class ≡ Some leaf → plan_under f root key ≡ Ok (Some puts) → (told → middle ≡ log ++ reads_under f root key) → g ≡ f → Breaks told class leaf puts g f' middle log' e → Removes told f f' log log' root key (Err e)
is_stopped told f g f' log middle log' root key class leaf puts e c l p r s b = inr (record {
  class = class;
  leaf = leaf;
  puts = puts;
  middle = middle;
  plan = has_puts told f log middle root key class leaf puts c l p r;
  breaks = subst (λ x. Breaks told class leaf puts x f' middle log' e) s b;
})

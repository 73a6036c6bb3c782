-- What a set answers.
use Rattle.std.proofs.Common.{◌≡◌, ℕ, ◌<◌, ◌^◌, Bool, true, false, List, [], ◌∷◌, ◌++◌, Option, Some, None, Result, Ok, Err, refl, sym, ◌∙◌, ap, subst, length, append_assoc, append-nil, inl, inr, ◌⊎◌}
use Rattle.std.specs.Prelude.{◌&&◌, map}
use Rattle.std.specs.Option.{option_map}
use Rattle.pickle_graph.specs.Graph.{Graph}
use Rattle.btree_family.specs.declared.key.Key.{Key}
use Rattle.btree_family.specs.Classes.{Class, classes, leaf_in}
use Rattle.btree_family.specs.Families.{key_fits}
use Rattle.btree_shapes.specs.declared.error.TreeError.{TreeError}
use Rattle.btree_shapes.specs.declared.error.TreeError.TheVariants.{NotATree, NodeMissing, BadKey, Refused, Memory}
use Rattle.btree_shapes.specs.declared.node.Node.{Node}
use Rattle.btree_shapes.specs.declared.way.Found.{Found}
use Rattle.btree_shapes.specs.declared.space.Call.{Call}
use Rattle.btree_shapes.specs.declared.space.Call.TheVariants.{Drew, Read}
use Rattle.btree_shapes.specs.Nodes.{Held, Nothing, Foreign, Holds, node_suits, class_held, objects_of}
use Rattle.btree_shapes.specs.Reading.{IsReadError}
use Rattle.btree_shapes.specs.Met.{ReadsFirst, met_for, oids_of}
use Rattle.btree_shapes.specs.MetLaws.{first_more, first_then, met_found, met_of_root, root_logged, root_read}
use Rattle.btree_shapes.specs.Spaces.{IsLogged}
use Rattle.btree_shapes.specs.Ways.{way_for, IsRefusal, family_key, reads, reads_of}
use Rattle.btree_shapes.specs.Steps.{above_root, root_bad_key}
use Rattle.btree_putting.specs.declared.puts.Put.{Put}
use Rattle.btree_setting.specs.declared.growing.Terms.{Terms}
use Rattle.btree_setting.specs.declared.preparing.Sizes.{Sizes}
use Rattle.btree_setting.specs.declared.preparing.Task.{Task}
use Rattle.btree_putting.specs.declared.kept.Kept.{Kept}
use Rattle.btree_putting.specs.Kept.{AreTried, kept_put}
use Rattle.btree_setting.specs.declared.setting.Trial.{Trial}
use Rattle.btree_setting.specs.declared.setting.SetEnd.{SetEnd}
use Rattle.btree_setting.specs.declared.setting.SetEnd.TheVariants.{Done, Lacks}
use Rattle.btree_setting.specs.Values.{fits_class, family_value}
use Rattle.btree_putting.specs.Writing.{has_leaf}
use Rattle.btree_setting.specs.Tasks.{fits_tree, set_way, task_found, task_by, task_under, asked_found, beside_by, met_under, reads_by, reads_under}
use Rattle.btree_putting.specs.Storing.{IsFree, IsStored, IsStoredFront}
use Rattle.btree_setting.specs.Sets.{DrewOf, terms_of, Fails, IsTried, Passes, IsPlan, IsShort, Plans, IsWritten, IsBrokenOff, IsUnwritable, Writes, WritesWithin}
use Rattle.btree_setting.proofs.Trying.{is_whole}
use Rattle.btree_setting.specs.Ends.{HasTask, HasNone, IsLacking, IsRefusedBefore, Sets, SetsWithin}

-- ---- writing

-- there was no memory before a number was drawn
pub starved : (told : Type 0) (class leaf : Class) (sizes : Sizes) (key : Key) (task : Task) (f : ℕ → Option (List ℕ)) (log : List Call) → Writes told class leaf sizes key task f f log log (Err Memory)
starved told class leaf sizes key task f log = inl (record { contents = refl; log = λ t. refl })

-- not all numbers were drawn
pub undrawn : (told : Type 0) (class leaf : Class) (sizes : Sizes) (key : Key) (task : Task) (terms : Terms) (count : ℕ) (f f' : ℕ → Option (List ℕ)) (log log' : List Call) (e : TreeError) → IsFree e → terms_of class leaf sizes key ≡ Some terms → Passes class leaf terms task count → f' ≡ f → (told → DrewOf count e log log') → Writes told class leaf sizes key task f f' log log' (Err e)
undrawn told class leaf sizes key task terms count f f' log log' (NotATree oid) free t p c l = absurd free
undrawn told class leaf sizes key task terms count f f' log log' (NodeMissing oid) free t p c l = absurd free
undrawn told class leaf sizes key task terms count f f' log log' BadKey free t p c l = absurd free
undrawn told class leaf sizes key task terms count f f' log log' (Refused refusal) free t p c l = inl (record { terms = terms; terms_are = t; count = count; passes = p; contents = c; log = l })
undrawn told class leaf sizes key task terms count f f' log log' Memory free t p c l = inr (inl (record { terms = terms; terms_are = t; count = count; passes = p; contents = c; log = l }))

pub no_terms : (told : Type 0) (class leaf : Class) (sizes : Sizes) (key : Key) (task : Task) (f : ℕ → Option (List ℕ)) (log : List Call) → terms_of class leaf sizes key ≡ None → Writes told class leaf sizes key task f f log log (Err BadKey)
no_terms told class leaf sizes key task f log e = record { fails = inl e; contents = refl; log = λ t. refl }

pub not_kept : (told : Type 0) (class leaf : Class) (sizes : Sizes) (key : Key) (task : Task) (terms : Terms) (f : ℕ → Option (List ℕ)) (log : List Call) → terms_of class leaf sizes key ≡ Some terms → Fails class leaf terms task → Writes told class leaf sizes key task f f log log (Err BadKey)
not_kept told class leaf sizes key task terms f log e x = record { fails = inr (terms, e, x); contents = refl; log = λ t. refl }

pub plans : (told : Type 0) (class leaf : Class) (sizes : Sizes) (key : Key) (task : Task) (terms : Terms) (count : ℕ) (puts : List Put) (log log' : List Call) → terms_of class leaf sizes key ≡ Some terms → Passes class leaf terms task count → IsPlan told terms task puts log log' → Plans told class leaf sizes key task puts log log'
plans told class leaf sizes key task terms count puts log log' e p i = record { terms = terms; terms_are = e; count = count; passes = p; plan = i }

pub written : (told : Type 0) (class leaf : Class) (sizes : Sizes) (key : Key) (task : Task) (puts : List Put) (f f' : ℕ → Option (List ℕ)) (log middle log' : List Call) → Plans told class leaf sizes key task puts log middle → IsStored told class leaf puts f f' middle log' → Writes told class leaf sizes key task f f' log log' (Ok tt)
written told class leaf sizes key task puts f f' log middle log' p s = record { puts = puts; middle = middle; plan = p; stored = s }

pub broken_off : (told : Type 0) (class leaf : Class) (sizes : Sizes) (key : Key) (task : Task) (puts : List Put) (f f' : ℕ → Option (List ℕ)) (log middle log' : List Call) (e : TreeError) → IsFree e → Plans told class leaf sizes key task puts log middle → IsStoredFront told class leaf puts f f' middle log' → Writes told class leaf sizes key task f f' log log' (Err e)
broken_off told class leaf sizes key task puts f f' log middle log' (NotATree oid) free p s = absurd free
broken_off told class leaf sizes key task puts f f' log middle log' (NodeMissing oid) free p s = absurd free
broken_off told class leaf sizes key task puts f f' log middle log' BadKey free p s = absurd free
broken_off told class leaf sizes key task puts f f' log middle log' (Refused refusal) free p s = inr (record { puts = puts; middle = middle; plan = p; stored = s })
broken_off told class leaf sizes key task puts f f' log middle log' Memory free p s = inr (inr (record { puts = puts; middle = middle; plan = p; stored = s }))

-- ---- what was tried is put

whole_plans : (told : Type 0) (class leaf : Class) (sizes : Sizes) (key : Key) (task : Task) (terms : Terms) (trial : Trial) (log : List Call) → terms_of class leaf sizes key ≡ Some terms → IsTried class leaf terms task trial → trial.count ≡ 0 → length trial.olds ≡ 1 → Plans told class leaf sizes key task (map kept_put trial.olds) log log
whole_plans told class leaf sizes key task terms trial log e t z o = plans told class leaf sizes key task terms trial.count (map kept_put trial.olds) log log e t.passes (is_whole told class leaf terms task trial log t z o)

pub written_whole : (told : Type 0) (class leaf : Class) (sizes : Sizes) (key : Key) (task : Task) (terms : Terms) (trial : Trial) (f f' : ℕ → Option (List ℕ)) (log log' : List Call) → terms_of class leaf sizes key ≡ Some terms → IsTried class leaf terms task trial → trial.count ≡ 0 → length trial.olds ≡ 1 → IsStored told class leaf (map kept_put trial.olds) f f' log log' → Writes told class leaf sizes key task f f' log log' (Ok tt)
written_whole told class leaf sizes key task terms trial f f' log log' e t z o s =
    written told class leaf sizes key task (map kept_put trial.olds) f f' log log log' (whole_plans told class leaf sizes key task terms trial log e t z o) s

pub broken_whole : (told : Type 0) (class leaf : Class) (sizes : Sizes) (key : Key) (task : Task) (terms : Terms) (trial : Trial) (f f' : ℕ → Option (List ℕ)) (log log' : List Call) (e : TreeError) → terms_of class leaf sizes key ≡ Some terms → IsTried class leaf terms task trial → trial.count ≡ 0 → length trial.olds ≡ 1 → IsFree e → IsStoredFront told class leaf (map kept_put trial.olds) f f' log log' → Writes told class leaf sizes key task f f' log log' (Err e)
broken_whole told class leaf sizes key task terms trial f f' log log' e is t z o free s =
    broken_off told class leaf sizes key task (map kept_put trial.olds) f f' log log log' e free (whole_plans told class leaf sizes key task terms trial log is t z o) s

pub written_kept : (told : Type 0) (class leaf : Class) (sizes : Sizes) (key : Key) (task : Task) (terms : Terms) (count : ℕ) (puts : List Put) (kept : List Kept) (f f' : ℕ → Option (List ℕ)) (log middle log' : List Call) → terms_of class leaf sizes key ≡ Some terms → Passes class leaf terms task count → IsPlan told terms task puts log middle → AreTried class leaf puts kept → IsStored told class leaf (map kept_put kept) f f' middle log' → Writes told class leaf sizes key task f f' log log' (Ok tt)
written_kept told class leaf sizes key task terms count puts kept f f' log middle log' e p i t s =
    written told class leaf sizes key task puts f f' log middle log' (plans told class leaf sizes key task terms count puts log middle e p i) (subst (λ ps. IsStored told class leaf ps f f' middle log') t.puts_are s)

pub broken_kept : (told : Type 0) (class leaf : Class) (sizes : Sizes) (key : Key) (task : Task) (terms : Terms) (count : ℕ) (puts : List Put) (kept : List Kept) (f f' : ℕ → Option (List ℕ)) (log middle log' : List Call) (e : TreeError) → terms_of class leaf sizes key ≡ Some terms → Passes class leaf terms task count → IsPlan told terms task puts log middle → AreTried class leaf puts kept → IsFree e → IsStoredFront told class leaf (map kept_put kept) f f' middle log' → Writes told class leaf sizes key task f f' log log' (Err e)
broken_kept told class leaf sizes key task terms count puts kept f f' log middle log' e is p i t free s =
    broken_off told class leaf sizes key task puts f f' log middle log' e free (plans told class leaf sizes key task terms count puts log middle is p i) (subst (λ ps. IsStoredFront told class leaf ps f f' middle log') t.puts_are s)

-- there was no memory once all numbers were drawn
pub none_put : (told : Type 0) (class leaf : Class) (sizes : Sizes) (key : Key) (task : Task) (terms : Terms) (count : ℕ) (puts : List Put) (f f' : ℕ → Option (List ℕ)) (log middle : List Call) → terms_of class leaf sizes key ≡ Some terms → Passes class leaf terms task count → IsPlan told terms task puts log middle → f' ≡ f → Writes told class leaf sizes key task f f' log middle (Err Memory)
none_put told class leaf sizes key task terms count puts f f' log middle e p i c =
    inr (inr (record {
      puts = puts;
      middle = middle;
      plan = plans told class leaf sizes key task terms count puts log middle e p i;
      stored = record { front = []; behind = puts; cut = refl; stored = record { kept = refl; contents = c; log = λ t. sym (append-nil middle) } };
    }))

-- there are fewer numbers than are needed
pub is_short : (told : Type 0) (class leaf : Class) (sizes : Sizes) (key : Key) (task : Task) (terms : Terms) (count supply : ℕ) (f : ℕ → Option (List ℕ)) (log : List Call) → terms_of class leaf sizes key ≡ Some terms → Passes class leaf terms task count → supply < count → IsShort told class leaf sizes key task supply f f log log
is_short told class leaf sizes key task terms count supply f log t p m = record { terms = terms; terms_are = t; count = count; passes = p; more = m; contents = refl; log = λ x. refl }

-- ---- the way

refused_task : (objects : ℕ → Held) (fits : Bool) (sizes : Sizes) (key : Key) (value : Option (List ℕ)) (way : Result Found TreeError) (e : TreeError) → IsRefusal e way → IsRefusal e (task_by objects fits sizes key value way)
refused_task objects fits sizes key value way (NotATree oid) h = ap (task_by objects fits sizes key value) h
refused_task objects fits sizes key value way (NodeMissing oid) h = ap (task_by objects fits sizes key value) h
refused_task objects fits sizes key value way BadKey h = ap (task_by objects fits sizes key value) h
refused_task objects fits sizes key value way (Refused refusal) h = tt
refused_task objects fits sizes key value way Memory h = tt

way_unread : (fits : Bool) (key : Key) (objects : ℕ → Held) (root : ℕ) (e : TreeError) → IsReadError (objects root) root e → IsRefusal e (way_for fits key objects root)
way_unread fits key objects root (NotATree other) (o, h) = above_root fits key objects root Foreign h ∙ ap (λ x. Err (NotATree x)) (sym o)
way_unread fits key objects root (NodeMissing other) (o, h) = above_root fits key objects root Nothing h ∙ ap (λ x. Err (NodeMissing x)) (sym o)
way_unread fits key objects root BadKey h = absurd h
way_unread fits key objects root (Refused refusal) h = tt
way_unread fits key objects root Memory h = tt

pub root_unread : (f : ℕ → Option (List ℕ)) (root : ℕ) (sizes : Sizes) (key : Key) (value : Option (List ℕ)) (e : TreeError) → IsReadError (objects_of f root root) root e → IsRefusal e (task_under f root sizes key value)
root_unread f root sizes key value e h =
    refused_task (objects_of f root) (fits_tree (class_held (f root)) key value) sizes key value (set_way f root key value) e
    (way_unread (fits_tree (class_held (f root)) key value) key (objects_of f root) root e h)

and_false : (b : Bool) → (b && false) ≡ false
and_false true = refl
and_false false = refl

-- a key or a value that is not of the family is refused at the root
bad_here : (f : ℕ → Option (List ℕ)) (root : ℕ) (sizes : Sizes) (key : Key) (value : Option (List ℕ)) (own : Graph) (node : Node) → objects_of f root root ≡ Holds own node → fits_tree (class_held (f root)) key value ≡ false → task_under f root sizes key value ≡ Err BadKey
bad_here f root sizes key value own node h e =
    ap (task_by (objects_of f root) (fits_tree (class_held (f root)) key value) sizes key value)
    (root_bad_key (fits_tree (class_held (f root)) key value) key (objects_of f root) root own node h (ap (λ b. b && node_suits key node) e))

leaf_none : (found : Option Class) → found ≡ None → has_leaf found ≡ false
leaf_none found e = ap has_leaf e

pub no_leaf : (f : ℕ → Option (List ℕ)) (root : ℕ) (sizes : Sizes) (key : Key) (value : Option (List ℕ)) (own : Graph) (node : Node) (class : Class) → objects_of f root root ≡ Holds own node → class_held (f root) ≡ Some class → leaf_in classes class ≡ None → task_under f root sizes key value ≡ Err BadKey
no_leaf f root sizes key value own node class h c l =
    bad_here f root sizes key value own node h
    (ap (λ x. fits_tree x key value) c ∙ ap (λ x. key_fits class.key key && (has_leaf x && fits_class class value)) l ∙ and_false (key_fits class.key key))

pub no_key : (f : ℕ → Option (List ℕ)) (root : ℕ) (sizes : Sizes) (key : Key) (value : Option (List ℕ)) (own : Graph) (node : Node) (class : Class) → objects_of f root root ≡ Holds own node → class_held (f root) ≡ Some class → key_fits class.key key ≡ false → task_under f root sizes key value ≡ Err BadKey
no_key f root sizes key value own node class h c l =
    bad_here f root sizes key value own node h
    (ap (λ x. fits_tree x key value) c ∙ ap (λ b. b && family_value (Some class) value) l)

pub no_value : (f : ℕ → Option (List ℕ)) (root : ℕ) (sizes : Sizes) (key : Key) (value : Option (List ℕ)) (own : Graph) (node : Node) (class : Class) → objects_of f root root ≡ Holds own node → class_held (f root) ≡ Some class → fits_class class value ≡ false → task_under f root sizes key value ≡ Err BadKey
no_value f root sizes key value own node class h c l =
    bad_here f root sizes key value own node h
    (ap (λ x. fits_tree x key value) c
    ∙ ap (λ b. key_fits class.key key && (has_leaf (leaf_in classes class) && b)) l
    ∙ ap (λ b. key_fits class.key key && b) (and_false (has_leaf (leaf_in classes class)))
    ∙ and_false (key_fits class.key key))

-- both are of the family
pub fits_all : (f : ℕ → Option (List ℕ)) (root : ℕ) (key : Key) (value : Option (List ℕ)) (class leaf : Class) → class_held (f root) ≡ Some class → leaf_in classes class ≡ Some leaf → key_fits class.key key ≡ true → fits_class class value ≡ true → fits_tree (class_held (f root)) key value ≡ true
fits_all f root key value class leaf c l k v =
    ap (λ x. fits_tree x key value) c
    ∙ ap (λ b. b && (has_leaf (leaf_in classes class) && fits_class class value)) k
    ∙ ap (λ x. has_leaf x && fits_class class value) l
    ∙ v

task_so : (f : ℕ → Option (List ℕ)) (root : ℕ) (sizes : Sizes) (key : Key) (value : Option (List ℕ)) → fits_tree (class_held (f root)) key value ≡ true → task_under f root sizes key value ≡ task_by (objects_of f root) true sizes key value (way_for true key (objects_of f root) root)
task_so f root sizes key value e = ap (λ b. task_by (objects_of f root) b sizes key value (way_for b key (objects_of f root) root)) e

pub way_refused : (f : ℕ → Option (List ℕ)) (root : ℕ) (sizes : Sizes) (key : Key) (value : Option (List ℕ)) (e : TreeError) → fits_tree (class_held (f root)) key value ≡ true → IsRefusal e (way_for true key (objects_of f root) root) → IsRefusal e (task_under f root sizes key value)
way_refused f root sizes key value e t h =
    subst (IsRefusal e) (sym (task_so f root sizes key value t)) (refused_task (objects_of f root) true sizes key value (way_for true key (objects_of f root) root) e h)

pub task_is_found : (f : ℕ → Option (List ℕ)) (root : ℕ) (sizes : Sizes) (key : Key) (value : Option (List ℕ)) (found : Found) → fits_tree (class_held (f root)) key value ≡ true → way_for true key (objects_of f root) root ≡ Ok found → task_under f root sizes key value ≡ task_found (objects_of f root) true sizes key value found
task_is_found f root sizes key value found t h = task_so f root sizes key value t ∙ ap (task_by (objects_of f root) true sizes key value) h

pub found_refused : (f : ℕ → Option (List ℕ)) (root : ℕ) (sizes : Sizes) (key : Key) (value : Option (List ℕ)) (found : Found) (e : TreeError) → fits_tree (class_held (f root)) key value ≡ true → way_for true key (objects_of f root) root ≡ Ok found → IsRefusal e (task_found (objects_of f root) true sizes key value found) → IsRefusal e (task_under f root sizes key value)
found_refused f root sizes key value found e t h r = subst (IsRefusal e) (sym (task_is_found f root sizes key value found t h)) r

pub way_is_refused : (f : ℕ → Option (List ℕ)) (root : ℕ) (sizes : Sizes) (key : Key) (value : Option (List ℕ)) (e : TreeError) (class leaf : Class) → class_held (f root) ≡ Some class → leaf_in classes class ≡ Some leaf → key_fits class.key key ≡ true → fits_class class value ≡ true → IsRefusal e (way_for true key (objects_of f root) root) → IsRefusal e (task_under f root sizes key value)
way_is_refused f root sizes key value e class leaf c l k v h = way_refused f root sizes key value e (fits_all f root key value class leaf c l k v) h

pub task_is_refused : (f : ℕ → Option (List ℕ)) (root : ℕ) (sizes : Sizes) (key : Key) (value : Option (List ℕ)) (found : Found) (e : TreeError) (class leaf : Class) → class_held (f root) ≡ Some class → leaf_in classes class ≡ Some leaf → key_fits class.key key ≡ true → fits_class class value ≡ true → way_for true key (objects_of f root) root ≡ Ok found → IsRefusal e (task_found (objects_of f root) true sizes key value found) → IsRefusal e (task_under f root sizes key value)
task_is_refused f root sizes key value found e class leaf c l k v w h = found_refused f root sizes key value found e (fits_all f root key value class leaf c l k v) w h

-- ---- a way that was found

-- the key and the value are of the family of the root's class, and the way below the root was found and read
pub record HasWay (f : ℕ → Option (List ℕ)) (root : ℕ) (key : Key) (value : Option (List ℕ)) (found : Found) (log middle : List Call) : Type 0 where
  pub fits : fits_tree (class_held (f root)) key value ≡ true
  pub way : way_for true key (objects_of f root) root ≡ Ok found
  pub read : middle ≡ log ++ reads_of (Ok found)

pub has_way : (f f' : ℕ → Option (List ℕ)) (root root' : ℕ) (key : Key) (value : Option (List ℕ)) (found : Found) (class leaf : Class) (log first middle : List Call) → root' ≡ root → class_held (f root') ≡ Some class → Some leaf ≡ leaf_in classes class → key_fits class.key key ≡ true → fits_class class value ≡ true
    → f' ≡ f → way_for true key (objects_of f' root') root' ≡ Ok found → first ≡ log ++ Read root ∷ [] → ((base : List Call) → first ≡ base ++ Read root' ∷ [] → middle ≡ base ++ reads_of (Ok found)) → HasWay f root key value found log middle
has_way f f' root root' key value found class leaf log first middle r c l k v s w h m = record {
  fits = fits_all f root key value class leaf (ap (λ x. class_held (f x)) (sym r) ∙ c) (sym l) k v;
  way = ap (λ x. way_for true key (objects_of f x) x) (sym r) ∙ ap (λ g. way_for true key (objects_of g root') root') (sym s) ∙ w;
  read = m log (h ∙ ap (λ x. log ++ Read x ∷ []) (sym r));
}

-- what was read is what the definition reads
pub all_reads : (f : ℕ → Option (List ℕ)) (root : ℕ) (sizes : Sizes) (key : Key) (value : Option (List ℕ)) (found : Found) (log middle log' : List Call) → HasWay f root key value found log middle → log' ≡ middle ++ reads (asked_found sizes key value found) → log' ≡ log ++ reads_under f root sizes key value
all_reads f root sizes key value found log middle log' h l =
    l ∙ ap (λ x. x ++ reads (asked_found sizes key value found)) h.read
    ∙ append_assoc log (reads_of (Ok found)) (reads (asked_found sizes key value found))
    ∙ ap (λ w. log ++ reads_by sizes key value w) (sym (ap (λ b. way_for b key (objects_of f root) root) h.fits ∙ h.way))

-- ---- what was read of the way

pub met_at_root : (f : ℕ → Option (List ℕ)) (root : ℕ) (sizes : Sizes) (key : Key) (value : Option (List ℕ)) (log log' : List Call) (no_memory : Bool) → IsLogged root no_memory log log' → ReadsFirst (met_under f root sizes key value) log log'
met_at_root f root sizes key value log log' no_memory l =
    first_more (met_for f root key) (beside_by sizes key value (set_way f root key value)) log log' (root_logged key (objects_of f root) root log log' no_memory l)

pub met_root_read : (f : ℕ → Option (List ℕ)) (root : ℕ) (sizes : Sizes) (key : Key) (value : Option (List ℕ)) (log log' : List Call) → log' ≡ log ++ Read root ∷ [] → ReadsFirst (met_under f root sizes key value) log log'
met_root_read f root sizes key value log log' l =
    first_more (met_for f root key) (beside_by sizes key value (set_way f root key value)) log log' (root_read key (objects_of f root) root log log' l)

pub met_on_way : (f f' : ℕ → Option (List ℕ)) (root root' : ℕ) (sizes : Sizes) (key : Key) (value : Option (List ℕ)) (log log' : List Call) → f' ≡ f → root' ≡ root → ReadsFirst (met_for f' root' key) log log' → ReadsFirst (met_under f root sizes key value) log log'
met_on_way f f' root root' sizes key value log log' c r reads =
    first_more (met_for f root key) (beside_by sizes key value (set_way f root key value)) log log' (met_of_root f f' root root' key log log' c r reads)

met_is : (f : ℕ → Option (List ℕ)) (root : ℕ) (sizes : Sizes) (key : Key) (value : Option (List ℕ)) (found : Found) → fits_tree (class_held (f root)) key value ≡ true → way_for true key (objects_of f root) root ≡ Ok found → met_under f root sizes key value ≡ oids_of found ++ asked_found sizes key value found
met_is f root sizes key value found t h =
    ap (λ xs. xs ++ beside_by sizes key value (set_way f root key value)) (met_found true key (objects_of f root) (2 ^ 64) [] root found h)
    ∙ ap (λ w. oids_of found ++ beside_by sizes key value w) (ap (λ b. way_for b key (objects_of f root) root) t ∙ h)

-- the way was found, and some of the children besides it were read
pub met_beside : (f : ℕ → Option (List ℕ)) (root : ℕ) (sizes : Sizes) (key : Key) (value : Option (List ℕ)) (found : Found) (log middle log' : List Call) → HasWay f root key value found log middle → ReadsFirst (asked_found sizes key value found) middle log' → ReadsFirst (met_under f root sizes key value) log log'
met_beside f root sizes key value found log middle log' h r =
    subst (λ xs. ReadsFirst xs log log') (sym (met_is f root sizes key value found h.fits h.way)) (first_then (oids_of found) (asked_found sizes key value found) log middle log' h.read r)

-- ---- answers

pub refused_before : (told : Type 0) (f f' : ℕ → Option (List ℕ)) (log log' : List Call) (root : ℕ) (sizes : Sizes) (key : Key) (value : Option (List ℕ)) (e : TreeError) → IsRefusal e (task_under f root sizes key value) → f' ≡ f → (told → ReadsFirst (met_under f root sizes key value) log log') → Sets told f f' log log' root sizes key value (Err e)
refused_before told f f' log log' root sizes key value e r c l = inl (record { refusal = r; contents = c; log = l })

pub has_none : (told : Type 0) (f f' : ℕ → Option (List ℕ)) (log log' : List Call) (root : ℕ) (sizes : Sizes) (key : Key) (value : Option (List ℕ)) → task_under f root sizes key value ≡ Ok None → f' ≡ f → (told → log' ≡ log ++ reads_under f root sizes key value) → Sets told f f' log log' root sizes key value (Ok tt)
has_none told f f' log log' root sizes key value r c l = inl (record { none = r; contents = c; log = l })

pub has_task : (told : Type 0) (f f' : ℕ → Option (List ℕ)) (log middle log' : List Call) (root : ℕ) (sizes : Sizes) (key : Key) (value : Option (List ℕ)) (supply : ℕ) (class leaf : Class) (task : Task) (result : Result SetEnd TreeError) → class_held (f root) ≡ Some class → leaf_in classes class ≡ Some leaf → task_under f root sizes key value ≡ Ok (Some task) → (told → middle ≡ log ++ reads_under f root sizes key value)
    → WritesWithin told class leaf sizes key task supply f f' middle log' result → SetsWithin told f f' log log' root sizes key value supply result
has_task told f f' log middle log' root sizes key value supply class leaf task (Ok Done) c l t m w = inr (record { class = class; class_is = c; leaf = leaf; leaf_is = l; task = task; task_is = t; middle = middle; reads = m; writes = w })
has_task told f f' log middle log' root sizes key value supply class leaf task (Ok Lacks) c l t m w = record {
  count = w.count;
  needs = record { class = class; class_is = c; leaf = leaf; leaf_is = l; task = task; task_is = t; terms = w.terms; terms_are = w.terms_are; passes = w.passes };
  more = w.more;
  contents = w.contents;
  log = λ x. w.log x ∙ m x;
}
has_task told f f' log middle log' root sizes key value supply class leaf task (Err e) c l t m w = inr (record { class = class; class_is = c; leaf = leaf; leaf_is = l; task = task; task_is = t; middle = middle; reads = m; writes = w })

-- where no supply is too small, want of memory stands for one
pub never_lacks : (told : Type 0) (f f' : ℕ → Option (List ℕ)) (log log' : List Call) (root : ℕ) (sizes : Sizes) (key : Key) (value : Option (List ℕ)) (supply : ℕ) → IsLacking told f f' log log' root sizes key value supply → Sets told f f' log log' root sizes key value (Err Memory)
never_lacks told f f' log log' root sizes key value supply x = inr (record {
  class = x.needs.class;
  class_is = x.needs.class_is;
  leaf = x.needs.leaf;
  leaf_is = x.needs.leaf_is;
  task = x.needs.task;
  task_is = x.needs.task_is;
  middle = log';
  reads = x.log;
  writes = inl (record { contents = x.contents; log = λ t. refl });
})

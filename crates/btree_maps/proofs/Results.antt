-- What a set answers and makes in a sound tree.
use Rattle.std.proofs.Common.{◌≡◌, ℕ, ◌≤◌, ◌<◌, ◌^◌, Bool, true, false, List, [], ◌∷◌, ◌++◌, Option, Some, None, Result, Ok, Err, refl, sym, ◌∙◌, ap, subst, zero, suc, inl, inr, append-nil}
use Rattle.std.specs.Prelude.{map, length, if◌then◌else◌}
use Rattle.pickle_graph.specs.Graph.{Graph}
use Rattle.btree_family.specs.declared.key.Key.{Key}
use Rattle.btree_family.specs.declared.bucket.Item.{Item}
use Rattle.btree_family.specs.Keys.{rank_of}
use Rattle.btree_family.specs.Classes.{Class}
use Rattle.btree_family.specs.Buckets.{BucketContents}
use Rattle.btree_shapes.specs.declared.error.TreeError.{TreeError}
use Rattle.btree_shapes.specs.declared.error.TreeError.TheVariants.{NotATree, NodeMissing, BadKey, Refused, Memory}
use Rattle.btree_shapes.specs.declared.node.Node.{Node}
use Rattle.btree_shapes.specs.declared.node.Node.TheVariants as node
use Rattle.btree_shapes.specs.declared.path.Step.{Step}
use Rattle.btree_shapes.specs.declared.space.Call.{Call}
use Rattle.btree_shapes.specs.declared.space.Call.TheVariants.{Read, Drew, Wrote}
use Rattle.btree_shapes.specs.declared.way.Found.{Found}
use Rattle.btree_shapes.specs.Nodes.{Held, Holds, items_in, class_held, objects_of}
use Rattle.btree_shapes.specs.Ways.{way_for, step_oid, IsRefusal, reads, reads_of}
use Rattle.btree_shapes.specs.Shapes.{Shape, IsTree}
use Rattle.btree_shapes.specs.Steps.{root_bad_key}
use Rattle.btree_putting.specs.declared.puts.Put.{Put}
use Rattle.btree_setting.specs.Types.{Bottom, Place, Change, Terms, Plain, Task, Rung}
use Rattle.btree_setting.specs.Types as place
use Rattle.btree_setting.specs.declared.preparing.Sizes.{Sizes}
use Rattle.btree_setting.specs.Bottoms.{leaf_at, set_at, bottom_of}
use Rattle.btree_putting.specs.Items.{has_value}
use Rattle.btree_setting.specs.Inserting.{set_item}
use Rattle.btree_putting.specs.Puts.{put_oid, all_keep, put_all}
use Rattle.btree_setting.specs.Changes.{IsRootSet}
use Rattle.btree_putting.specs.Firsts.{is_none}
use Rattle.btree_setting.specs.Rungs.{rungs_of, settle}
use Rattle.btree_putting.specs.Storing.{wrote}
use Rattle.btree_setting.specs.Sets.{plain_of, terms_with, puts_of, IsWritten, Writes}
use Rattle.btree_putting.specs.Writing.{plain_class}
use Rattle.btree_setting.specs.Tasks.{fits_tree, set_way, end_of, rungs_above, splits, with_rungs, task_for, task_found, task_by, task_under, asked_found, reads_by, reads_under}
use Rattle.btree_setting.specs.Ends.{HasTask, HasNone, Sets}
use Rattle.btree_maps.specs.Drawn.{AreNew, drawn_in, DrawsNew}
use Rattle.btree_maps.specs.Settings.{IsSetAt, SetsIn}
use Rattle.btree_maps.proofs.SetItems.{set_kept, value_set, value_other}
use Rattle.btree_maps.proofs.Rungs.{PathIn, nothing_left}
use Rattle.btree_maps.proofs.Refusing.{kept_in, Safe, settle_safe}
use Rattle.btree_maps.proofs.Founds.{one_found, fits_true, lone_found, lone_way, shape_way, root_held}
use Rattle.btree_maps.proofs.Setting.{bottom_with, bottom_is, path_end, Done, shape_done, alone_done, lone_done}

-- ---- what was drawn

drawn_append : (xs ys : List Call) → drawn_in (xs ++ ys) ≡ drawn_in xs ++ drawn_in ys
drawn_append [] ys = refl
drawn_append (Read oid ∷ xs) ys = drawn_append xs ys
drawn_append (Drew oid ∷ xs) ys = ap (λ zs. oid ∷ zs) (drawn_append xs ys)
drawn_append (Wrote oid ∷ xs) ys = drawn_append xs ys

drawn_reads : (oids : List ℕ) → drawn_in (reads oids) ≡ []
drawn_reads [] = refl
drawn_reads (x ∷ xs) = drawn_reads xs

drawn_draws : (oids : List ℕ) → drawn_in (map Drew oids) ≡ oids
drawn_draws [] = refl
drawn_draws (x ∷ xs) = ap (λ zs. x ∷ zs) (drawn_draws xs)

drawn_wrote : (puts : List Put) → drawn_in (map wrote puts) ≡ []
drawn_wrote [] = refl
drawn_wrote (x ∷ xs) = drawn_wrote xs

drawn_found : (sizes : Sizes) (key : Key) (value : Option (List ℕ)) (way : Result Found TreeError) → drawn_in (reads_by sizes key value way) ≡ []
drawn_found sizes key value (Ok found) =
    drawn_append (reads_of (Ok found)) (reads (asked_found sizes key value found)) ∙ ap (λ zs. drawn_in (reads_of (Ok found)) ++ zs) (drawn_reads (asked_found sizes key value found)) ∙ append-nil (drawn_in (reads_of (Ok found))) ∙ drawn_reads (map step_oid found.path ++ found.oid ∷ [])
drawn_found sizes key value (Err e) = refl

drawn_after : (start a b c calls : List Call) (oids : List ℕ) → drawn_in a ≡ [] → drawn_in b ≡ oids → drawn_in c ≡ [] → calls ≡ ((start ++ a) ++ b) ++ c → drawn_in calls ≡ drawn_in start ++ oids
drawn_after start a b c calls oids p q r e =
    ap drawn_in e ∙ drawn_append ((start ++ a) ++ b) c ∙ ap (λ zs. drawn_in ((start ++ a) ++ b) ++ zs) r ∙ append-nil (drawn_in ((start ++ a) ++ b))
    ∙ drawn_append (start ++ a) b ∙ ap (λ zs. drawn_in (start ++ a) ++ zs) q
    ∙ ap (λ zs. zs ++ oids) (drawn_append start a ∙ ap (λ zs. drawn_in start ++ zs) p ∙ append-nil (drawn_in start))

-- ---- parts of what was found

record TaskParts (objects : ℕ → Held) (fits : Bool) (sizes : Sizes) (key : Key) (value : Option (List ℕ)) (way : Result Found TreeError) (task : Task) : Type 0 where
  found : Found
  way_is : way ≡ Ok found
  bottom : Bottom
  bottom_of_is : bottom_of (end_of found) key value ≡ Some bottom
  rungs : List Rung
  settled : settle objects fits key [] (rungs_above sizes key found bottom) ≡ Ok rungs
  is : task ≡ record { bottom = bottom; rungs = rungs }

rungs_parts : (bottom : Bottom) (r : Result (List Rung) TreeError) (task : Task) → with_rungs bottom r ≡ Ok (Some task) → (rungs : List Rung) × (r ≡ Ok rungs) × (task ≡ record { bottom = bottom; rungs = rungs })
rungs_parts bottom (Ok rungs) task e = (rungs, refl, cc)
rungs_parts bottom (Err x) task e = absurd cc

found_parts : (objects : ℕ → Held) (fits : Bool) (sizes : Sizes) (key : Key) (value : Option (List ℕ)) (found : Found) (task : Task) (o : Option Bottom) → bottom_of (end_of found) key value ≡ o → task_for objects fits sizes key found o ≡ Ok (Some task) → TaskParts objects fits sizes key value (Ok found) task
found_parts objects fits sizes key value found task None b e = absurd cc
found_parts objects fits sizes key value found task (Some bottom) b e =
    let r = rungs_parts bottom (settle objects fits key [] (rungs_above sizes key found bottom)) task e in
    record { found = found; way_is = refl; bottom = bottom; bottom_of_is = b; rungs = r.0; settled = r.1; is = r.2 }

task_parts : (objects : ℕ → Held) (fits : Bool) (sizes : Sizes) (key : Key) (value : Option (List ℕ)) (way : Result Found TreeError) (task : Task) → task_by objects fits sizes key value way ≡ Ok (Some task) → TaskParts objects fits sizes key value way task
task_parts objects fits sizes key value (Err x) task e = absurd cc
task_parts objects fits sizes key value (Ok found) task e = found_parts objects fits sizes key value found task (bottom_of (end_of found) key value) refl e

with_not_none : (bottom : Bottom) (r : Result (List Rung) TreeError) → with_rungs bottom r ≡ Ok None → ⊥
with_not_none bottom (Ok rungs) e = cc
with_not_none bottom (Err x) e = cc

none_bottom : (objects : ℕ → Held) (fits : Bool) (sizes : Sizes) (key : Key) (value : Option (List ℕ)) (found : Found) (o : Option Bottom) → task_for objects fits sizes key found o ≡ Ok None → o ≡ None
none_bottom objects fits sizes key value found None e = refl
none_bottom objects fits sizes key value found (Some bottom) e = absurd (with_not_none bottom (settle objects fits key [] (rungs_above sizes key found bottom)) e)

none_parts : (objects : ℕ → Held) (fits : Bool) (sizes : Sizes) (key : Key) (value : Option (List ℕ)) (way : Result Found TreeError) → task_by objects fits sizes key value way ≡ Ok None → (found : Found) × (way ≡ Ok found) × (bottom_of (end_of found) key value ≡ None)
none_parts objects fits sizes key value (Err x) e = absurd cc
none_parts objects fits sizes key value (Ok found) e = (found, refl, none_bottom objects fits sizes key value found (bottom_of (end_of found) key value) e)

-- ---- nothing to change

has_at : (oid : ℕ) (class : Graph) (key : Key) (value : Option (List ℕ)) (leaf : BucketContents) (p : Place) → set_at oid class key value (Some (leaf, p)) ≡ None → has_value leaf.items key value ≡ true
has_at oid class key value leaf p e = by_test (has_value leaf.items key value) e where
  by_test : (b : Bool) → (if b then None else Some (bottom_with oid class key value leaf p)) ≡ None → b ≡ true
  by_test true e = refl
  by_test false e = absurd cc

leaf_has : (objects : ℕ → Held) (key : Key) (value : Option (List ℕ)) (h : ℕ) (s : Shape h) (path : List Step) (oid : ℕ) (class : Graph) (n : Node) → PathIn objects key h s path oid class n → set_at oid class key value (leaf_at n (is_none path)) ≡ None → has_value (items_in n) key value ≡ true
leaf_has objects key value h s path oid class (node.Leaf leaf) p e = by_test (is_none path) e where
  by_test : (b : Bool) → set_at oid class key value (leaf_at (node.Leaf leaf) b) ≡ None → has_value leaf.items key value ≡ true
  by_test true e = has_at oid class key value leaf place.Alone e
  by_test false e = has_at oid class key value leaf place.Below e
leaf_has objects key value h s path oid class (node.Lone leaf) p e = has_at oid class key value leaf place.Lone e
leaf_has objects key value h s path oid class (node.Inner inner) p e = let l = path_end objects key h s path oid class (node.Inner inner) p in absurd cc

none_kept : (objects : ℕ → Held) (root kind : ℕ) (mapping : List Item) (key : Key) (value : Option (List ℕ)) (found : Found) → rank_of key ≡ kind → way_for true key objects root ≡ Ok found → bottom_of (end_of found) key value ≡ None → IsTree objects root kind mapping → set_item mapping key value ≡ mapping
none_kept objects root kind mapping key value found k w b (inl i) =
    let l = lone_way objects root kind mapping key k i in
    let same : found ≡ lone_found root l.0 mapping = one_found (way_for true key objects root) found (lone_found root l.0 mapping) w l.2 in
    let at : set_at root l.0 key value (Some (record { items = mapping; next = None }, place.Lone)) ≡ None = sym (ap (λ f. bottom_of (end_of f) key value) same) ∙ b in
    set_kept None mapping key value i.rises (has_at root l.0 key value (record { items = mapping; next = None }) place.Lone at)
none_kept objects root kind mapping key value found k w b (inr (h, s, i, e)) =
    let l = shape_way objects root kind h s key k i in
    let same : l.found ≡ found = one_found (way_for true key objects root) l.found found l.is w in
    let p : PathIn objects key h s found.path found.oid found.class found.node = subst (λ (f : Found). PathIn objects key h s f.path f.oid f.class f.node) same l.path in
    let has = leaf_has objects key value h s found.path found.oid found.class found.node p b in
    ap (λ m. set_item m key value) e ∙ kept_in objects key value found.oid found.class found.node has h None None s found.path p i.bounded ∙ sym e

-- ---- refusals

ok_err : (r : Result (List Rung) TreeError) (rungs : List Rung) (x : TreeError) → r ≡ Ok rungs → r ≡ Err x → ⊥
ok_err r rungs x p q = cc

err_task : (objects : ℕ → Held) (fits : Bool) (sizes : Sizes) (key : Key) (found : Found) (o : Option Bottom) (x : TreeError) → task_for objects fits sizes key found o ≡ Err x → (bottom : Bottom) × (settle objects fits key [] (rungs_above sizes key found bottom) ≡ Err x)
err_task objects fits sizes key found None x e = absurd cc
err_task objects fits sizes key found (Some bottom) x e = (bottom, by_rungs (settle objects fits key [] (rungs_above sizes key found bottom)) e) where
  by_rungs : (r : Result (List Rung) TreeError) → with_rungs bottom r ≡ Err x → r ≡ Err x
  by_rungs (Ok rungs) e = absurd cc
  by_rungs (Err y) e = let same : y ≡ x = cc in ap Err same

found_safe : (objects : ℕ → Held) (fits : Bool) (root kind : ℕ) (mapping : List Item) (sizes : Sizes) (key : Key) (value : Option (List ℕ)) (x : TreeError) → rank_of key ≡ kind → fits ≡ true → IsTree objects root kind mapping → task_by objects fits sizes key value (way_for fits key objects root) ≡ Err x → Safe x
found_safe objects fits root kind mapping sizes key value x k f (inl i) e =
    let l = lone_way objects root kind mapping key k i in
    let w : way_for fits key objects root ≡ Ok (lone_found root l.0 mapping) = ap (λ b. way_for b key objects root) f ∙ l.2 in
    let t : task_found objects fits sizes key value (lone_found root l.0 mapping) ≡ Err x = sym (ap (task_by objects fits sizes key value) w) ∙ e in
    let r = err_task objects fits sizes key (lone_found root l.0 mapping) (bottom_of (end_of (lone_found root l.0 mapping)) key value) x t in
    absurd (ok_err (settle objects fits key [] []) [] x refl r.1)
found_safe objects fits root kind mapping sizes key value x k f (inr (h, s, i, m)) e =
    let l = shape_way objects root kind h s key k i in
    let w : way_for fits key objects root ≡ Ok l.found = ap (λ b. way_for b key objects root) f ∙ l.is in
    let t : task_found objects fits sizes key value l.found ≡ Err x = sym (ap (task_by objects fits sizes key value) w) ∙ e in
    let r = err_task objects fits sizes key l.found (bottom_of (end_of l.found) key value) x t in
    settle_safe objects fits key sizes.inner (splits sizes.leaf r.0) r.0.oid l.found.oid l.found.class l.found.node h s [] l.found.path x l.path i.stands tt r.1

bad_safe : (r : Result (Option Task) TreeError) (x : TreeError) → r ≡ Err BadKey → r ≡ Err x → Safe x
bad_safe (Ok t) x p q = absurd cc
bad_safe (Err y) x p q = let a : y ≡ BadKey = cc in let b : y ≡ x = cc in subst Safe (sym a ∙ b) tt

task_safe : (before : ℕ → Option (List ℕ)) (root kind : ℕ) (mapping : List Item) (sizes : Sizes) (key : Key) (value : Option (List ℕ)) (x : TreeError) → rank_of key ≡ kind → IsTree (objects_of before root) root kind mapping → task_under before root sizes key value ≡ Err x → Safe x
task_safe before root kind mapping sizes key value x k t e = by_fits (fits_tree (class_held (before root)) key value) e where
  by_fits : (fits : Bool) → task_by (objects_of before root) fits sizes key value (way_for fits key (objects_of before root) root) ≡ Err x → Safe x
  by_fits true e = found_safe (objects_of before root) true root kind mapping sizes key value x k refl t e
  by_fits false e =
      let held = root_held (objects_of before root) root kind mapping t in
      let bad = root_bad_key false key (objects_of before root) root held.0 held.1 held.2 refl in
      bad_safe (task_by (objects_of before root) false sizes key value (way_for false key (objects_of before root) root)) x (ap (task_by (objects_of before root) false sizes key value) bad) e

-- ---- the whole

terms_parts : (sizes : Sizes) (key : Key) (o : Option Plain) (terms : Terms) → terms_with sizes key o ≡ Some terms → (plain : Plain) × (terms ≡ record { leaf = sizes.leaf; inner = sizes.inner; key = key; plain = plain })
terms_parts sizes key None terms e = absurd cc
terms_parts sizes key (Some plain) terms e = (plain, cc)

module _ (class leafs : Class) (before : ℕ → Option (List ℕ)) (root : ℕ) (sizes : Sizes) (key : Key) (value : Option (List ℕ)) (kind : ℕ) (plain : Plain) (c : class_held (before root) ≡ Some class) (rank : rank_of key ≡ kind) (two : 2 ≤ sizes.leaf) (three : 3 ≤ sizes.inner) (change : Change) (few : length change.news < 2 ^ 64) (new : AreNew (objects_of before root) root (map put_oid change.news)) (kept : all_keep class leafs (puts_of change) ≡ true) where
  abbrev objects : ℕ → Held
  objects = objects_of before root

  abbrev terms : Terms
  terms = record { leaf = sizes.leaf; inner = sizes.inner; key = key; plain = plain }

  abbrev D : List Item → Type 0
  D mapping = Done class leafs before root sizes key value kind plain c rank two three change few new kept mapping

  tree_done : (found : Found) (bottom : Bottom) (rungs : List Rung) (mapping : List Item) → way_for true key objects root ≡ Ok found → bottom_of (end_of found) key value ≡ Some bottom → settle objects true key [] (rungs_above sizes key found bottom) ≡ Ok rungs → IsRootSet terms bottom rungs change → IsTree objects root kind mapping → D mapping
  tree_done found bottom rungs mapping w b e set (inl i) =
      let l = lone_way objects root kind mapping key rank i in
      let same : found ≡ lone_found root l.0 mapping = one_found (way_for true key objects root) found (lone_found root l.0 mapping) w l.2 in
      let leaf : BucketContents = record { items = mapping; next = None } in
      let at : set_at root l.0 key value (Some (leaf, place.Lone)) ≡ Some bottom = sym (ap (λ f. bottom_of (end_of f) key value) same) ∙ b in
      let is = bottom_is root l.0 key value leaf place.Lone bottom at in
      let nil : rungs ≡ [] = nothing_left (settle objects true key [] (rungs_above sizes key found bottom)) rungs (ap (λ (f : Found). settle objects true key [] (rungs_above sizes key f bottom)) same) e in
      let holds : objects bottom.oid ≡ Holds bottom.class (node.Lone leaf) = ap objects is.oid_is ∙ l.1 ∙ ap (λ g. Holds g (node.Lone leaf)) (sym is.class_is) in
      lone_done class leafs before root sizes key value kind plain c rank two three change few new kept mapping bottom (node.Lone leaf) i is.oid_is holds is.place_is is.items is.next (subst (λ rs. IsRootSet terms bottom rs change) nil set)
  tree_done found bottom rungs mapping w b e set (inr (zero, s, i, m)) =
      let l = shape_way objects root kind 0 s key rank i in
      let same : l.found ≡ found = one_found (way_for true key objects root) l.found found l.is w in
      let p : PathIn objects key 0 s found.path found.oid found.class found.node = subst (λ (f : Found). PathIn objects key 0 s f.path f.oid f.class f.node) same l.path in
      let leaf : BucketContents = record { items = s.items; next = s.next } in
      let nil = path_nil s found.path found.oid found.class found.node p in
      let at : set_at found.oid found.class key value (Some (leaf, place.Alone)) ≡ Some bottom =
      sym (ap (λ z. set_at found.oid found.class key value (leaf_at found.node (is_none z))) nil.0 ∙ ap (λ z. set_at found.oid found.class key value (leaf_at z true)) nil.2) ∙ b in
      let is = bottom_is found.oid found.class key value leaf place.Alone bottom at in
      let no_rungs : rungs ≡ [] = nothing_left (settle objects true key [] (rungs_above sizes key found bottom)) rungs (ap (λ z. settle objects true key [] (rungs_of sizes.inner key (splits sizes.leaf bottom) bottom.oid z)) nil.0) e in
      let holds : objects bottom.oid ≡ Holds bottom.class found.node = ap objects is.oid_is ∙ nil.3 ∙ ap (λ g. Holds g found.node) (sym is.class_is) in
      let d = alone_done class leafs before root sizes key value kind plain c rank two three change few new kept s bottom found.node i (is.oid_is ∙ nil.1 ∙ i.root_is) holds is.place_is is.items is.next (subst (λ rs. IsRootSet terms bottom rs change) no_rungs set) in
      subst D (sym m) d where
        path_nil : (s : Shape 0) (path : List Step) (oid : ℕ) (g : Graph) (n : Node) → PathIn objects key 0 s path oid g n → (path ≡ []) × (oid ≡ s.oid) × (n ≡ node.Leaf (record { items = s.items; next = s.next })) × (objects oid ≡ Holds g n)
        path_nil s [] oid g n p = (refl, p.0, p.1, p.2)
        path_nil s (x ∷ xs) oid g n p = absurd p
  tree_done found bottom rungs mapping w b e set (inr (suc h, s, i, m)) =
      let l = shape_way objects root kind (suc h) s key rank i in
      let same : l.found ≡ found = one_found (way_for true key objects root) l.found found l.is w in
      let p : PathIn objects key (suc h) s found.path found.oid found.class found.node = subst (λ (f : Found). PathIn objects key (suc h) s f.path f.oid f.class f.node) same l.path in
      subst D (sym m) (shape_done class leafs before root sizes key value kind plain c rank two three change few new kept true h s found bottom rungs i p b e set)

  -- where key and value were of the family
  fits_done : (fits : Bool) (task : Task) (mapping : List Item) → IsTree objects root kind mapping → TaskParts objects fits sizes key value (way_for fits key objects root) task → IsRootSet terms task.bottom task.rungs change → D mapping
  fits_done true task mapping t p set =
      tree_done p.found p.bottom p.rungs mapping p.way_is p.bottom_of_is p.settled (subst (λ (x : Task). IsRootSet terms x.bottom x.rungs change) p.is set) t
  fits_done false task mapping t p set =
      let held = root_held objects root kind mapping t in
      let bad = fits_true false key objects root held.0 held.1 p.found held.2 p.way_is in absurd cc

set_done : (told : Type 0) (before after : ℕ → Option (List ℕ)) (calls calls' : List Call) (root : ℕ) (sizes : Sizes) (key : Key) (value : Option (List ℕ)) (kind : ℕ) (mapping : List Item) (u : Unit {0}) → 2 ≤ sizes.leaf → 3 ≤ sizes.inner → IsTree (objects_of before root) root kind mapping → rank_of key ≡ kind → told → DrawsNew (objects_of before root) root calls calls' → HasTask told before after calls calls' root sizes key value (Ok u) → IsTree (objects_of after root) root kind (set_item mapping key value) × (class_held (after root) ≡ class_held (before root))
set_done told before after calls calls' root sizes key value kind mapping u two three t k known draws x = by_written x.writes where
  by_written : IsWritten told x.class x.leaf sizes key x.task before after x.middle calls' → IsTree (objects_of after root) root kind (set_item mapping key value) × (class_held (after root) ≡ class_held (before root))
  by_written w =
      let plan = w.plan.plan in
      let change = plan.change in
      let kept : all_keep x.class x.leaf (puts_of change) ≡ true = ap (all_keep x.class x.leaf) (sym plan.puts_are) ∙ w.stored.kept in
      let is : after ≡ put_all x.class x.leaf (puts_of change) before = w.stored.contents ∙ ap (λ ps. put_all x.class x.leaf ps before) plan.puts_are in
      let log : calls' ≡ ((calls ++ reads_under before root sizes key value) ++ map Drew (map put_oid change.news)) ++ map wrote w.puts =
      w.stored.log known ∙ ap (λ zs. zs ++ map wrote w.puts) (plan.drawn known ∙ ap (λ zs. zs ++ map Drew (map put_oid change.news)) (x.reads known)) in
      let drawn = drawn_after calls (reads_under before root sizes key value) (map Drew (map put_oid change.news)) (map wrote w.puts) calls' (map put_oid change.news) (drawn_found sizes key value (set_way before root key value)) (drawn_draws (map put_oid change.news)) (drawn_wrote w.puts) log in
      let new = draws (map put_oid change.news) drawn in
      let terms = terms_parts sizes key (plain_of (plain_class x.leaf) (plain_class x.class)) w.plan.terms w.plan.terms_are in
      let set : IsRootSet (record { leaf = sizes.leaf; inner = sizes.inner; key = key; plain = terms.0 }) x.task.bottom x.task.rungs change = subst (λ (z : Terms). IsRootSet z x.task.bottom x.task.rungs change) terms.1 plan.set in
      let parts = task_parts (objects_of before root) (fits_tree (class_held (before root)) key value) sizes key value (set_way before root key value) x.task x.task_is in
      let done = fits_done x.class x.leaf before root sizes key value kind terms.0 x.class_is k two three change plan.few new kept (fits_tree (class_held (before root)) key value) x.task mapping t parts set in
      subst (λ (f : ℕ → Option (List ℕ)). IsTree (objects_of f root) root kind (set_item mapping key value) × (class_held (f root) ≡ class_held (before root))) (sym is) done

none_done : (told : Type 0) (before after : ℕ → Option (List ℕ)) (calls calls' : List Call) (root : ℕ) (sizes : Sizes) (key : Key) (value : Option (List ℕ)) (kind : ℕ) (mapping : List Item) → IsTree (objects_of before root) root kind mapping → rank_of key ≡ kind → HasNone told before after calls calls' root sizes key value → IsTree (objects_of after root) root kind (set_item mapping key value) × (class_held (after root) ≡ class_held (before root))
none_done told before after calls calls' root sizes key value kind mapping t k x =
    let objects = objects_of before root in
    let fits = fits_tree (class_held (before root)) key value in
    let p = none_parts objects fits sizes key value (way_for fits key objects root) x.none in
    let held = root_held objects root kind mapping t in
    let f = fits_true fits key objects root held.0 held.1 p.0 held.2 p.1 in
    let w : way_for true key objects root ≡ Ok p.0 = ap (λ b. way_for b key objects root) (sym f) ∙ p.1 in
    let same : set_item mapping key value ≡ mapping = none_kept objects root kind mapping key value p.0 k w p.2 t in
    subst (λ (f : ℕ → Option (List ℕ)). IsTree (objects_of f root) root kind (set_item mapping key value) × (class_held (f root) ≡ class_held (before root))) (sym x.contents)
    (subst (IsTree objects root kind) (sym same) t, refl)

set_at_key : (before after : ℕ → Option (List ℕ)) (root kind : ℕ) (mapping : List Item) (key : Key) (value : Option (List ℕ)) → IsTree (objects_of after root) root kind (set_item mapping key value) × (class_held (after root) ≡ class_held (before root)) → IsSetAt before after root kind mapping key value
set_at_key before after root kind mapping key value d = record { tree = d.0; class = d.1; here = value_set mapping key value; elsewhere = λ other n. value_other mapping key value other n }

refused : (before after : ℕ → Option (List ℕ)) (root : ℕ) (sizes : Sizes) (key : Key) (value : Option (List ℕ)) (kind : ℕ) (mapping : List Item) (e : TreeError) → IsTree (objects_of before root) root kind mapping → rank_of key ≡ kind → IsRefusal e (task_under before root sizes key value) → after ≡ before → SetsIn before after root kind mapping key value (Err e)
refused before after root sizes key value kind mapping (NotATree oid) t k r s = task_safe before root kind mapping sizes key value (NotATree oid) k t r
refused before after root sizes key value kind mapping (NodeMissing oid) t k r s = task_safe before root kind mapping sizes key value (NodeMissing oid) k t r
refused before after root sizes key value kind mapping BadKey t k r s = s
refused before after root sizes key value kind mapping (Refused refusal) t k r s = tt
refused before after root sizes key value kind mapping Memory t k r s = tt

unwritten : (told : Type 0) (class leaf : Class) (sizes : Sizes) (key : Key) (task : Task) (before after : ℕ → Option (List ℕ)) (calls calls' : List Call) (root kind : ℕ) (mapping : List Item) (value : Option (List ℕ)) (e : TreeError) → Writes told class leaf sizes key task before after calls calls' (Err e) → SetsIn before after root kind mapping key value (Err e)
unwritten told class leaf sizes key task before after calls calls' root kind mapping value (NotATree oid) w = w
unwritten told class leaf sizes key task before after calls calls' root kind mapping value (NodeMissing oid) w = w
unwritten told class leaf sizes key task before after calls calls' root kind mapping value BadKey w = w.contents
unwritten told class leaf sizes key task before after calls calls' root kind mapping value (Refused refusal) w = tt
unwritten told class leaf sizes key task before after calls calls' root kind mapping value Memory w = tt

-- what a set answers and makes
pub sets_in : (told : Type 0) (before after : ℕ → Option (List ℕ)) (calls calls' : List Call) (root : ℕ) (sizes : Sizes) (key : Key) (value : Option (List ℕ)) (result : Result (Unit {0}) TreeError) → Sets told before after calls calls' root sizes key value result → (kind : ℕ) (mapping : List Item) → 2 ≤ sizes.leaf → 3 ≤ sizes.inner → IsTree (objects_of before root) root kind mapping → rank_of key ≡ kind → told → DrawsNew (objects_of before root) root calls calls' → SetsIn before after root kind mapping key value result
sets_in told before after calls calls' root sizes key value (Ok u) (inl x) kind mapping two three t k known draws = set_at_key before after root kind mapping key value (none_done told before after calls calls' root sizes key value kind mapping t k x)
sets_in told before after calls calls' root sizes key value (Ok u) (inr x) kind mapping two three t k known draws = set_at_key before after root kind mapping key value (set_done told before after calls calls' root sizes key value kind mapping u two three t k known draws x)
sets_in told before after calls calls' root sizes key value (Err e) (inl x) kind mapping two three t k known draws = refused before after root sizes key value kind mapping e t k x.refusal x.contents
sets_in told before after calls calls' root sizes key value (Err e) (inr x) kind mapping two three t k known draws = unwritten told x.class x.leaf sizes key x.task before after x.middle calls' root kind mapping value e x.writes

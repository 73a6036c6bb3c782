-- A call that is refused has drawn no number.
use Rattle.std.proofs.Common.{◌≡◌, ℕ, List, [], ◌∷◌, ◌++◌, map, Option, Some, Result, Ok, Err, refl, ap, ◌∙◌, inl, inr}
use Rattle.zb_model.specs.declared.refusal.Refusal.{Refusal}
use Rattle.btree_family.specs.declared.key.Key.{Key}
use Rattle.btree_family.specs.Classes.{Class}
use Rattle.btree_shapes.specs.declared.space.Call.{Call}
use Rattle.btree_shapes.specs.declared.space.Call.TheVariants.{Read, Drew, Wrote}
use Rattle.btree_shapes.specs.declared.error.TreeError.{TreeError}
use Rattle.btree_shapes.specs.declared.error.TreeError.TheVariants as error
use Rattle.btree_shapes.specs.declared.way.Found.{Found}
use Rattle.btree_shapes.specs.Nodes.{Held, objects_of}
use Rattle.btree_shapes.specs.Met.{ReadsFirst}
use Rattle.btree_shapes.specs.Ways.{reads, reads_of, step_oid}
use Rattle.btree_putting.specs.declared.puts.Put.{Put}
use Rattle.btree_setting.specs.declared.preparing.Sizes.{Sizes}
use Rattle.btree_setting.specs.Tasks.{asked_found, reads_by, reads_under, set_way}
use Rattle.btree_setting.specs.Types.{Task}
use Rattle.btree_setting.specs.Sets.{Writes}
use Rattle.btree_setting.specs.Ends.{Sets}
use Rattle.btree_removing.specs.Ends.{Breaks, Removes}
use Rattle.btree_removing.specs.Plans as removing
use Rattle.btree_maps.specs.Drawn.{drawn_in}
use Rattle.tree_attempts.specs.declared.operation.TreeOperation.{TreeOperation}
use Rattle.tree_attempts.specs.declared.operation.TreeOperation.TheVariants as operation
use Rattle.tree_attempts.specs.Calls.{CallFails, refusal_of, sizes}

pub drawn_both : (a b : List Call) → drawn_in (a ++ b) ≡ drawn_in a ++ drawn_in b
drawn_both [] b = refl
drawn_both (Read oid ∷ a) b = drawn_both a b
drawn_both (Drew oid ∷ a) b = ap (λ (os : List ℕ). oid ∷ os) (drawn_both a b)
drawn_both (Wrote oid ∷ a) b = drawn_both a b

pub drawn_reads : (oids : List ℕ) → drawn_in (reads oids) ≡ []
drawn_reads [] = refl
drawn_reads (oid ∷ oids) = drawn_reads oids

pub drawn_first : (oids : List ℕ) (a b : List Call) → ReadsFirst oids a b → drawn_in b ≡ drawn_in a
drawn_first oids a b x = ap drawn_in x.grown ∙ drawn_both a (reads x.front) ∙ ap (λ (os : List ℕ). drawn_in a ++ os) (drawn_reads x.front) ∙ nil_behind (drawn_in a)
  where
    nil_behind : (os : List ℕ) → os ++ [] ≡ os
    nil_behind [] = refl
    nil_behind (o ∷ os) = ap (λ (ps : List ℕ). o ∷ ps) (nil_behind os)

-- ---- a set

drawn_by : (limits : Sizes) (key : Key) (value : Option (List ℕ)) (way : Result Found TreeError) → drawn_in (reads_by limits key value way) ≡ []
drawn_by limits key value (Ok found) = drawn_both (reads_of (Ok found)) (reads (asked_found limits key value found)) ∙ ap (λ (os : List ℕ). os ++ drawn_in (reads (asked_found limits key value found))) (drawn_reads (map step_oid found.path ++ found.oid ∷ [])) ∙ drawn_reads (asked_found limits key value found)
drawn_by limits key value (Err e) = refl

pub drawn_under : (before : ℕ → Option (List ℕ)) (root : ℕ) (limits : Sizes) (key : Key) (value : Option (List ℕ)) (middle : List Call) → middle ≡ [] ++ reads_under before root limits key value → drawn_in middle ≡ []
drawn_under before root limits key value middle is = ap drawn_in is ∙ drawn_by limits key value (set_way before root key value)

set_undrawn : (class leaf : Class) (task : Task) (before after : ℕ → Option (List ℕ)) (middle calls : List Call) (key : Key) (e : TreeError) (why : Refusal) → refusal_of e ≡ Some why → drawn_in middle ≡ [] → Writes (Unit {0}) class leaf sizes key task before after middle calls (Err e) → drawn_in calls ≡ []
set_undrawn class leaf task before after middle calls key (error.NotATree oid) why is none w = absurd w
set_undrawn class leaf task before after middle calls key (error.NodeMissing oid) why is none w = absurd w
set_undrawn class leaf task before after middle calls key error.BadKey why is none w = ap drawn_in (w.log tt) ∙ none
set_undrawn class leaf task before after middle calls key (error.Refused r) why is none w = absurd cc
set_undrawn class leaf task before after middle calls key error.Memory why is none w = absurd cc

sets_undrawn : (before after : ℕ → Option (List ℕ)) (calls : List Call) (root : ℕ) (key : Key) (value : Option (List ℕ)) (e : TreeError) (why : Refusal) → refusal_of e ≡ Some why → Sets (Unit {0}) before after [] calls root sizes key value (Err e) → drawn_in calls ≡ []
sets_undrawn before after calls root key value e why is (inl x) = drawn_first _ [] calls (x.log tt)
sets_undrawn before after calls root key value e why is (inr x) = set_undrawn x.class x.leaf x.task before after x.middle calls key e why is (drawn_under before root sizes key value x.middle (x.reads tt)) x.writes

-- ---- a remove

removing_by : (key : Key) (objects : ℕ → Held) (way : Result Found TreeError) → drawn_in (removing.reads_by key objects way) ≡ []
removing_by key objects (Ok found) = drawn_both (reads_of (Ok found)) (reads (removing.oids_found key objects found)) ∙ ap (λ (os : List ℕ). os ++ drawn_in (reads (removing.oids_found key objects found))) (drawn_reads (map step_oid found.path ++ found.oid ∷ [])) ∙ drawn_reads (removing.oids_found key objects found)
removing_by key objects (Err e) = refl

removing_reads : (before : ℕ → Option (List ℕ)) (root : ℕ) (key : Key) → drawn_in (removing.reads_under before root key) ≡ []
removing_reads before root key = removing_by key (objects_of before root) (removing.remove_way before root key)

remove_undrawn : (class leaf : Class) (puts : List Put) (before after : ℕ → Option (List ℕ)) (middle calls : List Call) (e : TreeError) (why : Refusal) → refusal_of e ≡ Some why → drawn_in middle ≡ [] → Breaks (Unit {0}) class leaf puts before after middle calls e → drawn_in calls ≡ []
remove_undrawn class leaf puts before after middle calls (error.NotATree oid) why is none w = absurd w
remove_undrawn class leaf puts before after middle calls (error.NodeMissing oid) why is none w = absurd w
remove_undrawn class leaf puts before after middle calls error.BadKey why is none w = ap drawn_in (w.log tt) ∙ none
remove_undrawn class leaf puts before after middle calls (error.Refused r) why is none w = absurd cc
remove_undrawn class leaf puts before after middle calls error.Memory why is none w = absurd cc

-- ---- all calls

pub none_drawn : (before after : ℕ → Option (List ℕ)) (calls : List Call) (root : ℕ) (op : TreeOperation) (e : TreeError) (why : Refusal) → refusal_of e ≡ Some why → CallFails before after calls root op e → drawn_in calls ≡ []
none_drawn before after calls root (operation.Get key) e why is fails = drawn_first _ [] calls fails.1
none_drawn before after calls root (operation.Set key value) e why is fails = sets_undrawn before after calls root key value e why is fails
none_drawn before after calls root (operation.Remove key) e why is fails = removes_undrawn fails
  where
    removes_undrawn : Removes (Unit {0}) before after [] calls root key (Err e) → drawn_in calls ≡ []
    removes_undrawn (inl x) = drawn_first _ [] calls (x.log tt)
    removes_undrawn (inr x) = remove_undrawn x.class x.leaf x.puts before after x.middle calls e why is (ap drawn_in (x.plan.reads tt) ∙ removing_reads before root key) x.breaks
none_drawn before after calls root operation.Items e why is fails = drawn_first _ [] calls fails.1
none_drawn before after calls root (operation.Range from to) e why is fails = drawn_first _ [] calls fails.1

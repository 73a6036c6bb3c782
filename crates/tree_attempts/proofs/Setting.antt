-- How a call ends that sets or removes a key.
use Rattle.std.proofs.Common.{◌≡◌, ℕ, List, [], Option, Some, None, Result, Ok, Err, subst, sym}
use Rattle.btree_family.specs.declared.key.Key.{Key}
use Rattle.btree_shapes.specs.declared.space.Call.{Call}
use Rattle.btree_shapes.specs.declared.error.TreeError.{TreeError}
use Rattle.btree_shapes.specs.declared.error.TreeError.TheVariants as error
use Rattle.btree_setting.specs.declared.setting.SetEnd.{SetEnd}
use Rattle.btree_setting.specs.declared.setting.SetEnd.TheVariants.{Done, Lacks}
use Rattle.btree_setting.specs.Ends.{IsLacking, Sets, SetsWithin}
use Rattle.btree_removing.specs.Ends.{Removes}
use Rattle.tree_attempts.specs.declared.operation.TreeAnswer.{TreeAnswer}
use Rattle.tree_attempts.specs.declared.operation.TreeAnswer.TheVariants as answer
use Rattle.tree_attempts.specs.declared.operation.TreeOperation.{TreeOperation}
use Rattle.tree_attempts.specs.declared.operation.TreeOperation.TheVariants as operation
use Rattle.tree_attempts.specs.declared.put.TreePut.{TreePut}
use Rattle.tree_attempts.specs.Calls.{CallEnds, LacksNumbers, contents_after, sizes}
use Rattle.tree_attempts.proofs.Reading.{remove_reads, set_reads}

-- nothing was put before, and no call was made
from_start : (contents after : ℕ → Option (List ℕ)) (puts : List TreePut) (calls calls' : List Call) (root : ℕ) (key : Key) (value : Option (List ℕ)) (supply : ℕ) (result : Result SetEnd TreeError) → puts ≡ [] → calls ≡ [] → SetsWithin (Unit {0}) (contents_after puts contents) after calls calls' root sizes key value supply result → SetsWithin (Unit {0}) contents after [] calls' root sizes key value supply result
from_start contents after puts calls calls' root key value supply result p c s =
    subst (λ (ps : List TreePut). SetsWithin (Unit {0}) (contents_after ps contents) after [] calls' root sizes key value supply result) p
    (subst (λ (cs : List Call). SetsWithin (Unit {0}) (contents_after puts contents) after cs calls' root sizes key value supply result) c s)

pub set_done : (contents after : ℕ → Option (List ℕ)) (puts : List TreePut) (calls calls' : List Call) (root : ℕ) (key : Key) (value : Option (List ℕ)) (supply whole : ℕ) (end : SetEnd) → puts ≡ [] → calls ≡ [] → supply ≡ whole → end ≡ Done → SetsWithin (Unit {0}) (contents_after puts contents) after calls calls' root sizes key value supply (Ok end) → CallEnds contents after calls' root (operation.Set key value) whole (Ok (Some answer.Set))
set_done contents after puts calls calls' root key value supply whole end p c w e s =
    from_start contents after puts calls calls' root key value supply (Ok Done) p c
    (subst (λ (x : SetEnd). SetsWithin (Unit {0}) (contents_after puts contents) after calls calls' root sizes key value supply (Ok x)) e s)

lacking : (contents after : ℕ → Option (List ℕ)) (calls calls' : List Call) (root : ℕ) (key : Key) (value : Option (List ℕ)) (supply : ℕ) → IsLacking (Unit {0}) contents after calls calls' root sizes key value supply → LacksNumbers contents root (operation.Set key value) supply
lacking contents after calls calls' root key value supply x = record { count = x.count; needs = x.needs; more = x.more }

pub set_lacks : (contents after : ℕ → Option (List ℕ)) (puts : List TreePut) (calls calls' : List Call) (root : ℕ) (key : Key) (value : Option (List ℕ)) (supply whole : ℕ) (end : SetEnd) → puts ≡ [] → calls ≡ [] → supply ≡ whole → end ≡ Lacks → SetsWithin (Unit {0}) (contents_after puts contents) after calls calls' root sizes key value supply (Ok end) → CallEnds contents after calls' root (operation.Set key value) whole (Ok None)
set_lacks contents after puts calls calls' root key value supply whole end p c w e s =
    subst (LacksNumbers contents root (operation.Set key value)) w
    (lacking contents after [] calls' root key value supply
    (from_start contents after puts calls calls' root key value supply (Ok Lacks) p c
    (subst (λ (x : SetEnd). SetsWithin (Unit {0}) (contents_after puts contents) after calls calls' root sizes key value supply (Ok x)) e s)))

ended : (contents after : ℕ → Option (List ℕ)) (calls' : List Call) (root : ℕ) (key : Key) (value : Option (List ℕ)) (supply : ℕ) (e : TreeError) → Sets (Unit {0}) contents after [] calls' root sizes key value (Err e) → CallEnds contents after calls' root (operation.Set key value) supply (Err e)
ended contents after calls' root key value supply (error.NotATree oid) s = s
ended contents after calls' root key value supply (error.NodeMissing oid) s = s
ended contents after calls' root key value supply error.BadKey s = s
ended contents after calls' root key value supply (error.Refused r) s = set_reads contents after calls' root key value (error.Refused r) tt s
ended contents after calls' root key value supply error.Memory s = set_reads contents after calls' root key value error.Memory tt s

pub set_ended : (contents after : ℕ → Option (List ℕ)) (puts : List TreePut) (calls calls' : List Call) (root : ℕ) (key : Key) (value : Option (List ℕ)) (supply whole : ℕ) (e : TreeError) → puts ≡ [] → calls ≡ [] → SetsWithin (Unit {0}) (contents_after puts contents) after calls calls' root sizes key value supply (Err e) → CallEnds contents after calls' root (operation.Set key value) whole (Err e)
set_ended contents after puts calls calls' root key value supply whole e p c s =
    ended contents after calls' root key value whole e (from_start contents after puts calls calls' root key value supply (Err e) p c s)

-- of the tree with this root and these sizes
pub set_refused : (contents after : ℕ → Option (List ℕ)) (puts : List TreePut) (calls calls' : List Call) (root root' : ℕ) (leaf inner : ℕ) (key : Key) (value : Option (List ℕ)) (supply whole : ℕ) (e : TreeError) → root' ≡ root → leaf ≡ sizes.leaf → inner ≡ sizes.inner → puts ≡ [] → calls ≡ []
    → SetsWithin (Unit {0}) (contents_after puts contents) after calls calls' root' (record { leaf = leaf; inner = inner }) key value supply (Err e) → CallEnds contents after calls' root (operation.Set key value) whole (Err e)
set_refused contents after puts calls calls' root root' leaf inner key value supply whole e r l i p c s =
    set_ended contents after puts calls calls' root key value supply whole e p c
    (subst (λ (n : ℕ). SetsWithin (Unit {0}) (contents_after puts contents) after calls calls' n sizes key value supply (Err e)) r
    (subst (λ (n : ℕ). SetsWithin (Unit {0}) (contents_after puts contents) after calls calls' root' (record { leaf = n; inner = sizes.inner }) key value supply (Err e)) l
    (subst (λ (n : ℕ). SetsWithin (Unit {0}) (contents_after puts contents) after calls calls' root' (record { leaf = leaf; inner = n }) key value supply (Err e)) i s)))

removed : (contents after : ℕ → Option (List ℕ)) (calls' : List Call) (root : ℕ) (key : Key) (supply : ℕ) (e : TreeError) → Removes (Unit {0}) contents after [] calls' root key (Err e) → CallEnds contents after calls' root (operation.Remove key) supply (Err e)
removed contents after calls' root key supply (error.NotATree oid) s = s
removed contents after calls' root key supply (error.NodeMissing oid) s = s
removed contents after calls' root key supply error.BadKey s = s
removed contents after calls' root key supply (error.Refused r) s = remove_reads contents after calls' root key (error.Refused r) tt s
removed contents after calls' root key supply error.Memory s = remove_reads contents after calls' root key error.Memory tt s

pub remove_ended : (contents after : ℕ → Option (List ℕ)) (puts : List TreePut) (calls calls' : List Call) (root root' : ℕ) (key : Key) (whole : ℕ) (e : TreeError) → root' ≡ root → puts ≡ [] → calls ≡ [] → Removes (Unit {0}) (contents_after puts contents) after calls calls' root' key (Err e)
    → CallEnds contents after calls' root (operation.Remove key) whole (Err e)
remove_ended contents after puts calls calls' root root' key whole e r p c s =
    removed contents after calls' root key whole e
    (subst (λ (n : ℕ). Removes (Unit {0}) contents after [] calls' n key (Err e)) r
    (subst (λ (ps : List TreePut). Removes (Unit {0}) (contents_after ps contents) after [] calls' root' key (Err e)) p
    (subst (λ (cs : List Call). Removes (Unit {0}) (contents_after puts contents) after cs calls' root' key (Err e)) c s)))

-- a call is made with copies of its key and its value
pub set_copied : (contents after : ℕ → Option (List ℕ)) (calls : List Call) (root : ℕ) (op : TreeOperation) (key key' : Key) (value value' : Option (List ℕ)) (supply : ℕ) (result : Result (Option TreeAnswer) TreeError) → op ≡ operation.Set key value → key' ≡ key → value' ≡ value → CallEnds contents after calls root (operation.Set key' value') supply result → CallEnds contents after calls root op supply result
set_copied contents after calls root op key key' value value' supply result o k v ends =
    subst (λ (x : TreeOperation). CallEnds contents after calls root x supply result) (sym o)
    (subst (λ (x : Key). CallEnds contents after calls root (operation.Set x value) supply result) k
    (subst (λ (x : Option (List ℕ)). CallEnds contents after calls root (operation.Set key' x) supply result) v ends))

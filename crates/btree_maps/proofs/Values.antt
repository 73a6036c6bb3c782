-- What a look-up answers by its way.
use Rattle.std.proofs.Common.{◌≡◌, ℕ, List, [], ◌∷◌, ◌++◌, Option, Ok, sym, ◌∙◌, ap}
use Rattle.std.specs.Prelude.{map}
use Rattle.btree_family.specs.declared.key.Key.{Key}
use Rattle.btree_shapes.specs.declared.error.TreeError.{TreeError}
use Rattle.btree_shapes.specs.declared.error.TreeError.TheVariants.{NotATree, NodeMissing, BadKey, Refused, Memory}
use Rattle.btree_shapes.specs.declared.way.Found.{Found}
use Rattle.btree_shapes.specs.Nodes.{items_in, value_in}
use Rattle.btree_shapes.specs.Ways.{step_oid, IsRefusal, key_way, value_found, value_under, reads, reads_of}

pub value_of_way : (contents : ℕ → Option (List ℕ)) (root : ℕ) (key : Key) (found : Found) (value : Option (List ℕ)) → key_way contents root key ≡ Ok found → value ≡ value_in (items_in found.node) key → value_under contents root key ≡ Ok value
value_of_way contents root key found value e v = ap (value_found key) e ∙ ap Ok (sym v)

pub refusal_of_way : (contents : ℕ → Option (List ℕ)) (root : ℕ) (key : Key) (e : TreeError) → IsRefusal e (key_way contents root key) → IsRefusal e (value_under contents root key)
refusal_of_way contents root key (NotATree oid) r = ap (value_found key) r
refusal_of_way contents root key (NodeMissing oid) r = ap (value_found key) r
refusal_of_way contents root key BadKey r = ap (value_found key) r
refusal_of_way contents root key (Refused refusal) r = tt
refusal_of_way contents root key Memory r = tt

pub reads_found : (contents : ℕ → Option (List ℕ)) (root : ℕ) (key : Key) (found : Found) → key_way contents root key ≡ Ok found → reads_of (key_way contents root key) ≡ reads (map step_oid found.path ++ found.oid ∷ [])
reads_found contents root key found e = ap reads_of e

-- What calls on trees refuse. For the proofs of those who make them.
use Rattle.std.proofs.Common.{◌≡◌, ℕ, Option, Some, subst}
use Rattle.zb_model.specs.declared.refusal.Refusal.{Refusal}
use Rattle.zb_model.specs.declared.refusal.Refusal.TheVariants as refusal
use Rattle.btree_shapes.specs.declared.error.TreeError.{TreeError}
use Rattle.btree_shapes.specs.declared.error.TreeError.TheVariants as error
use Rattle.tree_attempts.specs.declared.known.Seen.{Seen}
use Rattle.tree_attempts.specs.declared.operation.TreeOperation.{TreeOperation}
use Rattle.tree_attempts.specs.Calls.{IsRefused, refusal_of}

same_refusal : (a b : Refusal) → Some a ≡ Some b → a ≡ b
same_refusal a b e = cc

by_error : (P : Refusal → Type 0) (e : TreeError) (why : Refusal) → ((oid : ℕ) → P (refusal.NotATree oid)) → ((oid : ℕ) → P (refusal.NodeMissing oid)) → P refusal.BadKey → refusal_of e ≡ Some why → P why
by_error P (error.NotATree oid) why foreign missing bad is = subst P (same_refusal (refusal.NotATree oid) why is) (foreign oid)
by_error P (error.NodeMissing oid) why foreign missing bad is = subst P (same_refusal (refusal.NodeMissing oid) why is) (missing oid)
by_error P error.BadKey why foreign missing bad is = subst P (same_refusal refusal.BadKey why is) bad
by_error P (error.Refused r) why foreign missing bad is = absurd cc
by_error P error.Memory why foreign missing bad is = absurd cc

-- a tree refuses a call as NotATree, NodeMissing or BadKey
pub refused_as : (P : Refusal → Type 0) (objects : ℕ → Option Seen) (root : ℕ) (op : TreeOperation) (why : Refusal) → ((oid : ℕ) → P (refusal.NotATree oid)) → ((oid : ℕ) → P (refusal.NodeMissing oid)) → P refusal.BadKey
    → IsRefused objects root op why → P why
refused_as P objects root op why foreign missing bad is = by_error P is.e why foreign missing bad is.told

-- What is remembered of objects.
use Rattle.std.proofs.Common.{◌≡◌, ℕ, zero, suc, ◌-◌, ◌≤◌, Bool, true, List, [], ◌∷◌, take, length, Option, Some, refl, ap, sym, subst, ◌∙◌, arith}
use Rattle.std.specs.Prelude.{slice_get}
use Rattle.std.proofs.lemmas.Grind.{common_steps}
use Rattle.pickle_graph.specs.Graph.{Graph}
use Rattle.btree_family.specs.Classes.{Class}
use Rattle.btree_shapes.specs.declared.node.Node.{Node}
use Rattle.btree_shapes.specs.Nodes.{Holds, held_in}
use Rattle.btree_shapes.specs.Spaces.{with_bytes}
use Rattle.tree_attempts.specs.declared.put.TreePut.{TreePut}
use Rattle.tree_attempts.specs.declared.known.Seen.{Seen}
use Rattle.tree_attempts.specs.Calls.{contents_after, contents_of}
use Rattle.tree_attempts.specs.Known.{Agrees, known_at}

take_all : (a : List ℕ) (n : ℕ) → length a ≤ n → take n a ≡ a
take_all [] zero l = refl
take_all [] (suc n) l = refl
take_all (x ∷ xs) zero l = absurd (omega (arith, l))
take_all (x ∷ xs) (suc n) l = ap (λ ys. x ∷ ys) (take_all xs n (omega (arith, l)))

-- where the bytes before a place were found the same, they are
abbrev pub SameSo : List ℕ → List ℕ → ℕ → Bool → Type 0
SameSo a b n same = same ≡ true → take n a ≡ take n b

pub same_start : (a b : List ℕ) (same : Bool) → SameSo a b 0 same
same_start a b same e = refl

pub same_end : (a b : List ℕ) (n : ℕ) (same : Bool) → SameSo a b n same → length a ≡ length b → length a ≤ n → same ≡ true → a ≡ b
same_end a b n same s l m e = sym (take_all a n m) ∙ s e ∙ take_all b n (omega (arith, l, m))

-- what the same bytes hold
pub held_same : (row : Class) (a b : Option (List ℕ)) (class : Graph) (node : Node) → a ≡ b → held_in (Some row) a ≡ Holds class node → held_in (Some row) b ≡ Holds class node
held_same row a b class node e h = ap (held_in (Some row)) (sym e) ∙ h

pub bytes_stand : (known : List (ℕ × Option Seen)) (objects : ℕ → Option Seen) (puts : List TreePut) (oid : ℕ) (seen : Seen) → Agrees known objects → known_at known oid ≡ Some (Some seen) → puts ≡ [] → contents_after puts (contents_of objects) oid ≡ Some seen.bytes
bytes_stand known objects puts oid seen agrees there none =
    ap (λ (ps : List TreePut). contents_after ps (contents_of objects) oid) none ∙ ap (λ (x : Option Seen). contents_of (λ o. x) oid) (agrees oid (Some seen) there)

there : (contents : ℕ → Option (List ℕ)) (o : ℕ) (bytes : List ℕ) → with_bytes contents o bytes o ≡ Some bytes
there contents o bytes = grind (arith, common_steps)

last_stands : (puts : List TreePut) (k : ℕ) (p : TreePut) (contents : ℕ → Option (List ℕ)) → suc k ≡ length puts → slice_get puts k ≡ Some p → contents_after puts contents p.oid ≡ Some p.bytes
last_stands [] k p contents e g = absurd cc
last_stands (q ∷ []) zero p contents e g =
    let same : q ≡ p = some_same q p g in
    subst (λ (x : TreePut). contents_after (q ∷ []) contents x.oid ≡ Some x.bytes) same (there contents q.oid q.bytes)
  where
    some_same : (a b : TreePut) → Some a ≡ Some b → a ≡ b
    some_same a b e = cc
last_stands (q ∷ []) (suc k) p contents e g = absurd (omega (arith, e))
last_stands (q ∷ r ∷ rs) zero p contents e g = absurd (omega (arith, e))
last_stands (q ∷ r ∷ rs) (suc k) p contents e g = last_stands (r ∷ rs) k p (with_bytes contents q.oid q.bytes) (omega (arith, e)) g

-- the bytes of the last put stand
pub bytes_put : (puts : List TreePut) (p : TreePut) (contents : ℕ → Option (List ℕ)) (oid : ℕ) → slice_get puts (length puts - 1) ≡ Some p → p.oid ≡ oid → contents_after puts contents oid ≡ Some p.bytes
bytes_put [] p contents oid g o = absurd cc
bytes_put (q ∷ qs) p contents oid g o =
    subst (λ n. contents_after (q ∷ qs) contents n ≡ Some p.bytes) o
    (last_stands (q ∷ qs) (length (q ∷ qs) - 1) p contents (omega arith) g)

-- Steps of the loops over the objects above a leaf.
use Rattle.std.proofs.Common.{◌≡◌, ℕ, ◌-◌, ◌<◌, ◌≤◌, Bool, true, false, List, [], ◌∷◌, ◌++◌, Option, Some, None, refl, arith, sym, ◌∙◌, ap, subst, length, zero, suc, append_assoc, append-nil}
use Rattle.std.specs.Prelude.{◌&&◌}
use Rattle.btree_family.specs.declared.key.Key.{Key}
use Rattle.bucket_state.specs.declared.tree.Branch.{Branch}
use Rattle.btree_shapes.specs.declared.path.Step.{Step}
use Rattle.btree_putting.specs.declared.puts.Put.{Put}
use Rattle.btree_putting.specs.Puts.{inner_node}
use Rattle.btree_putting.specs.Firsts.{is_none}
use Rattle.btree_removing.specs.declared.losing.Loss.{Loss}
use Rattle.btree_removing.specs.declared.losing.Rest.TheVariants.{Same, First, Gone}
use Rattle.btree_removing.specs.declared.rung.Rung.{Rung}
use Rattle.btree_removing.specs.Items.{cut_branch}
use Rattle.btree_removing.specs.Losses.{put_rung, lose_child, move_first, lose, raise, leaves_tree}
use Rattle.btree_removing.specs.Rungs.{rung_of, rungs_of}

-- ---- the objects of a way

-- those below the rest of the path are done
pub record RungsSo (leaf : Bool) (whole path : List Step) (rungs : List Rung) (leaves : Bool) : Type 0 where
  pub done : List Step
  pub cut : whole ≡ path ++ done
  pub rungs_are : rungs ≡ rungs_of leaf done
  pub leaves_are : leaves ≡ (leaf && is_none done)

and_true : (b : Bool) → b ≡ (b && true)
and_true true = refl
and_true false = refl

and_false : (b : Bool) → false ≡ (b && false)
and_false true = refl
and_false false = refl

pub rungs_start : (leaf : Bool) (whole : List Step) (rungs : List Rung) → rungs ≡ [] → RungsSo leaf whole whole rungs leaf
rungs_start leaf whole rungs e = record { done = []; cut = sym (append-nil whole); rungs_are = e; leaves_are = and_true leaf }

pub rungs_step : (leaf : Bool) (whole path path' : List Step) (rungs rungs' : List Rung) (leaves : Bool) (step : Step) → RungsSo leaf whole path rungs leaves → path ≡ path' ++ step ∷ [] → rungs' ≡ (record { oid = step.oid; class = step.class; inner = step.inner; leaves = leaves }) ∷ rungs → RungsSo leaf whole path' rungs' false
rungs_step leaf whole path path' rungs rungs' leaves step s p r = record {
  done = step ∷ s.done;
  cut = s.cut ∙ ap (λ xs. xs ++ s.done) p ∙ append_assoc path' (step ∷ []) s.done;
  rungs_are = r ∙ ap (λ b. rung_of b step ∷ rungs) s.leaves_are ∙ ap (λ xs. rung_of (leaf && is_none s.done) step ∷ xs) s.rungs_are;
  leaves_are = and_false leaf;
}

pub rungs_end : (leaf : Bool) (whole path : List Step) (rungs : List Rung) (leaves : Bool) → RungsSo leaf whole path rungs leaves → path ≡ [] → rungs ≡ rungs_of leaf whole
rungs_end leaf whole path rungs leaves s p = s.rungs_are ∙ ap (rungs_of leaf) (sym (s.cut ∙ ap (λ xs. xs ++ s.done) p))

-- ---- one object

pub child_behind : (place : ℕ) (known : Option ℕ) (rung : Rung) (puts all : List Put) (tail : List Branch) → 0 < place → tail ≡ cut_branch rung.inner.tail (place - 1) → all ≡ puts ++ put_rung rung (inner_node rung.inner.head tail rung.inner.first) ∷ [] → record { puts = all; rest = Same } ≡ lose_child place known rung puts
child_behind zero known rung puts all tail l t a = absurd (omega (arith, l))
child_behind (suc place) known rung puts all tail l t a =
    let e : suc place - 1 ≡ place = omega arith in
    ap (λ x. record { puts = x; rest = Same }) a
    ∙ ap (λ x. record { puts = puts ++ put_rung rung (inner_node rung.inner.head x rung.inner.first) ∷ []; rest = Same }) (t ∙ ap (cut_branch rung.inner.tail) e)

pub first_behind : (place first : ℕ) (rung : Rung) (puts : List Put) → 0 < place → record { puts = puts; rest = Same } ≡ move_first place first rung puts
first_behind zero first rung puts l = absurd (omega (arith, l))
first_behind (suc place) first rung puts l = refl

-- ---- the way up

raise_last : (key : Key) (known : Option ℕ) (rungs : List Rung) (rung : Rung) (below : Loss) → raise key known (rungs ++ rung ∷ []) below ≡ raise key known rungs (lose key known rung below)
raise_last key known [] rung below = refl
raise_last key known (x ∷ xs) rung below = ap (lose key known x) (raise_last key known xs rung below)

-- what is left of the way up gives the whole
pub record RaisesSo (key : Key) (known : Option ℕ) (whole : Loss) (left : List Rung) (below : Loss) : Type 0 where
  pub gives : raise key known left below ≡ whole

pub raise_start : (key : Key) (known : Option ℕ) (rungs : List Rung) (leaf : Put) (puts none : List Put) → none ≡ [] → puts ≡ none ++ leaf ∷ [] → RaisesSo key known (raise key known rungs (leaves_tree leaf)) rungs (record { puts = puts; rest = Gone })
raise_start key known rungs leaf puts none n e = record { gives = ap (λ xs. raise key known rungs (record { puts = xs; rest = Gone })) (e ∙ ap (λ xs. xs ++ leaf ∷ []) n) }

pub raise_step : (key : Key) (known : Option ℕ) (whole : Loss) (left left' : List Rung) (rung : Rung) (below loss : Loss) → RaisesSo key known whole left below → left ≡ left' ++ rung ∷ [] → loss ≡ lose key known rung below → RaisesSo key known whole left' loss
raise_step key known whole left left' rung below loss s l e = record {
  gives = ap (raise key known left') e ∙ sym (raise_last key known left' rung below) ∙ ap (λ xs. raise key known xs below) (sym l) ∙ s.gives;
}

pub raise_end : (key : Key) (known : Option ℕ) (whole : Loss) (left : List Rung) (below : Loss) → RaisesSo key known whole left below → left ≡ [] → below.puts ≡ whole.puts
raise_end key known whole left below s e = ap (λ xs. (raise key known xs below).puts) (sym e) ∙ ap (λ x. x.puts) s.gives

-- Nodes and puts that are the same but for the numbers of objects.
use Rattle.std.proofs.Common.{◌≡◌, ℕ, ◌<◌, ◌^◌, List, [], ◌∷◌, ◌++◌, Option, Some, None, ◌⊎◌, inl, inr, refl, sym, ◌∙◌, ap, subst, length, suc, Bool, true, false}
use Rattle.std.specs.Prelude.{if◌then◌else◌, map}
use Rattle.pickle_graph.specs.Graph.{AllBelow}
use Rattle.btree_family.specs.declared.key.Key.{Key}
use Rattle.btree_family.specs.declared.bucket.Item.{Item}
use Rattle.bucket_state.specs.declared.tree.Branch.{Branch}
use Rattle.bucket_state.specs.Trees.{separators_of}
use Rattle.btree_shapes.specs.declared.node.Node.{Node}
use Rattle.btree_shapes.specs.declared.node.Node.TheVariants as node
use Rattle.btree_family.specs.Keys.{is_below}
use Rattle.btree_putting.specs.declared.puts.Put.{Put}
use Rattle.btree_setting.specs.declared.change.Sprout.{Sprout}
use Rattle.btree_setting.specs.declared.change.Change.{Change}
use Rattle.btree_setting.specs.Inserting.{insert_branch}
use Rattle.btree_putting.specs.Puts.{put_oid}

-- the same number, or a second one of eight bytes
abbrev pub OidAlike : ℕ → ℕ → Type 0
OidAlike a b = (a ≡ b) ⊎ (b < 2 ^ 64)

abbrev pub LinkAlike : Option ℕ → Option ℕ → Type 0
LinkAlike None None = Unit {0}
LinkAlike (Some a) (Some b) = OidAlike a b
LinkAlike _ _ = ⊥

pub record BranchAlike (x y : Branch) : Type 0 where
  pub key : x.key ≡ y.key
  pub child : OidAlike x.child y.child

abbrev pub BranchesAlike : List Branch → List Branch → Type 0
BranchesAlike [] [] = Unit {0}
BranchesAlike (x ∷ xs) (y ∷ ys) = BranchAlike x y × BranchesAlike xs ys
BranchesAlike _ _ = ⊥

abbrev pub NodeAlike : Node → Node → Type 0
NodeAlike (node.Lone a) (node.Lone b) = a ≡ b
NodeAlike (node.Leaf a) (node.Leaf b) = (a.items ≡ b.items) × LinkAlike a.next b.next
NodeAlike (node.Inner a) (node.Inner b) = OidAlike a.head b.head × BranchesAlike a.tail b.tail × OidAlike a.first b.first
NodeAlike _ _ = ⊥

pub record PutAlike (p q : Put) : Type 0 where
  pub class : p.class ≡ q.class
  pub leaves : p.leaves ≡ q.leaves
  pub node : NodeAlike p.node q.node

abbrev pub PutsAlike : List Put → List Put → Type 0
PutsAlike [] [] = Unit {0}
PutsAlike (p ∷ ps) (q ∷ qs) = PutAlike p q × PutsAlike ps qs
PutsAlike _ _ = ⊥

pub record SproutAlike (a b : Sprout) : Type 0 where
  pub key : a.key ≡ b.key
  pub child : OidAlike a.child b.child
  pub first : OidAlike a.first b.first

abbrev pub UpAlike : Option Sprout → Option Sprout → Type 0
UpAlike None None = Unit {0}
UpAlike (Some a) (Some b) = SproutAlike a b
UpAlike _ _ = ⊥

pub record ChangeAlike (c d : Change) : Type 0 where
  pub news : PutsAlike c.news d.news
  pub olds : PutsAlike c.olds d.olds
  pub up : UpAlike c.up d.up

-- ---- the same is alike

link_same : (a : Option ℕ) → LinkAlike a a
link_same None = tt
link_same (Some a) = inl refl

pub branches_same : (xs : List Branch) → BranchesAlike xs xs
branches_same [] = tt
branches_same (x ∷ xs) = (record { key = refl; child = inl refl }, branches_same xs)

pub node_same : (n : Node) → NodeAlike n n
node_same (node.Lone a) = refl
node_same (node.Leaf a) = (refl, link_same a.next)
node_same (node.Inner a) = (inl refl, branches_same a.tail, inl refl)

puts_same : (ps : List Put) → PutsAlike ps ps
puts_same [] = tt
puts_same (p ∷ ps) = (record { class = refl; leaves = refl; node = node_same p.node }, puts_same ps)

up_same : (u : Option Sprout) → UpAlike u u
up_same None = tt
up_same (Some a) = record { key = refl; child = inl refl; first = inl refl }

pub change_same : (c d : Change) → c ≡ d → ChangeAlike c d
change_same c d e = subst (ChangeAlike c) e (record { news = puts_same c.news; olds = puts_same c.olds; up = up_same c.up })

-- changes that are equal to alike ones
pub change_as : (c d c' d' : Change) → c ≡ c' → d ≡ d' → ChangeAlike c' d' → ChangeAlike c d
change_as c d c' d' e f h = subst (λ (x : Change). ChangeAlike x d) (sym e) (subst (λ (y : Change). ChangeAlike c' y) (sym f) h)

-- ---- lists

pub puts_append : (ps qs rs ss : List Put) → PutsAlike ps qs → PutsAlike rs ss → PutsAlike (ps ++ rs) (qs ++ ss)
puts_append [] [] rs ss h g = g
puts_append (p ∷ ps) (q ∷ qs) rs ss h g = (h.0, puts_append ps qs rs ss h.1 g)
puts_append [] (q ∷ qs) rs ss h g = absurd h
puts_append (p ∷ ps) [] rs ss h g = absurd h

pub as_many : (xs ys : List Branch) → BranchesAlike xs ys → length xs ≡ length ys
as_many [] [] h = refl
as_many (x ∷ xs) (y ∷ ys) h = ap suc (as_many xs ys h.1)
as_many [] (y ∷ ys) h = absurd h
as_many (x ∷ xs) [] h = absurd h

pub same_separators : (xs ys : List Branch) → BranchesAlike xs ys → separators_of xs ≡ separators_of ys
same_separators [] [] h = refl
same_separators (x ∷ xs) (y ∷ ys) h = λ i. h.0.key i ∷ same_separators xs ys h.1 i
same_separators [] (y ∷ ys) h = absurd h
same_separators (x ∷ xs) [] h = absurd h

pub insert_alike : (x y : Branch) (key : Key) (zs : List Branch) → BranchAlike x y → BranchesAlike (insert_branch x key zs) (insert_branch y key zs)
insert_alike x y key [] h = (h, tt)
insert_alike x y key (z ∷ zs) h = by_test (is_below key z.key) (insert_alike x y key zs h)
  where
    by_test : (b : Bool) → BranchesAlike (insert_branch x key zs) (insert_branch y key zs) → BranchesAlike (if b then x ∷ z ∷ zs else z ∷ insert_branch x key zs) (if b then y ∷ z ∷ zs else z ∷ insert_branch y key zs)
    by_test true rest = (h, branches_same (z ∷ zs))
    by_test false rest = (record { key = refl; child = inl refl }, rest)

-- alike branches, cut at the same place
pub record CutAlike (left left' : List Branch) (middle middle' : Branch) (right right' : List Branch) : Type 0 where
  pub lefts : BranchesAlike left left'
  pub middles : BranchAlike middle middle'
  pub rights : BranchesAlike right right'

cut_lists : (left left' : List Branch) (middle middle' : Branch) (right right' : List Branch) → length left ≡ length left' → BranchesAlike (left ++ middle ∷ right) (left' ++ middle' ∷ right') → CutAlike left left' middle middle' right right'
cut_lists [] [] middle middle' right right' e h = record { lefts = tt; middles = h.0; rights = h.1 }
cut_lists (x ∷ xs) (y ∷ ys) middle middle' right right' e h =
    let e' : length xs ≡ length ys = cc in
    let c = cut_lists xs ys middle middle' right right' e' h.1 in
    record { lefts = (h.0, c.lefts); middles = c.middles; rights = c.rights }
cut_lists [] (y ∷ ys) middle middle' right right' e h = cc
cut_lists (x ∷ xs) [] middle middle' right right' e h = cc

pub cut_alike : (whole whole' left left' : List Branch) (middle middle' : Branch) (right right' : List Branch) → BranchesAlike whole whole' → whole ≡ left ++ middle ∷ right → whole' ≡ left' ++ middle' ∷ right' → length left ≡ length left' → CutAlike left left' middle middle' right right'
cut_alike whole whole' left left' middle middle' right right' h e f l =
    cut_lists left left' middle middle' right right' l (subst (λ (xs : List Branch). BranchesAlike xs (left' ++ middle' ∷ right')) e (subst (λ (ys : List Branch). BranchesAlike whole ys) f h))

-- items, cut at the same place
pub items_cut : (left left' right right' : List Item) → length left ≡ length left' → left ++ right ≡ left' ++ right' → (left ≡ left') × (right ≡ right')
items_cut [] [] right right' l e = (refl, e)
items_cut (x ∷ xs) (y ∷ ys) right right' l e =
    let l' : length xs ≡ length ys = cc in
    let head : x ≡ y = cc in
    let tail : xs ++ right ≡ ys ++ right' = cc in
    let c = items_cut xs ys right right' l' tail in
    ((λ i. head i ∷ c.0 i), c.1)
items_cut [] (y ∷ ys) right right' l e = cc
items_cut (x ∷ xs) [] right right' l e = cc

-- ---- numbers of new objects

pub below_front : (n : ℕ) (ps qs : List Put) → AllBelow n (map put_oid (ps ++ qs)) → AllBelow n (map put_oid ps)
below_front n [] qs h = tt
below_front n (p ∷ ps) qs h = (h.0, below_front n ps qs h.1)

pub below_behind : (n : ℕ) (ps qs : List Put) → AllBelow n (map put_oid (ps ++ qs)) → AllBelow n (map put_oid qs)
below_behind n [] qs h = h
below_behind n (p ∷ ps) qs h = below_behind n ps qs h.1

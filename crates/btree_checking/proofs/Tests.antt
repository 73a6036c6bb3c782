-- The tests of the rules, and what they say.
use Rattle.std.proofs.Common.{◌≡◌, ℕ, Bool, true, false, List, [], ◌∷◌, Option, Some, None, refl, arith, sym, ap, subst}
use Rattle.std.specs.Prelude.{map, not, ◌&&◌, ◌==◌, if◌then◌else◌}
use Rattle.std.proofs.lemmas.Grind.{common_steps}
use Rattle.btree_family.specs.declared.key.Key.{Key}
use Rattle.btree_family.specs.declared.bucket.Item.{Item}
use Rattle.btree_family.specs.Keys.{rank_of, is_below}
use Rattle.btree_family.specs.Buckets.{keys_of}
use Rattle.btree_family.specs.Rising.{Rises}
use Rattle.bucket_state.specs.declared.tree.Branch.{Branch}
use Rattle.bucket_state.specs.States.{follows, stand_in_row}
use Rattle.bucket_state.specs.Trees.{separators_of}
use Rattle.btree_shapes.specs.declared.node.Node.{Node}
use Rattle.btree_shapes.specs.Shapes.{Shape, Limb, branch_of, EachChild, EachLimb, IsFrom, IsUpTo, AreWithin, Parted, AreOfKind}
use Rattle.btree_checking.specs.declared.place.Place.{Place}
use Rattle.btree_checking.specs.declared.verdict.Rule.TheVariants.{NotATree, Keys, Bounds, Depth}
use Rattle.btree_checking.specs.Rules.{Tour, keys_in, may_stand, are_of_kind, suit_kind, is_from, is_up_to, are_within, suits_depth, rule_broken, kind_with}
use Rattle.btree_family.specs.OrderLaws.{below_not}
use Rattle.btree_shapes.specs.BoundLaws.{from_wider}

pub both_hold : (a b : Bool) → (a && b) ≡ true → (a ≡ true) × (b ≡ true)
both_hold true true e = (refl, refl)
both_hold true false e = absurd cc
both_hold false b e = absurd cc

pub both : (a b : Bool) → a ≡ true → b ≡ true → (a && b) ≡ true
both a b p q = rw (p, q) refl

not_true : (b : Bool) → not b ≡ true → b ≡ false
not_true true e = absurd cc
not_true false e = refl

pub same_numbers : (a b : ℕ) → a ≡ b → (a == b) ≡ true
same_numbers a b e = grind (arith, common_steps)

pub numbers_same : (a b : ℕ) → (a == b) ≡ true → a ≡ b
numbers_same a b e = grind (arith, common_steps)

-- ---- the rules one by one

by_tests : (a b c d : Bool) → (if not a then Some NotATree else if not b then Some Keys else if not c then Some Bounds else if not d then Some Depth else None) ≡ None → (a ≡ true) × (b ≡ true) × (c ≡ true) × (d ≡ true)
by_tests true true true true e = (refl, refl, refl, refl)
by_tests true true true false e = absurd cc
by_tests true true false d e = absurd cc
by_tests true false c d e = absurd cc
by_tests false b c d e = absurd cc

-- what holds where no rule is broken
pub rules_hold : (place : Place) (tour : Tour) (node : Node) → rule_broken place tour node ≡ None → (may_stand place.level node ≡ true) × (suit_kind tour.kind (keys_in node) ≡ true) × (are_within place.low place.high (keys_in node) ≡ true) × (suits_depth tour.depth place.level node ≡ true)
rules_hold place tour node e = by_tests (may_stand place.level node) (suit_kind tour.kind (keys_in node)) (are_within place.low place.high (keys_in node)) (suits_depth tour.depth place.level node) e

none_by : (a b c d : Bool) → a ≡ true → b ≡ true → c ≡ true → d ≡ true → (if not a then Some NotATree else if not b then Some Keys else if not c then Some Bounds else if not d then Some Depth else None) ≡ None
none_by a b c d p q r s = rw (p, q, r, s) refl

pub none_broken : (place : Place) (tour : Tour) (node : Node) → may_stand place.level node ≡ true → suit_kind tour.kind (keys_in node) ≡ true → are_within place.low place.high (keys_in node) ≡ true → suits_depth tour.depth place.level node ≡ true → rule_broken place tour node ≡ None
none_broken place tour node p q r s = none_by (may_stand place.level node) (suit_kind tour.kind (keys_in node)) (are_within place.low place.high (keys_in node)) (suits_depth tour.depth place.level node) p q r s

-- ---- kinds

-- a number that was met, if one was, is this one
abbrev pub Agrees : Option ℕ → ℕ → Type 0
Agrees None n = Unit {0}
Agrees (Some m) n = m ≡ n

pub items_of_kind : (kind : ℕ) (items : List Item) → AreOfKind kind items → are_of_kind kind (keys_of items) ≡ true
items_of_kind kind [] k = refl
items_of_kind kind (x ∷ xs) k = both _ _ (same_numbers _ _ k.0) (items_of_kind kind xs k.1)

pub kind_of_items : (kind : ℕ) (items : List Item) → are_of_kind kind (keys_of items) ≡ true → AreOfKind kind items
kind_of_items kind [] k = tt
kind_of_items kind (x ∷ xs) k = let r = both_hold _ _ k in (numbers_same _ _ r.0, kind_of_items kind xs r.1)

pub limbs_of_kind : (kind h : ℕ) (P : Shape h → Type 0) (ls : List (Limb (Shape h))) → EachLimb kind P ls → are_of_kind kind (separators_of (map (branch_of h) ls)) ≡ true
limbs_of_kind kind h P [] k = refl
limbs_of_kind kind h P (l ∷ ls) k = both _ _ (same_numbers _ _ k.0) (limbs_of_kind kind h P ls k.2)

pub kind_of_limbs : (kind h : ℕ) (P : Shape h → Type 0) (ls : List (Limb (Shape h))) → are_of_kind kind (separators_of (map (branch_of h) ls)) ≡ true → EachChild P ls → EachLimb kind P ls
kind_of_limbs kind h P [] k e = tt
kind_of_limbs kind h P (l ∷ ls) k e = let r = both_hold _ _ k in (numbers_same _ _ r.0, e.0, kind_of_limbs kind h P ls r.1 e.1)

pub suit_agreed : (met : Option ℕ) (kind : ℕ) (keys : List Key) → Agrees met kind → are_of_kind kind keys ≡ true → suit_kind met keys ≡ true
suit_agreed None kind keys a k = refl
suit_agreed (Some m) kind keys a k = subst (λ n. are_of_kind n keys ≡ true) (sym a) k

pub agreed_with : (met : Option ℕ) (kind : ℕ) (keys : List Key) → Agrees met kind → are_of_kind kind keys ≡ true → Agrees (kind_with met keys) kind
agreed_with (Some m) kind keys a k = a
agreed_with None kind [] a k = tt
agreed_with None kind (key ∷ keys) a k = numbers_same _ _ (both_hold _ _ k).0

-- ---- keys in a row

row_holds : (a b : Bool) → (if a then b else false) ≡ true → (a ≡ true) × (b ≡ true)
row_holds true b e = (refl, e)
row_holds false b e = absurd cc

pub row_rises : (before : Option Key) (keys : List Key) → stand_in_row before keys ≡ true → Rises before keys
row_rises before [] h = tt
row_rises None (key ∷ keys) h = (refl, row_rises (Some key) keys h)
row_rises (Some low) (key ∷ keys) h =
    let p = row_holds (follows (Some low) key) (stand_in_row (Some key) keys) h in
    ((both_hold _ _ p.0).0, row_rises (Some key) keys p.1)

row_kind : (before : Key) (keys : List Key) → stand_in_row (Some before) keys ≡ true → are_of_kind (rank_of before) keys ≡ true
row_kind before [] h = refl
row_kind before (key ∷ keys) h =
    let p = row_holds (follows (Some before) key) (stand_in_row (Some key) keys) h in
    let e : rank_of before ≡ rank_of key = numbers_same _ _ (both_hold _ _ p.0).1 in
    both _ _ (same_numbers _ _ (sym e)) (subst (λ n. are_of_kind n keys ≡ true) (sym e) (row_kind key keys p.1))

-- of what kind the keys of a node are, where the kind after it is this one
pub kind_back : (met : Option ℕ) (kind : ℕ) (keys : List Key) → stand_in_row None keys ≡ true → suit_kind met keys ≡ true → Agrees (kind_with met keys) kind → Agrees met kind × (are_of_kind kind keys ≡ true)
kind_back (Some m) kind keys r s a = (a, subst (λ n. are_of_kind n keys ≡ true) a s)
kind_back None kind [] r s a = (tt, refl)
kind_back None kind (key ∷ keys) r s a = (tt, both _ _ (same_numbers _ _ a) (subst (λ n. are_of_kind n keys ≡ true) a (row_kind key keys r)))

-- ---- bounds

from_is : (low : Option Key) (key : Key) → IsFrom low key → is_from low key ≡ true
from_is None key h = refl
from_is (Some low) key h = ap not h

is_from_bound : (low : Option Key) (key : Key) → is_from low key ≡ true → IsFrom low key
is_from_bound None key h = tt
is_from_bound (Some low) key h = not_true (is_below key low) h

upto_is : (high : Option Key) (key : Key) → IsUpTo high key → is_up_to high key ≡ true
upto_is None key h = refl
upto_is (Some high) key h = h

is_upto_bound : (high : Option Key) (key : Key) → is_up_to high key ≡ true → IsUpTo high key
is_upto_bound None key h = tt
is_upto_bound (Some high) key h = h

pub items_within : (low high : Option Key) (items : List Item) → AreWithin low high items → are_within low high (keys_of items) ≡ true
items_within low high [] w = refl
items_within low high (x ∷ xs) w = both _ _ (both _ _ (from_is low x.key w.0) (upto_is high x.key w.1)) (items_within low high xs w.2)

pub within_items : (low high : Option Key) (items : List Item) → are_within low high (keys_of items) ≡ true → AreWithin low high items
within_items low high [] w = tt
within_items low high (x ∷ xs) w =
    let p = both_hold _ _ w in let q = both_hold _ _ p.0 in
    (is_from_bound low x.key q.0, is_upto_bound high x.key q.1, within_items low high xs p.1)

-- separators that part children are within the bounds
pub parted_within : (h : ℕ) (B : Option Key → Option Key → Shape h → Type 0) (outer low high : Option Key) (c : Shape h) (ls : List (Limb (Shape h))) → ((key : Key) → IsFrom low key → IsFrom outer key) → Parted B low high c ls → are_within outer high (separators_of (map (branch_of h) ls)) ≡ true
parted_within h B outer low high c [] f p = refl
parted_within h B outer low high c (l ∷ ls) f p =
    both _ _ (both _ _ (from_is outer l.key (f l.key p.0)) (upto_is high l.key p.1))
    (parted_within h B outer (Some l.key) high l.child ls (λ key g. from_wider outer l.key key (f l.key p.0) g) p.3)

-- separators that rise within the bounds
abbrev pub Part : Option Key → Option Key → List Branch → Type 0
Part low high [] = Unit {0}
Part low high (b ∷ bs) = IsFrom low b.key × IsUpTo high b.key × Part (Some b.key) high bs

part_more : (outer high : Option Key) (before : Key) (bs : List Branch) → Rises (Some before) (separators_of bs) → are_within outer high (separators_of bs) ≡ true → Part (Some before) high bs
part_more outer high before [] r w = tt
part_more outer high before (b ∷ bs) r w =
    let p = both_hold _ _ w in let q = both_hold _ _ p.0 in
    (below_not before b.key r.0, is_upto_bound high b.key q.1, part_more outer high b.key bs r.1 p.1)

pub parts_within : (low high : Option Key) (bs : List Branch) → Rises None (separators_of bs) → are_within low high (separators_of bs) ≡ true → Part low high bs
parts_within low high [] r w = tt
parts_within low high (b ∷ bs) r w =
    let p = both_hold _ _ w in let q = both_hold _ _ p.0 in
    (is_from_bound low b.key q.0, is_upto_bound high b.key q.1, part_more low high b.key bs r.1 p.1)

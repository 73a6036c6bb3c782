-- What a check of a tree says. Own.
use Rattle.std.specs.Prelude.{ℕ, Bool, true, false, List, [], ◌∷◌, length, Option, Some, None, Result, Ok, Err, nat_eq, if◌then◌else◌}
use Rattle.btree_shapes.specs.Nodes.{Held}
use Rattle.btree_checking.specs.declared.links.Pointer.{Pointer}
use Rattle.btree_checking.specs.declared.links.Pointer.TheVariants.{First, Next}
use Rattle.btree_checking.specs.declared.verdict.Rule.TheVariants.{Links}
use Rattle.btree_checking.specs.declared.verdict.Verdict.{Verdict}
use Rattle.btree_checking.specs.declared.verdict.Verdict.TheVariants.{Sound, Broken}
use Rattle.btree_checking.specs.Rules.{Tour}
use Rattle.btree_checking.specs.Walks.{Stop, walk_of}

-- ---- the links of a whole walk

-- an object that is a leaf, or else the one that is given
abbrev pub leaf_or : ℕ → Pointer → Option ℕ → Option ℕ
leaf_or oid (Next next) other = Some oid
leaf_or oid (First first) other = other

-- The first leaf among visits. Of those behind an object with others below it, it is the first leaf below it; of those behind a
-- leaf, it is the next leaf.
abbrev pub leaf_in : List (ℕ × Pointer) → Option ℕ
leaf_in [] = None
leaf_in (visit ∷ visits) = leaf_or visit.0 visit.1 (leaf_in visits)

abbrev pub is_same : Option ℕ → Option ℕ → Bool
is_same None None = true
is_same None (Some b) = false
is_same (Some a) None = false
is_same (Some a) (Some b) = nat_eq a b

-- an object with others below it names their first leaf
abbrev pub names_first : Pointer → Option ℕ → Bool
names_first (First first) leaf = is_same (Some first) leaf
names_first (Next next) leaf = true

-- a leaf names the next one, and the last one none
abbrev pub names_next : Pointer → Option ℕ → Bool
names_next (First first) leaf = true
names_next (Next next) leaf = is_same next leaf

-- the first object whose pointer fails this test on the first leaf behind it
abbrev pub first_wrong : (Pointer → Option ℕ → Bool) → List (ℕ × Pointer) → Option ℕ
first_wrong test [] = None
first_wrong test (visit ∷ visits) = if test visit.1 (leaf_in visits) then first_wrong test visits else Some visit.0

abbrev pub or_else : Option ℕ → Option ℕ → Option ℕ
or_else None other = other
or_else (Some oid) other = Some oid

-- the first object with others below it that names another first leaf, or else the first leaf that names another next one
abbrev pub wrong_link : List (ℕ × Pointer) → Option ℕ
wrong_link visits = or_else (first_wrong names_first visits) (first_wrong names_next visits)

-- ---- the verdict

abbrev pub linked_verdict : Tour → Option ℕ → Verdict
linked_verdict tour None = Sound tour.items (length tour.visits)
linked_verdict tour (Some oid) = Broken oid Links

abbrev pub verdict_after : Result Tour Stop → Verdict
verdict_after (Ok tour) = linked_verdict tour (wrong_link tour.visits)
verdict_after (Err stop) = Broken stop.oid stop.rule

-- what a check says of the tree with this root
abbrev pub verdict_of : (ℕ → Held) → ℕ → Verdict
verdict_of objects root = verdict_after (walk_of objects root)

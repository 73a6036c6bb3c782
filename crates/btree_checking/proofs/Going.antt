-- A walk, step by step.
use Rattle.std.proofs.Common.{◌≡◌, ℕ, ◌+◌, ◌-◌, ◌<◌, ◌^◌, suc, Bool, true, false, List, [], ◌∷◌, ◌++◌, Option, Some, None, Result, Ok, Err, inl, inr, refl, arith, sym, ◌∙◌, ap, subst, append_assoc, append-nil}
use Rattle.std.specs.Prelude.{not, if◌then◌else◌}
use Rattle.pickle_graph.specs.Graph.{Graph}
use Rattle.btree_family.specs.declared.key.Key.{Key}
use Rattle.bucket_state.specs.declared.tree.Branch.{Branch}
use Rattle.btree_shapes.specs.declared.node.Node.{Node}
use Rattle.btree_shapes.specs.declared.node.Node.TheVariants as node
use Rattle.btree_shapes.specs.Nodes.{Held, Nothing, Foreign, Holds}
use Rattle.btree_shapes.specs.declared.space.Call.{Call}
use Rattle.btree_shapes.specs.declared.space.Call.TheVariants.{Read}
use Rattle.btree_shapes.specs.Ways.{reads}
use Rattle.btree_checking.specs.declared.links.Pointer.{Pointer}
use Rattle.btree_checking.specs.declared.place.Place.{Place}
use Rattle.btree_checking.specs.declared.verdict.Rule.{Rule}
use Rattle.btree_checking.specs.declared.verdict.Rule.TheVariants.{NodeMissing, Shared, NotATree, Keys, Bounds, Depth}
use Rattle.btree_checking.specs.declared.walk.Walk.{Walk}
use Rattle.btree_checking.specs.declared.walk.Step.{Step}
use Rattle.btree_checking.specs.declared.walk.Step.TheVariants.{On, Stopped}
use Rattle.btree_checking.specs.Rules.{Tour, keys_in, may_stand, suit_kind, are_within, suits_depth, was_visited, rule_broken, with_visit, pointer_of, places_from, places_below}
use Rattle.btree_checking.specs.Walks.{Stop, stopped, and_then, in_turn, visit_node, visit_held, visit, root_place, fresh_tour, walk_of, oids_in, last_read}
use Rattle.btree_checking.specs.Steps.{visiting, rest_of, entering, comes_to, step_by, step_of, step_reads, AreHeld, StepIsSmall, IsLonger, GoesOn, ReadSince}
use Rattle.btree_checking.proofs.Shaped.{length-append, visited_parts, only_one}
use Rattle.btree_checking.proofs.Steps.{visit_suc}

-- ---- parts of a walk

and_then_same : (r : Result Tour Stop) (f g : Tour → Result Tour Stop) → ((tour : Tour) → f tour ≡ g tour) → and_then r f ≡ and_then r g
and_then_same (Ok tour) f g each = each tour
and_then_same (Err stop) f g each = refl

and_then_assoc : (r : Result Tour Stop) (f g : Tour → Result Tour Stop) → and_then (and_then r f) g ≡ and_then r (λ tour. and_then (f tour) g)
and_then_assoc (Ok tour) f g = refl
and_then_assoc (Err stop) f g = refl

and_then_none : (each : Place → Tour → Result Tour Stop) (r : Result Tour Stop) → and_then r (in_turn each []) ≡ r
and_then_none each (Ok tour) = refl
and_then_none each (Err stop) = refl

in_turn-append : (each : Place → Tour → Result Tour Stop) (xs ys : List Place) (tour : Tour) → in_turn each (xs ++ ys) tour ≡ and_then (in_turn each xs tour) (in_turn each ys)
in_turn-append each [] ys tour = refl
in_turn-append each (x ∷ xs) ys tour =
    and_then_same (each x tour) (in_turn each (xs ++ ys)) (λ t. and_then (in_turn each xs t) (in_turn each ys)) (λ t. in_turn-append each xs ys t)
    ∙ sym (and_then_assoc (each x tour) (in_turn each xs) (in_turn each ys))

in_places : (objects : ℕ → Held) (level : ℕ) (low high : Option Key) (child : ℕ) (branches : List Branch) (tour : Tour) → in_turn (visiting objects) (places_from level low high child branches) tour ≡ in_turn (visit objects (2 ^ 64 - level)) (places_from level low high child branches) tour
in_places objects level low high child [] tour = refl
in_places objects level low high child (b ∷ bs) tour =
    and_then_same (visit objects (2 ^ 64 - level) (record { oid = child; low = low; high = Some b.key; level = level }) tour) (in_turn (visiting objects) (places_from level (Some b.key) high b.child bs)) (in_turn (visit objects (2 ^ 64 - level)) (places_from level (Some b.key) high b.child bs)) (λ t. in_places objects level (Some b.key) high b.child bs t)

in_children : (objects : ℕ → Held) (place : Place) (n : Node) (tour : Tour) → in_turn (visiting objects) (places_below place n) tour ≡ in_turn (visit objects (2 ^ 64 - (place.level + 1))) (places_below place n) tour
in_children objects place (node.Lone b) tour = refl
in_children objects place (node.Leaf b) tour = refl
in_children objects place (node.Inner i) tour = in_places objects (place.level + 1) place.low place.high i.head i.tail tour

room_left : (level : ℕ) → level < 2 ^ 64 → 2 ^ 64 - level ≡ suc (2 ^ 64 - (level + 1))
room_left level l = omega (arith, l)

-- ---- one step

held_here : (objects : ℕ → Held) (place : Place) (tour : Tour) → place.level < 2 ^ 64 → visiting objects place tour ≡ visit_held (visit objects (2 ^ 64 - (place.level + 1))) place tour (objects place.oid)
held_here objects place tour l = ap (λ room. visit objects room place tour) (room_left place.level l) ∙ visit_suc objects (2 ^ 64 - (place.level + 1)) place tour

held_by : (objects : ℕ → Held) (place : Place) (tour : Tour) (held : Held) → place.level < 2 ^ 64 → objects place.oid ≡ held → visiting objects place tour ≡ visit_held (visit objects (2 ^ 64 - (place.level + 1))) place tour held
held_by objects place tour held l h = held_here objects place tour l ∙ ap (visit_held (visit objects (2 ^ 64 - (place.level + 1))) place tour) h

abbrev then_rest : (ℕ → Held) → Walk → Result Tour Stop → Result Tour Stop
then_rest objects walk r = and_then r (in_turn (visiting objects) walk.todo)

pub missing_gives : (objects : ℕ → Held) (walk : Walk) (place : Place) → place.level < 2 ^ 64 → objects place.oid ≡ Nothing → comes_to objects walk (Stopped place.oid NodeMissing) ≡ entering objects walk place
missing_gives objects walk place l h = sym (ap (then_rest objects walk) (held_by objects place walk.survey Nothing l h))

pub foreign_gives : (objects : ℕ → Held) (walk : Walk) (place : Place) → place.level < 2 ^ 64 → was_visited walk.survey.visits place.oid ≡ false → objects place.oid ≡ Foreign → comes_to objects walk (Stopped place.oid NotATree) ≡ entering objects walk place
foreign_gives objects walk place l s h =
    sym (ap (then_rest objects walk) (held_by objects place walk.survey Foreign l h
    ∙ ap (λ b. if b then stopped place walk.survey Shared else stopped place walk.survey NotATree) s))

shared_by : (objects : ℕ → Held) (walk : Walk) (place : Place) (held : Held) → place.level < 2 ^ 64 → was_visited walk.survey.visits place.oid ≡ true → objects place.oid ≡ held → (held ≡ Nothing → ⊥) → visiting objects place walk.survey ≡ stopped place walk.survey Shared
shared_by objects walk place Nothing l s h n = absurd (n refl)
shared_by objects walk place Foreign l s h n =
    held_by objects place walk.survey Foreign l h ∙ ap (λ b. if b then stopped place walk.survey Shared else stopped place walk.survey NotATree) s
shared_by objects walk place (Holds class m) l s h n =
    held_by objects place walk.survey (Holds class m) l h
    ∙ ap (λ b. if b then stopped place walk.survey Shared else visit_node (visit objects (2 ^ 64 - (place.level + 1))) place walk.survey m (rule_broken place walk.survey m)) s

pub shared_gives : (objects : ℕ → Held) (walk : Walk) (place : Place) → place.level < 2 ^ 64 → was_visited walk.survey.visits place.oid ≡ true → AreHeld objects walk.survey.visits → comes_to objects walk (Stopped place.oid Shared) ≡ entering objects walk place
shared_gives objects walk place l s a =
    sym (ap (then_rest objects walk) (shared_by objects walk place (objects place.oid) l s refl (a place.oid s)))

step_gives : (objects : ℕ → Held) (walk : Walk) (place : Place) (n : Node) (r : Option Rule) → comes_to objects walk (step_by walk place n r) ≡ then_rest objects walk (visit_node (visit objects (2 ^ 64 - (place.level + 1))) place walk.survey n r)
step_gives objects walk place n (Some rule) = refl
step_gives objects walk place n None =
    in_turn-append (visiting objects) (places_below place n) walk.todo (with_visit place walk.survey n)
    ∙ ap (then_rest objects walk) (in_children objects place n (with_visit place walk.survey n))

pub enter_gives : (objects : ℕ → Held) (walk : Walk) (place : Place) (class : Graph) (n : Node) (step : Step) → place.level < 2 ^ 64 → was_visited walk.survey.visits place.oid ≡ false → objects place.oid ≡ Holds class n → step ≡ step_of walk place n → comes_to objects walk step ≡ entering objects walk place
enter_gives objects walk place class n step l s h e =
    ap (comes_to objects walk) e ∙ step_gives objects walk place n (rule_broken place walk.survey n)
    ∙ sym (ap (then_rest objects walk) (held_by objects place walk.survey (Holds class n) l h
    ∙ ap (λ b. if b then stopped place walk.survey Shared else visit_node (visit objects (2 ^ 64 - (place.level + 1))) place walk.survey n (rule_broken place walk.survey n)) s))

-- ---- what was visited

pub oids-append : (xs ys : List (ℕ × Pointer)) → oids_in (xs ++ ys) ≡ oids_in xs ++ oids_in ys
oids-append [] ys = refl
oids-append (x ∷ xs) ys = ap (λ zs. x.0 ∷ zs) (oids-append xs ys)

pub held_more : (objects : ℕ → Held) (visits : List (ℕ × Pointer)) (oid : ℕ) (pointer : Pointer) (class : Graph) (n : Node) → AreHeld objects visits → objects oid ≡ Holds class n → AreHeld objects (visits ++ (oid, pointer) ∷ [])
held_more objects visits oid pointer class n a h = λ x w none. elim (visited_parts visits ((oid, pointer) ∷ []) x w) [
  | inl was ↦ a x was none
  | inr is ↦ let e = only_one x oid pointer is in let bad : Nothing ≡ Holds class n = sym none ∙ ap objects (sym e) ∙ h in cc
]

on_by : (objects : ℕ → Held) (walk : Walk) (place : Place) (class : Graph) (n : Node) (r : Option Rule) → AreHeld objects walk.survey.visits → objects place.oid ≡ Holds class n → StepIsSmall (step_by walk place n r) → GoesOn objects walk.survey.visits place.oid (step_by walk place n r)
on_by objects walk place class n (Some rule) a h s = tt
on_by objects walk place class n None a h s = record {
  oids = oids-append walk.survey.visits ((place.oid, pointer_of n) ∷ []);
  count = length-append walk.survey.visits ((place.oid, pointer_of n) ∷ []);
  small = s;
  held = held_more objects walk.survey.visits place.oid (pointer_of n) class n a h;
}

pub enter_on : (objects : ℕ → Held) (walk : Walk) (place : Place) (class : Graph) (n : Node) (step : Step) → AreHeld objects walk.survey.visits → objects place.oid ≡ Holds class n → StepIsSmall step → step ≡ step_of walk place n → GoesOn objects walk.survey.visits place.oid step
enter_on objects walk place class n step a h s e =
    subst (GoesOn objects walk.survey.visits place.oid) (sym e) (on_by objects walk place class n (rule_broken place walk.survey n) a h (subst StepIsSmall e s))

-- an object that was read and breaks a rule breaks one that reads it
rule_reads : (a b c d : Bool) (rule : Rule) (oid : ℕ) → (if not a then Some NotATree else if not b then Some Keys else if not c then Some Bounds else if not d then Some Depth else None) ≡ Some rule → last_read rule oid ≡ oid ∷ []
rule_reads true true true true rule oid e = absurd cc
rule_reads true true true false rule oid e = let same : Depth ≡ rule = cc in ap (λ r. last_read r oid) (sym same)
rule_reads true true false d rule oid e = let same : Bounds ≡ rule = cc in ap (λ r. last_read r oid) (sym same)
rule_reads true false c d rule oid e = let same : Keys ≡ rule = cc in ap (λ r. last_read r oid) (sym same)
rule_reads false b c d rule oid e = let same : NotATree ≡ rule = cc in ap (λ r. last_read r oid) (sym same)

reads_by : (walk : Walk) (place : Place) (n : Node) (r : Option Rule) → ((rule : Rule) → r ≡ Some rule → last_read rule place.oid ≡ place.oid ∷ []) → step_reads place.oid (step_by walk place n r) ≡ place.oid ∷ []
reads_by walk place n None each = refl
reads_by walk place n (Some rule) each = each rule refl

pub enter_reads : (walk : Walk) (place : Place) (n : Node) (step : Step) → step ≡ step_of walk place n → step_reads place.oid step ≡ place.oid ∷ []
enter_reads walk place n step e =
    ap (step_reads place.oid) e
    ∙ reads_by walk place n (rule_broken place walk.survey n) (λ rule. rule_reads (may_stand place.level n) (suit_kind walk.survey.kind (keys_in n)) (are_within place.low place.high (keys_in n)) (suits_depth walk.survey.depth place.level n) rule place.oid)

pub enter_logs : (walk : Walk) (place : Place) (n : Node) (step : Step) (log log' : List Call) → step ≡ step_of walk place n → log' ≡ log ++ Read place.oid ∷ [] → log' ≡ log ++ reads (step_reads place.oid step)
enter_logs walk place n step log log' e g = g ∙ ap (λ oids. log ++ reads oids) (sym (enter_reads walk place n step e))

-- ---- the whole walk

pub rest_next : (objects : ℕ → Held) (survey : Tour) (todo rest : List Place) (place : Place) → todo ≡ place ∷ rest → entering objects (record { survey = survey; todo = rest }) place ≡ rest_of objects (record { survey = survey; todo = todo })
rest_next objects survey todo rest place e = ap (λ places. rest_of objects (record { survey = survey; todo = places })) (sym e)

pub rest_end : (objects : ℕ → Held) (walk : Walk) → walk.todo ≡ [] → rest_of objects walk ≡ Ok walk.survey
rest_end objects walk e = ap (λ places. in_turn (visiting objects) places walk.survey) e

pub start_gives : (objects : ℕ → Held) (walk : Walk) (root : ℕ) → walk.survey ≡ fresh_tour → walk.todo ≡ [] → entering objects walk (root_place root) ≡ walk_of objects root
start_gives objects walk root s t =
    ap (λ tour. and_then (visiting objects (root_place root) tour) (in_turn (visiting objects) walk.todo)) s
    ∙ ap (λ places. and_then (walk_of objects root) (in_turn (visiting objects) places)) t
    ∙ and_then_none (visiting objects) (walk_of objects root)

-- ---- what was read

reads-append : (xs ys : List ℕ) → reads (xs ++ ys) ≡ reads xs ++ reads ys
reads-append [] ys = refl
reads-append (x ∷ xs) ys = ap (λ zs. Read x ∷ zs) (reads-append xs ys)

pub since_same : (oids : List ℕ) (log log' : List Call) → log' ≡ log → ReadSince oids oids log log'
since_same oids log log' e = record { oids = []; are = sym (append-nil oids); grown = e ∙ sym (append-nil log) }

pub since_more : (a b c more : List ℕ) (log log' log'' : List Call) → ReadSince a b log log' → c ≡ b ++ more → log'' ≡ log' ++ reads more → ReadSince a c log log''
since_more a b c more log log' log'' s e g = record {
  oids = s.oids ++ more;
  are = e ∙ ap (λ xs. xs ++ more) s.are ∙ append_assoc a s.oids more;
  grown = g ∙ ap (λ l. l ++ reads more) s.grown ∙ append_assoc log (reads s.oids) (reads more) ∙ ap (λ l. log ++ l) (sym (reads-append s.oids more));
}

pub since_start : (a : List ℕ) (log log' : List Call) → ReadSince [] a log log' → log' ≡ log ++ reads a
since_start a log log' s = s.grown ∙ ap (λ xs. log ++ reads xs) (sym s.are)

-- ---- a step that goes on

pub next_longer : (objects : ℕ → Held) (visits : List (ℕ × Pointer)) (oid : ℕ) (step : Step) (next : Walk) → step ≡ On next → GoesOn objects visits oid step → IsLonger objects visits next.survey.visits oid
next_longer objects visits oid step next e g = subst (GoesOn objects visits oid) e g

pub next_gives : (objects : ℕ → Held) (walk : Walk) (step : Step) (next : Walk) (r : Result Tour Stop) → step ≡ On next → comes_to objects walk step ≡ r → rest_of objects next ≡ r
next_gives objects walk step next r e g = ap (comes_to objects walk) (sym e) ∙ g

pub next_reads : (oid : ℕ) (step : Step) (next : Walk) (log log' : List Call) → step ≡ On next → log' ≡ log ++ reads (step_reads oid step) → log' ≡ log ++ reads (oid ∷ [])
next_reads oid step next log log' e g = g ∙ ap (λ s. log ++ reads (step_reads oid s)) e

-- ---- a step that stops

pub stop_gives : (objects : ℕ → Held) (walk : Walk) (step : Step) (oid : ℕ) (rule : Rule) (r : Result Tour Stop) → step ≡ Stopped oid rule → comes_to objects walk step ≡ r → r ≡ Err (record { visits = walk.survey.visits; oid = oid; rule = rule })
stop_gives objects walk step oid rule r e g = sym g ∙ ap (comes_to objects walk) e

pub stop_reads : (oid other : ℕ) (step : Step) (rule : Rule) (log log' : List Call) → step ≡ Stopped other rule → log' ≡ log ++ reads (step_reads oid step) → log' ≡ log ++ reads (last_read rule other)
stop_reads oid other step rule log log' e g = g ∙ ap (λ s. log ++ reads (step_reads oid s)) e

-- A check under way, of objects that its caller reads.
use Rattle.std.proofs.Common.{◌≡◌, ℕ, ◌+◌, ◌-◌, ◌<◌, ◌^◌, true, false, List, [], ◌∷◌, ◌++◌, length, Option, Some, None, Result, refl, arith, sym, ◌∙◌, ap, ap₂, subst}
use Rattle.std.specs.Option.{option_copied, option_map}
use Rattle.pickle_graph.specs.Graph.{Graph}
use Rattle.btree_family.specs.Classes.{Class, class_seen}
use Rattle.btree_shapes.specs.declared.node.Node.{Node}
use Rattle.btree_shapes.specs.Nodes.{Held, Nothing, Foreign, Holds, class_held, held_in, objects_of}
use Rattle.btree_checking.specs.declared.checking.Checking.{Checking}
use Rattle.btree_checking.specs.declared.checking.Progress.{Progress}
use Rattle.btree_checking.specs.declared.checking.Progress.TheVariants.{Ended}
use Rattle.btree_checking.specs.declared.place.Place.{Place}
use Rattle.btree_checking.specs.declared.verdict.Rule.{Rule}
use Rattle.btree_checking.specs.declared.verdict.Rule.TheVariants.{NodeMissing, Shared, NotATree}
use Rattle.btree_checking.specs.declared.verdict.Verdict.{Verdict}
use Rattle.btree_checking.specs.declared.verdict.Verdict.TheVariants.{Broken}
use Rattle.btree_checking.specs.declared.walk.Walk.{Walk}
use Rattle.btree_checking.specs.declared.walk.Step.{Step}
use Rattle.btree_checking.specs.declared.walk.Step.TheVariants.{On, Stopped}
use Rattle.btree_checking.specs.Fed.{IsCheckOf, IsProgressOf, class_after}
use Rattle.btree_checking.specs.Rules.{Tour, was_visited, rule_broken, with_visit, pointer_of}
use Rattle.btree_checking.specs.Steps.{AreHeld, IsLonger, StepIsSmall, comes_to, entering, rest_of, step_by, step_of}
use Rattle.btree_checking.specs.Verdicts.{linked_verdict, verdict_after, verdict_of, wrong_link}
use Rattle.btree_checking.specs.Walks.{Stop, fresh_tour, root_place, walk_of}
use Rattle.btree_checking.proofs.Going.{enter_gives, enter_on, foreign_gives, missing_gives, next_gives, next_longer, rest_end, rest_next, shared_gives, start_gives, stop_gives}
use Rattle.btree_checking.proofs.Shaped.{length-append}

-- ---- what the object that is wanted is to the tree

pub class_here : (contents : ℕ → Option (List ℕ)) (root : ℕ) (check : Checking) (content : Option (List ℕ)) (class : Option Class) → IsCheckOf contents root check → contents check.place.oid ≡ content
    → class ≡ class_after (option_map class_seen (option_copied check.row)) content → class_held (contents root) ≡ class
class_here contents root check content class is at found = is.class ∙ ap (class_after (option_map class_seen (option_copied check.row))) at ∙ sym found

pub held_here : (contents : ℕ → Option (List ℕ)) (root : ℕ) (check : Checking) (content : Option (List ℕ)) (class : Option Class) → IsCheckOf contents root check → contents check.place.oid ≡ content
    → class ≡ class_after (option_map class_seen (option_copied check.row)) content → objects_of contents root check.place.oid ≡ held_in class content
held_here contents root check content class is at found = ap₂ held_in (class_here contents root check content class is at found) at

-- ---- it ends at that object

pub missing_says : (contents : ℕ → Option (List ℕ)) (root : ℕ) (check : Checking) → IsCheckOf contents root check → check.place.level < 2 ^ 64 → objects_of contents root check.place.oid ≡ Nothing
    → Broken check.place.oid NodeMissing ≡ verdict_of (objects_of contents root) root
missing_says contents root check is level held = ap verdict_after (missing_gives (objects_of contents root) check.walk check.place level held ∙ is.comes)

pub foreign_says : (contents : ℕ → Option (List ℕ)) (root : ℕ) (check : Checking) → IsCheckOf contents root check → check.place.level < 2 ^ 64 → was_visited check.walk.survey.visits check.place.oid ≡ false
    → objects_of contents root check.place.oid ≡ Foreign → Broken check.place.oid NotATree ≡ verdict_of (objects_of contents root) root
foreign_says contents root check is level new held = ap verdict_after (foreign_gives (objects_of contents root) check.walk check.place level new held ∙ is.comes)

-- the root has no class of a tree
pub classless_says : (contents : ℕ → Option (List ℕ)) (root : ℕ) (check : Checking) (content : Option (List ℕ)) (class : Option Class) (result : Progress) → IsCheckOf contents root check → contents check.place.oid ≡ content
    → class ≡ class_after (option_map class_seen (option_copied check.row)) content → class ≡ None → check.place.level < 2 ^ 64 → was_visited check.walk.survey.visits check.place.oid ≡ false
    → (content ≡ None → result ≡ Ended (Broken check.place.oid NodeMissing)) → ((bytes : List ℕ) → content ≡ Some bytes → result ≡ Ended (Broken check.place.oid NotATree)) → IsProgressOf contents root result
classless_says contents root check None class result is at found none level new missing foreign =
    subst (IsProgressOf contents root) (sym (missing refl)) (missing_says contents root check is level (held_here contents root check None class is at found))
classless_says contents root check (Some bytes) class result is at found none level new missing foreign =
    subst (IsProgressOf contents root) (sym (foreign bytes refl))
    (foreign_says contents root check is level new (held_here contents root check (Some bytes) class is at found ∙ ap (λ k. held_in k (Some bytes)) none))

-- ---- it goes on

pub start_comes : (contents : ℕ → Option (List ℕ)) (root : ℕ) (walk : Walk) (place : Place) → place ≡ root_place root → walk.survey ≡ fresh_tour → walk.todo ≡ []
    → entering (objects_of contents root) walk place ≡ walk_of (objects_of contents root) root
start_comes contents root walk place at survey todo = ap (entering (objects_of contents root) walk) at ∙ start_gives (objects_of contents root) walk root survey todo

pub start_held : (objects : ℕ → Held) (walk : Walk) → walk.survey ≡ fresh_tour → AreHeld objects walk.survey.visits
start_held objects walk survey = λ oid was none. let bad : was_visited [] oid ≡ true = ap (λ tour. was_visited tour.visits oid) (sym survey) ∙ was in cc

pub end_says : (objects : ℕ → Held) (root : ℕ) (walk : Walk) → walk.todo ≡ [] → rest_of objects walk ≡ walk_of objects root → linked_verdict walk.survey (wrong_link walk.survey.visits) ≡ verdict_of objects root
end_says objects root walk todo comes = sym (ap verdict_after (rest_end objects walk todo)) ∙ ap verdict_after comes

pub shared_says : (objects : ℕ → Held) (root : ℕ) (survey : Tour) (todo rest : List Place) (place : Place) → todo ≡ place ∷ rest → place.level < 2 ^ 64 → was_visited survey.visits place.oid ≡ true → AreHeld objects survey.visits
    → rest_of objects (record { survey = survey; todo = todo }) ≡ walk_of objects root → Broken place.oid Shared ≡ verdict_of objects root
shared_says objects root survey todo rest place e level was held comes =
    let walk : Walk = record { survey = survey; todo = rest } in
    ap verdict_after (shared_gives objects walk place level was held ∙ rest_next objects survey todo rest place e ∙ comes)

pub next_comes : (objects : ℕ → Held) (root : ℕ) (survey : Tour) (todo rest : List Place) (place : Place) → todo ≡ place ∷ rest → rest_of objects (record { survey = survey; todo = todo }) ≡ walk_of objects root
    → entering objects (record { survey = survey; todo = rest }) place ≡ walk_of objects root
next_comes objects root survey todo rest place e comes = rest_next objects survey todo rest place e ∙ comes

-- ---- an object is visited

-- where the walk goes on
pub record Visited (objects : ℕ → Held) (root : ℕ) (next : Walk) : Type 0 where
  pub held : AreHeld objects next.survey.visits
  pub comes : rest_of objects next ≡ walk_of objects root

pub visit_goes : (objects : ℕ → Held) (root : ℕ) (walk next : Walk) (place : Place) (class : Graph) (n : Node) (step : Step) → place.level < 2 ^ 64 → was_visited walk.survey.visits place.oid ≡ false → AreHeld objects walk.survey.visits
    → objects place.oid ≡ Holds class n → entering objects walk place ≡ walk_of objects root → step ≡ step_of walk place n → StepIsSmall step → step ≡ On next → Visited objects root next
visit_goes objects root walk next place class n step level new all held comes is small on = record {
  held = (next_longer objects walk.survey.visits place.oid step next on (enter_on objects walk place class n step all held small is)).held;
  comes = next_gives objects walk step next (walk_of objects root) on (enter_gives objects walk place class n step level new held is ∙ comes);
}

pub visit_says : (objects : ℕ → Held) (root : ℕ) (walk : Walk) (place : Place) (class : Graph) (n : Node) (step : Step) (oid : ℕ) (rule : Rule) → place.level < 2 ^ 64 → was_visited walk.survey.visits place.oid ≡ false
    → objects place.oid ≡ Holds class n → entering objects walk place ≡ walk_of objects root → step ≡ step_of walk place n → step ≡ Stopped oid rule → Broken oid rule ≡ verdict_of objects root
visit_says objects root walk place class n step oid rule level new held comes is stopped =
    sym (ap verdict_after (stop_gives objects walk step oid rule (walk_of objects root) stopped (enter_gives objects walk place class n step level new held is ∙ comes)))

-- it has met one object more
on_count : (walk next : Walk) (place : Place) (n : Node) (r : Option Rule) → step_by walk place n r ≡ On next → length next.survey.visits ≡ length walk.survey.visits + 1
on_count walk next place n (Some rule) e = absurd cc
on_count walk next place n None e =
    let same : with_visit place walk.survey n ≡ next.survey = cc in
    ap (λ (t : Tour). length t.visits) (sym same) ∙ length-append walk.survey.visits ((place.oid, pointer_of n) ∷ [])

pub visit_room : (walk next : Walk) (place : Place) (n : Node) (step : Step) → step ≡ step_of walk place n → StepIsSmall step → step ≡ On next → 2 ^ 63 - length next.survey.visits < 2 ^ 63 - length walk.survey.visits
visit_room walk next place n step is small on =
    let count : length next.survey.visits ≡ length walk.survey.visits + 1 = on_count walk next place n (rule_broken place walk.survey n) (sym is ∙ on) in
    let less : length next.survey.visits < 2 ^ 63 = subst StepIsSmall on small in
    omega (arith, count, less)

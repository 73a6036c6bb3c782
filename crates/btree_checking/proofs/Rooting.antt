-- A walk from its root on.
use Rattle.std.proofs.Common.{◌≡◌, ℕ, true, false, List, [], ◌∷◌, ◌++◌, Option, Result, Ok, Err, refl, arith, sym, ◌∙◌, ap, subst, append_assoc}
use Rattle.std.specs.Prelude.{IfOk}
use Rattle.pickle_graph.specs.Graph.{Graph}
use Rattle.btree_shapes.specs.declared.error.TreeError.{TreeError}
use Rattle.btree_shapes.specs.declared.error.TreeError.TheVariants as tree
use Rattle.btree_shapes.specs.Spaces.{IsLogged, out_of_memory}
use Rattle.btree_shapes.specs.declared.node.Node.{Node}
use Rattle.btree_shapes.specs.declared.space.Call.{Call}
use Rattle.btree_shapes.specs.declared.space.Call.TheVariants.{Read}
use Rattle.btree_shapes.specs.Nodes.{Held, Nothing, Foreign, Holds, objects_of}
use Rattle.btree_shapes.specs.Ways.{reads}
use Rattle.btree_checking.specs.declared.place.Place.{Place}
use Rattle.btree_checking.specs.declared.verdict.Rule.{Rule}
use Rattle.btree_checking.specs.declared.verdict.Rule.TheVariants.{NodeMissing, NotATree}
use Rattle.btree_checking.specs.declared.verdict.Verdict.{Verdict}
use Rattle.btree_checking.specs.declared.walk.Walk.{Walk}
use Rattle.btree_checking.specs.declared.walk.Step.{Step}
use Rattle.btree_checking.specs.declared.walk.Step.TheVariants.{On, Stopped}
use Rattle.btree_checking.specs.Rules.{Tour, was_visited}
use Rattle.btree_checking.specs.Walks.{Stop, root_place, fresh_tour, walk_of, oids_in, last_read, read_by}
use Rattle.btree_checking.specs.Steps.{rest_of, comes_to, step_of, step_reads, AreHeld, StepIsSmall, ReadSince}
use Rattle.btree_checking.specs.Verdicts.{verdict_after}
use Rattle.btree_checking.proofs.Going.{missing_gives, foreign_gives, enter_gives, enter_on, enter_reads, start_gives, next_longer, next_gives, stop_gives}

abbrev pub fresh : Walk
fresh = record { survey = fresh_tour; todo = [] }

pub missing_root : (objects : ℕ → Held) (root : ℕ) → objects root ≡ Nothing → walk_of objects root ≡ Err (record { visits = []; oid = root; rule = NodeMissing })
missing_root objects root h = sym (missing_gives objects fresh (root_place root) (omega arith) h ∙ start_gives objects fresh root refl refl)

pub foreign_root : (objects : ℕ → Held) (root : ℕ) → objects root ≡ Foreign → walk_of objects root ≡ Err (record { visits = []; oid = root; rule = NotATree })
foreign_root objects root h = sym (foreign_gives objects fresh (root_place root) (omega arith) refl h ∙ start_gives objects fresh root refl refl)

-- a root that was read and visited, from a walk at its start
pub record Rooted (objects : ℕ → Held) (root : ℕ) (start : Walk) (step : Step) : Type 0 where
  pub class : Graph
  pub node : Node
  pub held : objects root ≡ Holds class node
  pub survey : start.survey ≡ fresh_tour
  pub todo : start.todo ≡ []
  pub stepped : step ≡ step_of start (root_place root) node
  pub small : StepIsSmall step

pub rooted : (objects : ℕ → Held) (root : ℕ) (start : Walk) (step : Step) (place : Place) (class : Graph) (node : Node) → objects root ≡ Holds class node → start.survey ≡ fresh_tour → start.todo ≡ [] → place ≡ root_place root → step ≡ step_of start place node → StepIsSmall step → Rooted objects root start step
rooted objects root start step place class node h s t p e l =
    record { class = class; node = node; held = h; survey = s; todo = t; stepped = e ∙ ap (λ q. step_of start q node) p; small = l }

root_new : (start : Walk) (root : ℕ) → start.survey ≡ fresh_tour → was_visited start.survey.visits root ≡ false
root_new start root s = ap (λ tour. was_visited tour.visits root) s

pub root_gives : (objects : ℕ → Held) (root : ℕ) (start : Walk) (step : Step) → Rooted objects root start step → comes_to objects start step ≡ walk_of objects root
root_gives objects root start step r =
    enter_gives objects start (root_place root) r.class r.node step (omega arith) (root_new start root r.survey) r.held r.stepped ∙ start_gives objects start root r.survey r.todo

none_held : (objects : ℕ → Held) (start : Walk) → start.survey ≡ fresh_tour → AreHeld objects start.survey.visits
none_held objects start s = λ oid w none. let bad : was_visited [] oid ≡ true = ap (λ tour. was_visited tour.visits oid) (sym s) ∙ w in cc

pub root_oids : (objects : ℕ → Held) (root : ℕ) (start next : Walk) (step : Step) → Rooted objects root start step → step ≡ On next → (oids_in next.survey.visits ≡ root ∷ []) × AreHeld objects next.survey.visits
root_oids objects root start next step r e =
    let on = enter_on objects start (root_place root) r.class r.node step (none_held objects start r.survey) r.held r.small r.stepped in
    let longer = next_longer objects start.survey.visits root step next e on in
    (longer.oids ∙ ap (λ tour. oids_in tour.visits ++ root ∷ []) r.survey, longer.held)

pub root_next : (objects : ℕ → Held) (root : ℕ) (start next : Walk) (step : Step) → Rooted objects root start step → step ≡ On next → rest_of objects next ≡ walk_of objects root
root_next objects root start next step r e = next_gives objects start step next (walk_of objects root) e (root_gives objects root start step r)

pub root_stops : (objects : ℕ → Held) (root oid : ℕ) (rule : Rule) (start : Walk) (step : Step) → Rooted objects root start step → step ≡ Stopped oid rule → walk_of objects root ≡ Err (record { visits = start.survey.visits; oid = oid; rule = rule })
root_stops objects root oid rule start step r e = stop_gives objects start step oid rule (walk_of objects root) e (root_gives objects root start step r)

pub root_stop_read : (objects : ℕ → Held) (root oid : ℕ) (rule : Rule) (start : Walk) (step : Step) → Rooted objects root start step → step ≡ Stopped oid rule → read_by (walk_of objects root) ≡ root ∷ []
root_stop_read objects root oid rule start step r e =
    ap read_by (root_stops objects root oid rule start step r e) ∙ ap (λ tour. oids_in tour.visits ++ last_read rule oid) r.survey
    ∙ ap (step_reads root) (sym e) ∙ enter_reads start (root_place root) r.node step r.stepped

pub verdict_same : {E : Type 0} (result : Result Verdict E) (a b : Result Tour Stop) → a ≡ b → IfOk result (λ verdict. verdict ≡ verdict_after a) → IfOk result (λ verdict. verdict ≡ verdict_after b)
verdict_same result a b e i = subst (λ r. IfOk result (λ verdict. verdict ≡ verdict_after r)) e i

read_on : (first : List ℕ) (a b : Result Tour Stop) (root : ℕ) (log mid log' : List Call) → a ≡ b → first ≡ root ∷ [] → mid ≡ log ++ Read root ∷ [] → ReadSince first (read_by a) mid log' → log' ≡ log ++ reads (read_by b)
read_on first a b root log mid log' e f m s =
    s.grown ∙ ap (λ l. l ++ reads s.oids) m ∙ append_assoc log (Read root ∷ []) (reads s.oids)
    ∙ ap (λ oids. log ++ reads oids) (sym (ap (λ oids. oids ++ s.oids) f) ∙ sym s.are ∙ ap read_by e)

pub read_same : {E : Type 0} (told : Type 0) (result : Result Verdict E) (first : List ℕ) (a b : Result Tour Stop) (root : ℕ) (log mid log' : List Call) → a ≡ b → first ≡ root ∷ [] → (told → mid ≡ log ++ Read root ∷ []) → IfOk result (λ verdict. told → ReadSince first (read_by a) mid log') → IfOk result (λ verdict. told → log' ≡ log ++ reads (read_by b))
read_same told (Ok verdict) first a b root log mid log' e f m i = λ t. read_on first a b root log mid log' e f (m t) (i t)
read_same told (Err error) first a b root log mid log' e f m i = tt

-- what a walk comes to after its root, in the contents and for the root that the call has
pub rest_same : (contents contents' : ℕ → Option (List ℕ)) (root root' : ℕ) (start next : Walk) (step : Step) → contents' ≡ contents → root' ≡ root → Rooted (objects_of contents root) root start step → step ≡ On next → rest_of (objects_of contents' root') next ≡ walk_of (objects_of contents root) root
rest_same contents contents' root root' start next step c e r o =
    ap (λ cs. rest_of (objects_of cs root') next) c ∙ ap (λ n. rest_of (objects_of contents n) next) e ∙ root_next (objects_of contents root) root start next step r o

pub logged_missing : (e : TreeError) (oid root : ℕ) (log log' : List Call) → e ≡ tree.NodeMissing oid → IsLogged root (out_of_memory {X = Unit {0}} (Err e)) log log' → log' ≡ log ++ Read root ∷ []
logged_missing e oid root log log' is l = subst (λ f. IsLogged root (out_of_memory {X = Unit {0}} (Err f)) log log') is l

pub logged_foreign : (e : TreeError) (oid root : ℕ) (log log' : List Call) → e ≡ tree.NotATree oid → IsLogged root (out_of_memory {X = Unit {0}} (Err e)) log log' → log' ≡ log ++ Read root ∷ []
logged_foreign e oid root log log' is l = subst (λ f. IsLogged root (out_of_memory {X = Unit {0}} (Err f)) log log') is l

-- A walk reads no object twice.
use Rattle.std.proofs.Common.{◌≡◌, ℕ, ◌^◌, zero, suc, Bool, true, false, List, [], ◌∷◌, ◌++◌, Option, Some, None, Result, Ok, Err, ◌⊎◌, inl, inr, refl, arith, sym, subst, append-nil}
use Rattle.std.specs.Prelude.{nat_eq, ◌||◌, if◌then◌else◌}
use Rattle.std.proofs.lemmas.Grind.{common_steps}
use Rattle.pickle_graph.specs.Graph.{Graph}
use Rattle.btree_shapes.specs.declared.node.Node.{Node}
use Rattle.btree_shapes.specs.Nodes.{Held, Nothing, Foreign, Holds}
use Rattle.btree_shapes.specs.Ways.{stands_in}
use Rattle.btree_checking.specs.declared.links.Pointer.{Pointer}
use Rattle.btree_checking.specs.declared.place.Place.{Place}
use Rattle.btree_checking.specs.declared.verdict.Rule.{Rule}
use Rattle.btree_checking.specs.declared.verdict.Rule.TheVariants.{NodeMissing, Shared, NotATree, Keys, Bounds, Depth, Links}
use Rattle.btree_checking.specs.Rules.{Tour, was_visited, rule_broken, with_visit, pointer_of, places_below}
use Rattle.btree_checking.specs.Walks.{Stop, stopped, and_then, in_turn, visit_node, visit_held, visit, root_place, fresh_tour, walk_of, oids_in, last_read, read_by}
use Rattle.btree_checking.specs.Steps.{AreHeld}
use Rattle.btree_checking.specs.Laws.{AreDistinct, EachIsReadOnce}
use Rattle.btree_checking.proofs.Steps.{visit_zero, visit_suc}
use Rattle.btree_checking.proofs.Going.{held_more, oids-append}

by_test : (b : Bool) → (b ≡ true) ⊎ (b ≡ false)
by_test true = inl refl
by_test false = inr refl

or_fails : (a b : Bool) → (a || b) ≡ false → (a ≡ false) × (b ≡ false)
or_fails true b e = absurd cc
or_fails false b e = (refl, e)

none_of : (a b : Bool) → a ≡ false → b ≡ false → (a || b) ≡ false
none_of a b p q = rw (p, q) refl

other_way : (a b : ℕ) → nat_eq a b ≡ false → nat_eq b a ≡ false
other_way a b e = grind (arith, common_steps)

apart_push : (xs : List ℕ) (x y : ℕ) → stands_in xs y ≡ false → nat_eq x y ≡ false → stands_in (xs ++ x ∷ []) y ≡ false
apart_push [] x y s n = none_of _ _ n refl
apart_push (z ∷ zs) x y s n = let r = or_fails (nat_eq z y) (stands_in zs y) s in none_of _ _ r.0 (apart_push zs x y r.1 n)

distinct_push : (xs : List ℕ) (x : ℕ) → AreDistinct xs → stands_in xs x ≡ false → AreDistinct (xs ++ x ∷ [])
distinct_push [] x d s = (refl, tt)
distinct_push (y ∷ ys) x d s = let r = or_fails (nat_eq y x) (stands_in ys x) s in (apart_push ys x y d.0 (other_way y x r.0), distinct_push ys x d.1 r.1)

not_among : (visits : List (ℕ × Pointer)) (oid : ℕ) → was_visited visits oid ≡ false → stands_in (oids_in visits) oid ≡ false
not_among [] oid e = refl
not_among (v ∷ vs) oid e = let r = or_fails (nat_eq oid v.0) (was_visited vs oid) e in none_of _ _ (other_way oid v.0 r.0) (not_among vs oid r.1)

-- no object was visited twice, and each has a content
record Once (objects : ℕ → Held) (tour : Tour) : Type 0 where
  pub distinct : AreDistinct (oids_in tour.visits)
  pub held : AreHeld objects tour.visits

abbrev IsFine : (ℕ → Held) → Result Tour Stop → Type 0
IsFine objects (Ok tour) = Once objects tour
IsFine objects (Err stop) = AreDistinct (read_by (Err stop))

same_read : (oids : List ℕ) → AreDistinct oids → AreDistinct (oids ++ [])
same_read oids d = subst AreDistinct (sym (append-nil oids)) d

fine_stop : (visits : List (ℕ × Pointer)) (oid : ℕ) (rule : Rule) → AreDistinct (oids_in visits) → was_visited visits oid ≡ false → AreDistinct (oids_in visits ++ last_read rule oid)
fine_stop visits oid Shared d s = same_read (oids_in visits) d
fine_stop visits oid Links d s = same_read (oids_in visits) d
fine_stop visits oid NodeMissing d s = distinct_push (oids_in visits) oid d (not_among visits oid s)
fine_stop visits oid NotATree d s = distinct_push (oids_in visits) oid d (not_among visits oid s)
fine_stop visits oid Keys d s = distinct_push (oids_in visits) oid d (not_among visits oid s)
fine_stop visits oid Bounds d s = distinct_push (oids_in visits) oid d (not_among visits oid s)
fine_stop visits oid Depth d s = distinct_push (oids_in visits) oid d (not_among visits oid s)

module _ (objects : ℕ → Held) where
  fine_then : (r : Result Tour Stop) (next : Tour → Result Tour Stop) → IsFine objects r → ((tour : Tour) → Once objects tour → IsFine objects (next tour)) → IsFine objects (and_then r next)
  fine_then (Ok tour) next f n = n tour f
  fine_then (Err stop) next f n = f

  fine_turn : (each : Place → Tour → Result Tour Stop) → ((place : Place) (tour : Tour) → Once objects tour → IsFine objects (each place tour)) → (places : List Place) (tour : Tour) → Once objects tour → IsFine objects (in_turn each places tour)
  fine_turn each f [] tour o = o
  fine_turn each f (p ∷ ps) tour o = fine_then (each p tour) (in_turn each ps) (f p tour o) (λ t u. fine_turn each f ps t u)

  fine_node : (below : Place → Tour → Result Tour Stop) → ((place : Place) (tour : Tour) → Once objects tour → IsFine objects (below place tour)) → (place : Place) (tour : Tour) (class : Graph) (n : Node) (r : Option Rule) → objects place.oid ≡ Holds class n → was_visited tour.visits place.oid ≡ false → Once objects tour → IsFine objects (visit_node below place tour n r)
  fine_node below f place tour class n (Some rule) h s o = fine_stop tour.visits place.oid rule o.distinct s
  fine_node below f place tour class n None h s o = fine_turn below f (places_below place n) (with_visit place tour n) (record {
    distinct = subst AreDistinct (sym (oids-append tour.visits ((place.oid, pointer_of n) ∷ []))) (distinct_push (oids_in tour.visits) place.oid o.distinct (not_among tour.visits place.oid s));
    held = held_more objects tour.visits place.oid (pointer_of n) class n o.held h;
  })

  fine_if : (b : Bool) (place : Place) (tour : Tour) (r : Result Tour Stop) → Once objects tour → (b ≡ false → IsFine objects r) → IsFine objects (if b then stopped place tour Shared else r)
  fine_if true place tour r o f = same_read (oids_in tour.visits) o.distinct
  fine_if false place tour r o f = f refl

  fine_held : (below : Place → Tour → Result Tour Stop) → ((place : Place) (tour : Tour) → Once objects tour → IsFine objects (below place tour)) → (place : Place) (tour : Tour) (held : Held) → objects place.oid ≡ held → Once objects tour → IsFine objects (visit_held below place tour held)
  fine_held below f place tour Nothing h o = elim (by_test (was_visited tour.visits place.oid)) [
    | inl was ↦ absurd (o.held place.oid was h)
    | inr not ↦ fine_stop tour.visits place.oid NodeMissing o.distinct not
  ]
  fine_held below f place tour Foreign h o =
      fine_if (was_visited tour.visits place.oid) place tour (stopped place tour NotATree) o (λ s. fine_stop tour.visits place.oid NotATree o.distinct s)
  fine_held below f place tour (Holds class n) h o =
      fine_if (was_visited tour.visits place.oid) place tour (visit_node below place tour n (rule_broken place tour n)) o (λ s. fine_node below f place tour class n (rule_broken place tour n) h s o)

  fine_visit : (room : ℕ) (place : Place) (tour : Tour) → Once objects tour → IsFine objects (visit objects room place tour)
  fine_visit zero place tour o = subst (IsFine objects) (sym (visit_zero objects place tour)) (same_read (oids_in tour.visits) o.distinct)
  fine_visit (suc room) place tour o =
      subst (IsFine objects) (sym (visit_suc objects room place tour)) (fine_held (visit objects room) (fine_visit room) place tour (objects place.oid) refl o)

fine_reads : (objects : ℕ → Held) (r : Result Tour Stop) → IsFine objects r → AreDistinct (read_by r)
fine_reads objects (Ok tour) f = f.distinct
fine_reads objects (Err stop) f = f

pub read_once : EachIsReadOnce
read_once objects root =
    let fresh : Once objects fresh_tour = record { distinct = tt; held = λ oid w none. cc } in
    fine_reads objects (walk_of objects root) (fine_visit objects (2 ^ 64) (root_place root) fresh_tour fresh)

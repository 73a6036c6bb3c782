-- What a list goes on to answer where it grows by transactions above t. For the proofs of those who follow a pack.
use Rattle.std.proofs.Common.{◌≡◌, ℕ, ◌+◌, ◌<◌, ⊎_elim, true, false, ltb, List, [], ◌∷◌, ◌++◌, append-nil, append_assoc, filter, Option, None, refl, ap, ◌∙◌, arith}
use Rattle.std.specs.Prelude.{IfSome}
use Rattle.std.specs.List.{AllByRecursion, flat_map, last_or}
use Rattle.std.specs.Option.{option_map_or}
use Rattle.std.proofs.lemmas.Bool.{cases_Bool, le-ltb}
use Rattle.std.proofs.lemmas.List.Elements.{filter-append, filter_map-append}
use Rattle.zb_model.specs.declared.data.Change.{Change}
use Rattle.zb_model.specs.declared.data.Transaction.{Transaction}
use Rattle.zb_model.specs.Database.{ObjectRevision, is_below, revision_below, revision_in, revisions}
use Rattle.zb_model.specs.Queries.{is_above, oids_of}
use Rattle.pack_reach.specs.Marking.{HasGrown, MarkerState, MayMark}
use Rattle.pack_reach.specs.Reach.{IsReached, is_in, references_in, references_of}
use Rattle.pack_reach.specs.MemberLaws.{each_of_all, in_back, in_either, in_front}
use Rattle.pack_reach.specs.ReachLaws.{revision_has, revisions_have}

-- ---- what is after t stays after t

pub more_after : (f : Transaction → List ℕ) (t n : ℕ) (front later : List Transaction) → is_in n (flat_map f (filter (is_above t) front)) ≡ true → is_in n (flat_map f (filter (is_above t) (front ++ later))) ≡ true
more_after f t n [] later i = absurd (cc)
more_after f t n (x ∷ front) later i =
    ⊎_elim (λ (a : ltb t x.tid ≡ true).
    let both : is_in n (f x ++ flat_map f (filter (is_above t) front)) ≡ true = rw a at i in
    rw a (⊎_elim (λ (j : is_in n (f x) ≡ true). in_front n (f x) (flat_map f (filter (is_above t) (front ++ later))) j)
    (λ (j : is_in n (flat_map f (filter (is_above t) front)) ≡ true). in_back n (f x) (flat_map f (filter (is_above t) (front ++ later))) (more_after f t n front later j))
    (in_either n (f x) (flat_map f (filter (is_above t) front)) both)))
    (λ (a : ltb t x.tid ≡ false).
    let rest : is_in n (flat_map f (filter (is_above t) front)) ≡ true = rw a at i in
    rw a (more_after f t n front later rest))
    (cases_Bool (ltb t x.tid))

-- ---- revisions up to t stay

none_below : (t : ℕ) (rs : List ObjectRevision) → AllByRecursion (λ r. t < r.serial) rs → filter (is_below (t + 1)) rs ≡ []
none_below t [] all = refl
none_below t (r ∷ rs) all =
    let out : ltb r.serial (t + 1) ≡ false = le-ltb r.serial (t + 1) (omega (arith, all.0)) in
    rw out (none_below t rs all.1)

later_serials : (t oid : ℕ) (later : List Transaction) → AllByRecursion (λ (x : Transaction). t < x.tid) later → AllByRecursion (λ (x : Transaction). IfSome (revision_in oid x) (λ r. t < r.serial)) later
later_serials t oid [] all = tt
later_serials t oid (x ∷ later) all = (revision_has (λ (r : ObjectRevision). t < r.serial) oid x (each_of_all (λ (c : Change). t < x.tid) (λ c. all.0) x.changes), later_serials t oid later all.1)

pub up_to_stays : (t oid : ℕ) (front later : List Transaction) → AllByRecursion (λ (x : Transaction). t < x.tid) later → revision_below oid (t + 1) (front ++ later) ≡ revision_below oid (t + 1) front
up_to_stays t oid front later all =
    let none : filter (is_below (t + 1)) (revisions oid later) ≡ [] = none_below t (revisions oid later) (revisions_have (λ (r : ObjectRevision). t < r.serial) oid later (later_serials t oid later all)) in
    ap (λ (rs : List ObjectRevision). last_or None (filter (is_below (t + 1)) rs)) (filter_map-append (revision_in oid) front later)
    ∙ ap (last_or None) (filter-append (is_below (t + 1)) (revisions oid front) (revisions oid later) ∙ ap (λ (rs : List ObjectRevision). filter (is_below (t + 1)) (revisions oid front) ++ rs) none ∙ append-nil (filter (is_below (t + 1)) (revisions oid front)))

pub grown_up_to : (t oid : ℕ) (front later list : List Transaction) → HasGrown t front later list → revision_below oid (t + 1) list ≡ revision_below oid (t + 1) front
grown_up_to t oid front later list g = ap (λ (l : List Transaction). revision_below oid (t + 1) l) g.split ∙ up_to_stays t oid front later g.above

-- ---- what was reached is reached

pub reached_more : (named : List ℕ → Option (List ℕ)) (t : ℕ) (front later : List Transaction) → AllByRecursion (λ (x : Transaction). t < x.tid) later → (oid : ℕ) → IsReached named t front oid → IsReached named t (front ++ later) oid
reached_more named t front later all oid IsReached.root = IsReached.root
reached_more named t front later all oid (IsReached.changed o i) = IsReached.changed o (more_after oids_of t o front later i)
reached_more named t front later all oid (IsReached.written o i) = IsReached.written o (more_after (references_in named) t o front later i)
reached_more named t front later all oid (IsReached.followed from o r i) =
    IsReached.followed from o (reached_more named t front later all from r) (ap (λ (s : Option ObjectRevision). is_in o (option_map_or (λ (r : ObjectRevision). references_of named r.content) s [])) (up_to_stays t from front later all) ∙ i)

-- ---- marks may go on

pub all_append : {X : Type 0} (P : X → Type 0) (xs ys : List X) → AllByRecursion P xs → AllByRecursion P ys → AllByRecursion P (xs ++ ys)
all_append P [] ys a b = b
all_append P (x ∷ xs) ys a b = (a.0, all_append P xs ys a.1 b)

pub grown_then : (t : ℕ) (front later list more whole : List Transaction) → HasGrown t front later list → HasGrown t list more whole → HasGrown t front (later ++ more) whole
grown_then t front later list more whole f g = record {
  split = g.split ∙ ap (λ (l : List Transaction). l ++ more) f.split ∙ append_assoc front later more;
  above = all_append (λ (x : Transaction). t < x.tid) later more f.above g.above;
}

-- over a list that has grown
pub may_mark_grown : (named : List ℕ → Option (List ℕ)) (list later grown : List Transaction) (m : MarkerState) → HasGrown m.tid list later grown → MayMark named list m → MayMark named grown m
may_mark_grown named list later grown m g may =
    let both = grown_then m.tid may.front may.later list later grown (record { split = may.split; above = may.above }) g in
    record { front = may.front; later = may.later ++ later; split = both.split; above = both.above; marks = may.marks }

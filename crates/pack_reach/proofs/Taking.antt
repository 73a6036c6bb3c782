-- All objects of a list are taken.
use Rattle.std.proofs.Common.{◌≡◌, ℕ, ◌<◌, ◌≤◌, Bool, true, false, ◌||◌, eqb, List, [], ◌∷◌, ◌++◌, append-nil, append_assoc, map, Some, None, refl, sym, ap, subst, ◌∙◌, arith}
use Rattle.std.specs.List.{flat_map}
use Rattle.std.specs.Cmp.{nat_cmp_total}
use Rattle.std.specs.Ordering.{nat_cmp}
use Rattle.std.specs.FinSet.{FinSet, contains, contains-empty, contains-from_list_nat, empty, from_list, nat_cmp-IsAntisymmetric, same_set}
use Rattle.std.proofs.lemmas.Bool.{eqb-true, eq-eqb}
use Rattle.zb_base.specs.Lists.{each_more}
use Rattle.zb_model.specs.SetLaws.{in_inserted}
use Rattle.zb_model.specs.declared.data.Change.{Change}
use Rattle.zb_model.specs.declared.data.Transaction.{Transaction}
use Rattle.zb_model.specs.Database.{IsDatabase, newest_tid}
use Rattle.zb_model.specs.Queries.{first_after, oids_of}
use Rattle.zb_model.specs.SerialLaws.{RisesTo, database_rises}
use Rattle.pack_reach.specs.Reach.{is_in}
use Rattle.pack_reach.specs.MemberLaws.{in_append, or_assoc, same_bools}
use Rattle.pack_reach.specs.Uncollected.{AreTaken, with_change, with_changes}
use Rattle.pack_reach.proofs.Seeing.{first_of, next_behind, rises_of, up_to_more}

-- ---- what is in a set once the objects of changes are put in

eqb_swap : (a b : ℕ) → eqb a b ≡ eqb b a
eqb_swap a b = same_bools (eqb a b) (eqb b a) (λ e. eq-eqb b a (sym (eqb-true a b e))) (λ e. eq-eqb a b (sym (eqb-true b a e)))

or_swap : (a b c : Bool) → (b || (a || c)) ≡ ((a || b) || c)
or_swap true true c = refl
or_swap true false c = refl
or_swap false true c = refl
or_swap false false c = refl

in_changes : (changes : List Change) (s : FinSet nat_cmp) (oid : ℕ) → contains (with_changes s changes) oid ≡ (is_in oid (map (λ (c : Change). c.oid) changes) || contains s oid)
in_changes [] s oid = refl
in_changes (c ∷ changes) s oid =
    in_changes changes (with_change s c) oid ∙ ap (λ (b : Bool). is_in oid (map (λ (c : Change). c.oid) changes) || b) (in_inserted s c.oid oid ∙ ap (λ (b : Bool). b || contains s oid) (eqb_swap oid c.oid))
    ∙ or_swap (eqb c.oid oid) (is_in oid (map (λ (c : Change). c.oid) changes)) (contains s oid)

or_nothing : (a b : Bool) → (a || (b || false)) ≡ (a || b)
or_nothing a true = refl
or_nothing a false = refl

in_pushed : (n : ℕ) (front : List Transaction) (x : Transaction) → is_in n (flat_map oids_of (front ++ x ∷ [])) ≡ (is_in n (flat_map oids_of front) || is_in n (oids_of x))
in_pushed n [] x = in_append n (oids_of x) [] ∙ nothing (is_in n (oids_of x))
  where
    nothing : (b : Bool) → (b || false) ≡ b
    nothing true = refl
    nothing false = refl
in_pushed n (y ∷ front) x =
    in_append n (oids_of y) (flat_map oids_of (front ++ x ∷ [])) ∙ ap (λ (b : Bool). is_in n (oids_of y) || b) (in_pushed n front x) ∙ sym (or_assoc (is_in n (oids_of y)) (is_in n (flat_map oids_of front)) (is_in n (oids_of x)))
    ∙ ap (λ (b : Bool). b || is_in n (oids_of x)) (sym (in_append n (oids_of y) (flat_map oids_of front)))

or_turn : (a b : Bool) → (a || b) ≡ (b || a)
or_turn true true = refl
or_turn true false = refl
or_turn false true = refl
or_turn false false = refl

-- ---- transaction by transaction

pub taken_first : (list : List Transaction) (s : FinSet nat_cmp) → IsDatabase list → s ≡ empty → AreTaken list 0 s
taken_first list s is e = record { front = []; rest = list; split = refl; before = tt; behind = database_rises list is; set = λ oid. ap (λ (r : FinSet nat_cmp). contains r oid) e ∙ contains-empty nat_cmp oid }

taken_next : (list : List Transaction) (seen : ℕ) (s : FinSet nat_cmp) → (k : AreTaken list seen s) → first_after seen list ≡ first_of k.rest
taken_next list seen s k = ap (first_after seen) k.split ∙ next_behind seen k.front k.rest k.before (rises_of seen (newest_tid list) k.rest k.behind)

pub taken_more : (list : List Transaction) (seen : ℕ) (s r : FinSet nat_cmp) (x : Transaction) → AreTaken list seen s → first_after seen list ≡ Some x → r ≡ with_changes s x.changes → (seen < x.tid) × AreTaken list x.tid r
taken_more list seen s r x k e more = by_rest k.rest refl
  where
    by_rest : (rest : List Transaction) → k.rest ≡ rest → (seen < x.tid) × AreTaken list x.tid r
    by_rest [] q =
        let none : None ≡ Some x = sym (taken_next list seen s k ∙ ap first_of q) ∙ e in
        absurd (cc)
    by_rest (y ∷ rest) q =
        let some : Some y ≡ Some x = sym (taken_next list seen s k ∙ ap first_of q) ∙ e in
        let is : y ≡ x = cc in
        let here : k.rest ≡ x ∷ rest = q ∙ ap (λ (z : Transaction). z ∷ rest) is in
        let behind : RisesTo seen (newest_tid list) (x ∷ rest) = subst (RisesTo seen (newest_tid list)) here k.behind in (
          behind.0,
          record {
            front = k.front ++ x ∷ [];
            rest = rest;
            split = k.split ∙ ap (λ (l : List Transaction). k.front ++ l) here ∙ sym (append_assoc k.front (x ∷ []) rest);
            before = each_more (λ (z : Transaction). z.tid ≤ x.tid) k.front x (up_to_more seen x.tid k.front (omega (arith, behind.0)) k.before) (omega arith);
            behind = behind.1;
            set = λ oid. ap (λ (t : FinSet nat_cmp). contains t oid) more ∙ in_changes x.changes s oid ∙ ap (λ (b : Bool). is_in oid (oids_of x) || b) (k.set oid) ∙ or_turn (is_in oid (oids_of x)) (is_in oid (flat_map oids_of k.front)) ∙ sym (in_pushed oid k.front x);
          },
        )

-- where none is left, all are taken
pub taken_all : (list : List Transaction) (seen : ℕ) (s : FinSet nat_cmp) → AreTaken list seen s → first_after seen list ≡ None → s ≡ from_list (flat_map oids_of list)
taken_all list seen s k none = by_rest k.rest refl
  where
    by_rest : (rest : List Transaction) → k.rest ≡ rest → s ≡ from_list (flat_map oids_of list)
    by_rest (x ∷ rest) q =
        let some : Some x ≡ None = sym (taken_next list seen s k ∙ ap first_of q) ∙ none in
        absurd (cc)
    by_rest [] q =
        let whole : k.front ≡ list = sym (k.split ∙ ap (λ (l : List Transaction). k.front ++ l) q ∙ append-nil k.front) in
        same_set nat_cmp_total nat_cmp-IsAntisymmetric s (from_list (flat_map oids_of list))
        (λ oid. k.set oid ∙ ap (λ (l : List Transaction). is_in oid (flat_map oids_of l)) whole ∙ sym (contains-from_list_nat (flat_map oids_of list) oid))

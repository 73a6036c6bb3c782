-- What calls read is on their way.
use Rattle.std.proofs.Common.{◌≡◌, ℕ, suc, Bool, true, false, List, [], ◌∷◌, ◌++◌, map, Option, Some, Err, refl, sym, ap, subst, ◌∙◌, inl, inr}
use Rattle.std.specs.Prelude.{◌||◌, nat_eq}
use Rattle.std.proofs.lemmas.Bool.{eq-eqb}
use Rattle.btree_family.specs.declared.key.Key.{Key}
use Rattle.btree_family.specs.Classes.{Class}
use Rattle.btree_shapes.specs.declared.space.Call.{Call}
use Rattle.btree_shapes.specs.declared.space.Call.TheVariants.{Read, Drew, Wrote}
use Rattle.btree_shapes.specs.declared.error.TreeError.{TreeError}
use Rattle.btree_shapes.specs.declared.error.TreeError.TheVariants as error
use Rattle.btree_shapes.specs.Met.{ReadsFirst, met_for}
use Rattle.btree_shapes.specs.Ways.{reads, stands_in}
use Rattle.btree_putting.specs.declared.puts.Put.{Put}
use Rattle.btree_putting.specs.Puts.{put_oid}
use Rattle.btree_putting.specs.Storing.{wrote}
use Rattle.btree_setting.specs.Ends.{Sets}
use Rattle.btree_setting.specs.Sets.{DrewBelow, IsBrokenOff, Writes, drew_news}
use Rattle.btree_setting.specs.Tasks as setting
use Rattle.btree_removing.specs.Ends.{Breaks, Removes}
use Rattle.btree_removing.specs.Plans as removing
use Rattle.btree_maps.specs.Visits.{items_met, range_met}
use Rattle.tree_attempts.specs.declared.operation.TreeOperation.{TreeOperation}
use Rattle.tree_attempts.specs.declared.operation.TreeOperation.TheVariants as operation
use Rattle.tree_attempts.specs.Calls.{IsAmong, IsLacked, ReadsOnWay, reads_in, sizes}

-- ---- lists

among_front : (front rest : List ℕ) (oid : ℕ) → IsAmong front oid → IsAmong (front ++ rest) oid
among_front [] rest oid is = absurd cc
among_front (n ∷ front) rest oid is = by_first (nat_eq n oid) is (among_front front rest oid)
  where
    by_first : (b : Bool) → (b || stands_in front oid) ≡ true → (IsAmong front oid → IsAmong (front ++ rest) oid) → (b || stands_in (front ++ rest) oid) ≡ true
    by_first true is more = refl
    by_first false is more = more is

among_rest : (front rest : List ℕ) (oid : ℕ) → IsAmong rest oid → IsAmong (front ++ rest) oid
among_rest [] rest oid is = is
among_rest (n ∷ front) rest oid is = by_first (nat_eq n oid) (among_rest front rest oid is)
  where
    by_first : (b : Bool) → IsAmong (front ++ rest) oid → (b || stands_in (front ++ rest) oid) ≡ true
    by_first true more = refl
    by_first false more = more

among_self : (oid : ℕ) (rest : List ℕ) → IsAmong (oid ∷ rest) oid
among_self oid rest = ap (λ (b : Bool). b || stands_in rest oid) (eq-eqb oid oid refl)

-- ---- logs

reads_both : (a b : List Call) → reads_in (a ++ b) ≡ reads_in a ++ reads_in b
reads_both [] b = refl
reads_both (Read oid ∷ a) b = ap (λ (os : List ℕ). oid ∷ os) (reads_both a b)
reads_both (Drew oid ∷ a) b = reads_both a b
reads_both (Wrote oid ∷ a) b = reads_both a b

reads_of_reads : (oids : List ℕ) → reads_in (reads oids) ≡ oids
reads_of_reads [] = refl
reads_of_reads (oid ∷ oids) = ap (λ (os : List ℕ). oid ∷ os) (reads_of_reads oids)

reads_of_draws : (oids : List ℕ) → reads_in (map Drew oids) ≡ []
reads_of_draws [] = refl
reads_of_draws (oid ∷ oids) = reads_of_draws oids

reads_of_puts : (puts : List Put) → reads_in (map wrote puts) ≡ []
reads_of_puts [] = refl
reads_of_puts (p ∷ puts) = reads_of_puts puts

nil_behind : (os : List ℕ) → os ++ [] ≡ os
nil_behind [] = refl
nil_behind (o ∷ os) = ap (λ (ps : List ℕ). o ∷ ps) (nil_behind os)

-- what reads nothing leaves what was read
reads_kept : (a b c : List Call) → c ≡ a ++ b → reads_in b ≡ [] → reads_in c ≡ reads_in a
reads_kept a b c is none = ap reads_in is ∙ reads_both a b ∙ ap (λ (os : List ℕ). reads_in a ++ os) none ∙ nil_behind (reads_in a)

-- the first of these were read
first_among : (oids : List ℕ) (calls : List Call) (oid : ℕ) → ReadsFirst oids [] calls → IsAmong (reads_in calls) oid → IsAmong oids oid
first_among oids calls oid first is =
    subst (λ (os : List ℕ). IsAmong os oid) (sym first.split) (among_front first.front first.rest oid (subst (λ (os : List ℕ). IsAmong os oid) (ap reads_in first.grown ∙ reads_of_reads first.front) is))

-- one more read
pub read_lacked : (calls calls' : List Call) (oid : ℕ) → calls' ≡ calls ++ Read oid ∷ [] → IsLacked calls' (Some oid)
read_lacked calls calls' oid is other same =
    subst (λ (n : ℕ). IsAmong (reads_in calls') n) (same_oid oid other same)
    (subst (λ (os : List ℕ). IsAmong os oid) (sym (ap reads_in is ∙ reads_both calls (Read oid ∷ []))) (among_rest (reads_in calls) (oid ∷ []) oid (among_self oid [])))
  where
    same_oid : (a b : ℕ) → Some a ≡ Some b → a ≡ b
    same_oid a b e = cc

-- what was lacked stays so
pub lacked_more : (calls more calls' : List Call) (lacked : Option ℕ) → calls' ≡ calls ++ more → IsLacked calls lacked → IsLacked calls' lacked
lacked_more calls more calls' lacked is was oid there =
    subst (λ (os : List ℕ). IsAmong os oid) (sym (ap reads_in is ∙ reads_both calls more)) (among_front (reads_in calls) (reads_in more) oid (was oid there))

-- ---- what calls read

pub none_read : (contents : ℕ → Option (List ℕ)) (calls : List Call) (root : ℕ) (op : TreeOperation) → calls ≡ [] → ReadsOnWay contents calls root op
none_read contents calls root op none oid is = absurd (nothing oid (subst (λ (cs : List Call). IsAmong (reads_in cs) oid) none is))
  where
    nothing : (oid : ℕ) → IsAmong [] oid → ⊥
    nothing oid is = absurd cc

pub get_reads : (contents : ℕ → Option (List ℕ)) (calls : List Call) (root : ℕ) (key : Key) → ReadsFirst (met_for contents root key) [] calls → ReadsOnWay contents calls root (operation.Get key)
get_reads contents calls root key first oid is = first_among (met_for contents root key) calls oid first is

pub items_read : (contents : ℕ → Option (List ℕ)) (calls : List Call) (root : ℕ) → ReadsFirst (items_met contents root) [] calls → ReadsOnWay contents calls root operation.Items
items_read contents calls root first oid is = first_among (items_met contents root) calls oid first is

pub range_reads : (contents : ℕ → Option (List ℕ)) (calls : List Call) (root : ℕ) (from to : Key) → ReadsFirst (range_met contents root from to) [] calls → ReadsOnWay contents calls root (operation.Range from to)
range_reads contents calls root from to first oid is = first_among (range_met contents root from to) calls oid first is

-- drawing and putting reads nothing
broken_reads : (class leaf : Class) (key : Key) (task : _) (before after : ℕ → Option (List ℕ)) (middle calls : List Call) → IsBrokenOff (Unit {0}) class leaf sizes key task before after middle calls → reads_in calls ≡ reads_in middle
broken_reads class leaf key task before after middle calls broken =
    reads_kept broken.middle (map wrote broken.stored.front) calls (broken.stored.stored.log tt) (reads_of_puts broken.stored.front)
    ∙ reads_kept middle (drew_news broken.plan.plan.change) broken.middle (broken.plan.plan.drawn tt) (reads_of_draws (map put_oid broken.plan.plan.change.news))

drawn_below : (limit : ℕ) (middle calls : List Call) → DrewBelow limit middle calls → reads_in calls ≡ reads_in middle
drawn_below limit middle calls drew = reads_kept middle (map Drew drew.oids) calls drew.grown (reads_of_draws drew.oids)

-- where a call ends so for the space, or for want of memory
abbrev pub IsFreeEnd : TreeError → Type 0
IsFreeEnd (error.Refused why) = Unit {0}
IsFreeEnd error.Memory = Unit {0}
IsFreeEnd _ = ⊥

writes_read : (class leaf : Class) (key : Key) (task : _) (before after : ℕ → Option (List ℕ)) (middle calls : List Call) (e : TreeError) → IsFreeEnd e → Writes (Unit {0}) class leaf sizes key task before after middle calls (Err e) → reads_in calls ≡ reads_in middle
writes_read class leaf key task before after middle calls (error.Refused why) free (inl undrawn) = drawn_below undrawn.count middle calls (undrawn.log tt)
writes_read class leaf key task before after middle calls (error.Refused why) free (inr broken) = broken_reads class leaf key task before after middle calls broken
writes_read class leaf key task before after middle calls error.Memory free (inl untried) = ap reads_in (untried.log tt)
writes_read class leaf key task before after middle calls error.Memory free (inr (inl undrawn)) = drawn_below (suc undrawn.count) middle calls (undrawn.log tt)
writes_read class leaf key task before after middle calls error.Memory free (inr (inr broken)) = broken_reads class leaf key task before after middle calls broken
writes_read class leaf key task before after middle calls (error.NotATree oid) free w = absurd free
writes_read class leaf key task before after middle calls (error.NodeMissing oid) free w = absurd free
writes_read class leaf key task before after middle calls error.BadKey free w = absurd free

pub set_reads : (before after : ℕ → Option (List ℕ)) (calls : List Call) (root : ℕ) (key : Key) (value : Option (List ℕ)) (e : TreeError) → IsFreeEnd e → Sets (Unit {0}) before after [] calls root sizes key value (Err e) → ReadsOnWay before calls root (operation.Set key value)
set_reads before after calls root key value e free (inl x) = λ oid is. inl (first_among (setting.met_under before root sizes key value) calls oid (x.log tt) is)
set_reads before after calls root key value e free (inr x) = λ oid is.
    inr (subst (λ (os : List ℕ). IsAmong os oid) (writes_read x.class x.leaf key x.task before after x.middle calls e free x.writes ∙ ap reads_in (x.reads tt)) is)

breaks_read : (class leaf : Class) (puts : List Put) (before after : ℕ → Option (List ℕ)) (middle calls : List Call) (e : TreeError) → IsFreeEnd e → Breaks (Unit {0}) class leaf puts before after middle calls e → reads_in calls ≡ reads_in middle
breaks_read class leaf puts before after middle calls (error.Refused why) free broken = reads_kept middle (map wrote broken.stored.front) calls (broken.stored.stored.log tt) (reads_of_puts broken.stored.front)
breaks_read class leaf puts before after middle calls error.Memory free (inl untried) = ap reads_in (untried.log tt)
breaks_read class leaf puts before after middle calls error.Memory free (inr broken) = reads_kept middle (map wrote broken.stored.front) calls (broken.stored.stored.log tt) (reads_of_puts broken.stored.front)
breaks_read class leaf puts before after middle calls (error.NotATree oid) free b = absurd free
breaks_read class leaf puts before after middle calls (error.NodeMissing oid) free b = absurd free
breaks_read class leaf puts before after middle calls error.BadKey free b = absurd free

pub remove_reads : (before after : ℕ → Option (List ℕ)) (calls : List Call) (root : ℕ) (key : Key) (e : TreeError) → IsFreeEnd e → Removes (Unit {0}) before after [] calls root key (Err e) → ReadsOnWay before calls root (operation.Remove key)
remove_reads before after calls root key e free (inl x) = λ oid is. inl (first_among (removing.met_under before root key) calls oid (x.log tt) is)
remove_reads before after calls root key e free (inr x) = λ oid is.
    inr (subst (λ (os : List ℕ). IsAmong os oid) (breaks_read x.class x.leaf x.puts before after x.middle calls e free x.breaks ∙ ap reads_in (x.plan.reads tt)) is)

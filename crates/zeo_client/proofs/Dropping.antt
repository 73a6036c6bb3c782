-- Entries that are dropped one after another.
use Rattle.std.proofs.Common.{◌≡◌, ℕ, ◌+◌, ◌<◌, Bool, true, false, cond, List, [], ◌∷◌, take, length, get_or, Option, Some, None, refl, sym, ap, subst, ◌∙◌, ⊎_elim}
use Rattle.std.specs.Prelude.{◌||◌, ◌==◌, ◌≢◌}
use Rattle.std.specs.List.{list_any}
use Rattle.std.proofs.lemmas.Bool.{cases_Bool, eqb-true, eqb-false}
use Rattle.std.proofs.lemmas.List.Folds.{list_any_more}
use Rattle.connection_view.specs.Views.{is_one_of}
use Rattle.zeo_cache.specs.declared.interval.Interval.{Interval}
use Rattle.zeo_cache.specs.Intervals.{HoldsAllBut, Intervals, interval_of}
use Rattle.zeo_client.specs.Renewing.{HoldsUnless}

-- nothing is dropped
pub none_dropped : (entries : Intervals) → HoldsUnless (λ oid. is_one_of [] oid) entries entries
none_dropped entries = record { each = λ oid. refl }

one_dropped : (oid this : ℕ) (some : Bool) (o first : Option Interval) → ((oid ≡ this) → o ≡ None) → (oid ≢ this → o ≡ cond some None first) → o ≡ cond (some || (oid == this)) None first
one_dropped oid this some o first gone kept =
    ⊎_elim (λ (t : (oid == this) ≡ true). gone (eqb-true oid this t) ∙ rw t (both some first))
    (λ (t : (oid == this) ≡ false). kept (eqb-false oid this t) ∙ rw t (left some first))
    (cases_Bool (oid == this))
  where
    both : (b : Bool) (f : Option Interval) → None ≡ cond (b || true) None f
    both true f = refl
    both false f = refl

    left : (b : Bool) (f : Option Interval) → cond b None f ≡ cond (b || false) None f
    left true f = refl
    left false f = refl

-- one more object's entry is dropped
pub one_more_dropped : (oids : List ℕ) (i d : ℕ) (first old new : Intervals) → i < length oids → HoldsUnless (λ oid. is_one_of (take i oids) oid) first old → HoldsAllBut old (get_or oids i d) new
    → HoldsUnless (λ oid. is_one_of (take (i + 1) oids) oid) first new
one_more_dropped oids i d first old new lt before now = record {
  each = λ oid.
      one_dropped oid (get_or oids i d) (is_one_of (take i oids) oid) (interval_of new oid) (interval_of first oid)
      (λ same. subst (λ (k : ℕ). interval_of new k ≡ None) (sym same) now.one)
      (λ other. now.others oid other ∙ before.each oid)
      ∙ ap (λ (b : Bool). cond b None (interval_of first oid)) (sym (list_any_more (λ o. oid == o) oids i d lt));
}

-- all are
pub all_dropped : (old new : Intervals) → new ≡ [] → HoldsUnless (λ oid. true) old new
all_dropped old new none = record { each = λ oid. ap (λ (entries : Intervals). interval_of entries oid) none }

unless_same : (p q : ℕ → Bool) (old new : Intervals) → ((oid : ℕ) → p oid ≡ q oid) → HoldsUnless p old new → HoldsUnless q old new
unless_same p q old new same holds = record { each = λ oid. holds.each oid ∙ ap (λ (b : Bool). cond b None (interval_of old oid)) (same oid) }

-- of what was asked for
pub asked_dropped : (all : Bool) (oids : List ℕ) (old new : Intervals) → all ≡ true → new ≡ [] → HoldsUnless (λ oid. all || is_one_of oids oid) old new
asked_dropped all oids old new is none = unless_same (λ oid. true) (λ oid. all || is_one_of oids oid) old new (λ oid. rw is refl) (all_dropped old new none)

pub named_dropped : (all : Bool) (oids : List ℕ) (old new : Intervals) → all ≡ false → HoldsUnless (λ oid. is_one_of oids oid) old new → HoldsUnless (λ oid. all || is_one_of oids oid) old new
named_dropped all oids old new is holds = unless_same (λ oid. is_one_of oids oid) (λ oid. all || is_one_of oids oid) old new (λ oid. rw is refl) holds

-- A pack goes on between other calls of a store: what holds of the store while it is packed, and that each call keeps it. Own.
use Rattle.std.proofs.Common.{◌≡◌, ℕ, ◌+◌, ◌<◌, ◌≤◌, Bool, false, cond, eqb, List, [], ◌∷◌, ◌++◌, Option, Some, None, Result, Ok, Err, OnOk, IfOk, filter, refl, sym, ap, subst, ◌∙◌, append_assoc, arith}
use Rattle.std.specs.Prelude.{◌&&◌, nat_le}
use Rattle.std.specs.List.{filter_map}
use Rattle.std.specs.Option.{ForSome, IsSome, option_map, option_map_or}
use Rattle.std.specs.Ordering.{nat_cmp}
use Rattle.std.specs.FinSet.{FinSet, contains}
use Rattle.std.proofs.lemmas.Bool.{lt-leb}
use Rattle.std.proofs.lemmas.Option.{same_Some}
use Rattle.std.proofs.lemmas.List.Elements.{filter_map-append}
use Rattle.zb_model.specs.declared.data.Change.{Change}
use Rattle.zb_model.specs.declared.data.Transaction.{Transaction}
use Rattle.zb_model.specs.declared.packs.Copied.{Copied}
use Rattle.zb_model.specs.declared.store_error.StoreError.{StoreError}
use Rattle.zb_model.specs.Database.{ObjectRevision}
use Rattle.zb_model.specs.Packing.{is_held, packed_by, packed_form, packed_one, serial_up_to, stays}
use Rattle.zb_model.specs.Packs.{IsCopyOf, IsCopyTurn, IsPrefixOf, new_pack}
use Rattle.zb_model.specs.TurnLaws.{copied_is_front}
use Rattle.zb_model.specs.Stores.{AbortKeepsRest, BegunPack, CopyKeepsRest, KeepsBegun, KeepsVoted, StoreState, UnlessFault, VoteKeepsRest, tid_of_begun}
use Rattle.zodb_core.specs.GrowthLaws.{revision_behind}

-- a pack is begun, and what is copied is a front of the list as it is packed where these objects are kept
pub record IsPacking (told : Type 0) (keep : FinSet nat_cmp) (s : StoreState) : Type 0 where
  pub whole : s.broken ≡ false
  pub begun : IsSome s.begun
  pub copy : told → ForSome s.begun (IsCopyOf keep s.list)

-- and it goes no further than the newest transaction
pub record IsPackingEarly (told : Type 0) (keep : FinSet nat_cmp) (s : StoreState) : Type 0 where
  pub packing : IsPacking told keep s
  pub up_to : told → ForSome s.begun (λ pack. pack.tid ≤ s.newest)

-- and a transaction is voted that is later than all
pub record IsHolding (told : Type 0) (keep : FinSet nat_cmp) (s : StoreState) : Type 0 where
  pub early : IsPackingEarly told keep s
  pub voted : IsSome s.voted
  pub later : told → ForSome s.voted (λ t. s.newest < t.tid)

-- nothing is copied of a pack that was just begun
pub new_copy : (keep : FinSet nat_cmp) (list : List Transaction) (begun : Option BegunPack) (t : ℕ) → begun ≡ Some (new_pack t) → ForSome begun (IsCopyOf keep list)
new_copy keep list begun t is x some =
    subst (IsCopyOf keep list) (same_Some (new_pack t) x (sym is ∙ some)) (packed_by t keep list, refl)

begun_some : (begun : Option BegunPack) (tid : ℕ) → option_map (λ (pack : BegunPack). pack.tid) begun ≡ Some tid → IsSome begun
begun_some None tid is = absurd cc
begun_some (Some pack) tid is = refl

-- a pack that was just begun
pub packing_begun : (told : Type 0) (keep : FinSet nat_cmp) (s : StoreState) (tid : ℕ) → s.broken ≡ false → tid_of_begun s ≡ Some tid → (told → s.begun ≡ Some (new_pack tid)) → IsPacking told keep s
packing_begun told keep s tid whole is begun = record {
  whole = whole;
  begun = begun_some s.begun tid is;
  copy = λ told. new_copy keep s.list s.begun tid (begun told);
}

begun_stays : (old new : Option BegunPack) → option_map (λ (pack : BegunPack). pack.tid) new ≡ option_map (λ (pack : BegunPack). pack.tid) old → IsSome old → IsSome new
begun_stays None new is some = absurd cc
begun_stays (Some pack) new is some = begun_some new pack.tid is

copied_more : (keep : FinSet nat_cmp) (list now : List Transaction) (old new : Option BegunPack) (copied : Copied) → IsSome old → now ≡ list
    → ForSome old (λ o. ForSome new (λ n. IsCopyTurn (packed_by o.tid keep list) o n copied)) → ForSome new (IsCopyOf keep now)
copied_more keep list now None new copied some same turn = absurd cc
copied_more keep list now (Some o) new copied some same turn = λ pack is.
    let t = turn o refl pack is in
    subst (λ (l : List Transaction). IsCopyOf keep l pack) (sym same) (subst (λ (n : ℕ). IsPrefixOf (packed_by n keep list) pack.copied) (sym t.tid) (copied_is_front (packed_by o.tid keep list) o pack copied t))

-- and one that a turn went on with
pub packing_turned : (told : Type 0) (keep : FinSet nat_cmp) (old new : StoreState) (copied : Copied) → IsPacking told keep old → new.broken ≡ false → tid_of_begun new ≡ tid_of_begun old → (told → new.list ≡ old.list)
    → (told → ForSome old.begun (λ o. ForSome new.begun (λ n. IsCopyTurn (packed_by o.tid keep old.list) o n copied))) → IsPacking told keep new
packing_turned told keep old new copied packing whole is list turn = record {
  whole = whole;
  begun = begun_stays old.begun new.begun is packing.begun;
  copy = λ told. copied_more keep old.list new.list old.begun new.begun copied packing.begun (list told) (turn told);
}

-- ---- what is voted

tid_stays : (old new : Option Transaction) → option_map (λ (x : Transaction). x.tid) new ≡ option_map (λ (x : Transaction). x.tid) old → IsSome old → IsSome new
tid_stays None new is some = absurd cc
tid_stays (Some x) None is some = absurd cc
tid_stays (Some x) (Some y) is some = refl

none_stays : (old new : Option Transaction) → option_map (λ (x : Transaction). x.tid) new ≡ option_map (λ (x : Transaction). x.tid) old → old ≡ None → new ≡ None
none_stays None None is none = refl
none_stays None (Some y) is none = absurd cc
none_stays (Some x) new is none = absurd cc

-- where nothing was voted nothing is
pub none_voted : (told : Type 0) (old new : StoreState) → KeepsVoted told old new → old.voted ≡ None → new.voted ≡ None
none_voted told old new keeps none = none_stays old.voted new.voted keeps.tid none

pub voted_then : (told : Type 0) (old mid new : StoreState) → KeepsVoted told old mid → KeepsVoted told mid new → KeepsVoted told old new
voted_then told old mid new first second = record { tid = second.tid ∙ first.tid; all = λ told. second.all told ∙ first.all told }

-- ---- a later transaction stays whole

serial_more : (t oid : ℕ) (list : List Transaction) (x : Transaction) → t < x.tid → serial_up_to t oid (list ++ x ∷ []) ≡ serial_up_to t oid list
serial_more t oid list x later = ap (λ (o : Option ObjectRevision). option_map_or (λ (r : ObjectRevision). r.serial) o 0) (revision_behind oid (t + 1) list (x ∷ []) (omega (arith, later), tt))

filter_same : (p q : Change → Bool) (cs : List Change) → ((c : Change) → p c ≡ q c) → filter p cs ≡ filter q cs
filter_same p q [] same = refl
filter_same p q (c ∷ cs) same = ap (λ (b : Bool). cond b (c ∷ filter p cs) (filter p cs)) (same c) ∙ ap (λ (xs : List Change). cond (q c) (c ∷ xs) xs) (filter_same p q cs same)

one_more : (t : ℕ) (keep : FinSet nat_cmp) (list : List Transaction) (x y : Transaction) → t < x.tid → packed_one t keep (list ++ x ∷ []) y ≡ packed_one t keep list y
one_more t keep list x y later =
    ap (λ (cs : List Change). cond (nat_le y.tid t) (packed_form y cs) (Some y))
    (filter_same (stays t keep (list ++ x ∷ []) y.tid) (stays t keep list y.tid) y.changes
    (λ c. ap (λ (n : ℕ). is_held c.content && contains keep c.oid && eqb n y.tid) (serial_more t c.oid list x later)))

abbrev put : Option Transaction → List Transaction → List Transaction
put None ys = ys
put (Some y) ys = y ∷ ys

put_is : (f : Transaction → Option Transaction) (y : Transaction) (ys : List Transaction) (o : Option Transaction) → f y ≡ o → filter_map f (y ∷ ys) ≡ put o (filter_map f ys)
put_is f y ys None is = rw is refl
put_is f y ys (Some z) is = rw is refl

map_same : (f g : Transaction → Option Transaction) (ys : List Transaction) → ((y : Transaction) → f y ≡ g y) → filter_map f ys ≡ filter_map g ys
map_same f g [] same = refl
map_same f g (y ∷ ys) same =
    put_is f y ys (f y) refl
    ∙ ap (λ (o : Option Transaction). put o (filter_map f ys)) (same y)
    ∙ ap (λ (zs : List Transaction). put (g y) zs) (map_same f g ys same)
    ∙ sym (put_is g y ys (g y) refl)

late_one : (t : ℕ) (keep : FinSet nat_cmp) (list : List Transaction) (x : Transaction) → t < x.tid → packed_one t keep list x ≡ Some x
late_one t keep list x later = rw (lt-leb x.tid t later) refl

pub packed_more : (t : ℕ) (keep : FinSet nat_cmp) (list : List Transaction) (x : Transaction) → t < x.tid → packed_by t keep (list ++ x ∷ []) ≡ packed_by t keep list ++ x ∷ []
packed_more t keep list x later =
    let f = packed_one t keep (list ++ x ∷ []) in
    filter_map-append f list (x ∷ [])
    ∙ ap (λ (ys : List Transaction). ys ++ filter_map f (x ∷ [])) (map_same f (packed_one t keep list) list (λ y. one_more t keep list x y later))
    ∙ ap (λ (ys : List Transaction). packed_by t keep list ++ ys) (put_is f x [] (Some x) (late_one t keep (list ++ x ∷ []) x later))

pub copy_more : (keep : FinSet nat_cmp) (list : List Transaction) (x : Transaction) (pack : BegunPack) → pack.tid < x.tid → IsCopyOf keep list pack → IsCopyOf keep (list ++ x ∷ []) pack
copy_more keep list x pack later copy =
    (copy.0 ++ x ∷ [], packed_more pack.tid keep list x later ∙ ap (λ (ys : List Transaction). ys ++ x ∷ []) copy.1 ∙ append_assoc pack.copied copy.0 (x ∷ []))

-- ---- a vote is held meanwhile

up_to_here : (begun : Option BegunPack) (tid newest : ℕ) → option_map (λ (pack : BegunPack). pack.tid) begun ≡ Some tid → tid ≤ newest → ForSome begun (λ pack. pack.tid ≤ newest)
up_to_here None tid newest is early = absurd cc
up_to_here (Some b) tid newest is early = λ pack same.
    let e : b.tid ≡ tid = cc in
    let f : b ≡ pack = cc in
    subst (λ (p : BegunPack). p.tid ≤ newest) f (omega (arith, e, early))

pub early_begun : (told : Type 0) (keep : FinSet nat_cmp) (s : StoreState) (tid : ℕ) → IsPacking told keep s → tid_of_begun s ≡ Some tid → tid ≤ s.newest → IsPackingEarly told keep s
early_begun told keep s tid packing is early = record { packing = packing; up_to = λ told. up_to_here s.begun tid s.newest is early }

packing_kept : (told : Type 0) (keep : FinSet nat_cmp) (old new : StoreState) → IsPacking told keep old → new.broken ≡ false → KeepsBegun told old new → (told → new.list ≡ old.list) → IsPacking told keep new
packing_kept told keep old new packing whole keeps list = record {
  whole = whole;
  begun = begun_stays old.begun new.begun keeps.tid packing.begun;
  copy = λ told. λ pack is. subst (λ (l : List Transaction). IsCopyOf keep l pack) (sym (list told)) (packing.copy told pack (sym (keeps.all told) ∙ is));
}

early_kept : (told : Type 0) (keep : FinSet nat_cmp) (old new : StoreState) → IsPackingEarly told keep old → new.broken ≡ false → KeepsBegun told old new → (told → new.list ≡ old.list) → new.newest ≡ old.newest → IsPackingEarly told keep new
early_kept told keep old new early whole keeps list newest = record {
  packing = packing_kept told keep old new early.packing whole keeps list;
  up_to = λ told. λ pack is. subst (λ (n : ℕ). pack.tid ≤ n) (sym newest) (early.up_to told pack (sym (keeps.all told) ∙ is));
}

-- behind a vote
pub holding_voted : (told : Type 0) (keep : FinSet nat_cmp) (old new : StoreState) (tid : ℕ) → IsPackingEarly told keep old → new.broken ≡ false → KeepsBegun told old new → (told → new.list ≡ old.list)
    → VoteKeepsRest old new → IsSome new.voted → ForSome new.voted (λ t. t.tid ≡ tid) → old.newest < tid → IsHolding told keep new
holding_voted told keep old new tid early whole keeps list rest some is later =
    let newest : new.newest ≡ old.newest = ap (λ (s : StoreState). s.newest) rest in
    record {
      early = early_kept told keep old new early whole keeps list newest;
      voted = some;
      later = λ told. λ t there. let e = is t there in omega (arith, newest, e, later);
    }

-- behind a turn
pub holding_turned : (told : Type 0) (keep : FinSet nat_cmp) (old new : StoreState) → IsHolding told keep old → IsPacking told keep new → tid_of_begun new ≡ tid_of_begun old → new.newest ≡ old.newest → KeepsVoted told old new → IsHolding told keep new
holding_turned told keep old new holding packing tid newest voted = record {
  early = record { packing = packing; up_to = λ told. up_to_turned old.begun new.begun tid (holding.early.up_to told) holding.early.packing.begun };
  voted = tid_stays old.voted new.voted voted.tid holding.voted;
  later = λ told. λ t is. subst (λ (n : ℕ). n < t.tid) (sym newest) (holding.later told t (sym (voted.all told) ∙ is));
}
  where
    up_to_turned : (a b : Option BegunPack) → option_map (λ (pack : BegunPack). pack.tid) b ≡ option_map (λ (pack : BegunPack). pack.tid) a → ForSome a (λ pack. pack.tid ≤ old.newest) → IsSome a → ForSome b (λ pack. pack.tid ≤ new.newest)
    up_to_turned None b same up_to some = absurd cc
    up_to_turned (Some p) b same up_to some = up_to_here b p.tid new.newest same (subst (λ (n : ℕ). p.tid ≤ n) (sym newest) (up_to p refl))

-- behind an abort
pub early_aborted : (told : Type 0) (keep : FinSet nat_cmp) (old new : StoreState) → IsHolding told keep old → new.broken ≡ false → KeepsBegun told old new → (told → new.list ≡ old.list) → AbortKeepsRest old new → IsPackingEarly told keep new
early_aborted told keep old new holding whole keeps list rest = early_kept told keep old new holding.early whole keeps list (ap (λ (s : StoreState). s.newest) rest)

-- and behind a finish
pub early_finished : (told : Type 0) (keep : FinSet nat_cmp) (old new : StoreState) → IsHolding told keep old → new.broken ≡ false → KeepsBegun told old new
    → (told → ForSome old.voted (λ t. new.list ≡ old.list ++ t ∷ [])) → ForSome old.voted (λ t. new.newest ≡ t.tid) → IsPackingEarly told keep new
early_finished told keep old new holding whole keeps list newest = by_vote old.voted refl holding.voted
  where
    by_vote : (voted : Option Transaction) → old.voted ≡ voted → IsSome voted → IsPackingEarly told keep new
    by_vote None is some = absurd cc
    by_vote (Some x) is some = record {
      packing = record {
        whole = whole;
        begun = begun_stays old.begun new.begun keeps.tid holding.early.packing.begun;
        copy = λ told. λ pack there.
            let was = sym (keeps.all told) ∙ there in
            let up_to = holding.early.up_to told pack was in
            let later = holding.later told x is in
            subst (λ (l : List Transaction). IsCopyOf keep l pack) (sym (list told x is)) (copy_more keep old.list x pack (omega (arith, up_to, later)) (holding.early.packing.copy told pack was));
      };
      up_to = λ told. λ pack there.
          let was = sym (keeps.all told) ∙ there in
          let up_to = holding.early.up_to told pack was in
          let later = holding.later told x is in
          omega (arith, up_to, later, newest x is);
    }

pub newest_copied : (old new : StoreState) → CopyKeepsRest old new → new.newest ≡ old.newest
newest_copied old new rest = ap (λ (s : StoreState). s.newest) rest

-- ---- by what a call answers

pub begun_by : {T : Type 0} (r : Result T StoreError) (told : Type 0) (keep : FinSet nat_cmp) (s : StoreState) (tid : ℕ) → UnlessFault r (s.broken ≡ false) → OnOk r (tid_of_begun s ≡ Some tid) → (told → OnOk r (s.begun ≡ Some (new_pack tid))) → OnOk r (IsPacking told keep s)
begun_by (Ok x) told keep s tid whole is begun = packing_begun told keep s tid whole is begun
begun_by (Err e) told keep s tid whole is begun = tt

pub turned_by : (r : Result Copied StoreError) (told : Type 0) (keep : FinSet nat_cmp) (old new : StoreState) → IsPacking told keep old → UnlessFault r (new.broken ≡ false) → OnOk r (tid_of_begun new ≡ tid_of_begun old) → (told → UnlessFault r (new.list ≡ old.list))
    → (told → IfOk r (λ copied. ForSome old.begun (λ o. ForSome new.begun (λ n. IsCopyTurn (packed_by o.tid keep old.list) o n copied)))) → OnOk r (IsPacking told keep new)
turned_by (Ok copied) told keep old new packing whole is list turn = packing_turned told keep old new copied packing whole is list turn
turned_by (Err e) told keep old new packing whole is list turn = tt

-- A feeder that goes on, and then goes on further, goes on. For the proofs of those who feed. Own.
use Rattle.std.proofs.Common.{◌≡◌, ℕ, zero, suc, ◌+◌, ◌≤◌, ◌<◌, List, [], ◌∷◌, ◌++◌, Option, Some, None, length, map, refl, ap, sym, ◌∙◌, subst, arith, append_assoc, append-nil, length-append}
use Rattle.std.proofs.lemmas.List.{map-append}
use Rattle.std.specs.Prelude.{◌^◌, IfSome}
use mathlib.Core.List.{IsPrefix}
use Rattle.hub_shared.specs.Calls.{history_limit}
use Rattle.zb_base.specs.Counts.{Rose, rose_after, rose_before}
use Rattle.zb_links.specs.Told.{Told}
use Rattle.zb_model.specs.declared.data.Transaction.{Transaction}
use Rattle.zeo_serving_links.specs.declared.ending.ServingEnd.{ServingEnd}
use Rattle.zeo_serving_links.specs.declared.ending.ServingEnd.TheVariants.{All, NoLink, NoWorkers, StepsSpent, Memory}
use Rattle.zeo_serving_links.specs.Feeding.{FeederSeen, GoesOn, GoesOnSo, HasSessions, IsStop}
use Rattle.zeo_serving_links.specs.Links.{AreOpened, AreServed, HasGiven, Opening, faulty_in, faulty_one, with_links}
use Rattle.zeo_session.specs.declared.ending.SessionEnd.{SessionEnd}
use Rattle.zodb_core.specs.History.{Entry}
use Rattle.zodb_core.specs.Machine.{Rules}
use Rattle.zodb_core.specs.Outcomes.{FaultCounts}

-- ---- beginnings of histories

pub begins_self : {A : Type 0} (xs : List A) → IsPrefix xs xs
begins_self xs = ([], append-nil xs)

pub begins_on : {A : Type 0} (xs ys zs : List A) → IsPrefix xs ys → IsPrefix ys zs → IsPrefix xs zs
begins_on xs ys zs p q = (p.0 ++ q.0, sym (append_assoc xs p.0 q.0) ∙ (ap (λ w. w ++ q.0) p.1 ∙ q.1))

pub begins_length : {A : Type 0} (xs ys : List A) → IsPrefix xs ys → length xs ≤ length ys
begins_length xs ys p = omega (arith, length-append xs p.0, ap length p.1)

-- ---- lists of openings

pub opened_both : (number : ℕ) (os more : List Opening) → AreOpened number os → AreOpened (number + length os) more → AreOpened number (os ++ more)
opened_both number [] more are then = subst (λ n. AreOpened n more) (omega arith) then
opened_both number (o ∷ os) more are then = (are.0, opened_both (suc number) os more are.1 (subst (λ n. AreOpened n more) (omega arith) then))

-- those that come first have the same numbers
pub opened_first : (number : ℕ) (os more : List Opening) → AreOpened number (os ++ more) → AreOpened number os
opened_first number [] more are = tt
opened_first number (o ∷ os) more are = (are.0, opened_first (suc number) os more are.1)

pub faulty_both : (ends more : List SessionEnd) → faulty_in (ends ++ more) ≡ faulty_in ends + faulty_in more
faulty_both [] more = omega arith
faulty_both (e ∷ ends) more = let again = faulty_both ends more in omega arith

module _ (told : Type 0) (rules : Rules) (list : List Transaction) (counts : FaultCounts) where
  -- links that were served within a history were served within a longer one
  pub served_on : (all longer : List Entry) (os : List Opening) (ends : List SessionEnd) → IsPrefix all longer → AreServed told rules list counts all os ends → AreServed told rules list counts longer os ends
  served_on all longer [] [] p are = tt
  served_on all longer [] (e ∷ ends) p are = absurd are
  served_on all longer (o ∷ os) [] p are = absurd are
  served_on all longer (o ∷ os) (e ∷ ends) p are =
      (record { pass = are.0.pass; begins = begins_on are.0.pass.seen all longer are.0.begins p; served = are.0.served }, served_on all longer os ends p are.1)

  pub served_both : (all : List Entry) (os more : List Opening) (ends others : List SessionEnd) → AreServed told rules list counts all os ends → AreServed told rules list counts all more others
      → AreServed told rules list counts all (os ++ more) (ends ++ others)
  served_both all [] more [] others are then = then
  served_both all [] more (e ∷ ends) others are then = absurd are
  served_both all (o ∷ os) more [] others are then = absurd are
  served_both all (o ∷ os) more (e ∷ ends) others are then = (are.0, served_both all os more ends others are.1 then)

-- ---- doors

given_told : (before now : Told) (c : Option Told) (os more : List Opening) → HasGiven (Some before) (Some now) os → HasGiven (Some now) c more → HasGiven (Some before) c (os ++ more)
given_told before now c os more one other =
    let first : now ≡ with_links one.0 before = cc in (
      one.0 ++ other.0,
      map-append (λ (o : Opening). o.unread) os more ∙ (ap (λ xs. xs ++ map (λ (o : Opening). o.unread) more) one.1 ∙ (ap (λ xs. map Some one.0 ++ xs) other.1 ∙ sym (map-append Some one.0 other.0))),
      other.2 ∙ (ap (λ t. Some (with_links other.0 t)) first ∙ ap (λ xs. Some (record before { given = xs })) (append_assoc before.given one.0 other.0)),
    )

pub given_both : (a b c : Option Told) (os more : List Opening) → HasGiven a b os → HasGiven b c more → HasGiven a c (os ++ more)
given_both None None c os more one other = other
given_both None (Some now) c os more one other = absurd cc
given_both (Some before) None c os more one other = absurd (let is = one.2 in cc)
given_both (Some before) (Some now) c os more one other = given_told before now c os more one other

pub given_none : (a b : Option Told) → b ≡ a → HasGiven a b []
given_none None b is = is
given_none (Some before) b is = ([], refl, is ∙ ap (λ xs. Some (record before { given = xs })) (sym (append-nil before.given)))

-- ---- why a feeder stops

-- whose reason is that of a later one
pub stop_kept : (count : ℕ) (f g h : FeederSeen) (end : ServingEnd) → g.opened ≤ h.opened → g.faults ≤ h.faults → IsPrefix g.seen h.seen → IsStop end count f g → IsStop end count f h
stop_kept count f g h All opened faults seen is = omega arith
stop_kept count f g h NoLink opened faults seen is = rose_before f.faults g.faults h.faults is faults
stop_kept count f g h NoWorkers opened faults seen is = absurd is
stop_kept count f g h StepsSpent opened faults seen is = let longer = begins_length g.seen h.seen seen in omega arith
stop_kept count f g h Memory opened faults seen is = tt

-- and that of an earlier one
pub stop_before : (count : ℕ) (f g h : FeederSeen) (end : ServingEnd) → f.faults ≤ g.faults → IsStop end count g h → IsStop end count f h
stop_before count f g h All faults is = is
stop_before count f g h NoLink faults is = rose_after f.faults g.faults h.faults faults is
stop_before count f g h NoWorkers faults is = absurd is
stop_before count f g h StepsSpent faults is = is
stop_before count f g h Memory faults is = tt

-- ---- laws

module _ (told : Type 0) (rules : Rules) (list : List Transaction) (counts : FaultCounts) (count : ℕ) where
  pub goes_nowhere : (f : FeederSeen) → GoesOn told rules list counts count f f
  goes_nowhere f = record {
    begins = begins_self f.seen;
    opened = [];
    done = [];
    ends = [];
    numbered = tt;
    more = omega arith;
    most = λ le. le;
    moved = append-nil f.waiting;
    served = tt;
    faulty = λ below. omega arith;
    links = λ has. given_none f.told f.told refl;
    faults = omega arith;
    stays = λ end is. is;
    cause = λ is. subst (λ o. IfSome o (λ end. IsStop end count f f)) (sym is) tt;
  }

  pub goes_on : (f g h : FeederSeen) → GoesOn told rules list counts count f g → GoesOn told rules list counts count g h → GoesOn told rules list counts count f h
  goes_on f g h one other = record {
    begins = begins_on f.seen g.seen h.seen one.begins other.begins;
    opened = one.opened ++ other.opened;
    done = one.done ++ other.done;
    ends = one.ends ++ other.ends;
    numbered = opened_both f.opened one.opened other.opened one.numbered (subst (λ n. AreOpened n other.opened) one.more other.numbered);
    more = omega (arith, one.more, other.more, length-append one.opened other.opened);
    most = λ le. other.most (one.most le);
    moved = sym (append_assoc f.waiting one.opened other.opened) ∙ (ap (λ xs. xs ++ other.opened) one.moved ∙ (append_assoc one.done g.waiting other.opened ∙ (ap (λ xs. one.done ++ xs) other.moved
        ∙ sym (append_assoc one.done other.done h.waiting))));
    served = served_both told rules list counts h.seen one.done other.done one.ends other.ends (served_on told rules list counts g.seen h.seen one.done one.ends other.begins one.served) other.served;
    faulty = λ below.
        let both = faulty_both one.ends other.ends in
        let first = one.faulty (omega arith) in
        let then = other.faulty (omega arith) in
        omega arith;
    links = λ has. given_both f.told g.told h.told one.opened other.opened (one.links (had g.stop refl has)) (other.links has);
    faults = omega (arith, one.faults, other.faults);
    stays = λ end is. other.stays end (one.stays end is);
    cause = λ is. why g.stop refl is;
  }
    where
      had : (stop : Option ServingEnd) → g.stop ≡ stop → HasSessions h.stop → HasSessions g.stop
      had None is has = subst HasSessions (sym is) tt
      had (Some end) is has = subst HasSessions (other.stays end is ∙ sym is) has

      earlier : (stop : Option ServingEnd) → IfSome stop (λ end. IsStop end count g h) → IfSome stop (λ end. IsStop end count f h)
      earlier None why = tt
      earlier (Some end) why = stop_before count f g h end one.faults why

      why : (stop : Option ServingEnd) → g.stop ≡ stop → f.stop ≡ None → IfSome h.stop (λ end. IsStop end count f h)
      why None is first = earlier h.stop (other.cause is)
      why (Some end) is first =
          let here = subst (λ o. IfSome o (λ e. IsStop e count f g)) is (one.cause first) in
          subst (λ o. IfSome o (λ e. IsStop e count f h)) (sym (other.stays end is))
          (stop_kept count f g h end (omega (arith, other.more)) other.faults other.begins here)

module _ (told : Type 0) (rules : Rules) (list : List Transaction) (counts : FaultCounts) where
  pub goes_nowhere_so : (count : ℕ) (f : FeederSeen) → GoesOnSo told rules list counts count count f f
  goes_nowhere_so count f = (refl, goes_nowhere told rules list counts count f)

  pub goes_on_so : (first second third : ℕ) (f g h : FeederSeen) → GoesOnSo told rules list counts first second f g → GoesOnSo told rules list counts second third g h
      → GoesOnSo told rules list counts first third f h
  goes_on_so first second third f g h one other = (
    other.0 ∙ one.0,
    goes_on told rules list counts first f g h one.1 (subst (λ n. GoesOn told rules list counts n g h) one.0 other.1),
  )

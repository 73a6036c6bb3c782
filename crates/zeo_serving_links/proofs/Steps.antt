-- What one call of a feeder does.
use Rattle.std.proofs.Common.{◌≡◌, ℕ, zero, suc, ◌+◌, ◌≤◌, ◌<◌, List, [], ◌∷◌, ◌++◌, Option, Some, None, length, map, refl, ap, sym, ◌∙◌, subst, arith, append_assoc, append-nil, length-append}
use Rattle.std.specs.Prelude.{◌^◌, ◌-◌, IfSome, drop, filter_map, min}
use mathlib.Core.List.{IsPrefix}
use Rattle.hub_shared.specs.Calls.{history_limit}
use Rattle.hub_shared.specs.Seats.{Known}
use Rattle.zb_base.specs.Counts.{Rose}
use Rattle.zb_links.specs.Told.{Gives, Told, with_link}
use Rattle.zb_model.specs.declared.data.Transaction.{Transaction}
use Rattle.zeo_serving_links.specs.declared.ending.ServingEnd.{ServingEnd}
use Rattle.zeo_serving_links.specs.declared.ending.ServingEnd.TheVariants.{All, NoLink, NoWorkers, StepsSpent, Memory}
use Rattle.zeo_serving_links.specs.declared.task.LinkDone.{LinkDone}
use Rattle.zeo_serving_links.specs.declared.task.LinkDone.TheVariants as link_done
use Rattle.zeo_serving_links.specs.Feeding.{FeederSeen, GoesOn, HasSessions, IsOfLink, IsStop, IsUngiven, IsUnopened, feeder_seen, seen_in}
use Rattle.zeo_serving_links.specs.FeedingLaws.{begins_self, given_none, goes_nowhere}
use Rattle.zeo_serving_links.specs.Links.{AreOpened, AreServed, HasGiven, IsHandedBack, IsServedTo, Opening, faulty_in, faulty_one}
use Rattle.zeo_server.specs.declared.pushing.PushEnd.{PushEnd}
use Rattle.zeo_session.specs.declared.ending.SessionEnd.{SessionEnd}
use Rattle.zodb_core.specs.History.{Entry}
use Rattle.zodb_core.specs.Machine.{Rules}
use Rattle.zodb_core.specs.Outcomes.{FaultCounts}

-- the links among workers
abbrev waiting_in : List (Option Opening) → List Opening
waiting_in given = filter_map (λ o. o) given

one_more : (given : List (Option Opening)) (o : Opening) → waiting_in (given ++ Some o ∷ []) ≡ waiting_in given ++ o ∷ []
one_more [] o = refl
one_more (None ∷ given) o = one_more given o
one_more (Some x ∷ given) o = ap (λ xs. x ∷ xs) (one_more given o)

same_more : (given : List (Option Opening)) → waiting_in (given ++ None ∷ []) ≡ waiting_in given
same_more [] = refl
same_more (None ∷ given) = same_more given
same_more (Some x ∷ given) = ap (λ xs. x ∷ xs) (same_more given)

gives_one : (before now : Option Told) (o : Opening) → Gives before now o.unread → HasGiven before now (o ∷ [])
gives_one None now o gives = gives
gives_one (Some before) now o gives = (gives.0 ∷ [], ap (λ x. x ∷ []) gives.1, gives.2)

module _ (told : Type 0) (rules : Rules) (list : List Transaction) (counts : FaultCounts) (count : ℕ) where
  abbrev Goes : FeederSeen → FeederSeen → Type 0
  Goes f g = GoesOn told rules list counts count f g

  -- the worker of news is given
  pub gives_news : (seen : Option (List Entry)) (given given' : List (Option Opening)) (work : Option Opening) (opened faulty : ℕ) (stop : Option ServingEnd) (doors : Option Told) (faults : ℕ)
      → work ≡ None → given' ≡ given ++ work ∷ [] → Goes (feeder_seen seen given opened faulty stop doors faults) (feeder_seen seen given' opened faulty stop doors faults)
  gives_news seen given given' work opened faulty stop doors faults none is =
      let same : waiting_in given' ≡ waiting_in given = ap waiting_in (is ∙ ap (λ w. given ++ w ∷ []) none) ∙ same_more given in
      let f = feeder_seen seen given opened faulty stop doors faults in
      let nowhere = goes_nowhere told rules list counts count f in
      subst (λ xs. Goes f (record f { waiting = xs })) (sym same) nowhere

  -- nothing is
  pub stays : (seen : Option (List Entry)) (given : List (Option Opening)) (opened faulty : ℕ) (stop : Option ServingEnd) (doors : Option Told) (faults : ℕ)
      → Goes (feeder_seen seen given opened faulty stop doors faults) (feeder_seen seen given opened faulty stop doors faults)
  stays seen given opened faulty stop doors faults = goes_nowhere told rules list counts count (feeder_seen seen given opened faulty stop doors faults)

  -- that of a session is
  pub gives_session : (seen seen' : Option (List Entry)) (given given' : List (Option Opening)) (work : Option Opening) (left : Option (List ℕ)) (opened opened' faulty : ℕ) (stop : Option ServingEnd)
      (doors doors' : Option Told) (faults faults' : ℕ)
      → stop ≡ None → IsPrefix (seen_in seen) (seen_in seen') → IsOfLink opened left work → Gives doors doors' left → given' ≡ given ++ work ∷ [] → opened' ≡ opened + 1 → opened < count → faults ≤ faults'
      → Goes (feeder_seen seen given opened faulty stop doors faults) (feeder_seen seen' given' opened' faulty stop doors' faults')
  gives_session seen seen' given given' None left opened opened' faulty stop doors doors' faults faults' on begins link gives is more room later = absurd link
  gives_session seen seen' given given' (Some o) left opened opened' faulty stop doors doors' faults faults' on begins link gives is more room later = record {
    begins = begins;
    opened = o ∷ [];
    done = [];
    ends = [];
    numbered = (link.0, tt);
    more = more;
    most = λ le. omega arith;
    moved = sym (ap waiting_in is ∙ one_more given o);
    served = tt;
    faulty = λ below. omega arith;
    links = λ has. gives_one doors doors' o (subst (λ l. Gives doors doors' l) (sym link.1) gives);
    faults = later;
    stays = λ end same. same;
    cause = λ none. subst (λ s. IfSome s (λ e. IsStop e count (feeder_seen seen given opened faulty stop doors faults) (feeder_seen seen' given' opened' faulty stop doors' faults'))) (sym on) tt;
  }

  ungiven_stop : (end : ServingEnd) (opened : ℕ) (seen : List Entry) (doors doors' : Option Told) (f g : FeederSeen) → g.opened ≡ opened → g.seen ≡ seen
      → IsUngiven end count opened seen doors doors' f.faults g.faults → IsStop end count f g
  ungiven_stop All opened seen doors doors' f g same seen_is why = omega arith
  ungiven_stop NoLink opened seen doors doors' f g same seen_is why = why.0
  ungiven_stop NoWorkers opened seen doors doors' f g same seen_is why = absurd why
  ungiven_stop StepsSpent opened seen doors doors' f g same seen_is why = subst (λ (xs : List Entry). history_limit ≤ length xs) (sym seen_is) why
  ungiven_stop Memory opened seen doors doors' f g same seen_is why = tt

  ungiven_told : (end : ServingEnd) (opened : ℕ) (seen : List Entry) (doors doors' : Option Told) (faults faults' : ℕ) → IsUngiven end count opened seen doors doors' faults faults'
      → HasSessions (Some end) → doors' ≡ doors
  ungiven_told All opened seen doors doors' faults faults' why has = why.1
  ungiven_told NoLink opened seen doors doors' faults faults' why has = why.1
  ungiven_told NoWorkers opened seen doors doors' faults faults' why has = absurd has
  ungiven_told StepsSpent opened seen doors doors' faults faults' why has = absurd has
  ungiven_told Memory opened seen doors doors' faults faults' why has = absurd has

  -- none is, and no further one will
  pub stops : (end : ServingEnd) (seen seen' : Option (List Entry)) (given : List (Option Opening)) (opened faulty : ℕ) (stop stop' : Option ServingEnd) (doors doors' : Option Told) (faults faults' : ℕ)
      → stop ≡ None → stop' ≡ Some end → IsPrefix (seen_in seen) (seen_in seen') → faults ≤ faults' → IsUngiven end count opened (seen_in seen') doors doors' faults faults'
      → Goes (feeder_seen seen given opened faulty stop doors faults) (feeder_seen seen' given opened faulty stop' doors' faults')
  stops end seen seen' given opened faulty stop stop' doors doors' faults faults' on off begins later why = record {
    begins = begins;
    opened = [];
    done = [];
    ends = [];
    numbered = tt;
    more = omega arith;
    most = λ le. le;
    moved = append-nil (waiting_in given);
    served = tt;
    faulty = λ below. omega arith;
    links = λ has. given_none doors doors' (ungiven_told end opened (seen_in seen') doors doors' faults faults' why (subst HasSessions off has));
    faults = later;
    stays = λ x none. absurd (let is = sym on ∙ none in cc);
    cause = λ none. subst (λ s. IfSome s (λ e. IsStop e count (feeder_seen seen given opened faulty stop doors faults) (feeder_seen seen' given opened faulty stop' doors' faults'))) (sym off)
        (ungiven_stop end opened (seen_in seen') doors doors' (feeder_seen seen given opened faulty stop doors faults) (feeder_seen seen' given opened faulty stop' doors' faults') refl refl why);
  }

  pub stops_all : (seen : Option (List Entry)) (given : List (Option Opening)) (opened faulty : ℕ) (stop : Option ServingEnd) (doors : Option Told) (faults : ℕ) → stop ≡ None → count ≤ opened
      → Goes (feeder_seen seen given opened faulty stop doors faults) (feeder_seen seen given opened faulty (Some All) doors faults)
  stops_all seen given opened faulty stop doors faults on le =
      stops All seen seen given opened faulty stop (Some All) doors doors faults faults on refl (begins_self (seen_in seen)) (omega arith) (le, refl)

  pub stops_no_link : (seen : Option (List Entry)) (given : List (Option Opening)) (opened faulty : ℕ) (stop : Option ServingEnd) (doors doors' : Option Told) (faults faults' : ℕ)
      → stop ≡ None → Rose faults faults' → faults ≤ faults' → doors' ≡ doors → Goes (feeder_seen seen given opened faulty stop doors faults) (feeder_seen seen given opened faulty (Some NoLink) doors' faults')
  stops_no_link seen given opened faulty stop doors doors' faults faults' on rose later same =
      stops NoLink seen seen given opened faulty stop (Some NoLink) doors doors' faults faults' on refl (begins_self (seen_in seen)) later (rose, same)

  pub stops_memory : (seen seen' : Option (List Entry)) (given given' : List (Option Opening)) (opened faulty : ℕ) (stop : Option ServingEnd) (doors doors' : Option Told) (faults faults' : ℕ)
      → stop ≡ None → given' ≡ given → IsPrefix (seen_in seen) (seen_in seen') → faults ≤ faults'
      → Goes (feeder_seen seen given opened faulty stop doors faults) (feeder_seen seen' given' opened faulty (Some Memory) doors' faults')
  stops_memory seen seen' given given' opened faulty stop doors doors' faults faults' on same begins later =
      subst (λ xs. Goes (feeder_seen seen given opened faulty stop doors faults) (feeder_seen seen' xs opened faulty (Some Memory) doors' faults')) (sym same)
      (stops Memory seen seen' given opened faulty stop (Some Memory) doors doors' faults faults' on refl begins later tt)

  -- so it is where a link has no session
  pub stops_unopened : (end : ServingEnd) (seen seen' : Option (List Entry)) (given : List (Option Opening)) (opened faulty : ℕ) (stop stop' : Option ServingEnd) (doors doors' : Option Told) (faults faults' : ℕ)
      → stop ≡ None → stop' ≡ Some end → IsPrefix (seen_in seen) (seen_in seen') → faults ≤ faults' → IsUnopened end (seen_in seen')
      → Goes (feeder_seen seen given opened faulty stop doors faults) (feeder_seen seen' given opened faulty stop' doors' faults')
  stops_unopened end seen seen' given opened faulty stop stop' doors doors' faults faults' on off begins later why =
      stops end seen seen' given opened faulty stop stop' doors doors' faults faults' on off begins later (ungiven end why)
    where
      ungiven : (e : ServingEnd) → IsUnopened e (seen_in seen') → IsUngiven e count opened (seen_in seen') doors doors' faults faults'
      ungiven All why = absurd why
      ungiven NoLink why = absurd why
      ungiven NoWorkers why = absurd why
      ungiven StepsSpent why = why
      ungiven Memory why = tt

  -- a worker of a session is taken back
  takes_one : (seen seen' : List Entry) (o : Opening) (others : List (Option Opening)) (opened faulty faulty' : ℕ) (stop : Option ServingEnd) (doors : Option Told) (faults : ℕ) (pass : Known) (end : SessionEnd)
      → IsPrefix seen seen' → IsPrefix pass.seen seen' → IsServedTo told rules list counts o end pass → faulty' ≡ min (faulty + faulty_one end) (2 ^ 64 - 1)
      → Goes (feeder_seen (Some seen) (Some o ∷ others) opened faulty stop doors faults) (feeder_seen (Some seen') others opened faulty' stop doors faults)
  takes_one seen seen' o others opened faulty faulty' stop doors faults pass end begins knows served counted = record {
    begins = begins;
    opened = [];
    done = o ∷ [];
    ends = end ∷ [];
    numbered = tt;
    more = omega arith;
    most = λ le. le;
    moved = append-nil (o ∷ waiting_in others);
    served = (record { pass = pass; begins = knows; served = served }, tt);
    faulty = λ below. omega (arith, counted);
    links = λ has. given_none doors doors refl;
    faults = omega arith;
    stays = λ x is. is;
    cause = λ is.
        subst (λ s. IfSome s (λ e. IsStop e count (feeder_seen (Some seen) (Some o ∷ others) opened faulty stop doors faults) (feeder_seen (Some seen') others opened faulty' stop doors faults)))
        (sym is) tt;
  }

  pub takes_session : (old new : Option (List Entry)) (seen seen' : List Entry) (given given' : List (Option Opening)) (worker : Option Opening) (others : List (Option Opening)) (opened faulty faulty' : ℕ)
      (stop : Option ServingEnd) (doors : Option Told) (faults : ℕ) (pass : Known) (end : SessionEnd)
      → given ≡ worker ∷ others → IsHandedBack told rules list counts worker (link_done.Session pass end) → given' ≡ drop 1 given → old ≡ Some seen → new ≡ Some seen' → IsPrefix seen seen'
      → IsPrefix pass.seen seen' → faulty' ≡ min (faulty + faulty_one end) (2 ^ 64 - 1) → Goes (feeder_seen old given opened faulty stop doors faults) (feeder_seen new given' opened faulty' stop doors faults)
  takes_session old new seen seen' given given' None others opened faulty faulty' stop doors faults pass end is back rest was now begins knows counted = absurd back
  takes_session old new seen seen' given given' (Some o) others opened faulty faulty' stop doors faults pass end is back rest was now begins knows counted =
      let others_are : given' ≡ others = rest ∙ ap (λ xs. drop 1 xs) is in
      subst (λ x. Goes (feeder_seen x given opened faulty stop doors faults) (feeder_seen new given' opened faulty' stop doors faults)) (sym was)
      (subst (λ x. Goes (feeder_seen (Some seen) given opened faulty stop doors faults) (feeder_seen x given' opened faulty' stop doors faults)) (sym now)
      (subst (λ xs. Goes (feeder_seen (Some seen) xs opened faulty stop doors faults) (feeder_seen (Some seen') given' opened faulty' stop doors faults)) (sym is)
      (subst (λ xs. Goes (feeder_seen (Some seen) (Some o ∷ others) opened faulty stop doors faults) (feeder_seen (Some seen') xs opened faulty' stop doors faults)) (sym others_are)
      (takes_one seen seen' o others opened faulty faulty' stop doors faults pass end begins knows back counted))))

  -- and that of news
  pub takes_news : (seen : Option (List Entry)) (given given' : List (Option Opening)) (worker : Option Opening) (others : List (Option Opening)) (opened faulty : ℕ) (stop : Option ServingEnd) (doors : Option Told)
      (faults : ℕ) (end : PushEnd) → given ≡ worker ∷ others → IsHandedBack told rules list counts worker (link_done.News end) → given' ≡ drop 1 given
      → Goes (feeder_seen seen given opened faulty stop doors faults) (feeder_seen seen given' opened faulty stop doors faults)
  takes_news seen given given' (Some o) others opened faulty stop doors faults end is back rest = absurd back
  takes_news seen given given' None others opened faulty stop doors faults end is back rest =
      let same : waiting_in given' ≡ waiting_in given = ap waiting_in (rest ∙ ap (λ xs. drop 1 xs) is) ∙ sym (ap waiting_in is) in
      let f = feeder_seen seen given opened faulty stop doors faults in
      subst (λ xs. Goes f (record f { waiting = xs })) (sym same) (goes_nowhere told rules list counts count f)

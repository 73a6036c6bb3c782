-- Links that sessions serve, each from the opening of its session on. Own.
use Rattle.std.specs.Prelude.{◌≡◌, ℕ, suc, ◌+◌, List, [], ◌∷◌, ◌++◌, Option, Some, None, length, map}
use mathlib.Core.List.{IsPrefix}
use Rattle.hub_clock.specs.Rules.{entries_of}
use Rattle.hub_shared.specs.Seats.{Known, Listening}
use Rattle.zb_links.specs.Told.{Told}
use Rattle.zb_model.specs.declared.data.Transaction.{Transaction}
use Rattle.zeo_serving_links.specs.declared.task.LinkDone.{LinkDone}
use Rattle.zeo_serving_links.specs.declared.task.LinkDone.TheVariants as link_done
use Rattle.zeo_serving_links.specs.declared.task.Task.{Task}
use Rattle.zeo_serving_links.specs.declared.task.Task.TheVariants as link_task
use Rattle.zeo_session.specs.declared.ending.SessionEnd.{SessionEnd}
use Rattle.zeo_session.specs.declared.ending.SessionEnd.TheVariants as session_end
use Rattle.zeo_session.specs.Served.{IsSessionOver}
use Rattle.zodb_core.specs.Entries.{session_of}
use Rattle.zodb_core.specs.History.{Entry, Opened}
use Rattle.zodb_core.specs.Machine.{Rules}
use Rattle.zodb_core.specs.Outcomes.{FaultCounts}

-- ---- openings

-- a link whose session was opened: what the session's pass then knew, and what the link had to read, where it tells
pub record Opening : Type 0 where
  pub pass : Known
  pub unread : Option (List ℕ)

-- The pass is of the session with this number. The history that it has seen has the opening of its session and no other entry of it.
pub record IsAtOpening (number : ℕ) (pass : Known) : Type 0 where
  pub session_is : pass.session ≡ number
  pub before : List Entry
  pub behind : List Entry
  pub seen_is : pass.seen ≡ before ++ Opened number ∷ behind
  pub last_is : pass.last ≡ length before
  pub none : entries_of session_of number behind ≡ []

-- the sessions of these links have the numbers from this one on
abbrev pub AreOpened : ℕ → List Opening → Type 0
AreOpened number [] = Unit {0}
AreOpened number (o ∷ os) = IsAtOpening number o.pass × AreOpened (suc number) os

-- ---- workers

-- the worker of a session is given an opening, and that of its news is given none
abbrev pub opening_of : {I : Type 0} → (I → Option (List ℕ)) → Task Known I Listening → Option Opening
opening_of left (link_task.Session pass link_in) = Some (record { pass = pass; unread = left link_in })
opening_of left (link_task.News ear) = None

-- From this opening on the session has served its link, and was closed: its pass then knew this. What its link's sink took isn't told, since two write to it.
pub record IsServedTo (told : Type 0) (rules : Rules) (list : List Transaction) (counts : FaultCounts) (o : Opening) (end : SessionEnd) (pass : Known) : Type 0 where
  pub left : Option (List ℕ)
  pub over : IsSessionOver told rules list counts end o.pass pass o.unread left None None

-- what a worker hands back
abbrev pub IsHandedBack : Type 0 → Rules → List Transaction → FaultCounts → Option Opening → LinkDone Known → Type 0
IsHandedBack told rules list counts (Some o) (link_done.Session pass end) = IsServedTo told rules list counts o end pass
IsHandedBack told rules list counts (Some o) (link_done.News end) = ⊥
IsHandedBack told rules list counts None (link_done.Session pass end) = ⊥
IsHandedBack told rules list counts None (link_done.News end) = Unit {0}

-- ---- links that were served

-- a link was served, and this history begins with what its session's pass then knew
pub record IsServed (told : Type 0) (rules : Rules) (list : List Transaction) (counts : FaultCounts) (all : List Entry) (o : Opening) (end : SessionEnd) : Type 0 where
  pub pass : Known
  pub begins : IsPrefix pass.seen all
  pub served : IsServedTo told rules list counts o end pass

-- these links were served, and ended so
abbrev pub AreServed : Type 0 → Rules → List Transaction → FaultCounts → List Entry → List Opening → List SessionEnd → Type 0
AreServed told rules list counts all [] [] = Unit {0}
AreServed told rules list counts all [] (e ∷ ends) = ⊥
AreServed told rules list counts all (o ∷ os) [] = ⊥
AreServed told rules list counts all (o ∷ os) (e ∷ ends) = IsServed told rules list counts all o e × AreServed told rules list counts all os ends

-- how many of these sessions ended for a fault of their link or for want of memory
abbrev pub faulty_one : SessionEnd → ℕ
faulty_one session_end.LinkFault = 1
faulty_one session_end.Memory = 1
faulty_one session_end.Ended = 0
faulty_one session_end.BadMessage = 0
faulty_one session_end.FrameTooLong = 0

abbrev pub faulty_in : List SessionEnd → ℕ
faulty_in [] = 0
faulty_in (e ∷ ends) = faulty_one e + faulty_in ends

-- ---- doors

abbrev pub with_links : List (List ℕ) → Told → Told
with_links links told = record told { given = told.given ++ links }

-- Where the doors tell, these are the links that they gave, in order, each with the bytes that its source held.
abbrev pub HasGiven : Option Told → Option Told → List Opening → Type 0
HasGiven None now openings = now ≡ None
HasGiven (Some before) now openings = (links : List (List ℕ)) × (map (λ (o : Opening). o.unread) openings ≡ map Some links) × (now ≡ Some (with_links links before))

-- When a run is as a case expects. Own.
use Rattle.std.specs.Prelude.{◌≡◌, ℕ, List, length, Option, Some, None, IfSome}
use Rattle.sha2.specs.Sha256.{sha256}
use Rattle.run_cases.specs.declared.case.After.{After}
use Rattle.run_cases.specs.declared.case.After.TheVariants as after
use Rattle.run_cases.specs.declared.case.Expectation.{Expectation}
use Rattle.run_cases.specs.declared.case.Left.{Left}
use Rattle.run_cases.specs.declared.case.Left.TheVariants.{Empty, Listed}
use Rattle.run_cases.specs.declared.outcome.Outcome.{Outcome}

-- Main is what is expected, where it was `before` ahead of the run and is `main` behind it
abbrev pub IsAfter : After → List ℕ → List ℕ → Type 0
IsAfter after.Same before main = main ≡ before
IsAfter (after.Bytes bytes) before main = main ≡ bytes.items
IsAfter (after.Digest count digest) before main = (length main ≡ count) × (digest ≡ sha256 main)

-- an image is left as expected, if something is expected of it
abbrev pub IsLeftAs : Option Left → Option Left → Type 0
IsLeftAs None given = Unit {0}
IsLeftAs (Some Empty) (Some Empty) = Unit {0}
IsLeftAs (Some (Listed lines)) (Some (Listed given)) = given.items ≡ lines.items
IsLeftAs _ _ = ⊥

-- all that is compared agrees
pub record IsAsExpected (e : Expectation) (o : Outcome) : Type 0 where
  pub written : o.written.items ≡ e.written.items
  pub status : o.status ≡ e.status
  pub main : IsAfter e.after o.before.items o.main.items
  pub greatest : IsLeftAs e.greatest o.greatest
  pub least : IsLeftAs e.least o.least
  pub unread : IfSome e.unread (λ n. o.unread ≡ n)
  pub next : IfSome e.next (λ s. o.next ≡ s)

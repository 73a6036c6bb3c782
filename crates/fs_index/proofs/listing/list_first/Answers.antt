use Rattle.std.proofs.Common.{ℕ, List, sym, subst, arith}
use Rattle.std.specs.List.{Contains}
use Rattle.fs_index.proofs.Collecting.{among_push, first_more}
use Rattle.fs_index.proofs.listing.list_first.Goals as goal

pub each-init : goal.each-init
each-init c = record { first = λ o less. absurd (omega (arith, less)); kept = λ o there. there }

pub each-preserved : goal.each-preserved
each-preserved c = record {
  first = λ o less. subst (λ (xs : List ℕ). Contains xs o) (sym c.in_ok-push.ensures.items) (first_more c.each.oids.items c.each.number c.each.invariant.first o less);
  kept = λ o there. subst (λ (xs : List ℕ). Contains xs o) (sym c.in_ok-push.ensures.items) (among_push c.each.oids.items c.each.number o (c.each.invariant.kept o there));
}

pub returns-clause-first : goal.returns-clause-first
returns-clause-first c = λ o less. c.each.invariant.first o (omega (arith, less, c.each-test.false))

pub returns-clause-kept : goal.returns-clause-kept
returns-clause-kept c = c.each.invariant.kept

-- One turn more, from the end.
use Rattle.std.proofs.Common.{◌-◌, List, Bool, ℕ, get_or, refl, sym, subst, arith}
use Rattle.client_turns.specs.Output.{with_name}
use Rattle.client_turns.proofs.Lasting.{FoundFrom, found_more}
use Rattle.client_turns.proofs.last.last_turns.Goals as goal

pub loop-i-preserved : goal.loop-i-preserved
loop-i-preserved c =
    subst (λ (names : List (List ℕ)). FoundFrom c.args.turns.now (c.loop-i.i - 1) names c.push.new.self.items) (sym c.in_ok-is_last.ensures.names)
    (subst (λ (flags : List Bool). FoundFrom c.args.turns.now (c.loop-i.i - 1) (with_name c.loop-i.names.items (get_or c.args.turns.now (c.loop-i.i - 1) c.index-turns-i.result).client c.in_ok-is_last.is_last) flags) (sym c.in_ok-push.ensures.items)
    (found_more c.args.turns.now (c.loop-i.i - 1) c.loop-i.i (get_or c.args.turns.now (c.loop-i.i - 1) c.index-turns-i.result) c.index-turns-i.result c.loop-i.names.items c.loop-i.flags.items c.in_ok-is_last.is_last c.loop-i.invariant (omega arith) (omega (arith, c.loop-i.invariant.within)) refl c.in_ok-is_last.ensures.new))

use Rattle.std.proofs.Common.{map, take}
use Rattle.zeo_client.specs.Asking.{SpellsBehind, check_call}
use Rattle.zeo_client.proofs.voting.put_checks.Given as goal

abbrev pub invariant-loop-check : goal.invariant-loop-check
invariant-loop-check l = SpellsBehind (map check_call (take l.check-index l.checks)) l.fn.calls.text l.fn.calls.number l.calls.text l.calls.number

use Rattle.std.proofs.Common.{◌≡◌, ◌++◌, flat_map}
use Rattle.zb_literals.specs.Texts.{character_text}
use Rattle.zb_literals.proofs.texts.push_characters.Given as goal

abbrev pub invariant-loop-c : goal.invariant-loop-c
invariant-loop-c l = l.out.items ≡ l.fn.out.items ++ flat_map character_text l.yielded

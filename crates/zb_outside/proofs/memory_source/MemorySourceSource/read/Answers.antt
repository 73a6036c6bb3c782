use Rattle.std.proofs.Common.{arith, ap, length, length-append, length-drop, ℕ}
use Rattle.std.proofs.lemmas.Grind.{common_steps}
use Rattle.zb_outside.proofs.Fronts.{front_given, none_left}
use Rattle.zb_outside.specs.MemoryState.{SourceState}
use Rattle.zb_outside.proofs.memory_source.MemorySourceSource.read.Goals as goal

pub returns-clause-bytes : goal.returns-clause-bytes
returns-clause-bytes c = (
  front_given c.self.inside.bytes.items _ c.copy_from_slice.new.self _ c.self.inside.at c.min-count.result (ap (λ (state : SourceState). state.left) c.self.view_is) (grind (arith, common_steps)) (omega arith),
  λ none some. none_left c.self.inside.bytes.items (length c.args.out.now) c.self.inside.at c.min-count.result (omega arith) none
      (omega (arith, length-append {A = ℕ}, length-drop {A = ℕ}, c.copy_from_slice.ensures.len)),
)

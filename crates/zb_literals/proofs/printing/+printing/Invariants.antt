use Rattle.std.proofs.Common.{◌≡◌, ◌+◌, ◌*◌, drop}
use Rattle.zb_literals.specs.Printing.{parts_print, print_of, behind_print}
use Rattle.zb_literals.proofs.printing.+printing.Given as goal

abbrev pub decreases-print_node : goal.decreases-print_node
decreases-print_node l = 6 * l.levels

abbrev pub decreases-print_parts : goal.decreases-print_parts
decreases-print_parts l = 6 * l.levels + 1

abbrev pub decreases-print_reference : goal.decreases-print_reference
decreases-print_reference l = 6 * l.levels + 2

abbrev pub decreases-print_whole : goal.decreases-print_whole
decreases-print_whole l = 6 * l.levels + 3

abbrev pub decreases-print_first : goal.decreases-print_first
decreases-print_first l = 6 * l.levels + 4

abbrev pub decreases-print_marked : goal.decreases-print_marked
decreases-print_marked l = 6 * l.levels + 5

-- the parts that are left, behind what is printed, are all of them behind what was
abbrev pub invariant-print_parts-loop-part : goal.invariant-print_parts-loop-part
invariant-print_parts-loop-part l =
    behind_print l.printing (parts_print (print_of l.levels l.nodes l.puts) (drop l.part-index l.parts) l.printing.stood)
    ≡ behind_print l.fn.printing (parts_print (print_of l.fn.levels l.fn.nodes l.fn.puts) l.fn.parts l.fn.printing.stood)

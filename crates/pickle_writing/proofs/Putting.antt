-- What the writer puts.
use Rattle.std.proofs.Common.{◌≡◌, ℕ, ◌+◌, List, Ok, Err, true, false, refl, ap}
use Rattle.pickle_graph.specs.declared.node.Node.{Node}
use Rattle.pickle_writing.specs.declared.depth.TheConstants.{WALK_LIMIT}
use Rattle.pickle_writing.specs.declared.error.WriteError.TheVariants as errors
use Rattle.pickle_writing.specs.declared.writing.Writing.{Writing}
use Rattle.pickle_writing.specs.Spelling.{root_piece}
use Rattle.pickle_writing.specs.Putting.{puts_of}
use Rattle.pickle_graph.specs.Walks.{has_walk}
use Rattle.pickle_writing.specs.Writing.{IsRootWritten}

pub puts_ok : (ns : List Node) (root : ℕ) (w : Writing) → IsRootWritten ns root w → puts_of ns root ≡ Ok w.puts
puts_ok ns root w h =
    let puts : w.puts ≡ (root_piece ns root).puts = ap (λ (x : Writing). x.puts) h.all in
    let short : has_walk (WALK_LIMIT + 1) ns root ≡ false = h.short in
    rw (short, puts) refl

pub puts_deep : (ns : List Node) (root : ℕ) → has_walk (WALK_LIMIT + 1) ns root ≡ true → puts_of ns root ≡ Err errors.TooDeep
puts_deep ns root h = rw h refl

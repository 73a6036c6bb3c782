use Rattle.std.proofs.Common.{◌≡◌, ℕ, ◌+◌, List, Option, Some, None, refl}
use Rattle.pickle_writing.specs.declared.depth.TheConstants.{WALK_LIMIT}
use Rattle.pickle_graph.specs.Graph.{Graph}
use Rattle.literal_reading.specs.declared.error.LiteralError.{LiteralError}
use Rattle.literal_reading.specs.declared.error.LiteralError.TheVariants as errors
use Rattle.literal_reading.specs.Exact.{graph_spelled, SpelledIsLiteral}
use Rattle.zb_literals.specs.Graphs.{graph_of}
use Rattle.literal_reading.specs.Reading.{RefusesLiteral}
use Rattle.zb_literals.specs.Values.{Value, IsValue, literal_text}
use Rattle.zb_script.proofs.stored.graph_of.Goals as goal

refuses : (e : LiteralError) (graph : Graph) → e ≡ errors.NotLiteral → RefusesLiteral e (Some graph) → Some graph ≡ None
refuses errors.NotLiteral graph is refused = refused
refuses errors.Memory graph is refused = absurd cc

none_spelled : SpelledIsLiteral → (bytes : List ℕ) → ((tree : Value) → IsValue (WALK_LIMIT + 1) tree → bytes ≡ literal_text tree → Some (graph_of tree) ≡ None) → graph_spelled bytes ≡ None
none_spelled spelled bytes none = by_cases (graph_spelled bytes) refl
  where
    by_cases : (read : Option Graph) → graph_spelled bytes ≡ read → read ≡ None
    by_cases None is = refl
    by_cases (Some graph) is = let h = spelled bytes graph is in let never = none h.tree h.each h.text in absurd cc

pub returns-in-Err-NotLiteral : goal.returns-in-Err-NotLiteral
returns-in-Err-NotLiteral c =
    none_spelled c.literals_are_exact.ensures.spelled c.args.bytes.now (λ tree each text. refuses c.in-Err-NotLiteral.field-0 (graph_of tree) c.in-Err-NotLiteral.field-0-is (c.in-Err-NotLiteral.ensures.only tree each text))

use Rattle.std.proofs.Common.{◌≡◌, OnOk, sym, ◌∙◌, ap, subst, arith}
use Rattle.std.specs.Option.{option_copied}
use Rattle.pickle_writing.specs.Numbers.{is_many}
use Rattle.pickle_writing.specs.Spelling.{Piece}
use Rattle.pickle_writing.specs.Writing.{with_piece}
use Rattle.pickle_writing.proofs.Pieces.{piece_held}
use Rattle.pickle_writing.proofs.writing.+writing.Goals as goal

pub write_node-returns-then-is_held : goal.write_node-returns-then-is_held
write_node-returns-then-is_held t c =
    let none = c.if-levels-eq0.false in
    let e = piece_held c.args.levels c.args.nodes.now (is_many c.args.counts.now) c.args.node c.args.writing.now.puts c.in-Some.found.now (omega (arith, none)) (sym c.get.ensures ∙ ap option_copied c.in-Some.is) (sym c.is_held.ensures ∙ c.if-is_held.true) in
    subst (λ (piece : Piece). OnOk c.write_held.result (c.write_held.new.writing ≡ with_piece c.args.writing.now piece)) e c.write_held.ensures

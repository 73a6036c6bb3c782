use Rattle.std.proofs.Common.{◌≡◌, ℕ, Option, IfOk, sym, ◌∙◌, ap, subst, arith}
use Rattle.std.specs.Option.{option_copied}
use Rattle.std.specs.Prelude.{slice_get}
use Rattle.zb_literals.specs.declared.printing.Printing.{Printing}
use Rattle.zb_literals.specs.Printing.{Printed, leaf_print, id_short, short_print, reference_parts, parts_print, print_of, behind_print}
use Rattle.zb_literals.proofs.PrintLaws.{text_after, with_text, marked_is, leaf_is, bare_is, short_is}
use Rattle.zb_literals.proofs.printing.+printing.Goals as goal

pub print_reference-returns-then-short : goal.print_reference-returns-then-short
print_reference-returns-then-short t c =
    let piece = print_of c.args.levels c.args.nodes.now c.args.puts.now in
    let found = slice_get c.args.nodes.now c.args.id in
    let short = id_short c.args.nodes.now c.number.result found in
    let text = text_after c.args.printing.text c.into_vec-out.result.items c.push_short.new.out.items c.from_vec-text.result (short_print short) c.into_vec-out.ensures c.in_ok-short.ensures.text c.from_vec-text.ensures in
    let is = short_is piece short c.args.id c.args.printing c.from_vec-text.result (sym c.if-short.true ∙ c.in_ok-short.ensures.short) text in
    subst (λ (put : Option ℕ). with_text c.args.printing c.from_vec-text.result ≡ behind_print c.args.printing (parts_print piece (reference_parts (id_short c.args.nodes.now put found) c.args.id) c.args.printing.stood)) c.number.ensures is

pub print_node-returns-then-leaf : goal.print_node-returns-then-leaf
print_node-returns-then-leaf t c =
    let none = c.if-levels-eq0.false in
    let text = text_after c.args.printing.text c.into_vec-out.result.items c.push_leaf.new.out.items c.from_vec-text.result (leaf_print c.in-Some.found.now) c.into_vec-out.ensures c.in_ok-leaf-in-Some.ensures.text c.from_vec-text.ensures in
    leaf_is c.args.levels c.args.nodes.now c.args.puts.now c.args.node c.in-Some.found.now c.args.printing c.from_vec-text.result
    (omega (arith, none)) (sym c.get.ensures ∙ ap option_copied c.in-Some.is) (sym c.if-leaf.true ∙ c.in_ok-leaf-in-Some.ensures.leaf) text

pub print_node-returns-else-leaf : goal.print_node-returns-else-leaf
print_node-returns-else-leaf t c =
    let none = c.if-levels-eq0.false in
    let text = text_after c.args.printing.text c.into_vec-out.result.items c.push_leaf.new.out.items c.from_vec-text.result (leaf_print c.in-Some.found.now) c.into_vec-out.ensures c.in_ok-leaf-in-Some.ensures.text c.from_vec-text.ensures in
    let bare = bare_is c.in-Some.found.now c.args.printing c.from_vec-text.result (sym c.if-leaf.false ∙ c.in_ok-leaf-in-Some.ensures.leaf) text in
    let e = marked_is c.args.levels c.args.nodes.now c.args.puts.now c.args.node c.args.printing.stood c.in-Some.found.now (omega (arith, none)) (sym c.get.ensures ∙ ap option_copied c.in-Some.is) bare.0 in
    let marked = subst (λ (p : Printed). IfOk c.print_marked.result (λ all. all ≡ behind_print (with_text c.args.printing c.from_vec-text.result) p)) e c.print_marked.ensures in
    subst (λ (w : Printing). IfOk c.print_marked.result (λ all. all ≡ behind_print w (print_of c.args.levels c.args.nodes.now c.args.puts.now c.args.node c.args.printing.stood))) bare.1 marked

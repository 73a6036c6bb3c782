use Rattle.std.proofs.Common.{◌++◌, flat_map, sym, ap, ◌∙◌, map-id, List, ℕ}
use Rattle.std.proofs.lemmas.Iterator.{YieldsList-from_chars}
use Rattle.std.proofs.lemmas.Iterator.Consumers.{YieldsList-end}
use Rattle.zb_literals.specs.Texts.{character_text}
use Rattle.zb_literals.proofs.texts.push_characters.Goals as goal

pub returns : goal.returns
returns c =
    let end = YieldsList-end (YieldsList-from_chars c.args.text.now c.utf8.text cc) c.loop-c.yielded _ c.loop-c.yielded_by _ _ c.in-None.is c.next.ensures.steps in
    c.loop-c.invariant ∙ ap (λ (cs : List ℕ). c.args.out.now.items ++ flat_map character_text cs) (sym (map-id c.loop-c.yielded) ∙ end.0)

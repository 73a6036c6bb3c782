use Rattle.std.proofs.Common.{◌≡◌, rules, List, filter, ap, ◌∙◌}
use Rattle.std.proofs.lemmas.Fn.{filter_same}
use Rattle.fs_reading.specs.declared.outline.OutlinedChange.{OutlinedChange}
use Rattle.pack_copy.specs.Filtering.{stays_in}
use Rattle.pack_copy.proofs.Lefts.{left_formed}
use Rattle.pack_copy.proofs.filtering.changes_left.Goals as goal

value : (c : goal.After-from_vec) → c.from_vec.result ≡ filter (stays_in c.args.tid c.args.keep.now c.args.from.now.entries c.args.of) c.args.changes
value c =
    c.from_vec.ensures
    ∙ filter_same _ (stays_in c.args.tid c.args.keep.now c.args.from.now.entries c.args.of) _ (λ x b f' k. search rules) _ _ c.retain.ensures.filtered
    ∙ ap (λ (cs : List OutlinedChange). filter (stays_in c.args.tid c.args.keep.now c.args.from.now.entries c.args.of) cs) c.into_vec-left.ensures

pub returns-clause-value : goal.returns-clause-value
returns-clause-value c = value c

pub returns-clause-formed : goal.returns-clause-formed
returns-clause-formed c = left_formed (stays_in c.args.tid c.args.keep.now c.args.from.now.entries c.args.of) c.args.changes c.from_vec.result c.requires (value c)

-- What the object that was wanted is to the tree.
use Rattle.std.proofs.Common.{◌≡◌, ◌<◌, ◌^◌, Option, Some, None, rules, sym, ap, subst, ◌∙◌}
use Rattle.std.specs.Option.{option_copied, option_map}
use Rattle.btree_family.specs.Classes.{Class, class_seen}
use Rattle.btree_checking.specs.Fed.{IsProgressOf, class_after, held_of}
use Rattle.btree_checking.proofs.Telling.{class_here, classless_says, foreign_says, held_here, missing_says}
use Rattle.btree_checking.proofs.checking.Checking.told.Goals as goal

pub returns-in_default-clause-progress : goal.returns-in_default-clause-progress
returns-in_default-clause-progress c = λ contents root is at.
    let level : c.args.self.place.level < 2 ^ 64 = search rules in
    let none : option_map class_seen (option_copied c.in_ok-row.field-0) ≡ None = ap (λ r. option_map class_seen (option_copied r)) c.in_default.is in
    classless_says contents root c.args.self c.args.content.now _ c.without_class.result is at c.in_ok-row.ensures none level c.args.self.new c.without_class.ensures.missing c.without_class.ensures.foreign

pub returns-in-Missing-clause-progress : goal.returns-in-Missing-clause-progress
returns-in-Missing-clause-progress c = λ contents root is at.
    let level : c.args.self.place.level < 2 ^ 64 = search rules in
    let found : Some (class_seen c.in-Some.row.now) ≡ class_after (option_map class_seen (option_copied c.args.self.row)) c.args.content.now =
    ap (λ r. option_map class_seen (option_copied r)) (sym c.in-Some.is) ∙ c.in_ok-row.ensures in
    subst (IsProgressOf contents root) (sym c.broken.ensures)
    (missing_says contents root c.args.self is level (held_here contents root c.args.self c.args.content.now _ is at found ∙ sym c.in_ok-held_in.ensures ∙ ap held_of c.in-Missing.is))

pub returns-in-Foreign-clause-progress : goal.returns-in-Foreign-clause-progress
returns-in-Foreign-clause-progress c = λ contents root is at.
    let level : c.args.self.place.level < 2 ^ 64 = search rules in
    let found : Some (class_seen c.in-Some.row.now) ≡ class_after (option_map class_seen (option_copied c.args.self.row)) c.args.content.now =
    ap (λ r. option_map class_seen (option_copied r)) (sym c.in-Some.is) ∙ c.in_ok-row.ensures in
    subst (IsProgressOf contents root) (sym c.broken-in-Foreign.ensures)
    (foreign_says contents root c.args.self is level c.args.self.new (held_here contents root c.args.self c.args.content.now _ is at found ∙ sym c.in_ok-held_in.ensures ∙ ap held_of c.in-Foreign.is))

pub returns-in-Holds-clause-progress : goal.returns-in-Holds-clause-progress
returns-in-Holds-clause-progress c = λ contents root is at.
    let found : Some (class_seen c.in-Some.row.now) ≡ class_after (option_map class_seen (option_copied c.args.self.row)) c.args.content.now =
    ap (λ r. option_map class_seen (option_copied r)) (sym c.in-Some.is) ∙ c.in_ok-row.ensures in
    c.visit.ensures.progress contents root c.in-Holds.entry.class (class_here contents root c.args.self c.args.content.now _ is at found) is.held
    (held_here contents root c.args.self c.args.content.now _ is at found ∙ sym c.in_ok-held_in.ensures ∙ ap held_of c.in-Holds.is) is.comes

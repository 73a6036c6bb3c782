use Rattle.std.proofs.Common.{ap, codes, ◌∙◌}
use Rattle.std.proofs.lemmas.Result.{IfOk-weaker}
use Rattle.clap.specs.Words.{App, with_subcommand}
use Rattle.program_words.specs.Table.{alone, placed, placed_pair, placed_twice}
use Rattle.program_words.proofs.table.program.Goals as goal

pub returns : goal.returns
returns c =
    let run = c.alone.ensures _ _ c.in_ok-subcommand.ensures ∙ ap (λ (x : App). with_subcommand x (alone (codes "run")).top) c.bare.ensures in
    let undolog = c.alone-2.ensures _ _ c.in_ok-subcommand-2.ensures ∙ ap (λ (x : App). with_subcommand x (alone (codes "undolog")).top) run in
    let history = c.in_ok-placed.ensures _ _ c.in_ok-subcommand-3.ensures ∙ ap (λ (x : App). with_subcommand x (placed (codes "history")).top) undolog in
    let show = c.in_ok-placed-2.ensures _ _ c.in_ok-subcommand-4.ensures ∙ ap (λ (x : App). with_subcommand x (placed (codes "show")).top) history in
    let digest = c.in_ok-placed-3.ensures _ _ c.in_ok-subcommand-5.ensures ∙ ap (λ (x : App). with_subcommand x (placed (codes "digest")).top) show in
    let pack = c.in_ok-placed_twice.ensures _ _ c.in_ok-subcommand-6.ensures ∙ ap (λ (x : App). with_subcommand x (placed_twice (codes "pack")).top) digest in
    let check = c.in_ok-placed-4.ensures _ _ c.in_ok-subcommand-7.ensures ∙ ap (λ (x : App). with_subcommand x (placed (codes "check")).top) pack in
    let index = c.alone-3.ensures _ _ c.in_ok-subcommand-8.ensures ∙ ap (λ (x : App). with_subcommand x (alone (codes "index")).top) check in
    let play = c.alone-4.ensures _ _ c.in_ok-subcommand-9.ensures ∙ ap (λ (x : App). with_subcommand x (alone (codes "play")).top) index in
    let serve = c.in_ok-placed_pair.ensures _ _ c.in_ok-subcommand-10.ensures ∙ ap (λ (x : App). with_subcommand x (placed_pair (codes "serve")).top) play in
    IfOk-weaker c.subcommand-11.result _ _ (λ r h. c.in_ok-placed-5.ensures _ _ h ∙ ap (λ (x : App). with_subcommand x (placed (codes "gen")).top) serve) c.subcommand-11.ensures

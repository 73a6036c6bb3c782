-- The table of commands, as clap sees it.
use Rattle.std.specs.Prelude.{◌≡◌, ℕ, List, [], Option, Some, None, Bool, codes, true, false}
use Rattle.clap.specs.Built.{AddsSubcommand}
use Rattle.clap.specs.Words.{App, Row, Rule, Text, first_of, app_of, new_app, new_rule, with_rule, with_subcommand}
use Rattle.clap.specs.declared.builder.command.Command.{Command}
use Rattle.clap.specs.declared.error.kind.ErrorKind.{ErrorKind}
use Rattle.clap.specs.declared.error.kind.ErrorKind.TheVariants as kinds

abbrev pub position : Rule
position = record (new_rule (codes "position")) { required = true }

-- a second word, which may be left out
abbrev pub more : Rule
more = new_rule (codes "more")

abbrev pub alone : List ℕ → App
alone name = new_app name

abbrev pub placed : List ℕ → App
placed name = with_rule (new_app name) position

abbrev pub placed_twice : List ℕ → App
placed_twice name = with_rule (with_rule (new_app name) position) more

-- a second word that is to stand there
abbrev pub other : Rule
other = record (new_rule (codes "more")) { required = true }

abbrev pub placed_pair : List ℕ → App
placed_pair name = with_rule (with_rule (new_app name) position) other

-- what a command gives that is added to another
abbrev pub AddsApp : Command → App → Type 0
AddsApp c app = (old new : Command) → AddsSubcommand old c new → app_of new ≡ with_subcommand (app_of old) app.top

abbrev pub program_top : App
program_top = let a = new_app (codes "zodb") in
    record { top = record a.top { no_binary_name = true; disable_help_flag = true; disable_help_subcommand = true; disable_version_flag = true; subcommand_required = true }; subs = [] }

abbrev pub program_app : App
program_app =
    with_subcommand (with_subcommand (with_subcommand (with_subcommand (with_subcommand (with_subcommand (with_subcommand (with_subcommand (with_subcommand (with_subcommand (with_subcommand program_top (alone (codes "run")).top) (alone (codes "undolog")).top)
    (placed (codes "history")).top) (placed (codes "show")).top) (placed (codes "digest")).top) (placed_twice (codes "pack")).top) (placed (codes "check")).top) (alone (codes "index")).top) (alone (codes "play")).top) (placed_pair (codes "serve")).top) (placed (codes "gen")).top

-- the name of a subcommand, and the values of its positions
abbrev pub named_in : Option (Text × List Row) → Option (Text × Option Text × Option Text)
named_in None = None
named_in (Some p) = Some (p.0, first_of (codes "position") p.1, first_of (codes "more") p.1)

-- an error that tells of want of memory
abbrev pub is_starved : ErrorKind → Bool
is_starved kinds.OutOfMemory = true
is_starved _ = false

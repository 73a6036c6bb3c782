use Rattle.std.proofs.Common.{◌≡◌, ℕ, ltb, length}
use Rattle.std.specs.Prelude.{slice_get, if◌then◌else◌}
use Rattle.std.specs.Option.{option_map}
use Rattle.zodb_core.specs.Telling.{noted}
use Rattle.zodb_core.proofs.Telling.{noted_below}
use Rattle.zodb_core.proofs.session_journal.note_all.Given as goal

abbrev pub invariant-loop-number : goal.invariant-loop-number
invariant-loop-number l = record {
  each : (k : ℕ) → slice_get l.sessions k ≡ option_map (noted_below l.number k l.fn.place l.fn.entry) (slice_get l.fn.sessions k);
  count : length l.sessions ≡ length l.fn.sessions;
}

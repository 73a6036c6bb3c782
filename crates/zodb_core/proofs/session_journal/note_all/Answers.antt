use Rattle.std.proofs.Common.{◌≤◌, ap, length, arith, ◌∙◌, refl, sym}
use Rattle.std.proofs.lemmas.Option.{slice_get_read}
use Rattle.std.proofs.lemmas.List.{length-set}
use Rattle.zodb_core.specs.Telling.{noted}
use Rattle.zodb_core.proofs.Telling.{all_noted, none_noted, one_noted}
use Rattle.zodb_core.proofs.session_journal.note_all.Goals as goal

pub loop-number-init : goal.loop-number-init
loop-number-init c = record { each = none_noted c.args.place c.args.entry.now c.args.sessions.now; count = omega arith }

pub loop-number-preserved : goal.loop-number-preserved
loop-number-preserved c = record {
  each = one_noted c.args.place c.args.entry.now c.args.sessions.now c.loop-number.sessions c.loop-number.number c.loop-number.invariant.each c.index-sessions-number.result c.note.new.session
      (slice_get_read c.loop-number.sessions (length c.loop-number.sessions) c.loop-number.number c.index-sessions-number.result refl
      (omega (arith, c.loop-number-test.true, c.loop-number.auto.number-end, c.loop-number.invariant.count)) c.index-sessions-number.is)
      (c.note.ensures ∙ ap (noted c.loop-number.number c.args.place c.args.entry.now) (sym c.index-sessions-number.is));
  count = length-set c.loop-number.sessions c.loop-number.number c.note.new.session ∙ c.loop-number.invariant.count;
}

pub returns-clause-each : goal.returns-clause-each
returns-clause-each c = all_noted c.args.place c.args.entry.now c.args.sessions.now c.loop-number.sessions c.loop-number.number c.loop-number.invariant.each c.loop-number.invariant.count
    (omega (arith, c.loop-number.invariant.count, c.loop-number.auto.number-end, c.loop-number-test.false))

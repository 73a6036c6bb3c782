use Rattle.std.proofs.Common.{◌≡◌, Option, None, length-append, sym, ◌∙◌, arith}
use Rattle.zb_script.specs.declared.errors.ReadError.{ReadError}
use Rattle.zb_script.specs.declared.errors.ReadError.TheVariants as errors
use Rattle.zb_script.specs.declared.line.Turn.{Turn}
use Rattle.zb_script.specs.Reading.{RefusesToRead}
use Rattle.zb_script.proofs.Steps.{opened_kept, turn_read, turn_refused, turns_done}
use Rattle.zb_script.proofs.script.turns_of.Goals as goal

bad_none : (e : ReadError) (read : Option Turn) → e ≡ errors.Bad → RefusesToRead e read → read ≡ None
bad_none errors.Bad read is failed = failed
bad_none errors.Memory read is failed = absurd cc

pub returns-in-Err-Bad-clause-given : goal.returns-in-Err-Bad-clause-given
returns-in-Err-Bad-clause-given c =
    turn_refused c.loop-rest.turns c.loop-rest.opened c.loop-rest.rest.now c.first_line.result.0.now c.first_line.result.1.now c.len.result _ c.first_line.ensures.pieces c.loop-rest.invariant.opened (bad_none c.in-Err-Bad.field-0 _ c.in-Err-Bad.field-0-is c.in-Err-Bad.ensures) c.len.ensures c.loop-rest.invariant.so_far

pub loop-rest-preserved : goal.loop-rest-preserved
loop-rest-preserved c = record {
  so_far = rw (c.in_ok-push-in-Ok.ensures.ok) (turn_read c.loop-rest.turns c.loop-rest.opened c.in-Ok.turn c.loop-rest.rest.now c.first_line.result.0.now c.first_line.result.1.now _ c.first_line.ensures.pieces c.loop-rest.invariant.opened c.in-Ok.ensures c.loop-rest.invariant.so_far);
  opened = rw (c.in_ok-push-in-Ok.ensures.ok) (opened_kept c.loop-rest.opened c.note_open.new.opened c.loop-rest.turns c.in-Ok.turn c.loop-rest.invariant.opened c.in_ok-note_open-in-Ok.ensures);
  fewer = rw (c.in_ok-push-in-Ok.ensures.ok) (omega (arith, length-append {A = Turn}, c.first_line.ensures.shorter, c.loop-rest.invariant.fewer));
}

pub returns-clause-given : goal.returns-clause-given
returns-clause-given c = turns_done c.loop-rest.turns c.loop-rest.rest.now _ (sym c.is_empty.ensures ∙ c.loop-rest-test.false) c.loop-rest.invariant.so_far

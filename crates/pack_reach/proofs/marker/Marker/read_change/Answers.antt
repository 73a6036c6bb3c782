use Rattle.std.proofs.Common.{◌∙◌, sym, ap, subst}
use Rattle.zb_model.specs.declared.data.Content.TheVariants.{Held}
use Rattle.pack_reach.specs.Marking.{OnlyMarks}
use Rattle.pack_reach.proofs.Growing.{held_only, held_sound, held_read, absent_sound, absent_is_read, mark_only}
use Rattle.pack_reach.proofs.marker.Marker.read_change.Goals as goal

pub returns-in-Held-clause-only : goal.returns-in-Held-clause-only
returns-in-Held-clause-only g c =
    held_only c.read_record.result (g.F.Refs.named c.args.refs.now c.as_slice.result.now) c.args.self.now c.mark.new.self c.read_record.new.self c.args.change.now.oid c.args.tid c.in_ok-mark.ensures.ok c.read_record.ensures.ok c.read_record.ensures.err

pub returns-in-Held-clause-sound : goal.returns-in-Held-clause-sound
returns-in-Held-clause-sound g c = λ list may.
    held_sound c.read_record.result (g.F.Refs.named c.args.refs.now) list c.args.self.now c.mark.new.self c.read_record.new.self c.args.tid c.args.change.now c.as_slice.result.now (c.in-Held.is ∙ ap Held (sym c.as_slice.ensures.value)) c.in_ok-mark.ensures.ok may c.read_record.ensures.ok c.read_record.ensures.err

pub returns-in-Held-clause-read : goal.returns-in-Held-clause-read
returns-in-Held-clause-read g c =
    held_read c.read_record.result (g.F.Refs.named c.args.refs.now) c.args.self.now c.mark.new.self c.read_record.new.self c.args.tid c.args.change.now c.as_slice.result.now (c.in-Held.is ∙ ap Held (sym c.as_slice.ensures.value)) c.in_ok-mark.ensures.ok c.read_record.ensures.ok

pub returns-in-Absent-clause-only : goal.returns-in-Absent-clause-only
returns-in-Absent-clause-only g c = subst (OnlyMarks c.args.self.now) (sym c.in_ok-mark.ensures.ok) (mark_only c.args.self.now c.args.change.now.oid)

pub returns-in-Absent-clause-sound : goal.returns-in-Absent-clause-sound
returns-in-Absent-clause-sound g c = λ list may. absent_sound (g.F.Refs.named c.args.refs.now) list c.args.self.now c.mark.new.self c.args.tid c.args.change.now c.in_ok-mark.ensures.ok may

pub returns-in-Absent-clause-read : goal.returns-in-Absent-clause-read
returns-in-Absent-clause-read g c = absent_is_read (g.F.Refs.named c.args.refs.now) c.args.self.now c.mark.new.self c.args.tid c.args.change.now c.in-Absent.is c.in_ok-mark.ensures.ok

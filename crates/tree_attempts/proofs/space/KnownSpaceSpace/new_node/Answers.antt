-- A number is given.
use Rattle.std.proofs.Common.{◌∙◌, ap, sym}
use Rattle.std.specs.Prelude.{slice_get}
use Rattle.tree_attempts.specs.Calls.{written_in}
use Rattle.tree_attempts.proofs.Tracking.{gives_more, written_drew}
use Rattle.tree_attempts.proofs.space.KnownSpaceSpace.new_node.Goals as goal

pub invariant_of-self : goal.invariant_of-self
invariant_of-self g c = record {
  agrees = c.args.self.now.agrees;
  numbered = c.args.self.now.numbered;
  drawn = gives_more c.args.self.now.calls.items _ g.B.Sight.numbers c.args.self.now.used c.in-Some.oid c.args.self.now.drawn c.in-Ok.ensures.ok
      (ap (λ ns. slice_get ns c.args.self.now.used) (sym c.args.self.now.numbered) ∙ sym c.in-Some.ensures.number);
  written = ap written_in c.in-Ok.ensures.ok ∙ written_drew c.args.self.now.calls.items c.in-Some.oid ∙ c.args.self.now.written;
  based = c.args.self.now.based;
  filled = c.args.self.now.filled;
  lacking = c.note_call.ensures.lacked c.args.self.now.lacked c.args.self.now.lacking;
}

-- An object that was recalled counts as read.
use Rattle.std.proofs.Common.{◌∙◌}
use Rattle.tree_attempts.proofs.space.KnownSpaceSpace.reread.Goals as goal

pub invariant_of-self : goal.invariant_of-self
invariant_of-self g c = record {
  agrees = c.args.self.now.agrees;
  numbered = c.args.self.now.numbered;
  drawn = c.note_read.ensures.drawn ∙ c.args.self.now.drawn;
  written = c.note_read.ensures.written ∙ c.args.self.now.written;
  based = c.args.self.now.based;
  filled = c.args.self.now.filled;
  lacking = c.note_read.ensures.lacked c.args.self.now.lacked c.args.self.now.lacking;
}

-- An object is read.
use Rattle.std.proofs.Common.{◌∙◌, ap}
use Rattle.btree_maps.specs.Drawn.{drawn_in}
use Rattle.tree_attempts.specs.Calls.{written_in}
use Rattle.tree_attempts.proofs.Reading.{read_lacked}
use Rattle.tree_attempts.proofs.Tracking.{drawn_read, written_read}
use Rattle.tree_attempts.proofs.space.KnownSpaceSpace.node.Goals as goal

pub invariant_of-self-then-not-is_empty : goal.invariant_of-self-then-not-is_empty
invariant_of-self-then-not-is_empty g c = record {
  agrees = c.args.self.now.agrees;
  numbered = c.args.self.now.numbered;
  drawn = ap drawn_in c.in-Ok.ensures.ok ∙ drawn_read c.args.self.now.calls.items c.args.oid ∙ c.args.self.now.drawn;
  written = ap written_in c.in-Ok.ensures.ok ∙ written_read c.args.self.now.calls.items c.args.oid ∙ c.args.self.now.written;
  based = c.args.self.now.based;
  filled = c.args.self.now.filled;
  lacking = c.note_call.ensures.lacked c.args.self.now.lacked c.args.self.now.lacking;
}

pub invariant_of-self-in-Some-1 : goal.invariant_of-self-in-Some-1
invariant_of-self-in-Some-1 g c = record {
  agrees = c.args.self.now.agrees;
  numbered = c.args.self.now.numbered;
  drawn = ap drawn_in c.in-Ok.ensures.ok ∙ drawn_read c.args.self.now.calls.items c.args.oid ∙ c.args.self.now.drawn;
  written = ap written_in c.in-Ok.ensures.ok ∙ written_read c.args.self.now.calls.items c.args.oid ∙ c.args.self.now.written;
  based = c.args.self.now.based;
  filled = c.args.self.now.filled;
  lacking = c.note_call.ensures.lacked c.args.self.now.lacked c.args.self.now.lacking;
}

pub invariant_of-self-in-None : goal.invariant_of-self-in-None
invariant_of-self-in-None g c = record {
  agrees = c.args.self.now.agrees;
  numbered = c.args.self.now.numbered;
  drawn = ap drawn_in c.in-Ok.ensures.ok ∙ drawn_read c.args.self.now.calls.items c.args.oid ∙ c.args.self.now.drawn;
  written = ap written_in c.in-Ok.ensures.ok ∙ written_read c.args.self.now.calls.items c.args.oid ∙ c.args.self.now.written;
  based = c.args.self.now.based;
  filled = c.args.self.now.filled;
  lacking = read_lacked c.args.self.now.calls.items _ c.args.oid c.in-Ok.ensures.ok;
}

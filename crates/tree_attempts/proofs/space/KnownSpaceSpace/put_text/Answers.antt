-- An object is put.
use Rattle.std.proofs.Common.{◌≡◌, ◌∙◌, ap, subst}
use Rattle.tree_attempts.specs.Calls.{contents_after, contents_of}
use Rattle.tree_attempts.specs.Puts.{based_on}
use Rattle.tree_attempts.proofs.Tracking.{contents_more, text_filled}
use Rattle.tree_attempts.proofs.space.KnownSpaceSpace.put_text.Goals as goal

pub invariant_of-self : goal.invariant_of-self
invariant_of-self g c = record {
  agrees = c.args.self.now.agrees;
  numbered = c.args.self.now.numbered;
  drawn = c.note_put.ensures.drawn ∙ c.args.self.now.drawn;
  written = c.note_put.ensures.written c.args.self.now.written;
  based = c.note_put.ensures.based (based_on g.B.Sight.numbers g.B.Sight.objects)
      (subst (λ ns. c.in-Some.base ≡ based_on ns g.B.Sight.objects c.args.oid) c.args.self.now.numbered (c.in-Some.ensures g.B.Sight.objects c.args.self.now.agrees)) c.args.self.now.based;
  filled = c.note_put.ensures.filled (text_filled c.args.bytes c.requires.text) c.args.self.now.filled;
  lacking = c.note_put.ensures.lacked c.args.self.now.lacked c.args.self.now.lacking;
}

pub returns-in-Ok-clause-ok : goal.returns-in-Ok-clause-ok
returns-in-Ok-clause-ok g c =
    ap (λ ps. contents_after ps (contents_of g.B.Sight.objects)) c.in-Ok.ensures.puts ∙ contents_more c.args.self.now.puts _ (contents_of g.B.Sight.objects)

use Rattle.std.proofs.Common.{◌≡◌, rules, length}
use Rattle.savepoints.specs.declared.replaced.Mark.{Mark}
use Rattle.savepoints.proofs.Marks.{marks_saved}
use Rattle.savepoints.proofs.waiting.Waiting.save.Goals as goal

pub invariant_of-self-2 : goal.invariant_of-self-2
invariant_of-self-2 c =
    let at : c.len-log.result ≡ length c.self.inside.log.items = search rules in
    let mark : Mark = record { log = c.len-log.result; extent = c.extent-extent.result } in
    marks_saved c.self.inside.pending c.self.inside.log.items c.self.inside.marks.items c.push.new.self.items mark c.self.invariant c.in_ok-push.ensures.items at
    c.extent-extent.ensures.stores c.extent-extent.ensures.checks c.extent-extent.ensures.size c.extent-extent.ensures.are

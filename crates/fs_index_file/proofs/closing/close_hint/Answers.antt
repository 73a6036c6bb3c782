use Rattle.fs_index_file.proofs.Gates.{nothing_done, nothing_moved}
use Rattle.fs_index_file.proofs.closing.close_hint.Goals as goal

pub returns-in-Err-clause-any_moment : goal.returns-in-Err-clause-any_moment
returns-in-Err-clause-any_moment g c = λ told is. nothing_done (g.V.Volume.state c.args.volume.now).log (g.V.Volume.state c.len.new.self).log is c.len.ensures.read.same

pub returns-in-Err-clause-others : goal.returns-in-Err-clause-others
returns-in-Err-clause-others g c = λ told other not. nothing_moved other (g.V.Volume.state c.args.volume.now).log (g.V.Volume.state c.len.new.self).log c.len.ensures.read.same

pub returns-then-length-eq0-clause-any_moment : goal.returns-then-length-eq0-clause-any_moment
returns-then-length-eq0-clause-any_moment g c = λ told is. nothing_done (g.V.Volume.state c.args.volume.now).log (g.V.Volume.state c.len.new.self).log is c.len.ensures.read.same

pub returns-then-length-eq0-clause-others : goal.returns-then-length-eq0-clause-others
returns-then-length-eq0-clause-others g c = λ told other not. nothing_moved other (g.V.Volume.state c.args.volume.now).log (g.V.Volume.state c.len.new.self).log c.len.ensures.read.same

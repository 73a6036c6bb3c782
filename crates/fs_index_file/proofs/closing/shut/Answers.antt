use Rattle.std.proofs.Common.{◌∙◌}
use Rattle.fs_index_file.proofs.Gates.{shut_leaves, shut_is}
use Rattle.fs_index_file.proofs.closing.shut.Goals as goal
use Rattle.zb_volume.specs.declared.areas.Area.TheVariants.{Hint}
use Rattle.zb_volume.specs.Disk.{seen}

pub returns-in_err-write_and_sync-clause-any_moment : goal.returns-in_err-write_and_sync-clause-any_moment
returns-in_err-write_and_sync-clause-any_moment g c told is = shut_leaves (g.V.Volume.state c.args.volume.now).log (g.V.Volume.state c.write_and_sync.new.volume).log is (c.write_and_sync.ensures.any_moment told)

pub returns-clause-any_moment : goal.returns-clause-any_moment
returns-clause-any_moment g c told is = shut_leaves (g.V.Volume.state c.args.volume.now).log (g.V.Volume.state c.write_and_sync.new.volume).log is (c.write_and_sync.ensures.any_moment told)

pub returns-clause-content : goal.returns-clause-content
returns-clause-content g c told = c.in_ok-write_and_sync.ensures.content told ∙ shut_is (seen (g.V.Volume.state c.args.volume.now).log Hint)

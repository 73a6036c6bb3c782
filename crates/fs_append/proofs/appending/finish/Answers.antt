use Rattle.std.proofs.Common.{◌+◌, ◌<◌, length, arith}
use Rattle.zb_volume.specs.declared.areas.Area.TheVariants.{Main}
use Rattle.zb_volume.specs.Disk.{seen}
use Rattle.fs_append.proofs.Mixes.{finish_leaves}
use Rattle.fs_append.proofs.appending.finish.Goals as goal

pub returns-clause-any_moment : goal.returns-clause-any_moment
returns-clause-any_moment g c told settled =
    let log = (g.V.Volume.state c.args.volume.now).log in
    let within : c.args.end + 16 < length (seen log Main) = omega (arith, c.requires.within told) in
    finish_leaves log _ (c.args.end + 16) 32 within settled (c.write_and_sync.ensures.any_moment told)

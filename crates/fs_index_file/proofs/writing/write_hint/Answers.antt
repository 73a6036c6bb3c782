use Rattle.std.proofs.Common.{refl}
use Rattle.zb_volume.specs.declared.areas.Area.TheVariants.{Hint}
use Rattle.zb_volume.specs.Disk.{seen}
use Rattle.fs_index_file.proofs.Gates.{nothing_moved, nothing_written, written_leaves}
use Rattle.fs_index_file.proofs.writing.write_hint.Goals as goal

pub returns-in_default-clause-any_moment : goal.returns-in_default-clause-any_moment
returns-in_default-clause-any_moment g c = λ told is. nothing_written c.args.index.now c.args.numbers.now.tallies c.args.end (g.V.Volume.state c.args.volume.now).log is

pub returns-in_default-clause-others : goal.returns-in_default-clause-others
returns-in_default-clause-others g c = λ told other not. nothing_moved other (g.V.Volume.state c.args.volume.now).log (g.V.Volume.state c.args.volume.now).log refl

pub returns-in-Ok-put_file-clause-any_moment : goal.returns-in-Ok-put_file-clause-any_moment
returns-in-Ok-put_file-clause-any_moment g c = λ told is. written_leaves (seen (g.V.Volume.state c.args.volume.now).log Hint) c.in-Ok.rest.items c.as_slice.result.now c.args.index.now c.args.numbers.now.tallies c.args.numbers.now.tallies c.args.end (g.V.Volume.state c.args.volume.now).log (g.V.Volume.state c.put_file.new.volume).log c.as_slice.ensures.value refl c.in-Ok.ensures (c.put_file.ensures.any_moment told is)

pub returns-clause-any_moment : goal.returns-clause-any_moment
returns-clause-any_moment g c = λ told is. written_leaves (seen (g.V.Volume.state c.args.volume.now).log Hint) c.in-Ok.rest.items c.as_slice.result.now c.args.index.now c.args.numbers.now.tallies c.args.numbers.now.tallies c.args.end (g.V.Volume.state c.args.volume.now).log (g.V.Volume.state c.put_file.new.volume).log c.as_slice.ensures.value refl c.in-Ok.ensures (c.put_file.ensures.any_moment told is)

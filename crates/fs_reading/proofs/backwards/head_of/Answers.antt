use Rattle.std.proofs.Common.{◌∙◌}
use Rattle.zb_volume.specs.Disk.{main_bytes}
use Rattle.fs_reading.proofs.Showing.{head_shown}
use Rattle.fs_reading.proofs.backwards.head_of.Goals as goal

pub returns-then-covers-clause-value : goal.returns-then-covers-clause-value
returns-then-covers-clause-value g c = λ told.
    c.read_header.ensures.value ∙ head_shown c.args.piece.now c.args.at (main_bytes (g.V.Volume.state c.args.volume.now).log) c.copy_from_slice.new.self (c.requires.shows told) (c.covers.ensures c.if-covers.true) (c.copy_from_slice.ensures.after ∙ c.held_at.ensures.bytes)

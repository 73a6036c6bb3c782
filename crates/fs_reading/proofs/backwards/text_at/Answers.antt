use Rattle.std.proofs.Common.{◌∙◌}
use Rattle.zb_volume.specs.Disk.{main_bytes}
use Rattle.fs_reading.proofs.Showing.{shown}
use Rattle.fs_reading.proofs.backwards.text_at.Goals as goal

pub returns-then-covers-clause-value : goal.returns-then-covers-clause-value
returns-then-covers-clause-value g c = λ told.
    c.in_ok-bytes.ensures ∙ c.held_at.ensures.bytes ∙ shown c.args.piece.now c.args.at c.args.count (main_bytes (g.V.Volume.state c.args.volume.now).log) (c.requires.shows told) (c.covers.ensures c.if-covers.true)

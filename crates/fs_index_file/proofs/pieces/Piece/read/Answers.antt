use Rattle.std.proofs.Common.{ℕ, ◌∙◌, ap, sym, take, drop, arith}
use Rattle.zb_volume.specs.declared.areas.Area.TheVariants.{Hint}
use Rattle.zb_volume.specs.Disk.{seen}
use Rattle.fs_recovery.specs.Seen.{shown}
use Rattle.fs_index_file.proofs.pieces.Piece.read.Goals as goal

pub returns-then-covers-clause-bytes : goal.returns-then-covers-clause-bytes
returns-then-covers-clause-bytes g c = λ told.
    c.copy_from_slice.ensures.after ∙ c.piece.ensures.bytes
    ∙ shown c.args.self.now.at c.args.self.now.count c.args.at g.row.M c.args.self.now.held (seen (g.V.Volume.state c.args.volume.now).log Hint) (c.requires.shows told) (c.covers.ensures c.if-covers.true)
    ∙ ap (λ (n : ℕ). take n (drop c.args.at (seen (g.V.Volume.state c.args.volume.now).log Hint))) (sym c.told-out)

pub returns-clause-bytes : goal.returns-clause-bytes
returns-clause-bytes g c = λ told.
    c.copy_from_slice-2.ensures.after ∙ c.piece-2.ensures.bytes
    ∙ shown c.fill.new.self.at c.fill.new.self.count c.args.at g.row.M c.fill.new.self.held (seen (g.V.Volume.state c.args.volume.now).log Hint) (c.fill.ensures.shows told)
    (record { no_earlier = omega (arith, c.in_ok-fill.ensures.at); no_later = omega (arith, c.in_ok-fill.ensures.at, c.in_ok-fill.ensures.count, c.requires.small, c.requires.within, c.told-out) })
    ∙ ap (λ (n : ℕ). take n (drop c.args.at (seen (g.V.Volume.state c.args.volume.now).log Hint))) (sym c.told-out)

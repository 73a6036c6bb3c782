use Rattle.std.proofs.Common.{◌≡◌, ◌/◌, arith, sym, ◌∙◌, take, length}
use Rattle.zb_ids.specs.HexLaws.{pair_refused, all_read}
use Rattle.std.proofs.lemmas.List.{length-set}
use Rattle.literal_reading.proofs.Pieces.{byte_read}
use Rattle.literal_reading.proofs.digits.piece_of.Goals as goal

pub returns-in_default : goal.returns-in_default
returns-in_default c = sym (pair_refused c.args.text.now _ c.loop-i.i _ (omega arith) (sym c.read_hex_pair.ensures ∙ c.in_default.is) c.loop-i.invariant.0)

pub loop-i-preserved : goal.loop-i-preserved
loop-i-preserved c = (byte_read c.args.text.now c.loop-i.piece c.loop-i.i c.in-Some.byte _ (omega (arith, c.requires.even)) (omega (arith, c.requires.few, c.loop-i.invariant.1)) (sym c.read_hex_pair.ensures ∙ c.in-Some.is) c.loop-i.invariant.0, length-set c.loop-i.piece c.loop-i.i c.in-Some.byte ∙ c.loop-i.invariant.1)

pub returns : goal.returns
returns c =
    let at : c.loop-i.i ≡ length c.args.text.now / 2 = omega (arith, c.loop-i.auto.i-end, c.loop-i-test.false) in
    sym (all_read c.args.text.now (take (length c.args.text.now / 2) c.loop-i.piece) (length c.args.text.now / 2) _ (omega (arith, c.requires.even)) (rw (← at) c.loop-i.invariant.0))

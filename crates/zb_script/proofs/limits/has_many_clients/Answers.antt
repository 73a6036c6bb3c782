use Rattle.std.proofs.Common.{◌≡◌, [], sym, arith, rules}
use Rattle.zb_script.specs.Lines.{pieces}
use Rattle.zb_script.specs.Limits.{names_of}
use Rattle.zb_script.proofs.Counting.{too_many}
use Rattle.zb_script.proofs.limits.has_many_clients.Goals as goal

pub returns-then-len-gt64 : goal.returns-then-len-gt64
returns-then-len-gt64 c =
    let so_far : names_of c.note_name.new.names (pieces c.first_line.result.1.now) ≡ names_of [] (pieces c.args.bytes.now) = search (rules, c.loop-rest.invariant.so_far) in
    sym (too_many c.note_name.new.names (pieces c.first_line.result.1.now) _ so_far (omega arith))

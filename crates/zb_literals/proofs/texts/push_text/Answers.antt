use Rattle.std.proofs.Common.{◌≡◌, ◌++◌, subst, sym, List, ℕ, OnOk}
use Rattle.zb_literals.proofs.Utf8.{as_bytes}
use Rattle.zb_literals.proofs.texts.push_text.Goals as goal

pub returns-in-Err : goal.returns-in-Err
returns-in-Err c = subst (λ (text : List ℕ). OnOk c.push_bytes.result (c.push_bytes.new.out.items ≡ c.args.out.now.items ++ text)) (sym (as_bytes c.args.bytes.now c.in-Err.ensures.cases.0)) c.push_bytes.ensures

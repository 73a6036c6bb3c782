-- What a call on a tree puts.
use Rattle.std.proofs.Common.{◌≡◌, [], refl}
use Rattle.client_turns.specs.declared.client.Client.{Client}
use Rattle.client_turns.proofs.Calling.{all_put}
use Rattle.client_turns.proofs.trees.put_all.Goals as goal

pub returns-clause-put : goal.returns-clause-put
returns-clause-put c =
    let y : Client = record { name = c.args.client.now.name; session = c.args.client.now.session; told = c.args.client.now.told; connection = c.store_all.new.self } in
    let some = λ (none : c.args.puts ≡ []). let yes = c.is_empty.ensures.1 none in let no = c.if-is_empty.false in absurd cc in
    all_put c.args.client.now y c.args.answer c.args.puts c.answered.result c.store_all.result (record { name = refl; session = refl; told = refl }) (λ u v is. c.store_all.ensures.view u v is) some
    c.store_all.ensures.leaves c.answered.ensures

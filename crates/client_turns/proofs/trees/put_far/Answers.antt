-- What a call on a tree puts, of a client with a link.
use Rattle.std.proofs.Common.{◌≡◌, [], refl}
use Rattle.client_turns.specs.Asking.{client_over}
use Rattle.client_turns.proofs.Calling.{all_put, far_put_in, far_put_lost, far_put_none}
use Rattle.client_turns.proofs.trees.put_far.Goals as goal

pub returns-then-far-clause-put : goal.returns-then-far-clause-put
returns-then-far-clause-put c = far_put_lost c.args.far.now c.args.answer c.args.puts c.if-far.true

pub returns-then-is_empty-clause-put : goal.returns-then-is_empty-clause-put
returns-then-is_empty-clause-put c = far_put_none c.args.far.now c.args.answer c.args.puts c.if-far.false (let yes = c.if-is_empty.true in c.is_empty.ensures.0 yes)

pub returns-clause-put : goal.returns-clause-put
returns-clause-put c =
    let some = λ (none : c.args.puts ≡ []). let yes = c.is_empty.ensures.1 none in let no = c.if-is_empty.false in absurd cc in
    far_put_in c.args.far.now c.store_all.new.self c.args.answer c.args.puts c.answered.result c.if-far.false
    (all_put (client_over c.args.far.now.client.connection) (client_over c.store_all.new.self) c.args.answer c.args.puts c.answered.result c.store_all.result (record { name = refl; session = refl; told = refl }) (λ u v is. c.store_all.ensures.view u v is) some
    c.store_all.ensures.leaves c.answered.ensures)

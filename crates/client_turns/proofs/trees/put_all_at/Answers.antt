-- What a call on a tree puts, of the client at a place.
use Rattle.std.proofs.Common.{refl, subst}
use Rattle.client_turns.specs.declared.member.Member.{Member}
use Rattle.client_turns.specs.Asking.{IsMemberPut}
use Rattle.client_turns.proofs.Placing.{same_at}
use Rattle.client_turns.proofs.trees.put_all_at.Goals as goal

pub returns-clause-put : goal.returns-clause-put
returns-clause-put c = λ x there. (
  c.put_all_of.new.member,
  refl,
  subst (λ (z : Member). IsMemberPut z c.put_all_of.new.member c.args.answer c.args.puts c.put_all_of.result) (same_at c.args.clients.now.items c.args.at x c.index_mut.result.now there c.index_mut.ensures.value) c.put_all_of.ensures.put,
)

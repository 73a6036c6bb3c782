-- An attempt of a client.
use Rattle.std.proofs.Common.{◌∙◌, List, ap, subst}
use Rattle.std.specs.Prelude.{slice_get}
use Rattle.tree_attempts.specs.Calls.{HasRead, IsAttempt}
use Rattle.connection_view.specs.Connections.{work_of}
use Rattle.client_turns.specs.declared.member.Member.{Member}
use Rattle.client_turns.specs.Gathering.{objects_over}
use Rattle.client_turns.proofs.clients.Clients.attempt_at.Goals as goal

pub returns-clause-attempt : goal.returns-clause-attempt
returns-clause-attempt g c =
    let connection = c.connection_at.result.now in (
      connection,
      λ x there. c.connection_at.ensures.connection x (ap (λ (xs : List Member). slice_get xs c.args.at) (c.as_slice.ensures.value ∙ ap (λ s. s.clients) c.self.view_is) ∙ there),
      subst (λ s. IsAttempt (objects_over c.args.known.now s.hub.store.list (work_of connection)) c.args.root c.args.operation.now c.args.numbers.now c.in_ok-attempt.attempt) c.self.view_is c.in_ok-attempt.ensures.attempt,
      subst (λ s. HasRead c.args.known.now (objects_over c.args.known.now s.hub.store.list (work_of connection)) c.args.root c.args.operation.now c.args.numbers.now c.in_ok-attempt.attempt) c.self.view_is c.in_ok-attempt.ensures.reads,
    )

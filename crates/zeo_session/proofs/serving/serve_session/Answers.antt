use Rattle.zeo_session.proofs.Over.{session_follows, session_over}
use Rattle.zeo_session.proofs.serving.serve_session.Goals as goal

pub returns-clause-begins : goal.returns-clause-begins
returns-clause-begins g c =
    let s = c.serve_link-served.ensures.served in
    (session_follows _ _ _ _ _ _ _ _ _ _ _ _ _ _ s.served s.knows c.call-closed.ensures).1

pub returns-clause-session : goal.returns-clause-session
returns-clause-session g c =
    let s = c.serve_link-served.ensures.served in
    (session_follows _ _ _ _ _ _ _ _ _ _ _ _ _ _ s.served s.knows c.call-closed.ensures).0

pub returns-clause-over : goal.returns-clause-over
returns-clause-over g c =
    let s = c.serve_link-served.ensures.served in
    session_over _ _ _ _ _ _ _ _ _ _ _ _ _ _ s.served s.knows c.call-closed.ensures (λ told needs. cc)

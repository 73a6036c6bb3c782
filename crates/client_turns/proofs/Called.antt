-- A line that a connection answers, by another name for it.
use Rattle.std.proofs.Common.{◌≡◌, sym, subst}
use Rattle.zb_answers.specs.declared.answer.Answer.{Answer}
use Rattle.zb_script.specs.declared.line.Line.{Line}
use Rattle.connection_view.specs.declared.connection.Connection.{Connection}
use Rattle.connection_view.specs.Loading.{LoadsCall}
use Rattle.connection_view.specs.Views.{Client, Server, View}
use Rattle.client_turns.specs.Calls.{Calls, CallsLine, is_made}

pub line_made : {S : Type 0} (here : S → Client → Type 0) (fresh : S → Client → View) (may : S → LoadsCall → S → Type 0) (server : S → Server) (x : Connection) (a : S) (l k : Line) (reply : Answer) (y : Connection) (b : S) → l ≡ k
    → Calls here fresh may server x a k reply y b → CallsLine here fresh may server x a l reply y b
line_made here fresh may server x a l k reply y b is calls = is_made (subst (λ (z : Line). Calls here fresh may server x a z reply y b) (sym is) calls)

use Rattle.std.proofs.Common.{◌≡◌, Some}
use Rattle.zodb_core.specs.declared.request.Request.TheVariants as request
use Rattle.program_words.specs.declared.command.Asked.TheVariants.{UndoLog, History, Show, Digest}
use Rattle.zodb_top.specs.Asked.{lines_of}
use Rattle.zodb_top.specs.Asking.{IsLast, IsStepped, replied_lines}
use Rattle.zodb_top.proofs.Asks.{digest_replies, history_replies, ok_map, show_replies, undolog_replies}
use Rattle.zodb_top.proofs.asking.reply_to.Goals as goal

pub returns-in-UndoLog-clause-reply : goal.returns-in-UndoLog-clause-reply
returns-in-UndoLog-clause-reply g c = λ told m stands whole.
    rw c.in-UndoLog.is (ok_map c.ask.result (λ r. IsStepped m c.args.session request.UndoLog r) (λ r. replied_lines UndoLog r ≡ Some (lines_of UndoLog m.list)) (c.ask.ensures.reply told m stands)
    (λ r s. undolog_replies m c.args.session r s))

pub returns-in-History-clause-reply : goal.returns-in-History-clause-reply
returns-in-History-clause-reply g c = λ told m stands whole.
    rw c.in-History.is (ok_map c.ask-in-History.result (λ r. IsStepped m c.args.session (request.History c.in-History.oid) r) (λ r. replied_lines (History c.in-History.oid) r ≡ Some (lines_of (History c.in-History.oid) m.list))
    (c.ask-in-History.ensures.reply told m stands) (λ r s. history_replies m c.args.session c.in-History.oid r s))

pub returns-in-Show-clause-reply : goal.returns-in-Show-clause-reply
returns-in-Show-clause-reply g c = λ told m stands whole.
    rw c.in-Show.is (ok_map c.load_last.result (IsLast c.in-Show.oid m.list) (λ r. replied_lines (Show c.in-Show.oid) r ≡ Some (lines_of (Show c.in-Show.oid) m.list)) (c.load_last.ensures.last told m stands whole)
    (λ r last. show_replies m.list c.in-Show.oid r last))

pub returns-in-Digest-clause-reply : goal.returns-in-Digest-clause-reply
returns-in-Digest-clause-reply g c = λ told m stands whole.
    rw c.in-Digest.is (ok_map c.load_last-in-Digest.result (IsLast c.in-Digest.oid m.list) (λ r. replied_lines (Digest c.in-Digest.oid) r ≡ Some (lines_of (Digest c.in-Digest.oid) m.list)) (c.load_last-in-Digest.ensures.last told m stands whole)
    (λ r last. digest_replies m.list c.in-Digest.oid r last))

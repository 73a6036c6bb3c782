use Rattle.std.proofs.Common.{◌≡◌, List, Some, false, ap, arith, drop, length, refl, subst}
use Rattle.std.specs.Prelude.{slice_get}
use Rattle.std.specs.List.{list_any}
use Rattle.std.proofs.lemmas.Bool.{leb-true}
use Rattle.std.proofs.lemmas.Option.{slice_get_read}
use Rattle.zodb_core.specs.declared.journal.JournalEntry.{JournalEntry}
use Rattle.zodb_core.specs.Machine.{is_news_for}
use Rattle.zodb_core.proofs.Telling.{quiet_behind}
use Rattle.zodb_core.proofs.session_journal.SessionJournal.was_told.Goals as goal

pub returns-then-session : goal.returns-then-session
returns-then-session c = λ less.
    let kept = c.self.inside.kept.items in
    let s = c.index-session.result.now in
    let there : slice_get kept c.args.number ≡ Some s = slice_get_read kept (length kept) c.args.number s refl (omega (arith, c.if-number-len.false, c.len.ensures)) c.index-session.ensures in
    let keeps = c.self.invariant.each c.args.number s there c.if-session.true in
    subst (λ (es : List JournalEntry). list_any (is_news_for c.args.number) (drop c.args.told es) ≡ false) (ap (λ v. v.entries) c.self.view_is)
    (quiet_behind c.args.number s.newest c.args.told c.self.inside.items.items (leb-true s.newest c.args.told less) keeps.quiet)

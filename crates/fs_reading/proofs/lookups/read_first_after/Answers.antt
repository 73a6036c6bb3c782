use Rattle.std.proofs.Common.{◌≡◌, ℕ, ◌+◌, ◌^◌, ◌<◌, ◌≤◌, List, Option, sym, ap, ◌∙◌, arith}
use Rattle.fs_index.specs.declared.place.Place.{Place}
use Rattle.fs_index.specs.Found.{first_from}
use Rattle.fs_reading.proofs.Starts.{above_tid, none_above_tid, none_above_all}
use Rattle.fs_reading.proofs.lookups.read_first_after.Goals as goal

greatest : (inside tid : ℕ) → inside ≡ tid → (inside + 1 < 2 ^ 64 → ⊥) → 2 ^ 64 ≤ tid + 1
greatest inside tid same past = omega arith

-- the first place from the number behind a tid
behind : (inside tid next : ℕ) (starts : List Place) (r : Option Place) → inside ≡ tid → next ≡ inside + 1 → r ≡ first_from next starts → r ≡ first_from (tid + 1) starts
behind inside tid next starts r same next_is found = let e : next ≡ tid + 1 = omega arith in found ∙ ap (λ (n : ℕ). first_from n starts) e

pub returns-in_default-clause-found : goal.returns-in_default-clause-found
returns-in_default-clause-found g c = λ told reached begins are.
    none_above_all _ reached c.args.tid begins (greatest c.tid.inside.0 c.args.tid c.tid.view_is c.in_default.ensures)

pub returns-in_default-first_from-clause-found : goal.returns-in_default-first_from-clause-found
returns-in_default-first_from-clause-found g c = λ told reached begins are.
    none_above_tid _ reached c.args.tid c.args.starts.now c.first_from.result begins are
    (behind c.tid.inside.0 c.args.tid c.in-Some.next c.args.starts.now c.first_from.result c.tid.view_is c.in-Some.ensures.1 c.first_from.ensures) c.in_default-first_from.is

pub read_transaction_at-requires-clause-start : goal.read_transaction_at-requires-clause-start
read_transaction_at-requires-clause-start g c = λ told.
    let file = c.requires.starts told in
    let found = above_tid _ file.reached c.args.tid c.args.starts.now c.first_from.result c.in-Some-first_from.start file.begins file.are
    (behind c.tid.inside.0 c.args.tid c.in-Some.next c.args.starts.now c.first_from.result c.tid.view_is c.in-Some.ensures.1 c.first_from.ensures) c.in-Some-first_from.is in
    record { reached = file.reached; number = found.number; begins = file.begins; is = found.is; short = file.short }

pub returns-clause-found : goal.returns-clause-found
returns-clause-found g c = λ told reached begins are.
    let found = above_tid _ reached c.args.tid c.args.starts.now c.first_from.result c.in-Some-first_from.start begins are
    (behind c.tid.inside.0 c.args.tid c.in-Some.next c.args.starts.now c.first_from.result c.tid.view_is c.in-Some.ensures.1 c.first_from.ensures) c.in-Some-first_from.is in
    sym (found.finds c.in_ok-read_transaction_at.field-0 (c.in_ok-read_transaction_at.ensures.transaction told reached found.number begins found.is))

use Rattle.std.proofs.Common.{◌≡◌, ℕ, ◌+◌, ◌^◌, ◌<◌, ◌≤◌, List, Option, option_map, sym, ap, ◌∙◌, arith}
use Rattle.fs_index.specs.declared.place.Place.{Place}
use Rattle.fs_index.specs.Found.{first_from}
use Rattle.fs_reading.proofs.Starts.{no_tid_above, tid_above}
use Rattle.fs_reading.proofs.lookups.first_tid_after.Goals as goal

greatest : (inside tid : ℕ) → inside ≡ tid → (inside + 1 < 2 ^ 64 → ⊥) → 2 ^ 64 ≤ tid + 1
greatest inside tid same past = omega arith

-- the first place from the number behind a tid
behind : (inside tid next : ℕ) (starts : List Place) (r : Option ℕ) → inside ≡ tid → next ≡ inside + 1 → r ≡ option_map (λ (p : Place). p.serial) (first_from next starts) → r ≡ option_map (λ (p : Place). p.serial) (first_from (tid + 1) starts)
behind inside tid next starts r same next_is found = let e : next ≡ tid + 1 = omega arith in found ∙ ap (λ (n : ℕ). option_map (λ (p : Place). p.serial) (first_from n starts)) e

pub returns-in_default : goal.returns-in_default
returns-in_default c = λ bytes reached begins are.
    no_tid_above bytes reached c.args.tid begins (greatest c.tid.inside.0 c.args.tid c.tid.view_is c.in_default.ensures)

pub returns : goal.returns
returns c = λ bytes reached begins are.
    tid_above bytes reached c.args.tid c.args.starts.now c.serial_from.result begins are
    (behind c.tid.inside.0 c.args.tid c.in-Some.next c.args.starts.now c.serial_from.result c.tid.view_is c.in-Some.ensures.1 c.serial_from.ensures)

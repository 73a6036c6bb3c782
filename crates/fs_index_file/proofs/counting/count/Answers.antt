use Rattle.std.proofs.Common.{ap, sym, ◌∙◌, arith}
use Rattle.std.specs.Prelude.{◌==◌, slice_set}
use Rattle.fs_index_file.specs.Counts.{with_object}
use Rattle.std.proofs.lemmas.Bool.{eqb-true}
use Rattle.fs_index.specs.declared.place.Place.{Place}
use Rattle.fs_recovery.specs.declared.counted.Counted.{Counted}
use Rattle.fs_index_file.proofs.Summing.{counts_none, counts_one, got_at, none_again, not_its, some_within}
use Rattle.fs_index_file.proofs.counting.count.Goals as goal
use Rattle.fs_index_file.proofs.counting.count.Goals.{else-at-starts-via-then-at-starts+then-at-counted+else-eq, else-at-starts-via-then-at-starts+else-at-counted, else-at-starts-via-else-at-starts}

pub returns-then-is_same : goal.returns-then-is_same
returns-then-is_same c = λ rises. sym (none_again c.args.last.now c.args.entry.now c.args.starts.now c.args.counted.now (sym c.is_same.ensures ∙ c.if-is_same.true))

pub returns-then-eq : goal.returns-then-eq
returns-then-eq c = λ rises.
    let n = c.place_of-at.result in
    let p = c.index-starts-at.result in
    let d = c.index-counted-at.result in
    ap (λ (x : Counted). slice_set c.args.counted.now n x) (c.more.ensures ∙ ap (λ (x : Counted). with_object c.args.entry.now.oid x) (sym c.index-counted-at.is))
    ∙ counts_one c.args.last.now c.args.entry.now 0 n c.args.starts.now c.args.counted.now p d (sym c.is_same.ensures ∙ c.if-is_same.false) rises c.place_of-at.ensures.before
    (got_at c.args.starts.now n p c.if-at-starts.true c.index-starts-at.is) (ap (λ (x : Place). x.serial) c.index-starts-at.is ∙ eqb-true _ _ (sym c.eq.ensures ∙ c.if-eq.true)) (got_at c.args.counted.now n d c.if-at-counted.true c.index-counted-at.is)

pub returns-else-at-starts : goal.returns-else-at-starts
returns-else-at-starts c = λ rises.
    let n = c.place_of-at.result in
    sym (counts_none c.args.last.now c.args.entry.now 0 n c.args.starts.now c.args.counted.now rises c.place_of-at.ensures.before c.place_of-at.ensures.behind (λ p d has_p has_d same.
    elim c.else-at-starts.branch [
      | else-at-starts-via-then-at-starts+then-at-counted+else-eq w ↦
          not_its c.args.starts.now n w.index-starts-at.result p c.args.entry.now.place.serial (got_at c.args.starts.now n w.index-starts-at.result w.if-at-starts.true w.index-starts-at.is) has_p (ap (λ (x : Place). x.serial == c.args.entry.now.place.serial) w.index-starts-at.is ∙ sym w.eq.ensures ∙ w.if-eq.false) same
      | else-at-starts-via-then-at-starts+else-at-counted w ↦ absurd (omega (arith, w.if-at-counted.false, some_within c.args.counted.now n d has_d))
      | else-at-starts-via-else-at-starts w ↦ absurd (omega (arith, w.if-at-starts.false, some_within c.args.starts.now n p has_p))
    ]))

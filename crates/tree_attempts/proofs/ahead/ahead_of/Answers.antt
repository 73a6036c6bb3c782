-- One level after another.
use Rattle.std.proofs.Common.{rules, ◌≡◌, ◌≤◌, ◌+◌, ◌^◌, ℕ, suc, [], None, sym, subst, arith}
use Rattle.std.specs.Prelude.{All}
use Rattle.std.proofs.lemmas.List.Elements.{All-nil}
use Rattle.tree_attempts.specs.Ahead.{IsMet}
use Rattle.tree_attempts.specs.Calls.{contents_of}
use Rattle.tree_attempts.specs.Known.{known_at}
use Rattle.tree_attempts.proofs.Looking.{level_root}
use Rattle.tree_attempts.proofs.ahead.ahead_of.Goals as goal

pub levels-init : goal.levels-init
levels-init c =
    let none : c.new-wanted.result ≡ [] = c.new-wanted.ensures in
    record {
      unknown = subst (All (λ oid. known_at c.args.known.now oid ≡ None)) (sym none) (All-nil (λ oid. known_at c.args.known.now oid ≡ None));
      within = omega arith;
      met = λ objects agrees is. level_root (contents_of objects) c.args.root c.args.span.now c.new-level.result.items c.push.new.self.items c.new-wanted.result c.new-level.ensures.items c.in_ok-push.ensures.items none;
    }

pub levels-preserved : goal.levels-preserved
levels-preserved c = record {
  unknown = c.in_ok-open_level.ensures.unknown;
  within = search rules;
  met = λ objects agrees is.
      let at = c.levels.invariant.met objects agrees is in
      let room : suc c.levels.depth ≤ 2 ^ 64 = search rules in
      let none : c.new-below.result.items ≡ [] = cc in
      let same : suc c.levels.depth ≡ c.levels.depth + 1 = omega arith in
      let next = c.in_ok-open_level.ensures.met objects c.args.root (suc c.levels.depth) agrees is room
      (subst (All (IsMet (contents_of objects) c.args.root c.args.span.now (suc c.levels.depth))) (sym c.as_slice.ensures.value) at.0)
      (subst (All (IsMet (contents_of objects) c.args.root c.args.span.now (suc (suc c.levels.depth)))) (sym none) (All-nil (IsMet (contents_of objects) c.args.root c.args.span.now (suc (suc c.levels.depth)))), at.1) in
      (subst (λ (n : ℕ). All (IsMet (contents_of objects) c.args.root c.args.span.now (suc n)) c.open_level.new.below.items) same next.0, next.1);
}

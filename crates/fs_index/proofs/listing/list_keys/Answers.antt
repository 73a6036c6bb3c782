use Rattle.std.proofs.Common.{ℕ, ◌+◌, ◌∙◌, List, sym, subst, arith}
use Rattle.std.specs.List.{Contains}
use Rattle.fs_index.proofs.Collecting.{KeysUpTo, among_push, keys_listed, keys_more}
use Rattle.fs_index.proofs.listing.list_keys.Goals as goal

pub each-preserved : goal.each-preserved
each-preserved c = record {
  keys = subst (λ (xs : List ℕ). KeysUpTo (c.each.number + 1) xs c.args.others.now.entries) (sym c.in_ok-push.ensures.items) (keys_more c.each.number c.each.oids.items c.args.others.now.entries c.in-Some.oid (sym c.key_at.ensures ∙ c.in-Some.is) c.each.invariant.keys);
  kept = λ o there. subst (λ (xs : List ℕ). Contains xs o) (sym c.in_ok-push.ensures.items) (among_push c.each.oids.items c.in-Some.oid o (c.each.invariant.kept o there));
}

pub returns-clause-listed : goal.returns-clause-listed
returns-clause-listed c = keys_listed c.each.number c.each.oids.items c.args.others.now.entries (omega (arith, c.each-test.false, c.len-number-end.ensures.len)) c.each.invariant.keys

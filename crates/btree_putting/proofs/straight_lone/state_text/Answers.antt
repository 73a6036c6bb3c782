use Rattle.std.proofs.Common.{◌≡◌, ◌∙◌, ◌≤◌, length, true, subst, arith}
use Rattle.std.specs.Prelude.{None}
use Rattle.btree_family.specs.Buckets.{keys_of}
use Rattle.bucket_state.specs.FlatGraphs.{AreSignedKeys}
use Rattle.btree_putting.specs.declared.straight.TheConstants.{MOST_ITEMS}
use Rattle.btree_putting.specs.Straight.{are_of_one_kind}
use Rattle.btree_putting.specs.StraightLone.{is_last}
use Rattle.btree_putting.proofs.StraightLones.{found_so}
use Rattle.btree_putting.proofs.straight_lone.state_text.Goals as goal

pub returns : goal.returns
returns c =
    let bucket = c.args.bucket.now in
    let kinds : are_of_one_kind None (keys_of bucket.items) ≡ true = cc in
    let few : length bucket.items ≤ MOST_ITEMS = grind arith in
    let last : is_last bucket.next ≡ true = cc in
    let signed : AreSignedKeys (keys_of bucket.items) = subst (λ xs. AreSignedKeys (keys_of xs)) (c.as_slice-items.ensures ∙ c.items.ensures.items) c.see_all_signed.ensures in
    found_so _ bucket c.lone_state.result c.items.ensures.bucket kinds few last signed c.lone_state.ensures

use Rattle.std.proofs.Common.{◌≡◌, length}
use Rattle.btree_putting.specs.Puts.{add_all, sort_puts}
use Rattle.btree_putting.proofs.puts.in_order.Given as goal

abbrev pub invariant-olds : goal.invariant-olds
invariant-olds l = add_all l.olds l.all ≡ sort_puts l.fn.olds

abbrev pub decreases-olds : goal.decreases-olds
decreases-olds l = length l.olds

abbrev pub invariant-news : goal.invariant-news
invariant-news l = add_all l.news l.all ≡ add_all l.fn.news (sort_puts l.fn.olds)

abbrev pub decreases-news : goal.decreases-news
decreases-news l = length l.news

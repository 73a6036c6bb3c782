use Rattle.bucket_merge.proofs.Theorems.{exchanged}
use Rattle.bucket_merge.proofs.laws.exchanged_sides_merge_alike.Goals as goal

pub returns : goal.returns
returns c = exchanged

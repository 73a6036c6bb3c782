-- A list of copies is the list.
use Rattle.std.proofs.Common.{◌≡◌, List}
use Rattle.std.specs.List.{AllZip, each_same}
use Rattle.zb_model.specs.declared.data.Change.{Change}

pub all_same : (changes copies : List Change) → AllZip (λ change copy. copy ≡ change) changes copies → copies ≡ changes
all_same changes copies same = each_same changes copies same

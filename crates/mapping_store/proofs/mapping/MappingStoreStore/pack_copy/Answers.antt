use Rattle.std.proofs.Common.{◌∙◌, refl}
use Rattle.mapping_store.proofs.Counts.{still_counted}
use Rattle.mapping_store.proofs.Turns.{counted_front}
use Rattle.mapping_store.proofs.mapping.MappingStoreStore.pack_copy.Goals as goal

pub copied_length-length-requires-clause-bounded : goal.copied_length-length-requires-clause-bounded
copied_length-length-requires-clause-bounded c = still_counted c.as_slice-2.result.now c.in_ok-packed.packed.items c.as_slice.result.now c.args.self.now.items.items c.args.self.now.count c.as_slice-2.ensures.value c.as_slice.ensures.value c.in_ok-packed.ensures.fewer c.args.self.now.counted c.args.self.now.bounded

pub count_changes-count-requires : goal.count_changes-count-requires
count_changes-count-requires c = counted_front c.copied_length-length.result c.in_ok-packed.packed.items c.as_slice-3.result.now (c.as_slice-3.ensures.value ∙ c.truncate.ensures.items)
    (still_counted c.in_ok-packed.packed.items c.in_ok-packed.packed.items c.as_slice.result.now c.args.self.now.items.items c.args.self.now.count refl c.as_slice.ensures.value c.in_ok-packed.ensures.fewer c.args.self.now.counted c.args.self.now.bounded)

use Rattle.std.proofs.Common.{ℕ, List, ◌++◌, map, sym, ap, subst, ◌∙◌, arith}
use Rattle.std.specs.List.Sorted.{IsStrictlyIncreasing}
use Rattle.fs_index.specs.declared.place.Place.{Place}
use Rattle.fs_index.specs.declared.place.Placed.{Placed}
use Rattle.fs_index.specs.Places.{Kept}
use Rattle.fs_index.specs.Listed.{AreListed, placed}
use Rattle.fs_index.proofs.Collecting.{Collected, none_collected, one_collected, all_collected, listed_more}
use Rattle.fs_index.proofs.index.Index.records.Goals as goal

pub each-init : goal.each-init
each-init c = record { so_far = subst (λ (rs : List Placed). Collected c.args.self.now.entries c.as_slice-oid-items.result.now 0 rs) (sym c.new-records.ensures.items) (none_collected c.args.self.now.entries c.as_slice-oid-items.result.now) }

pub each-preserved : goal.each-preserved
each-preserved c = record {
  so_far = one_collected c.args.self.now.entries c.as_slice-oid-items.result.now c.each.oid-index c.oid-item.result c.each.records.items c.push_all.new.records.items
      (subst (λ (xs : List ℕ). IsStrictlyIncreasing xs) (sym c.as_slice-oid-items.ensures.value) c.in_ok-oids.ensures.rising)
      c.each-test.true c.oid-item.is c.each.invariant.so_far
      (c.in_ok-push_all.ensures ∙ ap (λ (ps : List Place). c.each.records.items ++ map (placed c.oid-item.result) ps) c.places.ensures.value);
}

pub returns : goal.returns
returns c =
    let listed : AreListed c.as_slice-oid-items.result.now c.args.self.now.entries =
    subst (λ (xs : List ℕ). AreListed xs c.args.self.now.entries) (sym c.as_slice-oid-items.ensures.value) (listed_more c.in_ok-list.field-0.items c.in_ok-oids.oids.items c.args.self.now.entries c.in_ok-oids.ensures.kept (subst (λ (k : Kept). AreListed c.in_ok-list.field-0.items k.entries) c.self.view_is c.in_ok-list.ensures)) in
    all_collected c.args.self.now.entries c.as_slice-oid-items.result.now c.each.oid-index c.each.records.items (omega (arith, c.each-test.false)) listed c.each.invariant.so_far

use Rattle.std.proofs.Common.{List, ◌++◌, ◌∷◌, [], map, take, sym, ap, ◌∙◌, append_assoc, arith}
use Rattle.std.proofs.lemmas.List.{append-nil, map-append, take_all, take_more}
use Rattle.fs_index.specs.declared.place.Place.{Place}
use Rattle.fs_index.specs.declared.place.Placed.{Placed}
use Rattle.fs_index.specs.Listed.{placed}
use Rattle.fs_index.proofs.listing.push_all.Goals as goal

pub each-init : goal.each-init
each-init c = record { pushed = sym (append-nil c.args.records.now.items) }

pub each-preserved : goal.each-preserved
each-preserved c = record {
  pushed =
      c.in_ok-push.ensures.items
      ∙ ap (λ (rs : List Placed). rs ++ placed c.args.oid c.place-item.result ∷ []) c.each.invariant.pushed
      ∙ append_assoc c.args.records.now.items (map (placed c.args.oid) (take c.each.place-index c.args.places.now)) (placed c.args.oid c.place-item.result ∷ [])
      ∙ ap (λ (rs : List Placed). c.args.records.now.items ++ rs) (sym (map-append (placed c.args.oid) (take c.each.place-index c.args.places.now) (c.place-item.result ∷ [])))
      ∙ ap (λ (ps : List Place). c.args.records.now.items ++ map (placed c.args.oid) ps)
      (ap (λ (p : Place). take c.each.place-index c.args.places.now ++ p ∷ []) c.place-item.is ∙ sym (take_more c.args.places.now c.each.place-index c.place-item.result c.each-test.true));
}

pub returns : goal.returns
returns c = c.each.invariant.pushed ∙ ap (λ (ps : List Place). c.args.records.now.items ++ map (placed c.args.oid) ps) (take_all c.each.place-index c.args.places.now (omega (arith, c.each-test.false)))

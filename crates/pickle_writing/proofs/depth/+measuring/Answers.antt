use Rattle.std.proofs.Common.{◌<◌, length, sym, ◌∙◌, ap, arith}
use Rattle.std.specs.Option.{option_copied}
use Rattle.pickle_graph.specs.Parts.{items_in, items_of, parts_of, held_in}
use Rattle.pickle_writing.proofs.Heights.{byte_measured, all_higher, all_same, item_measured, node_built, settled_more, open_later, open_parts, round_deep, item_has, leaf_measured}
use Rattle.pickle_writing.proofs.depth.+measuring.Goals as goal
use Rattle.pickle_writing.proofs.depth.+measuring.Goals.{measure_items-in-Byte, measure_items-in-Item+else-levels-eq0+in_ok-below-in-Item+then-below-height, measure_items-in-Item+else-levels-eq0+in_ok-below-in-Item+else-below-height}

pub measure_items-loop-index-preserved : goal.measure_items-loop-index-preserved
measure_items-loop-index-preserved t c =
    let i = c.loop-index.invariant in
    let inside : c.loop-index.index < length (parts_of c.args.node.now) = let l = c.loop-index-test.true in let e = i.end in omega (arith, l, e) in
    elim c.match-part_of.branch [
      | measure_items-in-Byte w ↦ rw (w.measured-is, w.height-is) (record { all = byte_measured _ _ _ _ _ _ _ _ _ inside (c.part_of.ensures ∙ w.in-Byte.is) i.all; end = i.end; settled = i.settled; counted = i.counted })
      | measure_items-in-Item+else-levels-eq0+in_ok-below-in-Item+then-below-height w ↦
          rw (w.measured-is, w.height-is) (record {
            all = item_measured _ _ _ _ _ _ _ _ _ inside (c.part_of.ensures ∙ w.in-Item.is) (all_higher _ _ _ _ _ _ _ _ _ (let none = w.if-levels-eq0.false in omega (arith, none)) i.all w.in_ok-below-in-Item.ensures.ok w.if-below-height.true);
            end = i.end;
            settled = settled_more _ _ _ _ _ i.settled w.in_ok-below-in-Item.ensures.settled w.in_ok-below-in-Item.ensures.ok.kept;
            counted = w.in_ok-below-in-Item.ensures.counted;
          })
      | measure_items-in-Item+else-levels-eq0+in_ok-below-in-Item+else-below-height w ↦
          rw (w.measured-is, w.height-is) (record {
            all = item_measured _ _ _ _ _ _ _ _ _ inside (c.part_of.ensures ∙ w.in-Item.is) (all_same _ _ _ _ _ _ _ _ _ (let none = w.if-levels-eq0.false in omega (arith, none)) i.all w.in_ok-below-in-Item.ensures.ok w.if-below-height.false);
            end = i.end;
            settled = settled_more _ _ _ _ _ i.settled w.in_ok-below-in-Item.ensures.settled w.in_ok-below-in-Item.ensures.ok.kept;
            counted = w.in_ok-below-in-Item.ensures.counted;
          })
    ]

pub measure_new-returns-clause-ok : goal.measure_new-returns-clause-ok
measure_new-returns-clause-ok t c =
    node_built _ _ _ _ _ _ _ _ c.requires.unknown (ap items_of (sym c.requires.found)) c.in_ok-push-2.ensures.ok c.in_ok-height.ensures.ok

pub measure-returns-in-Some-get-2-clause-err : goal.measure-returns-in-Some-get-2-clause-err
measure-returns-in-Some-get-2-clause-err t c =
    λ e. round_deep c.args.nodes.now c.args.measured.now.begun c.args.measured.now.heights c.args.node _ c.args.levels c.requires.way (sym c.get-in-None.ensures ∙ c.in-Some-get-2.is) (sym c.get-2.ensures ∙ c.in-None.is)

pub measure-returns-in_default-clause-ok : goal.measure-returns-in_default-clause-ok
measure-returns-in_default-clause-ok t c =
    leaf_measured c.args.nodes.now c.args.levels c.args.measured.now.heights c.args.node c.requires.measured (ap held_in (sym c.get.ensures ∙ ap option_copied c.in_default.is))

pub measure-returns-then-not-is_held-clause-ok : goal.measure-returns-then-not-is_held-clause-ok
measure-returns-then-not-is_held-clause-ok t c =
    leaf_measured c.args.nodes.now c.args.levels c.args.measured.now.heights c.args.node c.requires.measured (ap held_in (sym c.get.ensures ∙ ap option_copied c.in-Some.is) ∙ sym c.is_held.ensures ∙ c.if-not-is_held.true)

pub measure_items-measure-requires : goal.measure_items-measure-requires
measure_items-measure-requires t c =
    let none = c.if-levels-eq0.false in
    let i = c.loop-index.invariant in
    let inside : c.loop-index.index < length (parts_of c.args.node.now) = let l = c.loop-index-test.true in let e = i.end in omega (arith, l, e) in
    let has_item = item_has (parts_of c.args.node.now) c.loop-index.index _ c.in-Item.item inside (c.part_of.ensures ∙ c.in-Item.is) in
    (omega (arith, none), (i.all.measured, (open_later c.args.nodes.now c.args.measured.now.begun c.loop-index.measured.begun c.args.measured.now.heights c.loop-index.measured.heights c.in-Item.item (c.requires.way c.in-Item.item has_item) i.settled i.all.kept, i.counted)))

pub measure_new-measure_items-requires : goal.measure_new-measure_items-requires
measure_new-measure_items-requires t c =
    (omega arith, (c.as_slice.ensures ∙ c.in_ok-listed.ensures, (c.requires.measured, (open_parts c.args.nodes.now c.args.measured.now.begun c.push.new.self c.args.measured.now.heights c.args.node 0 (items_in (parts_of c.args.found.now)) c.requires.way c.in_ok-push.ensures.ok (ap items_of (sym c.requires.found)), c.requires.counted))))

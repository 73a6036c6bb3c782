-- The root of a tree that is remembered.
use Rattle.std.proofs.Common.{refl, ◌∙◌, ap}
use Rattle.btree_family.specs.Classes.{class_seen}
use Rattle.btree_shapes.specs.Classes.{class_named}
use Rattle.btree_shapes.proofs.Entries.{held_same, root_recalled}
use Rattle.btree_shapes.proofs.reading.recall_root.Goals as goal

pub returns-then-same_class-clause-root : goal.returns-then-same_class-clause-root
returns-then-same_class-clause-root g c =
    let entry = c.in_ok-own.field-0.entry in
    let contents = g.S.Space.contents c.args.space.now in
    let class = class_seen c.in_ok-row.row.now in
    let held = held_same (class_seen c.in_ok-own.field-0.row.now) class (contents c.args.root) entry.class entry.node (c.if-same_class.ensures refl) c.in_ok-own.ensures.holds in
    let found = root_recalled class contents c.args.root entry.class entry.node held (c.in_ok-row.ensures.row ∙ ap class_named c.deref.ensures) in
    (refl, found.0, found.1)

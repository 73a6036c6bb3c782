use Rattle.std.proofs.Common.{◌∙◌, sym}
use Rattle.std.proofs.lemmas.List.{length-map}
use Rattle.fs_index.specs.declared.place.Placed.{Placed}
use Rattle.fs_index.specs.Places.{oids_placed}
use Rattle.fs_recovery.proofs.Tallies.{counted_objects}
use Rattle.fs_recovery.proofs.numbers.Numbers.add.Goals as goal

pub returns-clause-ok : goal.returns-clause-ok
returns-clause-ok c = λ list t tid_is packed_is are numbers.
    let o = counted_objects t (oids_placed c.args.placed.now) are in
    c.in_ok-add_counted.ensures.ok list t tid_is packed_is (o.0 ∙ length-map c.args.placed.now (λ (p : Placed). p.oid)) (o.1 ∙ sym c.greatest_in.ensures) numbers

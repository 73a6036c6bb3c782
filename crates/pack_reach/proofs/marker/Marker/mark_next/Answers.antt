use Rattle.std.proofs.Common.{◌≡◌, ◌<◌, ℕ, Some, ◌∙◌, refl, sym, ap, subst}
use Rattle.std.specs.Option.{option_map}
use Rattle.zb_model.specs.declared.data.Transaction.{Transaction}
use Rattle.zb_model.specs.Queries.{first_after, first_tid_after}
use Rattle.pack_reach.specs.Marking.{IsMarking, MarkerState}
use Rattle.pack_reach.proofs.Reading.{next_from, none_next}
use Rattle.pack_reach.proofs.Seeing.{grown_marking, may_read_next, next_is_above, next_marking}
use Rattle.pack_reach.proofs.marker.Marker.mark_next.Goals as goal

pub returns-in_default-clause-next : goal.returns-in_default-clause-next
returns-in_default-clause-next g c = λ told.
    let list = (g.St.Store.state c.args.store.now).list in
    let seen : c.self.inside.seen ≡ c.args.self.now.seen = ap (λ (m : MarkerState). m.seen) c.self.view_is in
    (none_next c.args.self.now.seen list (ap (λ (s : ℕ). first_tid_after s list) (sym seen) ∙ sym (c.first_tid_after.ensures told) ∙ c.in_default.is), refl)

pub returns-in_err-read_transaction-clause-marks : goal.returns-in_err-read_transaction-clause-marks
returns-in_err-read_transaction-clause-marks g c = λ told front rises same k.
    let named = g.F.Refs.named c.args.refs.now in
    let all = (g.St.Store.state c.args.store.now).list in
    let at_seen : c.self.inside.seen ≡ c.args.self.now.seen = ap (λ (m : MarkerState). m.seen) c.self.view_is in
    let f = next_from c.args.self.now.seen c.in-Some.tid all all c.first_tid_after.result refl (c.first_tid_after.ensures told ∙ ap (λ (s : ℕ). first_tid_after s all) at_seen) c.in-Some.is in
    let x = f.transaction in
    grown_marking named front c.args.self.now c.read_transaction.new.self k c.read_transaction.ensures.only (c.read_transaction.ensures.sound told front x f.at (may_read_next named c.args.self.now.tid c.args.self.now.seen front x k.from (same ∙ f.next)))

pub returns-clause-marks : goal.returns-clause-marks
returns-clause-marks g c = λ told front rises same k.
    let named = g.F.Refs.named c.args.refs.now in
    let all = (g.St.Store.state c.args.store.now).list in
    let at_seen : c.self.inside.seen ≡ c.args.self.now.seen = ap (λ (m : MarkerState). m.seen) c.self.view_is in
    let f = next_from c.args.self.now.seen c.in-Some.tid all all c.first_tid_after.result refl (c.first_tid_after.ensures told ∙ ap (λ (s : ℕ). first_tid_after s all) at_seen) c.in-Some.is in
    let x = f.transaction in
    let b = c.read_transaction.new.self in
    let next : first_after c.args.self.now.seen front ≡ Some x = same ∙ f.next in
    let still : first_after b.seen front ≡ Some x = ap (λ (s : ℕ). first_after s front) c.read_transaction.ensures.only.seen ∙ next in
    let grown = grown_marking named front c.args.self.now b k c.read_transaction.ensures.only (c.read_transaction.ensures.sound told front x f.at (may_read_next named c.args.self.now.tid c.args.self.now.seen front x k.from next)) in
    subst (λ (m : MarkerState). IsMarking named front (record m { seen = c.in-Some.tid })) (sym c.self-2.view_is) (subst (λ (n : ℕ). IsMarking named front (record b { seen = n })) f.tid_is (next_marking named front b x rises grown still (c.in_ok-read_transaction.ensures.read told x f.at)))

pub returns-clause-next : goal.returns-clause-next
returns-clause-next g c = λ told.
    let list = (g.St.Store.state c.args.store.now).list in
    let all = (g.St.Store.state c.args.store.now).list in
    let at_seen : c.self.inside.seen ≡ c.args.self.now.seen = ap (λ (m : MarkerState). m.seen) c.self.view_is in
    let f = next_from c.args.self.now.seen c.in-Some.tid all all c.first_tid_after.result refl (c.first_tid_after.ensures told ∙ ap (λ (s : ℕ). first_tid_after s all) at_seen) c.in-Some.is in
    (subst (λ (n : ℕ). c.args.self.now.seen < n) f.tid_is (next_is_above c.args.self.now.seen list f.transaction f.next), ap (option_map (λ (y : Transaction). y.tid)) f.next ∙ ap Some f.tid_is)

use Rattle.std.proofs.Common.{◌≡◌, ℕ, Option, Some, length, drop, ◌+◌, ◌-◌, ◌^◌, min, ◌∙◌, sym, ap, subst}
use Rattle.std.specs.Prelude.{slice_get}
use Rattle.std.specs.FinSet.{len}
use Rattle.pack_reach.specs.Marking.{FollowsOne, IsMarking, MarkerState, revised}
use Rattle.pack_reach.proofs.Following.{may_read_found, is_followed, first_waits, follows_one, popped, one_popped, revised_is}
use Rattle.pack_reach.proofs.Seeing.{grown_marking}
use Rattle.pack_reach.proofs.marker.Marker.follow_next.Goals as goal

pub returns-in_err-read_found-clause-marks : goal.returns-in_err-read_found-clause-marks
returns-in_err-read_found-clause-marks g c = λ told front later grown k.
    let named = g.F.Refs.named c.args.refs.now in
    let a = c.args.self.now in
    let b = c.read_found.new.self in
    let oid = c.in-Some.oid in
    let list = (g.St.Store.state c.args.store.now).list in
    let is = g.met.St.Store.database c.args.store.now told c.requires.whole in
    let first : slice_get a.waiting 0 ≡ Some oid = sym c.first_waiting.ensures ∙ c.in-Some.is in
    let behind : c.front_behind.result ≡ min (a.tid + 1) (2 ^ 64 - 1) = c.front_behind.ensures ∙ ap (λ (m : MarkerState). min (m.tid + 1) (2 ^ 64 - 1)) c.self.view_is in
    let may = may_read_found named a.tid c.front_behind.result front later list oid c.in_ok-found.found is grown behind (k.reached oid (k.waiting oid (first_waits a.waiting oid first))) (c.in_ok-found.ensures.found told) in
    grown_marking named front a b k c.read_found.ensures.only (c.read_found.ensures.sound front may)

pub returns-clause-marks : goal.returns-clause-marks
returns-clause-marks g c = λ told front later grown k.
    let named = g.F.Refs.named c.args.refs.now in
    let a = c.args.self.now in
    let b = c.read_found.new.self in
    let oid = c.in-Some.oid in
    let list = (g.St.Store.state c.args.store.now).list in
    let is = g.met.St.Store.database c.args.store.now told c.requires.whole in
    let first : slice_get a.waiting 0 ≡ Some oid = sym c.first_waiting.ensures ∙ c.in-Some.is in
    let behind : c.front_behind.result ≡ min (a.tid + 1) (2 ^ 64 - 1) = c.front_behind.ensures ∙ ap (λ (m : MarkerState). min (m.tid + 1) (2 ^ 64 - 1)) c.self.view_is in
    let found = c.in_ok-found.ensures.found told in
    let may = may_read_found named a.tid c.front_behind.result front later list oid c.in_ok-found.found is grown behind (k.reached oid (k.waiting oid (first_waits a.waiting oid first))) found in
    let more = grown_marking named front a b k c.read_found.ensures.only (c.read_found.ensures.sound front may) in
    let followed = is_followed named a.tid c.front_behind.result front later list b oid c.in_ok-found.found is grown c.read_found.ensures.only.tid behind found c.in_ok-read_found.ensures.read in
    let rest = c.pop_front.new.self.items in
    let dropped : rest ≡ drop 1 b.waiting = c.pop_front.ensures.rest ∙ ap (λ (m : MarkerState). drop 1 m.waiting) c.self-2.view_is in
    subst (λ (m : MarkerState). IsMarking named front (record m { waiting = rest })) (sym c.self-2.view_is) (popped named front a b oid rest more c.read_found.ensures.only first dropped followed)

pub returns-clause-follows : goal.returns-clause-follows
returns-clause-follows g c = λ told.
    let a = c.args.self.now in
    let b = c.read_found.new.self in
    let oid = c.in-Some.oid in
    let list = (g.St.Store.state c.args.store.now).list in
    let is = g.met.St.Store.database c.args.store.now told c.requires.whole in
    let first : slice_get a.waiting 0 ≡ Some oid = sym c.first_waiting.ensures ∙ c.in-Some.is in
    let behind : c.front_behind.result ≡ min (a.tid + 1) (2 ^ 64 - 1) = c.front_behind.ensures ∙ ap (λ (m : MarkerState). min (m.tid + 1) (2 ^ 64 - 1)) c.self.view_is in
    let answer : c.revised_as.result ≡ revised a.tid list oid = c.revised_as.ensures ∙ revised_is a.tid c.front_behind.result list oid c.in_ok-found.found is behind (c.in_ok-found.ensures.found told) in
    let rest = c.pop_front.new.self.items in
    let dropped : rest ≡ drop 1 b.waiting = c.pop_front.ensures.rest ∙ ap (λ (m : MarkerState). drop 1 m.waiting) c.self-2.view_is in
    subst (λ (m : MarkerState). FollowsOne list a (record m { waiting = rest }) c.revised_as.result) (sym c.self-2.view_is)
    (subst (λ (o : Option ℕ). FollowsOne list a (record b { waiting = rest }) o) (sym answer) (follows_one list a b oid rest c.read_found.ensures.only first dropped))

pub returns-clause-one : goal.returns-clause-one
returns-clause-one g c = λ some.
    let a = c.args.self.now in
    let b = c.read_found.new.self in
    let first : slice_get a.waiting 0 ≡ Some c.in-Some.oid = sym c.first_waiting.ensures ∙ c.in-Some.is in
    let dropped : c.pop_front.new.self.items ≡ drop 1 b.waiting = c.pop_front.ensures.rest ∙ ap (λ (m : MarkerState). drop 1 m.waiting) c.self-2.view_is in
    let set : len c.self-2.inside.marks ≡ len b.set = ap (λ (m : MarkerState). len m.set) c.self-2.view_is in
    one_popped a b c.in-Some.oid c.pop_front.new.self.items c.read_found.ensures.only first dropped ∙ ap (λ (n : ℕ). length a.waiting + n) (sym set)

use Rattle.zb_model.specs.Packing.{packed_by}
use Rattle.zodb_core.proofs.Switching.{begin_moments, main_stays, switch_moments, switched_list}
use Rattle.zodb_core.specs.PacksGoOn.{new_copy}
use Rattle.zodb_core.proofs.packing.replace.Goals as goal

pub returns-in-Err-clause-any_moment : goal.returns-in-Err-clause-any_moment
returns-in-Err-clause-any_moment g c = λ lasts told.
    let s = g.St.Store.state c.args.store.now in
    begin_moments g.St.Store.stands s.list (packed_by c.args.tid c.args.keep.now s.list) s.log (g.St.Store.state c.pack_begin.new.self).log (g.met.St.Store.lasting c.args.store.now lasts c.requires.whole) (c.pack_begin.ensures.main lasts)

pub pack_switch-requires-2-clause-copy : goal.pack_switch-requires-2-clause-copy
pack_switch-requires-2-clause-copy g c = λ told.
    let mid = g.St.Store.state c.pack_begin.new.self in
    new_copy c.args.keep.now mid.list mid.begun c.args.tid (c.in-Ok.ensures.begun told)

pub returns-clause-list : goal.returns-clause-list
returns-clause-list g c = λ told.
    let s = g.St.Store.state c.args.store.now in
    let mid = g.St.Store.state c.pack_begin.new.self in
    switched_list c.pack_switch-2.result c.args.keep.now mid.begun c.args.tid s.list mid.list (g.St.Store.state c.pack_switch-2.new.self).list (c.in-Ok.ensures.begun told) (c.in-Ok.ensures.leaves.list told) (c.pack_switch-2.ensures.list told)

pub returns-clause-main : goal.returns-clause-main
returns-clause-main g c = λ lasts.
    let s = g.St.Store.state c.args.store.now in
    let mid = g.St.Store.state c.pack_begin.new.self in
    main_stays c.pack_switch-2.result s.log mid.log (g.St.Store.state c.pack_switch-2.new.self).log (c.pack_begin.ensures.main lasts) (c.pack_switch-2.ensures.main lasts)

pub returns-clause-any_moment : goal.returns-clause-any_moment
returns-clause-any_moment g c = λ lasts told.
    let s = g.St.Store.state c.args.store.now in
    let mid = g.St.Store.state c.pack_begin.new.self in
    switch_moments g.St.Store.stands c.args.keep.now mid.begun c.args.tid s.list mid.list s.log mid.log (g.St.Store.state c.pack_switch-2.new.self).log (c.in-Ok.ensures.begun told) (c.in-Ok.ensures.leaves.list told)
    (g.met.St.Store.lasting c.args.store.now lasts c.requires.whole) (c.pack_begin.ensures.main lasts) (c.pack_switch-2.ensures.any_moment lasts)

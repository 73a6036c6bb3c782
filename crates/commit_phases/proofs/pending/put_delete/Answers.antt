use Rattle.std.proofs.Common.{ℕ, List, sym, ap, ◌∙◌, arith}
use Rattle.std.specs.Prelude.{nat_eq}
use Rattle.zb_model.specs.declared.data.Content.TheVariants.{Absent}
use Rattle.indexmap.specs.IndexMap.{insert_entry}
use Rattle.commit_phases.specs.declared.pending.Stored.{Stored}
use Rattle.commit_phases.specs.Kept.{stores_of}
use Rattle.commit_phases.specs.Pending.{size_of_stores}
use Rattle.commit_phases.proofs.Storing.{are_with_delete, deleted_size, earlier_within, kept_as, put_is}
use Rattle.commit_phases.proofs.pending.put_delete.Goals as goal

pub overflow_sub-result : goal.overflow_sub-result
overflow_sub-result c = omega (arith, c.earlier_or-base.ensures.length, c.requires.size, earlier_within c.args.stores.now.entries c.args.oid)

pub returns-clause-ok : goal.returns-clause-ok
returns-clause-ok c =
    let es : List (ℕ × Stored) = c.args.stores.now.entries in
    ap stores_of c.in_ok-keep.ensures.ok
    ∙ ap (λ (b : ℕ). stores_of (insert_entry nat_eq es c.args.oid (kept_as b Absent))) c.earlier_or-base.ensures.base
    ∙ put_is es c.args.oid c.args.base Absent

pub returns-clause-size : goal.returns-clause-size
returns-clause-size c =
    deleted_size c.args.stores.now.entries c.args.oid c.args.base _ _ c.requires.size c.earlier_or-base.ensures.length
    ∙ sym (ap size_of_stores (returns-clause-ok c))

pub returns-clause-stores : goal.returns-clause-stores
returns-clause-stores c = are_with_delete c.args.stores.now.entries c.keep.new.stores.entries c.args.oid c.args.base c.requires.stores c.in_ok-keep.ensures.unique (returns-clause-ok c)

use Rattle.std.proofs.Common.{◌≡◌, ℕ, ◌+◌, ◌-◌, List, sym, ap, ◌∙◌, arith}
use Rattle.std.specs.Prelude.{nat_eq}
use Rattle.std.specs.Map.{lookup}
use Rattle.zb_model.specs.declared.pending.PendingStore.{PendingStore}
use Rattle.indexmap.specs.IndexMap.{insert_entry}
use Rattle.commit_phases.specs.declared.pending.Stored.{Stored}
use Rattle.commit_phases.specs.Kept.{length_or_none, stores_of}
use Rattle.commit_phases.specs.Pending.{length_of_content, size_of_stores, with_pending}
use Rattle.commit_phases.proofs.Restoring.{put_undone}
use Rattle.commit_phases.proofs.Storing.{are_stores, earlier_within, kept_as, put_fits, put_is, put_size, put_too_long}
use Rattle.commit_phases.proofs.pending.put.Goals as goal

-- how many bytes the stores have with the new one, by what was there
size_then : (es : List (ℕ × Stored)) (p : PendingStore) (size earlier n : ℕ) → size ≡ size_of_stores (stores_of es) → earlier ≡ length_or_none (lookup (nat_eq p.oid) es) → n ≡ length_of_content p.content
    → size - earlier + n ≡ size_of_stores (with_pending (stores_of es) p)
size_then es p size earlier n all one new = omega (arith, all, one, new, earlier_within es p.oid, put_size es p.oid p.base p.content)

pub overflow_sub-size : goal.overflow_sub-size
overflow_sub-size c = omega (arith, c.earlier_or-base.ensures.length, c.requires.size, earlier_within c.args.stores.now.entries c.args.store.oid)

pub returns-then-size-gt-TRANSACTION_LIMIT-clause-answer : goal.returns-then-size-gt-TRANSACTION_LIMIT-clause-answer
returns-then-size-gt-TRANSACTION_LIMIT-clause-answer c =
    let es : List (ℕ × Stored) = c.args.stores.now.entries in
    let length_is : c.length_of-length.result ≡ length_of_content c.args.store.content = c.length_of-length.ensures in
    put_too_long (stores_of es) c.args.store _ (omega (arith, c.if-length-gt-OBJECT_LIMIT.false, length_is))
    (size_then es c.args.store _ _ _ c.requires.size c.earlier_or-base.ensures.length length_is)
    (omega (arith, c.if-size-gt-TRANSACTION_LIMIT.true))

pub returns-clause-answer : goal.returns-clause-answer
returns-clause-answer c =
    let es : List (ℕ × Stored) = c.args.stores.now.entries in
    let length_is : c.length_of-length.result ≡ length_of_content c.args.store.content = c.length_of-length.ensures in
    put_fits (stores_of es) c.args.store (omega (arith, c.if-length-gt-OBJECT_LIMIT.false, length_is))
    (omega (arith, size_then es c.args.store _ _ _ c.requires.size c.earlier_or-base.ensures.length length_is, c.if-size-gt-TRANSACTION_LIMIT.false))

pub returns-clause-ok : goal.returns-clause-ok
returns-clause-ok c =
    let es : List (ℕ × Stored) = c.args.stores.now.entries in
    ap stores_of c.in_ok-earlier.ensures.ok
    ∙ ap (λ (b : ℕ). stores_of (insert_entry nat_eq es c.args.store.oid (kept_as b c.args.store.content))) c.earlier_or-base.ensures.base
    ∙ put_is es c.args.store.oid c.args.store.base c.args.store.content

pub returns-clause-size : goal.returns-clause-size
returns-clause-size c =
    let es : List (ℕ × Stored) = c.args.stores.now.entries in
    size_then es c.args.store _ _ _ c.requires.size c.earlier_or-base.ensures.length c.length_of-length.ensures
    ∙ sym (ap size_of_stores (returns-clause-ok c))

pub returns-clause-stores : goal.returns-clause-stores
returns-clause-stores c =
    let es : List (ℕ × Stored) = c.args.stores.now.entries in
    let length_is : c.length_of-length.result ≡ length_of_content c.args.store.content = c.length_of-length.ensures in
    are_stores es c.keep.new.stores.entries c.args.store c.requires.stores c.in_ok-earlier.ensures.unique (returns-clause-ok c) c.requires.filled
    (omega (arith, c.if-length-gt-OBJECT_LIMIT.false, length_is))
    (omega (arith, size_then es c.args.store _ _ _ c.requires.size c.earlier_or-base.ensures.length length_is, c.if-size-gt-TRANSACTION_LIMIT.false))

pub returns-clause-undone : goal.returns-clause-undone
returns-clause-undone c = put_undone c.args.stores.now.entries c.keep.new.stores.entries c.args.store.oid _ _ c.in_ok-earlier.ensures.ok c.in_ok-earlier.ensures.earlier

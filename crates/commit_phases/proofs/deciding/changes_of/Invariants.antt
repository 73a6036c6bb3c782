use Rattle.std.proofs.Common.{◌≡◌, ◌+◌, ◌≤◌, ◌++◌, length, map}
use Rattle.std.specs.Prelude.{All}
use Rattle.std.specs.List.{sum_by}
use Rattle.std.specs.Vec.Iter.{into_iter_items, into_iter_len}
use Rattle.zb_model.specs.Database.{IsRecord}
use Rattle.zb_model.specs.Stores.{ReadKeepsRest}
use Rattle.zb_model.specs.Voting.{voted_change}
use Rattle.commit_phases.specs.Decision.{changes_of_stores}
use Rattle.commit_phases.specs.Resolving.{behind_changes, held_count, record_count}
use Rattle.commit_phases.specs.Voted.{AreCurrentRecords, IsNewRecord}
use Rattle.commit_phases.proofs.deciding.changes_of.Given as goal

-- the changes so far, and then what the stores that are left become, is what all become
abbrev pub invariant-loop-pending : goal.invariant-loop-pending
invariant-loop-pending g l =
    let old = g.St.Store.state l.fn.store in
    let left = into_iter_items l.pending-iterator in
    record {
      same : ReadKeepsRest old (g.St.Store.state l.store);
      counted : (g.St.Store.state l.store).read_faults ≡ old.read_faults;
      ends : into_iter_len l.pending-iterator ≡ length left;
      oids : map (λ c. c.oid) l.changes ++ map (λ p. p.oid) left ≡ map (λ p. p.oid) l.fn.stores;
      left_filled : All (λ p. IsRecord p.content) left;
      filled : All (λ c. IsNewRecord c.content) l.changes;
      few : sum_by (λ c. record_count c.content) l.changes + sum_by (λ p. held_count p.content) left ≤ sum_by (λ p. held_count p.content) l.fn.stores;
      rest : g.St.Store.told → changes_of_stores (g.R.Resolver.rules l.resolver) old.list l.fn.stores
          ≡ behind_changes (map (voted_change old.list) l.changes) (changes_of_stores (g.R.Resolver.rules l.resolver) old.list left);
      left_current : g.St.Store.told → AreCurrentRecords old.list l.fn.stores → AreCurrentRecords old.list left;
      unread : g.St.Store.told → AreCurrentRecords old.list l.fn.stores → g.St.Store.state l.store ≡ old;
    }

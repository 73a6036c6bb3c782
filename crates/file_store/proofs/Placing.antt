-- The places of a transaction that is voted, and an index with them.
use Rattle.std.proofs.Common.{◌≡◌, ℕ, ◌-◌, ◌<◌, ◌≤◌, ◌^◌, List, [], ◌∷◌, ◌++◌, map, All, Option, Some, None, refl, sym, ap, subst, ◌∙◌, arith}
use Rattle.std.specs.Prelude.{nat_eq}
use Rattle.std.specs.List.{IsDistinct}
use Rattle.std.specs.Option.{ForSome}
use Rattle.std.proofs.lemmas.List.Elements.{All-nil, All-cons, All-append}
use Rattle.zb_model.specs.declared.new_transaction.NewChange.{NewChange}
use Rattle.fs_index.specs.declared.place.Place.{Place}
use Rattle.fs_index.specs.declared.place.Placed.{Placed}
use Rattle.fs_index.specs.Places.{Kept, places_in, placed_of, oids_placed, HasRoomFor, IsBefore, StandBehind}
use Rattle.fs_records.specs.Placing.{placed_from, placed_end}
use Rattle.fs_records.specs.PlacingLaws.{IsRecordOf, end_behind, further, oids_from, placed_before, placed_behind, records_between}
use Rattle.file_store.specs.Staging.{StagedKept, IsAllBefore, IsAhead, IsStagedIndex, IsWith}
use Rattle.file_store.specs.declared.staged.Staged.{Staged}

-- ---- a transaction is staged

-- what was kept before is kept again
pub up_to_same : (old new : Kept) (newest end : ℕ) → IsAllBefore old newest end → ((oid : ℕ) → places_in new.entries oid ≡ places_in old.entries oid) → new.transactions ≡ old.transactions → IsAllBefore new newest end
up_to_same old new newest end up_to records transactions = record {
  records = λ oid. subst (λ (ps : List Place). All (IsBefore newest end) ps) (sym (records oid)) (up_to.records oid);
  transactions = subst (λ (ps : List Place). All (IsBefore newest end) ps) (sym transactions) up_to.transactions;
}

-- nothing is staged
pub index_still : (was : Option Staged) (old new : Kept) (newest end : ℕ) → was ≡ None → IsStagedIndex was old newest end → ((oid : ℕ) → places_in new.entries oid ≡ places_in old.entries oid) → new.transactions ≡ old.transactions → IsStagedIndex was new newest end
index_still was old new newest end none sound records transactions = record {
  bound = sound.bound;
  limit = sound.limit;
  up_to = up_to_same old new newest end sound.up_to records transactions;
  ahead = λ s some. absurd cc;
}

pub index_dropped : (was : Option Staged) (kept : Kept) (newest end : ℕ) → IsStagedIndex was kept newest end → IsStagedIndex None kept newest end
index_dropped was kept newest end sound = record { bound = sound.bound; limit = sound.limit; up_to = sound.up_to; ahead = λ s some. absurd cc }

-- one transaction is
pub index_staged : (was : Option Staged) (tid from to : ℕ) (changes : List NewChange) (placed : List Placed) (old new : Kept) (newest end : ℕ) → IsStagedIndex was old newest end
    → newest < tid → tid < 2 ^ 64 - 1 → end < from → placed_end from changes ≤ to → to < 2 ^ 63 → IsDistinct nat_eq (map (λ (c : NewChange). c.oid) changes) → placed ≡ placed_from tid from changes
    → HasRoomFor new placed → ((oid : ℕ) → places_in new.entries oid ≡ places_in old.entries oid) → new.transactions ≡ old.transactions
    → IsStagedIndex (Some (record { tid = tid; end = to; records = placed })) new newest end
index_staged was tid from to changes placed old new newest end sound above bound further within limit distinct is room records transactions = record {
  bound = sound.bound;
  limit = sound.limit;
  up_to = up_to_same old new newest end sound.up_to records transactions;
  ahead = λ s some. subst (λ (x : Staged). IsAhead x new newest end) (same s some) ahead;
}
  where
    this : Staged
    this = record { tid = tid; end = to; records = placed }

    same : (s : Staged) → Some this ≡ Some s → this ≡ s
    same s some = cc

    ahead : IsAhead this new newest end
    ahead = record {
      above = above;
      bound = bound;
      behind = omega (arith, further, within, end_behind from changes);
      limit = limit;
      distinct = subst (λ (oids : List ℕ). IsDistinct nat_eq oids) (sym (ap oids_placed is ∙ oids_from tid from changes)) distinct;
      records = subst (λ (ps : List Placed). All (IsRecordOf tid end to) ps) (sym is) (records_between tid end to from changes (omega (arith, further)) within);
      room = room;
    }

-- ---- and put into the index

-- its own place stands behind
pub start_behind : (s : Staged) (kept : Kept) (newest end : ℕ) → IsAllBefore kept newest end → IsAhead s kept newest end → All (IsBefore s.tid end) kept.transactions
start_behind s kept newest end up_to ahead = further newest end s.tid end kept.transactions (omega (arith, ahead.above)) (omega arith) up_to.transactions

-- and so do those of its records
pub records_behind : (s : Staged) (kept : Kept) (newest end : ℕ) → IsAllBefore kept newest end → IsAhead s kept newest end → StandBehind kept.entries s.records
records_behind s kept newest end up_to ahead = placed_behind kept.entries newest end s.tid s.end s.records (omega (arith, ahead.above)) up_to.records ahead.records

-- the index with it is sound
pub index_with : (s : Staged) (old new : Kept) (newest end : ℕ) → IsStagedIndex (Some s) old newest end → ((oid : ℕ) → places_in new.entries oid ≡ places_in old.entries oid ++ placed_of oid s.records)
    → new.transactions ≡ old.transactions ++ record { serial = s.tid; at = end } ∷ [] → IsStagedIndex None new s.tid s.end
index_with s old new newest end sound records transactions =
    let ahead = sound.ahead s refl in
    record {
      bound = ahead.bound;
      limit = ahead.limit;
      up_to = record {
        records = λ oid. subst (λ (ps : List Place). All (IsBefore s.tid s.end) ps) (sym (records oid))
            (All-append (IsBefore s.tid s.end) (places_in old.entries oid) (placed_of oid s.records)
            (further newest end s.tid s.end (places_in old.entries oid) (omega (arith, ahead.above)) (omega (arith, ahead.behind)) (sound.up_to.records oid)) (placed_before oid s.tid end s.end s.records ahead.records));
        transactions = subst (λ (ps : List Place). All (IsBefore s.tid s.end) ps) (sym transactions)
            (All-append (IsBefore s.tid s.end) old.transactions _
            (further newest end s.tid s.end old.transactions (omega (arith, ahead.above)) (omega (arith, ahead.behind)) sound.up_to.transactions)
            (All-cons (IsBefore s.tid s.end) _ [] (omega arith, ahead.behind) (All-nil (IsBefore s.tid s.end))));
      };
      ahead = λ x some. absurd cc;
    }

-- the index where one is staged
pub with_staged : (was : Option Staged) (s : Staged) (kept : Kept) (newest end : ℕ) → was ≡ Some s → IsStagedIndex was kept newest end → IsStagedIndex (Some s) kept newest end
with_staged was s kept newest end some sound = subst (λ (o : Option Staged). IsStagedIndex o kept newest end) some sound

-- what is put there is what was staged
pub with_is : (old new : StagedKept) (was : Option Staged) (s : Staged) (kept : Kept) (newest end : ℕ) → record { kept = kept; staged = was; newest = newest; end = end } ≡ old → was ≡ Some s
    → ((oid : ℕ) → places_in new.kept.entries oid ≡ places_in kept.entries oid ++ placed_of oid s.records) → new.kept.transactions ≡ kept.transactions ++ record { serial = s.tid; at = end } ∷ []
    → new.newest ≡ s.tid → new.end ≡ s.end → ForSome old.staged (λ x. IsWith x old new)
with_is old new was s kept newest end is some records transactions newest_is end_is x some_x =
    let same : s ≡ x = one was (old.staged) some some_x (ap (λ (i : StagedKept). i.staged) is) in
    subst (λ (y : Staged). IsWith y old new) same
    (subst (λ (i : StagedKept). IsWith s i new) is (record { records = records; transactions = transactions; newest = newest_is; end = end_is }))
  where
    one : (a b : Option Staged) → a ≡ Some s → b ≡ Some x → a ≡ b → s ≡ x
    one a b p q r = cc

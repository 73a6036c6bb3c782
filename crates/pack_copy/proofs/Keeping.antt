-- All that is kept stands before the end, also with one transaction more.
use Rattle.std.proofs.Common.{◌≡◌, ℕ, ◌-◌, ◌^◌, ◌<◌, ◌≤◌, Bool, All, List, [], ◌∷◌, ◌++◌, Option, None, sym, ap, subst, ◌∙◌, arith}
use Rattle.std.specs.Prelude.{nat_eq}
use Rattle.std.specs.List.{last_or, IsDistinct}
use Rattle.std.specs.Option.{option_map_or}
use Rattle.std.proofs.lemmas.List.Elements.{All-append, All-cons, All-nil}
use Rattle.zb_base.specs.Lists.{last_or_push}
use Rattle.fs_index.specs.declared.place.Place.{Place}
use Rattle.fs_index.specs.declared.place.Placed.{Placed}
use Rattle.fs_index.specs.Places.{Kept, IsBefore, StandBehind, oids_placed, places_in, placed_of}
use Rattle.fs_records.specs.PlacingLaws.{IsRecordOf, further, placed_before, placed_behind}
use Rattle.fs_recovery.specs.Numbers.{NumbersKept}
use Rattle.fs_recovery.specs.Opens.{IsBounded, newest_kept}
use Rattle.pack_copy.specs.declared.ready.Ready.{Ready}
use Rattle.pack_copy.specs.Copying.{CopyKept, opened_of}
use Rattle.fs_reading.specs.declared.outline.Outline.{Outline}
use Rattle.fs_reading.specs.Outlines.{IsOutline}
use Rattle.pack_copy.specs.Growing.{IsSame, IsWith, StandsNext}
use Rattle.pack_copy.specs.Outlined.{IsReady, records_begin}
use Rattle.pack_copy.proofs.Outlines.{end_behind, oids_in, records_within}

newest_of : List Place → ℕ
newest_of ps = option_map_or (λ (p : Place). p.serial) (last_or None ps) 0

-- where all but the room is the same
pub same_bounded : (old new : CopyKept) → IsBounded (opened_of old) → IsSame old new → IsBounded (opened_of new)
unfolding newest_of
same_bounded old new bounded same =
    let newest : newest_kept new.index ≡ newest_kept old.index = ap newest_of same.starts in
    record {
      first = omega (arith, bounded.first, same.end);
      limit = omega (arith, bounded.limit, same.end);
      newest = omega (arith, bounded.newest, newest);
      before = record {
        records = λ oid. further (newest_kept old.index) old.end (newest_kept new.index) new.end (places_in new.index.entries oid) (omega (arith, newest)) (omega (arith, same.end))
            (subst (λ (ps : List Place). All (IsBefore (newest_kept old.index) old.end) ps) (sym (same.places oid)) (bounded.before.records oid));
        transactions = further (newest_kept old.index) old.end (newest_kept new.index) new.end new.index.transactions (omega (arith, newest)) (omega (arith, same.end))
            (subst (λ (ps : List Place). All (IsBefore (newest_kept old.index) old.end) ps) (sym same.starts) bounded.before.transactions);
      };
    }

-- the tid of the one that was added is the newest
pub newest_with : (old new : CopyKept) (tid : ℕ) (packed : Bool) (ready : Ready) → IsWith old new tid packed ready → newest_kept new.index ≡ tid
unfolding newest_of
newest_with old new tid packed ready with = ap newest_of with.starts ∙ ap (λ (o : Option Place). option_map_or (λ (p : Place). p.serial) o 0) (last_or_push None old.index.transactions (record { serial = tid; at = old.end }))

-- the new places stand behind what is kept
pub start_behind : (c : CopyKept) (tid : ℕ) → IsBounded (opened_of c) → newest_kept c.index ≤ tid → All (IsBefore tid c.end) c.index.transactions
start_behind c tid bounded above = further (newest_kept c.index) c.end tid c.end c.index.transactions above (omega arith) bounded.before.transactions

pub records_behind : (c : CopyKept) (tid : ℕ) (ready : Ready) → IsBounded (opened_of c) → newest_kept c.index ≤ tid → StandsNext c tid ready → StandBehind c.index.entries ready.records
records_behind c tid ready bounded above next = placed_behind c.index.entries (newest_kept c.index) c.end tid ready.end ready.records above bounded.before.records next.records

-- and before the new end
pub index_bounded : (index new : Kept) (numbers more : NumbersKept) (end now tid : ℕ) (records : List Placed) → IsBounded (record { index = index; numbers = numbers; end = end; cut = None }) → newest_kept index ≤ tid → tid < 2 ^ 64 - 1 → end < now → now < 2 ^ 63
    → All (IsRecordOf tid end now) records → ((oid : ℕ) → places_in new.entries oid ≡ places_in index.entries oid ++ placed_of oid records) → new.transactions ≡ index.transactions ++ record { serial = tid; at = end } ∷ []
    → IsBounded (record { index = new; numbers = more; end = now; cut = None })
unfolding newest_of
index_bounded index new numbers more end now tid records bounded above bound behind limit all places starts =
    let newest : newest_kept new ≡ tid = ap newest_of starts ∙ ap (λ (o : Option Place). option_map_or (λ (p : Place). p.serial) o 0) (last_or_push None index.transactions (record { serial = tid; at = end })) in
    record {
      first = omega (arith, bounded.first);
      limit = limit;
      newest = omega (arith, newest);
      before = record {
        records = λ oid. further tid now (newest_kept new) now (places_in new.entries oid) (omega (arith, newest)) (omega arith)
            (subst (λ (ps : List Place). All (IsBefore tid now) ps) (sym (places oid))
            (All-append (IsBefore tid now) (places_in index.entries oid) (placed_of oid records)
            (further (newest_kept index) end tid now (places_in index.entries oid) above (omega arith) (bounded.before.records oid))
            (placed_before oid tid end now records all)));
        transactions = further tid now (newest_kept new) now new.transactions (omega (arith, newest)) (omega arith)
            (subst (λ (ps : List Place). All (IsBefore tid now) ps) (sym starts)
            (All-append (IsBefore tid now) index.transactions (record { serial = tid; at = end } ∷ [])
            (further (newest_kept index) end tid now index.transactions above (omega arith) bounded.before.transactions)
            (All-cons (IsBefore tid now) (record { serial = tid; at = end }) [] (omega arith, omega arith) (All-nil (IsBefore tid now)))));
      };
    }

-- ---- a transaction that was made ready

-- it stands between the end and its own
pub stands_next : (c : CopyKept) (o : Outline) (ready : Ready) → IsOutline o → IsReady c.end o ready → StandsNext c o.tid ready
stands_next c o ready outline made =
    let from : ℕ = records_begin c.end o in
    let long = end_behind from o.changes in
    record {
      some = omega (arith, long, made.end_is);
      limit = made.limit;
      distinct = subst (λ (oids : List ℕ). IsDistinct nat_eq oids) (sym (ap oids_placed made.records_are ∙ oids_in o.tid from o.changes)) outline.changes.distinct;
      records = subst (λ (rs : List Placed). All (IsRecordOf o.tid c.end ready.end) rs) (sym made.records_are)
          (records_within o.tid c.end ready.end from o.changes (omega arith) (omega (arith, made.end_is)));
    }

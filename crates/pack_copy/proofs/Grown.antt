-- The file on Side with one transaction more.
use Rattle.std.proofs.Common.{◌≡◌, ℕ, ◌+◌, ◌-◌, ◌^◌, ◌<◌, List, [], ◌∷◌, ◌++◌, length, map, take, None, refl, sym, ap, subst, ◌∙◌, arith}
use Rattle.std.specs.List.{AllByRecursion}
use Rattle.std.proofs.lemmas.List.{length-append, take_all}
use Rattle.zb_base.specs.Bytes.{AreBytes}
use Rattle.zb_model.specs.declared.data.Change.{Change}
use Rattle.zb_model.specs.declared.data.Transaction.{Transaction}
use Rattle.zb_model.specs.Database.{newest_tid}
use Rattle.fs_index.specs.declared.place.Place.{Place}
use Rattle.fs_index.specs.declared.place.Placed.{Placed}
use Rattle.fs_records.specs.Blocks.{Known, Reached, Block, Written, block_text, records_from, length_of, with_records, after_block, transaction_of}
use Rattle.fs_records.specs.File.{IsReadAs}
use Rattle.fs_records.specs.Listed.{listed}
use Rattle.fs_index.specs.Places.{Kept, oids_placed, places_in, placed_of}
use Rattle.fs_records.specs.Indexed.{places_of}
use Rattle.fs_records.specs.Placing.{placed_from}
use Rattle.fs_records.specs.PlacingLaws.{begins_at, places_read}
use Rattle.fs_records.specs.WriteLaws.{block_stands, length-block_text}
use Rattle.fs_records.specs.Writing.{HasRoom, block_of}
use Rattle.fs_recovery.specs.Numbers.{AreNumbersOf}
use Rattle.fs_reading.specs.declared.outline.Outline.{Outline}
use Rattle.fs_reading.specs.Outlines.{AllStandWithin, IsOutline, outlined_transaction}
use Rattle.pack_copy.specs.declared.ready.Ready.{Ready}
use Rattle.pack_copy.specs.CopiedLaws.{append_bytes, list_is}
use Rattle.pack_copy.specs.Copying.{CopyKept, IsCopied}
use Rattle.pack_copy.specs.Growing.{IsSame, IsWith}
use Rattle.pack_copy.specs.Outlined.{IsReady, block_in, record_in, records_begin}
use Rattle.pack_copy.specs.Renewing.{anew, status_of}
use Rattle.pack_copy.specs.InFull.{full_block}
use Rattle.pack_copy.proofs.Outlines.{end_long, oids_placed_same, outline_formed, placed_same}
use Rattle.pack_copy.proofs.Outlines as outlines
use Rattle.pack_copy.proofs.Wholes.{after_one, block_same, file_one}
use Rattle.pack_copy.proofs.Renewed.{StandsThere, stands_there}

-- ---- what is read of bytes

-- what was reached with one transaction more
record Parts (s : Reached) (b : Block) : Type 0 where
  end_is : (after_block s b).end ≡ s.end + (length_of s.end b + 8)
  known_is : (after_block s b).known ≡ with_records s.known s.end b.tid (records_from s.end b) b.records
  list_is : (after_block s b).list ≡ s.list ++ transaction_of s b ∷ []
  starts_are : (after_block s b).starts ≡ s.starts ++ record { serial = b.tid; at = s.end } ∷ []

parts : (s : Reached) (b : Block) → Parts s b
unfolding after_block
parts s b = record { end_is = refl; known_is = refl; list_is = refl; starts_are = refl }

-- ---- the file with it

-- what stands on Side then
pub record Grown (bytes now : List ℕ) (new : CopyKept) (x : Transaction) : Type 0 where
  pub copied : IsCopied now new
  pub list : listed now ≡ listed bytes ++ x ∷ []

module _ (bytes main text : List ℕ) (old new : CopyKept) (o : Outline) (ready : Ready) (copied : IsCopied bytes old) (outline : IsOutline o) (within : AllStandWithin main o.changes) (made : IsReady old.end o ready)
    (text_same : text ≡ block_text old.end (block_in old.index.entries main o)) (fits : AreBytes text) (room : AllByRecursion HasRoom (map (record_in old.index.entries main) o.changes)) (with : IsWith old new o.tid o.packed ready)
    (bound : o.tid < 2 ^ 64 - 1) (later : newest_tid (listed bytes) < o.tid) where
  abbrev s : Reached
  s = copied.whole.reached

  abbrev x : Transaction
  x = outlined_transaction main o

  abbrev b : Block
  b = block_of (status_of x) old.index.entries (anew x)

  end_is : s.end ≡ old.end
  end_is = copied.whole.end_is

  list_was : listed bytes ≡ s.list
  list_was = list_is bytes s copied.fits (omega (arith, copied.short)) copied.whole.stands

  text_is : text ≡ block_text s.end b
  text_is = text_same ∙ ap (block_text old.end) (outlines.block_same old.index.entries main o) ∙ ap (λ (n : ℕ). block_text n b) (sym end_is)

  ends : ready.end ≡ old.end + length text
  ends = made.end_is ∙ end_long old.index.entries main old.end o within ∙ ap (λ (t : List ℕ). old.end + length t) (sym text_same)

  there : StandsThere s old.index.entries x
  there = stands_there bytes s old.index.entries x copied.whole.stands.begins (outline_formed main o within outline) bound (subst (λ (l : List Transaction). newest_tid l < o.tid) list_was later)
      (subst (λ (rs : List Written). AllByRecursion HasRoom rs) (outlines.records_same old.index.entries main o.changes) room) (omega (arith, end_is, copied.long, copied.short))
      (omega (arith, ends, made.limit, ap length text_is, length-block_text s.end b))

  all_of : take s.end bytes ≡ bytes
  all_of = take_all s.end bytes (omega (arith, copied.long, end_is))

  stands : IsReadAs (bytes ++ text) (after_block s b) None
  stands = subst (λ (t : List ℕ). IsReadAs (bytes ++ t) (after_block s b) None) (sym text_is)
      (subst (λ (front : List ℕ). IsReadAs (front ++ block_text s.end b) (after_block s b) None) all_of (block_stands bytes s b copied.whole.stands.begins there.block))

  long : length (bytes ++ text) ≡ new.end
  long = omega (arith, length-append bytes text, copied.long, with.end, ends)

  short_now : length (bytes ++ text) < 2 ^ 63
  short_now = omega (arith, long, with.end, made.limit)

  fits_now : AreBytes (bytes ++ text)
  fits_now = append_bytes bytes text copied.fits fits

  reached_list : (after_block s b).list ≡ s.list ++ x ∷ []
  reached_list = (parts s b).list_is ∙ ap (λ (t : Transaction). s.list ++ t ∷ []) there.is

  from_is : records_begin old.end o ≡ records_from s.end b
  from_is = omega (arith, begins_at (status_of x) old.index.entries s.end (anew x), end_is)

  records_are : ready.records ≡ placed_from x.tid (records_from s.end b) (anew x).changes
  records_are = made.records_are ∙ placed_same main o.tid (records_begin old.end o) o.changes within ∙ ap (λ (n : ℕ). placed_from x.tid n (anew x).changes) from_is

  places : (oid : ℕ) → places_in new.index.entries oid ≡ places_of oid (after_block s b).known
  places oid =
      with.places oid
      ∙ ap (λ (ps : List Place). ps ++ placed_of oid ready.records) (copied.whole.index.records oid)
      ∙ ap (λ (rs : List Placed). places_of oid s.known ++ placed_of oid rs) records_are
      ∙ sym (places_read old.index.entries oid s.end x.tid (records_from s.end b) s.known (anew x).changes)
      ∙ ap (λ (ks : List Known). places_of oid ks) (sym (parts s b).known_is)

  starts : new.index.transactions ≡ (after_block s b).starts
  starts =
      with.starts
      ∙ ap (λ (ps : List Place). ps ++ record { serial = x.tid; at = old.end } ∷ []) copied.whole.index.transactions
      ∙ ap (λ (n : ℕ). s.starts ++ record { serial = x.tid; at = n } ∷ []) (sym end_is)
      ∙ sym (parts s b).starts_are

  counted : map (λ (c : Change). c.oid) x.changes ≡ oids_placed ready.records
  counted = oids_placed_same main o.tid (records_begin old.end o) o.changes ∙ ap oids_placed (sym made.records_are)

  end_now : (after_block s b).end ≡ new.end
  end_now = omega (arith, (parts s b).end_is, end_is, with.end, ends, ap length text_is, length-block_text s.end b)

  block_is : b ≡ full_block s x
  block_is = block_same s old.index.entries x copied.whole.index.records

  pub grown : Grown bytes (bytes ++ text) new x
  grown = record {
    copied = record {
      fits = fits_now;
      short = short_now;
      long = long;
      whole = record {
        reached = after_block s b;
        stands = stands;
        end_is = end_now;
        index = record { records = places; transactions = starts };
        counted = subst (λ (l : List Transaction). AreNumbersOf l new.numbers) (sym reached_list) (with.counted s.list x refl refl counted copied.whole.counted);
      };
      in_full = file_one bytes text s b x block_is copied.reached_is copied.in_full text_is (after_block s b).list reached_list;
      reached_is = after_one s b x block_is copied.reached_is reached_list;
    };
    list = list_is (bytes ++ text) (after_block s b) fits_now (omega (arith, short_now)) stands
        ∙ reached_list ∙ ap (λ (l : List Transaction). l ++ x ∷ []) (sym list_was);
  }

-- ---- where all but the room is the same

pub same_copied : (bytes : List ℕ) (old new : CopyKept) → IsCopied bytes old → IsSame old new → IsCopied bytes new
same_copied bytes old new copied same =
    let whole = copied.whole in
    record {
      fits = copied.fits;
      short = copied.short;
      long = copied.long ∙ sym same.end;
      whole = record {
        reached = whole.reached;
        stands = whole.stands;
        end_is = whole.end_is ∙ sym same.end;
        index = record { records = λ oid. same.places oid ∙ whole.index.records oid; transactions = same.starts ∙ whole.index.transactions };
        counted = record { tallies = same.tallies ∙ whole.counted.tallies; greatest = same.greatest ∙ whole.counted.greatest; pack_point = same.pack_point ∙ whole.counted.pack_point };
      };
      in_full = copied.in_full;
      reached_is = copied.reached_is;
    }

-- ---- as it is written

pub grown_so : (bytes main now : List ℕ) (old mid new : CopyKept) (o : Outline) (ready : Ready) (at : ℕ) (index : Kept) → at ≡ mid.end → index ≡ mid.index → IsCopied bytes old → IsSame old mid → IsOutline o → AllStandWithin main o.changes → IsReady mid.end o ready
    → now ≡ bytes ++ block_text at (block_in index.entries main o) → AreBytes (block_text at (block_in index.entries main o)) → AllByRecursion HasRoom (map (record_in index.entries main) o.changes)
    → IsWith mid new o.tid o.packed ready → o.tid < 2 ^ 64 - 1 → newest_tid (listed bytes) < o.tid → Grown bytes now new (outlined_transaction main o)
grown_so bytes main now old mid new o ready at index at_is index_is copied same outline within made now_is fits room with bound later =
    let text : List ℕ = block_text mid.end (block_in mid.index.entries main o) in
    let text_is : block_text at (block_in index.entries main o) ≡ text = ap (λ (n : ℕ). block_text n (block_in index.entries main o)) at_is ∙ ap (λ (k : Kept). block_text mid.end (block_in k.entries main o)) index_is in
    subst (λ (b : List ℕ). Grown bytes b new (outlined_transaction main o)) (sym (now_is ∙ ap (λ (t : List ℕ). bytes ++ t) text_is))
    (grown bytes main text mid new o ready (same_copied bytes old mid copied same) outline within made refl (subst (λ (t : List ℕ). AreBytes t) text_is fits)
    (subst (λ (k : Kept). AllByRecursion HasRoom (map (record_in k.entries main) o.changes)) index_is room) with bound later)

-- What the bytes of Side stand for, for the proofs of those who keep a copy.
use Rattle.std.proofs.Common.{◌≡◌, ℕ, zero, suc, ◌^◌, ◌<◌, List, [], ◌∷◌, ◌++◌, length, Option, None, sym, ap, subst, ◌∙◌, arith}
use Rattle.std.specs.Option.{option_map_or}
use Rattle.zb_base.specs.Bytes.{AreBytes}
use Rattle.zb_model.specs.declared.data.Transaction.{Transaction}
use Rattle.zb_model.specs.Database.{IsDatabase}
use Rattle.fs_records.specs.Blocks.{Reached}
use Rattle.fs_records.specs.Databases.{reading_of}
use Rattle.fs_records.specs.File.{IsReadAs, StandsFor, a_file}
use Rattle.fs_records.specs.Listed.{listed, reading_is}
use Rattle.fs_recovery.specs.Numbers.{AreNumbersOf}
use Rattle.pack_copy.specs.Copying.{CopyKept, IsCopied}
use Rattle.pack_copy.specs.InFull.{full_file}

-- bytes behind bytes
pub append_bytes : (xs ys : List ℕ) → AreBytes xs → AreBytes ys → AreBytes (xs ++ ys)
append_bytes [] ys hx hy k = hy k
append_bytes (x ∷ xs) ys hx hy zero = hx 0
append_bytes (x ∷ xs) ys hx hy (suc k) = append_bytes xs ys (λ j. hx (suc j)) hy k

-- the list of bytes that stand for what was reached
pub list_is : (bytes : List ℕ) (s : Reached) → AreBytes bytes → length bytes < 2 ^ 64 → IsReadAs bytes s None → listed bytes ≡ s.list
list_is bytes s fits short stands = ap (λ (o : Option (Reached × Option ℕ)). option_map_or (λ r. r.0.list) o []) (reading_is bytes s None fits short stands)

pub copied_list : (side : List ℕ) (c : CopyKept) (copied : IsCopied side c) → listed side ≡ copied.whole.reached.list
copied_list side c copied = list_is side copied.whole.reached copied.fits (omega (arith, copied.short)) copied.whole.stands

-- each content of it stands in full
pub copied_in_full : (side : List ℕ) (c : CopyKept) → IsCopied side c → side ≡ full_file (listed side)
copied_in_full side c copied = copied.in_full ∙ ap full_file (sym (copied_list side c copied))

-- Side stands for its list, without a tail
pub copied_stands : (side : List ℕ) (c : CopyKept) → IsCopied side c → StandsFor side (listed side) None
copied_stands side c copied = a_file copied.whole.reached copied.whole.stands (copied_list side c copied)

-- which is a database, with these numbers
pub copied_counts : (side : List ℕ) (c : CopyKept) → IsCopied side c → IsDatabase (listed side) × AreNumbersOf (listed side) c.numbers
copied_counts side c copied =
    let s = copied.whole.reached in
    subst (λ (l : List Transaction). IsDatabase l × AreNumbersOf l c.numbers) (sym (copied_list side c copied)) ((reading_of side s copied.whole.stands.begins).is, copied.whole.counted)

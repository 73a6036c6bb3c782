-- Bytes stand for a list or are damaged.
use Rattle.std.proofs.Common.{◌≡◌, ◌⊎◌, ℕ, zero, suc, ◌+◌, ◌-◌, ◌^◌, ◌<◌, ◌≤◌, List, [], ◌∷◌, ◌++◌, length, take, drop, Option, Some, None, Result, Ok, Err, inl, inr, refl, subst, arith}
use Rattle.std.proofs.lemmas.Bool.{cases_lt}
use Rattle.std.proofs.lemmas.List.{length-drop}
use Rattle.fs_records.specs.declared.field.Field.{Field}
use Rattle.fs_records.specs.declared.verdict.Verdict.{Verdict}
use Rattle.fs_records.specs.declared.verdict.Verdict.TheVariants.{Ends, Tail, Fault, Begun}
use Rattle.fs_records.specs.Headers.{header_of}
use Rattle.zb_base.specs.Bytes.{AreBytes, AreBytes-drop}
use Rattle.fs_records.specs.Blocks.{Known, Written, with_records, is_known, Reached, file_start, after_block, Begins, magic}
use Rattle.fs_records.specs.Rules.{AreRecordsBetween, record_at, record_in, verdict}
use Rattle.fs_records.specs.File.{IsReadAs, IsDamaged, head, data_record, RecordFault, data_from, data_to}
use Rattle.fs_records.specs.ScanLaws.{stand_more}
use Rattle.fs_records.specs.BlockLaws.{judged, block_in, block_takes, begins_more, begins_here, after-end}

-- data records stand between two places, or one behind records that stand is at fault
abbrev pub RecordsOr : List ℕ → List Known → ℕ → ℕ → ℕ → ℕ → Type 0
RecordsOr bytes known place tid from end = ((rs : List Written) × AreRecordsBetween bytes known place tid from end rs) ⊎ ((at : ℕ) × (field : Field) × RecordFault bytes known place tid from end at field)

-- it stands for a list, or is damaged
abbrev pub FileOr : List ℕ → Type 0
FileOr bytes = ((s : Reached) × (cut : Option ℕ) × IsReadAs bytes s cut) ⊎ ((at : ℕ) × (field : Field) × IsDamaged bytes at field)

module _ (bytes : List ℕ) (fits : AreBytes bytes) where
  records_step : (fuel : ℕ) (known : List Known) (place tid from end q : ℕ) (rs : List Written) → end ≤ length bytes → q < end → end ≤ q + suc fuel → AreRecordsBetween bytes known place tid from q rs
      → (r : Result (ℕ × ℕ) Field) → record_at (is_known (with_records known place tid from rs)) place tid (end - q) (drop q bytes) ≡ r
      → ((n : ℕ) (ss : List Written) → n ≤ end → end ≤ n + fuel → AreRecordsBetween bytes known place tid from n ss → RecordsOr bytes known place tid from end) → RecordsOr bytes known place tid from end
  records_step fuel known place tid from end q rs within lt enough stand (Err field) e again = inr (q, field, record { records = rs; stand = stand; before = lt; fault = e })
  records_step fuel known place tid from end q rs within lt enough stand (Ok x) e again =
      let more = stand_more bytes known place tid from q end x.0 x.1 rs (AreBytes-drop q bytes fits) within (omega arith) stand e in
      again (q + x.1) (rs ++ record_in (drop q bytes) ∷ []) (omega (arith, more.2)) (omega (arith, more.1)) more.0

  records_always : (fuel : ℕ) (known : List Known) (place tid from end q : ℕ) (rs : List Written) → end ≤ length bytes → q ≤ end → end ≤ q + fuel → AreRecordsBetween bytes known place tid from q rs → RecordsOr bytes known place tid from end
  records_always zero known place tid from end q rs within order enough stand =
      let same : q ≡ end = omega arith in
      inl (rs, subst (λ (n : ℕ). AreRecordsBetween bytes known place tid from n rs) same stand)
  records_always (suc fuel) known place tid from end q rs within order enough stand =
      elim (cases_lt q end) [
        | inl lt ↦ records_step fuel known place tid from end q rs within lt enough stand (record_at (is_known (with_records known place tid from rs)) place tid (end - q) (drop q bytes)) refl (λ n ss o f st. records_always fuel known place tid from end n ss within o f st)
        | inr le ↦ (let same : q ≡ end = omega arith in inl (rs, subst (λ (n : ℕ). AreRecordsBetween bytes known place tid from n rs) same stand))
      ]

  module _ (short : length bytes < 2 ^ 64) where
    blocks_step : (s : Reached) → Begins bytes s → s.end ≤ length bytes → (v : Verdict) → verdict s.newest (drop s.end bytes) ≡ v
        → ((t : Reached) → s.end < t.end → t.end ≤ length bytes → Begins bytes t → FileOr bytes) → FileOr bytes
    blocks_step s begins within Ends e again = inl (s, None, record { begins = begins; ends = e })
    blocks_step s begins within Tail e again = inl (s, Some s.end, record { begins = begins; ends = (e, refl) })
    blocks_step s begins within (Fault field) e again = inr (s.end, field, record { reached = s; begins = begins; fault = head e refl })
    blocks_step s begins within Begun e again =
        let rest = drop s.end bytes in
        let j = judged s.newest rest e in
        let left = length-drop s.end bytes in
        let records = records_always (length bytes) s.known s.end (header_of rest).tid (data_from bytes s.end) (data_to bytes s.end) (data_from bytes s.end) [] (omega (arith, j.long, left)) (omega (arith, j.texts_fit)) (omega (arith, j.long, left)) (record { written = tt; parts = refl; next = omega arith }) in
        elim records [
          | inr f ↦ inr (f.0, f.1, record { reached = s; begins = begins; fault = data_record e f.2 })
          | inl r ↦ (let t = block_takes bytes s r.0 (omega arith) fits e r.1 in let b = block_in rest r.0 in again (after_block s b) (omega (arith, after-end s b)) (omega (arith, after-end s b, t.length_is, j.long, left)) (begins_more bytes s b begins t))
        ]

    blocks_always : (fuel : ℕ) (s : Reached) → Begins bytes s → s.end ≤ length bytes → length bytes ≤ s.end + fuel → FileOr bytes
    blocks_always zero s begins within enough = blocks_step s begins within (verdict s.newest (drop s.end bytes)) refl (λ t more o b. absurd (omega arith))
    blocks_always (suc fuel) s begins within enough = blocks_step s begins within (verdict s.newest (drop s.end bytes)) refl (λ t more o b. blocks_always fuel t b o (omega arith))

    -- what begins as a file does stands for a list or is damaged
    pub file_or_damage : 4 ≤ length bytes → take 4 bytes ≡ magic → FileOr bytes
    file_or_damage long is = blocks_always (length bytes) file_start (begins_here bytes is) (omega arith) (omega arith)

-- Where a transaction's status stands in its text.
use Rattle.std.proofs.Common.{◌≡◌, ℕ, List, ◌∷◌, ◌++◌, length, get_or, ap, sym, ◌∙◌, append_assoc, arith}
use Rattle.std.proofs.Math.ListN.{set}
use Rattle.std.proofs.Math.Seq.{set-append_seam, get_or-append_seam}
use Rattle.std.proofs.lemmas.List.{length-append}
use Rattle.fs_records.specs.Numbers.{number}
use Rattle.fs_records.specs.NumberLaws.{length-number}
use Rattle.fs_records.specs.Headers.{header_text}
use Rattle.fs_records.specs.Blocks.{Block, texts, records_text, length_of, block_text}

-- what stands before the status, and what behind it
before_status : ℕ → Block → List ℕ
before_status place b = number 8 b.tid ++ number 8 (length_of place b)

behind_status : ℕ → Block → List ℕ
behind_status place b = (number 2 (length b.user) ++ (number 2 (length b.description) ++ number 2 (length b.extension))) ++ (texts b ++ (records_text place b.tid b.records ++ number 8 (length_of place b)))

status_parts : (place : ℕ) (b : Block) → block_text place b ≡ before_status place b ++ b.status ∷ behind_status place b
unfolding block_text header_text before_status behind_status
status_parts place b = simp append_assoc

sixteen : (place : ℕ) (b : Block) → length (before_status place b) ≡ 16
unfolding before_status
sixteen place b = omega (arith, length-append (number 8 b.tid) (number 8 (length_of place b)), length-number 8 b.tid, length-number 8 (length_of place b))

-- the status is the byte 16
pub block_status : (place : ℕ) (b : Block) → get_or (block_text place b) 16 0 ≡ b.status
block_status place b =
    ap (λ (x : List ℕ). get_or x 16 0) (status_parts place b) ∙ ap (λ (n : ℕ). get_or (before_status place b ++ b.status ∷ behind_status place b) n 0) (sym (sixteen place b)) ∙ get_or-append_seam (before_status place b) b.status (behind_status place b) 0

-- and to set that byte is to set the status
pub status_set : (place : ℕ) (b : Block) (status : ℕ) → set (block_text place b) 16 status ≡ block_text place (record b { status = status })
unfolding before_status behind_status
status_set place b status =
    ap (λ (x : List ℕ). set x 16 status) (status_parts place b) ∙ ap (λ (n : ℕ). set (before_status place b ++ b.status ∷ behind_status place b) n status) (sym (sixteen place b)) ∙ set-append_seam (before_status place b) b.status (behind_status place b) status ∙ sym (status_parts place (record b { status = status }))

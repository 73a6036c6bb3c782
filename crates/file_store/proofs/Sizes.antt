-- How long the text of a new transaction is.
use Rattle.std.proofs.Common.{◌≡◌, ℕ, ◌+◌, ◌≤◌, List, length, sym, ap, ◌∙◌, arith}
use Rattle.zb_model.specs.declared.new_transaction.NewChange.{NewChange}
use Rattle.zb_model.specs.declared.new_transaction.NewTransaction.{NewTransaction}
use Rattle.fs_records.specs.Blocks.{records_from, block_text}
use Rattle.fs_index.specs.Places.{PlacesKept}
use Rattle.fs_records.specs.Placing.{placed_end}
use Rattle.fs_records.specs.PlacingLaws.{begins_at, text_end}
use Rattle.fs_records.specs.Writing.{block_of}

-- so a text has room for the records
pub records_within : (entries : List (ℕ × PlacesKept)) (end at : ℕ) (new : NewTransaction) (changes : List NewChange) (text : List ℕ) → changes ≡ new.changes → text ≡ block_text end (block_of 99 entries new) → at ≡ end + (23 + (length new.user + length new.description + length new.extension)) → placed_end at changes ≤ end + length text
records_within entries end at new changes text same is at_is =
    omega (arith, text_end 99 entries end new, ap length is, ap (λ (n : ℕ). placed_end n changes) (at_is ∙ sym (begins_at 99 entries end new)), ap (placed_end (records_from end (block_of 99 entries new))) same)

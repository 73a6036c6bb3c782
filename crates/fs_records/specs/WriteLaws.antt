-- A file that is written on: a block more, and what a block is before it is finished.
use Rattle.std.proofs.Common.{◌≡◌, ℕ, ◌+◌, ◌≤◌, true, false, eqb, ltb, List, [], ◌∷◌, ◌++◌, length, get_or, take, drop, Option, Some, None, refl, sym, ap, subst, ◌∙◌, append_assoc, arith}
use Rattle.std.proofs.lemmas.Bool.{eq-eqb, ne_eqb, le-ltb}
use Rattle.std.proofs.lemmas.List.{length-append, take_at, drop_at, drop-drop, append-nil}
use Rattle.fs_records.specs.declared.header.Header.{Header}
use Rattle.fs_records.specs.declared.verdict.Verdict.TheVariants.{Ends, Tail}
use Rattle.fs_records.specs.Numbers.{number}
use Rattle.fs_records.specs.NumberLaws.{length-number}
use Rattle.fs_records.specs.Headers.{header_text, header_of}
use Rattle.fs_records.specs.HeaderLaws.{length-header_text}
use Rattle.fs_records.specs.Blocks.{records_text, Block, Reached, file_start, magic, texts, length_of, header_for, block_text, after_block, IsBlock, blocks_text, after_blocks, Begins}
use Rattle.fs_records.specs.Rules.{texts_length, verdict}
use Rattle.fs_records.specs.File.{IsReadAs}
use Rattle.fs_records.specs.BlockLaws.{begins_more, after-end}
use Rattle.fs_records.specs.Unique.{block_again}

-- a transaction has its length and eight bytes more
pub length-block_text : (place : ℕ) (b : Block) → length (block_text place b) ≡ length_of place b + 8
unfolding block_text
length-block_text place b =
    let h = header_text (header_for place b) in
    let text = records_text place b.tid b.records in
    let c = number 8 (length_of place b) in
    omega (arith, length-append h (texts b ++ (text ++ c)), length-append (texts b) (text ++ c), length-append text c, length-header_text (header_for place b), length-number 8 (length_of place b))

end_is : (s : Reached) (bs : List Block) → (after_blocks s bs).end ≡ s.end + length (blocks_text s bs)
end_is s [] = omega arith
end_is s (b ∷ bs) = omega (arith, end_is (after_block s b) bs, after-end s b, length-block_text s.end b, length-append (block_text s.end b) (blocks_text (after_block s b) bs))

-- what was read of a file is all of it up to there
pub length-read : (bytes : List ℕ) (s : Reached) (begins : Begins bytes s) → length (magic ++ blocks_text file_start begins.blocks) ≡ s.end
length-read bytes s begins = omega (arith, ap (λ (r : Reached). r.end) begins.is, end_is file_start begins.blocks)

read_front : (bytes : List ℕ) (s : Reached) (begins : Begins bytes s) → take s.end bytes ≡ magic ++ blocks_text file_start begins.blocks
read_front bytes s begins =
    let text = magic ++ blocks_text file_start begins.blocks in
    let whole : bytes ≡ text ++ drop s.end bytes = begins.parts ∙ sym (append_assoc magic (blocks_text file_start begins.blocks) (drop s.end bytes)) in
    ap (take s.end) whole ∙ take_at text (drop s.end bytes) s.end (length-read bytes s begins)

-- what is put behind what was read stands behind it
pub behind_read : (bytes : List ℕ) (s : Reached) (rest : List ℕ) → Begins bytes s → drop s.end (take s.end bytes ++ rest) ≡ rest
behind_read bytes s rest begins =
    ap (λ (x : List ℕ). drop s.end (x ++ rest)) (read_front bytes s begins) ∙ drop_at (magic ++ blocks_text file_start begins.blocks) rest s.end (length-read bytes s begins)

-- and anything may
pub begins_with : (bytes : List ℕ) (s : Reached) (rest : List ℕ) → Begins bytes s → Begins (take s.end bytes ++ rest) s
begins_with bytes s rest begins = record {
  blocks = begins.blocks;
  are = begins.are;
  parts =
      ap (λ (x : List ℕ). x ++ rest) (read_front bytes s begins) ∙ append_assoc magic (blocks_text file_start begins.blocks) rest
      ∙ ap (λ (x : List ℕ). magic ++ (blocks_text file_start begins.blocks ++ x)) (sym (behind_read bytes s rest begins));
  is = begins.is;
}

-- and where a block stands there, it is read too
pub begins_block : (bytes : List ℕ) (s : Reached) (b : Block) (more : List ℕ) → Begins bytes s → drop s.end bytes ≡ block_text s.end b ++ more → IsBlock s b → Begins bytes (after_block s b)
begins_block bytes s b more begins stands is =
    let again = block_again s b more is in
    let header_is : header_of (drop s.end bytes) ≡ header_for s.end b = ap header_of stands ∙ again.1 in
    let length_is : (header_of (drop s.end bytes)).length ≡ length_of s.end b = ap (λ (h : Header). h.length) header_is in
    let texts_is : texts_length (header_of (drop s.end bytes)) ≡ length (texts b) = omega (arith, ap (λ (h : Header). texts_length h) header_is, length-append b.user (b.description ++ b.extension), length-append b.description b.extension) in
    let behind : drop ((header_of (drop s.end bytes)).length + 8) (drop s.end bytes) ≡ more =
    ap (λ (n : ℕ). drop (n + 8) (drop s.end bytes)) length_is ∙ ap (drop (length_of s.end b + 8)) stands ∙ drop_at (block_text s.end b) more (length_of s.end b + 8) (length-block_text s.end b) in
    begins_more bytes s b begins (record {
      length_is = sym length_is;
      from_is = omega arith;
      parts = stands ∙ ap (λ (x : List ℕ). block_text s.end b ++ x) (sym behind);
      is = is;
    })

-- a transaction whose status is that of a vote is a tail
pub voted_is_tail : (newest : ℕ) (rest : List ℕ) → 23 ≤ length rest → get_or rest 16 0 ≡ 99 → verdict newest rest ≡ Tail
unfolding verdict header_of
voted_is_tail newest rest long voted =
    let some : eqb (length rest) 0 ≡ false = ne_eqb _ _ (omega arith) in
    let enough : ltb (length rest) 23 ≡ false = le-ltb _ _ long in
    let is : eqb (get_or rest 16 0) 99 ≡ true = eq-eqb _ _ voted in
    rw (some, enough, is) refl

-- where no bytes are left a file ends
pub none_ends : (newest : ℕ) (rest : List ℕ) → length rest ≡ 0 → verdict newest rest ≡ Ends
unfolding verdict
none_ends newest rest none =
    let is : eqb (length rest) 0 ≡ true = eq-eqb _ _ none in
    rw is refl

-- a block behind what was read stands for the list with its transaction
pub block_stands : (bytes : List ℕ) (s : Reached) (b : Block) → Begins bytes s → IsBlock s b → IsReadAs (take s.end bytes ++ block_text s.end b) (after_block s b) None
block_stands bytes s b begins is =
    let file = take s.end bytes ++ block_text s.end b in
    let behind : drop s.end file ≡ block_text s.end b ++ [] = behind_read bytes s (block_text s.end b) begins ∙ sym (append-nil (block_text s.end b)) in
    let n = length_of s.end b + 8 in
    let over : drop (after_block s b).end file ≡ [] =
    ap (λ (k : ℕ). drop k file) (after-end s b) ∙ sym (drop-drop n s.end file) ∙ ap (drop n) behind ∙ drop_at (block_text s.end b) [] n (length-block_text s.end b) in
    record {
      begins = begins_block file s b [] (begins_with bytes s (block_text s.end b) begins) behind is;
      ends = ap (verdict (after_block s b).newest) over ∙ none_ends (after_block s b).newest [] refl;
    }

-- and one that was only voted for the list as it was
pub vote_stands : (bytes : List ℕ) (s : Reached) (rest : List ℕ) → Begins bytes s → 23 ≤ length rest → get_or rest 16 0 ≡ 99 → IsReadAs (take s.end bytes ++ rest) s (Some s.end)
vote_stands bytes s rest begins long voted = record {
  begins = begins_with bytes s rest begins;
  ends = (ap (verdict s.newest) (behind_read bytes s rest begins) ∙ voted_is_tail s.newest rest long voted, refl);
}

-- a file whose tail was cut off stands for the same list
pub without_tail_stands : (bytes : List ℕ) (s : Reached) (cut : Option ℕ) → IsReadAs bytes s cut → IsReadAs (take s.end bytes) s None
without_tail_stands bytes s cut stands =
    let whole = append-nil (take s.end bytes) in
    record {
      begins = subst (λ (x : List ℕ). Begins x s) whole (begins_with bytes s [] stands.begins);
      ends = ap (λ (x : List ℕ). verdict s.newest (drop s.end x)) (sym whole) ∙ ap (verdict s.newest) (behind_read bytes s [] stands.begins) ∙ none_ends s.newest [] refl;
    }

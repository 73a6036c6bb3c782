-- A transaction that is read stands there.
use Rattle.std.proofs.Common.{◌≡◌, ℕ, ◌+◌, ◌-◌, ◌^◌, ◌<◌, ◌≤◌, ◌≢◌, Bool, true, false, cond, eqb, ltb, leb, List, [], ◌∷◌, ◌++◌, length, take, drop, refl, sym, ap, subst, ◌∙◌, append_assoc, arith}
use Rattle.std.specs.Prelude.{not, ◌||◌}
use Rattle.std.proofs.lemmas.Bool.{eqb-true, eqb-false, ltb-false, leb-false, not-false}
use Rattle.std.proofs.lemmas.List.{length-take-le, length-drop, length-append, take-append-drop, drop-drop, append-nil}
use Rattle.fs_records.specs.declared.header.Header.{Header}
use Rattle.fs_records.specs.declared.field.Field.TheVariants.{Status, Length, Closing, Tid}
use Rattle.fs_records.specs.declared.verdict.Verdict.{Verdict}
use Rattle.fs_records.specs.declared.verdict.Verdict.TheVariants.{Ends, Tail, Fault, Begun}
use Rattle.fs_records.specs.Numbers.{number, number_in}
use Rattle.fs_records.specs.NumberLaws.{number_back_8}
use Rattle.fs_records.specs.Headers.{header_text, header_of}
use Rattle.fs_records.specs.HeaderLaws.{header_small, header_split, header_from}
use Rattle.fs_records.specs.Blocks.{Written, AreWritten, records_text, Block, Reached, file_start, texts, records_from, length_of, header_for, block_text, after_block, IsBlock, AreBlocks, blocks_text, after_blocks, Begins, magic}
use Rattle.fs_records.specs.Rules.{AreRecordsBetween, texts_length, verdict}
use Rattle.zb_base.specs.Bytes.{AreBytes, AreBytes-drop, AreBytes-take}

past : (b : Bool) (v r : Verdict) → (v ≡ Begun → ⊥) → cond b v r ≡ Begun → (b ≡ false) × (r ≡ Begun)
past true v r apart h = absurd (apart h)
past false v r apart h = (refl, h)

-- no rule fails
pub record Judged (newest : ℕ) (rest : List ℕ) : Type 0 where
  pub some : 23 ≤ length rest
  pub status : (eqb (header_of rest).status 32 || eqb (header_of rest).status 112) ≡ true
  pub long : (header_of rest).length + 8 ≤ length rest
  pub texts_fit : 23 + texts_length (header_of rest) ≤ (header_of rest).length
  pub closing : number_in 8 (drop (header_of rest).length rest) ≡ (header_of rest).length
  pub above : newest < (header_of rest).tid
  pub below : (header_of rest).tid ≢ 2 ^ 64 - 1

pub judged : (newest : ℕ) (rest : List ℕ) → verdict newest rest ≡ Begun → Judged newest rest
unfolding verdict
judged newest rest e =
    let h : Header = header_of rest in
    let a = past (eqb (length rest) 0) Ends _ (λ x. cc) e in
    let b = past (ltb (length rest) 23) Tail _ (λ x. cc) a.1 in
    let c = past (eqb h.status 99) Tail _ (λ x. cc) b.1 in
    let d = past (eqb h.status 0) Tail _ (λ x. cc) c.1 in
    let f = past (not (eqb h.status 32 || eqb h.status 112)) (Fault Status) _ (λ x. cc) d.1 in
    let g = past (ltb (length rest) (h.length + 8)) Tail _ (λ x. cc) f.1 in
    let i = past (ltb h.length (23 + texts_length h)) (Fault Length) _ (λ x. cc) g.1 in
    let j = past (not (eqb (number_in 8 (drop h.length rest)) h.length)) (Fault Closing) _ (λ x. cc) i.1 in
    let k = past (leb h.tid newest) (Fault Tid) _ (λ x. cc) j.1 in
    let l = past (eqb h.tid (2 ^ 64 - 1)) (Fault Tid) _ (λ x. cc) k.1 in
    record {
      some = ltb-false _ _ b.0;
      status = not-false _ f.0;
      long = ltb-false _ _ g.0;
      texts_fit = ltb-false _ _ i.0;
      closing = eqb-true _ _ (not-false _ j.0);
      above = leb-false _ _ k.0;
      below = eqb-false _ _ l.0;
    }

-- the transaction that stands there with these data records
abbrev pub block_in : List ℕ → List Written → Block
block_in rest rs = record {
  tid = (header_of rest).tid;
  status = (header_of rest).status;
  user = take (header_of rest).user (drop 23 rest);
  description = take (header_of rest).description (drop (header_of rest).user (drop 23 rest));
  extension = take (header_of rest).extension (drop (header_of rest).description (drop (header_of rest).user (drop 23 rest)));
  records = rs;
}

-- this block stands at the front of what is left, and may stand there
pub record BlockTaken (s : Reached) (rest : List ℕ) (b : Block) : Type 0 where
  pub length_is : length_of s.end b ≡ (header_of rest).length
  pub from_is : s.end + (23 + texts_length (header_of rest)) ≡ records_from s.end b
  pub parts : rest ≡ block_text s.end b ++ drop ((header_of rest).length + 8) rest
  pub is : IsBlock s b

-- three texts and what stands behind them
three_texts : (u d e : ℕ) (tail : List ℕ) → tail ≡ (take u tail ++ (take d (drop u tail) ++ take e (drop d (drop u tail)))) ++ drop (u + d + e) tail
three_texts u d e tail =
    let t1 = drop u tail in
    let t2 = drop d t1 in
    let behind : drop (u + d + e) tail ≡ drop e t2 = sym (drop-drop e (u + d) tail) ∙ ap (drop e) (sym (drop-drop d u tail)) in
    let whole : tail ≡ take u tail ++ (take d t1 ++ (take e t2 ++ drop e t2)) =
    sym (take-append-drop u tail) ∙ ap (λ (x : List ℕ). take u tail ++ x) (sym (take-append-drop d t1) ∙ ap (λ (x : List ℕ). take d t1 ++ x) (sym (take-append-drop e t2))) in
    whole ∙ ap (λ (x : List ℕ). take u tail ++ (take d t1 ++ (take e t2 ++ x))) (sym behind) ∙ ap (λ (x : List ℕ). take u tail ++ x) (sym (append_assoc (take d t1) (take e t2) (drop (u + d + e) tail))) ∙ sym (append_assoc (take u tail) (take d t1 ++ take e t2) (drop (u + d + e) tail))

pub block_takes : (bytes : List ℕ) (s : Reached) (rs : List Written) → s.end < 2 ^ 64 → AreBytes bytes → verdict s.newest (drop s.end bytes) ≡ Begun
    → AreRecordsBetween bytes s.known s.end (header_of (drop s.end bytes)).tid (s.end + (23 + texts_length (header_of (drop s.end bytes)))) (s.end + (header_of (drop s.end bytes)).length) rs
    → BlockTaken s (drop s.end bytes) (block_in (drop s.end bytes) rs)
unfolding block_text
block_takes bytes s rs place_small fits begun stand =
    let p : ℕ = s.end in
    let rest : List ℕ = drop p bytes in
    let h : Header = header_of rest in
    let b : Block = block_in rest rs in
    let j = judged s.newest rest begun in
    let tail : List ℕ = drop 23 rest in
    let rest_fits : AreBytes rest = AreBytes-drop p bytes fits in
    let tail_long : texts_length h ≤ length tail = omega (arith, length-drop 23 rest, j.long, j.texts_fit) in
    let u_is : length b.user ≡ h.user = length-take-le h.user tail (omega arith) in
    let d_is : length b.description ≡ h.description = length-take-le h.description (drop h.user tail) (omega (arith, length-drop h.user tail)) in
    let e_is : length b.extension ≡ h.extension = length-take-le h.extension (drop h.description (drop h.user tail)) (omega (arith, length-drop h.user tail, length-drop h.description (drop h.user tail))) in
    let texts_is : length (texts b) ≡ texts_length h = omega (arith, length-append b.user (b.description ++ b.extension), length-append b.description b.extension) in
    let from_is : s.end + (23 + texts_length h) ≡ records_from p b = omega arith in
    let text : List ℕ = records_text p b.tid rs in
    let length_is : length_of p b ≡ h.length = omega (arith, stand.next) in
    let header_is : header_for p b ≡ h = header_from h refl length_is refl u_is d_is e_is in
    let closing_is : drop h.length rest ≡ number 8 (length_of p b) ++ drop (h.length + 8) rest =
    let back : number 8 (number_in 8 (drop h.length rest)) ≡ take 8 (drop h.length rest) = number_back_8 (drop h.length rest) (omega (arith, length-drop h.length rest, j.long)) (AreBytes-drop h.length rest rest_fits) in
    sym (take-append-drop 8 (drop h.length rest)) ∙ ap (λ (x : List ℕ). x ++ drop 8 (drop h.length rest)) (sym back ∙ ap (number 8) (j.closing ∙ sym length_is)) ∙ ap (λ (x : List ℕ). number 8 (length_of p b) ++ x) (drop-drop 8 h.length rest) in
    let records_are : drop (texts_length h) tail ≡ text ++ drop h.length rest =
    drop-drop (texts_length h) 23 rest ∙ drop-drop (23 + texts_length h) p bytes ∙ stand.parts ∙ ap (λ (x : List ℕ). text ++ x) (sym (drop-drop h.length p bytes)) in
    let body : tail ≡ texts b ++ (text ++ (number 8 (length_of p b) ++ drop (h.length + 8) rest)) =
    three_texts h.user h.description h.extension tail ∙ ap (λ (x : List ℕ). texts b ++ x) (records_are ∙ ap (λ (x : List ℕ). text ++ x) closing_is) in
    let after_it : List ℕ = drop (h.length + 8) rest in
    let small = header_small rest rest_fits in
    let tid_small = small.tid in
    let user_small = small.user in
    let description_small = small.description in
    let extension_small = small.extension in
    let length_small = small.length in
    let regroup : header_text (header_for p b) ++ (texts b ++ (text ++ (number 8 (length_of p b) ++ after_it))) ≡ block_text p b ++ after_it = simp append_assoc in
    record {
      length_is = length_is;
      from_is = from_is;
      parts = header_split rest j.some (AreBytes-take 23 rest rest_fits) ∙ ap (λ (x : List ℕ). header_text h ++ x) body ∙ ap (λ (x : Header). header_text x ++ (texts b ++ (text ++ (number 8 (length_of p b) ++ after_it)))) (sym header_is) ∙ regroup;
      is = record {
        place = place_small;
        above = j.above;
        below = omega (arith, tid_small, j.below);
        status = j.status;
        user = omega (arith, user_small, u_is);
        description = omega (arith, description_small, d_is);
        extension = omega (arith, extension_small, e_is);
        records = subst (λ (from : ℕ). AreWritten s.known p b.tid from rs) from_is stand.written;
        long = omega (arith, length_small, length_is);
      };
    }

-- ---- one block more

AreBlocks-push : (s : Reached) (bs : List Block) (b : Block) → AreBlocks s bs → IsBlock (after_blocks s bs) b → AreBlocks s (bs ++ b ∷ [])
AreBlocks-push s [] b h one = (one, tt)
AreBlocks-push s (x ∷ xs) b h one = (h.0, AreBlocks-push (after_block s x) xs b h.1 one)

after_all-push : (s : Reached) (bs : List Block) (b : Block) → after_blocks s (bs ++ b ∷ []) ≡ after_block (after_blocks s bs) b
after_all-push s [] b = refl
after_all-push s (x ∷ xs) b = after_all-push (after_block s x) xs b

blocks_text-push : (s : Reached) (bs : List Block) (b : Block) → blocks_text s (bs ++ b ∷ []) ≡ blocks_text s bs ++ block_text (after_blocks s bs).end b
blocks_text-push s [] b = append-nil (block_text s.end b)
blocks_text-push s (x ∷ xs) b = ap (λ (t : List ℕ). block_text s.end x ++ t) (blocks_text-push (after_block s x) xs b) ∙ sym (append_assoc (block_text s.end x) (blocks_text (after_block s x) xs) (block_text (after_blocks (after_block s x) xs).end b))

pub after-end : (s : Reached) (b : Block) → (after_block s b).end ≡ s.end + (length_of s.end b + 8)
unfolding after_block
after-end s b = refl

pub begins_more : (bytes : List ℕ) (s : Reached) (b : Block) → Begins bytes s → BlockTaken s (drop s.end bytes) b → Begins bytes (after_block s b)
begins_more bytes s b so_far t =
    let bs = so_far.blocks in
    let rest = drop s.end bytes in
    let n = (header_of rest).length + 8 in
    let behind : drop n rest ≡ drop (after_block s b).end bytes = drop-drop n s.end bytes ∙ ap (λ (k : ℕ). drop k bytes) (ap (λ (l : ℕ). s.end + (l + 8)) (sym t.length_is) ∙ sym (after-end s b)) in
    let text_is : blocks_text file_start (bs ++ b ∷ []) ≡ blocks_text file_start bs ++ block_text s.end b = blocks_text-push file_start bs b ∙ ap (λ (x : Reached). blocks_text file_start bs ++ block_text x.end b) (sym so_far.is) in
    record {
      blocks = bs ++ b ∷ [];
      are = AreBlocks-push file_start bs b so_far.are (subst (λ (x : Reached). IsBlock x b) so_far.is t.is);
      parts = so_far.parts ∙ ap (λ (x : List ℕ). magic ++ x) (ap (λ (x : List ℕ). blocks_text file_start bs ++ x) (t.parts ∙ ap (λ (x : List ℕ). block_text s.end b ++ x) behind) ∙ sym (append_assoc (blocks_text file_start bs) (block_text s.end b) (drop (after_block s b).end bytes)) ∙ ap (λ (x : List ℕ). x ++ drop (after_block s b).end bytes) (sym text_is));
      is = ap (λ (x : Reached). after_block x b) so_far.is ∙ sym (after_all-push file_start bs b);
    }

pub begins_here : (bytes : List ℕ) → take 4 bytes ≡ magic → Begins bytes file_start
begins_here bytes e = record { blocks = []; are = tt; parts = sym (take-append-drop 4 bytes) ∙ ap (λ (x : List ℕ). x ++ drop 4 bytes) e; is = refl }

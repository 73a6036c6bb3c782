-- Bytes stand for at most one list, or are damaged at one place.
use Rattle.std.proofs.Common.{◌≡◌, ℕ, ◌+◌, ◌-◌, ◌^◌, ◌<◌, ◌≤◌, ◌≢◌, true, false, eqb, ltb, leb, List, [], ◌∷◌, ◌++◌, length, drop, Option, Some, None, Err, inl, inr, refl, sym, ap, subst, ◌∙◌, append_assoc, arith}
use Rattle.std.specs.Prelude.{◌||◌}
use Rattle.std.proofs.lemmas.Bool.{eqb-true, eq-eqb, ne_eqb, le-ltb, lt-leb, or_cases}
use Rattle.std.proofs.lemmas.List.{length-append, drop-drop, drop_at, append_cancel_left}
use Rattle.fs_records.specs.declared.header.Header.{Header}
use Rattle.fs_records.specs.declared.field.Field.{Field}
use Rattle.fs_records.specs.declared.verdict.Verdict.{Verdict}
use Rattle.fs_records.specs.declared.verdict.Verdict.TheVariants.{Ends, Tail, Fault, Begun}
use Rattle.fs_records.specs.Numbers.{number, number_in}
use Rattle.fs_records.specs.NumberLaws.{length-number, number_in-number}
use Rattle.fs_records.specs.Headers.{header_text, header_of}
use Rattle.fs_records.specs.HeaderLaws.{IsHeader, header_again, length-header_text}
use Rattle.fs_records.specs.Blocks.{Written, Known, AreWritten, IsWrittenRecord, with_record, with_records, record_text, records_text, is_known, Block, Reached, file_start, texts, records_from, length_of, header_for, block_text, after_block, IsBlock, AreBlocks, blocks_text, after_blocks, Begins, magic}
use Rattle.fs_records.specs.Rules.{record_at, record_in, texts_length, verdict}
use Rattle.fs_records.specs.File.{IsReadAs, EndsAt, IsDamaged, IsFault, head, data_record, RecordFault, data_from, data_to}
use Rattle.fs_records.specs.RecordLaws.{record_again, length-record_text}

-- ---- fronts of the same length

pub front_same : {X : Type 0} (a b x y : List X) → length a ≡ length b → a ++ x ≡ b ++ y → (a ≡ b) × (x ≡ y)
front_same [] [] x y l e = (refl, e)
front_same [] (b ∷ bs) x y l e = absurd (omega arith)
front_same (a ∷ as_) [] x y l e = absurd (omega arith)
front_same (a ∷ as_) (b ∷ bs) x y l e =
    let h : a ≡ b = cc in
    let t : as_ ++ x ≡ bs ++ y = cc in
    let r = front_same as_ bs x y (omega arith) t in
    (cc (h, r.0), r.1)

-- ---- data records

pub one_record : (known : List Known) (place tid : ℕ) (r s : Written) (x y : List ℕ) → place < 2 ^ 64 → tid < 2 ^ 64 → IsWrittenRecord known r → IsWrittenRecord known s → record_text place tid r ++ x ≡ record_text place tid s ++ y → r ≡ s
one_record known place tid r s x y p t hr hs e =
    let a = record_again known (is_known known) place tid (length (record_text place tid r)) r x (λ o q. refl) hr t p (omega arith) in
    let b = record_again known (is_known known) place tid (length (record_text place tid s)) s y (λ o q. refl) hs t p (omega arith) in
    sym a.1 ∙ ap record_in e ∙ b.1

records_same : (known : List Known) (place tid q : ℕ) (rs ss : List Written) (x y : List ℕ) → place < 2 ^ 64 → tid < 2 ^ 64 → AreWritten known place tid q rs → AreWritten known place tid q ss
    → length (records_text place tid rs) ≡ length (records_text place tid ss) → records_text place tid rs ++ x ≡ records_text place tid ss ++ y → rs ≡ ss
records_same known place tid q [] [] x y p t hr hs l e = refl
records_same known place tid q [] (s ∷ ss) x y p t hr hs l e = absurd (omega (arith, length-record_text place tid s, length-append (record_text place tid s) (records_text place tid ss)))
records_same known place tid q (r ∷ rs) [] x y p t hr hs l e = absurd (omega (arith, length-record_text place tid r, length-append (record_text place tid r) (records_text place tid rs)))
records_same known place tid q (r ∷ rs) (s ∷ ss) x y p t hr hs l e =
    let whole : record_text place tid r ++ (records_text place tid rs ++ x) ≡ record_text place tid s ++ (records_text place tid ss ++ y) = sym (append_assoc (record_text place tid r) (records_text place tid rs) x) ∙ e ∙ append_assoc (record_text place tid s) (records_text place tid ss) y in
    let one : r ≡ s = one_record known place tid r s _ _ p t hr.0 hs.0 whole in
    let behind = front_same (record_text place tid r) (record_text place tid s) _ _ (ap (λ (w : Written). length (record_text place tid w)) one) whole in
    let others = subst (λ (w : Written). AreWritten (with_record known tid q w) place tid (q + length (record_text place tid w)) ss) (sym one) hs.1 in
    let long : length (records_text place tid rs) ≡ length (records_text place tid ss) = omega (arith, l, ap (λ (w : Written). length (record_text place tid w)) one, length-append (record_text place tid r) (records_text place tid rs), length-append (record_text place tid s) (records_text place tid ss)) in
    let same = records_same (with_record known tid q r) place tid (q + length (record_text place tid r)) rs ss x y p t hr.1 others long behind.1 in
    cc (one, same)

-- records that fill a part, and records behind which a rule fails before its end
no_fault : (known : List Known) (place tid q at end : ℕ) (field : Field) (rs ss : List Written) (x y : List ℕ) → place < 2 ^ 64 → tid < 2 ^ 64 → AreWritten known place tid q rs → AreWritten known place tid q ss
    → records_text place tid rs ++ x ≡ records_text place tid ss ++ y → end ≡ q + length (records_text place tid rs) → at ≡ q + length (records_text place tid ss) → at < end
    → record_at (is_known (with_records known place tid q ss)) place tid (end - at) y ≡ Err field → ⊥
no_fault known place tid q at end field [] ss x y p t hr hs e to_end to_at before fault = absurd (omega arith)
no_fault known place tid q at end field (r ∷ rs) [] x y p t hr hs e to_end to_at before fault =
    let whole : record_text place tid r ++ (records_text place tid rs ++ x) ≡ y = sym (append_assoc (record_text place tid r) (records_text place tid rs) x) ∙ e in
    let a = record_again known (is_known known) place tid (end - at) r (records_text place tid rs ++ x) (λ o q. refl) hr.0 t p (omega (arith, length-append (record_text place tid r) (records_text place tid rs))) in
    let same = ap (record_at (is_known known) place tid (end - at)) (sym whole) ∙ a.0 in
    absurd (cc (same, fault))
no_fault known place tid q at end field (r ∷ rs) (s ∷ ss) x y p t hr hs e to_end to_at before fault =
    let whole : record_text place tid r ++ (records_text place tid rs ++ x) ≡ record_text place tid s ++ (records_text place tid ss ++ y) = sym (append_assoc (record_text place tid r) (records_text place tid rs) x) ∙ e ∙ append_assoc (record_text place tid s) (records_text place tid ss) y in
    let one : s ≡ r = sym (one_record known place tid r s _ _ p t hr.0 hs.0 whole) in
    let len = ap (λ (w : Written). length (record_text place tid w)) one in
    let behind = front_same (record_text place tid r) (record_text place tid s) _ _ (sym len) whole in
    let others = subst (λ (w : Written). AreWritten (with_record known tid q w) place tid (q + length (record_text place tid w)) ss) one hs.1 in
    let fault_too = subst (λ (w : Written). record_at (is_known (with_records (with_record known tid q w) place tid (q + length (record_text place tid w)) ss)) place tid (end - at) y ≡ Err field) one fault in
    no_fault (with_record known tid q r) place tid (q + length (record_text place tid r)) at end field rs ss x y p t hr.1 others behind.1
    (omega (arith, to_end, length-append (record_text place tid r) (records_text place tid rs)))
    (omega (arith, to_at, len, length-append (record_text place tid s) (records_text place tid ss)))
    before fault_too

-- ---- blocks

header_fits : (s : Reached) (b : Block) → IsBlock s b → IsHeader (header_for s.end b)
header_fits s b is = record { tid = omega (arith, is.below); length = is.long; user = is.user; description = is.description; extension = is.extension }

-- what the rules want
begun : (newest : ℕ) (rest : List ℕ) (h : Header) → header_of rest ≡ h → (eqb h.status 32 || eqb h.status 112) ≡ true → h.length + 8 ≤ length rest → 23 + texts_length h ≤ h.length → number_in 8 (drop h.length rest) ≡ h.length → newest < h.tid → h.tid ≢ 2 ^ 64 - 1
    → verdict newest rest ≡ Begun
unfolding verdict
begun newest rest h is status long texts_fit closing above below =
    let a : eqb (length rest) 0 ≡ false = ne_eqb _ _ (omega arith) in
    let b : ltb (length rest) 23 ≡ false = le-ltb _ _ (omega arith) in
    let not_voted : h.status ≢ 99 = λ v. elim (or_cases (eqb h.status 32) (eqb h.status 112) status) [ inl x ↦ omega (arith, eqb-true h.status 32 x, v) | inr x ↦ omega (arith, eqb-true h.status 112 x, v) ] in
    let not_zero : h.status ≢ 0 = λ v. elim (or_cases (eqb h.status 32) (eqb h.status 112) status) [ inl x ↦ omega (arith, eqb-true h.status 32 x, v) | inr x ↦ omega (arith, eqb-true h.status 112 x, v) ] in
    let c : eqb h.status 99 ≡ false = ne_eqb _ _ not_voted in
    let d : eqb h.status 0 ≡ false = ne_eqb _ _ not_zero in
    let g : ltb (length rest) (h.length + 8) ≡ false = le-ltb _ _ long in
    let i : ltb h.length (23 + texts_length h) ≡ false = le-ltb _ _ texts_fit in
    let j : eqb h.length h.length ≡ true = eq-eqb _ _ refl in
    let k : leb h.tid newest ≡ false = lt-leb _ _ above in
    let l : eqb h.tid (2 ^ 64 - 1) ≡ false = ne_eqb _ _ below in
    rw (is, a, b, c, d, status, g, i, closing, j, k, l) refl

pub block_again : (s : Reached) (b : Block) (more : List ℕ) → IsBlock s b → (verdict s.newest (block_text s.end b ++ more) ≡ Begun) × (header_of (block_text s.end b ++ more) ≡ header_for s.end b)
unfolding block_text
block_again s b more is =
    let p = s.end in
    let h : Header = header_for p b in
    let text = records_text p b.tid b.records in
    let c = number 8 (length_of p b) in
    let rest : List ℕ = (header_text h ++ (texts b ++ (text ++ c))) ++ more in
    let regrouped : rest ≡ header_text h ++ (texts b ++ (text ++ (c ++ more))) = simp append_assoc in
    let header_is : header_of rest ≡ h = ap header_of regrouped ∙ header_again h (texts b ++ (text ++ (c ++ more))) (header_fits s b is) in
    let parts : header_text h ++ (texts b ++ (text ++ (c ++ more))) ≡ (header_text h ++ (texts b ++ text)) ++ (c ++ more) = simp append_assoc in
    let len_front : length (header_text h ++ (texts b ++ text)) ≡ length_of p b = omega (arith, length-append (header_text h) (texts b ++ text), length-header_text h, length-append (texts b) text) in
    let closing_is : drop (length_of p b) rest ≡ c ++ more = ap (drop (length_of p b)) (regrouped ∙ parts) ∙ drop_at (header_text h ++ (texts b ++ text)) (c ++ more) (length_of p b) len_front in
    let closing : number_in 8 (drop (length_of p b) rest) ≡ length_of p b = ap (number_in 8) closing_is ∙ number_in-number 8 (length_of p b) more (omega (arith, is.long)) in
    let total : length rest ≡ length_of p b + (8 + length more) = ap length (regrouped ∙ parts) ∙ length-append (header_text h ++ (texts b ++ text)) (c ++ more) ∙ omega (arith, len_front, length-append c more, length-number 8 (length_of p b)) in
    let texts_is : length (texts b) ≡ texts_length h = omega (arith, length-append b.user (b.description ++ b.extension), length-append b.description b.extension) in
    (begun s.newest rest h header_is is.status (omega (arith, total)) (omega (arith, texts_is)) closing is.above (omega (arith, is.below)), header_is)

-- behind the header and the texts
block_data : (p : ℕ) (b : Block) (more : List ℕ) → drop (23 + length (texts b)) (block_text p b ++ more) ≡ records_text p b.tid b.records ++ (number 8 (length_of p b) ++ more)
unfolding block_text
block_data p b more =
    let text = records_text p b.tid b.records in
    let c = number 8 (length_of p b) in
    let h = header_text (header_for p b) in
    let parts : (h ++ (texts b ++ (text ++ c))) ++ more ≡ (h ++ texts b) ++ (text ++ (c ++ more)) = simp append_assoc in
    ap (drop (23 + length (texts b))) parts ∙ drop_at (h ++ texts b) (text ++ (c ++ more)) (23 + length (texts b)) (omega (arith, length-append h (texts b), length-header_text (header_for p b)))

block_texts : (p : ℕ) (b : Block) (more : List ℕ) → (block_text p b ++ more) ≡ header_text (header_for p b) ++ (b.user ++ (b.description ++ (b.extension ++ (records_text p b.tid b.records ++ (number 8 (length_of p b) ++ more)))))
unfolding block_text
block_texts p b more = simp append_assoc

abbrev make : ℕ → ℕ → List ℕ → List ℕ → List ℕ → List Written → Block
make t s u d e r = record { tid = t; status = s; user = u; description = d; extension = e; records = r }

block_from : (a b : Block) → a.tid ≡ b.tid → a.status ≡ b.status → a.user ≡ b.user → a.description ≡ b.description → a.extension ≡ b.extension → a.records ≡ b.records → a ≡ b
block_from a b t s u d e r =
    ap (λ (x : ℕ). make x a.status a.user a.description a.extension a.records) t ∙ ap (λ (x : ℕ). make b.tid x a.user a.description a.extension a.records) s ∙ ap (λ (x : List ℕ). make b.tid b.status x a.description a.extension a.records) u
    ∙ ap (λ (x : List ℕ). make b.tid b.status b.user x a.extension a.records) d ∙ ap (λ (x : List ℕ). make b.tid b.status b.user b.description x a.records) e ∙ ap (λ (x : List Written). make b.tid b.status b.user b.description b.extension x) r

block_same : (s : Reached) (a b : Block) (x y : List ℕ) → IsBlock s a → IsBlock s b → block_text s.end a ++ x ≡ block_text s.end b ++ y → a ≡ b
block_same s a b x y is_a is_b e =
    let p = s.end in
    let hs : header_for p a ≡ header_for p b = sym (block_again s a x is_a).1 ∙ ap header_of e ∙ (block_again s b y is_b).1 in
    let tid_is : a.tid ≡ b.tid = ap (λ (h : Header). h.tid) hs in
    let status_is : a.status ≡ b.status = ap (λ (h : Header). h.status) hs in
    let length_is : length_of p a ≡ length_of p b = ap (λ (h : Header). h.length) hs in
    let user_long : length a.user ≡ length b.user = ap (λ (h : Header). h.user) hs in
    let description_long : length a.description ≡ length b.description = ap (λ (h : Header). h.description) hs in
    let extension_long : length a.extension ≡ length b.extension = ap (λ (h : Header). h.extension) hs in
    let whole = sym (block_texts p a x) ∙ e ∙ block_texts p b y in
    let f0 = front_same (header_text (header_for p a)) (header_text (header_for p b)) _ _ (length-header_text (header_for p a) ∙ sym (length-header_text (header_for p b))) whole in
    let f1 = front_same a.user b.user _ _ user_long f0.1 in
    let f2 = front_same a.description b.description _ _ description_long f1.1 in
    let f3 = front_same a.extension b.extension _ _ extension_long f2.1 in
    let texts_long : length (texts a) ≡ length (texts b) = omega (arith, length-append a.user (a.description ++ a.extension), length-append a.description a.extension, length-append b.user (b.description ++ b.extension), length-append b.description b.extension) in
    let from_is : records_from p b ≡ records_from p a = omega arith in
    let written_b : AreWritten s.known p a.tid (records_from p a) b.records = subst (λ (q : ℕ). AreWritten s.known p a.tid q b.records) from_is (subst (λ (t : ℕ). AreWritten s.known p t (records_from p b) b.records) (sym tid_is) is_b.records) in
    let text_b : records_text p b.tid b.records ≡ records_text p a.tid b.records = ap (λ (t : ℕ). records_text p t b.records) (sym tid_is) in
    let long : length (records_text p a.tid a.records) ≡ length (records_text p a.tid b.records) = omega (arith, ap length text_b) in
    let e4 = f3.1 ∙ ap (λ (t : List ℕ). t ++ (number 8 (length_of p b) ++ y)) text_b in
    let records_are = records_same s.known p a.tid (records_from p a) a.records b.records _ _ is_a.place (omega (arith, is_a.below)) is_a.records written_b long e4 in
    block_from a b tid_is status_is f1.0 f2.0 f3.0 records_are

-- ---- where nothing can follow

-- no block that may come next stands here
pub Stops : Reached → List ℕ → Type 0
Stops s x = (b : Block) (more : List ℕ) → IsBlock s b → x ≡ block_text s.end b ++ more → ⊥

not_begun : (s : Reached) (x : List ℕ) (v : Verdict) → (v ≡ Begun → ⊥) → verdict s.newest x ≡ v → Stops s x
unfolding Stops
not_begun s x v apart is b more block e = apart (sym is ∙ ap (verdict s.newest) e ∙ (block_again s b more block).0)

pub ends_stops : (bytes : List ℕ) (s : Reached) (cut : Option ℕ) → EndsAt bytes s cut → Stops s (drop s.end bytes)
ends_stops bytes s None is = not_begun s _ Ends (λ x. cc) is
ends_stops bytes s (Some at) is = not_begun s _ Tail (λ x. cc) is.0

pub fault_stops : (bytes : List ℕ) (s : Reached) (at : ℕ) (field : Field) → IsFault bytes s at field → Stops s (drop s.end bytes)
unfolding Stops
fault_stops bytes s at field (head is place) b more block e = not_begun s (drop s.end bytes) (Fault field) (λ x. cc) is b more block e
fault_stops bytes s at field (data_record is f) b more block e =
    let p = s.end in
    let rest = drop p bytes in
    let header_is : header_of rest ≡ header_for p b = ap header_of e ∙ (block_again s b more block).1 in
    let texts_is : texts_length (header_of rest) ≡ length (texts b) = omega (arith, ap (λ (h : Header). texts_length h) header_is, length-append b.user (b.description ++ b.extension), length-append b.description b.extension) in
    let tid_is : (header_of rest).tid ≡ b.tid = ap (λ (h : Header). h.tid) header_is in
    let from_is : data_from bytes p ≡ records_from p b = omega arith in
    let to_is : data_to bytes p ≡ p + length_of p b = ap (λ (h : Header). p + h.length) header_is in
    let data_is : drop (data_from bytes p) bytes ≡ records_text p b.tid b.records ++ (number 8 (length_of p b) ++ more) =
    sym (drop-drop (23 + texts_length (header_of rest)) p bytes) ∙ ap (λ (n : ℕ). drop (23 + n) rest) texts_is ∙ ap (drop (23 + length (texts b))) e ∙ block_data p b more in
    let here : drop (records_from p b) bytes ≡ records_text p b.tid b.records ++ (number 8 (length_of p b) ++ more) = ap (λ (n : ℕ). drop n bytes) (sym from_is) ∙ data_is in
    let g : RecordFault bytes s.known p b.tid (records_from p b) (data_to bytes p) at field = subst (λ (from : ℕ). RecordFault bytes s.known p b.tid from (data_to bytes p) at field) from_is (subst (λ (t : ℕ). RecordFault bytes s.known p t (data_from bytes p) (data_to bytes p) at field) tid_is f) in
    no_fault s.known p b.tid (records_from p b) at (data_to bytes p) field b.records g.records (number 8 (length_of p b) ++ more) (drop at bytes) block.place (omega (arith, block.below)) block.records g.stand.written
    (sym here ∙ g.stand.parts)
    (omega (arith, to_is)) g.stand.next g.before g.fault

-- ---- one reading

blocks_same : (s : Reached) (bs cs : List Block) (x y : List ℕ) → AreBlocks s bs → AreBlocks s cs → blocks_text s bs ++ x ≡ blocks_text s cs ++ y → Stops (after_blocks s bs) x → Stops (after_blocks s cs) y → bs ≡ cs
unfolding Stops
blocks_same s [] [] x y hb hc e sx sy = refl
blocks_same s [] (c ∷ cs) x y hb hc e sx sy = absurd (sx c (blocks_text (after_block s c) cs ++ y) hc.0 (e ∙ append_assoc (block_text s.end c) (blocks_text (after_block s c) cs) y))
blocks_same s (b ∷ bs) [] x y hb hc e sx sy = absurd (sy b (blocks_text (after_block s b) bs ++ x) hb.0 (sym e ∙ append_assoc (block_text s.end b) (blocks_text (after_block s b) bs) x))
blocks_same s (b ∷ bs) (c ∷ cs) x y hb hc e sx sy =
    let whole : block_text s.end b ++ (blocks_text (after_block s b) bs ++ x) ≡ block_text s.end c ++ (blocks_text (after_block s c) cs ++ y) = sym (append_assoc (block_text s.end b) (blocks_text (after_block s b) bs) x) ∙ e ∙ append_assoc (block_text s.end c) (blocks_text (after_block s c) cs) y in
    let one : c ≡ b = sym (block_same s b c _ _ hb.0 hc.0 whole) in
    let len = ap (λ (w : Block). length (block_text s.end w)) one in
    let behind = front_same (block_text s.end b) (block_text s.end c) _ _ (sym len) whole in
    let others : AreBlocks (after_block s b) cs = subst (λ (w : Block). AreBlocks (after_block s w) cs) one hc.1 in
    let behind_too : blocks_text (after_block s b) bs ++ x ≡ blocks_text (after_block s b) cs ++ y = behind.1 ∙ ap (λ (w : Block). blocks_text (after_block s w) cs ++ y) one in
    let stops_too : Stops (after_blocks (after_block s b) cs) y = subst (λ (w : Block). Stops (after_blocks (after_block s w) cs) y) one sy in
    let same = blocks_same (after_block s b) bs cs x y hb.1 others behind_too sx stops_too in
    cc (one, same)

-- two readings that stop are one
pub reached_same : (bytes : List ℕ) (s t : Reached) → Begins bytes s → Begins bytes t → Stops s (drop s.end bytes) → Stops t (drop t.end bytes) → s ≡ t
reached_same bytes s t bs bt ss st =
    let e = append_cancel_left magic _ _ (sym bs.parts ∙ bt.parts) in
    let same = blocks_same file_start bs.blocks bt.blocks (drop s.end bytes) (drop t.end bytes) bs.are bt.are e (subst (λ (r : Reached). Stops r (drop s.end bytes)) bs.is ss) (subst (λ (r : Reached). Stops r (drop t.end bytes)) bt.is st) in
    bs.is ∙ ap (after_blocks file_start) same ∙ sym bt.is

one_cut : (bytes : List ℕ) (s : Reached) (a b : Option ℕ) → EndsAt bytes s a → EndsAt bytes s b → a ≡ b
one_cut bytes s None None ha hb = refl
one_cut bytes s None (Some b) ha hb = absurd (cc (ha, hb.0))
one_cut bytes s (Some a) None ha hb = absurd (cc (ha.0, hb))
one_cut bytes s (Some a) (Some b) ha hb = ap (λ (n : ℕ). Some n) (ha.1 ∙ sym hb.1)

-- the list is one, and so is the cut
pub one_list : (bytes : List ℕ) (s t : Reached) (a b : Option ℕ) → IsReadAs bytes s a → IsReadAs bytes t b → (s ≡ t) × (a ≡ b)
one_list bytes s t a b hs ht =
    let same = reached_same bytes s t hs.begins ht.begins (ends_stops bytes s a hs.ends) (ends_stops bytes t b ht.ends) in
    (same, one_cut bytes s a b hs.ends (subst (λ (r : Reached). EndsAt bytes r b) (sym same) ht.ends))

no_end : (bytes : List ℕ) (s : Reached) (cut : Option ℕ) (at : ℕ) (field : Field) → EndsAt bytes s cut → IsFault bytes s at field → ⊥
no_end bytes s None at field ends (head is place) = cc
no_end bytes s (Some a) at field ends (head is place) = absurd (cc (ends.0, is))
no_end bytes s None at field ends (data_record is f) = cc
no_end bytes s (Some a) at field ends (data_record is f) = absurd (cc (ends.0, is))

-- what stands for a list is not damaged
pub never_both : (bytes : List ℕ) (s : Reached) (cut : Option ℕ) (at : ℕ) (field : Field) → IsReadAs bytes s cut → IsDamaged bytes at field → ⊥
never_both bytes s cut at field stands damaged =
    let same = reached_same bytes damaged.reached s damaged.begins stands.begins (fault_stops bytes damaged.reached at field damaged.fault) (ends_stops bytes s cut stands.ends) in
    no_end bytes s cut at field stands.ends (subst (λ (r : Reached). IsFault bytes r at field) same damaged.fault)

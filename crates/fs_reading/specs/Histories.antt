-- What stands in the bytes of a file: its records, its transactions, and the histories of its objects.
use Rattle.std.proofs.Common.{◌≡◌, ℕ, ◌+◌, ◌-◌, ◌^◌, ◌<◌, ◌≤◌, Bool, true, cond, List, [], ◌∷◌, ◌++◌, length, map, filter, drop, Option, Some, None, refl, sym, ap, subst, ◌∙◌, append_assoc, eq-eqb, arith}
use Rattle.std.specs.List.{AllByRecursion, filter_map, cons_option, last_or}
use Rattle.std.specs.Option.{option_map, option_to_list, IfSome}
use Rattle.std.proofs.lemmas.List.{length-append, length-drop, drop_at, map-append}
use Rattle.std.proofs.lemmas.List.Elements.{filter-append, filter_map-append}
use Rattle.std.proofs.lemmas.Bool.{ne_eqb}
use Rattle.zb_model.specs.declared.data.Change.{Change}
use Rattle.zb_model.specs.declared.data.Transaction.{Transaction}
use Rattle.zb_model.specs.declared.lists.Revision.{Revision}
use Rattle.zb_model.specs.Lists.{size_of, history_line}
use Rattle.zb_model.specs.Database.{change_in}
use Rattle.fs_records.specs.declared.header.Header.{Header}
use Rattle.fs_records.specs.NumberLaws.{length-number}
use Rattle.fs_records.specs.Rules.{texts_length}
use Rattle.fs_records.specs.Numbers.{number}
use Rattle.fs_records.specs.Blocks.{Block, Known, is_known, content_at, Reached, file_start, after_block, after_blocks, texts, records_text, records_from, length_of, header_for, block_text, blocks_text, transaction_of, with_records, as_change, IsBlock, AreBlocks, Begins, magic}
use Rattle.fs_records.specs.BlockLaws.{after-end}
use Rattle.fs_records.specs.Indexed.{is_of}
use Rattle.fs_reading.specs.Cases.{by_bool}
use Rattle.fs_reading.specs.Standing.{data_head_at, head_at, IsContent, user_at, description_at, RecordStands, TransactionStands, TransactionsStand, is_replaced, lasts, revision_line_of}
use Rattle.fs_reading.specs.Merged.{read_of, with_records-read, merged}
use Rattle.fs_reading.specs.Contents.{ContentStands, StandsBefore, known_content}
use Rattle.fs_reading.specs.ChangesStand.{RecordsBetween, ChangesStand, AllChangesStand, AllChangesStand-push, records_begin, records_end, entries_read, records_between}
use Rattle.fs_reading.specs.RecordsStand.{NewStands, records_stand, each-append, each_weaker, each-filter}
use Rattle.fs_reading.specs.TransactionsStand.{block_stands, TransactionsStand-push}

-- ---- the last records of each transaction

abbrev IsOfTid : ℕ → Known → Type 0
IsOfTid tid k = k.tid ≡ tid

abbrev IsBelowTid : ℕ → Known → Type 0
IsBelowTid tid k = k.tid < tid

-- of one transaction alone
lasts_of_one : (tid : ℕ) (ks : List Known) → AllByRecursion (IsOfTid tid) ks → lasts ks ≡ option_to_list (last_or None ks)
lasts_of_one tid [] all = refl
lasts_of_one tid (x ∷ []) all = refl
lasts_of_one tid (x ∷ (y ∷ ys)) all =
    ap (λ b. cond b (lasts (y ∷ ys)) (x ∷ lasts (y ∷ ys))) (eq-eqb x.tid y.tid (all.0 ∙ sym all.1.0)) ∙ lasts_of_one tid (y ∷ ys) all.1

replaced_still : (tid : ℕ) (x : Known) (xs ys : List Known) → x.tid < tid → AllByRecursion (IsOfTid tid) ys → is_replaced x (xs ++ ys) ≡ is_replaced x xs
replaced_still tid x [] [] below of = refl
replaced_still tid x [] (y ∷ ys) below of = let same : y.tid ≡ tid = of.0 in ne_eqb x.tid y.tid (omega arith)
replaced_still tid x (z ∷ zs) ys below of = refl

-- behind those of lower tids
lasts-append : (tid : ℕ) (xs ys : List Known) → AllByRecursion (IsBelowTid tid) xs → AllByRecursion (IsOfTid tid) ys → lasts (xs ++ ys) ≡ lasts xs ++ option_to_list (last_or None ys)
lasts-append tid [] ys below of = lasts_of_one tid ys of
lasts-append tid (x ∷ xs) ys below of =
    let last : List Known = option_to_list (last_or None ys) in
    let more = lasts-append tid xs ys below.1 of in
    let P : Bool → Type 0 = λ b. cond b (lasts xs ++ last) (x ∷ (lasts xs ++ last)) ≡ cond b (lasts xs) (x ∷ lasts xs) ++ last in
    ap (λ b. cond b (lasts (xs ++ ys)) (x ∷ lasts (xs ++ ys))) (replaced_still tid x xs ys below.0 of)
    ∙ ap (λ (l : List Known). cond (is_replaced x xs) l (x ∷ l)) more
    ∙ by_bool P (is_replaced x xs) (λ e. refl) (λ e. refl)

last_holds : (P : Known → Type 0) (first : Option Known) (ks : List Known) → IfSome first P → AllByRecursion P ks → IfSome (last_or first ks) P
last_holds P first [] one all = one
last_holds P first (k ∷ ks) one all = last_holds P (Some k) ks all.0 all.1

-- ---- what stands

-- What was read of a file stands in its bytes: each data record, each transaction, and the history of each object by its records.
pub record HasHistories (bytes : List ℕ) (s : Reached) : Type 0 where
  pub records : AllByRecursion (RecordStands bytes) s.known
  pub places_before : AllByRecursion (StandsBefore s.end) s.known
  pub tids_below : AllByRecursion (λ k. k.tid ≤ s.newest) s.known
  pub transactions : TransactionsStand bytes s.starts s.list
  pub changes : AllChangesStand bytes s.starts s.list
  pub histories : (oid : ℕ) → map (revision_line_of bytes) (lasts (filter (is_of oid) s.known)) ≡ filter_map (history_line oid) s.list

abbrev line : ℕ → Option ℕ → List ℕ → List ℕ → Revision
line tid size user description = record { tid = tid; size = size; user = user; description = description }

-- what the history says of the object's last record in the transaction is what it says of the transaction
line_is : (bytes : List ℕ) (place tid to : ℕ) (t : Transaction) (oid : ℕ) (last : Option Known) → IfSome last (NewStands bytes place tid to) → TransactionStands bytes (record { serial = tid; at = place }) t
    → change_in oid t.changes ≡ option_map (λ c. record { oid = oid; content = c }) (option_map (λ (k : Known). k.content) last)
    → history_line oid t ≡ option_map (revision_line_of bytes) last
line_is bytes place tid to t oid None new stands changed = ap (option_map (λ (c : Change). line t.tid (size_of c.content) t.user t.description)) changed
line_is bytes place tid to t oid (Some k) new stands changed =
    let at : ℕ = (data_head_at bytes k.place).transaction in
    let at_is : at ≡ place = new.transaction in
    let user : t.user ≡ user_at bytes at = sym (ap (user_at bytes) at_is ∙ stands.user) in
    let description : t.description ≡ description_at bytes at = sym (ap (description_at bytes) at_is ∙ stands.description) in
    let tid_is : t.tid ≡ k.tid = sym (new.tid_is ∙ stands.serial) in
    ap (option_map (λ (c : Change). line t.tid (size_of c.content) t.user t.description)) changed
    ∙ ap (λ (x : ℕ). Some (line x (size_of k.content) t.user t.description)) tid_is
    ∙ ap (λ (x : List ℕ). Some (line k.tid (size_of k.content) x t.description)) user
    ∙ ap (λ (x : List ℕ). Some (line k.tid (size_of k.content) (user_at bytes at) x)) description

in_list : (f : Known → Revision) (o : Option Known) → map f (option_to_list o) ≡ cons_option (option_map f o) []
in_list f None = refl
in_list f (Some k) = refl

content_stands : (bytes : List ℕ) (k : Known) → RecordStands bytes k → ContentStands bytes k
content_stands bytes k r = r.content

one_block : (bytes : List ℕ) (s : Reached) (b : Block) (more : List ℕ) → HasHistories bytes s → IsBlock s b → drop s.end bytes ≡ block_text s.end b ++ more → HasHistories bytes (after_block s b)
unfolding after_block
one_block bytes s b more so_far is here =
    let p : ℕ = s.end in
    let from : ℕ = records_from p b in
    let end : ℕ = p + (length_of p b + 8) in
    let t : Transaction = transaction_of s b in
    let there = block_stands bytes s b more is here in
    let new : List Known = read_of s.known p b.tid from b.records in
    let before_from : AllByRecursion (StandsBefore from) s.known = each_weaker (StandsBefore p) (StandsBefore from) (λ k h. omega arith) s.known so_far.places_before in
    let below : b.tid < 2 ^ 64 = let l : b.tid < 2 ^ 64 - 1 = is.below in omega arith in
    let to : ℕ = from + length (records_text p b.tid b.records) in
    let stand : AllByRecursion (NewStands bytes p b.tid to) new =
    records_stand bytes p b.tid to below is.place there.stands.texts there.stands.tid s.known from b.records _ is.records there.records refl (each_weaker (RecordStands bytes) (ContentStands bytes) (content_stands bytes) s.known so_far.records) before_from in
    let head : head_at bytes p ≡ header_for p b = there.head in
    let texts_are : texts_length (head_at bytes p) ≡ length (texts b) = omega (arith, ap (λ (h : Header). texts_length h) head, length-append b.user (b.description ++ b.extension), length-append b.description b.extension) in
    let length_is : (head_at bytes p).length ≡ length_of p b = ap (λ (h : Header). h.length) head in
    let begin_is : from ≡ records_begin bytes p = omega (arith, texts_are) in
    let end_is : to ≡ records_end bytes p = omega (arith, length_is) in
    let between : RecordsBetween bytes from to new = records_between bytes p b.tid to below is.place s.known from to b.records _ is.records there.records refl stand in
    let changes_stand : ChangesStand bytes p t.changes = record {
      records = new;
      between = subst (λ (n : ℕ). RecordsBetween bytes n (records_end bytes p) new) begin_is (subst (λ (n : ℕ). RecordsBetween bytes from n new) end_is between);
      are = ap (map as_change) (entries_read [] s.known p b.tid from b.records);
      within = omega (arith, end_is, ap length there.records, length-drop from bytes, length-append (records_text p b.tid b.records) (number 8 (length_of p b) ++ more), length-append (number 8 (length_of p b)) more, length-number 8 (length_of p b));
    } in
    let known_is : s.known ++ new ≡ with_records s.known p b.tid from b.records = sym (with_records-read s.known p b.tid from b.records) in
    let all_records : AllByRecursion (RecordStands bytes) (s.known ++ new) = each-append (RecordStands bytes) s.known new so_far.records (each_weaker (NewStands bytes p b.tid to) (RecordStands bytes) (λ k h. h.stands) new stand) in
    let all_before : AllByRecursion (StandsBefore end) (s.known ++ new) =
    each-append (StandsBefore end) s.known new
    (each_weaker (StandsBefore p) (StandsBefore end) (λ k h. omega arith) s.known so_far.places_before)
    (each_weaker (NewStands bytes p b.tid to) (StandsBefore end) (λ k h. let l : k.place < to = h.before in omega arith) new stand) in
    let above : s.newest < b.tid = is.above in
    let all_below : AllByRecursion (λ k. k.tid ≤ b.tid) (s.known ++ new) =
    each-append (λ (k : Known). k.tid ≤ b.tid) s.known new
    (each_weaker (λ (k : Known). k.tid ≤ s.newest) (λ (k : Known). k.tid ≤ b.tid) (λ k h. omega arith) s.known so_far.tids_below)
    (each_weaker (NewStands bytes p b.tid to) (λ (k : Known). k.tid ≤ b.tid) (λ k h. let l : k.tid ≡ b.tid = h.tid_is in omega arith) new stand) in
    let history : (oid : ℕ) → map (revision_line_of bytes) (lasts (filter (is_of oid) (s.known ++ new))) ≡ filter_map (history_line oid) (s.list ++ t ∷ []) = λ oid.
    let olds : List Known = filter (is_of oid) s.known in
    let news : List Known = filter (is_of oid) new in
    let news_stand = each-filter (NewStands bytes p b.tid to) (is_of oid) new stand in
    let last : Option Known = last_or None news in
    let split : lasts (olds ++ news) ≡ lasts olds ++ option_to_list last =
    lasts-append b.tid olds news
    (each-filter (IsBelowTid b.tid) (is_of oid) s.known (each_weaker (λ (k : Known). k.tid ≤ s.newest) (IsBelowTid b.tid) (λ k h. omega arith) s.known so_far.tids_below))
    (each_weaker (NewStands bytes p b.tid to) (IsOfTid b.tid) (λ k h. h.tid_is) news news_stand) in
    let said : history_line oid t ≡ option_map (revision_line_of bytes) last =
    line_is bytes p b.tid to t oid last (last_holds (NewStands bytes p b.tid to) None news tt news_stand) there.stands (merged oid s.known p b.tid from b.records) in
    ap (λ (x : List Known). map (revision_line_of bytes) (lasts x)) (filter-append (is_of oid) s.known new)
    ∙ ap (map (revision_line_of bytes)) split
    ∙ map-append (revision_line_of bytes) (lasts olds) (option_to_list last)
    ∙ ap (λ (x : List Revision). x ++ map (revision_line_of bytes) (option_to_list last)) (so_far.histories oid)
    ∙ ap (λ (x : List Revision). filter_map (history_line oid) s.list ++ x) (in_list (revision_line_of bytes) last ∙ ap (λ (o : Option Revision). cons_option o []) (sym said))
    ∙ sym (filter_map-append (history_line oid) s.list (t ∷ [])) in
    record {
      records = subst (λ (ks : List Known). AllByRecursion (RecordStands bytes) ks) known_is all_records;
      places_before = subst (λ (ks : List Known). AllByRecursion (StandsBefore end) ks) known_is all_before;
      tids_below = subst (λ (ks : List Known). AllByRecursion (λ k. k.tid ≤ b.tid) ks) known_is all_below;
      transactions = TransactionsStand-push bytes s.starts s.list (record { serial = b.tid; at = s.end }) t so_far.transactions there.stands;
      changes = AllChangesStand-push bytes s.starts s.list (record { serial = b.tid; at = s.end }) t so_far.changes changes_stand;
      histories = λ oid. subst (λ (ks : List Known). map (revision_line_of bytes) (lasts (filter (is_of oid) ks)) ≡ filter_map (history_line oid) (s.list ++ t ∷ [])) known_is (history oid);
    }

all_blocks : (bytes : List ℕ) (s : Reached) (bs : List Block) (more : List ℕ) → HasHistories bytes s → AreBlocks s bs → drop s.end bytes ≡ blocks_text s bs ++ more → HasHistories bytes (after_blocks s bs)
all_blocks bytes s [] more so_far are here = so_far
all_blocks bytes s (b ∷ bs) more so_far are here =
    let others : List ℕ = blocks_text (after_block s b) bs in
    let there : drop s.end bytes ≡ block_text s.end b ++ (others ++ more) = here ∙ append_assoc (block_text s.end b) others more in
    let next = one_block bytes s b (others ++ more) so_far are.0 there in
    let behind = (block_stands bytes s b (others ++ more) are.0 there).behind in
    all_blocks bytes (after_block s b) bs more next are.1 (ap (λ (n : ℕ). drop n bytes) (after-end s b) ∙ behind)

-- what was read of a file stands in its bytes
pub stands : (bytes : List ℕ) (s : Reached) → Begins bytes s → HasHistories bytes s
stands bytes s begins =
    let here : drop 4 bytes ≡ blocks_text file_start begins.blocks ++ drop s.end bytes = ap (drop 4) begins.parts ∙ drop_at magic _ 4 refl in
    let first : HasHistories bytes file_start = record { records = tt; places_before = tt; tids_below = tt; transactions = tt; changes = tt; histories = λ oid. refl } in
    subst (λ (x : Reached). HasHistories bytes x) (sym begins.is) (all_blocks bytes file_start begins.blocks (drop s.end bytes) first begins.are here)

-- a record that was read at a place has the content there that is known of it
pub content_known : (bytes : List ℕ) (s : Reached) (oid at : ℕ) → Begins bytes s → is_known s.known oid at ≡ true → IsContent bytes (content_at s.known oid at) at
content_known bytes s oid at begins is = known_content bytes s.known oid at (each_weaker (RecordStands bytes) (ContentStands bytes) (content_stands bytes) s.known (stands bytes s begins).records) is

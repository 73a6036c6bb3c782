-- The data records of a transaction that was read stand in the bytes.
use Rattle.std.proofs.Common.{◌≡◌, ℕ, ◌+◌, ◌^◌, ◌<◌, Bool, cond, List, [], ◌∷◌, ◌++◌, length, filter, drop, refl, sym, ap, subst, ◌∙◌, append_assoc, arith}
use Rattle.std.specs.List.{AllByRecursion}
use Rattle.zb_base.specs.Lists.{each_more}
use Rattle.std.proofs.lemmas.List.{length-append, drop-drop, drop_at}
use Rattle.fs_records.specs.declared.header.DataHeader.{DataHeader}
use Rattle.fs_records.specs.Blocks.{Written, Known, record_text, records_text, known_at, with_record, AreWritten}
use Rattle.fs_records.specs.RecordLaws.{length-record_text}
use Rattle.fs_reading.specs.Cases.{by_bool}
use Rattle.fs_reading.specs.Standing.{data_head_at, head_at, HasTexts, RecordStands}
use Rattle.fs_reading.specs.Merged.{read_of}
use Rattle.fs_reading.specs.Contents.{ContentStands, StandsBefore, record_head, record_content}

-- ---- of each in a list

pub each-append : {X : Type 0} (P : X → Type 0) (xs ys : List X) → AllByRecursion P xs → AllByRecursion P ys → AllByRecursion P (xs ++ ys)
each-append P [] ys all more = more
each-append P (x ∷ xs) ys all more = (all.0, each-append P xs ys all.1 more)

pub each_weaker : {X : Type 0} (P Q : X → Type 0) → ((x : X) → P x → Q x) → (xs : List X) → AllByRecursion P xs → AllByRecursion Q xs
each_weaker P Q f [] all = tt
each_weaker P Q f (x ∷ xs) all = (f x all.0, each_weaker P Q f xs all.1)

pub each-filter : {X : Type 0} (P : X → Type 0) (p : X → Bool) (xs : List X) → AllByRecursion P xs → AllByRecursion P (filter p xs)
each-filter P p [] all = tt
each-filter {X} P p (x ∷ xs) all =
    let more = each-filter P p xs all.1 in
    let Q : Bool → Type 0 = λ b. AllByRecursion P (cond b (x ∷ filter p xs) (filter p xs)) in
    by_bool Q (p x) (λ e. (all.0, more)) (λ e. more)

-- ---- the records

-- a data record of the transaction with this tid at this place, which ends before `to`
pub record NewStands (bytes : List ℕ) (place tid to : ℕ) (k : Known) : Type 0 where
  pub stands : RecordStands bytes k
  pub transaction : (data_head_at bytes k.place).transaction ≡ place
  pub tid_is : k.tid ≡ tid
  pub before : k.place < to

pub records_stand : (bytes : List ℕ) (place tid to : ℕ) → tid < 2 ^ 64 → place < 2 ^ 64 → HasTexts bytes place → (head_at bytes place).tid ≡ tid
    → (known : List Known) (q : ℕ) (rs : List Written) (more : List ℕ) → AreWritten known place tid q rs → drop q bytes ≡ records_text place tid rs ++ more → to ≡ q + length (records_text place tid rs)
    → AllByRecursion (ContentStands bytes) known → AllByRecursion (StandsBefore q) known → AllByRecursion (NewStands bytes place tid to) (read_of known place tid q rs)
records_stand bytes place tid to tid_fits place_fits texts its_tid known q [] more written stands to_is all before = tt
records_stand bytes place tid to tid_fits place_fits texts its_tid known q (r ∷ rs) more written stands to_is all before =
    let text : List ℕ = record_text place tid r in
    let others : List ℕ = records_text place tid rs in
    let here : drop q bytes ≡ text ++ (others ++ more) = stands ∙ append_assoc text others more in
    let k : Known = known_at known tid q r in
    let long = length-record_text place tid r in
    let len = length-append text others in
    let content = record_content bytes known place tid q r (others ++ more) tid_fits place_fits written.0 here all before in
    let head = record_head bytes known place tid q r (others ++ more) tid_fits place_fits written.0 here in
    let at_place : (data_head_at bytes q).transaction ≡ place = ap (λ (h : DataHeader). h.transaction) head.0 in
    let first : NewStands bytes place tid to k = record {
      stands = record {
        oid = ap (λ (h : DataHeader). h.oid) head.0;
        tid = ap (λ (h : DataHeader). h.tid) head.0;
        content = content;
        texts = subst (λ (n : ℕ). HasTexts bytes n) (sym at_place) texts;
        transaction = ap (λ (n : ℕ). (head_at bytes n).tid) at_place ∙ its_tid;
      };
      transaction = at_place;
      tid_is = refl;
      before = omega arith;
    } in
    let behind : drop (q + length text) bytes ≡ others ++ more = sym (drop-drop (length text) q bytes) ∙ ap (drop (length text)) here ∙ drop_at text (others ++ more) (length text) refl in
    let later : AllByRecursion (StandsBefore (q + length text)) (known ++ k ∷ []) =
    each_more (StandsBefore (q + length text)) known k (each_weaker (StandsBefore q) (StandsBefore (q + length text)) (λ x h. omega arith) known before) (omega arith) in
    (first, records_stand bytes place tid to tid_fits place_fits texts its_tid (with_record known tid q r) (q + length text) rs more written.1 behind (omega arith) (each_more (ContentStands bytes) known k all content) later)

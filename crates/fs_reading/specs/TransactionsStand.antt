-- Transactions that were read stand in the bytes.
use Rattle.std.proofs.Common.{◌≡◌, ℕ, ◌+◌, Bool, cond, eqb, List, [], ◌∷◌, ◌++◌, length, map, filter, take, drop, Some, None, refl, sym, ap, ◌∙◌, append_assoc, arith}
use Rattle.std.specs.Prelude.{not}
use Rattle.std.specs.List.{AllByRecursion, filter_map, cons_option}
use Rattle.std.proofs.lemmas.List.{length-drop, length-append, drop-drop, drop_at, take_at}
use Rattle.zb_model.specs.declared.data.Transaction.{Transaction}
use Rattle.zb_model.specs.declared.lists.LogLine.{LogLine}
use Rattle.zb_model.specs.Lists.{log_line, is_unpacked}
use Rattle.fs_records.specs.declared.header.Header.{Header}
use Rattle.fs_index.specs.declared.place.Place.{Place}
use Rattle.fs_records.specs.Numbers.{number}
use Rattle.fs_records.specs.NumberLaws.{length-number}
use Rattle.fs_records.specs.Headers.{header_of, header_text}
use Rattle.fs_records.specs.HeaderLaws.{length-header_text}
use Rattle.fs_records.specs.Blocks.{Block, Reached, texts, records_text, records_from, length_of, header_for, block_text, transaction_of, IsBlock}
use Rattle.fs_records.specs.Unique.{block_again}
use Rattle.fs_reading.specs.Cases.{by_bool}
use Rattle.fs_reading.specs.Standing.{head_at, user_at, description_at, HasTexts, TransactionStands, TransactionsStand, log_line_at}

-- ---- one transaction

block_texts : (p : ℕ) (b : Block) (more : List ℕ) → block_text p b ++ more ≡ header_text (header_for p b) ++ (b.user ++ (b.description ++ (b.extension ++ (records_text p b.tid b.records ++ (number 8 (length_of p b) ++ more)))))
unfolding block_text
block_texts p b more = simp append_assoc

-- how far it reaches, and what stands where
pub record BlockStands (bytes : List ℕ) (s : Reached) (b : Block) (more : List ℕ) : Type 0 where
  pub head : head_at bytes s.end ≡ header_for s.end b
  pub stands : TransactionStands bytes (record { serial = b.tid; at = s.end }) (transaction_of s b)
  pub records : drop (records_from s.end b) bytes ≡ records_text s.end b.tid b.records ++ (number 8 (length_of s.end b) ++ more)
  pub behind : drop (s.end + (length_of s.end b + 8)) bytes ≡ more

-- behind a part
further : (at n : ℕ) (bytes part rest : List ℕ) → drop at bytes ≡ part ++ rest → length part ≡ n → drop (at + n) bytes ≡ rest
further at n bytes part rest is len = sym (drop-drop n at bytes) ∙ ap (drop n) is ∙ drop_at part rest n len

pub block_stands : (bytes : List ℕ) (s : Reached) (b : Block) (more : List ℕ) → IsBlock s b → drop s.end bytes ≡ block_text s.end b ++ more → BlockStands bytes s b more
block_stands bytes s b more is here =
    let p : ℕ = s.end in
    let u : ℕ = length b.user in
    let d : ℕ = length b.description in
    let e : ℕ = length b.extension in
    let text : List ℕ = records_text p b.tid b.records in
    let n : ℕ = length_of p b in
    let r0 : List ℕ = text ++ (number 8 n ++ more) in
    let h : head_at bytes p ≡ header_for p b = ap header_of here ∙ (block_again s b more is).1 in
    let whole : drop p bytes ≡ header_text (header_for p b) ++ (b.user ++ (b.description ++ (b.extension ++ r0))) = here ∙ block_texts p b more in
    let a1 : drop (p + 23) bytes ≡ b.user ++ (b.description ++ (b.extension ++ r0)) = further p 23 bytes (header_text (header_for p b)) _ whole (length-header_text (header_for p b)) in
    let a2 : drop (p + 23 + u) bytes ≡ b.description ++ (b.extension ++ r0) = further (p + 23) u bytes b.user _ a1 refl in
    let a3 : drop (p + 23 + u + d) bytes ≡ b.extension ++ r0 = further (p + 23 + u) d bytes b.description _ a2 refl in
    let a4 : drop (p + 23 + u + d + e) bytes ≡ r0 = further (p + 23 + u + d) e bytes b.extension _ a3 refl in
    let a5 : drop (p + 23 + u + d + e + length text) bytes ≡ number 8 n ++ more = further (p + 23 + u + d + e) (length text) bytes text _ a4 refl in
    let a6 : drop (p + 23 + u + d + e + length text + 8) bytes ≡ more = further (p + 23 + u + d + e + length text) 8 bytes (number 8 n) more a5 (length-number 8 n) in
    let texts_long : length (texts b) ≡ u + d + e = omega (arith, length-append b.user (b.description ++ b.extension), length-append b.description b.extension) in
    let hu : (head_at bytes p).user ≡ u = ap (λ (x : Header). x.user) h in
    let hd : (head_at bytes p).description ≡ d = ap (λ (x : Header). x.description) h in
    let he : (head_at bytes p).extension ≡ e = ap (λ (x : Header). x.extension) h in
    let from_is : records_from p b ≡ p + 23 + u + d + e = omega arith in
    let to_is : p + (n + 8) ≡ p + 23 + u + d + e + length text + 8 = omega arith in
    let left : length (drop (p + 23 + u + d + e) bytes) ≡ length text + (8 + length more) = ap length a4 ∙ omega (arith, length-append text (number 8 n ++ more), length-append (number 8 n) more, length-number 8 n) in
    record {
      head = h;
      stands = record {
        serial = refl;
        tid = ap (λ (x : Header). x.tid) h;
        packed = ap (λ (x : Header). eqb x.status 112) h;
        user = ap (λ (m : ℕ). take m (drop (p + 23) bytes)) hu ∙ ap (take u) a1 ∙ take_at b.user _ u refl;
        description = ap (λ (x : Header). take x.description (drop (p + 23 + x.user) bytes)) h ∙ ap (take d) a2 ∙ take_at b.description _ d refl;
        extension = ap (λ (x : Header). take x.extension (drop (p + 23 + x.user + x.description) bytes)) h ∙ ap (take e) a3 ∙ take_at b.extension _ e refl;
        texts = omega (arith, left, length-drop (p + 23 + u + d + e) bytes);
      };
      records = ap (λ (m : ℕ). drop m bytes) from_is ∙ a4;
      behind = ap (λ (m : ℕ). drop m bytes) to_is ∙ a6;
    }

-- ---- transactions

pub TransactionsStand-push : (bytes : List ℕ) (ps : List Place) (ts : List Transaction) (p : Place) (t : Transaction) → TransactionsStand bytes ps ts → TransactionStands bytes p t → TransactionsStand bytes (ps ++ p ∷ []) (ts ++ t ∷ [])
TransactionsStand-push bytes [] [] p t all one = (one, tt)
TransactionsStand-push bytes [] (u ∷ us) p t all one = absurd all
TransactionsStand-push bytes (q ∷ qs) [] p t all one = absurd all
TransactionsStand-push bytes (q ∷ qs) (u ∷ us) p t all one = (all.0, TransactionsStand-push bytes qs us p t all.1 one)

-- each place has a header and texts
pub all_have_texts : (bytes : List ℕ) (ps : List Place) (ts : List Transaction) → TransactionsStand bytes ps ts → AllByRecursion (λ p. HasTexts bytes p.at) ps
all_have_texts bytes [] [] all = tt
all_have_texts bytes [] (t ∷ ts) all = absurd all
all_have_texts bytes (p ∷ ps) [] all = absurd all
all_have_texts bytes (p ∷ ps) (t ∷ ts) all = (all.0.texts, all_have_texts bytes ps ts all.1)

abbrev log : ℕ → List ℕ → List ℕ → LogLine
log tid user description = record { tid = tid; user = user; description = description }

-- the undo list
pub undo_lines : (bytes : List ℕ) (ps : List Place) (ts : List Transaction) → TransactionsStand bytes ps ts → filter_map (log_line_at bytes) ps ≡ map log_line (filter is_unpacked ts)
undo_lines bytes [] [] all = refl
undo_lines bytes [] (t ∷ ts) all = absurd all
undo_lines bytes (p ∷ ps) [] all = absurd all
undo_lines bytes (p ∷ ps) (t ∷ ts) all =
    let one = all.0 in
    let more = undo_lines bytes ps ts all.1 in
    let line : LogLine = log (head_at bytes p.at).tid (user_at bytes p.at) (description_at bytes p.at) in
    let same : line ≡ log_line t = ap (λ (x : ℕ). log x (user_at bytes p.at) (description_at bytes p.at)) one.tid ∙ ap (λ (x : List ℕ). log t.tid x (description_at bytes p.at)) one.user ∙ ap (λ (x : List ℕ). log t.tid t.user x) one.description in
    let rest : List LogLine = filter_map (log_line_at bytes) ps in
    let P : Bool → Type 0 = λ b. cons_option (cond b None (Some line)) rest ≡ map log_line (cond (not b) (t ∷ filter is_unpacked ts) (filter is_unpacked ts)) in
    ap (λ b. cons_option (cond b None (Some line)) rest) one.packed
    ∙ by_bool P t.packed (λ e. more) (λ e. ap (λ (x : LogLine). x ∷ rest) same ∙ ap (λ (x : List LogLine). log_line t ∷ x) more)

-- The file of a new database stands for its first transaction.
use Rattle.std.proofs.Common.{◌≡◌, ℕ, zero, suc, ◌+◌, ◌<◌, ◌-◌, ◌^◌, false, All, List, [], ◌∷◌, ◌++◌, length, map, Some, None, refl, sym, ap, subst, ◌∙◌, arith}
use Rattle.std.specs.Prelude.{nat_eq}
use Rattle.std.specs.List.{IsDistinct}
use Rattle.std.proofs.Math.ListN.{set}
use Rattle.std.proofs.lemmas.Bool.{lt-ltb}
use Rattle.std.proofs.lemmas.List.{set-append_right}
use Rattle.std.proofs.lemmas.List.Elements.{All-cons, All-nil}
use Rattle.zb_ids.specs.Tids.{tid_after}
use Rattle.zb_model.specs.declared.data.Transaction.{Transaction}
use Rattle.zb_model.specs.declared.new_transaction.NewTransaction.{NewTransaction}
use Rattle.zb_model.specs.Creation.{first_transaction}
use Rattle.zb_model.specs.Voting.{IsFilled, IsVotable, IsWellFormed, NamesRevision, voted_of}
use Rattle.fs_records.specs.Blocks.{Reached, file_start, magic, block_text, after_block, transaction_of, Begins}
use Rattle.fs_records.specs.File.{IsReadAs, StandsFor, a_file}
use Rattle.fs_index.specs.declared.place.Place.{Place}
use Rattle.fs_index.specs.Places.{AreBefore, IsBefore, PlacesKept, Kept, oids_placed, places_in}
use Rattle.fs_records.specs.Indexed.{IsIndexOf, places_of}
use Rattle.fs_records.specs.Listed.{listed, reached_in, reached_is, reading_in, reading_is}
use Rattle.fs_records.specs.OpenLaws.{none_before}
use Rattle.fs_records.specs.StatusLaws.{status_set}
use Rattle.fs_records.specs.WriteLaws.{block_stands, none_ends}
use Rattle.fs_records.specs.Writing.{IsNext, block_of}
use Rattle.pack_copy.specs.Renewing.{anew}
use Rattle.fs_recovery.specs.Numbers.{NumbersKept, AreNumbersOf}
use Rattle.zb_base.specs.Bytes.{AreBytes}
use Rattle.file_store.specs.First.{file_with}
use Rattle.file_store.specs.Kept.{IsKept, done}
use Rattle.file_store.specs.KeptLaws.{list_read}
use Rattle.file_store.specs.Preparing.{IsPrepared}
use Rattle.file_store.specs.Staging.{IsAllBefore, IsWith, StagedKept}
use Rattle.file_store.proofs.Writes.{finished_kept, staged_for, voted_kept}
use Rattle.fs_records.specs.PlacingLaws.{text_long}

-- what a transaction's text says that is written as the first one
abbrev pub Nexts : Kept → NewTransaction → Type 0
Nexts kept new = (bytes : List ℕ) (s : Reached) → Begins bytes s → IsIndexOf s kept → s.end ≡ 4 → IsVotable s.list new → IsNext s (block_of 32 kept.entries new) (voted_of s.list new)

positive : (n : ℕ) → 0 < tid_after 0 n
positive zero = omega arith
positive (suc n) = rw (lt-ltb 0 (suc n) (omega arith)) (omega arith)

votable : (n : ℕ) → IsVotable [] (anew (first_transaction n))
votable n =
    let new = anew (first_transaction n) in
    record { later = positive n; sound = All-cons (λ c. NamesRevision [] c.oid c.content) _ [] tt (All-nil (λ c. NamesRevision [] c.oid c.content)) }

alone : (oid : ℕ) → IsDistinct nat_eq (oid ∷ [])
unfolding IsDistinct
alone oid = (tt, tt)

-- the first transaction as a new one has one change, and short texts
first_well_formed : (n : ℕ) → tid_after 0 n < 2 ^ 64 - 1 → IsWellFormed (anew (first_transaction n))
first_well_formed n low = record {
  tid = low;
  user = omega arith;
  description = omega arith;
  extension = omega arith;
  distinct = alone 0;
  filled = All-cons (λ c. IsFilled c.content) _ [] (omega arith) (All-nil (λ c. IsFilled c.content));
}

pub new_well_formed : (n : ℕ) (t : Transaction) (new : NewTransaction) → t ≡ first_transaction n → t.tid < 2 ^ 64 - 1 → new ≡ anew t → IsWellFormed new
new_well_formed n t new is low made = subst IsWellFormed (sym (made ∙ ap anew is)) (first_well_formed n (subst (λ (x : Transaction). x.tid < 2 ^ 64 - 1) is low))

nothing_begins : Begins magic file_start
nothing_begins = record { blocks = []; are = tt; parts = refl; is = refl }

one_listed : (b : _) → (after_block file_start b).list ≡ transaction_of file_start b ∷ []
unfolding after_block
one_listed b = refl

pub text_behind_16 : (status : ℕ) (entries : List (ℕ × PlacesKept)) (new : NewTransaction) → 16 < length (block_text 4 (block_of status entries new))
text_behind_16 status entries new = omega (arith, text_long status entries 4 new)

pub committed_is : (t : Transaction) (text block : List ℕ) → text ≡ block_text 4 (block_of 99 [] (anew t)) → block ≡ set text 16 32 → magic ++ block ≡ file_with t
committed_is t text block text_is is = ap (λ (x : List ℕ). magic ++ x) (is ∙ ap (λ (x : List ℕ). set x 16 32) text_is ∙ status_set 4 (block_of 99 [] (anew t)) 32)

-- an index of nothing is that of a file's start
nothing_indexed : (kept : Kept) → kept.entries ≡ [] → kept.transactions ≡ [] → IsIndexOf file_start kept
nothing_indexed kept entries transactions = record { records = λ oid. ap (λ (es : List (ℕ × PlacesKept)). places_in es oid) entries; transactions = transactions }

pub first_stands : (n : ℕ) (kept : Kept) (file : List ℕ) → kept.entries ≡ [] → kept.transactions ≡ [] → Nexts kept (anew (first_transaction n)) → file ≡ file_with (first_transaction n) → StandsFor file (first_transaction n ∷ []) None
first_stands n kept file entries transactions next is =
    let new = anew (first_transaction n) in
    let b = block_of 32 [] new in
    let here : IsNext file_start b (voted_of [] new) =
    subst (λ (es : List (ℕ × PlacesKept)). IsNext file_start (block_of 32 es new) (voted_of [] new)) entries (next magic file_start nothing_begins (nothing_indexed kept entries transactions) refl (votable n)) in
    let stands : IsReadAs (file_with (first_transaction n)) (after_block file_start b) None = block_stands magic file_start b nothing_begins here.block in
    a_file (after_block file_start b) (subst (λ (x : List ℕ). IsReadAs x (after_block file_start b) None) (sym is) stands)
    (sym (one_listed b ∙ ap (λ (t : Transaction). t ∷ []) here.is))

-- ---- what is kept of it

magic_fits : AreBytes magic
magic_fits zero = omega arith
magic_fits (suc zero) = omega arith
magic_fits (suc (suc zero)) = omega arith
magic_fits (suc (suc (suc zero))) = omega arith
magic_fits (suc (suc (suc (suc k)))) = omega arith

nothing_read : IsReadAs magic file_start None
nothing_read = record { begins = nothing_begins; ends = none_ends 0 [] refl }

magic_reading : reading_in magic ≡ Some (file_start, None)
magic_reading = reading_is magic file_start None magic_fits (omega arith) nothing_read

-- an index of nothing, and where the first transaction is to stand
abbrev pub nothing_staged : Kept → StagedKept
nothing_staged index = record { kept = index; staged = None; newest = 0; end = 4 }

pub nothing_before : (index : Kept) → index.entries ≡ [] → index.transactions ≡ [] → IsAllBefore index 0 4
nothing_before index entries transactions = record {
  records = subst (λ (es : List (ℕ × PlacesKept)). AreBefore es 0 4) (sym entries) (none_before 0 4);
  transactions = subst (λ (ps : List Place). All (IsBefore 0 4) ps) (sym transactions) (All-nil (IsBefore 0 4));
}

-- is what is kept of a file of no transactions
nothing_kept : (old : StagedKept) (index : Kept) (numbers : NumbersKept) → old ≡ nothing_staged index → index.entries ≡ [] → index.transactions ≡ [] → AreNumbersOf [] numbers → IsKept magic old numbers
nothing_kept old index numbers is entries transactions counted =
    let same : reached_in magic ≡ file_start = reached_is magic file_start None magic_fits (omega arith) nothing_read in
    subst (λ (i : StagedKept). IsKept magic i numbers) (sym is) (record {
      fits = magic_fits;
      short = omega arith;
      whole = refl;
      reading = magic_reading ∙ ap (λ (x : Reached). Some (x, None)) (sym same);
      end_is = ap (λ (x : Reached). x.end) same;
      newest_is = ap (λ (x : Reached). x.newest) same;
      records = λ oid. ap (λ (es : List (ℕ × PlacesKept)). places_in es oid) entries ∙ ap (λ (x : Reached). places_of oid x.known) (sym same);
      starts = transactions ∙ ap (λ (x : Reached). x.starts) (sym same);
      counted = subst (λ (l : List Transaction). AreNumbersOf l numbers) (sym (list_read magic file_start None magic_reading)) counted;
    })

-- what a text says that is written behind an index
abbrev pub NextsBehind : StagedKept → NewTransaction → Type 0
NextsBehind old new = (bytes : List ℕ) (s : Reached) → Begins bytes s → IsIndexOf s old.kept → s.end ≡ old.end → IsVotable s.list new → IsNext s (block_of 32 old.kept.entries new) (voted_of s.list new)

pub nexts_of : (old : StagedKept) (index : Kept) (a b : NewTransaction) → old ≡ nothing_staged index → a ≡ b → NextsBehind old a → Nexts index b
nexts_of old index a b is same next =
    let here : NextsBehind (nothing_staged index) a = subst (λ (i : StagedKept). NextsBehind i a) is next in
    subst (λ (x : NewTransaction). Nexts index x) same here

-- the text of the first transaction
pub first_text : (t : Transaction) (old now : StagedKept) (numbers : NumbersKept) (index : Kept) (new : NewTransaction) (text : List ℕ) → old ≡ nothing_staged index → index.entries ≡ [] → new ≡ anew t → IsPrepared old now numbers new text
    → text ≡ block_text 4 (block_of 99 [] (anew t))
first_text t old now numbers index new text is entries new_is p =
    p.text_is
    ∙ ap (λ (i : StagedKept). block_text i.end (block_of 99 i.kept.entries new)) is
    ∙ ap (λ (es : List (ℕ × PlacesKept)). block_text 4 (block_of 99 es new)) entries
    ∙ ap (λ (x : NewTransaction). block_text 4 (block_of 99 [] x)) new_is

pub first_above : (n : ℕ) (old : StagedKept) (index : Kept) (new : NewTransaction) → old ≡ nothing_staged index → new ≡ anew (first_transaction n) → old.newest < new.tid
first_above n old index new is new_is = omega (arith, ap (λ (i : StagedKept). i.newest) is, ap (λ (x : NewTransaction). x.tid) new_is, positive n)

-- once it is finished there, the file is kept
pub first_kept : (n : ℕ) (index : Kept) (old now done_index : StagedKept) (was are after : NumbersKept) (new : NewTransaction) (text : List ℕ) → old ≡ nothing_staged index → index.entries ≡ [] → index.transactions ≡ [] → AreNumbersOf [] was
    → new ≡ anew (first_transaction n) → IsPrepared old now are new text → NextsBehind old new → AreBytes text → now.end ≡ old.end → now.newest ≡ old.newest
    → ((oid : ℕ) → places_in now.kept.entries oid ≡ places_in old.kept.entries oid) → now.kept.transactions ≡ old.kept.transactions → are.tallies ≡ was.tallies → are.greatest ≡ was.greatest → are.pack_point ≡ was.pack_point
    → done_index.staged ≡ None → IsWith (staged_for old new text) now done_index
    → ((list : List Transaction) (t : Transaction) → t.tid ≡ new.tid → t.packed ≡ false → map (λ c. c.oid) t.changes ≡ oids_placed (staged_for old new text).records → AreNumbersOf list are → AreNumbersOf (list ++ t ∷ []) after)
    → IsKept (magic ++ set text 16 32) done_index after
first_kept n index old now done_index was are after new text is entries transactions counted new_is p next fits end newest places starts tallies greatest point none grown add =
    let kept : IsKept magic old was = nothing_kept old index was is entries transactions counted in
    let free : old.staged ≡ None = ap (λ (i : StagedKept). i.staged) is in
    let four : old.end ≡ 4 = ap (λ (i : StagedKept). i.end) is in
    let may : IsVotable (listed magic) new = subst (λ (l : List Transaction). IsVotable l new) (sym (list_read magic file_start None magic_reading)) (subst (λ (x : NewTransaction). IsVotable [] x) (sym new_is) (votable n)) in
    let v = voted_kept magic text old now was are new kept free p next may fits end newest places starts tallies greatest point in
    let f = finished_kept (magic ++ text) now done_index are after (staged_for old new text) v.kept v.voted p.staged_is none grown add in
    let text_set : done now.end (magic ++ text) ≡ magic ++ set text 16 32 =
    set-append_right magic text 4 (now.end + 16) 32 refl (omega (arith, end, four)) ∙ ap (λ (k : ℕ). magic ++ set text k 32) (omega (arith, end, four)) in
    subst (λ (b : List ℕ). IsKept b done_index after) text_set f

-- One data record more, as a loop writes them.
use Rattle.std.proofs.Common.{◌≡◌, ℕ, ◌+◌, ◌-◌, ◌<◌, List, [], ◌∷◌, ◌++◌, length, get_or, take, drop, drop-cons, map, sym, ap, subst, ◌∙◌, append_assoc, arith}
use Rattle.std.specs.List.{AllByRecursion}
use Rattle.std.proofs.lemmas.List.{take_more, map-append, append-nil}
use Rattle.std.proofs.lemmas.Grind.{common_steps, flat_map-append}
use Rattle.zb_base.specs.Lists.{each_more}
use Rattle.zb_model.specs.declared.new_transaction.NewChange.{NewChange}
use Rattle.zb_model.specs.declared.new_transaction.NewTransaction.{NewTransaction}
use Rattle.fs_records.specs.declared.header.Header.{Header}
use Rattle.fs_records.specs.Numbers.{number}
use Rattle.fs_records.specs.Headers.{header_text}
use Rattle.fs_records.specs.Blocks.{Written, record_text, records_text, length_of, header_for, block_text}
use Rattle.fs_records.specs.Writing.{written_of, block_of, record_size, records_size, text_size, HasRoom}
use Rattle.fs_records.specs.SizeLaws.{length_is}
use Rattle.fs_index.specs.Places.{PlacesKept}

-- the first changes as they are written, and one more
written_more : (entries : List (ℕ × PlacesKept)) (changes : List NewChange) (i : ℕ) (d : NewChange) → i < length changes
    → map (written_of entries) (take (i + 1) changes) ≡ map (written_of entries) (take i changes) ++ written_of entries (get_or changes i d) ∷ []
written_more entries changes i d h = ap (map (written_of entries)) (take_more changes i d h) ∙ map-append (written_of entries) (take i changes) (get_or changes i d ∷ [])

pub text_more : (first old new : List ℕ) (at tid : ℕ) (entries : List (ℕ × PlacesKept)) (changes : List NewChange) (i : ℕ) (d : NewChange) → i < length changes
    → old ≡ first ++ records_text at tid (map (written_of entries) (take i changes)) → new ≡ old ++ record_text at tid (written_of entries (get_or changes i d)) → new ≡ first ++ records_text at tid (map (written_of entries) (take (i + 1) changes))
text_more first old new at tid entries changes i d h so_far is =
    let rs = map (written_of entries) (take i changes) in
    let r = written_of entries (get_or changes i d) in
    is ∙ ap (λ (x : List ℕ). x ++ record_text at tid r) so_far ∙ append_assoc first (records_text at tid rs) (record_text at tid r)
    ∙ ap (λ (x : List ℕ). first ++ x)
    (ap (λ (x : List ℕ). records_text at tid rs ++ x) (sym (append-nil (record_text at tid r))) ∙ sym (ap (records_text at tid) (written_more entries changes i d h) ∙ flat_map-append (record_text at tid) rs (r ∷ [])))

-- the whole text, part by part
pub whole_text : (entries : List (ℕ × PlacesKept)) (place size : ℕ) (new : NewTransaction) (h : Header) (head user description extension records text : List ℕ) → size ≡ text_size new
    → h ≡ record { tid = new.tid; length = size - 8; status = 99; user = length new.user; description = length new.description; extension = length new.extension }
    → head ≡ header_text h → user ≡ head ++ new.user → description ≡ user ++ new.description → extension ≡ description ++ new.extension
    → records ≡ extension ++ records_text place new.tid (map (written_of entries) new.changes) → text ≡ records ++ number 8 (size - 8) → text ≡ block_text place (block_of 99 entries new)
unfolding block_text
whole_text entries place size new h head user description extension records text size_is h_is head_is user_is description_is extension_is records_is text_is =
    let b = block_of 99 entries new in
    let length_same : size - 8 ≡ length_of place b = omega (arith, size_is, length_is entries place 99 new) in
    let first : head ≡ header_text (header_for place b) = head_is ∙ ap header_text h_is ∙ ap (λ (n : ℕ). header_text (record (header_for place b) { length = n })) length_same in
    let rs = records_text place new.tid (map (written_of entries) new.changes) in
    let behind : text ≡ ((((header_text (header_for place b) ++ new.user) ++ new.description) ++ new.extension) ++ rs) ++ number 8 (length_of place b) =
    text_is ∙ ap (λ (n : ℕ). records ++ number 8 n) length_same ∙ ap (λ (x : List ℕ). x ++ number 8 (length_of place b)) records_is
    ∙ ap (λ (x : List ℕ). (x ++ rs) ++ number 8 (length_of place b))
    (extension_is ∙ ap (λ (x : List ℕ). x ++ new.extension) (description_is ∙ ap (λ (x : List ℕ). x ++ new.description) (user_is ∙ ap (λ (x : List ℕ). x ++ new.user) first))) in
    behind ∙ regrouped (header_text (header_for place b)) new.user new.description new.extension rs (number 8 (length_of place b))
  where
    regrouped : (h u d e r n : List ℕ) → ((((h ++ u) ++ d) ++ e) ++ r) ++ n ≡ h ++ ((u ++ (d ++ e)) ++ (r ++ n))
    regrouped h u d e r n =
        append_assoc (((h ++ u) ++ d) ++ e) r n
        ∙ ap (λ (x : List ℕ). (x ++ e) ++ (r ++ n)) (append_assoc h u d) ∙ ap (λ (x : List ℕ). x ++ (r ++ n)) (append_assoc h (u ++ d) e)
        ∙ ap (λ (x : List ℕ). (h ++ x) ++ (r ++ n)) (append_assoc u d e) ∙ append_assoc h (u ++ (d ++ e)) (r ++ n)

-- the size of what is left
pub size_more : (changes : List NewChange) (i : ℕ) (d : NewChange) → i < length changes → records_size (drop i changes) ≡ record_size (get_or changes i d).content + records_size (drop (i + 1) changes)
size_more changes i d h =
    let e : drop i changes ≡ get_or changes i d ∷ drop (i + 1) changes = grind (arith, common_steps, drop-cons changes i d h) in
    ap records_size e

pub room_more : (entries : List (ℕ × PlacesKept)) (changes : List NewChange) (i : ℕ) (d : NewChange) → i < length changes
    → AllByRecursion HasRoom (map (written_of entries) (take i changes)) → HasRoom (written_of entries (get_or changes i d)) → AllByRecursion HasRoom (map (written_of entries) (take (i + 1) changes))
room_more entries changes i d h so_far one =
    subst (λ (rs : List Written). AllByRecursion HasRoom rs) (sym (written_more entries changes i d h)) (each_more HasRoom (map (written_of entries) (take i changes)) (written_of entries (get_or changes i d)) so_far one)

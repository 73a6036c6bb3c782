-- What a transaction's changes are, by its data records.
use Rattle.std.proofs.Common.{◌≡◌, ℕ, ◌+◌, Bool, true, false, cond, eqb, List, [], ◌∷◌, ◌++◌, length, map, filter, Option, Some, None, refl, sym, ap, ◌∙◌, eq-eqb, append_assoc}
use Rattle.std.specs.Prelude.{nat_eq}
use Rattle.std.specs.List.{last_or}
use Rattle.std.specs.Option.{option_map, option_to_list}
use Rattle.std.proofs.lemmas.List.{append-nil}
use Rattle.std.proofs.lemmas.Bool.{eqb-true, eqb-false, ne_eqb}
use Rattle.indexmap.specs.IndexMap.{insert_entry}
use Rattle.zb_model.specs.declared.data.Content.{Content}
use Rattle.zb_model.specs.declared.data.Change.{Change}
use Rattle.zb_model.specs.Database.{change_in, is_change_of}
use Rattle.fs_records.specs.Blocks.{Known, Written, known_at, with_record, with_records, record_text, changes_of, as_change, content_of}
use Rattle.fs_records.specs.Indexed.{is_of}
use Rattle.fs_reading.specs.Cases.{by_bool}

-- the data records of a transaction, as they are read
abbrev pub read_of : List Known → ℕ → ℕ → ℕ → List Written → List Known
read_of known place tid q [] = []
read_of known place tid q (r ∷ rs) = known_at known tid q r ∷ read_of (with_record known tid q r) place tid (q + length (record_text place tid r)) rs

-- they are what is known beside what was known before
pub with_records-read : (known : List Known) (place tid q : ℕ) (rs : List Written) → with_records known place tid q rs ≡ known ++ read_of known place tid q rs
with_records-read known place tid q [] = sym (append-nil known)
with_records-read known place tid q (r ∷ rs) = with_records-read (with_record known tid q r) place tid (q + length (record_text place tid r)) rs ∙ append_assoc known (known_at known tid q r ∷ []) _

-- what a change says by a data record
abbrev pub change_by : Known → Change
change_by k = record { oid = k.oid; content = k.content }

abbrev entry_change : ℕ → Content → Change
entry_change oid content = record { oid = oid; content = content }

-- the changes of one object among entries
abbrev of_object : ℕ → List (ℕ × Content) → List Change
of_object oid entries = filter (is_change_of oid) (map as_change entries)

abbrev one : ℕ → Option Content → List Change
one oid c = option_to_list (option_map (entry_change oid) c)

-- an entry of another object is no change of this one
other_stays : (oid o : ℕ) (c : Content) (entries : List (ℕ × Content)) → eqb o oid ≡ false → of_object oid (insert_entry nat_eq entries o c) ≡ of_object oid entries
other_stays oid o c [] apart = ap (λ b. cond b (entry_change o c ∷ []) []) apart
other_stays oid o c (e ∷ es) apart =
    let rest : of_object oid (insert_entry nat_eq es o c) ≡ of_object oid es = other_stays oid o c es apart in
    let P : Bool → Type 0 = λ b. of_object oid (cond b ((e.0, c) ∷ es) (e ∷ insert_entry nat_eq es o c)) ≡ of_object oid (e ∷ es) in
    by_bool P (eqb o e.0)
    (λ is.
    let same : eqb e.0 oid ≡ false = ap (λ n. eqb n oid) (sym (eqb-true o e.0 is)) ∙ apart in
    ap (λ b. cond b (entry_change e.0 c ∷ of_object oid es) (of_object oid es)) same ∙ sym (ap (λ b. cond b (entry_change e.0 e.1 ∷ of_object oid es) (of_object oid es)) same))
    (λ is. ap (λ (x : List Change). cond (eqb e.0 oid) (entry_change e.0 e.1 ∷ x) x) rest)

nothing_left : (oid : ℕ) (c : Change) (others : List Change) (o : Option Content) → c ∷ others ≡ one oid o → others ≡ []
nothing_left oid c others None h = absurd cc
nothing_left oid c others (Some x) h = cc

-- an entry of this object takes the place of the one that was there
same_replaces : (oid : ℕ) (c : Content) (entries : List (ℕ × Content)) (old : Option Content) → of_object oid entries ≡ one oid old → of_object oid (insert_entry nat_eq entries oid c) ≡ entry_change oid c ∷ []
same_replaces oid c [] old is = ap (λ b. cond b (entry_change oid c ∷ []) []) (eq-eqb oid oid refl)
same_replaces oid c (e ∷ es) old is =
    let others : List Change = of_object oid es in
    let then : List Change = of_object oid (insert_entry nat_eq es oid c) in
    let P : Bool → Type 0 = λ b. of_object oid (cond b ((e.0, c) ∷ es) (e ∷ insert_entry nat_eq es oid c)) ≡ entry_change oid c ∷ [] in
    by_bool P (eqb oid e.0)
    (λ same.
    let e_is : e.0 ≡ oid = sym (eqb-true oid e.0 same) in
    let t : eqb e.0 oid ≡ true = eq-eqb e.0 oid e_is in
    let left : others ≡ [] = nothing_left oid (entry_change e.0 e.1) others old (sym (ap (λ b. cond b (entry_change e.0 e.1 ∷ others) others) t) ∙ is) in
    ap (λ b. cond b (entry_change e.0 c ∷ others) others) t ∙ ap (λ (x : List Change). entry_change e.0 c ∷ x) left ∙ ap (λ n. entry_change n c ∷ []) e_is)
    (λ apart.
    let f : eqb e.0 oid ≡ false = ne_eqb e.0 oid (λ x. eqb-false oid e.0 apart (sym x)) in
    ap (λ b. cond b (entry_change e.0 e.1 ∷ then) then) f ∙ same_replaces oid c es old (sym (ap (λ b. cond b (entry_change e.0 e.1 ∷ others) others) f) ∙ is))

abbrev content_by : Known → Content
content_by k = k.content

merged_on : (oid : ℕ) (done : List (ℕ × Content)) (last : Option Known) (known : List Known) (place tid q : ℕ) (rs : List Written) → of_object oid done ≡ one oid (option_map content_by last)
    → of_object oid (changes_of done known place tid q rs) ≡ one oid (option_map content_by (last_or last (filter (is_of oid) (read_of known place tid q rs))))
merged_on oid done last known place tid q [] so_far = so_far
merged_on oid done last known place tid q (r ∷ rs) so_far =
    let c : Content = content_of known r.oid r.payload in
    let k : Known = known_at known tid q r in
    let now : List (ℕ × Content) = insert_entry nat_eq done r.oid c in
    let then : List Known = with_record known tid q r in
    let after : ℕ = q + length (record_text place tid r) in
    let more : List Known = filter (is_of oid) (read_of then place tid after rs) in
    let P : Bool → Type 0 = λ b. of_object oid (changes_of now then place tid after rs) ≡ one oid (option_map content_by (last_or last (cond b (k ∷ more) more))) in
    by_bool P (eqb oid r.oid)
    (λ same.
    let o : oid ≡ r.oid = eqb-true oid r.oid same in
    let replaced : of_object oid now ≡ entry_change oid c ∷ [] = ap (λ (n : ℕ). of_object oid (insert_entry nat_eq done n c)) (sym o) ∙ same_replaces oid c done (option_map content_by last) so_far in
    merged_on oid now (Some k) then place tid after rs replaced)
    (λ apart. merged_on oid now last then place tid after rs (other_stays oid r.oid c done (ne_eqb r.oid oid (λ x. eqb-false oid r.oid apart (sym x))) ∙ so_far))

last_one : (oid : ℕ) (c : Option Content) → last_or None (one oid c) ≡ option_map (entry_change oid) c
last_one oid None = refl
last_one oid (Some c) = refl

-- a transaction changes an object to the content of the object's last record in it
pub merged : (oid : ℕ) (known : List Known) (place tid q : ℕ) (rs : List Written)
    → change_in oid (map as_change (changes_of [] known place tid q rs)) ≡ option_map (λ c. record { oid = oid; content = c }) (option_map (λ (k : Known). k.content) (last_or None (filter (is_of oid) (read_of known place tid q rs))))
merged oid known place tid q rs =
    ap (λ (x : List Change). last_or None x) (merged_on oid [] None known place tid q rs refl) ∙ last_one oid (option_map content_by (last_or None (filter (is_of oid) (read_of known place tid q rs))))

-- The two laws of the lines of trees: what is read is spelled so, and what is spelled so is read.
use Rattle.std.proofs.Common.{◌≡◌, ℕ, ◌+◌, ◌^◌, ◌<◌, List, ◌∷◌, ◌++◌, Some, refl, sym, ap, subst, ◌∙◌, arith}
use Rattle.std.specs.Prelude.{codes}
use Rattle.std.proofs.lemmas.Option.{same_Some}
use Rattle.pickle_writing.specs.declared.depth.TheConstants.{WALK_LIMIT}
use Rattle.btree_family.specs.declared.key.Key.{Key}
use Rattle.zb_ids.specs.Hex.{hex_number, number_at}
use Rattle.zb_ids.specs.HexLaws.{from_bind, number_takes, number_again}
use Rattle.zb_script.specs.declared.line.Line.{Line}
use Rattle.zb_script.specs.declared.line.Line.TheVariants as lines
use Rattle.zb_script.specs.declared.tree_call.TreeCall.{TreeCall}
use Rattle.zb_script.specs.declared.tree_call.TreeCall.TheVariants as calls
use Rattle.zb_script.specs.Keys.{IsKey, key_literal}
use Rattle.zb_script.specs.Spelling.{IsNumbered, IsValueText, IsKeyed, IsSet, IsRange, IsTreeText, IsTreeCall, IsLineText}
use Rattle.zb_script.specs.Reading.{behind_word, field_at, key_at, key_field_at, value_at, set_at, keyed_at, items_at, range_at, tree_line_at, words_at, short_line_at, line_at}
use Rattle.zb_script.proofs.Froms.{From, From-append, from_test}
use Rattle.zb_script.proofs.GapLaws.{literal_word}
use Rattle.zb_script.proofs.FieldLaws.{Exact, field_takes, field_again}
use Rattle.zb_script.proofs.KeyLaws.{key_takes, key_again, key_word, key_field_takes, key_field_again, value_takes, value_again}
use Rattle.zb_script.proofs.Begun.{begun_takes, word_again, numbered_from, field_from}

-- ---- what is read is spelled so

set_takes : Exact → (bytes : List ℕ) (l : Line) → set_at bytes ≡ Some l → IsLineText (codes "set " ++ bytes) l
unfolding set_at
set_takes exact bytes l e =
    from_bind (field_at bytes) _ l e (λ oid at_oid e1.
    from_bind (key_field_at oid.1) _ l e1 (λ key at_key e2.
    from_bind (value_at key.1) _ l e2 (λ value at_value is.
    let p = field_takes bytes oid at_oid in
    let q = key_field_takes exact oid.1 key at_key in
    let whole : bytes ≡ hex_number oid.0 ++ 32 ∷ (key_literal key.0 ++ 32 ∷ key.1) = p.is ∙ ap (λ (x : List ℕ). hex_number oid.0 ++ 32 ∷ x) q.is in
    let spelled : IsSet (codes "set " ++ bytes) oid.0 key.0 value = record { oid_small = p.small; is_key = q.is_key; value_text = key.1; stored = value_takes exact key.1 value at_value; is = ap (λ (x : List ℕ). codes "set " ++ x) whole } in
    subst (IsLineText (codes "set " ++ bytes)) (same_Some (lines.Tree oid.0 (calls.Set key.0 value)) l is) spelled)))

keyed_takes : Exact → (word bytes : List ℕ) (call : Key → TreeCall) → ((oid : ℕ) (key : Key) (text : List ℕ) → IsKeyed text word oid key → IsLineText text (lines.Tree oid (call key)))
    → (l : Line) → keyed_at call bytes ≡ Some l → IsLineText (word ++ bytes) l
unfolding keyed_at
keyed_takes exact word bytes call spells l e =
    from_bind (field_at bytes) _ l e (λ oid at_oid e1.
    from_bind (key_at oid.1) _ l e1 (λ key at_key is.
    let p = field_takes bytes oid at_oid in
    let q = key_takes exact oid.1 key at_key in
    let whole : bytes ≡ hex_number oid.0 ++ 32 ∷ key_literal key = p.is ∙ ap (λ (x : List ℕ). hex_number oid.0 ++ 32 ∷ x) q.is in
    let spelled : IsKeyed (word ++ bytes) word oid.0 key = record { oid_small = p.small; is_key = q.is_key; is = ap (λ (x : List ℕ). word ++ x) whole } in
    subst (IsLineText (word ++ bytes)) (same_Some (lines.Tree oid.0 (call key)) l is) (spells oid.0 key (word ++ bytes) spelled)))

items_take : (bytes : List ℕ) (l : Line) → items_at bytes ≡ Some l → IsLineText (codes "items " ++ bytes) l
unfolding items_at
items_take bytes l e =
    from_bind (number_at bytes) _ l e (λ oid at is.
    let t = number_takes bytes oid at in
    let spelled : IsNumbered (codes "items " ++ bytes) (codes "items ") oid = record { small = t.0; is = ap (λ (x : List ℕ). codes "items " ++ x) t.1 } in
    subst (IsLineText (codes "items " ++ bytes)) (same_Some (lines.Tree oid calls.Items) l is) spelled)

range_takes : Exact → (bytes : List ℕ) (l : Line) → range_at bytes ≡ Some l → IsLineText (codes "range " ++ bytes) l
unfolding range_at
range_takes exact bytes l e =
    from_bind (field_at bytes) _ l e (λ oid at_oid e1.
    from_bind (key_field_at oid.1) _ l e1 (λ from at_from e2.
    from_bind (key_at from.1) _ l e2 (λ to at_to is.
    let p = field_takes bytes oid at_oid in
    let q = key_field_takes exact oid.1 from at_from in
    let r = key_takes exact from.1 to at_to in
    let whole : bytes ≡ hex_number oid.0 ++ 32 ∷ (key_literal from.0 ++ 32 ∷ key_literal to) =
    p.is ∙ ap (λ (x : List ℕ). hex_number oid.0 ++ 32 ∷ x) (q.is ∙ ap (λ (x : List ℕ). key_literal from.0 ++ 32 ∷ x) r.is) in
    let spelled : IsRange (codes "range " ++ bytes) oid.0 from.0 to = record { oid_small = p.small; from_key = q.is_key; to_key = r.is_key; is = ap (λ (x : List ℕ). codes "range " ++ x) whole } in
    subst (IsLineText (codes "range " ++ bytes)) (same_Some (lines.Tree oid.0 (calls.Range from.0 to)) l is) spelled)))

pub tree_takes : Exact → (bytes : List ℕ) (l : Line) → tree_line_at bytes ≡ Some l → IsLineText bytes l
unfolding tree_line_at
tree_takes exact bytes l e =
    begun_takes (codes "set ") bytes set_at _ l e (λ rest. set_takes exact rest l) (λ e.
    begun_takes (codes "insert ") bytes (keyed_at calls.Insert) _ l e (λ rest. keyed_takes exact (codes "insert ") rest calls.Insert (λ oid key text is. is) l) (λ e.
    begun_takes (codes "del ") bytes (keyed_at calls.Del) _ l e (λ rest. keyed_takes exact (codes "del ") rest calls.Del (λ oid key text is. is) l) (λ e.
    begun_takes (codes "find ") bytes (keyed_at calls.Find) _ l e (λ rest. keyed_takes exact (codes "find ") rest calls.Find (λ oid key text is. is) l) (λ e.
    begun_takes (codes "items ") bytes items_at _ l e (λ rest. items_take rest l) (λ e.
    begun_takes (codes "range ") bytes range_at _ l e (λ rest. range_takes exact rest l) (λ e. absurd cc))))))

-- ---- what is spelled so is read

abbrev IsRead : List ℕ → Line → Type 0
IsRead text l = line_at text ≡ Some l

set_again : Exact → (text : List ℕ) (oid : ℕ) (key : Key) (value : List ℕ) (h : IsSet text oid key value)
    → IsRead (codes "set " ++ (hex_number oid ++ 32 ∷ (key_literal key ++ 32 ∷ h.value_text))) (lines.Tree oid (calls.Set key value))
unfolding line_at behind_word short_line_at words_at tree_line_at set_at
set_again exact text oid key value h =
    rw (field_again oid (key_literal key ++ 32 ∷ h.value_text) h.oid_small, key_field_again exact key h.value_text h.is_key, value_again exact h.value_text value h.stored) refl

insert_again : Exact → (oid : ℕ) (key : Key) → oid < 2 ^ 64 → IsKey key → IsRead (codes "insert " ++ (hex_number oid ++ 32 ∷ key_literal key)) (lines.Tree oid (calls.Insert key))
unfolding line_at behind_word short_line_at words_at tree_line_at keyed_at
insert_again exact oid key small is_key = rw (field_again oid (key_literal key) small, key_again exact key is_key) refl

del_again : Exact → (oid : ℕ) (key : Key) → oid < 2 ^ 64 → IsKey key → IsRead (codes "del " ++ (hex_number oid ++ 32 ∷ key_literal key)) (lines.Tree oid (calls.Del key))
unfolding line_at behind_word short_line_at words_at tree_line_at keyed_at
del_again exact oid key small is_key = rw (field_again oid (key_literal key) small, key_again exact key is_key) refl

find_again : Exact → (oid : ℕ) (key : Key) → oid < 2 ^ 64 → IsKey key → IsRead (codes "find " ++ (hex_number oid ++ 32 ∷ key_literal key)) (lines.Tree oid (calls.Find key))
unfolding line_at behind_word short_line_at words_at tree_line_at keyed_at
find_again exact oid key small is_key = rw (field_again oid (key_literal key) small, key_again exact key is_key) refl

items_again : (oid : ℕ) → oid < 2 ^ 64 → IsRead (codes "items " ++ hex_number oid) (lines.Tree oid calls.Items)
unfolding line_at behind_word short_line_at words_at tree_line_at items_at
items_again oid small = rw (number_again oid small) refl

range_again : Exact → (oid : ℕ) (from to : Key) → oid < 2 ^ 64 → IsKey from → IsKey to
    → IsRead (codes "range " ++ (hex_number oid ++ 32 ∷ (key_literal from ++ 32 ∷ key_literal to))) (lines.Tree oid (calls.Range from to))
unfolding line_at behind_word short_line_at words_at tree_line_at range_at
range_again exact oid from to small from_key to_key =
    rw (field_again oid (key_literal from ++ 32 ∷ key_literal to) small, key_field_again exact from (key_literal to) from_key, key_again exact to to_key) refl

pub tree_again : Exact → (text : List ℕ) (oid : ℕ) (call : TreeCall) → IsTreeText text oid call → line_at text ≡ Some (lines.Tree oid call)
tree_again exact text oid (calls.Set key value) h = word_again (lines.Tree oid (calls.Set key value)) text _ h.is (set_again exact text oid key value h)
tree_again exact text oid (calls.Insert key) h = word_again (lines.Tree oid (calls.Insert key)) text _ h.is (insert_again exact oid key h.oid_small h.is_key)
tree_again exact text oid (calls.Del key) h = word_again (lines.Tree oid (calls.Del key)) text _ h.is (del_again exact oid key h.oid_small h.is_key)
tree_again exact text oid (calls.Find key) h = word_again (lines.Tree oid (calls.Find key)) text _ h.is (find_again exact oid key h.oid_small h.is_key)
tree_again exact text oid calls.Items h = word_again (lines.Tree oid calls.Items) text _ h.is (items_again oid h.small)
tree_again exact text oid (calls.Range from to) h = word_again (lines.Tree oid (calls.Range from to)) text _ h.is (range_again exact oid from to h.oid_small h.from_key h.to_key)

-- ---- no line has a newline

key_from : (key : Key) → IsKey key → From 32 (key_literal key)
key_from key h = let word = key_word key h in word.high

-- a key ahead of a blank
key_ahead : (key : Key) (rest : List ℕ) → IsKey key → From 32 rest → From 32 (key_literal key ++ 32 ∷ rest)
key_ahead key rest h high = From-append 32 (key_literal key) (32 ∷ rest) (key_from key h) (omega arith, high)

value_from : (text bytes : List ℕ) → IsValueText text bytes → From 32 text
value_from text bytes h =
    let literal = h.literal in
    let word = literal_word literal.tree (WALK_LIMIT + 1) literal.each in
    subst (From 32) (sym literal.text) word.high

keyed_from : (word text : List ℕ) (oid : ℕ) (key : Key) → From 32 word → IsKeyed text word oid key → From 32 text
keyed_from word text oid key high h = subst (From 32) (sym h.is) (From-append 32 word _ high (field_from oid (key_literal key) (key_from key h.is_key)))

pub tree_from : (text : List ℕ) (oid : ℕ) (call : TreeCall) → IsTreeText text oid call → From 32 text
tree_from text oid (calls.Set key value) h =
    subst (From 32) (sym h.is) (From-append 32 (codes "set ") _ (from_test 32 (codes "set ") refl) (field_from oid _ (key_ahead key h.value_text h.is_key (value_from h.value_text value h.stored))))
tree_from text oid (calls.Insert key) h = keyed_from (codes "insert ") text oid key (from_test 32 (codes "insert ") refl) h
tree_from text oid (calls.Del key) h = keyed_from (codes "del ") text oid key (from_test 32 (codes "del ") refl) h
tree_from text oid (calls.Find key) h = keyed_from (codes "find ") text oid key (from_test 32 (codes "find ") refl) h
tree_from text oid calls.Items h = numbered_from (codes "items ") oid text (from_test 32 (codes "items ") refl) h
tree_from text oid (calls.Range from to) h =
    subst (From 32) (sym h.is) (From-append 32 (codes "range ") _ (from_test 32 (codes "range ") refl) (field_from oid _ (key_ahead from (key_literal to) h.from_key (key_from to h.to_key))))

-- ---- fields

pub tree_is : (text : List ℕ) (oid : ℕ) (call : TreeCall) → IsTreeText text oid call → (oid < 2 ^ 64) × IsTreeCall call
tree_is text oid (calls.Set key value) h = (h.oid_small, (h.is_key, record { text = h.value_text; is = h.stored }))
tree_is text oid (calls.Insert key) h = (h.oid_small, h.is_key)
tree_is text oid (calls.Del key) h = (h.oid_small, h.is_key)
tree_is text oid (calls.Find key) h = (h.oid_small, h.is_key)
tree_is text oid calls.Items h = (h.small, tt)
tree_is text oid (calls.Range from to) h = (h.oid_small, (h.from_key, h.to_key))

-- Texts that go behind one another.
use Rattle.std.proofs.Common.{◌≡◌, ℕ, suc, ◌*◌, Bool, true, false, List, [], ◌∷◌, ◌++◌, length, Option, Some, None, refl, sym, ◌∙◌, ap, arith, append_assoc, append-nil}
use Rattle.btree_family.specs.declared.table.KeyKind.{KeyKind}
use Rattle.btree_family.specs.declared.table.ValueKind.{ValueKind}
use Rattle.btree_family.specs.Classes.{Class}
use Rattle.btree_family.specs.declared.bucket.Item.{Item}
use Rattle.btree_family.specs.Buckets.{BucketContents}
use Rattle.bucket_state.specs.States.{has_values}
use Rattle.bucket_state.specs.Written.{key_text}
use Rattle.bucket_state.specs.Flat.{FlatStands, AreFlat, IsWithItems, IsFlatState, tuple_start, tuple_end, tuple_text, texts_of, value_text, item_texts, members_of, next_text, next_texts, flat_text}

-- ---- links

pub link_appended : (t b m n t1 t2 t3 t4 t5 t6 : List ℕ) → t1 ≡ t ++ b → t2 ≡ t1 ++ 0x63 ∷ [] → t3 ≡ t2 ++ m → t4 ≡ t3 ++ 10 ∷ [] → t5 ≡ t4 ++ n → t6 ≡ t5 ++ 10 ∷ 0x86 ∷ 0x51 ∷ [] →
    t6 ≡ t ++ (b ++ (0x63 ∷ (m ++ 10 ∷ (n ++ 10 ∷ [])) ++ 0x86 ∷ 0x51 ∷ []))
link_appended t b m n t1 t2 t3 t4 t5 t6 e1 e2 e3 e4 e5 e6 = e6 ∙ ap (λ (x : List ℕ). x ++ 10 ∷ 0x86 ∷ 0x51 ∷ []) (e5 ∙ ap (λ (x : List ℕ). x ++ n) (e4 ∙ ap (λ (x : List ℕ). x ++ 10 ∷ []) (e3 ∙ ap (λ (x : List ℕ). x ++ m) (e2 ∙ ap (λ (x : List ℕ). x ++ 0x63 ∷ []) e1)))) ∙ flat t b m n
  where
    flat : (t b m n : List ℕ) → (((((t ++ b) ++ 0x63 ∷ []) ++ m) ++ 10 ∷ []) ++ n) ++ 10 ∷ 0x86 ∷ 0x51 ∷ [] ≡ t ++ (b ++ (0x63 ∷ (m ++ 10 ∷ (n ++ 10 ∷ [])) ++ 0x86 ∷ 0x51 ∷ []))
    flat t b m n = simp append_assoc refl

pub next_appended : (t link t1 t2 : List ℕ) → t1 ≡ t ++ link → t2 ≡ t1 ++ 0x86 ∷ [] → t2 ≡ t ++ ((link ++ []) ++ 0x86 ∷ [])
next_appended t link t1 t2 e1 e2 = e2 ∙ ap (λ (x : List ℕ). x ++ 0x86 ∷ []) e1 ∙ append_assoc t link (0x86 ∷ []) ∙ ap (λ (x : List ℕ). t ++ (x ++ 0x86 ∷ [])) (sym (append-nil link))

-- ---- items

-- how many members flat items have
pub many : (values : Bool) (key_kind : KeyKind) (value_kind : ValueKind) (items : List Item) → AreFlat values key_kind value_kind items → length (item_texts items) ≡ members_of values (length items)
many true key_kind value_kind [] h = refl
many false key_kind value_kind [] h = refl
many true key_kind value_kind (item ∷ items) h = by_value item.value h.1 (many true key_kind value_kind items h.2)
  where
    by_value : (o : Option (List ℕ)) → FlatStands true value_kind o → length (item_texts items) ≡ length items * 2 → suc (length (value_text o (item_texts items))) ≡ suc (length items) * 2
    by_value None f e = absurd f
    by_value (Some text) f e = omega (arith, e)
many false key_kind value_kind (item ∷ items) h = by_value item.value h.1 (many false key_kind value_kind items h.2)
  where
    by_value : (o : Option (List ℕ)) → FlatStands false value_kind o → length (item_texts items) ≡ length items → suc (length (value_text o (item_texts items))) ≡ suc (length items)
    by_value None f e = ap suc e
    by_value (Some text) f e = absurd f

pub state_text : (class : Class) (bucket : BucketContents) (n : ℕ) (text inner all : List ℕ) → n ≡ members_of (has_values class.kind) (length bucket.items) → IsWithItems class (tuple_start n) bucket.items text → inner ≡ text ++ tuple_end n → all ≡ inner ++ next_text class bucket.next → IsFlatState class bucket all
state_text class bucket n text inner all count h e f =
    let size : n ≡ length (item_texts bucket.items) = count ∙ sym (many (has_values class.kind) class.key class.value bucket.items h.flat) in
    record { flat = h.flat; spelled = f ∙ ap (λ (x : List ℕ). x ++ next_text class bucket.next) (e ∙ whole size) ∙ outer bucket.next }
  where
    whole : n ≡ length (item_texts bucket.items) → text ++ tuple_end n ≡ tuple_start (length (item_texts bucket.items)) ++ (texts_of (item_texts bucket.items) ++ tuple_end (length (item_texts bucket.items)))
    whole size = ap (λ (x : List ℕ). x ++ tuple_end n) h.spelled ∙ append_assoc (tuple_start n) (texts_of (item_texts bucket.items)) (tuple_end n) ∙ ap (λ (k : ℕ). tuple_start k ++ (texts_of (item_texts bucket.items) ++ tuple_end k)) size

    outer : (next : Option ℕ) → (tuple_start (length (item_texts bucket.items)) ++ (texts_of (item_texts bucket.items) ++ tuple_end (length (item_texts bucket.items)))) ++ next_text class next ≡ flat_text class (record { items = bucket.items; next = next })
    outer None = ap (λ (x : List ℕ). x ++ 0x85 ∷ []) (sym (append-nil (tuple_text (item_texts bucket.items))))
    outer (Some oid) = sym (append_assoc (tuple_text (item_texts bucket.items)) (texts_of (next_texts class (Some oid))) (0x86 ∷ []))

-- an item more
pub one_more : (class : Class) (start : List ℕ) (item : Item) (text : List ℕ) → IsWithItems class start (item ∷ []) text → (items : List Item) (all : List ℕ) → IsWithItems class text items all → IsWithItems class start (item ∷ items) all
one_more class start item text h items all f = record { flat = (h.flat.0, h.flat.1, f.flat); spelled = f.spelled ∙ ap (λ (x : List ℕ). x ++ texts_of (item_texts items)) h.spelled ∙ append_assoc start (texts_of (item_texts (item ∷ []))) (texts_of (item_texts items)) ∙ ap (λ (x : List ℕ). start ++ x) (by_value item.value) }
  where
    by_value : (o : Option (List ℕ)) → texts_of (item_texts (record { key = item.key; value = o } ∷ [])) ++ texts_of (item_texts items) ≡ texts_of (item_texts (record { key = item.key; value = o } ∷ items))
    by_value None = append_assoc (key_text item.key) [] (texts_of (item_texts items))
    by_value (Some value) = append_assoc (key_text item.key) (value ++ []) (texts_of (item_texts items)) ∙ ap (λ (x : List ℕ). key_text item.key ++ x) (append_assoc value [] (texts_of (item_texts items)))

pub no_more : (class : Class) (text : List ℕ) → IsWithItems class text [] text
no_more class text = record { flat = tt; spelled = sym (append-nil text) }

-- The text of the state of a tree of one leaf, of its parts.
use Rattle.std.proofs.Common.{◌≡◌, ℕ, ◌<◌, ◌≤◌, List, [], ◌∷◌, ◌++◌, length, sym, ◌∙◌, ap, arith, append_assoc, append-nil}
use Rattle.btree_family.specs.Classes.{Class}
use Rattle.btree_family.specs.declared.bucket.Item.{Item}
use Rattle.bucket_state.specs.States.{has_values}
use Rattle.bucket_state.specs.Flat.{IsWithItems, tuple_start, tuple_end, tuple_text, texts_of, item_texts, members_of}
use Rattle.bucket_state.specs.LoneText.{embedded_text, IsFlatTree}
use Rattle.bucket_state.proofs.FlatPieces.{many}

pub no_items : (class : Class) (items : List Item) (text : List ℕ) → length items < 1 → text ≡ 0x4e ∷ [] → IsFlatTree class items text
no_items class [] text low is = record { flat = tt; spelled = is }
no_items class (item ∷ items) text low is = absurd (omega (arith, low))

wrapped : (t : List ℕ) → t ++ 0x85 ∷ 0x85 ∷ 0x85 ∷ [] ≡ tuple_text (tuple_text (tuple_text (t ∷ []) ∷ []) ∷ [])
wrapped t =
    sym (append_assoc t (0x85 ∷ []) (0x85 ∷ 0x85 ∷ []))
    ∙ ap (λ (x : List ℕ). (x ++ 0x85 ∷ []) ++ 0x85 ∷ 0x85 ∷ []) (sym (append-nil t))
    ∙ sym (append_assoc ((t ++ []) ++ 0x85 ∷ []) (0x85 ∷ []) (0x85 ∷ []))
    ∙ ap (λ (x : List ℕ). (x ++ 0x85 ∷ []) ++ 0x85 ∷ []) (sym (append-nil ((t ++ []) ++ 0x85 ∷ [])))
    ∙ ap (λ (x : List ℕ). x ++ 0x85 ∷ []) (sym (append-nil ((((t ++ []) ++ 0x85 ∷ []) ++ []) ++ 0x85 ∷ [])))

some_text : (class : Class) (items : List Item) (t : List ℕ) → 1 ≤ length items → t ≡ tuple_text (item_texts items) → t ++ 0x85 ∷ 0x85 ∷ 0x85 ∷ [] ≡ embedded_text items
some_text class [] t low is = absurd (omega (arith, low))
some_text class (item ∷ items) t low is = wrapped t ∙ ap (λ (x : List ℕ). tuple_text (tuple_text (tuple_text (x ∷ []) ∷ []) ∷ [])) is

pub tree_text : (class : Class) (items : List Item) (n : ℕ) (text inner all : List ℕ) → 1 ≤ length items → n ≡ members_of (has_values class.kind) (length items) → IsWithItems class (tuple_start n) items text → inner ≡ text ++ tuple_end n → all ≡ inner ++ 0x85 ∷ 0x85 ∷ 0x85 ∷ [] → IsFlatTree class items all
tree_text class items n text inner all low count h e f =
    let size : n ≡ length (item_texts items) = count ∙ sym (many (has_values class.kind) class.key class.value items h.flat) in
    record {
      flat = h.flat;
      spelled = f ∙ some_text class items inner low (e ∙ ap (λ (x : List ℕ). x ++ tuple_end n) h.spelled ∙ append_assoc (tuple_start n) (texts_of (item_texts items)) (tuple_end n)
          ∙ ap (λ (k : ℕ). tuple_start k ++ (texts_of (item_texts items) ++ tuple_end k)) size);
    }

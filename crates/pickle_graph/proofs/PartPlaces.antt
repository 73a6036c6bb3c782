-- The parts at places of the text of a node.
use Rattle.std.proofs.Common.{◌≡◌, ℕ, zero, suc, ◌+◌, ◌-◌, ◌*◌, ◌/◌, ◌%◌, ◌<◌, ◌≤◌, List, [], ◌∷◌, ◌++◌, length, get_or, refl, sym, ◌∙◌, ap, arith}
use Rattle.pickle_graph.specs.declared.parts.Part.{Part}
use Rattle.pickle_graph.specs.declared.parts.Part.TheVariants.{Byte, Item}
use Rattle.pickle_graph.specs.Parts.{item_parts, pair_parts, many_parts}

-- ---- items

pub items_length : (items : List ℕ) (byte : ℕ) → length (many_parts (item_parts items) byte) ≡ length items + 2
items_length [] byte = refl
items_length (x ∷ items) byte = let e = items_length items byte in omega (arith, e)

item-at : (items : List ℕ) (tail : List Part) (i : ℕ) (d : Part) (e : ℕ) → i < length items → get_or (item_parts items ++ tail) i d ≡ Item (get_or items i e)
item-at [] tail i d e h = absurd (omega arith)
item-at (x ∷ items) tail zero d e h = refl
item-at (x ∷ items) tail (suc i) d e h = item-at items tail i d e (omega arith)

item-end : (items : List ℕ) (last d : Part) (i : ℕ) → i ≡ length items → get_or (item_parts items ++ last ∷ []) i d ≡ last
item-end [] last d zero h = refl
item-end [] last d (suc i) h = absurd (omega (arith, h))
item-end (x ∷ items) last d zero h = absurd (omega (arith, h))
item-end (x ∷ items) last d (suc i) h = item-end items last d i (omega (arith, h))

pub item_above : (items : List ℕ) (byte index : ℕ) (d : Part) → 0 < index → index - 1 < length items → get_or (many_parts (item_parts items) byte) index d ≡ Item (get_or items (index - 1) 0)
item_above items byte zero d some h = absurd (omega arith)
item_above items byte (suc i) d some h =
    let at : suc i - 1 ≡ i = omega arith in
    item-at items (Byte byte ∷ []) i d 0 (omega (arith, h)) ∙ ap (λ (k : ℕ). Item (get_or items k 0)) (sym at)

pub items_end : (items : List ℕ) (byte index : ℕ) (d : Part) → 0 < index → length items ≤ index - 1 → index < length (many_parts (item_parts items) byte) → get_or (many_parts (item_parts items) byte) index d ≡ Byte byte
items_end items byte zero d some h less = absurd (omega arith)
items_end items byte (suc i) d some h less =
    let l = items_length items byte in
    item-end items (Byte byte) d i (omega (arith, h, less, l))

-- ---- keys and values

pub pairs_length : (pairs : List (ℕ × ℕ)) (byte : ℕ) → length (many_parts (pair_parts pairs) byte) ≡ 2 * length pairs + 2
pairs_length [] byte = refl
pairs_length (x ∷ pairs) byte = let e = pairs_length pairs byte in omega (arith, e)

pair-key : (pairs : List (ℕ × ℕ)) (tail : List Part) (n k : ℕ) (d : Part) (e : ℕ × ℕ) → n ≡ 2 * k → k < length pairs → get_or (pair_parts pairs ++ tail) n d ≡ Item (get_or pairs k e).0
pair-key [] tail n k d e s h = absurd (omega (arith, h))
pair-key (x ∷ pairs) tail zero zero d e s h = refl
pair-key (x ∷ pairs) tail zero (suc k) d e s h = absurd (omega (arith, s))
pair-key (x ∷ pairs) tail (suc zero) k d e s h = absurd (omega (arith, s))
pair-key (x ∷ pairs) tail (suc (suc n)) zero d e s h = absurd (omega (arith, s))
pair-key (x ∷ pairs) tail (suc (suc n)) (suc k) d e s h = pair-key pairs tail n k d e (omega (arith, s)) (omega (arith, h))

pair-value : (pairs : List (ℕ × ℕ)) (tail : List Part) (n k : ℕ) (d : Part) (e : ℕ × ℕ) → n ≡ 2 * k + 1 → k < length pairs → get_or (pair_parts pairs ++ tail) n d ≡ Item (get_or pairs k e).1
pair-value [] tail n k d e s h = absurd (omega (arith, h))
pair-value (x ∷ pairs) tail zero k d e s h = absurd (omega (arith, s))
pair-value (x ∷ pairs) tail (suc zero) zero d e s h = refl
pair-value (x ∷ pairs) tail (suc zero) (suc k) d e s h = absurd (omega (arith, s))
pair-value (x ∷ pairs) tail (suc (suc n)) zero d e s h = absurd (omega (arith, s))
pair-value (x ∷ pairs) tail (suc (suc n)) (suc k) d e s h = pair-value pairs tail n k d e (omega (arith, s)) (omega (arith, h))

pair-end : (pairs : List (ℕ × ℕ)) (last d : Part) (n : ℕ) → n ≡ 2 * length pairs → get_or (pair_parts pairs ++ last ∷ []) n d ≡ last
pair-end [] last d zero h = refl
pair-end [] last d (suc n) h = absurd (omega (arith, h))
pair-end (x ∷ pairs) last d zero h = absurd (omega (arith, h))
pair-end (x ∷ pairs) last d (suc zero) h = absurd (omega (arith, h))
pair-end (x ∷ pairs) last d (suc (suc n)) h = pair-end pairs last d n (omega (arith, h))

pub key_above : (pairs : List (ℕ × ℕ)) (byte index : ℕ) (d : Part) (e : ℕ × ℕ) → 0 < index → (index - 1) / 2 < length pairs → index % 2 ≡ 1 → get_or (many_parts (pair_parts pairs) byte) index d ≡ Item (get_or pairs ((index - 1) / 2) e).0
key_above pairs byte zero d e some h odd = absurd (omega arith)
key_above pairs byte (suc i) d e some h odd =
    pair-key pairs (Byte byte ∷ []) i ((suc i - 1) / 2) d e (omega (arith, odd)) h

pub value_above : (pairs : List (ℕ × ℕ)) (byte index : ℕ) (d : Part) (e : ℕ × ℕ) → 0 < index → (index - 1) / 2 < length pairs → (index % 2 ≡ 1 → ⊥) → get_or (many_parts (pair_parts pairs) byte) index d ≡ Item (get_or pairs ((index - 1) / 2) e).1
value_above pairs byte zero d e some h odd = absurd (omega arith)
value_above pairs byte (suc i) d e some h odd =
    pair-value pairs (Byte byte ∷ []) i ((suc i - 1) / 2) d e (omega (arith, odd)) h

pub pairs_end : (pairs : List (ℕ × ℕ)) (byte index : ℕ) (d : Part) → 0 < index → length pairs ≤ (index - 1) / 2 → index < length (many_parts (pair_parts pairs) byte) → get_or (many_parts (pair_parts pairs) byte) index d ≡ Byte byte
pairs_end pairs byte zero d some h less = absurd (omega arith)
pairs_end pairs byte (suc i) d some h less =
    let l = pairs_length pairs byte in
    pair-end pairs (Byte byte) d i (omega (arith, h, less, l))

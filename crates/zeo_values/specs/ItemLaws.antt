-- Lists that are read item by item.
use Rattle.std.proofs.Common.{◌≡◌, ◌≢◌, ℕ, zero, suc, ◌+◌, ◌-◌, ◌<◌, Bool, true, false, eqb, List, [], ◌∷◌, ◌++◌, refl, sym, ap, ◌∙◌, append_assoc, cond, arith}
use Rattle.std.proofs.lemmas.Bool.{eq-eqb, ne_eqb}
use Rattle.std.proofs.lemmas.List.{append-nil}
use Rattle.zeo_values.specs.Values.{byte_in}
use Rattle.zeo_values.specs.Leaves.{read_items, read_left}

if_true : {X : Type 0} (b : Bool) (x y : X) → b ≡ true → cond b x y ≡ x
if_true b x y e = rw e refl

if_false : {X : Type 0} (b : Bool) (x y : X) → b ≡ false → cond b x y ≡ y
if_false b x y e = rw e refl

-- an item is read
pub items_on : {T : Type 0} (first : ℕ) (item : List ℕ → T) (rest : List ℕ → List ℕ) (n m : ℕ) (bytes : List ℕ) (so_far all : List T) → n ≡ suc m
    → byte_in 0 bytes ≡ first → so_far ++ read_items first item rest n bytes ≡ all → (so_far ++ item bytes ∷ []) ++ read_items first item rest m (rest bytes) ≡ all
items_on first item rest n m bytes so_far all e is done =
    let one : read_items first item rest n bytes ≡ item bytes ∷ read_items first item rest m (rest bytes) =
    ap (λ (k : ℕ). read_items first item rest k bytes) e
    ∙ if_true (eqb (byte_in 0 bytes) first) (item bytes ∷ read_items first item rest m (rest bytes)) [] (eq-eqb (byte_in 0 bytes) first is) in
    append_assoc so_far (item bytes ∷ []) (read_items first item rest m (rest bytes)) ∙ ap (λ xs. so_far ++ xs) (sym one) ∙ done

-- no item is there, or so many were read
pub items_off : {T : Type 0} (first : ℕ) (item : List ℕ → T) (rest : List ℕ → List ℕ) (n : ℕ) (bytes : List ℕ) (so_far all : List T)
    → byte_in 0 bytes ≢ first → so_far ++ read_items first item rest n bytes ≡ all → so_far ≡ all
items_off first item rest zero bytes so_far all is done = sym (append-nil so_far) ∙ done
items_off first item rest (suc n) bytes so_far all is done =
    let none : read_items first item rest (suc n) bytes ≡ [] =
    if_false (eqb (byte_in 0 bytes) first) (item bytes ∷ read_items first item rest n (rest bytes)) [] (ne_eqb (byte_in 0 bytes) first is) in
    sym (append-nil so_far) ∙ ap (λ xs. so_far ++ xs) (sym none) ∙ done

pub items_over : {T : Type 0} (first : ℕ) (item : List ℕ → T) (rest : List ℕ → List ℕ) (n : ℕ) (bytes : List ℕ) (so_far all : List T) → n ≡ 0
    → so_far ++ read_items first item rest n bytes ≡ all → so_far ≡ all
items_over first item rest zero bytes so_far all e done = sym (append-nil so_far) ∙ done
items_over first item rest (suc n) bytes so_far all e done = absurd (omega arith)

-- the same of what stands behind them
pub left_on : (first : ℕ) (rest : List ℕ → List ℕ) (n m : ℕ) (bytes all : List ℕ) → n ≡ suc m
    → byte_in 0 bytes ≡ first → read_left first rest n bytes ≡ all → read_left first rest m (rest bytes) ≡ all
left_on first rest n m bytes all e is done =
    let one : read_left first rest n bytes ≡ read_left first rest m (rest bytes) =
    ap (λ (k : ℕ). read_left first rest k bytes) e
    ∙ if_true (eqb (byte_in 0 bytes) first) (read_left first rest m (rest bytes)) bytes (eq-eqb (byte_in 0 bytes) first is) in
    sym one ∙ done

pub left_off : (first : ℕ) (rest : List ℕ → List ℕ) (n : ℕ) (bytes all : List ℕ) → byte_in 0 bytes ≢ first → read_left first rest n bytes ≡ all → bytes ≡ all
left_off first rest zero bytes all is done = done
left_off first rest (suc n) bytes all is done =
    sym (if_false (eqb (byte_in 0 bytes) first) (read_left first rest n (rest bytes)) bytes (ne_eqb (byte_in 0 bytes) first is)) ∙ done

pub left_over : (first : ℕ) (rest : List ℕ → List ℕ) (n : ℕ) (bytes all : List ℕ) → n ≡ 0 → read_left first rest n bytes ≡ all → bytes ≡ all
left_over first rest zero bytes all e done = done
left_over first rest (suc n) bytes all e done = absurd (omega arith)

-- a step of a loop that reads items, and of one that passes them
pub items_step : {T : Type 0} (first : ℕ) (item : List ℕ → T) (rest : List ℕ → List ℕ) (size i : ℕ) (bytes next : List ℕ) (so_far now all : List T) → i < size
    → byte_in 0 bytes ≡ first → next ≡ rest bytes → now ≡ so_far ++ item bytes ∷ [] → so_far ++ read_items first item rest (size - i) bytes ≡ all
    → now ++ read_items first item rest (size - (i + 1)) next ≡ all
items_step first item rest size i bytes next so_far now all less is left one done =
    ap (λ xs. xs ++ read_items first item rest (size - (i + 1)) next) one
    ∙ ap (λ (x : List ℕ). (so_far ++ item bytes ∷ []) ++ read_items first item rest (size - (i + 1)) x) left
    ∙ items_on first item rest (size - i) (size - (i + 1)) bytes so_far all (omega arith) is done

pub left_step : (first : ℕ) (rest : List ℕ → List ℕ) (size i : ℕ) (bytes next all : List ℕ) → i < size → byte_in 0 bytes ≡ first → next ≡ rest bytes
    → read_left first rest (size - i) bytes ≡ all → read_left first rest (size - (i + 1)) next ≡ all
left_step first rest size i bytes next all less is left done =
    ap (λ (x : List ℕ). read_left first rest (size - (i + 1)) x) left ∙ left_on first rest (size - i) (size - (i + 1)) bytes all (omega arith) is done

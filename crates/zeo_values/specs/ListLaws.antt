-- Lists are read item by item as they were written.
use Rattle.std.proofs.Common.{◌≡◌, ◌≢◌, ℕ, zero, suc, ◌<◌, ◌≤◌, eqb, ltb, List, [], ◌∷◌, ◌++◌, length, map, drop, refl, ap, ◌∙◌, append_assoc, length-append, cond, arith}
use Rattle.std.specs.List.{AllByRecursion}
use Rattle.std.proofs.lemmas.Bool.{eq-eqb, lt-ltb, ne_eqb}
use Rattle.zeo_values.specs.Values.{byte_in, closing, ended, id_text, list_of, opening, IsId, AreIds}
use Rattle.zeo_values.specs.Leaves.{behind, behind_ids, behind_ids_at, id_in, ids_at, ids_in, ids_left, items_in, read_items, read_left}
use Rattle.zeo_values.specs.ValueLaws.{if_true, if_false, id_again, behind_id, behind_one, id_head, id_long}

-- what follows the end of items follows the end
pub ended_more : (items : List (List ℕ)) (end more : List ℕ) → ended items end ++ more ≡ ended items (end ++ more)
ended_more [] end more = refl
ended_more (item ∷ items) end more = append_assoc item (ended items end) more ∙ ap (λ (x : List ℕ). item ++ x) (ended_more items end more)

-- how items are read
pub record IsReader {T : Type 0} (P : T → Type 0) (first : ℕ) (text : T → List ℕ) (item : List ℕ → T) (rest : List ℕ → List ℕ) : Type 0 where
  pub head : (x : T) (more : List ℕ) → byte_in 0 (text x ++ more) ≡ first
  pub reads : (x : T) (more : List ℕ) → P x → item (text x ++ more) ≡ x
  pub leaves : (x : T) (more : List ℕ) → P x → rest (text x ++ more) ≡ more
  pub some : (x : T) → 0 < length (text x)

pub read_again : {T : Type 0} (P : T → Type 0) (first : ℕ) (text : T → List ℕ) (item : List ℕ → T) (rest : List ℕ → List ℕ) (xs : List T) (n x : ℕ) (more : List ℕ)
    → IsReader P first text item rest → AllByRecursion P xs → x ≢ first → length xs ≤ n
    → read_items first item rest n (ended (map text xs) (x ∷ more)) ≡ xs
read_again P first text item rest [] zero x more r all ne le = refl
read_again P first text item rest [] (suc n) x more r all ne le =
    if_false (eqb x first) (item (x ∷ more) ∷ read_items first item rest n (rest (x ∷ more))) [] (ne_eqb x first ne)
read_again P first text item rest (y ∷ ys) zero x more r all ne le = absurd (omega arith)
read_again P first text item rest (y ∷ ys) (suc n) x more r all ne le =
    let behind_it : List ℕ = ended (map text ys) (x ∷ more) in
    if_true (eqb (byte_in 0 (text y ++ behind_it)) first) (item (text y ++ behind_it) ∷ read_items first item rest n (rest (text y ++ behind_it))) []
    (eq-eqb (byte_in 0 (text y ++ behind_it)) first (r.head y behind_it))
    ∙ ap (λ z. z ∷ read_items first item rest n (rest (text y ++ behind_it))) (r.reads y behind_it all.0)
    ∙ ap (λ (z : List ℕ). y ∷ read_items first item rest n z) (r.leaves y behind_it all.0)
    ∙ ap (λ zs. y ∷ zs) (read_again P first text item rest ys n x more r all.1 ne (omega arith))

pub left_again : (first : ℕ) (text : ℕ → List ℕ) (rest : List ℕ → List ℕ) (xs : List ℕ) (n x : ℕ) (more : List ℕ)
    → ((y : ℕ) (behind_it : List ℕ) → byte_in 0 (text y ++ behind_it) ≡ first) → ((y : ℕ) (behind_it : List ℕ) → rest (text y ++ behind_it) ≡ behind_it)
    → x ≢ first → length xs ≤ n → read_left first rest n (ended (map text xs) (x ∷ more)) ≡ x ∷ more
left_again first text rest [] zero x more heads leaves ne le = refl
left_again first text rest [] (suc n) x more heads leaves ne le =
    if_false (eqb x first) (read_left first rest n (rest (x ∷ more))) (x ∷ more) (ne_eqb x first ne)
left_again first text rest (y ∷ ys) zero x more heads leaves ne le = absurd (omega arith)
left_again first text rest (y ∷ ys) (suc n) x more heads leaves ne le =
    let behind_it : List ℕ = ended (map text ys) (x ∷ more) in
    if_true (eqb (byte_in 0 (text y ++ behind_it)) first) (read_left first rest n (rest (text y ++ behind_it))) (text y ++ behind_it)
    (eq-eqb (byte_in 0 (text y ++ behind_it)) first (heads y behind_it))
    ∙ ap (λ (z : List ℕ). read_left first rest n z) (leaves y behind_it)
    ∙ left_again first text rest ys n x more heads leaves ne (omega arith)

-- there are as many bytes as items
pub enough : {T : Type 0} (text : T → List ℕ) (xs : List T) (end : List ℕ) → ((x : T) → 0 < length (text x)) → length xs ≤ length (ended (map text xs) end)
enough text [] end some = omega arith
enough text (x ∷ xs) end some =
    let more = enough text xs end some in
    let one = some x in
    let both = length-append (text x) (ended (map text xs) end) in
    omega arith

pub id_reader : IsReader IsId 0x43 id_text id_in (behind 10)
id_reader = record {
  head = λ n more. id_head n more;
  reads = λ n more h. id_again n more h;
  leaves = λ n more h. behind_id n more;
  some = λ n. omega (arith, id_long n);
}

-- the items of a list and what follows it
pub ids_at_again : (ids : List ℕ) (x : ℕ) (more : List ℕ) → AreIds ids → x ≢ 0x43 → ids_at (ended (map id_text ids) (x ∷ more)) ≡ ids
ids_at_again ids x more all ne =
    read_again IsId 0x43 id_text id_in (behind 10) ids (length (ended (map id_text ids) (x ∷ more))) x more id_reader all ne
    (enough id_text ids (x ∷ more) id_reader.some)

pub ids_left_again : (ids : List ℕ) (x : ℕ) (more : List ℕ) → x ≢ 0x43 → ids_left (ended (map id_text ids) (x ∷ more)) ≡ x ∷ more
ids_left_again ids x more ne =
    left_again 0x43 id_text (behind 10) ids (length (ended (map id_text ids) (x ∷ more))) x more (λ n r. id_head n r) (λ n r. behind_id n r) ne
    (enough id_text ids (x ∷ more) id_reader.some)

-- ---- what stands before the items of a list, and behind them

opening_is : (n : ℕ) → 1 < n → opening n ≡ 0x28 ∷ []
opening_is n h = if_true (ltb 1 n) (0x28 ∷ []) [] (lt-ltb 1 n h)

closing_is : (n : ℕ) → 1 < n → closing n ≡ 0x65 ∷ []
closing_is n h = if_true (ltb 1 n) (0x65 ∷ []) (cond (eqb n 1) (0x61 ∷ []) []) (lt-ltb 1 n h)

-- a list of two items or more
pub many : {T : Type 0} (text : T → List ℕ) (a b : T) (xs : List T) → list_of text (a ∷ (b ∷ xs)) ≡ 0x5d ∷ 0x28 ∷ ended (map text (a ∷ (b ∷ xs))) (0x65 ∷ [])
many text a b xs =
    let n : ℕ = length (map text (a ∷ (b ∷ xs))) in
    let two : 1 < n = omega arith in
    let items : List (List ℕ) = map text (a ∷ (b ∷ xs)) in
    ap (λ (o : List ℕ). 0x5d ∷ (o ++ ended items (closing n))) (opening_is n two) ∙ ap (λ (c : List ℕ). 0x5d ∷ 0x28 ∷ ended items c) (closing_is n two)

-- where the items of a list begin
items_none : (x : ℕ) (more : List ℕ) → x ≢ 0x28 → items_in (0x5d ∷ x ∷ more) ≡ x ∷ more
unfolding items_in
items_none x more ne = if_false (eqb x 0x28) (drop 2 (0x5d ∷ x ∷ more)) (x ∷ more) (ne_eqb x 0x28 ne)

items_one : (a : ℕ) (rest : List ℕ) → items_in (list_of id_text (a ∷ []) ++ rest) ≡ ended (map id_text (a ∷ [])) (0x61 ∷ rest)
unfolding items_in id_text
items_one a rest = refl

items_many : (a b : ℕ) (ids rest : List ℕ) → items_in (list_of id_text (a ∷ (b ∷ ids)) ++ rest) ≡ ended (map id_text (a ∷ (b ∷ ids))) (0x65 ∷ rest)
unfolding items_in
items_many a b ids rest =
    ap (λ (t : List ℕ). items_in (t ++ rest)) (many id_text a b ids) ∙ ended_more (map id_text (a ∷ (b ∷ ids))) (0x65 ∷ []) rest

pub ids_again : (ids : List ℕ) (x : ℕ) (more : List ℕ) → AreIds ids → x ≢ 0x28 → x ≢ 0x43 → ids_in (list_of id_text ids ++ x ∷ more) ≡ ids
ids_again [] x more all open_ne ne = ap ids_at (items_none x more open_ne) ∙ ids_at_again [] x more all ne
ids_again (a ∷ []) x more all open_ne ne = ap ids_at (items_one a (x ∷ more)) ∙ ids_at_again (a ∷ []) 0x61 (x ∷ more) all (omega arith)
ids_again (a ∷ (b ∷ ids)) x more all open_ne ne =
    ap ids_at (items_many a b ids (x ∷ more)) ∙ ids_at_again (a ∷ (b ∷ ids)) 0x65 (x ∷ more) all (omega arith)

-- what stands behind a list of numbers
pub behind_ids_again : (ids : List ℕ) (x : ℕ) (more : List ℕ) → x ≢ 0x28 → x ≢ 0x43 → behind_ids (list_of id_text ids ++ x ∷ more) ≡ x ∷ more
behind_ids_again [] x more open_ne ne =
    ap behind_ids_at (items_none x more open_ne)
    ∙ if_false (eqb x 0x43) (behind 1 (ids_left (x ∷ more))) (x ∷ more) (ne_eqb x 0x43 ne)
behind_ids_again (a ∷ []) x more open_ne ne =
    let items : List ℕ = ended (map id_text (a ∷ [])) (0x61 ∷ x ∷ more) in
    ap behind_ids_at (items_one a (x ∷ more))
    ∙ if_true (eqb (byte_in 0 items) 0x43) (behind 1 (ids_left items)) items (eq-eqb (byte_in 0 items) 0x43 (id_head a (0x61 ∷ x ∷ more)))
    ∙ ap (λ (z : List ℕ). behind 1 z) (ids_left_again (a ∷ []) 0x61 (x ∷ more) (omega arith)) ∙ behind_one 0x61 (x ∷ more)
behind_ids_again (a ∷ (b ∷ ids)) x more open_ne ne =
    let items : List ℕ = ended (map id_text (a ∷ (b ∷ ids))) (0x65 ∷ x ∷ more) in
    ap behind_ids_at (items_many a b ids (x ∷ more))
    ∙ if_true (eqb (byte_in 0 items) 0x43) (behind 1 (ids_left items)) items (eq-eqb (byte_in 0 items) 0x43 (id_head a (ended (map id_text (b ∷ ids)) (0x65 ∷ x ∷ more))))
    ∙ ap (λ (z : List ℕ). behind 1 z) (ids_left_again (a ∷ (b ∷ ids)) 0x65 (x ∷ more) (omega arith)) ∙ behind_one 0x65 (x ∷ more)

-- What a client sends is read as it was written.
use Rattle.std.proofs.Common.{◌≡◌, ℕ, ◌^◌, ◌<◌, true, false, ◌&&◌, List, [], ◌∷◌, ◌++◌, Some, length, refl, ap, ◌∙◌, append_assoc, arith}
use Rattle.std.specs.List.{AllByRecursion}
use Rattle.std.proofs.lemmas.Bool.{and_parts, ltb-true}
use Rattle.zeo_messages.specs.declared.call.Call.{Call}
use Rattle.zeo_messages.specs.declared.call.Call.TheVariants as calls
use Rattle.zeo_values.specs.Values.{bytes_text, count_text, id_text, list_of, name_text, tuple_text, IsId}
use Rattle.zeo_messages.specs.Calls.{HoldsCall, arguments_of, fits_call, is_short, method_of}
use Rattle.zeo_values.specs.Leaves.{behind, behind_bytes, bytes_in, count_in, id_in, ids_in, small}
use Rattle.zeo_reading.specs.Loose.{call_in}
use Rattle.zeo_values.specs.ValueLaws.{behind_bytes_again, bytes_again, id_again, small_same}
use Rattle.zeo_values.specs.FormLaws.{count_alone, double_form, single_form}
use Rattle.zeo_values.specs.ListLaws.{ids_again}

pub short_long : (text : List ℕ) → is_short text ≡ true → length text < 2 ^ 32
short_long text h = let less = ltb-true (length text) 65536 h in omega arith

-- a store
stored_form : (n m : ℕ) (bytes tail : List ℕ) → IsId n → IsId m → length bytes < 2 ^ 32
    → let text : List ℕ = tuple_text (id_text n ∷ id_text m ∷ bytes_text bytes ∷ []) ++ tail in
    Some (calls.Storea (id_in text) (id_in (behind 10 text)) (bytes_in (behind 20 text))) ≡ Some (calls.Storea n m bytes)
unfolding behind id_text
stored_form n m bytes tail h k long =
    let text : List ℕ = tuple_text (id_text n ∷ id_text m ∷ bytes_text bytes ∷ []) ++ tail in
    ap (λ (x : ℕ). Some (calls.Storea x (id_in (behind 10 text)) (bytes_in (behind 20 text)))) (id_again n ((id_text m ++ (bytes_text bytes ++ 0x87 ∷ [])) ++ tail) h)
    ∙ ap (λ (y : ℕ). Some (calls.Storea n y (bytes_in (behind 20 text)))) (id_again m ((bytes_text bytes ++ 0x87 ∷ []) ++ tail) k)
    ∙ ap (λ (z : List ℕ). Some (calls.Storea n m z)) (ap bytes_in (append_assoc (bytes_text bytes) (0x87 ∷ []) tail) ∙ bytes_again bytes (0x87 ∷ tail) long)

-- three texts behind each other
three_texts : (a b c tail : List ℕ) → (a ++ (b ++ c)) ++ tail ≡ a ++ (b ++ (c ++ tail))
three_texts a b c tail = append_assoc a (b ++ c) tail ∙ ap (λ (x : List ℕ). a ++ x) (append_assoc b c tail)

begun_form : (u d e tail : List ℕ) → length u < 2 ^ 32 → length d < 2 ^ 32 → length e < 2 ^ 32
    → let text : List ℕ = tuple_text (bytes_text u ∷ bytes_text d ∷ bytes_text e ∷ []) ++ tail in
    Some (calls.TpcBegin (bytes_in text) (bytes_in (behind_bytes text)) (bytes_in (behind_bytes (behind_bytes text)))) ≡ Some (calls.TpcBegin u d e)
begun_form u d e tail hu hd he =
    let last : List ℕ = bytes_text e ++ 0x87 ∷ tail in
    let ends : (bytes_text e ++ 0x87 ∷ []) ++ tail ≡ last = append_assoc (bytes_text e) (0x87 ∷ []) tail in
    let all : tuple_text (bytes_text u ∷ bytes_text d ∷ bytes_text e ∷ []) ++ tail ≡ bytes_text u ++ (bytes_text d ++ last) =
    three_texts (bytes_text u) (bytes_text d) (bytes_text e ++ 0x87 ∷ []) tail ∙ ap (λ (x : List ℕ). bytes_text u ++ (bytes_text d ++ x)) ends in
    let behind_u = behind_bytes_again u (bytes_text d ++ last) hu in
    let behind_d = behind_bytes_again d last hd in
    ap (λ (x : List ℕ). Some (calls.TpcBegin (bytes_in x) (bytes_in (behind_bytes x)) (bytes_in (behind_bytes (behind_bytes x))))) all
    ∙ ap (λ (x : List ℕ). Some (calls.TpcBegin (bytes_in (bytes_text u ++ (bytes_text d ++ last))) (bytes_in x) (bytes_in (behind_bytes x)))) behind_u
    ∙ ap (λ (x : List ℕ). Some (calls.TpcBegin (bytes_in (bytes_text u ++ (bytes_text d ++ last))) (bytes_in (bytes_text d ++ last)) (bytes_in x))) behind_d
    ∙ ap (λ (x : List ℕ). Some (calls.TpcBegin x (bytes_in (bytes_text d ++ last)) (bytes_in last))) (bytes_again u (bytes_text d ++ last) hu)
    ∙ ap (λ (x : List ℕ). Some (calls.TpcBegin u x (bytes_in last))) (bytes_again d last hd)
    ∙ ap (λ (x : List ℕ). Some (calls.TpcBegin u d x)) (bytes_again e (0x87 ∷ tail) he)

undone_form : (u d tail : List ℕ) (tids : List ℕ) → length u < 2 ^ 32 → length d < 2 ^ 32 → AllByRecursion IsId tids
    → let text : List ℕ = tuple_text (bytes_text u ∷ bytes_text d ∷ list_of id_text tids ∷ []) ++ tail in
    Some (calls.Undoa (bytes_in text) (bytes_in (behind_bytes text)) (ids_in (behind_bytes (behind_bytes text)))) ≡ Some (calls.Undoa u d tids)
undone_form u d tail tids hu hd hold =
    let last : List ℕ = list_of id_text tids ++ 0x87 ∷ tail in
    let ends : (list_of id_text tids ++ 0x87 ∷ []) ++ tail ≡ last = append_assoc (list_of id_text tids) (0x87 ∷ []) tail in
    let all : tuple_text (bytes_text u ∷ bytes_text d ∷ list_of id_text tids ∷ []) ++ tail ≡ bytes_text u ++ (bytes_text d ++ last) =
    three_texts (bytes_text u) (bytes_text d) (list_of id_text tids ++ 0x87 ∷ []) tail ∙ ap (λ (x : List ℕ). bytes_text u ++ (bytes_text d ++ x)) ends in
    let behind_u = behind_bytes_again u (bytes_text d ++ last) hu in
    let behind_d = behind_bytes_again d last hd in
    ap (λ (x : List ℕ). Some (calls.Undoa (bytes_in x) (bytes_in (behind_bytes x)) (ids_in (behind_bytes (behind_bytes x))))) all
    ∙ ap (λ (x : List ℕ). Some (calls.Undoa (bytes_in (bytes_text u ++ (bytes_text d ++ last))) (bytes_in x) (ids_in (behind_bytes x)))) behind_u
    ∙ ap (λ (x : List ℕ). Some (calls.Undoa (bytes_in (bytes_text u ++ (bytes_text d ++ last))) (bytes_in (bytes_text d ++ last)) (ids_in x))) behind_d
    ∙ ap (λ (x : List ℕ). Some (calls.Undoa x (bytes_in (bytes_text d ++ last)) (ids_in last))) (bytes_again u (bytes_text d ++ last) hu)
    ∙ ap (λ (x : List ℕ). Some (calls.Undoa u x (ids_in last))) (bytes_again d last hd)
    ∙ ap (λ (x : List ℕ). Some (calls.Undoa u d x)) (ids_again tids 0x87 tail hold (omega arith) (omega arith))

counted_form : (n : ℕ) (tail : List ℕ) → n < 2 ^ 32 → Some (calls.NewOids (small (count_in (tuple_text (count_text n ∷ []) ++ tail)))) ≡ Some (calls.NewOids n)
counted_form n tail h =
    ap (λ (x : ℕ). Some (calls.NewOids (small x))) (count_alone n (0x85 ∷ []) tail (omega arith)) ∙ ap (λ (x : ℕ). Some (calls.NewOids x)) (small_same n h)

since_form : (n m : ℕ) (tail : List ℕ) → IsId n → IsId m
    → let text : List ℕ = tuple_text (id_text n ∷ count_text m ∷ []) ++ tail in
    Some (calls.GetInvalidations (id_in text) (count_in (behind 10 text))) ≡ Some (calls.GetInvalidations n m)
unfolding behind id_text
since_form n m tail h k =
    let text : List ℕ = tuple_text (id_text n ∷ count_text m ∷ []) ++ tail in
    ap (λ (x : ℕ). Some (calls.GetInvalidations x (count_in (behind 10 text)))) (id_again n ((count_text m ++ 0x86 ∷ []) ++ tail) h)
    ∙ ap (λ (y : ℕ). Some (calls.GetInvalidations n y)) (count_alone m (0x86 ∷ []) tail k)

pub call_again : (call : Call) (tail : List ℕ) → HoldsCall call → fits_call call ≡ true
    → call_in (method_of call) (tuple_text (arguments_of call) ++ tail) ≡ Some call
unfolding name_text
call_again (calls.Register false) tail h f = refl
call_again (calls.Register true) tail h f = refl
call_again (calls.LoadBefore oid front) tail h f = double_form (λ x y. Some (calls.LoadBefore x y)) oid front (0x86 ∷ []) tail h.0 h.1
call_again (calls.NewOids count) tail h f = counted_form count tail h
call_again (calls.TpcBegin u d e) tail h f =
    let one = and_parts (is_short u) (is_short d && is_short e) f in
    let two = and_parts (is_short d) (is_short e) one.1 in
    begun_form u d e tail (short_long u one.0) (short_long d two.0) (short_long e two.1)
call_again (calls.Storea oid base bytes) tail h f =
    let parts = and_parts _ _ f in
    stored_form oid base bytes tail h.0 h.1 (ltb-true (length bytes) (2 ^ 32) parts.1)
call_again (calls.DeleteObject oid base) tail h f = double_form (λ x y. Some (calls.DeleteObject x y)) oid base (0x86 ∷ []) tail h.0 h.1
call_again (calls.CheckCurrentSerial oid serial) tail h f = double_form (λ x y. Some (calls.CheckCurrentSerial x y)) oid serial (0x86 ∷ []) tail h.0 h.1
call_again calls.Vote tail h f = refl
call_again (calls.Undoa u d tids) tail h f =
    let one = and_parts (is_short u) _ f in
    let two = and_parts (is_short d) _ one.1 in
    undone_form u d tail tids (short_long u one.0) (short_long d two.0) h
call_again calls.TpcFinish tail h f = refl
call_again calls.TpcAbort tail h f = refl
call_again (calls.History oid) tail h f = single_form (λ x. Some (calls.History x)) oid (0x85 ∷ []) tail h
call_again calls.UndoInfo tail h f = refl
call_again (calls.Pack tid true) tail h f = single_form (λ x. Some (calls.Pack x true)) tid (0x85 ∷ []) tail h
call_again (calls.Pack tid false) tail h f = single_form (λ x. Some (calls.Pack x false)) tid (0x85 ∷ []) tail h
call_again (calls.PackBegin tid true) tail h f = single_form (λ x. Some (calls.PackBegin x true)) tid (0x85 ∷ []) tail h
call_again (calls.PackBegin tid false) tail h f = single_form (λ x. Some (calls.PackBegin x false)) tid (0x85 ∷ []) tail h
call_again calls.PackTurn tail h f = refl
call_again calls.Sync tail h f = refl
call_again calls.LastTransaction tail h f = refl
call_again (calls.GetInvalidations tid changes) tail h f = since_form tid changes tail h.0 h.1

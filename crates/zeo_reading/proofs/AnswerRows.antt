-- Answers that are no lists are read as they were written.
use Rattle.std.proofs.Common.{◌≡◌, ◌≢◌, ℕ, ◌^◌, ◌<◌, eqb, cond, List, [], ◌∷◌, ◌++◌, Option, Some, None, length, refl, sym, ap, subst, ◌∙◌, inl, inr, append_assoc, arith}
use Rattle.std.proofs.lemmas.Bool.{ne_eqb}
use Rattle.zeo_messages.specs.declared.answer.Answer.{Answer}
use Rattle.zeo_messages.specs.declared.answer.Answer.TheVariants as answers
use Rattle.zeo_messages.specs.declared.answer.Stage.{Stage}
use Rattle.zeo_messages.specs.declared.answer.Stage.TheVariants as stages
use Rattle.zeo_values.specs.Values.{bytes_text, byte_in, count_text, id_text, maybe_text, name_text, IsId}
use Rattle.zeo_messages.specs.Answers.{IsMaybeId, value_of}
use Rattle.zeo_values.specs.Leaves.{behind, behind_bytes, behind_count, behind_maybe_id, behind_name, bytes_in, count_in, id_in, maybe_id_in, name_in}
use Rattle.zeo_reading.specs.Loose.{list_in, loaded_in, none_answer, reply_in, tid_answer, turn_in}
use Rattle.zeo_values.specs.ValueLaws.{behind_bytes_again, bytes_again, count_again, id_again, if_false}
use Rattle.zeo_values.specs.FormLaws.{count_alone}

-- a number doesn't begin with this byte
pub count_not : (n : ℕ) (rest : List ℕ) (byte : ℕ) → IsId n → byte ≢ 0x4b → byte ≢ 0x4d → byte ≢ 0x4a → byte ≢ 0x8a → byte_in 0 (count_text n ++ rest) ≢ byte
count_not n rest byte h a b c d e =
    elim ((count_again n rest h).head) [
      | inl x ↦ a (sym e ∙ x)
      | inr more ↦ elim more [ inl x ↦ b (sym e ∙ x) | inr others ↦ elim others [ inl x ↦ c (sym e ∙ x) | inr x ↦ d (sym e ∙ x) ] ]
    ]

-- what a tuple of two numbers begins with
two_counts : (n m : ℕ) (tail : List ℕ) → (count_text n ++ (count_text m ++ 0x86 ∷ [])) ++ tail ≡ count_text n ++ (count_text m ++ 0x86 ∷ tail)
two_counts n m tail = append_assoc (count_text n) (count_text m ++ 0x86 ∷ []) tail ∙ ap (λ (x : List ℕ). count_text n ++ x) (append_assoc (count_text m) (0x86 ∷ []) tail)

counts_form : {T : Type 0} (form : ℕ → ℕ → T) (n m : ℕ) (end tail : List ℕ) → IsId n → IsId m
    → let text : List ℕ = (count_text n ++ (count_text m ++ end)) ++ tail in form (count_in text) (count_in (behind_count text)) ≡ form n m
counts_form form n m end tail h k =
    let rest : List ℕ = count_text m ++ (end ++ tail) in
    let all : (count_text n ++ (count_text m ++ end)) ++ tail ≡ count_text n ++ rest =
    append_assoc (count_text n) (count_text m ++ end) tail ∙ ap (λ (x : List ℕ). count_text n ++ x) (append_assoc (count_text m) end tail) in
    let one = count_again n rest h in
    ap (λ (x : List ℕ). form (count_in x) (count_in (behind_count x))) all
    ∙ ap (λ (x : ℕ). form x (count_in (behind_count (count_text n ++ rest)))) one.number
    ∙ ap (λ (x : List ℕ). form n (count_in x)) one.left
    ∙ ap (λ (x : ℕ). form n x) (count_again m (end ++ tail) k).number

-- the other branches of an answer's first byte
packed_by : (bytes : List ℕ) → byte_in 0 bytes ≢ 0x4e → byte_in 0 bytes ≢ 0x43 → byte_in 0 bytes ≢ 0x28 → byte_in 0 bytes ≢ 0x5d → byte_in 0 bytes ≢ 0x58
    → reply_in bytes ≡ answers.Packed (count_in bytes) (count_in (behind_count bytes))
packed_by bytes a b c d e =
    let packed : Answer = answers.Packed (count_in bytes) (count_in (behind_count bytes)) in
    let fifth : Answer = cond (eqb (byte_in 0 bytes) 0x58) (turn_in (name_in bytes) (behind_name bytes)) packed in
    let fourth : Answer = cond (eqb (byte_in 0 bytes) 0x5d) (list_in bytes) fifth in
    let third : Answer = cond (eqb (byte_in 0 bytes) 0x28) (loaded_in (bytes_in (behind 1 bytes)) (behind_bytes (behind 1 bytes))) fourth in
    let second : Answer = cond (eqb (byte_in 0 bytes) 0x43) (tid_answer bytes) third in
    if_false (eqb (byte_in 0 bytes) 0x4e) (none_answer bytes) second (ne_eqb (byte_in 0 bytes) 0x4e a)
    ∙ if_false (eqb (byte_in 0 bytes) 0x43) (tid_answer bytes) third (ne_eqb (byte_in 0 bytes) 0x43 b)
    ∙ if_false (eqb (byte_in 0 bytes) 0x28) (loaded_in (bytes_in (behind 1 bytes)) (behind_bytes (behind 1 bytes))) fourth (ne_eqb (byte_in 0 bytes) 0x28 c)
    ∙ if_false (eqb (byte_in 0 bytes) 0x5d) (list_in bytes) fifth (ne_eqb (byte_in 0 bytes) 0x5d d)
    ∙ if_false (eqb (byte_in 0 bytes) 0x58) (turn_in (name_in bytes) (behind_name bytes)) packed (ne_eqb (byte_in 0 bytes) 0x58 e)

pub packed_again : (kept dropped : ℕ) (tail : List ℕ) → IsId kept → IsId dropped → reply_in (value_of (answers.Packed kept dropped) ++ tail) ≡ answers.Packed kept dropped
packed_again kept dropped tail h k =
    let rest : List ℕ = count_text dropped ++ 0x86 ∷ tail in
    let others : (byte : ℕ) → byte ≢ 0x4b → byte ≢ 0x4d → byte ≢ 0x4a → byte ≢ 0x8a → byte_in 0 (count_text kept ++ rest) ≢ byte = λ byte a b c d. count_not kept rest byte h a b c d in
    ap reply_in (two_counts kept dropped tail)
    ∙ packed_by (count_text kept ++ rest) (others 0x4e (omega arith) (omega arith) (omega arith) (omega arith)) (others 0x43 (omega arith) (omega arith) (omega arith) (omega arith))
    (others 0x28 (omega arith) (omega arith) (omega arith) (omega arith)) (others 0x5d (omega arith) (omega arith) (omega arith) (omega arith))
    (others 0x58 (omega arith) (omega arith) (omega arith) (omega arith))
    ∙ ap (λ (x : List ℕ). answers.Packed (count_in x) (count_in (behind_count x))) (sym (two_counts kept dropped tail))
    ∙ counts_form (λ x y. answers.Packed x y) kept dropped (0x86 ∷ []) tail h k

-- a number behind None, and behind a number of a transaction
pub nothing_again : (switches : ℕ) (tail : List ℕ) → IsId switches → reply_in (value_of (answers.Nothing switches) ++ tail) ≡ answers.Nothing switches
unfolding behind
nothing_again switches tail h =
    let rest : List ℕ = (count_text switches ++ 0x86 ∷ []) ++ tail in
    let other : byte_in 0 rest ≢ 0x74 =
    subst (λ (x : List ℕ). byte_in 0 x ≢ 0x74) (sym (append_assoc (count_text switches) (0x86 ∷ []) tail))
    (count_not switches (0x86 ∷ tail) 0x74 h (omega arith) (omega arith) (omega arith) (omega arith)) in
    if_false (eqb (byte_in 0 rest) 0x74) answers.Done (answers.Nothing (count_in rest)) (ne_eqb (byte_in 0 rest) 0x74 other)
    ∙ ap (λ (x : ℕ). answers.Nothing x) (count_alone switches (0x86 ∷ []) tail h)

pub tid_and_count_again : (tid count : ℕ) (tail : List ℕ) → IsId tid → IsId count → reply_in (value_of (answers.TidAndCount tid count) ++ tail) ≡ answers.TidAndCount tid count
unfolding behind id_text
tid_and_count_again tid count tail h k =
    let rest : List ℕ = (count_text count ++ 0x86 ∷ []) ++ tail in
    let text : List ℕ = value_of (answers.TidAndCount tid count) ++ tail in
    let other : byte_in 0 rest ≢ 0x74 =
    subst (λ (x : List ℕ). byte_in 0 x ≢ 0x74) (sym (append_assoc (count_text count) (0x86 ∷ []) tail))
    (count_not count (0x86 ∷ tail) 0x74 k (omega arith) (omega arith) (omega arith) (omega arith)) in
    if_false (eqb (byte_in 0 rest) 0x74) (answers.OneTid (id_in text)) (answers.TidAndCount (id_in text) (count_in rest)) (ne_eqb (byte_in 0 rest) 0x74 other)
    ∙ ap (λ (x : ℕ). answers.TidAndCount x (count_in rest)) (id_again tid rest h)
    ∙ ap (λ (y : ℕ). answers.TidAndCount tid y) (count_alone count (0x86 ∷ []) tail k)

-- a revision
end_again : (end : Option ℕ) (rest : List ℕ) → IsMaybeId end → maybe_id_in (maybe_text id_text end ++ rest) ≡ end
unfolding id_text
end_again None rest h = refl
end_again (Some n) rest h = ap (λ (x : ℕ). Some x) (id_again n rest h)

behind_end : (end : Option ℕ) (rest : List ℕ) → behind_maybe_id (maybe_text id_text end ++ rest) ≡ rest
unfolding behind id_text
behind_end None rest = refl
behind_end (Some n) rest = refl

loaded_again : (bytes : List ℕ) (serial upto : ℕ) (end : Option ℕ) (tail : List ℕ) → IsId serial → IsMaybeId end → IsId upto
    → loaded_in bytes (id_text serial ++ (maybe_text id_text end ++ (id_text upto ++ tail))) ≡ answers.Loaded bytes serial end upto
unfolding behind id_text
loaded_again bytes serial upto end tail h k l =
    let rest : List ℕ = maybe_text id_text end ++ (id_text upto ++ tail) in
    ap (λ (x : ℕ). answers.Loaded bytes x (maybe_id_in rest) (id_in (behind_maybe_id rest))) (id_again serial rest h)
    ∙ ap (λ (x : Option ℕ). answers.Loaded bytes serial x (id_in (behind_maybe_id rest))) (end_again end (id_text upto ++ tail) k)
    ∙ ap (λ (x : ℕ). answers.Loaded bytes serial end x) (ap id_in (behind_end end (id_text upto ++ tail)) ∙ id_again upto tail l)

pub revision_again : (bytes : List ℕ) (serial upto : ℕ) (end : Option ℕ) (tail : List ℕ) → length bytes < 2 ^ 32 → IsId serial → IsMaybeId end → IsId upto
    → reply_in (value_of (answers.Loaded bytes serial end upto) ++ tail) ≡ answers.Loaded bytes serial end upto
unfolding behind
revision_again bytes serial upto end tail long h k l =
    let rest : List ℕ = id_text serial ++ (maybe_text id_text end ++ (id_text upto ++ 0x74 ∷ tail)) in
    let ends : (id_text serial ++ (maybe_text id_text end ++ (id_text upto ++ 0x74 ∷ []))) ++ tail ≡ rest =
    append_assoc (id_text serial) (maybe_text id_text end ++ (id_text upto ++ 0x74 ∷ [])) tail
    ∙ ap (λ (x : List ℕ). id_text serial ++ x) (append_assoc (maybe_text id_text end) (id_text upto ++ 0x74 ∷ []) tail
    ∙ ap (λ (x : List ℕ). maybe_text id_text end ++ x) (append_assoc (id_text upto) (0x74 ∷ []) tail)) in
    let all : (bytes_text bytes ++ (id_text serial ++ (maybe_text id_text end ++ (id_text upto ++ 0x74 ∷ [])))) ++ tail ≡ bytes_text bytes ++ rest =
    append_assoc (bytes_text bytes) (id_text serial ++ (maybe_text id_text end ++ (id_text upto ++ 0x74 ∷ []))) tail ∙ ap (λ (x : List ℕ). bytes_text bytes ++ x) ends in
    ap (λ (x : List ℕ). loaded_in (bytes_in x) (behind_bytes x)) all
    ∙ ap (λ (x : List ℕ). loaded_in x (behind_bytes (bytes_text bytes ++ rest))) (bytes_again bytes rest long)
    ∙ ap (λ (x : List ℕ). loaded_in bytes x) (behind_bytes_again bytes rest long)
    ∙ loaded_again bytes serial upto end (0x74 ∷ tail) h k l

-- one number, and turns of a pack
pub tid_again : (tid : ℕ) (tail : List ℕ) → IsId tid → reply_in (value_of (answers.OneTid tid) ++ 0x74 ∷ tail) ≡ answers.OneTid tid
unfolding id_text
tid_again tid tail h = ap (λ (x : ℕ). answers.OneTid x) (id_again tid (0x74 ∷ tail) h)

pub turned_again : (stage : Stage) (count : ℕ) (tail : List ℕ) → IsId count → reply_in (value_of (answers.Turned stage count) ++ tail) ≡ answers.Turned stage count
unfolding name_in behind_name name_text
turned_again stages.Marking count tail h = ap (λ (x : ℕ). answers.Turned stages.Marking x) (count_alone count (0x86 ∷ []) tail h)
turned_again stages.Marked count tail h = ap (λ (x : ℕ). answers.Turned stages.Marked x) (count_alone count (0x86 ∷ []) tail h)
turned_again stages.Copying count tail h = ap (λ (x : ℕ). answers.Turned stages.Copying x) (count_alone count (0x86 ∷ []) tail h)
turned_again stages.Copied count tail h = ap (λ (x : ℕ). answers.Turned stages.Copied x) (count_alone count (0x86 ∷ []) tail h)

pub switched_again : (kept dropped : ℕ) (tail : List ℕ) → IsId kept → IsId dropped → reply_in (value_of (answers.Switched kept dropped) ++ tail) ≡ answers.Switched kept dropped
unfolding name_in behind_name name_text
switched_again kept dropped tail h k = counts_form (λ x y. answers.Switched x y) kept dropped (0x87 ∷ []) tail h k

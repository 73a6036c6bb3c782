-- Numbers that stand one behind the other are read as they were written.
use Rattle.std.proofs.Common.{◌≡◌, ℕ, List, ◌++◌, ap, ◌∙◌, append_assoc}
use Rattle.zeo_values.specs.Values.{count_text, id_text, IsId}
use Rattle.zeo_values.specs.Leaves.{behind, count_in, id_in}
use Rattle.zeo_values.specs.ValueLaws.{count_again, id_again}

-- one number of an object or of a transaction, two, and three
pub single_form : {T : Type 0} (form : ℕ → T) (n : ℕ) (end tail : List ℕ) → IsId n → form (id_in ((id_text n ++ end) ++ tail)) ≡ form n
unfolding id_text
single_form form n end tail h = ap (λ (x : ℕ). form x) (id_again n (end ++ tail) h)

pub double_form : {T : Type 0} (form : ℕ → ℕ → T) (n m : ℕ) (end tail : List ℕ) → IsId n → IsId m
    → form (id_in ((id_text n ++ (id_text m ++ end)) ++ tail)) (id_in (behind 10 ((id_text n ++ (id_text m ++ end)) ++ tail))) ≡ form n m
unfolding behind id_text
double_form form n m end tail h k =
    ap (λ (x : ℕ). form x (id_in (behind 10 ((id_text n ++ (id_text m ++ end)) ++ tail)))) (id_again n ((id_text m ++ end) ++ tail) h)
    ∙ ap (λ (y : ℕ). form n y) (id_again m (end ++ tail) k)

pub triple_form : {T : Type 0} (form : ℕ → ℕ → ℕ → T) (n m k : ℕ) (end tail : List ℕ) → IsId n → IsId m → IsId k
    → let text : List ℕ = (id_text n ++ (id_text m ++ (id_text k ++ end))) ++ tail in
    form (id_in text) (id_in (behind 10 text)) (id_in (behind 20 text)) ≡ form n m k
unfolding behind id_text
triple_form form n m k end tail h i j =
    let text : List ℕ = (id_text n ++ (id_text m ++ (id_text k ++ end))) ++ tail in
    ap (λ (x : ℕ). form x (id_in (behind 10 text)) (id_in (behind 20 text))) (id_again n ((id_text m ++ (id_text k ++ end)) ++ tail) h)
    ∙ ap (λ (y : ℕ). form n y (id_in (behind 20 text))) (id_again m ((id_text k ++ end) ++ tail) i)
    ∙ ap (λ (z : ℕ). form n m z) (id_again k (end ++ tail) j)

-- a number with an end behind it
pub count_alone : (n : ℕ) (end tail : List ℕ) → IsId n → count_in ((count_text n ++ end) ++ tail) ≡ n
count_alone n end tail h = ap count_in (append_assoc (count_text n) end tail) ∙ (count_again n (end ++ tail) h).number

-- Lines that begin with a word.
use Rattle.std.proofs.Common.{◌≡◌, ℕ, Bool, true, false, List, [], ◌∷◌, ◌++◌, Option, Some, None, refl, sym, ap, subst, ◌∙◌, arith, inl, inr}
use Rattle.std.specs.Prelude.{◌⊎◌, codes}
use Rattle.zb_ids.specs.Hex.{hex_number}
use Rattle.literal_reading.specs.Reading.{if_some}
use Rattle.zb_script.specs.declared.line.Line.{Line}
use Rattle.zb_script.specs.Spelling.{IsNumbered, IsPaired, IsPackText, collecting_text, IsLineText}
use Rattle.zb_script.specs.Reading.{behind_word, line_at}
use Rattle.zb_script.proofs.Froms.{From, From-append, From-weaker, from_test, number_from}
use Rattle.zb_script.proofs.FieldLaws.{behind_takes}

which : {A B : Type 0} (o : Option A) (f : A → Option B) (other : Option B) (y : B) → if_some o f other ≡ Some y → ((x : A) × (o ≡ Some x) × (f x ≡ Some y)) ⊎ (other ≡ Some y)
which (Some x) f other y e = inl (x, refl, e)
which None f other y e = inr e

-- a line that begins with a word, or another one
pub begun_takes : (word bytes : List ℕ) (read : List ℕ → Option Line) (other : Option Line) (l : Line) → if_some (behind_word word bytes) read other ≡ Some l
    → ((rest : List ℕ) → read rest ≡ Some l → IsLineText (word ++ rest) l) → (other ≡ Some l → IsLineText bytes l) → IsLineText bytes l
begun_takes word bytes read other l e takes then =
    elim (which (behind_word word bytes) read other l e) [
      | inl begun ↦ subst (λ (x : List ℕ). IsLineText x l) (sym (behind_takes word bytes begun.0 begun.1)) (takes begun.0 begun.2)
      | inr further ↦ then further
    ]

-- the same text is read the same
pub word_again : (l : Line) (text word : List ℕ) → text ≡ word → line_at word ≡ Some l → line_at text ≡ Some l
word_again l text word is read = ap line_at is ∙ read

pub numbered_from : (word : List ℕ) (n : ℕ) (text : List ℕ) → From 32 word → IsNumbered text word n → From 32 text
numbered_from word n text high h = subst (From 32) (sym h.is) (From-append 32 word (hex_number n) high (From-weaker 48 32 _ (omega arith) (number_from n)))

-- a number ahead of a blank
pub field_from : (n : ℕ) (rest : List ℕ) → From 32 rest → From 32 (hex_number n ++ 32 ∷ rest)
field_from n rest high = From-append 32 (hex_number n) (32 ∷ rest) (From-weaker 48 32 _ (omega arith) (number_from n)) (omega arith, high)

pub paired_from : (word : List ℕ) (m n : ℕ) (text : List ℕ) → From 32 word → IsPaired text word m n → From 32 text
paired_from word m n text high h = subst (From 32) (sym h.is) (From-append 32 word _ high (field_from m _ (From-weaker 48 32 _ (omega arith) (number_from n))))

collecting_from : (collect : Bool) → From 32 (collecting_text collect)
collecting_from true = from_test 32 [] refl
collecting_from false = from_test 32 (codes " nogc") refl

pub pack_from : (word : List ℕ) (tid : ℕ) (collect : Bool) (text : List ℕ) → From 32 word → IsPackText text word tid collect → From 32 text
pack_from word tid collect text high h =
    subst (From 32) (sym h.is) (From-append 32 word _ high (From-append 32 (hex_number tid) _ (From-weaker 48 32 _ (omega arith) (number_from tid)) (collecting_from collect)))

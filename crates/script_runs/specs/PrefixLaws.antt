-- Prefixes of texts that stand one behind another.
use Rattle.std.specs.Prelude.{Result, Ok, Err, OnErr, OnOk, ◌∷◌}
use Rattle.std.proofs.Common.{◌≡◌, ℕ, List, [], ◌++◌, Option, append-nil, append_assoc, refl, sym, ap, subst, ◌∙◌}
use Rattle.std.proofs.KnownBytes.{Appends-trans}
use Rattle.std.proofs.lemmas.Grind.{flat_map-append}
use Rattle.script_runs.specs.Texts.{joined}
use Rattle.std.specs.Io.KnownBytes.{Appends}
use Rattle.zb_outside.specs.Written.{AppendsPrefix}
use Rattle.zb_base.specs.Counts.{Rose}
use Rattle.zb_outside.specs.WrittenLaws.{all_front, front_more}
use Rattle.script_runs.specs.Written.{IsWritten}

-- a prefix of what follows a text is a prefix of both
pub behind_prefix : (a b c : Option (List ℕ)) (here rest : List ℕ) → Appends a b here → AppendsPrefix b c rest → AppendsPrefix a c (here ++ rest)
behind_prefix a b c here rest first front =
    front_more a b c (here ++ rest) rest [] rest (record { front = here; split = refl; appended = first }) (sym (append-nil rest)) front

-- a prefix of a text is a prefix of it with more behind it
pub prefix_before : (a b : Option (List ℕ)) (here rest : List ℕ) → AppendsPrefix a b here → AppendsPrefix a b (here ++ rest)
prefix_before a b here rest front = record {
  rest = front.rest ++ rest;
  before = record {
    front = front.before.front;
    split = ap (λ (text : List ℕ). text ++ rest) front.before.split ∙ append_assoc front.before.front front.rest rest;
    appended = front.before.appended;
  };
}

joined-append : (a b : List (List ℕ)) → joined (a ++ b) ≡ joined a ++ joined b
joined-append a b = flat_map-append (λ (l : List ℕ). l) a b

-- lines, and then more
pub both_lines : (a b c : Option (List ℕ)) (lines more : List (List ℕ)) → Appends a b (joined lines) → Appends b c (joined more) → Appends a c (joined (lines ++ more))
both_lines a b c lines more first second = subst (Appends a c) (sym (joined-append lines more)) (Appends-trans a b c (joined lines) (joined more) first second)

pub first_prefix : (a b : Option (List ℕ)) (lines more : List (List ℕ)) → AppendsPrefix a b (joined lines) → AppendsPrefix a b (joined (lines ++ more))
first_prefix a b lines more front = subst (AppendsPrefix a b) (sym (joined-append lines more)) (prefix_before a b (joined lines) (joined more) front)

pub second_prefix : (a b c : Option (List ℕ)) (lines more : List (List ℕ)) → Appends a b (joined lines) → AppendsPrefix b c (joined more) → AppendsPrefix a c (joined (lines ++ more))
second_prefix a b c lines more first front = subst (AppendsPrefix a c) (sym (joined-append lines more)) (behind_prefix a b c (joined lines) (joined more) first front)

-- lines that were written, and then, where that went well, more
pub both_ok : {T E : Type 0} (r : Result T E) (a b c : Option (List ℕ)) (lines more : List (List ℕ)) → Appends a b (joined lines) → OnOk r (Appends b c (joined more)) → OnOk r (Appends a c (joined (lines ++ more)))
both_ok (Ok x) a b c lines more first second = both_lines a b c lines more first second
both_ok (Err e) a b c lines more first second = tt

-- the same of lines and a last text
one_text : (text : List ℕ) → text ≡ joined (text ∷ [])
one_text text = sym (append-nil text)

pub text_ok : {T E : Type 0} (r : Result T E) (a b c : Option (List ℕ)) (lines : List (List ℕ)) (text : List ℕ) → Appends a b (joined lines) → OnOk r (Appends b c text) → OnOk r (Appends a c (joined (lines ++ text ∷ [])))
text_ok (Ok x) a b c lines text first second = both_lines a b c lines (text ∷ []) first (subst (Appends b c) (one_text text) second)
text_ok (Err e) a b c lines text first second = tt

pub text_err : {T E : Type 0} (r : Result T E) (a b c : Option (List ℕ)) (lines : List (List ℕ)) (text : List ℕ) → Appends a b (joined lines) → OnErr r (AppendsPrefix b c text) → OnErr r (AppendsPrefix a c (joined (lines ++ text ∷ [])))
text_err (Ok x) a b c lines text first second = tt
text_err (Err e) a b c lines text first second = second_prefix a b c lines (text ∷ []) first (subst (AppendsPrefix b c) (one_text text) second)

-- what was written of lines and a last text, whatever became of it
pub said_behind : {T E : Type 0} (w : Result T E) (old new : Option (List ℕ)) (before now : ℕ) (lines : List (List ℕ)) (text : List ℕ) → OnOk w (Appends old new (joined (lines ++ text ∷ []))) → OnErr w (AppendsPrefix old new (joined (lines ++ text ∷ [])))
    → OnErr w (Rose before now) → IsWritten old new before now (joined lines ++ text)
said_behind {T = T} {E = E} w old new before now lines text ok err failed = subst (IsWritten old new before now) (joined-append lines (text ∷ []) ∙ ap (λ (x : List ℕ). joined lines ++ x) (append-nil text)) (by_result w ok err failed)
  where
    by_result : (w : Result T E) → OnOk w (Appends old new (joined (lines ++ text ∷ []))) → OnErr w (AppendsPrefix old new (joined (lines ++ text ∷ []))) → OnErr w (Rose before now) → IsWritten old new before now (joined (lines ++ text ∷ []))
    by_result (Ok x) ok err failed = record { prefix = all_front old new _ ok; whole = λ calm. ok }
    by_result (Err e) ok err failed = record { prefix = err; whole = λ calm. absurd (calm failed) }

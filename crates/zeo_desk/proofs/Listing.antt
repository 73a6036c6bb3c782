-- Lists of answers.
use Rattle.std.proofs.Common.{◌≡◌, ℕ, ◌+◌, ◌<◌, ◌≤◌, ◌^◌, List, [], ◌∷◌, ◌++◌, refl, sym, add-one, append-nil}
use Rattle.std.proofs.lemmas.Bool.{lt-ltb, le-ltb}
use Rattle.zeo_messages.specs.declared.answer.Answer.{Answer}
use Rattle.zeo_messages.specs.declared.answer.Answer.TheVariants as answers
use Rattle.zeo_desk.specs.Answering.{listed, number_alone, oids_from}

pub listed_none : {T : Type 0} (form : List T → Answer) (list : List T) → list ≡ [] → listed form list ≡ answers.EmptyList
listed_none form list e = rw e refl

pub listed_some : {T : Type 0} (form : List T → Answer) (list : List T) → (list ≡ [] → ⊥) → listed form list ≡ form list
listed_some form [] h = absurd (h refl)
listed_some form (x ∷ list) h = refl

-- one number more
pub one_more : (i first : ℕ) → oids_from (i + 1) first ≡ oids_from i first ++ number_alone (first + i)
one_more i first = rw add-one refl

pub number_told : (oids : List ℕ) (n : ℕ) → n < 2 ^ 64 → oids ++ n ∷ [] ≡ oids ++ number_alone n
number_told oids n h = rw (lt-ltb n (2 ^ 64) h) refl

pub number_left_out : (oids : List ℕ) (n : ℕ) → 2 ^ 64 ≤ n → oids ≡ oids ++ number_alone n
number_left_out oids n h = rw (le-ltb n (2 ^ 64) h) (sym (append-nil oids))

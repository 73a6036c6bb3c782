-- What several writes or reads do to known bytes, as one.
use Rattle.std.proofs.Common.{refl, [], append-nil, append_assoc, take-append-drop, ◌≡◌, ℕ, ◌+◌, ◌-◌, ◌≤◌, List, ◌++◌, length, take, drop, Option, sym, ap, ◌∙◌, subst, take-add, arith, length-append, length-take}
use Rattle.std.specs.Prelude.{Result, Ok, Err, IfOk}
use Rattle.std.proofs.lemmas.List.{take_rest, take-take}
use Rattle.std.specs.Io.KnownBytes.{Appends, Consumes, Keeps, WriteAppends}
use Rattle.std.proofs.KnownBytes.{Appends-trans, Appends-kept, Appends-nil, Consumes-trans}
use Rattle.zb_outside.specs.Written.{AppendsPrefix, AppendsBefore}

-- ---- one text, in pieces

-- a front, and then a front of the rest, is a longer front
pub appends_more : (a b c : Option (List ℕ)) (bytes : List ℕ) (n m : ℕ) → Appends a b (take n bytes)
    → Appends b c (take m (take (length bytes - n) (drop n bytes))) → Appends a c (take (n + m) bytes)
appends_more a b c bytes n m p q =
    subst (Appends a c) (ap (λ (l : List ℕ). take n bytes ++ take m l) (take_rest bytes n) ∙ sym (take-add n m bytes)) (Appends-trans a b c _ _ p q)

-- what was taken of a piece was taken of the whole
pub appends_within : {E : Type 0} (r : Result ℕ E) (a b : Option (List ℕ)) (bytes : List ℕ) (m : ℕ) → IfOk r (λ n. n ≤ length (take m bytes)) → WriteAppends a b r (take m bytes) → WriteAppends a b r bytes
appends_within (Ok n) a b bytes m fits written = subst (Appends a b) (take-take n m bytes (omega (arith, fits, length-take m bytes))) written
appends_within (Err e) a b bytes m fits kept = kept

-- a front, and then nothing, is a front
pub front_kept : (a b c : Option (List ℕ)) (bytes : List ℕ) (n : ℕ) → Appends a b (take n bytes) → Keeps b c → AppendsPrefix a c bytes
front_kept a b c bytes n p q =
    record { rest = drop n bytes; before = record { front = take n bytes; split = sym (take-append-drop n bytes); appended = Appends-kept a b c _ p q } }

-- ---- a text made of several

-- nothing was written yet
pub none_before : (a : Option (List ℕ)) (whole : List ℕ) → AppendsBefore a a whole whole
none_before a whole = record { front = []; split = refl; appended = Appends-nil a }

-- what comes next was written too
pub more_before : (a b c : Option (List ℕ)) (whole here rest both : List ℕ) → AppendsBefore a b whole both → both ≡ here ++ rest
    → Appends b c here → AppendsBefore a c whole rest
more_before a b c whole here rest both p e q =
    record { front = p.front ++ here; split = p.split ∙ ap (λ (l : List ℕ). p.front ++ l) e ∙ sym (append_assoc p.front here rest); appended = Appends-trans a b c p.front here p.appended q }

-- all that was left was written
pub all_before : (a b c : Option (List ℕ)) (whole here : List ℕ) → AppendsBefore a b whole here → Appends b c here → Appends a c whole
all_before a b c whole here p q = subst (Appends a c) (sym p.split) (Appends-trans a b c p.front here p.appended q)

-- a front of what comes next was written
pub front_more : (a b c : Option (List ℕ)) (whole here rest both : List ℕ) → AppendsBefore a b whole both → both ≡ here ++ rest
    → AppendsPrefix b c here → AppendsPrefix a c whole
front_more a b c whole here rest both p e q =
    record { rest = q.rest ++ rest; before = record { front = p.front ++ q.before.front; split = p.split ∙ ap (λ (l : List ℕ). p.front ++ l) (e ∙ ap (λ (l : List ℕ). l ++ rest) q.before.split) ∙ simp append_assoc; appended = Appends-trans a b c p.front q.before.front p.appended q.before.appended } }

-- a front of all that was left was written
pub last_front : (a b c : Option (List ℕ)) (whole here last : List ℕ) → AppendsBefore a b whole last → last ≡ here
    → AppendsPrefix b c here → AppendsPrefix a c whole
last_front a b c whole here last p e q = front_more a b c whole here [] last p (e ∙ sym (append-nil here)) q

-- all of a text is a front of it
pub all_front : (a b : Option (List ℕ)) (whole : List ℕ) → Appends a b whole → AppendsPrefix a b whole
all_front a b whole p = record { rest = []; before = record { front = whole; split = sym (append-nil whole); appended = p } }

-- nothing is a front of every text
pub no_front : (a : Option (List ℕ)) (whole : List ℕ) → AppendsPrefix a a whole
no_front a whole = record { rest = whole; before = none_before a whole }

-- ---- reads

-- what was read before, and one read more, within a bound
pub taken_more : (a b c : Option (List ℕ)) (bytes out : List ℕ) (n most : ℕ) → Consumes a b bytes → Consumes b c (take n out)
    → length bytes + n ≤ most → (all : List ℕ) × Consumes a c all × (length all ≤ most)
taken_more a b c bytes out n most p q h =
    (bytes ++ take n out, Consumes-trans a b c bytes _ p q, grind (arith, length-append bytes (take n out), length-take n out))

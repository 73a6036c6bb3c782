-- Tokens that are alike, and what a reader makes of them.
use Rattle.std.proofs.Common.{◌≡◌, ℕ, ◌+◌, ℤ, List, [], ◌∷◌, ◌++◌, length, Result, Ok, Err, ◌⊎◌, inl, refl, sym, ◌∙◌, ap, subst}
use Rattle.pickle_ops.specs.declared.table.Op.{Op}
use Rattle.pickle_ops.specs.declared.table.Op.TheVariants as ops
use Rattle.pickle_reading.specs.declared.error.PickleError.{PickleError}
use Rattle.pickle_reading.specs.Reading.{Reader, go_on}
use Rattle.zb_record.proofs.Tokens.{Tok, texts, texts_append, run}

-- a token of eight bytes
pub record OfEight (op : Op) (one other : List ℕ) : Type 0 where
  pub op_is : op ≡ ops.ShortBinBytes
  pub first : length one ≡ 8
  pub second : length other ≡ 8

-- the same bytes, or eight in a token of eight
abbrev pub HeldAlike : Op → List ℕ → List ℕ → Type 0
HeldAlike op one other = (one ≡ other) ⊎ OfEight op one other

pub record TokAlike (t u : Tok) : Type 0 where
  pub op : t.op ≡ u.op
  pub number : t.number ≡ u.number
  pub held : HeldAlike t.op t.held u.held

abbrev pub ToksAlike : List Tok → List Tok → Type 0
ToksAlike [] [] = Unit {0}
ToksAlike (t ∷ ts) (u ∷ us) = TokAlike t u × ToksAlike ts us
ToksAlike _ _ = ⊥

-- texts whose tokens are alike
pub record TextsAlike (one other : List ℕ) : Type 0 where
  pub ts : List Tok
  pub us : List Tok
  pub first : one ≡ texts ts
  pub second : other ≡ texts us
  pub alike : ToksAlike ts us

pub tok_same : (t : Tok) → TokAlike t t
tok_same t = record { op = refl; number = refl; held = inl refl }

pub toks_append : (ts us vs ws : List Tok) → ToksAlike ts us → ToksAlike vs ws → ToksAlike (ts ++ vs) (us ++ ws)
toks_append [] [] vs ws h g = g
toks_append (t ∷ ts) (u ∷ us) vs ws h g = (h.0, toks_append ts us vs ws h.1 g)
toks_append [] (u ∷ us) vs ws h g = absurd h
toks_append (t ∷ ts) [] vs ws h g = absurd h

pub texts_none : TextsAlike [] []
texts_none = record { ts = []; us = []; first = refl; second = refl; alike = tt }

pub texts_then : (a b c d : List ℕ) → TextsAlike a b → TextsAlike c d → TextsAlike (a ++ c) (b ++ d)
texts_then a b c d h g = record {
  ts = h.ts ++ g.ts;
  us = h.us ++ g.us;
  first = (λ i. h.first i ++ g.first i) ∙ sym (texts_append h.ts g.ts);
  second = (λ i. h.second i ++ g.second i) ∙ sym (texts_append h.us g.us);
  alike = toks_append h.ts h.us g.ts g.us h.alike g.alike;
}

append_none : (xs : List ℕ) → xs ≡ xs ++ []
append_none [] = refl
append_none (x ∷ xs) = ap (λ ys. x ∷ ys) (append_none xs)

pub texts_one : (t u : Tok) (a b : List ℕ) → t.text ≡ a → u.text ≡ b → TokAlike t u → TextsAlike a b
texts_one t u a b e f h = record {
  ts = t ∷ [];
  us = u ∷ [];
  first = sym e ∙ append_none t.text;
  second = sym f ∙ append_none u.text;
  alike = (h, tt);
}

-- ---- outcomes

-- both give something, of which this holds, or both refuse
abbrev pub BothOr : {A : Type 0} → (A → A → Type 0) → Result A PickleError → Result A PickleError → Type 0
BothOr F (Ok a) (Ok b) = F a b
BothOr F (Err d) (Err e) = Unit {0}
BothOr F _ _ = ⊥

module _ {S X : Type 0} (r : Reader S X) (R : S → S → Type 0) (F : X → X → Type 0)
    (turn : (op : Op) (at at' : ℕ) (number : ℤ) (one other : List ℕ) (s s' : S) → HeldAlike op one other → R s s' → BothOr R (r.turn op at number one s) (r.turn op at' number other s'))
    (finish : (at at' next next' : ℕ) (s s' : S) → R s s' → BothOr F (r.finish at next s) (r.finish at' next' s')) where
  on_both : (a b : Result S PickleError) (f g : S → Result X PickleError) → BothOr R a b → ((s s' : S) → R s s' → BothOr F (f s) (g s')) → BothOr F (go_on f a) (go_on g b)
  on_both (Ok s) (Ok s') f g h more = more s s' h
  on_both (Err d) (Err e) f g h more = tt
  on_both (Ok s) (Err e) f g h more = absurd h
  on_both (Err d) (Ok s') f g h more = absurd h

  turn_alike : (t u : Tok) (at at' : ℕ) (s s' : S) → TokAlike t u → R s s' → BothOr R (r.turn t.op at t.number t.held s) (r.turn u.op at' u.number u.held s')
  turn_alike t u at at' s s' h k =
      subst (λ (n : ℤ). BothOr R (r.turn t.op at t.number t.held s) (r.turn u.op at' n u.held s')) h.number
      (subst (λ (o : Op). BothOr R (r.turn t.op at t.number t.held s) (r.turn o at' t.number u.held s')) h.op
      (turn t.op at at' t.number t.held u.held s s' h.held k))

  -- alike tokens are read alike, at any places
  pub runs_alike : (ts us : List Tok) (s s' : S) (at at' : ℕ) → ToksAlike ts us → R s s' → BothOr F (run r ts s at) (run r us s' at')
  runs_alike [] [] s s' at at' h k = finish at at' (at + 1) (at' + 1) s s' k
  runs_alike (t ∷ ts) (u ∷ us) s s' at at' h k =
      on_both (r.turn t.op at t.number t.held s) (r.turn u.op at' u.number u.held s') (λ s₁. run r ts s₁ (at + length t.text)) (λ s₁. run r us s₁ (at' + length u.text))
      (turn_alike t u at at' s s' h.0 k) (λ s₁ s₂ l. runs_alike ts us s₁ s₂ (at + length t.text) (at' + length u.text) h.1 l)
  runs_alike [] (u ∷ us) s s' at at' h k = absurd h
  runs_alike (t ∷ ts) [] s s' at at' h k = absurd h

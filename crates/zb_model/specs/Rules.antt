-- What a database is told of the bytes that it keeps. Source: conflict resolution of ZODB.
use Rattle.std.specs.Prelude.{◌≡◌, refl, ◌<◌, ℕ, List, Bool, false, Result, Ok, Err, length}
use Rattle.zb_model.specs.declared.refusal.Why.{Why}
use Rattle.zb_model.specs.declared.refusal.Why.TheVariants as why

-- whether stored bytes are of a class with a rule of merging; and what its rule makes of old, committed and stored bytes, which is never empty, or why it makes nothing
pub record MergeRules : Type 0 where
  pub has_rule : List ℕ → Bool
  pub merged : List ℕ → List ℕ → List ℕ → Result (List ℕ) Why
  pub filled : (old committed stored bytes : List ℕ) → merged old committed stored ≡ Ok bytes → 0 < length bytes

pub none_made : (made : Result (List ℕ) Why) (bytes : List ℕ) → made ≡ Err why.NoRule → made ≡ Ok bytes → 0 < length bytes
none_made made bytes refused is = absurd cc

-- no class has a rule
abbrev pub no_rules : MergeRules
no_rules = record { has_rule = λ stored. false; merged = λ old committed stored. Err why.NoRule; filled = λ old committed stored bytes is. none_made (Err why.NoRule) bytes refl is }

-- Lists of which one more item was looked at.
use Rattle.std.proofs.Common.{ℕ, ◌+◌, ◌<◌, List, [], ◌∷◌, ◌++◌, take, length, get_or, sym, subst}
use Rattle.std.specs.List.{AllByRecursion}
use Rattle.std.proofs.lemmas.List.{take_more}
use Rattle.zb_model.specs.declared.lists.LogLine.{LogLine}
use Rattle.zb_model.specs.declared.lists.Revision.{Revision}
use Rattle.zb_model.specs.declared.news.NewsCommit.{NewsCommit}
use Rattle.zeo_messages.specs.Answers.{HoldsCommit, HoldsLine, HoldsRevision}
use Rattle.zeo_values.specs.Values.{AreIds, IsId}
use Rattle.hub_carrier.specs.Telling.{IsShortCommit}

module _ {X : Type 0} (P : X → Type 0) where
  pushed : (xs : List X) (x : X) → AllByRecursion P xs → P x → AllByRecursion P (xs ++ x ∷ [])
  pushed [] x all one = (one, tt)
  pushed (y ∷ xs) x all one = (all.0, pushed xs x all.1 one)

  one_more : (xs : List X) (i : ℕ) (d : X) → i < length xs → AllByRecursion P (take i xs) → P (get_or xs i d) → AllByRecursion P (take (i + 1) xs)
  one_more xs i d lt all one = subst (λ (ys : List X). AllByRecursion P ys) (sym (take_more xs i d lt)) (pushed (take i xs) (get_or xs i d) all one)

pub one_more_id : (xs : List ℕ) (i d : ℕ) → i < length xs → AreIds (take i xs) → IsId (get_or xs i d) → AreIds (take (i + 1) xs)
one_more_id xs i d lt all one = one_more IsId xs i d lt all one

pub one_more_revision : (xs : List Revision) (i : ℕ) (d : Revision) → i < length xs → AllByRecursion HoldsRevision (take i xs) → HoldsRevision (get_or xs i d) → AllByRecursion HoldsRevision (take (i + 1) xs)
one_more_revision xs i d lt all one = one_more HoldsRevision xs i d lt all one

pub one_more_line : (xs : List LogLine) (i : ℕ) (d : LogLine) → i < length xs → AllByRecursion HoldsLine (take i xs) → HoldsLine (get_or xs i d) → AllByRecursion HoldsLine (take (i + 1) xs)
one_more_line xs i d lt all one = one_more HoldsLine xs i d lt all one

pub one_more_commit : (xs : List NewsCommit) (i : ℕ) (d : NewsCommit) → i < length xs → AllByRecursion HoldsCommit (take i xs) → HoldsCommit (get_or xs i d) → AllByRecursion HoldsCommit (take (i + 1) xs)
one_more_commit xs i d lt all one = one_more HoldsCommit xs i d lt all one

pub one_more_short : (xs : List NewsCommit) (i : ℕ) (d : NewsCommit) → i < length xs → AllByRecursion IsShortCommit (take i xs) → IsShortCommit (get_or xs i d) → AllByRecursion IsShortCommit (take (i + 1) xs)
one_more_short xs i d lt all one = one_more IsShortCommit xs i d lt all one

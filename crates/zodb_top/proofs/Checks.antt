-- A check of a tree, over a session.
use Rattle.std.proofs.Common.{◌≡◌, ℕ, List, sym, subst}
use Rattle.btree_checking.specs.declared.checking.Checking.{Checking}
use Rattle.btree_checking.specs.declared.checking.Progress.{Progress}
use Rattle.btree_checking.specs.declared.checking.Progress.TheVariants.{Ended, Wants}
use Rattle.btree_checking.specs.declared.verdict.Verdict.{Verdict}
use Rattle.btree_checking.specs.Fed.{IsCheckOf, IsProgressOf}
use Rattle.zb_model.specs.declared.data.Transaction.{Transaction}
use Rattle.zodb_top.specs.Asked.{last_contents, last_verdict}

-- a list that is the same has the same contents
pub check_on : (a b : List Transaction) (root : ℕ) (check : Checking) → a ≡ b → IsCheckOf (last_contents b) root check → IsCheckOf (last_contents a) root check
check_on a b root check same is = subst (λ (list : List Transaction). IsCheckOf (last_contents list) root check) (sym same) is

pub wants_on : (a b : List Transaction) (root : ℕ) (progress : Progress) (check : Checking) → a ≡ b → progress ≡ Wants check → IsProgressOf (last_contents a) root progress → IsCheckOf (last_contents b) root check
wants_on a b root progress check same wants is =
    subst (λ (list : List Transaction). IsCheckOf (last_contents list) root check) same (subst (IsProgressOf (last_contents a) root) wants is)

pub ended_on : (a b : List Transaction) (root : ℕ) (progress : Progress) (verdict : Verdict) → a ≡ b → progress ≡ Ended verdict → IsProgressOf (last_contents a) root progress → verdict ≡ last_verdict root b
ended_on a b root progress verdict same ended is =
    subst (λ (list : List Transaction). verdict ≡ last_verdict root list) same (subst (IsProgressOf (last_contents a) root) ended is)

-- The changes of one set are alike.
use Rattle.std.proofs.Common.{◌≡◌, ℕ, ◌<◌, ◌^◌, Bool, true, false, List, [], ◌∷◌, map, sym, ◌∙◌, subst, arith}
use Rattle.pickle_graph.specs.Graph.{AllBelow}
use Rattle.bucket_state.specs.Laws.{SameHoldsTheSame, LinkStandsApart, WrittenInnerReadsBack}
use Rattle.zb_record.specs.Alike.{AlikeIsKept}
use Rattle.btree_family.specs.Classes.{Class}
use Rattle.btree_putting.specs.Puts.{put_oid}
use Rattle.btree_setting.specs.declared.growing.Terms.{Terms}
use Rattle.btree_setting.specs.declared.preparing.Task.{Task}
use Rattle.btree_setting.specs.Sets.{AreZero, Fails, Passes}
use Rattle.btree_setting.specs.Ends.{AreAlike, ChangesAreAlike}
use Rattle.btree_setting.proofs.Counting.{counts_news}
use Rattle.btree_setting.proofs.Rekept.{change_kept}

zero_below : (oids : List ℕ) → AreZero oids → AllBelow (2 ^ 64) oids
zero_below [] zero = tt
zero_below (oid ∷ oids) zero = (subst (λ (n : ℕ). n < 2 ^ 64) (sym zero.0) (omega arith), zero_below oids zero.1)

not_both : (b : Bool) → b ≡ true → b ≡ false → ⊥
not_both b e f = absurd cc

are_alike : AlikeIsKept → SameHoldsTheSame → LinkStandsApart → WrittenInnerReadsBack → (class leaf : Class) (terms : Terms) (task : Task) (count : ℕ) → Passes class leaf terms task count → AreAlike class leaf terms task count
are_alike alike holds apart written class leaf terms task count p = record {
  counts = counts_news class leaf terms task count p;
  never_fails = λ (f : Fails class leaf terms task). not_both _ (change_kept alike holds apart written class leaf terms task count f.change p f.trial.set (zero_below (map put_oid f.change.news) f.trial.zero)) f.fails;
}

pub changes_are_alike : AlikeIsKept → SameHoldsTheSame → LinkStandsApart → WrittenInnerReadsBack → ChangesAreAlike
changes_are_alike alike holds apart written = are_alike alike holds apart written

-- How many objects are new does not depend on their numbers.
use Rattle.std.proofs.Common.{◌≡◌, ℕ, Bool, true, false, List, [], ◌∷◌, ◌++◌, Option, Some, None, refl, arith, sym, ◌∙◌, ap, length, suc, inl, inr}
use Rattle.btree_family.specs.declared.key.Key.{Key}
use Rattle.btree_setting.specs.declared.bottom.Bottom.{Bottom}
use Rattle.btree_setting.specs.declared.bottom.Place.{Place}
use Rattle.btree_setting.specs.declared.bottom.Place.TheVariants as place
use Rattle.btree_putting.specs.declared.puts.Put.{Put}
use Rattle.btree_setting.specs.declared.change.Sprout.{Sprout}
use Rattle.btree_setting.specs.declared.change.Change.{Change}
use Rattle.btree_setting.specs.declared.growing.Plain.{Plain}
use Rattle.btree_setting.specs.declared.growing.Terms.{Terms}
use Rattle.btree_setting.specs.declared.rung.Rung.{Rung}
use Rattle.btree_family.specs.Classes.{Class}
use Rattle.btree_setting.specs.declared.preparing.Task.{Task}
use Rattle.btree_setting.specs.Sets.{Passes, CountsNews}
use Rattle.btree_setting.specs.Changes.{IsLeafSet, IsSet, IsRootSet, Rise, RootRise, grown, branch_up}
use Rattle.btree_setting.proofs.Placing.{insert_length}

-- both have a new child to go up, or none
abbrev SameUp : Option Sprout → Option Sprout → Type 0
SameUp None None = Unit {0}
SameUp None (Some b) = ⊥
SameUp (Some a) None = ⊥
SameUp (Some a) (Some b) = Unit {0}

-- as many new objects
record Alike (c d : Change) : Type 0 where
  count : length c.news ≡ length d.news
  up : SameUp c.up d.up

none_up : (u v : Option Sprout) → u ≡ None → v ≡ None → SameUp u v
none_up None None e f = tt
none_up None (Some b) e f = absurd cc
none_up (Some a) v e f = absurd cc

some_up : (u v : Option Sprout) (a b : Sprout) → u ≡ Some a → v ≡ Some b → SameUp u v
some_up None v a b e f = absurd cc
some_up (Some x) None a b e f = absurd cc
some_up (Some x) (Some y) a b e f = tt

not_both : (u v : Option Sprout) (b : Sprout) → SameUp u v → u ≡ None → v ≡ Some b → ⊥
not_both None None b s e f = cc
not_both None (Some x) b s e f = s
not_both (Some x) v b s e f = cc

not_both' : (u v : Option Sprout) (a : Sprout) → SameUp u v → u ≡ Some a → v ≡ None → ⊥
not_both' None v a s e f = cc
not_both' (Some x) None a s e f = s
not_both' (Some x) (Some y) a s e f = cc

news_last : (xs : List Put) (x : Put) → length (xs ++ x ∷ []) ≡ suc (length xs)
news_last [] x = refl
news_last (y ∷ ys) x = ap suc (news_last ys x)

-- ---- the leaf

true_not : {X : Type 0} (b : Bool) → b ≡ true → b ≡ false → X
true_not b e f = absurd cc

same_leaf : (p : Place) (max : ℕ) (plain : Plain) (bottom : Bottom) (c d : Change) → IsLeafSet p max plain bottom c → IsLeafSet p max plain bottom d → Alike c d
same_leaf place.Alone max plain bottom c d s t = record {
  count = ap (λ (x : Change). length x.news) (s ∙ sym t);
  up = none_up c.up d.up (ap (λ (x : Change). x.up) s) (ap (λ (x : Change). x.up) t);
}
same_leaf place.Below max plain bottom c d (inl s) (inl t) = record {
  count = ap (λ (x : Change). length x.news) (s.1 ∙ sym t.1);
  up = none_up c.up d.up (ap (λ (x : Change). x.up) s.1) (ap (λ (x : Change). x.up) t.1);
}
same_leaf place.Below max plain bottom c d (inl s) (inr t) = true_not _ t.0 s.0
same_leaf place.Below max plain bottom c d (inr s) (inl t) = true_not _ s.0 t.0
same_leaf place.Below max plain bottom c d (inr s) (inr t) = record {
  count = ap (λ (x : Change). length x.news) s.1.is ∙ sym (ap (λ (x : Change). length x.news) t.1.is);
  up = some_up c.up d.up (record { key = s.1.key; child = s.1.new; first = s.1.new }) (record { key = t.1.key; child = t.1.new; first = t.1.new }) (ap (λ (x : Change). x.up) s.1.is) (ap (λ (x : Change). x.up) t.1.is);
}
same_leaf place.Lone max plain bottom c d (inl s) (inl t) = record {
  count = ap (λ (x : Change). length x.news) (s.1 ∙ sym t.1);
  up = none_up c.up d.up (ap (λ (x : Change). x.up) s.1) (ap (λ (x : Change). x.up) t.1);
}
same_leaf place.Lone max plain bottom c d (inl s) (inr t) = true_not _ t.0 s.0
same_leaf place.Lone max plain bottom c d (inr s) (inl t) = true_not _ s.0 t.0
same_leaf place.Lone max plain bottom c d (inr s) (inr t) = record {
  count = ap (λ (x : Change). length x.news) s.1.is ∙ sym (ap (λ (x : Change). length x.news) t.1.is);
  up = none_up c.up d.up (ap (λ (x : Change). x.up) s.1.is) (ap (λ (x : Change). x.up) t.1.is);
}

-- ---- the objects above

as_long : (key : Key) (x : Rung) (a b : Sprout) → length (grown key x a) ≡ length (grown key x b)
as_long key x a b = insert_length x.inner.tail key (branch_up a) ∙ sym (insert_length x.inner.tail key (branch_up b))

same_rise : (max : ℕ) (key : Key) (plain : Plain) (x : Rung) (b b' c c' : Change) → Alike b b' → Rise max key plain x b c → Rise max key plain x b' c' → Alike c c'
same_rise max key plain x b b' c c' s (inl r) (inl t) = record {
  count = ap (λ (y : Change). length y.news) r.is ∙ s.count ∙ sym (ap (λ (y : Change). length y.news) t.is);
  up = none_up c.up c'.up (ap (λ (y : Change). y.up) r.is ∙ r.none) (ap (λ (y : Change). y.up) t.is ∙ t.none);
}
same_rise max key plain x b b' c c' s (inl r) (inr (inl t)) = absurd (not_both b.up b'.up t.up s.up r.none t.some)
same_rise max key plain x b b' c c' s (inl r) (inr (inr t)) = absurd (not_both b.up b'.up t.up s.up r.none t.some)
same_rise max key plain x b b' c c' s (inr (inl r)) (inl t) = absurd (not_both' b.up b'.up r.up s.up r.some t.none)
same_rise max key plain x b b' c c' s (inr (inr r)) (inl t) = absurd (not_both' b.up b'.up r.up s.up r.some t.none)
same_rise max key plain x b b' c c' s (inr (inl r)) (inr (inl t)) = record {
  count = ap (λ (y : Change). length y.news) r.is ∙ s.count ∙ sym (ap (λ (y : Change). length y.news) t.is);
  up = none_up c.up c'.up (ap (λ (y : Change). y.up) r.is) (ap (λ (y : Change). y.up) t.is);
}
same_rise max key plain x b b' c c' s (inr (inl r)) (inr (inr t)) = absurd (omega (arith, as_long key x r.up t.up, r.fits, t.more))
same_rise max key plain x b b' c c' s (inr (inr r)) (inr (inl t)) = absurd (omega (arith, as_long key x r.up t.up, r.more, t.fits))
same_rise max key plain x b b' c c' s (inr (inr r)) (inr (inr t)) =
    let one : length c.news ≡ suc (length b.news) = ap (λ (y : Change). length y.news) r.split.is ∙ news_last b.news _ in
    let two : length c'.news ≡ suc (length b'.news) = ap (λ (y : Change). length y.news) t.split.is ∙ news_last b'.news _ in
    record {
      count = one ∙ ap suc s.count ∙ sym two;
      up = some_up c.up c'.up _ _ (ap (λ (y : Change). y.up) r.split.is) (ap (λ (y : Change). y.up) t.split.is);
    }

same_root : (max : ℕ) (key : Key) (plain : Plain) (x : Rung) (b b' c c' : Change) → Alike b b' → RootRise max key plain x b c → RootRise max key plain x b' c' → length c.news ≡ length c'.news
same_root max key plain x b b' c c' s (inl r) (inl t) = ap (λ (y : Change). length y.news) r.is ∙ s.count ∙ sym (ap (λ (y : Change). length y.news) t.is)
same_root max key plain x b b' c c' s (inl r) (inr (inl t)) = absurd (not_both b.up b'.up t.up s.up r.none t.some)
same_root max key plain x b b' c c' s (inl r) (inr (inr t)) = absurd (not_both b.up b'.up t.up s.up r.none t.some)
same_root max key plain x b b' c c' s (inr (inl r)) (inl t) = absurd (not_both' b.up b'.up r.up s.up r.some t.none)
same_root max key plain x b b' c c' s (inr (inr r)) (inl t) = absurd (not_both' b.up b'.up r.up s.up r.some t.none)
same_root max key plain x b b' c c' s (inr (inl r)) (inr (inl t)) = ap (λ (y : Change). length y.news) r.is ∙ s.count ∙ sym (ap (λ (y : Change). length y.news) t.is)
same_root max key plain x b b' c c' s (inr (inl r)) (inr (inr t)) = absurd (omega (arith, as_long key x r.up t.up, r.fits, t.more))
same_root max key plain x b b' c c' s (inr (inr r)) (inr (inl t)) = absurd (omega (arith, as_long key x r.up t.up, r.more, t.fits))
same_root max key plain x b b' c c' s (inr (inr r)) (inr (inr t)) =
    let one : length c.news ≡ suc (suc (length b.news)) = ap (λ (y : Change). length y.news) r.split.is ∙ news_last _ _ ∙ ap suc (news_last b.news _) in
    let two : length c'.news ≡ suc (suc (length b'.news)) = ap (λ (y : Change). length y.news) t.split.is ∙ news_last _ _ ∙ ap suc (news_last b'.news _) in
    one ∙ ap (λ n. suc (suc n)) s.count ∙ sym two

-- ---- the whole

same_set : (terms : Terms) (bottom : Bottom) (rungs : List Rung) (c d : Change) → IsSet terms bottom rungs c → IsSet terms bottom rungs d → Alike c d
same_set terms bottom [] c d s t = same_leaf bottom.place terms.leaf terms.plain bottom c d s t
same_set terms bottom (x ∷ xs) c d (b, s, r) (b', t, q) = same_rise terms.inner terms.key terms.plain x b b' c d (same_set terms bottom xs b b' s t) r q

-- two changes of one set have as many new objects
pub same_count : (terms : Terms) (bottom : Bottom) (rungs : List Rung) (c d : Change) → IsRootSet terms bottom rungs c → IsRootSet terms bottom rungs d → length c.news ≡ length d.news
same_count terms bottom [] c d s t = (same_leaf bottom.place terms.leaf terms.plain bottom c d s t).count
same_count terms bottom (x ∷ xs) c d (b, s, r) (b', t, q) = same_root terms.inner terms.key terms.plain x b b' c d (same_set terms bottom xs b b' s t) r q

-- what was counted in the trial is so in each other change
pub counts_news : (class leaf : Class) (terms : Terms) (task : Task) (count : ℕ) → Passes class leaf terms task count → CountsNews terms task count
counts_news class leaf terms task count p change s = same_count terms task.bottom task.rungs change p.change s p.trial.set ∙ sym p.counted

-- Two changes of one set are the same but for the numbers of new objects.
use Rattle.std.proofs.Common.{◌≡◌, ℕ, ◌+◌, ◌/◌, ◌<◌, ◌^◌, Bool, true, false, List, [], ◌∷◌, ◌++◌, Option, Some, None, refl, arith, sym, ◌∙◌, ap, subst, length, inl, inr, ◌⊎◌}
use Rattle.std.specs.Prelude.{map}
use Rattle.pickle_graph.specs.Graph.{AllBelow}
use Rattle.btree_family.specs.declared.key.Key.{Key}
use Rattle.btree_family.specs.declared.bucket.Item.{Item}
use Rattle.bucket_state.specs.declared.tree.Branch.{Branch}
use Rattle.btree_setting.specs.declared.bottom.Bottom.{Bottom}
use Rattle.btree_setting.specs.declared.bottom.Place.{Place}
use Rattle.btree_setting.specs.declared.bottom.Place.TheVariants as place
use Rattle.btree_putting.specs.declared.puts.Put.{Put}
use Rattle.btree_setting.specs.declared.change.Sprout.{Sprout}
use Rattle.btree_setting.specs.declared.change.Change.{Change}
use Rattle.btree_setting.specs.declared.growing.Plain.{Plain}
use Rattle.btree_setting.specs.declared.growing.Terms.{Terms}
use Rattle.btree_setting.specs.declared.rung.Rung.{Rung}
use Rattle.btree_setting.specs.declared.rung.Seam.{Seam}
use Rattle.btree_setting.specs.declared.rung.Seam.TheVariants as seams
use Rattle.btree_setting.specs.Changes.{LeafSplits, LoneSplits, IsLeafSet, InnerSplits, RootParts, BranchesCut, IsSet, IsRootSet, Rise, RootRise, fitted, grown, branch_up, seam_first}
use Rattle.btree_setting.specs.Inserting.{ItemsCut}
use Rattle.btree_putting.specs.Puts.{put_oid}
use Rattle.btree_setting.proofs.Numbered.{OidAlike, LinkAlike, BranchAlike, BranchesAlike, NodeAlike, PutAlike, PutsAlike, SproutAlike, UpAlike, ChangeAlike, change_same, change_as, puts_append, as_many, insert_alike, CutAlike, cut_alike, items_cut, below_front, below_behind}

not_both : {X : Type 0} (u v : Option Sprout) (b : Sprout) → UpAlike u v → u ≡ None → v ≡ Some b → X
not_both None None b s e f = cc
not_both None (Some x) b s e f = absurd s
not_both (Some x) v b s e f = cc

not_back : {X : Type 0} (u v : Option Sprout) (a : Sprout) → UpAlike u v → u ≡ Some a → v ≡ None → X
not_back None v a s e f = cc
not_back (Some x) None a s e f = absurd s
not_back (Some x) (Some y) a s e f = cc

both_up : (u v : Option Sprout) (a b : Sprout) → UpAlike u v → u ≡ Some a → v ≡ Some b → SproutAlike a b
both_up None v a b s e f = cc
both_up (Some x) None a b s e f = cc
both_up (Some x) (Some y) a b s e f =
    let p : x ≡ a = cc in
    let q : y ≡ b = cc in
    subst (λ (z : Sprout). SproutAlike z b) p (subst (SproutAlike x) q s)

true_not : {X : Type 0} (b : Bool) → b ≡ true → b ≡ false → X
true_not b e f = absurd cc

-- ---- the leaf

record CutSame (left left' right right' : List Item) (key key' : Key) : Type 0 where
  lefts : left ≡ left'
  rights : right ≡ right'
  keys : key ≡ key'

same_item_key : (a b : Item) (xs ys : List Item) → a ∷ xs ≡ b ∷ ys → a.key ≡ b.key
same_item_key a b xs ys e = let same : a ≡ b = cc in ap (λ (i : Item). i.key) same

cut_same : (whole left left' right right' : List Item) (half : ℕ) (key key' : Key) → ItemsCut whole left half key right → ItemsCut whole left' half key' right' → CutSame left left' right right' key key'
cut_same whole left left' right right' half key key' c d =
    let both = items_cut left left' (c.item ∷ c.more) (d.item ∷ d.more) (c.half_is ∙ sym d.half_is) (sym c.cut ∙ d.cut) in
    record {
      lefts = both.0;
      rights = c.right_is ∙ both.1 ∙ sym d.right_is;
      keys = c.key_is ∙ same_item_key c.item d.item c.more d.more both.1 ∙ sym d.key_is;
    }

split_leaf : (plain : Plain) (b : Bottom) (c d : Change) → LeafSplits plain b c → LeafSplits plain b d → AllBelow (2 ^ 64) (map put_oid d.news) → ChangeAlike c d
split_leaf plain b c d s t low =
    let cut = cut_same b.leaf.items s.left t.left s.right t.right (length b.leaf.items / 2) s.key t.key s.cut t.cut in
    let small : t.new < 2 ^ 64 = (subst (λ (x : Change). AllBelow (2 ^ 64) (map put_oid x.news)) t.is low).0 in
    change_as c d _ _ s.is t.is (record {
      news = (record { class = refl; leaves = refl; node = (cut.rights, link b.leaf.next) }, tt);
      olds = (record { class = refl; leaves = refl; node = (cut.lefts, inr small) }, tt);
      up = record { key = cut.keys; child = inr small; first = inr small };
    })
  where
    link : (a : Option ℕ) → LinkAlike a a
    link None = tt
    link (Some a) = inl refl

split_lone : (plain : Plain) (b : Bottom) (c d : Change) → LoneSplits plain b c → LoneSplits plain b d → AllBelow (2 ^ 64) (map put_oid d.news) → ChangeAlike c d
split_lone plain b c d s t low =
    let cut = cut_same b.leaf.items s.left t.left s.right t.right (length b.leaf.items / 2) s.key t.key s.cut t.cut in
    let below = subst (λ (x : Change). AllBelow (2 ^ 64) (map put_oid x.news)) t.is low in
    let small : t.new < 2 ^ 64 = below.0 in
    let other : t.other < 2 ^ 64 = below.1.0 in
    change_as c d _ _ s.is t.is (record {
      news = (record { class = refl; leaves = refl; node = (cut.lefts, inr other) }, (record { class = refl; leaves = refl; node = (cut.rights, link b.leaf.next) }, tt));
      olds = (record { class = refl; leaves = refl; node = (inr small, (record { key = cut.keys; child = inr other }, tt), inr small) }, tt);
      up = tt;
    })
  where
    link : (a : Option ℕ) → LinkAlike a a
    link None = tt
    link (Some a) = inl refl

same_leaf : (p : Place) (max : ℕ) (plain : Plain) (bottom : Bottom) (c d : Change) → IsLeafSet p max plain bottom c → IsLeafSet p max plain bottom d → AllBelow (2 ^ 64) (map put_oid d.news) → ChangeAlike c d
same_leaf place.Alone max plain bottom c d s t low = change_same c d (s ∙ sym t)
same_leaf place.Below max plain bottom c d (inl s) (inl t) low = change_same c d (s.1 ∙ sym t.1)
same_leaf place.Below max plain bottom c d (inl s) (inr t) low = true_not _ t.0 s.0
same_leaf place.Below max plain bottom c d (inr s) (inl t) low = true_not _ s.0 t.0
same_leaf place.Below max plain bottom c d (inr s) (inr t) low = split_leaf plain bottom c d s.1 t.1 low
same_leaf place.Lone max plain bottom c d (inl s) (inl t) low = change_same c d (s.1 ∙ sym t.1)
same_leaf place.Lone max plain bottom c d (inl s) (inr t) low = true_not _ t.0 s.0
same_leaf place.Lone max plain bottom c d (inr s) (inl t) low = true_not _ s.0 t.0
same_leaf place.Lone max plain bottom c d (inr s) (inr t) low = split_lone plain bottom c d s.1 t.1 low

-- ---- the objects above

grown_alike : (key : Key) (x : Rung) (a b : Sprout) → SproutAlike a b → BranchesAlike (grown key x a) (grown key x b)
grown_alike key x a b s = insert_alike (branch_up a) (branch_up b) key x.inner.tail (record { key = s.key; child = s.child })

seam_alike : (s : Seam) (a b : Sprout) → SproutAlike a b → OidAlike (seam_first s a) (seam_first s b)
seam_alike seams.New a b h = h.first
seam_alike (seams.Old first) a b h = inl refl
seam_alike (seams.Beside child) a b h = inl refl

halves : (whole whole' left left' : List Branch) (middle middle' : Branch) (right right' : List Branch) → BranchesAlike whole whole' → BranchesCut whole left middle right → BranchesCut whole' left' middle' right' → CutAlike left left' middle middle' right right'
halves whole whole' left left' middle middle' right right' h c d =
    let many = as_many whole whole' h in
    let half : (length whole + 1) / 2 ≡ (length whole' + 1) / 2 = ap (λ (n : ℕ). (n + 1) / 2) many in
    let l : length left ≡ length left' = omega (arith, c.half, d.half, half) in
    cut_alike whole whole' left left' middle middle' right right' h c.cut d.cut l

split_inner : (plain : Plain) (x : Rung) (a b : Sprout) (tail tail' : List Branch) (news news' olds olds' : List Put) (c d : Change) → SproutAlike a b → BranchesAlike tail tail' → PutsAlike news news' → PutsAlike olds olds' → InnerSplits plain x a tail news olds c → InnerSplits plain x b tail' news' olds' d → AllBelow (2 ^ 64) (map put_oid d.news) → ChangeAlike c d
split_inner plain x a b tail tail' news news' olds olds' c d h t n o s r low =
    let cut = halves tail tail' s.left r.left s.middle r.middle s.right r.right t s.cut r.cut in
    let below = subst (λ (y : Change). AllBelow (2 ^ 64) (map put_oid y.news)) r.is low in
    let small : r.new < 2 ^ 64 = (below_behind (2 ^ 64) news' _ below).0 in
    let first = seam_alike x.seam a b h in
    change_as c d _ _ s.is r.is (record {
      news = puts_append news news' _ _ n (record { class = refl; leaves = refl; node = (cut.middles.child, cut.rights, first) }, tt);
      olds = puts_append olds olds' _ _ o (record { class = refl; leaves = refl; node = (inl refl, cut.lefts, inl refl) }, tt);
      up = record { key = cut.middles.key; child = inr small; first = first };
    })

part_root : (plain : Plain) (x : Rung) (a b : Sprout) (tail tail' : List Branch) (news news' olds olds' : List Put) (c d : Change) → SproutAlike a b → BranchesAlike tail tail' → PutsAlike news news' → PutsAlike olds olds' → RootParts plain x a tail news olds c → RootParts plain x b tail' news' olds' d → AllBelow (2 ^ 64) (map put_oid d.news) → ChangeAlike c d
part_root plain x a b tail tail' news news' olds olds' c d h t n o s r low =
    let cut = halves tail tail' s.left r.left s.middle r.middle s.right r.right t s.cut r.cut in
    let below = subst (λ (y : Change). AllBelow (2 ^ 64) (map put_oid y.news)) r.is low in
    let small : r.new < 2 ^ 64 = (below_behind (2 ^ 64) news' _ (below_front (2 ^ 64) (news' ++ _ ∷ []) _ below)).0 in
    let other : r.other < 2 ^ 64 = (below_behind (2 ^ 64) (news' ++ _ ∷ []) _ below).0 in
    let first = seam_alike x.seam a b h in
    change_as c d _ _ s.is r.is (record {
      news = puts_append _ _ _ _ (puts_append news news' _ _ n (record { class = refl; leaves = refl; node = (inl refl, cut.lefts, inl refl) }, tt)) (record { class = refl; leaves = refl; node = (cut.middles.child, cut.rights, first) }, tt);
      olds = puts_append olds olds' _ _ o (record { class = refl; leaves = refl; node = (inr small, (record { key = cut.middles.key; child = inr other }, tt), inl refl) }, tt);
      up = tt;
    })

as_long : (key : Key) (x : Rung) (a b : Sprout) → SproutAlike a b → length (grown key x a) ≡ length (grown key x b)
as_long key x a b s = as_many (grown key x a) (grown key x b) (grown_alike key x a b s)

fit_alike : (key : Key) (x : Rung) (a b : Sprout) (news news' olds olds' : List Put) → SproutAlike a b → PutsAlike news news' → PutsAlike olds olds' → ChangeAlike (fitted x (grown key x a) news olds) (fitted x (grown key x b) news' olds')
fit_alike key x a b news news' olds olds' h n o = record {
  news = n;
  olds = puts_append olds olds' _ _ o (record { class = refl; leaves = refl; node = (inl refl, grown_alike key x a b h, inl refl) }, tt);
  up = tt;
}

-- the new objects of what is below are among those of the whole
news_below : (max : ℕ) (key : Key) (plain : Plain) (x : Rung) (b c : Change) → Rise max key plain x b c → AllBelow (2 ^ 64) (map put_oid c.news) → AllBelow (2 ^ 64) (map put_oid b.news)
news_below max key plain x b c (inl r) low = subst (λ (y : Change). AllBelow (2 ^ 64) (map put_oid y.news)) r.is low
news_below max key plain x b c (inr (inl r)) low = subst (λ (y : Change). AllBelow (2 ^ 64) (map put_oid y.news)) r.is low
news_below max key plain x b c (inr (inr r)) low = below_front (2 ^ 64) b.news _ (subst (λ (y : Change). AllBelow (2 ^ 64) (map put_oid y.news)) r.split.is low)

root_below : (max : ℕ) (key : Key) (plain : Plain) (x : Rung) (b c : Change) → RootRise max key plain x b c → AllBelow (2 ^ 64) (map put_oid c.news) → AllBelow (2 ^ 64) (map put_oid b.news)
root_below max key plain x b c (inl r) low = subst (λ (y : Change). AllBelow (2 ^ 64) (map put_oid y.news)) r.is low
root_below max key plain x b c (inr (inl r)) low = subst (λ (y : Change). AllBelow (2 ^ 64) (map put_oid y.news)) r.is low
root_below max key plain x b c (inr (inr r)) low = below_front (2 ^ 64) b.news _ (below_front (2 ^ 64) (b.news ++ _ ∷ []) _ (subst (λ (y : Change). AllBelow (2 ^ 64) (map put_oid y.news)) r.split.is low))

same_rise : (max : ℕ) (key : Key) (plain : Plain) (x : Rung) (b b' c c' : Change) → ChangeAlike b b' → Rise max key plain x b c → Rise max key plain x b' c' → AllBelow (2 ^ 64) (map put_oid c'.news) → ChangeAlike c c'
same_rise max key plain x b b' c c' s (inl r) (inl t) low = change_as c c' b b' r.is t.is s
same_rise max key plain x b b' c c' s (inl r) (inr (inl t)) low = not_both b.up b'.up t.up s.up r.none t.some
same_rise max key plain x b b' c c' s (inl r) (inr (inr t)) low = not_both b.up b'.up t.up s.up r.none t.some
same_rise max key plain x b b' c c' s (inr (inl r)) (inl t) low = not_back b.up b'.up r.up s.up r.some t.none
same_rise max key plain x b b' c c' s (inr (inr r)) (inl t) low = not_back b.up b'.up r.up s.up r.some t.none
same_rise max key plain x b b' c c' s (inr (inl r)) (inr (inl t)) low =
    let u = both_up b.up b'.up r.up t.up s.up r.some t.some in
    change_as c c' _ _ r.is t.is (fit_alike key x r.up t.up b.news b'.news b.olds b'.olds u s.news s.olds)
same_rise max key plain x b b' c c' s (inr (inl r)) (inr (inr t)) low =
    let u = as_long key x r.up t.up (both_up b.up b'.up r.up t.up s.up r.some t.some) in absurd (omega (arith, u, r.fits, t.more))
same_rise max key plain x b b' c c' s (inr (inr r)) (inr (inl t)) low =
    let u = as_long key x r.up t.up (both_up b.up b'.up r.up t.up s.up r.some t.some) in absurd (omega (arith, u, r.more, t.fits))
same_rise max key plain x b b' c c' s (inr (inr r)) (inr (inr t)) low =
    let u = both_up b.up b'.up r.up t.up s.up r.some t.some in
    split_inner plain x r.up t.up (grown key x r.up) (grown key x t.up) b.news b'.news b.olds b'.olds c c' u (grown_alike key x r.up t.up u) s.news s.olds r.split t.split low

same_root : (max : ℕ) (key : Key) (plain : Plain) (x : Rung) (b b' c c' : Change) → ChangeAlike b b' → RootRise max key plain x b c → RootRise max key plain x b' c' → AllBelow (2 ^ 64) (map put_oid c'.news) → ChangeAlike c c'
same_root max key plain x b b' c c' s (inl r) (inl t) low = change_as c c' b b' r.is t.is s
same_root max key plain x b b' c c' s (inl r) (inr (inl t)) low = not_both b.up b'.up t.up s.up r.none t.some
same_root max key plain x b b' c c' s (inl r) (inr (inr t)) low = not_both b.up b'.up t.up s.up r.none t.some
same_root max key plain x b b' c c' s (inr (inl r)) (inl t) low = not_back b.up b'.up r.up s.up r.some t.none
same_root max key plain x b b' c c' s (inr (inr r)) (inl t) low = not_back b.up b'.up r.up s.up r.some t.none
same_root max key plain x b b' c c' s (inr (inl r)) (inr (inl t)) low =
    let u = both_up b.up b'.up r.up t.up s.up r.some t.some in
    change_as c c' _ _ r.is t.is (fit_alike key x r.up t.up b.news b'.news b.olds b'.olds u s.news s.olds)
same_root max key plain x b b' c c' s (inr (inl r)) (inr (inr t)) low =
    let u = as_long key x r.up t.up (both_up b.up b'.up r.up t.up s.up r.some t.some) in absurd (omega (arith, u, r.fits, t.more))
same_root max key plain x b b' c c' s (inr (inr r)) (inr (inl t)) low =
    let u = as_long key x r.up t.up (both_up b.up b'.up r.up t.up s.up r.some t.some) in absurd (omega (arith, u, r.more, t.fits))
same_root max key plain x b b' c c' s (inr (inr r)) (inr (inr t)) low =
    let u = both_up b.up b'.up r.up t.up s.up r.some t.some in
    part_root plain x r.up t.up (grown key x r.up) (grown key x t.up) b.news b'.news b.olds b'.olds c c' u (grown_alike key x r.up t.up u) s.news s.olds r.split t.split low

-- ---- the whole

same_set : (terms : Terms) (bottom : Bottom) (rungs : List Rung) (c d : Change) → IsSet terms bottom rungs c → IsSet terms bottom rungs d → AllBelow (2 ^ 64) (map put_oid d.news) → ChangeAlike c d
same_set terms bottom [] c d s t low = same_leaf bottom.place terms.leaf terms.plain bottom c d s t low
same_set terms bottom (x ∷ xs) c d (b, s, r) (b', t, q) low =
    same_rise terms.inner terms.key terms.plain x b b' c d (same_set terms bottom xs b b' s t (news_below terms.inner terms.key terms.plain x b' d q low)) r q low

-- two changes of one set, the second with numbers of eight bytes
pub changes_alike : (terms : Terms) (bottom : Bottom) (rungs : List Rung) (c d : Change) → IsRootSet terms bottom rungs c → IsRootSet terms bottom rungs d → AllBelow (2 ^ 64) (map put_oid d.news) → ChangeAlike c d
changes_alike terms bottom [] c d s t low = same_leaf bottom.place terms.leaf terms.plain bottom c d s t low
changes_alike terms bottom (x ∷ xs) c d (b, s, r) (b', t, q) low =
    same_root terms.inner terms.key terms.plain x b b' c d (same_set terms bottom xs b b' s t (root_below terms.inner terms.key terms.plain x b' d q low)) r q low

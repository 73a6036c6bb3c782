-- Items and branches without one of them.
use Rattle.std.proofs.Common.{◌≡◌, ℕ, ◌-◌, ◌<◌, ◌≤◌, Bool, true, false, List, [], ◌∷◌, ◌++◌, refl, arith, sym, ◌∙◌, ap, subst, length, zero, suc, drop, take, append_assoc, append-nil}
use Rattle.std.specs.Prelude.{if◌then◌else◌}
use Rattle.btree_family.specs.declared.key.Key.{Key}
use Rattle.btree_family.specs.declared.bucket.Item.{Item}
use Rattle.btree_family.specs.Keys.{key_eq}
use Rattle.bucket_state.specs.declared.tree.Branch.{Branch}
use Rattle.btree_removing.specs.Items.{remove_item, cut_branch}

-- ---- items

-- what was kept, and what the rest gives, are the whole
pub record ItemsSo (key : Key) (whole all rest : List Item) : Type 0 where
  pub gives : all ++ remove_item rest key ≡ whole

pub items_start : (key : Key) (items all : List Item) → all ≡ [] → ItemsSo key (remove_item items key) all items
items_start key items all e = record { gives = ap (λ xs. xs ++ remove_item items key) e }

pub items_here : (key : Key) (whole all rest behind result : List Item) (item : Item) → ItemsSo key whole all rest → rest ≡ item ∷ behind → key_eq item.key key ≡ true → result ≡ all ++ behind → result ≡ whole
items_here key whole all rest behind result item s r e f =
    f ∙ ap (λ b. all ++ (if b then behind else item ∷ remove_item behind key)) (sym e) ∙ ap (λ xs. all ++ remove_item xs key) (sym r) ∙ s.gives

pub items_on : (key : Key) (whole all all' rest behind : List Item) (item : Item) → ItemsSo key whole all rest → rest ≡ item ∷ behind → key_eq item.key key ≡ false → all' ≡ all ++ item ∷ [] → ItemsSo key whole all' behind
items_on key whole all all' rest behind item s r e f = record {
  gives =
      ap (λ xs. xs ++ remove_item behind key) f
      ∙ append_assoc all (item ∷ []) (remove_item behind key)
      ∙ ap (λ b. all ++ (if b then behind else item ∷ remove_item behind key)) (sym e)
      ∙ ap (λ xs. all ++ remove_item xs key) (sym r)
      ∙ s.gives;
}

pub items_end : (key : Key) (whole all rest : List Item) → ItemsSo key whole all rest → rest ≡ [] → all ≡ whole
items_end key whole all rest s e = sym (append-nil all) ∙ ap (λ xs. all ++ remove_item xs key) (sym e) ∙ s.gives

-- ---- branches

cut_is : (branches : List Branch) (place : ℕ) → cut_branch branches place ≡ take place branches ++ drop (suc place) branches
cut_is [] zero = refl
cut_is [] (suc place) = refl
cut_is (x ∷ xs) zero = refl
cut_is (x ∷ xs) (suc place) = ap (λ ys. x ∷ ys) (cut_is xs place)

drop_more : (place : ℕ) (branches : List Branch) → drop 1 (drop place branches) ≡ drop (suc place) branches
drop_more zero xs = refl
drop_more (suc place) [] = refl
drop_more (suc place) (x ∷ xs) = drop_more place xs

pub branch_cut : (branches front rest behind all : List Branch) (place : ℕ) → front ≡ take place branches → rest ≡ drop place branches → behind ≡ drop 1 rest → all ≡ front ++ behind → all ≡ cut_branch branches place
branch_cut branches front rest behind all place f r b a =
    a ∙ ap (λ xs. xs ++ behind) f
    ∙ ap (λ xs. take place branches ++ xs) (b ∙ ap (drop 1) r ∙ drop_more place branches)
    ∙ sym (cut_is branches place)

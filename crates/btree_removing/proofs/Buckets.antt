-- Keys that rise and values that are spelled, in a leaf without one of its items.
use Rattle.std.proofs.Common.{◌≡◌, Bool, true, false, List, [], ◌∷◌, Option, Some, None, refl, ◌∙◌, ap}
use Rattle.std.specs.Prelude.{if◌then◌else◌}
use Rattle.std.specs.declared.cmp.Ordering.{Ordering}
use Rattle.std.specs.declared.cmp.Ordering.TheVariants.{Less, Equal, Greater}
use Rattle.std.specs.Ordering.{is_lt}
use Rattle.btree_family.specs.declared.key.Key.{Key}
use Rattle.btree_family.specs.declared.bucket.Item.{Item}
use Rattle.btree_family.specs.Keys.{key_cmp, key_eq}
use Rattle.btree_family.specs.KeyLaws.{key_cmp-total}
use Rattle.btree_family.specs.Buckets.{BucketContents, keys_of, AreValues, IsBucket}
use Rattle.btree_family.specs.Rising.{is_key_above, Rises}
use Rattle.btree_removing.specs.Items.{remove_item}

is_less : (o : Ordering) → is_lt o ≡ true → o ≡ Less
is_less Less e = refl
is_less Equal e = cc
is_less Greater e = cc

above_above : (low : Option Key) (a b : Key) → is_key_above low a ≡ true → is_lt (key_cmp a b) ≡ true → is_key_above low b ≡ true
above_above None a b g h = refl
above_above (Some low) a b g h = ap is_lt (key_cmp-total.trans low a b (is_less (key_cmp low a) g) (is_less (key_cmp a b) h))

rises_behind : (low : Option Key) (x : Item) (xs : List Item) → Rises low (keys_of (x ∷ xs)) → Rises low (keys_of xs)
rises_behind low x [] r = tt
rises_behind low x (y ∷ ys) r = (above_above low x.key y.key r.0 r.1.0, r.1.1)

rises_by : (b : Bool) (low : Option Key) (x : Item) (xs : List Item) (key : Key) → Rises low (keys_of (x ∷ xs)) → Rises (Some x.key) (keys_of (remove_item xs key)) → Rises low (keys_of (if b then xs else x ∷ remove_item xs key))
rises_by true low x xs key r s = rises_behind low x xs r
rises_by false low x xs key r s = (r.0, s)

rises_without : (low : Option Key) (xs : List Item) (key : Key) → Rises low (keys_of xs) → Rises low (keys_of (remove_item xs key))
rises_without low [] key r = tt
rises_without low (x ∷ xs) key r = rises_by (key_eq x.key key) low x xs key r (rises_without (Some x.key) xs key r.1)

values_by : (b : Bool) (x : Item) (xs : List Item) (key : Key) → AreValues (x ∷ xs) → AreValues (remove_item xs key) → AreValues (if b then xs else x ∷ remove_item xs key)
values_by true x xs key v w = v.1
values_by false x xs key v w = (v.0, w)

values_without : (xs : List Item) (key : Key) → AreValues xs → AreValues (remove_item xs key)
values_without [] key v = tt
values_without (x ∷ xs) key v = values_by (key_eq x.key key) x xs key v (values_without xs key v.1)

pub without_is_bucket : (xs : List Item) (key : Key) → IsBucket xs → IsBucket (remove_item xs key)
without_is_bucket xs key b = record { rises = rises_without None xs key b.rises; spelled = values_without xs key b.spelled }

pub same_contents : (a b : BucketContents) → a.items ≡ b.items → a.next ≡ b.next → a ≡ b
same_contents a b i n = ap (λ x. record { items = x; next = a.next }) i ∙ ap (λ y. record { items = b.items; next = y }) n

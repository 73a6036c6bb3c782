-- Sets of the tests, made by one member after the other.
use Rattle.std.proofs.Common.{◌≡◌, ℤ, Bool, true, List, [], ◌∷◌, ◌++◌, map, Option, Some, None, refl, sym, ap, subst}
use Rattle.std.specs.List.{last_or}
use Rattle.std.specs.Option.{option_map}
use Rattle.btree_family.specs.declared.key.Key.{Key}
use Rattle.btree_family.specs.declared.key.Key.TheVariants.{Number}
use Rattle.btree_family.specs.declared.bucket.Item.{Item}
use Rattle.btree_family.specs.Buckets.{keys_of, IsBucket, AreValues}
use Rattle.btree_family.specs.Rising.{is_key_above, Rises}

-- the keys rise up to this one, and no item has a value
pub record IsSetUpTo (low : Option ℤ) (items : List Item) : Type 0 where
  pub bucket : IsBucket items
  pub last : last_or None (keys_of items) ≡ option_map Number low

keys_push : (items : List Item) (item : Item) → keys_of (items ++ item ∷ []) ≡ keys_of items ++ item.key ∷ []
keys_push [] item = refl
keys_push (x ∷ items) item = ap (λ (ks : List Key). x.key ∷ ks) (keys_push items item)

values_push : (items : List Item) (key : Key) → AreValues items → AreValues (items ++ (record { key = key; value = None }) ∷ [])
values_push [] key h = (tt, tt)
values_push (x ∷ items) key h = (h.0, values_push items key h.1)

last_push : (low : Option Key) (ks : List Key) (key : Key) → last_or low (ks ++ key ∷ []) ≡ Some key
last_push low [] key = refl
last_push low (x ∷ ks) key = last_push (Some x) ks key

push_rises : (low : Option Key) (ks : List Key) (key : Key) → Rises low ks → is_key_above (last_or low ks) key ≡ true → Rises low (ks ++ key ∷ [])
push_rises low [] key h above = (above, tt)
push_rises low (first ∷ ks) key h above = (h.0, push_rises (Some first) ks key h.1 above)

pub set_start : IsSetUpTo None []
set_start = record { bucket = record { rises = tt; spelled = tt }; last = refl }

pub set_grows : (low : Option ℤ) (items : List Item) (n : ℤ) → IsSetUpTo low items → is_key_above (option_map Number low) (Number n) ≡ true → IsSetUpTo (Some n) (items ++ (record { key = Number n; value = None }) ∷ [])
set_grows low items n s above = record {
  bucket = record {
    rises = subst (Rises None) (sym (keys_push items (record { key = Number n; value = None }))) (push_rises None (keys_of items) (Number n) s.bucket.rises (subst (λ (o : Option Key). is_key_above o (Number n) ≡ true) (sym s.last) above));
    spelled = values_push items (Number n) s.bucket.spelled;
  };
  last = subst (λ (ks : List Key). last_or None ks ≡ Some (Number n)) (sym (keys_push items (record { key = Number n; value = None }))) (last_push None (keys_of items) (Number n));
}

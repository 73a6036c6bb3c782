-- Keys that rise strictly. Own.
use Rattle.std.proofs.Common.{◌≡◌, Bool, true, List, [], ◌∷◌, ◌++◌, Option, Some, None}
use Rattle.std.specs.Ordering.{is_lt}
use Rattle.std.specs.List.{last_or}
use Rattle.btree_family.specs.declared.key.Key.{Key}
use Rattle.btree_family.specs.Keys.{key_cmp}

-- the key is above a bound, if there is one
abbrev pub is_key_above : Option Key → Key → Bool
is_key_above None key = true
is_key_above (Some low) key = is_lt (key_cmp low key)

-- the first key is above the bound, and each other one above the key before it
abbrev pub Rises : Option Key → List Key → Type 0
Rises low [] = Unit {0}
Rises low (key ∷ keys) = (is_key_above low key ≡ true) × Rises (Some key) keys

-- keys rise with one more that is above the last
pub rises_push : (low : Option Key) (keys : List Key) (key : Key) → Rises low keys → is_key_above (last_or low keys) key ≡ true → Rises low (keys ++ key ∷ [])
rises_push low [] key h above = (above, tt)
rises_push low (first ∷ keys) key h above = (h.0, rises_push (Some first) keys key h.1 above)

-- Keys that can be written.
use Rattle.std.proofs.Common.{◌≡◌, ℕ, ◌<◌, ◌^◌, Bool, true, false, List, [], ◌∷◌, length, refl, arith}
use Rattle.std.specs.Prelude.{◌&&◌, if◌then◌else◌, nat_lt}
use Rattle.std.specs.Str.{is_utf8}
use Rattle.pickle_ops.specs.Fits.{IsShortText}
use Rattle.btree_family.specs.declared.key.Key.{Key}
use Rattle.btree_family.specs.declared.key.Key.TheVariants.{Text, Bytes, Number}
use Rattle.bucket_state.specs.Writable.{IsWritable, AreWritable}
use Rattle.btree_putting.specs.Writing.{is_writable, are_writable}

below_32 : (n : ℕ) → nat_lt n (2 ^ 32) ≡ true → n < 2 ^ 32
below_32 n e = grind (arith, e)

both : (a b : Bool) → (a && b) ≡ true → (a ≡ true) × (b ≡ true)
both true true e = (refl, refl)
both true false e = cc
both false b e = cc

pub writable : (key : Key) → is_writable key ≡ true → IsWritable key
writable (Text text) e = let p = both (is_utf8 text) (nat_lt (length text) (2 ^ 32)) e in record { utf8 = p.0; short = below_32 (length text) p.1 }
writable (Bytes bytes) e = below_32 (length bytes) e
writable (Number n) e = tt

first_writable : (b : Bool) (keys : List Key) → (if b then are_writable keys else false) ≡ true → (b ≡ true) × (are_writable keys ≡ true)
first_writable true keys e = (refl, e)
first_writable false keys e = cc

pub all_writable : (keys : List Key) → are_writable keys ≡ true → AreWritable keys
all_writable [] e = tt
all_writable (key ∷ keys) e = let p = first_writable (is_writable key) keys e in (writable key p.0, all_writable keys p.1)

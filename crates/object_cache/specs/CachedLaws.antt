-- What holds of every cached revision, from call to call: laws for a caller that knows something of all of them.
use Rattle.std.specs.Prelude.{◌≡◌, ◌≢◌, ◌<◌, ◌≤◌, ℕ, List, [], Option, Some, None, true, false, nat_lt, nat_eq, length, refl}
use Rattle.std.proofs.Common.{⊎_elim, sym, ◌∙◌, subst, ap, ltb-true}
use Rattle.std.proofs.lemmas.Bool.{cases_Bool, eqb-true, eqb-false}
use Rattle.object_cache.specs.declared.cache.CachedRevision.{CachedRevision}
use Rattle.object_cache.specs.Cached.{CachedObjects, cached_of, if_below, found_at, CachesSame, CachesAlso, CachesAllBut}

-- the object, the serial and the bytes of each cached revision have this property
pub record EachCached (P : ℕ → ℕ → List ℕ → Type 0) (objects : List (ℕ × CachedRevision)) : Type 0 where
  pub each : (oid : ℕ) (cached : CachedRevision) → cached_of objects oid ≡ Some cached → P oid cached.serial cached.bytes

module _ (P : ℕ → ℕ → List ℕ → Type 0) where
  -- nothing is cached
  pub each_of_none : EachCached P []
  each_of_none = record { each = λ oid cached h. cc }

  -- the property implies another one
  pub each_weaker : (Q : ℕ → ℕ → List ℕ → Type 0) (objects : List (ℕ × CachedRevision)) → ((oid serial : ℕ) (bytes : List ℕ) → P oid serial bytes → Q oid serial bytes) → EachCached P objects → EachCached Q objects
  each_weaker Q objects implies all = record { each = λ oid cached h. implies oid cached.serial cached.bytes (all.each oid cached h) }

  -- of each object the same is cached
  pub each_of_same : (old new : List (ℕ × CachedRevision)) → CachesSame old new → EachCached P old → EachCached P new
  each_of_same old new same all = record { each = λ oid cached h. all.each oid cached (sym (same.each oid) ∙ h) }

  with_at : (old : CachedObjects) (oid : ℕ) (cached : CachedRevision) (new : CachedObjects) → CachesAlso old oid cached new → EachCached P old.objects → P oid cached.serial cached.bytes
      → (o : ℕ) (k : CachedRevision) → cached_of new.objects o ≡ Some k → P o k.serial k.bytes
  with_at old oid cached new also all p o k h =
      ⊎_elim (λ (t : nat_eq o oid ≡ true).
      let same : o ≡ oid = eqb-true o oid t in
      let here : cached_of new.objects oid ≡ Some k = subst (λ (n : ℕ). cached_of new.objects n ≡ Some k) same h in
      let is : ◌≡◌ {A = Option CachedRevision} (Some cached) (Some k) = sym also.one ∙ here in
      let is_kept : cached ≡ k = cc in
      subst (λ (n : ℕ). P n k.serial k.bytes) (sym same) (subst (λ (j : CachedRevision). P oid j.serial j.bytes) is_kept p))
      (λ (t : nat_eq o oid ≡ false).
      ⊎_elim (λ (s : cached_of new.objects o ≡ cached_of old.objects o). all.each o k (sym s ∙ h))
      (λ (s : (cached_of new.objects o ≡ None) × (old.capacity ≤ length old.objects)). let none : cached_of new.objects o ≡ None = s.0 in cc)
      (also.others o (eqb-false o oid t)))
      (cases_Bool (nat_eq o oid))

  -- one more is cached, which has the property
  pub each_with : (old : CachedObjects) (oid : ℕ) (cached : CachedRevision) (new : CachedObjects) → CachesAlso old oid cached new → EachCached P old.objects → P oid cached.serial cached.bytes → EachCached P new.objects
  each_with old oid cached new also all p = record { each = with_at old oid cached new also all p }

  without_at : (old : List (ℕ × CachedRevision)) (oid : ℕ) (new : List (ℕ × CachedRevision)) → CachesAllBut old oid new → EachCached P old → (o : ℕ) (k : CachedRevision) → cached_of new o ≡ Some k → (o ≢ oid) × P o k.serial k.bytes
  without_at old oid new but all o k h =
      let ne : o ≢ oid = λ (same : o ≡ oid). let here : cached_of new oid ≡ Some k = subst (λ (n : ℕ). cached_of new n ≡ Some k) same h in let none : cached_of new oid ≡ None = but.one in cc in
      (ne, all.each o k (sym (but.others o ne) ∙ h))

  -- nothing is cached of one object: what is still cached is of others
  pub each_without : (old : List (ℕ × CachedRevision)) (oid : ℕ) (new : List (ℕ × CachedRevision)) → CachesAllBut old oid new → EachCached P old → EachCached (λ o serial bytes. (o ≢ oid) × P o serial bytes) new
  each_without old oid new but all = record { each = without_at old oid new but all }

  found_of : (oid front serial : ℕ) (bytes : List ℕ) (m : Option CachedRevision) → if_below front m ≡ Some (serial, bytes) → ((k : CachedRevision) → m ≡ Some k → P oid k.serial k.bytes) → P oid serial bytes × (serial < front)
  found_of oid front serial bytes None found each = cc
  found_of oid front serial bytes (Some k) found each =
      ⊎_elim (λ (t : nat_lt k.serial front ≡ true).
      let is : ◌≡◌ {A = Option (ℕ × List ℕ)} (Some (k.serial, k.bytes)) (Some (serial, bytes)) = rw t at found in
      let pair : ◌≡◌ {A = ℕ × List ℕ} (k.serial, k.bytes) (serial, bytes) = cc in
      let is_serial : k.serial ≡ serial = ap (λ (p : ℕ × List ℕ). p.0) pair in let is_bytes : k.bytes ≡ bytes = ap (λ (p : ℕ × List ℕ). p.1) pair in
      let low : k.serial < front = ltb-true k.serial front t in
      (subst (λ (b : List ℕ). P oid serial b) is_bytes (subst (λ (n : ℕ). P oid n k.bytes) is_serial (each k refl)), subst (λ (n : ℕ). n < front) is_serial low))
      (λ (t : nat_lt k.serial front ≡ false). let no_such : ◌≡◌ {A = Option (ℕ × List ℕ)} None (Some (serial, bytes)) = rw t at found in cc)
      (cases_Bool (nat_lt k.serial front))

  -- what is found has the property, and a serial below the front
  pub found_has : (objects : List (ℕ × CachedRevision)) (oid front serial : ℕ) (bytes : List ℕ) → found_at objects oid front ≡ Some (serial, bytes) → EachCached P objects → P oid serial bytes × (serial < front)
  found_has objects oid front serial bytes found all = found_of oid front serial bytes (cached_of objects oid) found (all.each oid)

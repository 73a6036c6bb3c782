-- Objects that are named one after another.
use Rattle.std.proofs.Common.{◌≡◌, ℕ, ◌+◌, ◌<◌, Bool, true, false, ◌||◌, List, [], take, length, get_or, Some, refl, ◌∙◌}
use Rattle.std.specs.List.{list_any}
use Rattle.std.proofs.lemmas.List.Folds.{list_any_more}
use Rattle.object_cache.specs.declared.cache.CachedRevision.{CachedRevision}
use Rattle.object_cache.specs.Cached.{cached_of}
use Rattle.connection_view.specs.declared.named.Named.{Named}
use Rattle.connection_view.specs.Named.{CoversNamed}
use Rattle.connection_view.specs.Views.{is_one_of}

or_left : (a b : Bool) → (a || b) ≡ false → a ≡ false
or_left false b h = refl
or_left true b h = h

or_right : (a b : Bool) → (a || b) ≡ false → b ≡ false
or_right false b h = h
or_right true b h = cc

module _ {X : Type 0} (test : X → ℕ → Bool) where
  -- nothing is named beside
  pub none_covered : (named : Named) → CoversNamed (λ oid. list_any (λ x. test x oid) []) named named
  none_covered named = record { kept = λ oid h. h; added = λ oid h. refl }

  -- one more is
  pub one_more_covered : (xs : List X) (i : ℕ) (d : X) (first old new : Named) → i < length xs → CoversNamed (λ oid. list_any (λ x. test x oid) (take i xs)) first old
      → CoversNamed (test (get_or xs i d)) old new → CoversNamed (λ oid. list_any (λ x. test x oid) (take (i + 1) xs)) first new
  one_more_covered xs i d first old new lt before now = record {
    kept = λ oid h. before.kept oid (now.kept oid h);
    added = λ oid h.
        let more : list_any (λ x. test x oid) (take (i + 1) xs) ≡ (list_any (λ x. test x oid) (take i xs) || test (get_or xs i d) oid) = list_any_more (λ x. test x oid) xs i d lt in
        let one : list_any (λ x. test x oid) (take i xs) ≡ false = before.added oid (now.kept oid h) in
        let two : test (get_or xs i d) oid ≡ false = now.added oid h in
        more ∙ rw (one, two) refl;
  }

-- of what is cached the objects that are named so far are gone
pub record KeepsBut (oids : List ℕ) (old new : List (ℕ × CachedRevision)) : Type 0 where
  pub kept : (oid : ℕ) (cached : CachedRevision) → cached_of new oid ≡ Some cached → cached_of old oid ≡ Some cached
  pub unnamed : (oid : ℕ) (cached : CachedRevision) → cached_of new oid ≡ Some cached → is_one_of oids oid ≡ false

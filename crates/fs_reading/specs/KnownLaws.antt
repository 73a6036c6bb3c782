-- Where contents are known to stand is known in one way, so that a type can keep it, and is known of longer bytes.
use Rattle.std.proofs.Common.{◌≡◌, ℕ, List, [], ◌∷◌, ◌++◌, Option, Some, None, sym, subst, append_assoc}
use Rattle.std.specs.Coded.{le_prop}
use Rattle.std.proofs.Props.{props}
use Rattle.zb_model.specs.declared.data.Content.{Content}
use Rattle.fs_records.specs.Listed.{content_set}
use Rattle.fs_reading.specs.declared.outline.KnownSource.{KnownSource}
use Rattle.fs_reading.specs.declared.outline.Source.{Source}
use Rattle.fs_reading.specs.Known.{AreSourcesOf, IsSourceOf}
use Rattle.fs_reading.specs.Sources.{IsSource}
use Rattle.fs_reading.specs.Standing.{IsContent}

pub IsSource-prop : (bytes : List ℕ) (content : Content) (source : Option Source) → IsProp (IsSource bytes content source)
IsSource-prop bytes content None = hlevel (content_set, props)
IsSource-prop bytes content (Some source) = hlevel (content_set, le_prop, props)

pub IsSourceOf-prop : (bytes : List ℕ) (at : ℕ) (source : Option Source) → IsProp (IsSourceOf bytes at source)
IsSourceOf-prop bytes at source = hlevel (IsSource-prop, props)

pub AreSourcesOf-prop : (bytes : List ℕ) (known : List KnownSource) → IsProp (AreSourcesOf bytes known)
AreSourcesOf-prop bytes [] = hlevel props
AreSourcesOf-prop bytes (k ∷ ks) = hlevel (IsSourceOf-prop bytes k.at k.source, AreSourcesOf-prop bytes ks, props)

source_longer : (bytes more : List ℕ) (at : ℕ) (source : Option Source) → IsSourceOf bytes at source → IsSourceOf (bytes ++ more) at source
source_longer bytes more at source is rest content there =
    let e : (bytes ++ more) ++ rest ≡ bytes ++ (more ++ rest) = append_assoc bytes more rest in
    subst (λ (x : List ℕ). IsSource x content source) (sym e) (is (more ++ rest) content (subst (λ (x : List ℕ). IsContent x content at) e there))

pub known_longer : (bytes more : List ℕ) (known : List KnownSource) → AreSourcesOf bytes known → AreSourcesOf (bytes ++ more) known
known_longer bytes more [] all = tt
known_longer bytes more (k ∷ ks) all = (source_longer bytes more k.at k.source all.0, known_longer bytes more ks all.1)

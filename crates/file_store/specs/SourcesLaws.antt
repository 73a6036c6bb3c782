-- Where contents are known to stand is known in one way, so that a store can keep it.
use Rattle.std.proofs.Common.{ℕ, List}
use Rattle.fs_reading.specs.declared.outline.KnownSource.{KnownSource}
use Rattle.fs_reading.specs.Known.{AreSourcesOf}
use Rattle.fs_reading.specs.KnownLaws.{AreSourcesOf-prop}

pub sources_once : (T B : Type 0) (bytes : List ℕ) (known : List KnownSource) → IsProp (T → B → AreSourcesOf bytes known)
sources_once T B bytes known = hlevel AreSourcesOf-prop

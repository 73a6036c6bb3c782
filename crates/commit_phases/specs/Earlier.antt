-- What was pending earlier. Own.
use Rattle.std.specs.Prelude.{ℕ, List, [], ◌∷◌, ◌==◌, if◌then◌else◌}
use Rattle.zb_model.specs.declared.data.Content.{Content}
use Rattle.zb_model.specs.declared.pending.PendingStore.{PendingStore}

-- the stores with this content of an object's store, if it has one
abbrev pub with_content : List PendingStore → ℕ → Content → List PendingStore
with_content [] oid content = []
with_content (p ∷ stores) oid content = if oid == p.oid then (record { oid = p.oid; base = p.base; content = content }) ∷ stores else p ∷ with_content stores oid content

-- the stores with these contents; of several of one object the first counts
abbrev pub with_contents : List PendingStore → List (ℕ × Content) → List PendingStore
with_contents stores [] = stores
with_contents stores (e ∷ es) = with_content (with_contents stores es) e.0 e.1

-- What a call over many objects is going to read. Own.
use Rattle.std.specs.Prelude.{◌≡◌, ◌^◌, ℕ, suc, true, List, [], Option, Some, None, Err, ◌⊎◌, All}
use Rattle.std.specs.Option.{option_map}
use Rattle.zb_record.specs.declared.error.RecordError.{RecordError}
use Rattle.zb_record.specs.Records.{record_of}
use Rattle.btree_shapes.specs.Nodes.{objects_of}
use Rattle.btree_shapes.specs.Ways.{stands_in}
use Rattle.btree_maps.specs.declared.span.Span.{Span}
use Rattle.btree_maps.specs.declared.span.Span.TheVariants as spans
use Rattle.btree_maps.specs.Visits.{met_at}
use Rattle.tree_attempts.specs.declared.known.Seen.{Seen}
use Rattle.tree_attempts.specs.declared.operation.TreeOperation.{TreeOperation}
use Rattle.tree_attempts.specs.declared.operation.TreeOperation.TheVariants as operation

-- the keys that a call over many objects takes, where it is one
abbrev pub span_of : TreeOperation → Option Span
span_of operation.Items = Some spans.All
span_of (operation.Range from to) = Some (spans.Within from to)
span_of _ = None

-- the bytes of an object that is known, where it has some
abbrev pub bytes_seen : Option Seen → Option (List ℕ)
bytes_seen seen = option_map (λ x. x.bytes) seen

-- there is no content, or it is no record
abbrev pub IsNoRecord : Option (List ℕ) → Type 0
IsNoRecord content = (content ≡ None) ⊎ ((bytes : List ℕ) × (e : RecordError) × (content ≡ Some bytes) × (record_of bytes ≡ Err e))

-- a walk over these keys comes to the object within so many levels
abbrev pub IsMet : (ℕ → Option (List ℕ)) → ℕ → Span → ℕ → ℕ → Type 0
IsMet contents root span room oid = stands_in (met_at span room (objects_of contents root) [] root) oid ≡ true

-- below such a level lie these, and these are wanted: a walk comes to each
abbrev pub AreAhead : (ℕ → Option (List ℕ)) → ℕ → Span → ℕ → List ℕ → List ℕ → Type 0
AreAhead contents root span room below wanted = All (IsMet contents root span (suc room)) below × All (IsMet contents root span (2 ^ 64)) wanted

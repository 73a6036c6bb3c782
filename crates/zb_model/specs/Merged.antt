-- What the contracts of rules say of their answers. Own.
use Rattle.std.specs.Prelude.{◌≡◌, ℕ, List, Option, Some, None, Result, Ok, Err}
use Rattle.zb_model.specs.declared.refusal.Why.{Why}
use Rattle.zb_model.specs.declared.rules.ResolveError.{ResolveError}
use Rattle.zb_model.specs.declared.rules.ResolveError.TheVariants as resolve_error
use Rattle.zb_model.specs.declared.rules.RefsError.{RefsError}
use Rattle.zb_model.specs.declared.rules.RefsError.TheVariants as refs_error

-- the answer is what merging gives; memory is free to run out
abbrev pub IsMerged : Result (List ℕ) Why → Result (List ℕ) ResolveError → Type 0
IsMerged merged (Ok bytes) = merged ≡ Ok bytes
IsMerged merged (Err (resolve_error.Refused why)) = merged ≡ Err why
IsMerged merged (Err resolve_error.Memory) = Unit {0}

-- the answer is what the bytes name, or that they are no record; memory is free to run out
abbrev pub IsNamed : Option (List ℕ) → Result (List ℕ) RefsError → Type 0
IsNamed named (Ok oids) = named ≡ Some oids
IsNamed named (Err refs_error.Unreadable) = named ≡ None
IsNamed named (Err refs_error.Memory) = Unit {0}

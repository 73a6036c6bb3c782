-- What contracts see of values that are lent.
use Rattle.std.specs.Prelude.{ℕ, Option}
use Rattle.std.specs.Option.{option_map}
use Rattle.std.specs.Borrow.{Bor}
use Rattle.zb_model.specs.Database.{ObjectRevision}
use Rattle.zb_model.specs.declared.data.Content.{Content}

-- a revision that is read where it stands
abbrev pub seen_revision : Option (ℕ × Bor Content) → Option ObjectRevision
seen_revision found = option_map (λ p. record { serial = p.0; content = p.1.now }) found

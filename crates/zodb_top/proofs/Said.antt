-- What is said of a file that isn't open.
use Rattle.std.proofs.Common.{◌≡◌, ℕ, List, Option, subst}
use Rattle.std.specs.Prelude.{codes}
use Rattle.fs_records.specs.declared.field.Field.{Field}
use Rattle.fs_recovery.specs.declared.errors.OpenError.{OpenError}
use Rattle.fs_recovery.specs.declared.errors.OpenError.TheVariants as error
use Rattle.script_runs.specs.declared.status.Status.{Status}
use Rattle.script_runs.specs.declared.status.Status.TheVariants as status
use Rattle.script_runs.specs.Written.{IsWritten}
use Rattle.zodb_top.specs.Texts.{damage_line}
use Rattle.script_runs.specs.Texts.{line, store_fault_line}
use Rattle.zodb_top.specs.Unopened.{SaysUnopened}

pub said_fault : (s : Status) (e : OpenError) (old new : Option (List ℕ)) (before now : ℕ) (text : List ℕ) → s ≡ status.StoreFault → e ≡ error.StoreFault → text ≡ store_fault_line → IsWritten old new before now text
    → SaysUnopened s e old new before now
said_fault s e old new before now text is of names wrote = rw is (of, subst (IsWritten old new before now) names wrote)

pub said_magic : (s : Status) (e : OpenError) (old new : Option (List ℕ)) (before now : ℕ) (text : List ℕ) → s ≡ status.Damaged → e ≡ error.NotFileStorage → text ≡ line (codes "damaged 0 magic") → IsWritten old new before now text
    → SaysUnopened s e old new before now
said_magic s e old new before now text is of names wrote = rw (is, of) (text, names, wrote)

pub said_rule : (s : Status) (e : OpenError) (old new : Option (List ℕ)) (before now at : ℕ) (field : Field) (text : List ℕ) → s ≡ status.Damaged → e ≡ error.BadRecord at field → text ≡ damage_line at field → IsWritten old new before now text
    → SaysUnopened s e old new before now
said_rule s e old new before now at field text is of names wrote = rw (is, of) (text, names, wrote)

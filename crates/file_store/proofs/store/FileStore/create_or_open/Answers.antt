use Rattle.std.proofs.Common.{refl, ap, option_map}
use Rattle.file_store.proofs.store.FileStore.create_or_open.Goals as goal

pub returns-in-Ok-clause-store : goal.returns-in-Ok-clause-store
returns-in-Ok-clause-store g c =
    let r = c.in-Ok.ensures.opening.ready in
    record { whole = refl; free = ap (option_map _) r.free; begun = refl; main = r.main; moments = r.moments; read_faults = r.faults.reads; faults = r.faults.writes }

pub returns-in-Ok-clause-clock : goal.returns-in-Ok-clause-clock
returns-in-Ok-clause-clock g c = let k = c.in-Ok.ensures.clock in record { kept = k.kept; left = k.left; given = k.given }

pub returns-in-Err-clause-refused : goal.returns-in-Err-clause-refused
returns-in-Err-clause-refused g c = c.in-Err.ensures.opening.refused

pub returns-in-Err-clause-clock : goal.returns-in-Err-clause-clock
returns-in-Err-clause-clock g c = let k = c.in-Err.ensures.clock in record { kept = k.kept; left = k.left; given = k.given }

pub returns-in-Ok-clause-hint : goal.returns-in-Ok-clause-hint
returns-in-Ok-clause-hint g c = λ told settled. c.in-Ok.ensures.hint told settled

pub returns-in-Err-clause-hint_left : goal.returns-in-Err-clause-hint_left
returns-in-Err-clause-hint_left g c = λ told settled. c.in-Err.ensures.hint told settled

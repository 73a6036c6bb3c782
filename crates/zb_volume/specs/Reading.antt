-- What a read gives of a volume in memory may be left by a crash at the same moment.
use Rattle.std.specs.Prelude.{Bool, true, false, if◌then◌else◌, List, [], ◌∷◌, take}
use Rattle.zb_volume.specs.declared.areas.Area.{Area}
use Rattle.zb_volume.specs.declared.areas.Area.TheVariants.{Main, Side, Hint}
use Rattle.zb_volume.specs.Calls.{Event, Call, WriteAt, CutTo, SyncOf, Replace, made, same_area}
use Rattle.zb_volume.specs.Disk.{Disk, disk, seen, settled, changed_to, written}
use Rattle.zb_volume.specs.Images.{MayLeave, CrashLeaves}
use Rattle.zb_volume.specs.Kept.{log_of}
use Rattle.zb_volume.specs.Lasting.{settled_left, new_left}

-- what a read gives may be left
abbrev IsLeft : Disk → Type 0
IsLeft d = MayLeave d.pending d.now

either : (b : Bool) (x y : Disk) → IsLeft x → IsLeft y → IsLeft (if b then x else y)
either true x y p q = p
either false x y p q = q

step : (call : Call) (log : List Event) → ((a : Area) → IsLeft (disk log a)) → (a : Area) → IsLeft (disk (made call ∷ log) a)
step (WriteAt b at bytes) log before a = let d = disk log a in either (same_area b a) (changed_to (written d.now at bytes) d) d (new_left d.pending _ d.now (before a)) (before a)
step (CutTo b n) log before a = let d = disk log a in either (same_area b a) (changed_to (take n d.now) d) d (new_left d.pending _ d.now (before a)) (before a)
step (SyncOf b) log before a = let d = disk log a in either (same_area b a) (settled d.now) d (settled_left d.now) (before a)
step Replace log before Main = before Side
step Replace log before Side = settled_left []
step Replace log before Hint = before Hint

pub seen_is_left : (calls : List Call) (a : Area) → CrashLeaves (log_of calls) a (seen (log_of calls) a)
seen_is_left [] a = settled_left []
seen_is_left (call ∷ calls) a = step call (log_of calls) (seen_is_left calls) a

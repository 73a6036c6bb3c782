use Rattle.fs_records.specs.Damage.{one_damage}
use Rattle.fs_records.proofs.laws.one_damage.Goals as goal

pub returns : goal.returns
returns c = one_damage

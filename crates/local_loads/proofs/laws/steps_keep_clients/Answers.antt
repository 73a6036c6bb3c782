use Rattle.local_loads.specs.LocalLaws.{kept_behind}
use Rattle.local_loads.proofs.laws.steps_keep_clients.Goals as goal

pub returns : goal.returns
returns g c = λ n q r old new before after tells step last v known may. kept_behind _ _ _ _ _ n q r old new before after tells step last v known may

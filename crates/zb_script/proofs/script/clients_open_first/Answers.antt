use Rattle.zb_script.proofs.ShapeLaws.{open_first}
use Rattle.zb_script.proofs.script.clients_open_first.Goals as goal

pub returns : goal.returns
returns c = open_first

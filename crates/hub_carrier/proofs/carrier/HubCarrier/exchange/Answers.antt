use Rattle.hub_carrier.proofs.Later.{kept_later}
use Rattle.hub_carrier.proofs.Serves.{piece_carried}
use Rattle.hub_carrier.proofs.carrier.HubCarrier.exchange.Goals as goal

pub returns-then-self-clause-later : goal.returns-then-self-clause-later
returns-then-self-clause-later g c = kept_later _ _

pub returns-in-Err-clause-later : goal.returns-in-Err-clause-later
returns-in-Err-clause-later g c = kept_later _ _

pub returns-clause-carried : goal.returns-clause-carried
returns-clause-carried g c = piece_carried _ _ _ _ _ _ _ _ _ _ c.in-Ok.ensures.cut c.in-Ok-serve_messages.ensures.served c.new-text.ensures.items c.from_vec.ensures

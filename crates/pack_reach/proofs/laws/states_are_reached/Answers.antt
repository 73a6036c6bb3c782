use Rattle.pack_reach.specs.LeadingLaws.{led_to_is_kept}
use Rattle.pack_reach.proofs.laws.states_are_reached.Goals as goal

pub returns : goal.returns
returns c = led_to_is_kept

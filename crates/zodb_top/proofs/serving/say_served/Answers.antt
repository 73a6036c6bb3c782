use Rattle.std.proofs.Common.{◌∙◌}
use Rattle.zodb_top.proofs.Serves.{says_all, says_link, says_spent, says_workers}
use Rattle.zodb_top.proofs.serving.say_served.Goals as goal

pub returns-in-StepsSpent-clause-says : goal.returns-in-StepsSpent-clause-says
returns-in-StepsSpent-clause-says g c =
    says_spent c.say_behind.result c.args.served c.args.count c.args.lines.now _ _ _ _ c.say_behind.ensures.status c.in-StepsSpent.is c.say_behind.ensures.written

pub returns-in-NoWorkers-clause-says : goal.returns-in-NoWorkers-clause-says
returns-in-NoWorkers-clause-says g c =
    says_workers c.say_behind-in-NoWorkers.result c.args.served c.args.count c.args.lines.now _ _ _ _ c.say_behind-in-NoWorkers.ensures.status c.in-NoWorkers.is c.say_behind-in-NoWorkers.ensures.written

pub returns-in-NoLink-clause-says : goal.returns-in-NoLink-clause-says
returns-in-NoLink-clause-says g c =
    says_link c.say_behind-in-NoLink.result c.args.served c.args.count c.args.lines.now _ _ _ _ c.say_behind-in-NoLink.ensures.status c.in-NoLink.is c.say_behind-in-NoLink.ensures.written

pub returns-in-Ok-clause-says : goal.returns-in-Ok-clause-says
returns-in-Ok-clause-says g c =
    says_all c.tell.result c.args.served c.args.count c.args.lines.now c.as_slice.result.now _ _ _ _ c.in-All.is (c.as_slice.ensures.value ∙ c.in-Ok.ensures) c.tell.ensures.told

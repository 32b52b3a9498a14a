use Rattle.spare_capacity.proofs.Slack.{available-least}
use Rattle.spare_capacity.proofs.laws.sum_is_slack.Goals as goal

pub returns : goal.returns
returns c =
    available-least c.args.rows.now c.args.dl c.requires.consecutive c.requires.filled c.requires.first c.requires.after c.requires.within

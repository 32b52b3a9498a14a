use Rattle.plan_change.proofs.SwitchVerdicts.{carrying_more_is_harder}
use Rattle.plan_change.proofs.laws.carrying_more_is_harder.Goals as goal

pub returns : goal.returns
returns c = carrying_more_is_harder

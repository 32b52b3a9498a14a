use Rattle.std.proofs.Common.{ap, map, ◌∙◌}
use Rattle.slot_lengths.specs.Growths.{growth_in, least_of}
use Rattle.slot_lengths.proofs.Least.{least-from_margins}
use Rattle.slot_lengths.proofs.growths.least_growth.Goals as goal

pub returns : goal.returns
returns c =
    c.least_of.ensures
    ∙ ap (λ ms. least_of (map growth_in ms)) c.items.ensures
    ∙ least-from_margins c.args.plan.now.tasks c.requires c.in_ok-margins.margins c.in_ok-margins.ensures

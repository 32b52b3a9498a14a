use Rattle.std.proofs.Common.{◌*◌, ◌/◌, ap, ◌∙◌}
use Rattle.sporadic_reserve.specs.declared.rates.TheConstants.{INVERSE_SCALE}
use Rattle.sporadic_reserve.proofs.Inverses.{separations-by_inverse}
use Rattle.sporadic_reserve.proofs.rates.separations_in.Goals as goal

pub returns-then-slots-lt-INVERSE_REACH : goal.returns-then-slots-lt-INVERSE_REACH
returns-then-slots-lt-INVERSE_REACH c =
    let rate = c.requires in
    ap (λ m. c.args.slots * m / INVERSE_SCALE) rate.inverse
    ∙ separations-by_inverse c.args.slots c.args.rate.separation rate.apart rate.near c.if-slots-lt-INVERSE_REACH.true

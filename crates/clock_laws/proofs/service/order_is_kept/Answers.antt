use Rattle.clock_laws.proofs.Order.{order_is_kept}
use Rattle.clock_laws.proofs.service.order_is_kept.Goals as goal

pub returns : goal.returns
returns c = order_is_kept

use Rattle.slot_lengths.proofs.Orders.{places-order-rows}
use Rattle.slot_lengths.proofs.laws.places_order_rows.Goals as goal

pub returns : goal.returns
returns c = places-order-rows

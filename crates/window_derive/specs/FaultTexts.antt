-- The texts of faults.
use Rattle.std.specs.Prelude.{ℕ, List, codes}
use Rattle.slot_core.specs.Output.Texts.{worded}
use Rattle.window_derive.specs.declared.OrderFault.{OrderFault}
use Rattle.window_derive.specs.declared.OrderFault.TheVariants.{Memory, Loop}

-- why a graph has no order
abbrev pub order_fault_text : OrderFault → List ℕ
order_fault_text Memory = codes "out of memory"
order_fault_text (Loop task) = worded (codes "loop task") task

use Rattle.std.proofs.Common.{◌≡◌, ◌++◌, map, take, drop}
use Rattle.trace_verify.specs.SoftSlots.{one_less}
use Rattle.trace_verify.proofs.soft.run_slot.Given as goal

-- the soft jobs so far have run their slot
abbrev pub invariant-loop-i : goal.invariant-loop-i
invariant-loop-i l =
    l.soft.items ≡ map (one_less l.key) (take l.i l.initial.soft.items) ++ drop l.i l.initial.soft.items

use Rattle.std.proofs.Common.{◌≡◌, ◌+◌, ◌*◌, ◌++◌, map, take}
use Rattle.slot_core.specs.declared.jobs.Span.{Span}
use Rattle.trace_verify.proofs.checker.push_points.Given as goal

-- the ends of the plan's first spans stand behind the points that were there
abbrev pub invariant-loop-span : goal.invariant-loop-span
invariant-loop-span l =
    l.points ≡ l.initial.points ++ map (λ (s : Span). s.end + l.n * l.plan.cycle) (take l.span-index l.span-items)

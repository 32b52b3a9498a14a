-- The lines of the arrivals so far are appended.
use Rattle.std.proofs.Common.{◌≡◌, ◌+◌, ◌*◌, ◌++◌, take}
use Rattle.std.specs.Prelude.{flat_map}
use Rattle.std.specs.List.{range_with_len}
use Rattle.plan_answers.specs.Who.{arrived_line}
use Rattle.plan_answers.proofs.who.push_arrived.Given as goal

abbrev pub invariant-loop-place : goal.invariant-loop-place
invariant-loop-place l = l.text.items ≡ l.initial.text.items ++ flat_map (λ m. arrived_line l.sporadic (l.from + m * l.sporadic.separation)) (range_with_len 0 l.place)

use Rattle.std.proofs.Common.{◌≡◌, ℕ, ◌+◌, ◌-◌, ◌/◌, ◌<◌, ◌≤◌, Option, Some, None, sym, ap, ◌∙◌, zero-add, arith}
use Rattle.std.specs.Prelude.{unwrap_or}
use Rattle.std.specs.Option.{SomeIff}
use Rattle.slot_core.specs.declared.tasks.Sporadic.{Sporadic}
use Rattle.slot_core.specs.Feasibility.Sporadics.{arrivals_due}
use Rattle.slot_facts.proofs.Demand.Arrivals.{arrivals_due-none, arrivals_due-at_once, arrivals_due-spaced}
use Rattle.demand_test.proofs.arrivals.arrivals_by.Goals as goal

-- the arrivals after the first are what a division gives, and all that are counted where there is no separation
counted : (s : Sporadic) (x : ℕ) (o : Option ℕ) → s.deadline ≤ x → SomeIff o (0 < s.separation) ((x - s.deadline) / s.separation) → unwrap_or o x + 1 ≡ arrivals_due s 0 0 x
counted s x None due h = sym (arrivals_due-at_once s 0 x (omega (arith, h)) (omega arith))
counted s x (Some n) due h =
    ap (λ k. k + 1) h.1
    ∙ ap (λ k. (x - k) / s.separation + 1) (sym (zero-add s.deadline))
    ∙ sym (arrivals_due-spaced s 0 x h.0 (omega arith))

pub returns-then-task-end : goal.returns-then-task-end
returns-then-task-end c =
    sym (arrivals_due-none c.args.task.now 0 c.args.end (omega arith))

pub returns : goal.returns
returns c =
    let count = counted c.args.task.now c.args.end c.checked_div.result c.if-task-end.false c.checked_div.ensures in
    omega arith

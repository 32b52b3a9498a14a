use Rattle.std.proofs.Common.{◌+◌, ◌-◌, length, sym, ap, ◌∙◌, inl, inr, arith}
use Rattle.std.proofs.lemmas.Bool.{cases_eq}
use Rattle.demand_test.specs.EndTables.{failing_in}
use Rattle.demand_test.proofs.EndCounts.{failing_in-Some, failing_in-None}
use Rattle.slot_facts.proofs.Lists.FirstSome.{first_some-found, first_some-from_none}
use Rattle.demand_test.proofs.windows.first_by_ends.Goals as goal

pub loop-until-preserved : goal.loop-until-preserved
loop-until-preserved c =
    let here = failing_in-None c.args.ends.now c.args.arrivals.now c.args.from c.loop-until.until (omega arith) in
    λ k low high. elim (cases_eq k c.loop-until.until) [
      | inl same ↦ ap (failing_in c.args.ends.now c.args.arrivals.now c.args.from) same ∙ here
      | inr other ↦ c.loop-until.invariant k low (omega arith)
    ]

pub returns-then-slots-needed : goal.returns-then-slots-needed
returns-then-slots-needed c =
    let ends = c.args.ends.now in
    let arrivals = c.args.arrivals.now in
    let a = c.args.from in
    let b = c.loop-until.until in
    let needed = c.need_of-needed.result in
    let here = failing_in-Some ends arrivals a b needed (omega arith) (omega arith) in
    sym (first_some-found (failing_in ends arrivals a) (record { from = a; until = b; demand = needed }) (a + 1) (length ends.sums.items - 1 - a) b (omega arith) (omega arith) (λ m low high. c.loop-until.invariant m (omega arith) high) here)

pub returns : goal.returns
returns c =
    let ends = c.args.ends.now in
    let a = c.args.from in
    sym (first_some-from_none (failing_in ends c.args.arrivals.now a) (a + 1) (length ends.sums.items - 1 - a) (λ m low high. c.loop-until.invariant m (omega arith) (omega arith)))

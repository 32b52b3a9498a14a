use Rattle.std.proofs.Common.{◌+◌, ◌-◌, length, sym, inl, inr, arith}
use Rattle.std.proofs.lemmas.Bool.{cases_lt}
use Rattle.demand_test.specs.EndTables.{failing_in}
use Rattle.demand_test.proofs.EndCounts.{failing_in-None}
use Rattle.slot_facts.proofs.Lists.FirstSome.{first_some-from_none}
use Rattle.demand_test.proofs.windows.failing_from.Goals as goal

pub returns-then-fits_by : goal.returns-then-fits_by
returns-then-fits_by c =
    let ends = c.args.ends.now in
    let arrivals = c.args.arrivals.now in
    let a = c.args.from in
    let fits = c.fits_by.ensures.0 c.if-fits_by.true in
    sym (first_some-from_none (failing_in ends arrivals a) (a + 1) (length ends.sums.items - 1 - a) (λ b low high. failing_in-None ends arrivals a b (elim (cases_lt c.args.last b) [
      | inl past ↦ c.requires.known b past (omega arith) (omega arith)
      | inr within ↦ fits b (omega arith) within
    ])))

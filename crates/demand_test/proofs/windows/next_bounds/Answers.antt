use Rattle.std.proofs.Common.{ℕ, ◌+◌, ◌<◌, ◌≤◌, arith}
use Rattle.demand_test.specs.EndTables.{first_end}
use Rattle.demand_test.proofs.EndSums.{ending_by-all}
use Rattle.demand_test.proofs.windows.next_bounds.Goals as goal

pub next_known-requires : goal.next_known-requires
next_known-requires c =
    record { latest = c.latest_of-latest.ensures.among c.args.last c.requires.within }

pub next_known-requires-2 : goal.next_known-requires-2
next_known-requires-2 c =
    record { latest = c.latest_of-latest.ensures.among c.args.last c.requires.within }

pub returns : goal.returns
returns c =
    λ need next known fits moves.
    let from = c.args.from in
    let slots = c.slots_of-slots.result in
    let moved : (b : ℕ) → from < b → c.latest_of-latest.result < b → b ≤ c.args.last → next b + slots ≤ need b = λ b low late high.
    let all = ending_by-all first_end c.args.started.now b (λ k d within. let due = c.latest_of-latest.ensures.latest k d within in omega arith) in
    omega (arith, moves b low high) in
    record {
      sought = c.next_known.ensures need next from known.sought moved;
      before = c.next_known-2.ensures need next from (record {
        after = omega arith;
        spare = λ b past low high. omega (arith, fits b low high);
      }) moved;
    }

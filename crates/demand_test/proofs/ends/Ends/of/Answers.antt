use Rattle.std.proofs.Common.{◌≡◌, ◌+◌, ◌*◌, ◌/◌, length, get_or, ap, ◌∙◌, arith}
use Rattle.std.proofs.lemmas.List.{get_or-replicate, length-replicate}
use Rattle.slot_core.specs.declared.TheConstants.{SLOT_LIMIT}
use Rattle.demand_test.specs.declared.ends.TheConstants.{BLOCK}
use Rattle.demand_test.specs.EndTables.{first_end}
use Rattle.demand_test.proofs.EndSums.{sum-IsEndTable-le, sum_take-IsEndTable, ending_by-none}
use Rattle.demand_test.proofs.ends.Ends.of.Goals as goal

pub add_up-requires : goal.add_up-requires
add_up-requires c =
    let jobs = c.args.jobs.now in
    let few = sum-IsEndTable-le jobs jobs c.args.cycle SLOT_LIMIT c.in_ok-sums.sums.items c.in_ok-sums.ensures (omega arith) (omega arith) in
    omega arith

pub returns : goal.returns
returns c =
    let jobs = c.args.jobs.now in
    let cycle = c.args.cycle in
    let table = c.in_ok-sums.ensures in
    let len = table.len in
    record {
      len = c.add_up.ensures.len ∙ table.len;
      blocks = record {
        inner = ap length c.in_ok-inner.ensures ∙ length-replicate (2 * cycle + 1) 0;
        blocks = ap length c.in_ok-blocks.ensures ∙ length-replicate (2 * cycle / BLOCK + 1) 0;
      };
      sums = λ b low. c.add_up.ensures.sums b (omega arith) ∙ sum_take-IsEndTable jobs jobs cycle c.in_ok-sums.sums.items table b low;
      passed = λ b low.
          let inner : get_or c.in_ok-inner.inner.items b 0 ≡ 0 = ap (λ xs. get_or xs b 0) c.in_ok-inner.ensures ∙ get_or-replicate (2 * cycle + 1) b 0 0 (omega arith) in
          let block : get_or c.in_ok-blocks.blocks.items (b / BLOCK) 0 ≡ 0 = ap (λ xs. get_or xs (b / BLOCK) 0) c.in_ok-blocks.ensures ∙ get_or-replicate (2 * cycle / BLOCK + 1) (b / BLOCK) 0 0 (omega arith) in
          omega (arith, ending_by-none first_end b);
    }

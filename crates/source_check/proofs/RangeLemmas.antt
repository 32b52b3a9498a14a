-- What the ranges of a set say of its sizes.
use Rattle.std.proofs.Common.{◌≡◌, true, get_or}
use Rattle.slot_core.specs.declared.tasks.TaskSet.{TaskSet}
use Rattle.slot_core.specs.Sets.Ranges.{is_in_range, graph_in_range}
use Rattle.slot_facts.proofs.Sets.Ranges.{SetRanges-from_test, few_graphs, few_tasks}
use Rattle.graph_unroll.proofs.RangeLemmas.{list_all_get_or}
use Rattle.source_check.specs.Checks.{AreFew}

-- a set in range has few graphs, each with few tasks
pub AreFew-from_range : (set : TaskSet) → is_in_range set ≡ true → AreFew set.graphs
AreFew-from_range set h =
    record {
      count = few_graphs set h;
      each = λ i d within. few_tasks (get_or set.graphs i d) (list_all_get_or graph_in_range set.graphs i d within (SetRanges-from_test set h).graphs);
    }

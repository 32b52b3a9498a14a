-- What a check tells of a fault, and the sizes that it asks for.
use Rattle.std.specs.Prelude.{◌≡◌, ◌≢◌, ◌≤◌, List, length, All, Option, Some, None, Result, MatchResult}
use Rattle.slot_core.specs.declared.TheConstants.{GRAPH_LIMIT, TASK_LIMIT}
use Rattle.slot_core.specs.declared.tasks.Graph.{Graph}
use Rattle.slot_core.specs.declared.faults.TaskFault.{TaskFault}
use Rattle.slot_core.specs.declared.faults.TaskFault.TheVariants.{Memory}

-- Ok where there is no fault, and else the fault
abbrev pub Tells : {T : Type 0} → Result T TaskFault → Option TaskFault → Type 0
Tells result fault = MatchResult result (λ _. fault ≡ None) (λ e. fault ≡ Some e)

-- the same, where memory lasts
abbrev pub TellsInMemory : {T : Type 0} → Result T TaskFault → Option TaskFault → Type 0
TellsInMemory result fault =
    MatchResult result (λ _. fault ≡ None) (λ e. e ≢ Memory → fault ≡ Some e)

-- no more graphs than a set may have, each of no more tasks than a graph may have
pub record AreFew (graphs : List Graph) : Type 0 where
  pub count : length graphs ≤ GRAPH_LIMIT
  pub each : All (λ (g : Graph). length g.tasks ≤ TASK_LIMIT) graphs

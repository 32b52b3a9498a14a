-- Every lawful history and every lawful trace of a feasible set is served and ordered.
use Rattle.std.proofs.Common.{◌+◌, ◌/◌, arith}
use Rattle.slot_core.specs.Sets.Cycles.{cycle_of}
use Rattle.slot_core.specs.Runs.Histories.{time_of}
use Rattle.slot_core.specs.Runs.Traces.{history_of}
use Rattle.slot_facts.specs.Lawful.{EveryLawfulHistoryIsServed, EveryLawfulTraceIsServed}
use Rattle.slot_facts.proofs.Legal.Bounds.{Reaches}
use Rattle.slot_facts.proofs.Legal.Served.{served, ordered}
use Rattle.slot_facts.proofs.Lawful.Data.{lawful-as_data}
use Rattle.slot_facts.proofs.Lawful.InTime.{none_was_late-lawful}
use Rattle.slot_facts.proofs.Lawful.Owned.{owned-lawful}
use Rattle.slot_facts.proofs.Lawful.Traces.{lawful-history_of}

-- every lawful history of a feasible set is served and ordered
pub every_lawful_history_is_served : EveryLawfulHistoryIsServed
every_lawful_history_is_served set h sound feasible lawful =
    let told = lawful-as_data set (cycle_of set) h lawful in
    let cycles = time_of h / cycle_of set + 3 in
    let reaches : Reaches set h cycles = omega arith in
    let owned = owned-lawful set cycles h sound feasible told reaches in
    let none_late = none_was_late-lawful set cycles sound feasible h told reaches in
    (served set h sound told owned none_late, ordered set h sound told owned none_late)

-- so is every lawful trace of fitting arrivals
pub every_lawful_trace_is_served : EveryLawfulTraceIsServed
every_lawful_trace_is_served set arrivals n entries sound feasible fits lawful =
    every_lawful_history_is_served set (history_of entries) sound feasible (lawful-history_of set arrivals n entries fits lawful)

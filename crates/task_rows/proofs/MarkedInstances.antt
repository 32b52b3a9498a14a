-- No instance that touches a picture is left unmarked.
use Rattle.std.proofs.Common.{◌≤◌, ◌<◌, ◌+◌, ◌*◌, ◌/◌, arith}
use Rattle.std.proofs.lemmas.Nat.{div_below, le-div}
use Rattle.slot_facts.proofs.Sets.Ranges.{GraphFits-from_test}
use Rattle.task_rows.specs.Laws.{EachInstanceIsMarked}

pub marked : EachInstanceIsMarked
marked graph edges instance in_range due released =
    let fits = GraphFits-from_test graph in_range in
    let upper : instance ≤ edges.last / graph.period = le-div instance edges.last graph.period fits.some_period (omega (arith, released)) in
    let early : edges.first < (instance + 2) * graph.period = omega (arith, due, fits.within, fits.some_period) in
    let lower : edges.first / graph.period < instance + 2 = div_below edges.first graph.period (instance + 2) fits.some_period early in
    (omega (arith, lower), omega (arith, upper, lower))

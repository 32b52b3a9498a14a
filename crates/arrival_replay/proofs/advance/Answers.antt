-- The replay stops at the arrival of the row.
use Rattle.std.proofs.Common.{◌-◌}
use Rattle.std.specs.Prelude.{⊤}
use Rattle.slot_core.specs.Runs.Traces.{trace}
use Rattle.arrival_replay.proofs.Stops.{StandsBefore-stopped, taken-always}
use Rattle.arrival_replay.proofs.advance.Goals as goal

pub returns-clause-before : goal.returns-clause-before
returns-clause-before g c = λ a at.
    let plan = c.args.exec.now.plan in
    let arrivals = c.args.arrivals.now in
    let exec = c.go_to.new.exec in
    let whole = trace plan.tasks arrivals c.args.slots in
    let stopped = taken-always c.go_to.result exec whole c.go_to.ensures.broke c.go_to.ensures.stopped in
    let last = taken-always c.go_to.result exec whole c.go_to.ensures.broke c.go_to.ensures.last_row in
    StandsBefore-stopped (λ told. ⊤) plan exec whole c.args.slots (c.args.row - 1) arrivals a c.go_to.ensures.plan c.requires.fitting stopped last at

use Rattle.std.proofs.Common.{ap}
use Rattle.view_waves.specs.Steps.{wire_on}
use Rattle.view_waves.proofs.Viewers.{on-told}
use Rattle.view_waves.proofs.laws.turns_are_to_what_runs.Goals as goal

pub returns-clause-runs : goal.returns-clause-runs
returns-clause-runs c = λ rows lines line key is runs. on-told rows lines line _ is (ap (wire_on rows) runs)

pub returns-clause-idle : goal.returns-clause-idle
returns-clause-idle c = λ rows lines line is idle. on-told rows lines line _ is (ap (wire_on rows) idle)

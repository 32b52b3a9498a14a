use Rattle.view_waves.specs.Steps.{first_wave}
use Rattle.view_waves.proofs.Folds.{turns-along}
use Rattle.view_waves.proofs.Viewers.{level-told, times-told}
use Rattle.view_waves.proofs.laws.one_wire_is_on.Goals as goal

pub returns-clause-wires : goal.returns-clause-wires
returns-clause-wires c = λ rows lines wire slot trace. level-told rows lines wire slot trace

pub returns-clause-turns : goal.returns-clause-turns
returns-clause-turns c = λ rows lines. turns-along rows (first_wave rows lines) lines

pub returns-clause-times : goal.returns-clause-times
returns-clause-times c = λ rows lines last trace. times-told rows lines last trace

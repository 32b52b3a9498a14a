use Rattle.clock_laws.proofs.Graphs.{graphs_are_served}
use Rattle.clock_laws.proofs.service.graphs_are_served.Goals as goal

pub returns : goal.returns
returns c = graphs_are_served

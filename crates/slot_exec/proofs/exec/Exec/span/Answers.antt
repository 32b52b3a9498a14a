use Rattle.std.proofs.Common.{rules, ◌≡◌}
use Rattle.std.specs.Prelude.{slice_get, Some}
use Rattle.slot_core.specs.Runs.Spans.{spans_of}
use Rattle.slot_exec.proofs.ShownExecutives.{span-of_history}
use Rattle.slot_exec.proofs.exec.Exec.span.Goals as goal

pub returns-clause-of_history : goal.returns-clause-of_history
returns-clause-of_history g c = λ h stands.
    let own : slice_get (spans_of c.args.self.now.plan.cycle c.args.self.now.scene) c.args.i ≡ Some c.read.result = search rules in
    span-of_history c.args.self.now h c.args.i c.read.result stands own

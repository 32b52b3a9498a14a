-- The lines are those of the input, or have a cause.
use Rattle.std.proofs.Common.{sym, subst}
use Rattle.std.specs.Prelude.{IfSome}
use Rattle.view_run.specs.Inputs.{Holds}
use Rattle.view_run.proofs.Causes.{input-shown, lines-refused}
use Rattle.view_run.proofs.work.read_lines.Goals as goal

pub returns-clause-shown : goal.returns-clause-shown
returns-clause-shown g c =
    let holds : IfSome (g.I.Files.held c.args.input.now) (λ files. Holds files c.deref.result.now) = subst (λ text. IfSome (g.I.Files.held c.args.input.now) (λ files. Holds files text)) (sym c.deref.ensures.value) c.in_ok-bytes.ensures.bytes in
    input-shown c.args.slots c.lines_of.result c.deref.result.now (g.I.Files.held c.args.input.now) holds c.lines_of.ensures.shown

pub returns-clause-refused : goal.returns-clause-refused
returns-clause-refused g c =
    let holds : IfSome (g.I.Files.held c.args.input.now) (λ files. Holds files c.deref.result.now) = subst (λ text. IfSome (g.I.Files.held c.args.input.now) (λ files. Holds files text)) (sym c.deref.ensures.value) c.in_ok-bytes.ensures.bytes in
    lines-refused c.args.slots c.lines_of.result c.deref.result.now (g.I.Files.held c.args.input.now) _ _ _ holds c.lines_of.ensures.refused

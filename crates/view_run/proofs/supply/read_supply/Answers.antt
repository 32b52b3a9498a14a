-- The lines are those of the supply on the input, or have a cause.
use Rattle.std.proofs.Common.{sym, subst}
use Rattle.std.specs.Prelude.{IfSome}
use Rattle.view_run.specs.Inputs.{Holds}
use Rattle.view_run.proofs.Causes.{supply-read, supply-refused}
use Rattle.view_run.proofs.supply.read_supply.Goals as goal

pub returns-clause-supply : goal.returns-clause-supply
returns-clause-supply g c =
    let holds : IfSome (g.I.Files.held c.args.input.now) (λ files. Holds files c.deref.result.now) = subst (λ text. IfSome (g.I.Files.held c.args.input.now) (λ files. Holds files text)) (sym c.deref.ensures.value) c.in_ok-bytes.ensures.bytes in
    supply-read c.steps_of.result c.deref.result.now (g.I.Files.held c.args.input.now) holds c.steps_of.ensures.text c.steps_of.ensures.stairs

pub returns-clause-refused : goal.returns-clause-refused
returns-clause-refused g c =
    let holds : IfSome (g.I.Files.held c.args.input.now) (λ files. Holds files c.deref.result.now) = subst (λ text. IfSome (g.I.Files.held c.args.input.now) (λ files. Holds files text)) (sym c.deref.ensures.value) c.in_ok-bytes.ensures.bytes in
    supply-refused c.steps_of.result c.deref.result.now (g.I.Files.held c.args.input.now) _ _ _ holds c.steps_of.ensures.refused

use Rattle.std.proofs.Common.{◌≡◌, [], Option, None, Some, refl, ap, sym, subst}
use Rattle.std.specs.Option.{option_map_or}
use Rattle.std.proofs.KnownBytes.{Appends-nil}
use Rattle.slot_core.specs.Keeping.Plans.{PlanParts}
use Rattle.command_line.specs.declared.commands.Output.TheVariants.{Change}
use Rattle.command_line.specs.Writings.{IsPartWriting}
use Rattle.slot_cli.specs.Due.{output_due}
use Rattle.slot_cli.proofs.change.change_plan.Goals as goal

pub returns-in-Some : goal.returns-in-Some
returns-in-Some g c = rw c.in-Some.is c.change_to.ensures

pub returns-in-None : goal.returns-in-None
returns-in-None g c = rw c.in-None.is ([], refl, Appends-nil (g.K.Sink.written c.args.out.now))

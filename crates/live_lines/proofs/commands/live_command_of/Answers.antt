use Rattle.live_lines.proofs.CommandLemmas.{command_of_text-fits}
use Rattle.live_lines.proofs.commands.live_command_of.Goals as goal

pub returns-clause-fits : goal.returns-clause-fits
returns-clause-fits c = rw c.command_of_text.ensures (command_of_text-fits c.args.tasks.now c.args.line.now)

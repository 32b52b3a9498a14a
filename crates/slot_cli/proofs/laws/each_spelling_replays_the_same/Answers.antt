use Rattle.slot_cli.proofs.TableReplays.{each_spelling_replays}
use Rattle.slot_cli.proofs.laws.each_spelling_replays_the_same.Goals as goal

pub returns : goal.returns
returns c = each_spelling_replays

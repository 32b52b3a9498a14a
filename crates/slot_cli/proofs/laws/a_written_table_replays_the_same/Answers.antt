use Rattle.slot_cli.proofs.TableReplays.{written_table_replays}
use Rattle.slot_cli.proofs.laws.a_written_table_replays_the_same.Goals as goal

pub returns : goal.returns
returns c = written_table_replays

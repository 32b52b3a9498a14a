use Rattle.live_run.proofs.ReplayLemmas.{dialogues-replayed}
use Rattle.live_run.proofs.laws.dialogues_are_replays.Goals as goal

pub returns : goal.returns
returns c = dialogues-replayed

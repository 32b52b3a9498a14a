use Rattle.time_texts.proofs.Writings.{times_are_read_back}
use Rattle.time_texts.proofs.laws.times_are_read_back.Goals as goal

pub returns : goal.returns
returns c = times_are_read_back

use Rattle.slot_lengths.proofs.Listed.{each-listed}
use Rattle.slot_lengths.proofs.laws.each_length_is_listed.Goals as goal

pub returns : goal.returns
returns c = each-listed

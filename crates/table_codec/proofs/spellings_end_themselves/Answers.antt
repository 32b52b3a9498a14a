use Rattle.table_codec.proofs.TableLaws.{no_prefix}
use Rattle.table_codec.proofs.spellings_end_themselves.Goals as goal

pub returns : goal.returns
returns c = no_prefix

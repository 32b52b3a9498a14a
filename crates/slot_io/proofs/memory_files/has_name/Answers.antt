use Rattle.std.proofs.Common.{rules}
use Rattle.std.proofs.lemmas.Map.Text.{is_eq-slice_cmp}
use Rattle.slot_io.proofs.memory_files.has_name.Goals as goal

pub returns : goal.returns
returns c = rw is_eq-slice_cmp (search rules)

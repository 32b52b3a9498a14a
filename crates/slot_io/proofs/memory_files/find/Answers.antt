use Rattle.std.proofs.Common.{ap, sym, ◌∙◌}
use Rattle.std.specs.Ordering.{nat_cmp}
use Rattle.std.specs.Cmp.Lexicographic.{slice_cmp, nat_list_cmp_total}
use Rattle.std.specs.FinMap.{find, get-from_entries}
use Rattle.slot_io.proofs.memory_files.find.Goals as goal

pub loop-entry-init : goal.loop-entry-init
loop-entry-init c =
    get-from_entries nat_list_cmp_total _ _
    ∙ ap (find (slice_cmp nat_cmp) c.args.name.now) (sym c.into_iter-entry-iterator.ensures.into_iter_gives.0)

use Rattle.std.proofs.Common.{◌≡◌}
use Rattle.std.specs.Ordering.{nat_cmp}
use Rattle.std.specs.Cmp.Lexicographic.{slice_cmp}
use Rattle.std.specs.FinMap.{get, find, from_entries}
use Rattle.std.specs.VecDeque.Iter.{deque_iter_rest}
use Rattle.slot_io.specs.Files.{Held}
use Rattle.slot_io.proofs.memory_files.find.Given as goal

abbrev pub invariant-loop-entry : goal.invariant-loop-entry
invariant-loop-entry l =
    let held : Held = from_entries l.entries.items in
    get held l.name ≡ find (slice_cmp nat_cmp) l.name (deque_iter_rest l.entry-iterator)

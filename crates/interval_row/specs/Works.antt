-- How the work of a span changes.
use Rattle.std.specs.Prelude.{ℕ, ◌+◌, ◌-◌, ◌≤◌, ◌^◌, ℤ, pos, ◌+ℤ◌, ◌-ℤ◌}
use Rattle.interval_row.specs.declared.spans.Change.{Change}
use Rattle.interval_row.specs.declared.spans.Change.TheVariants.{More, Fewer}

-- the work with so many slots more or fewer
abbrev pub changed_by : Change → ℕ → ℕ
changed_by (More slots) work = work + slots
changed_by (Fewer slots) work = work - slots

-- and the capacity, which has as many fewer or more
abbrev pub spare_by : Change → ℤ → ℤ
spare_by (More slots) spare = spare -ℤ pos slots
spare_by (Fewer slots) spare = spare +ℤ pos slots

-- no more work than 2 ^ 40 slots, and no fewer slots than there are
abbrev pub MayChangeBy : Change → ℕ → Type 0
MayChangeBy (More slots) work = work + slots ≤ 2 ^ 40
MayChangeBy (Fewer slots) work = slots ≤ work

-- The slots that are due by each end of the windows that have one start.
use Rattle.std.specs.Prelude.{◌≡◌, ℕ, ◌+◌, ◌-◌, ◌*◌, ◌/◌, ◌^◌, ◌<◌, ◌≤◌, max, ◌==◌, List, length, sum_by, slice_index, slice_set, Option, Some, None, nat_le, nat_lt, if◌then◌else◌}
use Rattle.slot_core.specs.declared.jobs.Job.{Job}
use Rattle.slot_core.specs.declared.jobs.Window.{Window}
use Rattle.demand_test.specs.declared.ends.Ends.{Ends}
use Rattle.demand_test.specs.declared.ends.TheConstants.{BLOCK}
use Rattle.demand_test.specs.declared.windows.Bounds.{Bounds}
use Rattle.demand_test.specs.declared.windows.Known.{Known}

-- the declared slots of the jobs whose end is b
abbrev pub ending_at : (Job → ℕ) → List Job → ℕ → ℕ
ending_at end jobs b = sum_by (λ (j : Job). if end j == b then j.declared else 0) jobs

-- the declared slots of the jobs whose end is at most b
unfoldable pub ending_by : (Job → ℕ) → List Job → ℕ → ℕ
ending_by end jobs b = sum_by (λ (j : Job). if nat_le (end j) b then j.declared else 0) jobs

-- a job of the first cycle counts from its deadline on
abbrev pub first_end : Job → ℕ
first_end j = j.dl

-- the same job of the next cycle counts from its deadline there on, in windows that end past the
-- first
abbrev pub next_end : ℕ → Job → ℕ
next_end cycle j = max (j.dl + cycle) (cycle + 1)

-- the numbers, with one of them raised
abbrev pub raised : List ℕ → ℕ → ℕ → List ℕ
raised numbers place by = slice_set numbers place (slice_index numbers place + by)

-- what begins to count at each end from 0 to two cycles: slots of these jobs of the first cycle,
-- and of those of the next
pub record IsEndTable (first next : List Job) (cycle : ℕ) (due : List ℕ) : Type 0 where
  pub len : length due ≡ 2 * cycle + 1
  pub ends :
      (b : ℕ) → b ≤ 2 * cycle
      → slice_index due b ≡ ending_at first_end first b + ending_at (next_end cycle) next b

-- the slots of the passed jobs that are due by b: those of earlier blocks, and those of its own
abbrev pub passed_by : Ends → ℕ → ℕ
passed_by ends b = slice_index ends.blocks.items (b / BLOCK) + slice_index ends.inner.items b

-- the slots of the other jobs that are due by b
abbrev pub due_by : Ends → ℕ → ℕ
due_by ends b = slice_index ends.sums.items b - passed_by ends b

-- a block has a place for each of its ends, and no block is without an end
pub record HasBlocks (ends : Ends) (last : ℕ) : Type 0 where
  pub inner : length ends.inner.items ≡ last + 1
  pub blocks : length ends.blocks.items ≡ last / BLOCK + 1

-- after these jobs are passed, for each end the slots by it are more by so many
pub record ArePassed (old new : Ends) (slots : ℕ → ℕ) : Type 0 where
  pub sums : new.sums.items ≡ old.sums.items
  pub inner : length new.inner.items ≡ length old.inner.items
  pub blocks : length new.blocks.items ≡ length old.blocks.items
  pub more :
      (b : ℕ) → b < length old.inner.items → passed_by new b ≡ passed_by old b + slots b

-- the ends of two cycles of these jobs, some of them passed
pub record AreEnds (jobs gone : List Job) (cycle : ℕ) (ends : Ends) : Type 0 where
  pub len : length ends.sums.items ≡ 2 * cycle + 1
  pub blocks : HasBlocks ends (2 * cycle)
  pub sums :
      (b : ℕ) → b ≤ 2 * cycle
      → slice_index ends.sums.items b
      ≡ ending_by first_end jobs b + ending_by (next_end cycle) jobs b
  pub passed : (b : ℕ) → b ≤ 2 * cycle → passed_by ends b ≡ ending_by first_end gone b

-- what is due by each end can be read: there is no more passed than there is, and sums of it are
-- small
pub record AreReadable (ends : Ends) : Type 0 where
  pub blocks : HasBlocks ends (length ends.sums.items - 1)
  pub fewer :
      (b : ℕ) → b < length ends.sums.items
      → passed_by ends b ≤ slice_index ends.sums.items b
  pub small :
      (b : ℕ) → b < length ends.sums.items → slice_index ends.sums.items b < 2 ^ 32

-- what the window [a, b) needs: what is due by b, and the arrivals of so many slots
abbrev pub needed_in : Ends → List ℕ → ℕ → ℕ → ℕ
needed_in ends arrivals a b = due_by ends b + slice_index arrivals (b - a)

-- the window [a, b), where it needs more than its slots
abbrev pub failing_in : Ends → List ℕ → ℕ → ℕ → Option Window
failing_in ends arrivals a b =
    let needed = needed_in ends arrivals a b in
    if nat_lt (b - a) needed then Some (record { from = a; until = b; demand = needed }) else None

-- the known end is not past the last, and each window from a that ends after it, and by the last,
-- has at least the known slots more than it needs
pub record IsKnown (need : ℕ → ℕ) (a last : ℕ) (known : Known) : Type 0 where
  pub after : known.after ≤ last
  pub spare :
      (b : ℕ) → known.after < b → a < b → b ≤ last → need b + known.spare ≤ b - a

-- all that is known of the windows from a holds
pub record AreKnown (need : ℕ → ℕ) (a last : ℕ) (bounds : Bounds) : Type 0 where
  pub sought : IsKnown need a last bounds.sought
  pub before : IsKnown need a last bounds.before

-- A processor in physical time, and the slots that a history gives to its jobs.
use Rattle.std.specs.Prelude.{◌≡◌, ℕ, ◌+◌, ◌-◌, ◌*◌, ◌/◌, ◌≤◌, ◌<◌, Bool, false, count_by, Option, Some, None}
use Rattle.std.specs.List.{range_with_len}
use Rattle.slot_core.specs.declared.jobs.Key.{Key}
use Rattle.slot_core.specs.declared.events.What.TheVariants.{Run}
use Rattle.slot_core.specs.Offline.Keys.{same_key}
use Rattle.slot_core.specs.Runs.Histories.{History, Follows, time_of}

-- which job has the processor in each nanosecond: none where it idles, or where the executive or a
-- handler runs
abbrev pub Processor : Type 0
Processor = ℕ → Option Key

-- the nanosecond is the job's
abbrev pub is_of : Key → Option Key → Bool
is_of key None = false
is_of key (Some k) = same_key key k

-- how many nanoseconds the job gets from a time on, in so many
abbrev pub nanos_in : Processor → Key → ℕ → ℕ → ℕ
nanos_in has key from length = count_by (λ t. is_of key (has t)) (range_with_len from length)

-- how many it gets from one time up to another
abbrev pub nanos_between : Processor → Key → ℕ → ℕ → ℕ
nanos_between has key from to = nanos_in has key from (to - from)

-- a slot in which a job runs gives it all of the slot but the overhead, somewhere inside the slot,
-- whether the job uses it or ends before
abbrev pub Gives : ℕ → ℕ → Processor → History → Type 0
Gives slot overhead has h =
    (key : Key) (earlier : History) → Follows h (Run key) earlier
    → slot ≤ nanos_in has key (time_of earlier * slot) slot + overhead

-- the processor carries the history: it gives each slot to its job, and before the history's time no
-- job has the processor outside its slots; of later times this says nothing
pub record Carries (slot overhead : ℕ) (has : Processor) (h : History) : Type 0 where
  pub gives : Gives slot overhead has h
  pub only :
      (key : Key) (t : ℕ) → t < time_of h * slot → has t ≡ Some key
      → (earlier : History) × Follows h (Run key) earlier × (time_of earlier ≡ t / slot)

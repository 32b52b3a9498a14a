-- The slots that are due at each time after a change of plan.
use Rattle.std.specs.Prelude.{◌≡◌, ℕ, ◌+◌, ◌≤◌, ◌<◌, ◌^◌, List, length, sum, take}
use Rattle.slot_core.specs.declared.jobs.Job.{Job}
use Rattle.slot_core.specs.declared.jobs.Evidence.{Evidence}
use Rattle.slot_core.specs.Feasibility.Sporadics.{sporadic_demand}
use Rattle.slot_core.specs.Runs.Demand.{work_by}
use Rattle.sporadic_reserve.specs.Reserves.{Reserved}

-- the sum of the numbers at the places up to x
abbrev pub sum_to : List ℕ → ℕ → ℕ
sum_to due x = sum (take (x + 1) due)

-- the slots left of these jobs, at the times from 0 to `last` at which they are due
pub record IsDueTable (jobs : List Job) (last : ℕ) (due : List ℕ) : Type 0 where
  pub len : length due ≡ last + 1
  pub sums : (x : ℕ) → x ≤ last → sum_to due x ≡ work_by jobs x
  pub small : sum due < 2 ^ 62

-- what is needed by x: what is due by then, and the densest arrivals of the reserve
abbrev pub needed_by : List ℕ → Reserved → ℕ → ℕ
needed_by due reserve x = sum_to due x + sporadic_demand reserve.sporadics reserve.nexts 0 x

-- at each time from 1 to `last` what is needed fits
abbrev pub FitsBy : (ℕ → ℕ) → ℕ → Type 0
FitsBy needed last = (x : ℕ) → 1 ≤ x → x ≤ last → needed x ≤ x

-- the evidence, told with times from `at` on, is that of the first time from 1 to `last` at which
-- it does not
pub record IsFirstShort (needed : ℕ → ℕ) (last at : ℕ) (e : Evidence) : Type 0 where
  pub after : 1 ≤ e.room
  pub within : e.room ≤ last
  pub until : e.until ≡ at + e.room
  pub need : e.need ≡ needed e.room
  pub more : e.room < e.need
  pub least : (x : ℕ) → 1 ≤ x → x < e.room → needed x ≤ x

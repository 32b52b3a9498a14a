-- A change of plan in numbers: the jobs that remain, which of them go on, and what is told.
use Rattle.std.specs.Prelude.{◌≡◌, ℕ, ◌+◌, ◌-◌, ◌^◌, Bool, true, ◌&&◌, ◌==◌, nat_lt, if◌then◌else◌, List, length, map, Option, Some, None}
use Rattle.slot_core.specs.declared.jobs.Job.{Job}
use Rattle.slot_core.specs.declared.tasks.TaskSet.{TaskSet}
use Rattle.slot_core.specs.Keeping.Executives.{Executive}
use Rattle.slot_core.specs.Keeping.Plans.{IsPlan, PlanParts}
use Rattle.table_codec.specs.Grammar.{Spells}
use Rattle.plan_change.specs.declared.keep.Keep.{Keep}
use Rattle.plan_change.specs.declared.keep.Keep.TheVariants.{Drop, Started, Graphs}
use Rattle.plan_change.specs.declared.moves.Refusal.{Refusal}
use Rattle.plan_change.specs.declared.offers.Offer.{Offer}
use Rattle.plan_change.specs.Carrying.{carried_from, cut_count, offers_from}
use Rattle.plan_change.specs.Changed.{CanStartWith, HasNoRoom, IsChanged, IsCutOff}
use Rattle.plan_change.specs.SoftWork.{IsChangedWithSoft, IsCutOffWithSoft, soft_from}
use Rattle.slot_port.specs.declared.changes.TheConstants.{DROP, STARTED, GRAPHS}
use Rattle.slot_port.specs.declared.numbers.Told.{Told}
use Rattle.slot_port.specs.declared.changes.JobNumbers.{JobNumbers}
use Rattle.slot_port.specs.declared.status.TheConstants.{OK, BAD_ROW, BAD_NUMBER, NOT_FRESH}
use Rattle.slot_port.specs.Answers.{three_numbers}
use Rattle.slot_port.specs.Keys.{key_numbers}
use Rattle.slot_port.specs.Statuses.{range_status}

-- a remaining job: its key, the slots that it has left, its deadline and its start
abbrev pub job_numbers : Job → JobNumbers
job_numbers job =
    record { key = key_numbers job.key; left = job.left; deadline = job.dl; start = job.est }

-- the remaining jobs of an executive
abbrev pub jobs_in : Executive → List JobNumbers
jobs_in exec = map job_numbers exec.scene.jobs

-- the status of the job at a place: there is one
abbrev pub job_status : Executive → ℕ → ℕ
job_status exec place = range_status (nat_lt place (length exec.scene.jobs))

-- which offline jobs go on, by its number
abbrev pub keep_named : ℕ → Option Keep
keep_named keep =
    if keep == DROP then Some Drop
    else if keep == STARTED then Some Started
    else if keep == GRAPHS then Some Graphs
    else None

-- the first row for offline jobs lies above the last one, and so many rows follow as a cycle has
-- slots; where none goes on it says nothing
abbrev pub first_fits : Executive → ℕ → Keep → Bool
first_fits from first Drop = true
first_fits from first _ = nat_lt from.last_row first && nat_lt (first + from.plan.cycle) (2 ^ 32)

-- the status of what a change asks for
abbrev pub asked_status : Executive → ℕ → Option Keep → ℕ
asked_status from first None = BAD_NUMBER
asked_status from first (Some keep) = if first_fits from first keep then OK else BAD_ROW

-- no slot has passed, and no arrival has had a row above 0
abbrev pub is_at_start : Executive → Bool
is_at_start exec = exec.scene.time == 0 && exec.last_row == 0

-- the status of what is asked of two executives
abbrev pub carry_status : Executive → Executive → ℕ → ℕ → ℕ
carry_status from into first keep =
    if is_at_start into then asked_status from first (keep_named keep) else NOT_FRESH

-- of a change that is made: how many jobs are carried over, and how many of them have a deadline
-- that is cut
abbrev pub moved_numbers : Keep → Executive → ℕ → Told
moved_numbers keep from cycle =
    three_numbers
    0
    (length (carried_from keep from))
    (cut_count from.scene.time cycle (carried_from keep from))
    0

-- of one that is refused: the row of the first offer that has no room, the time by which more is
-- needed, the need and the room
abbrev pub refusal_numbers : Refusal → Told
refusal_numbers refusal =
    three_numbers refusal.row refusal.evidence.until refusal.evidence.need refusal.evidence.room

-- the change is refused: these offers cannot be served, and what is told names the first that has
-- no room, with its evidence
pub record IsNoChange
    (set : TaskSet) (offers : List Offer) (refusal : Refusal) (told : Told) : Type 0 where
  pub tells : told ≡ refusal_numbers refusal
  pub cannot : ¬ (CanStartWith set offers)
  pub shown : HasNoRoom set offers refusal

-- the executive goes on as the second one, and what is told counts what was carried over
abbrev pub Carries : Keep → ℕ → Executive → Executive → Executive → Told → Type 0
Carries keep first from before after told =
    IsChanged before.plan (offers_from keep from before.plan.cycle first) after
    × (told ≡ moved_numbers keep from before.plan.cycle)

-- or it does not, and the second one has accepted the offers before the one that has no room
abbrev pub CannotCarry : Keep → ℕ → Executive → Executive → Executive → Told → Type 0
CannotCarry keep first from before after told =
    let offers = offers_from keep from before.plan.cycle first in
    (refusal : Refusal)
    × IsNoChange before.plan.tasks offers refusal told
    × IsCutOff before.plan offers refusal after

-- of a change at which soft work goes over too: how many soft jobs do, how many guaranteed ones,
-- how many of these have a deadline that is cut, and how many soft jobs are left behind
abbrev pub moved_with_soft_numbers : Keep → Executive → ℕ → ℕ → Told
moved_with_soft_numbers keep from cycle limit =
    three_numbers
    (length (soft_from from limit))
    (length (carried_from keep from))
    (cut_count from.scene.time cycle (carried_from keep from))
    (length from.scene.soft - limit)

-- the executive goes on as the second one with the soft work that may wait there
abbrev pub CarriesWithSoft : Keep → ℕ → Executive → Executive → Executive → Told → Type 0
CarriesWithSoft keep first from before after told =
    IsChangedWithSoft
    before.plan
    (offers_from keep from before.plan.cycle first)
    (soft_from from before.plan.tasks.soft_limit)
    after
    × (told
    ≡ moved_with_soft_numbers keep from before.plan.cycle before.plan.tasks.soft_limit)

-- or it does not, and the second one has taken what comes before the offer that has no room
abbrev pub CannotCarryWithSoft : Keep → ℕ → Executive → Executive → Executive → Told → Type 0
CannotCarryWithSoft keep first from before after told =
    let offers = offers_from keep from before.plan.cycle first in
    (refusal : Refusal)
    × IsNoChange before.plan.tasks offers refusal told
    × IsCutOffWithSoft
    before.plan
    offers
    (soft_from from before.plan.tasks.soft_limit)
    refusal
    after

-- an executive of the plan that the bytes spell goes on where the first one was
abbrev pub Changes : Keep → ℕ → Executive → List ℕ → Executive → Told → Type 0
Changes keep first from table after told =
    IsPlan after.plan
    × Spells table after.plan
    × IsChanged after.plan (offers_from keep from after.plan.cycle first) after
    × (told ≡ moved_numbers keep from after.plan.cycle)

-- and with the soft work that may wait there
abbrev pub ChangesWithSoft : Keep → ℕ → Executive → List ℕ → Executive → Told → Type 0
ChangesWithSoft keep first from table after told =
    IsPlan after.plan
    × Spells table after.plan
    × IsChangedWithSoft
    after.plan
    (offers_from keep from after.plan.cycle first)
    (soft_from from after.plan.tasks.soft_limit)
    after
    × (told ≡ moved_with_soft_numbers keep from after.plan.cycle after.plan.tasks.soft_limit)

-- or it cannot go on with that plan
abbrev pub CannotChange : Keep → ℕ → Executive → List ℕ → Told → Type 0
CannotChange keep first from table told =
    (plan : PlanParts)
    × IsPlan plan
    × Spells table plan
    × ((refusal : Refusal)
    × IsNoChange plan.tasks (offers_from keep from plan.cycle first) refusal told)

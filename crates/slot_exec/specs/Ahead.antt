-- What is told ahead of slots, and what the parts of an executive tell of it.
use Rattle.std.specs.Prelude.{◌≡◌, ◌≢◌, ℕ, zero, suc, ◌+◌, ◌-◌, ◌≤◌, ◌<◌, ◌⊎◌, min, List, [], ◌∷◌, Option, Some, None, ⊤, true}
use Rattle.std.specs.Option.{option_map_or}
use Rattle.slot_core.specs.declared.jobs.Job.{Job}
use Rattle.slot_core.specs.declared.jobs.SoftJob.{SoftJob}
use Rattle.slot_core.specs.declared.jobs.Span.{Span}
use Rattle.slot_core.specs.declared.tasks.TaskSet.{TaskSet}
use Rattle.slot_core.specs.declared.events.What.{What}
use Rattle.slot_core.specs.Feasibility.Sporadics.{sporadic_demand}
use Rattle.slot_core.specs.Runs.Histories.{History}
use Rattle.slot_core.specs.Runs.Traces.{slot, told_of}
use Rattle.spare_capacity.specs.Laws.{work_until}
use Rattle.spare_capacity.specs.Recurrence.{last_end}
use Rattle.sporadic_reserve.specs.Reserves.{Reserved}
use Rattle.guarantee.specs.Offers.{need_until, soft_fits, IsShortAfter}
use Rattle.job_queue.specs.Starts.{first_start}
use Rattle.slot_exec.specs.declared.rooms.Remembered.{Remembered}
use Rattle.slot_exec.specs.declared.runs.Chosen.{Chosen}
use Rattle.slot_exec.specs.declared.runs.Chosen.TheVariants.{Nothing, Soft, Guaranteed}

-- of each of the next n slots, where nothing arrives before them, this is told
abbrev pub TellsAhead : TaskSet → ℕ → What → ℕ → History → Type 0
TellsAhead set cycle what zero h = ⊤
TellsAhead set cycle what (suc n) h =
    (what ≡ told_of set cycle h slot) × TellsAhead set cycle what n (what ∷ h)

-- the history after n slots of which this is told
abbrev pub history_ahead : What → ℕ → History → History
history_ahead what zero h = h
history_ahead what (suc n) h = history_ahead what n (what ∷ h)

-- of the slot after these n something else is told
abbrev pub TellsOtherAfter : TaskSet → ℕ → What → ℕ → History → Type 0
TellsOtherAfter set cycle what n h = what ≢ told_of set cycle (history_ahead what n h) slot

-- how many slots from this time on, at most `most`, pass before a job starts that goes before this
-- one, or any job where none is given
abbrev pub slots_to_start : ℕ → Option Job → List Job → ℕ → ℕ
slots_to_start time other jobs most =
    option_map_or (λ s. min (s - time) most) (first_start time other jobs) most

-- so many slots from t on soft work may take: with each of them, no more is needed by a later time
-- than there are slots, where sporadic tasks arrive after it
abbrev pub AreFree : List Span → Reserved → ℕ → ℕ → Type 0
AreFree spans reserve t n =
    (k x : ℕ) → k < n → t + k < x → x ≤ last_end t spans
    → 1 ≤ need_until spans reserve (t + k + 1) x
    → k + 1 + need_until spans reserve (t + k + 1) x ≤ x - t

-- so much is due by `tight`, a time to come, that with the arrivals after n slots no slot is left
pub record IsTightFor (spans : List Span) (reserve : Reserved) (time n : ℕ) (room : Remembered)
    : Type 0 where
  pub after : time < room.tight
  pub within : room.tight ≤ last_end time spans
  pub due : room.due ≡ work_until spans room.tight
  pub short :
      room.tight - time
      ≤ room.due + sporadic_demand reserve.sporadics reserve.nexts (time + n) room.tight

-- the slots that the first soft job has left
abbrev pub first_left : List SoftJob → ℕ
first_left [] = 0
first_left (s ∷ soft) = s.left

-- what is chosen may be told ahead: soft work may run and waits, or the job has a slot left, and
-- where soft work waits beside it, the time that is remembered is tight
abbrev pub MayTell :
    Chosen → List Span → Reserved → ℕ → List SoftJob → Remembered → Type 0
MayTell Nothing spans reserve time soft room = ⊤
MayTell (Soft row) spans reserve time soft room =
    (1 ≤ first_left soft) × (soft_fits spans reserve time ≡ true)
MayTell (Guaranteed job) spans reserve time soft room =
    (1 ≤ job.left)
    × (soft ≢ [] → reserve.sporadics ≢ [] → IsTightFor spans reserve time 1 room)

-- soft work runs n slots, at most `most`: these are free, and where they are fewer than `most` and
-- than those of the first soft job, the next is not
pub record SoftStays (spans : List Span) (reserve : Reserved) (time most : ℕ)
    (soft : List SoftJob) (n : ℕ) : Type 0 where
  pub left : n ≤ first_left soft
  pub free : AreFree spans reserve time n
  pub short : n < most → n < first_left soft → IsShortAfter spans reserve time n

-- a job runs n slots, at most `most`, as far as its own and the start of one that goes before it
-- allow: as many where no soft work waits or no sporadic task may come, else no more than the
-- tight time allows
pub record JobStays (spans : List Span) (reserve : Reserved) (time most : ℕ) (jobs : List Job)
    (soft : List SoftJob) (job : Job) (n : ℕ) : Type 0 where
  pub few : n ≤ slots_to_start time (Some job) jobs (min most job.left)
  pub all :
      (soft ≡ []) ⊎ (reserve.sporadics ≡ [])
      → n ≡ slots_to_start time (Some job) jobs (min most job.left)
  pub tight :
      soft ≢ [] → reserve.sporadics ≢ []
      → (room : Remembered) × IsTightFor spans reserve time n room

-- what is chosen stays so for n slots, at most `most`
abbrev pub Stays :
    Chosen → List Span → Reserved → ℕ → List Job → List SoftJob → ℕ → ℕ → Type 0
Stays Nothing spans reserve time jobs soft most n = n ≡ slots_to_start time None jobs most
Stays (Soft row) spans reserve time jobs soft most n = SoftStays spans reserve time most soft n
Stays (Guaranteed job) spans reserve time jobs soft most n =
    JobStays spans reserve time most jobs soft job n

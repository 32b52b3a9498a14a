-- What an executive remembers of the room for soft work.
use Rattle.std.specs.Prelude.{◌≡◌, ℕ, ◌+◌, ◌-◌, ◌≤◌, ◌<◌, min, Bool, List, Option, nat_le, if◌then◌else◌}
use Rattle.std.specs.Option.{option_map_or}
use Rattle.slot_core.specs.declared.TheConstants.{HORIZON_LIMIT}
use Rattle.slot_core.specs.declared.events.Spo.{Spo}
use Rattle.slot_core.specs.declared.events.Spo.TheVariants.{Soon, Taken}
use Rattle.slot_core.specs.declared.jobs.Job.{Job}
use Rattle.slot_core.specs.declared.jobs.Span.{Span}
use Rattle.slot_core.specs.declared.tasks.Sporadic.{Sporadic}
use Rattle.slot_core.specs.Runs.Demand.{need_by, work_by}
use Rattle.slot_core.specs.Runs.Scenes.{Scene, horizon}
use Rattle.spare_capacity.specs.Laws.{work_until}
use Rattle.spare_capacity.specs.Recurrence.{last_end}
use Rattle.sporadic_reserve.specs.Reserves.{Reserved}
use Rattle.guarantee.specs.Offers.{need_until}
use Rattle.slot_exec.specs.declared.rooms.Remembered.{Remembered}
use Rattle.slot_exec.specs.declared.runs.Chosen.{Chosen}
use Rattle.slot_exec.specs.declared.runs.Chosen.TheVariants.{Guaranteed}

-- so many slots are free up to each later time by which something is needed; and so much work is
-- due by `tight`, while that time is still to come
pub record Remembers (need work : ℕ → ℕ) (time end : ℕ) (room : Remembered) : Type 0 where
  pub free : (x : ℕ) → time < x → x ≤ end → 1 ≤ need x → room.free + need x ≤ x - time
  pub due : time < room.tight → (room.tight ≤ end) × (room.due ≡ work room.tight)

-- this is remembered of a scene, where sporadic tasks arrive from `from` on
abbrev pub RemembersScene : List Sporadic → ℕ → Scene → ℕ → Remembered → Type 0
RemembersScene sporadics cycle scene from room =
    Remembers
    (need_by sporadics scene from)
    (work_by scene.jobs)
    scene.time
    (horizon cycle scene.time)
    room

-- this is remembered of spans and a reserve, where sporadic tasks arrive after this slot
abbrev pub RemembersSpans : List Span → Reserved → ℕ → Remembered → Type 0
RemembersSpans spans reserve time room =
    Remembers
    (need_until spans reserve (time + 1))
    (work_until spans)
    time
    (last_end time spans)
    room

-- the spans may be searched in this slot: the last one ends after it and before the furthest
-- horizon, and this is remembered
pub record MaySearch
    (spans : List Span) (reserve : Reserved) (time : ℕ) (kept : Remembered) : Type 0 where
  pub after : time < last_end time spans
  pub near : last_end time spans < HORIZON_LIMIT
  pub room : RemembersSpans spans reserve time kept

-- the work due by `tight` after this has run a slot: one less where it is a job that is due by then
abbrev pub due_after : Chosen → Remembered → ℕ
due_after (Guaranteed job) room =
    if nat_le job.dl room.tight then room.due - 1 else room.due
due_after _ room = room.due

-- what is remembered after a slot in which this ran: a slot less is free, or none where a cycle has
-- turned
abbrev pub room_after : Chosen → Bool → Remembered → Remembered
room_after chosen turned room = record {
  free = if turned then 0 else room.free - 1;
  tight = room.tight;
  due = due_after chosen room;
}

-- the slots free once this job is in: those free before, at most up to its deadline, less its own
abbrev pub free_beside : Job → ℕ → ℕ
free_beside job free = min free (job.dl - job.est) - job.left

-- the work due by `tight` once this job is in: its slots more where it is due by then
abbrev pub due_with : Job → ℕ → ℕ → ℕ
due_with job tight due = if nat_le job.dl tight then due + job.left else due

-- the work due by `tight` once this job is gone: its slots less where it was due by then
abbrev pub due_without : Job → ℕ → ℕ → ℕ
due_without job tight due = if nat_le job.dl tight then due - job.left else due

-- the work due by `tight` after a sporadic arrival: with its job where it is taken, else as it was
abbrev pub due_told : Spo → Job → ℕ → ℕ → ℕ
due_told (Soon next) job tight due = due
due_told (Taken deadline) job tight due = due_with job tight due

-- the work due by `tight` after an end or a withdrawal: without the job that goes, else as it was
abbrev pub due_left : Option Job → ℕ → ℕ → ℕ
due_left gone tight due = option_map_or (λ (j : Job). due_without j tight due) gone due

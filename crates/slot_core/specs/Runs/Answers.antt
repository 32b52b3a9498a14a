-- The answers to arrivals.
use Rattle.std.specs.Prelude.{ℕ, ◌+◌, ◌-◌, ◌==◌, List, ◌++◌, filter, map, length, find, Option, nat_lt, slice_get, slice_index, if◌then◌else◌}
use Rattle.std.specs.Option.{option_map_or}
use Rattle.std.specs.List.{range_with_len}
use Rattle.slot_core.specs.declared.jobs.Key.{Key}
use Rattle.slot_core.specs.declared.jobs.Key.TheVariants.{Soft as SoftKey, Firm as FirmKey}
use Rattle.slot_core.specs.declared.jobs.Job.{Job}
use Rattle.slot_core.specs.declared.jobs.Evidence.{Evidence}
use Rattle.slot_core.specs.declared.tasks.Sporadic.{Sporadic}
use Rattle.slot_core.specs.declared.tasks.TaskSet.{TaskSet}
use Rattle.slot_core.specs.declared.events.Event.{Event}
use Rattle.slot_core.specs.declared.events.Event.TheVariants.{Soft, Firm, Sporadic as SporadicEvent, Done, Withdraw}
use Rattle.slot_core.specs.declared.events.What.{What}
use Rattle.slot_core.specs.declared.events.What.TheVariants.{Soft as SoftEntry, Firm as FirmEntry, Sporadic as SporadicEntry, Done as DoneEntry, Withdraw as WithdrawEntry}
use Rattle.slot_core.specs.declared.events.Soft.{Soft as SoftAnswer}
use Rattle.slot_core.specs.declared.events.Soft.TheVariants.{Taken as SoftTaken, Full}
use Rattle.slot_core.specs.declared.events.Firm.{Firm as FirmAnswer}
use Rattle.slot_core.specs.declared.events.Firm.TheVariants.{Accepted, Late, Far, NoRoom}
use Rattle.slot_core.specs.declared.events.Spo.{Spo}
use Rattle.slot_core.specs.declared.events.Spo.TheVariants.{Taken as SporadicTaken, Soon}
use Rattle.slot_core.specs.declared.events.Done.{Done as DoneAnswer}
use Rattle.slot_core.specs.declared.events.Done.TheVariants.{Freed, NotRunning}
use Rattle.slot_core.specs.declared.events.Gone.{Gone}
use Rattle.slot_core.specs.declared.events.Gone.TheVariants.{Freed as GoneFreed, NoJob}
use Rattle.slot_core.specs.Offline.Keys.{same_key}
use Rattle.slot_core.specs.declared.jobs.SoftJob.{SoftJob}
use Rattle.slot_core.specs.Runs.Scenes.{Scene, horizon}
use Rattle.slot_core.specs.Runs.Demand.{need_by, is_overloaded}

-- full where as many soft jobs wait as the limit allows
abbrev pub soft_answer : ℕ → Scene → SoftAnswer
soft_answer limit scene = if length scene.soft == limit then Full limit else SoftTaken

-- the least time from `from` to the horizon at which an offer of `slots` slots has no room, or none
abbrev pub first_overload : List Sporadic → ℕ → Scene → ℕ → ℕ → Option ℕ
first_overload sporadics cycle scene slots from =
    find
    (is_overloaded sporadics scene slots scene.time)
    (range_with_len from (horizon cycle scene.time + 1 - from))

-- the evidence against an offer: up to this time it needs so many slots, and there is so much room
abbrev pub evidence_at : List Sporadic → Scene → ℕ → ℕ → Evidence
evidence_at sporadics scene slots x = record {
  until = x;
  need = slots + need_by sporadics scene scene.time x;
  room = x - scene.time;
}

-- late without a slot to its deadline, far where that is more than a cycle ahead, refused with the
-- least time that is too short, else accepted
abbrev pub firm_answer : List Sporadic → ℕ → Scene → ℕ → ℕ → FirmAnswer
firm_answer sporadics cycle scene slots within =
    if within == 0 then Late
    else if nat_lt cycle within then Far
    else
    option_map_or
    (λ x. NoRoom (evidence_at sporadics scene slots x))
    (first_overload sporadics cycle scene slots (scene.time + within))
    Accepted

-- the deadline of a sporadic task, from its arrival
abbrev pub relative_deadline : List Sporadic → ℕ → ℕ
relative_deadline sporadics index =
    option_map_or (λ (s : Sporadic). s.deadline) (slice_get sporadics index) 0

-- too soon before the next legal arrival, else taken with its deadline
abbrev pub sporadic_answer : List Sporadic → Scene → ℕ → Spo
sporadic_answer sporadics scene index =
    let next = slice_index scene.nexts index in
    if nat_lt scene.time next then Soon next
    else SporadicTaken (scene.time + relative_deadline sporadics index)

-- the slots left of the jobs that have started
abbrev pub started_jobs : Scene → List (Key × ℕ)
started_jobs scene =
    map
    (λ (j : Job). (j.key, j.left))
    (filter (λ (j : Job). nat_lt j.left j.declared) scene.jobs)
    ++ map
    (λ (s : SoftJob). (SoftKey s.row, s.left))
    (filter (λ (s : SoftJob). nat_lt s.left s.declared) scene.soft)

-- the slots that are freed where a job of this key has started and not ended
abbrev pub done_answer : Scene → Key → DoneAnswer
done_answer scene key =
    option_map_or
    (λ (j : Key × ℕ). Freed j.1)
    (find (λ (j : Key × ℕ). same_key j.0 key) (started_jobs scene))
    NotRunning

-- the slots that are freed where a firm job of this row remains, whether it has started or not
abbrev pub withdraw_answer : Scene → ℕ → Gone
withdraw_answer scene firm =
    option_map_or
    (λ (j : Job). GoneFreed j.left)
    (find (λ (j : Job). same_key j.key (FirmKey firm)) scene.jobs)
    NoJob

-- the entry of an arrival in this row
abbrev pub answer : TaskSet → ℕ → Scene → ℕ → Event → What
answer set cycle scene row (Soft slots) = SoftEntry row slots (soft_answer set.soft_limit scene)
answer set cycle scene row (Firm slots within) =
    FirmEntry row slots within (firm_answer set.sporadics cycle scene slots within)
answer set cycle scene row (SporadicEvent index) =
    SporadicEntry row index (sporadic_answer set.sporadics scene index)
answer set cycle scene row (Done key) = DoneEntry row key (done_answer scene key)
answer set cycle scene row (Withdraw firm) = WithdrawEntry row firm (withdraw_answer scene firm)

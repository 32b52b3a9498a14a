-- Lawful histories and traces: what any executive may do that admits as these definitions say. It
-- may choose among the jobs that are ready as it likes, or idle, as long as no deadline passes.
use Rattle.std.specs.Prelude.{◌≡◌, ℕ, Bool, true, not, ◌&&◌, ◌||◌, List, [], ◌∷◌, ◌++◌, nat_le, nat_lt, ⊤}
use Rattle.std.specs.List.{list_all, list_any}
use Rattle.slot_core.specs.declared.jobs.Job.{Job}
use Rattle.slot_core.specs.declared.jobs.SoftJob.{SoftJob}
use Rattle.slot_core.specs.declared.jobs.Key.{Key}
use Rattle.slot_core.specs.declared.jobs.Key.TheVariants.{Soft as SoftKey}
use Rattle.slot_core.specs.declared.tasks.TaskSet.{TaskSet}
use Rattle.slot_core.specs.declared.events.Arrival.{Arrival}
use Rattle.slot_core.specs.declared.events.Entry.{Entry}
use Rattle.slot_core.specs.declared.events.Event.{Event}
use Rattle.slot_core.specs.declared.events.Ran.{Ran}
use Rattle.slot_core.specs.declared.events.Ran.TheVariants.{Idle as RanIdle, Key as RanKey}
use Rattle.slot_core.specs.declared.events.What.{What}
use Rattle.slot_core.specs.declared.events.What.TheVariants.{Start, End}
use Rattle.slot_core.specs.Offline.Keys.{same_key}
use Rattle.slot_core.specs.Offline.Windows.{precedes}
use Rattle.slot_core.specs.Sets.Cycles.{cycle_of}
use Rattle.slot_core.specs.Runs.Histories.{History, time_of}
use Rattle.slot_core.specs.Runs.Scenes.{Scene, scene_of}
use Rattle.slot_core.specs.Runs.Traces.{Occurrence, arrive, slot, told_of, told_of_slot, shown_entry, occurrences_of, started, end_entry, MayCome}

-- the job of this key remains, its window has begun, and no predecessor of it remains
abbrev pub job_may_run : TaskSet → Scene → Key → Bool
job_may_run set scene key =
    list_any (λ (j : Job). same_key j.key key && nat_le j.est scene.time) scene.jobs
    && list_all (λ (j : Job). not (precedes set j.key key)) scene.jobs

-- the soft job of this key has come and not ended
abbrev pub soft_job_may_run : Scene → Key → Bool
soft_job_may_run scene key = list_any (λ (s : SoftJob). same_key (SoftKey s.row) key) scene.soft

-- this may run in the slot; to idle is always allowed
abbrev pub may_run : TaskSet → Scene → Ran → Bool
may_run set scene RanIdle = true
may_run set scene (RanKey key) = job_may_run set scene key || soft_job_may_run scene key

-- no remaining job is past its deadline
abbrev pub is_in_time : Scene → Bool
is_in_time scene = list_all (λ (j : Job). nat_lt scene.time j.dl) scene.jobs

-- what may be told of an occurrence after a history: of an arrival its answer; of a slot anything
-- that may run, after which no remaining job is past its deadline
abbrev pub MayTell : TaskSet → ℕ → History → Occurrence → What → Type 0
MayTell set cycle h (arrive row event) what = what ≡ told_of set cycle h (arrive row event)
MayTell set cycle h slot what =
    (ran : Ran)
    × (what ≡ told_of_slot ran)
    × (may_run set (scene_of set cycle h) ran ≡ true)
    × (is_in_time (scene_of set cycle (what ∷ h)) ≡ true)

-- each entry of the history but starts and ends tells what may be told, at those before it, of an
-- occurrence that may come
abbrev pub IsLawful : TaskSet → ℕ → History → Type 0
IsLawful set cycle [] = ⊤
IsLawful set cycle (Start ∷ h) = IsLawful set cycle h
IsLawful set cycle (End ∷ h) = IsLawful set cycle h
IsLawful set cycle (what ∷ h) =
    ((next : Occurrence) × MayCome set h next × MayTell set cycle h next what)
    × IsLawful set cycle h

-- from a history on, the entries are those of these occurrences: each tells what may be told, at
-- its time and with the spans after it
abbrev pub AreLawful : TaskSet → ℕ → History → List Occurrence → List Entry → Type 0
AreLawful set cycle h [] entries = entries ≡ []
AreLawful set cycle h (next ∷ later) [] = ⊥
AreLawful set cycle h (next ∷ later) (entry ∷ entries) =
    MayTell set cycle h next entry.what
    × (entry ≡ shown_entry set cycle (time_of h) entry.what (entry.what ∷ h))
    × AreLawful set cycle (entry.what ∷ h) later entries

-- a lawful trace of a set, its arrivals and n slots: the start, lawful entries of what happens, and
-- the end
abbrev pub IsLawfulTrace : TaskSet → List Arrival → ℕ → List Entry → Type 0
IsLawfulTrace set arrivals n entries =
    let cycle = cycle_of set in
    (told : List Entry)
    × (entries ≡ shown_entry set cycle 0 Start started ∷ (told ++ end_entry n ∷ []))
    × AreLawful set cycle started (occurrences_of arrivals n) told

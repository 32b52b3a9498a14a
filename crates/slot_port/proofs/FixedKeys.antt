-- The keys, the ranges and the faults of a task set that other languages see, which stay. Each list
-- holds by computing the definitions.
use Rattle.std.specs.Prelude.{◌≡◌, ℕ, ℤ, true, false, [], ◌∷◌, map, is_none, Some, refl}
use Rattle.std.specs.List.{list_all}
use Rattle.slot_core.specs.declared.events.Event.TheVariants.{Soft as SoftEvent, Firm as FirmEvent}
use Rattle.slot_core.specs.declared.events.Ran.TheVariants.{Idle, Key as RanKey}
use Rattle.slot_core.specs.declared.faults.Place.{Place}
use Rattle.slot_core.specs.declared.faults.TaskFault.{TaskFault}
use Rattle.slot_core.specs.declared.faults.TaskFault.TheVariants.{Missing, OutOfRange, BadName, Doubled, NoSuchTask, Loop, TooMany, CycleTooLong}
use Rattle.slot_core.specs.declared.jobs.Key.TheVariants.{Offline, Sporadic, Firm, Soft}
use Rattle.slot_core.specs.declared.tasks.TaskSet.{TaskSet}
use Rattle.slot_core.specs.Runs.Arrivals.{event_may_come}
use Rattle.faults.specs.declared.table_fault.TableFault.TheVariants.{BadSource}
use Rattle.slot_port.specs.declared.numbers.KeyNumbers.{KeyNumbers}
use Rattle.slot_port.specs.Faults.{fault_numbers}
use Rattle.slot_port.specs.Keys.{key_named, ran_numbers}

-- kind, group, task and number
abbrev numbers : ℕ → ℕ → ℕ → ℕ → KeyNumbers
numbers kind group task number =
    record { kind = kind; group = group; task = task; number = number }

-- what ran: no job, an offline one, a sporadic one, a firm one, a soft one
pub what_ran :
    (graph task instance index row : ℕ)
    → map
    ran_numbers
    (Idle
    ∷ RanKey (Offline graph task instance)
    ∷ RanKey (Sporadic index row)
    ∷ RanKey (Firm row)
    ∷ RanKey (Soft row)
    ∷ [])
    ≡ numbers 0 0 0 0
    ∷ numbers 1 graph task instance
    ∷ numbers 2 index 0 row
    ∷ numbers 3 0 0 row
    ∷ numbers 4 0 0 row
    ∷ []
what_ran graph task instance index row = refl

-- the greatest key of each kind
pub greatest_keys :
    (instance : ℕ)
    → map
    key_named
    (numbers 1 65535 65535 instance
    ∷ numbers 2 255 0 4294967295
    ∷ numbers 3 0 0 4294967295
    ∷ numbers 4 0 0 4294967295
    ∷ [])
    ≡ Some (Offline 65535 65535 instance)
    ∷ Some (Sporadic 255 4294967295)
    ∷ Some (Firm 4294967295)
    ∷ Some (Soft 4294967295)
    ∷ []
greatest_keys instance = refl

-- no key: of another kind, with a number past these, or with one that its kind has no use for
pub no_keys :
    list_all
    (λ k. is_none (key_named k))
    (numbers 0 0 0 0
    ∷ numbers 5 0 0 0
    ∷ numbers 1 65536 0 0
    ∷ numbers 1 0 65536 0
    ∷ numbers 2 256 0 1
    ∷ numbers 2 0 1 1
    ∷ numbers 2 0 0 4294967296
    ∷ numbers 3 1 0 1
    ∷ numbers 3 0 1 1
    ∷ numbers 3 0 0 4294967296
    ∷ numbers 4 1 0 1
    ∷ numbers 4 0 1 1
    ∷ numbers 4 0 0 4294967296
    ∷ [])
    ≡ true
no_keys = refl

-- soft work of 1 to 65,535 slots may come
pub soft_work_in_range :
    (set : TaskSet)
    → map (λ n. event_may_come set (SoftEvent n)) (0 ∷ 1 ∷ 65535 ∷ 65536 ∷ [])
    ≡ false ∷ true ∷ true ∷ false ∷ []
soft_work_in_range set = refl

-- so may a firm task, due within 0 to 65,535 slots
pub firm_work_in_range :
    (set : TaskSet)
    → map (λ n. event_may_come set (FirmEvent n 65535)) (0 ∷ 1 ∷ 65535 ∷ 65536 ∷ [])
    ≡ false ∷ true ∷ true ∷ false ∷ []
firm_work_in_range set = refl

pub deadlines_in_range :
    (set : TaskSet)
    → map (λ n. event_may_come set (FirmEvent 1 n)) (0 ∷ 65535 ∷ 65536 ∷ [])
    ≡ true ∷ true ∷ false ∷ []
deadlines_in_range set = refl

-- the faults of the task set of a table
pub source_faults :
    (place : Place) (n : ℕ) (value : ℤ)
    → map
    (λ (f : TaskFault). (fault_numbers (BadSource f)).first)
    (Missing place
    ∷ OutOfRange place value
    ∷ BadName place
    ∷ Doubled place
    ∷ NoSuchTask place
    ∷ Loop n n
    ∷ TooMany place n
    ∷ CycleTooLong n
    ∷ [])
    ≡ 4 ∷ 6 ∷ 7 ∷ 8 ∷ 9 ∷ 10 ∷ 11 ∷ 12 ∷ []
source_faults place n value = refl

-- What may still come, and whether it can be served.
use Rattle.std.specs.Prelude.{◌≡◌, ◌⊎◌, ◌↔◌, ℕ, ◌+◌, ◌*◌, ◌≤◌, List, [], ◌∷◌, ◌++◌}
use Rattle.slot_core.specs.declared.jobs.Job.{Job}
use Rattle.slot_core.specs.declared.jobs.Evidence.{Evidence}
use Rattle.slot_core.specs.declared.tasks.Sporadic.{Sporadic}
use Rattle.slot_core.specs.declared.tasks.TaskSet.{TaskSet}
use Rattle.slot_core.specs.declared.events.Firm.{Firm as FirmAnswer}
use Rattle.slot_core.specs.declared.events.Firm.TheVariants.{Accepted, NoRoom}
use Rattle.slot_core.specs.declared.events.What.TheVariants.{Firm}
use Rattle.slot_core.specs.Sets.Cycles.{cycle_of}
use Rattle.slot_core.specs.Offline.OfflineJobs.{offline_jobs}
use Rattle.slot_core.specs.Runs.Histories.{History, Follows, time_of, last_row, offered_job, sporadic_job}
use Rattle.slot_core.specs.Runs.Scenes.{Scene, horizon, scene_of}
use Rattle.slot_core.specs.Feasibility.Sporadics.{densest_pattern, IsLegalPattern}
use Rattle.slot_core.specs.Claims.Schedules.{HasSchedule}

-- the jobs of a pattern of arrivals, pairs of a sporadic task and a time, in rows from this one on
abbrev pub pattern_jobs : List Sporadic → ℕ → List (ℕ × ℕ) → List Job
pattern_jobs sporadics row [] = []
pattern_jobs sporadics row (a ∷ pattern) =
    sporadic_job sporadics a.0 row a.1 ∷ pattern_jobs sporadics (row + 1) pattern

-- whatever legal pattern of arrivals follows, in rows from this one on, the jobs of the scene,
-- those beside them and those of the pattern have a slot schedule up to `end`
abbrev pub CanBeServedUntil : TaskSet → ℕ → Scene → ℕ → List Job → Type 0
CanBeServedUntil set end scene row beside =
    (pattern : List (ℕ × ℕ)) → IsLegalPattern set.sporadics scene.nexts scene.time pattern
    → HasSchedule
    set
    (scene.jobs ++ beside ++ pattern_jobs set.sporadics row pattern)
    scene.time
    end

-- the same up to the horizon
abbrev pub CanBeServed : TaskSet → ℕ → Scene → ℕ → List Job → Type 0
CanBeServed set cycle scene row beside =
    CanBeServedUntil set (horizon cycle scene.time) scene row beside

-- the remaining jobs of a history can be served, with an offer of so many slots within so many from
-- now
abbrev pub OfferCanBeServed : TaskSet → ℕ → History → ℕ → ℕ → Type 0
OfferCanBeServed set cycle h slots within =
    let row = last_row h + 1 in
    CanBeServed
    set
    cycle
    (scene_of set cycle h)
    (row + 1)
    (offered_job row (time_of h) slots within ∷ [])

-- whatever legal pattern of arrivals comes from time 0 on, the offline jobs of so many cycles and
-- the pattern's jobs have a slot schedule
abbrev pub CyclesCanBeServed : TaskSet → ℕ → Type 0
CyclesCanBeServed set cycles =
    let cycle = cycle_of set in
    (pattern : List (ℕ × ℕ)) → IsLegalPattern set.sporadics [] 0 pattern
    → HasSchedule
    set
    (offline_jobs set cycle cycles ++ pattern_jobs set.sporadics 1 pattern)
    0
    (cycles * cycle)

-- the densest arrivals from time r on, up to the end of three cycles
abbrev pub densest_from : TaskSet → ℕ → List (ℕ × ℕ)
densest_from set r = densest_pattern 0 set.sporadics [] r (3 * cycle_of set)

-- they are a legal pattern, and leave the offline jobs of three cycles no slot schedule
pub record DensestLeavesNone (set : TaskSet) (r : ℕ) : Type 0 where
  pub legal : IsLegalPattern set.sporadics [] 0 (densest_from set r)
  pub none :
      ¬ (HasSchedule
      set
      (offline_jobs set (cycle_of set) 3 ++ pattern_jobs set.sporadics 1 (densest_from set r))
      0
      (3 * cycle_of set))

-- the remaining jobs of a history and an offer of so many slots within so many from now
abbrev pub with_offer : TaskSet → ℕ → History → ℕ → ℕ → List Job
with_offer set cycle h slots within =
    (scene_of set cycle h).jobs ++ offered_job (last_row h + 1) (time_of h) slots within ∷ []

-- this pattern of arrivals from now on is legal, and leaves them no slot schedule up to the horizon
pub record LeavesNone
    (set : TaskSet) (cycle : ℕ) (h : History) (slots within : ℕ) (pattern : List (ℕ × ℕ)) : Type 0
  where
    pub legal : IsLegalPattern set.sporadics (scene_of set cycle h).nexts (time_of h) pattern
    pub none :
        ¬ (HasSchedule
        set
        (with_offer set cycle h slots within
        ++ pattern_jobs set.sporadics (last_row h + 1 + 1) pattern)
        (time_of h)
        (horizon cycle (time_of h)))

-- some legal pattern of arrivals from now on leaves them no slot schedule up to the horizon
abbrev pub OfferCannotBeServed : TaskSet → ℕ → History → ℕ → ℕ → Type 0
OfferCannotBeServed set cycle h slots within =
    (pattern : List (ℕ × ℕ)) × LeavesNone set cycle h slots within pattern

-- the densest arrivals from the time of a scene on that are due by x
abbrev pub densest_until : TaskSet → Scene → ℕ → List (ℕ × ℕ)
densest_until set scene x = densest_pattern 0 set.sporadics scene.nexts scene.time x

-- the answer to an offer at a history is exact
pub record OfferIsExact
    (set : TaskSet) (cycle : ℕ) (h : History) (slots within : ℕ) (answer : FirmAnswer) : Type 0
  where
    -- accepted, it can be served with the remaining jobs, whatever legal pattern follows
    pub accepted : answer ≡ Accepted → OfferCanBeServed set cycle h slots within
    -- refused for want of room, it cannot
    pub refused :
        (evidence : Evidence) → answer ≡ NoRoom evidence
        → OfferCannotBeServed set cycle h slots within
    -- the densest arrivals that are due by the time of the evidence show it
    pub densest :
        (evidence : Evidence) → answer ≡ NoRoom evidence
        → LeavesNone
        set
        cycle
        h
        slots
        within
        (densest_until set (scene_of set cycle h) evidence.until)
    -- in reach, due later and at most a cycle ahead, it is answered in one of these two ways
    pub in_reach :
        1 ≤ within → within ≤ cycle
        → (answer ≡ Accepted) ⊎ ((evidence : Evidence) × (answer ≡ NoRoom evidence))
    -- so in reach it is refused exactly where some legal pattern leaves no slot schedule
    pub exactly :
        1 ≤ within → within ≤ cycle
        → (((evidence : Evidence) × (answer ≡ NoRoom evidence))
        ↔ OfferCannotBeServed set cycle h slots within)
    -- and in a set without sporadic tasks exactly where no slot schedule serves it with the
    -- remaining jobs
    pub alone :
        set.sporadics ≡ [] → 1 ≤ within → within ≤ cycle
        → (((evidence : Evidence) × (answer ≡ NoRoom evidence))
        ↔ ¬ (HasSchedule
        set
        (with_offer set cycle h slots within)
        (time_of h)
        (horizon cycle (time_of h))))

-- the answer to each firm offer of a history is exact, at the history before it. (Of an offer that
-- is late, or due more than a cycle ahead, only this is said: accepted, it can be served, and
-- refused for want of room, it cannot. Such offers have answers of their own.)
abbrev pub OffersAreExact : TaskSet → ℕ → History → Type 0
OffersAreExact set cycle h =
    (row slots within : ℕ) (answer : FirmAnswer) (earlier : History)
    → Follows h (Firm row slots within answer) earlier
    → OfferIsExact set cycle earlier slots within answer

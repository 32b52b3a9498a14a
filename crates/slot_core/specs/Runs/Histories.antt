-- A history: what the entries so far tell, newest first. The start and end entries change nothing.
use Rattle.std.specs.Prelude.{◌≡◌, ℕ, suc, ◌+◌, Bool, false, ◌||◌, ◌==◌, List, [], ◌∷◌, ◌++◌, Option, Some, None, slice_get, nat_le, if◌then◌else◌}
use Rattle.std.specs.Option.{option_map_or}
use Rattle.slot_core.specs.declared.jobs.Key.{Key}
use Rattle.slot_core.specs.declared.jobs.Key.TheVariants.{Sporadic as SporadicKey, Firm as FirmKey}
use Rattle.slot_core.specs.declared.jobs.Job.{Job}
use Rattle.slot_core.specs.declared.jobs.SoftJob.{SoftJob}
use Rattle.slot_core.specs.declared.tasks.Sporadic.{Sporadic}
use Rattle.slot_core.specs.declared.events.What.{What}
use Rattle.slot_core.specs.declared.events.What.TheVariants.{Soft, Firm, Sporadic as SporadicEntry, Done, Withdraw, Run, Idle}
use Rattle.slot_core.specs.declared.events.Soft.TheVariants.{Taken as SoftTaken}
use Rattle.slot_core.specs.declared.events.Firm.TheVariants.{Accepted}
use Rattle.slot_core.specs.declared.events.Spo.TheVariants.{Taken as SporadicTaken}
use Rattle.slot_core.specs.declared.events.Done.TheVariants.{Freed}
use Rattle.slot_core.specs.declared.events.Gone.TheVariants.{Freed as GoneFreed}
use Rattle.slot_core.specs.Offline.Keys.{same_key}

-- what has happened so far, newest first
abbrev pub History : Type 0
History = List What

-- in the history this entry stands right after the earlier history
abbrev pub Follows : History → What → History → Type 0
Follows h what earlier = (later : History) × (h ≡ later ++ what ∷ earlier)

-- the time: how many slots have passed
abbrev pub time_of : History → ℕ
time_of [] = 0
time_of (Run key ∷ h) = suc (time_of h)
time_of (Idle ∷ h) = suc (time_of h)
time_of (_ ∷ h) = time_of h

-- how many slots the job of this key has run
abbrev pub executed : Key → History → ℕ
executed key [] = 0
executed key (Run k ∷ h) = if same_key key k then suc (executed key h) else executed key h
executed key (_ ∷ h) = executed key h

-- the key of the job that an entry ends before it has run all its slots, by an early end or a
-- withdrawal, and the slots that this frees
abbrev pub freed_by : What → Option (Key × ℕ)
freed_by (Done row key (Freed n)) = Some (key, n)
freed_by (Withdraw row firm (GoneFreed n)) = Some (FirmKey firm, n)
freed_by _ = None

-- the job of this key was ended so
abbrev pub is_freed : Key → History → Bool
is_freed key [] = false
is_freed key (Done row k (Freed n) ∷ h) = same_key key k || is_freed key h
is_freed key (Withdraw row firm (GoneFreed n) ∷ h) = same_key key (FirmKey firm) || is_freed key h
is_freed key (_ ∷ h) = is_freed key h

-- the job of this key and so many declared slots has ended: it has run them (no job of a legal
-- history runs more), or an early end or a withdrawal has ended it
abbrev pub is_over : History → Key → ℕ → Bool
is_over h key declared = nat_le declared (executed key h) || is_freed key h

-- the row of the last arrival, 0 before the first
abbrev pub last_row : History → ℕ
last_row [] = 0
last_row (Soft row slots a ∷ h) = row
last_row (Firm row slots within a ∷ h) = row
last_row (SporadicEntry row index a ∷ h) = row
last_row (Done row key a ∷ h) = row
last_row (Withdraw row firm a ∷ h) = row
last_row (_ ∷ h) = last_row h

-- the job of a firm offer in this row at time t: so many slots, due within so many from now
abbrev pub offered_job : ℕ → ℕ → ℕ → ℕ → Job
offered_job row t slots within =
    record { key = FirmKey row; est = t; dl = t + within; left = slots; declared = slots }

-- the firm jobs that were accepted
abbrev pub firm_jobs : History → List Job
firm_jobs [] = []
firm_jobs (Firm row slots within Accepted ∷ h) =
    offered_job row (time_of h) slots within ∷ firm_jobs h
firm_jobs (_ ∷ h) = firm_jobs h

-- a job of the sporadic task of this index that arrives at time t
abbrev pub sporadic_job : List Sporadic → ℕ → ℕ → ℕ → Job
sporadic_job sporadics index row t =
    let slots = option_map_or (λ (s : Sporadic). s.wcet) (slice_get sporadics index) 0 in
    let within = option_map_or (λ (s : Sporadic). s.deadline) (slice_get sporadics index) 0 in
    record { key = SporadicKey index row; est = t; dl = t + within; left = slots; declared = slots }

-- the sporadic jobs that were taken
abbrev pub sporadic_jobs : List Sporadic → History → List Job
sporadic_jobs sporadics [] = []
sporadic_jobs sporadics (SporadicEntry row index (SporadicTaken due) ∷ h) =
    sporadic_job sporadics index row (time_of h) ∷ sporadic_jobs sporadics h
sporadic_jobs sporadics (_ ∷ h) = sporadic_jobs sporadics h

-- the next legal arrival of the sporadic task of this index and separation
abbrev pub next_arrival : ℕ → ℕ → History → ℕ
next_arrival index separation [] = 0
next_arrival index separation (SporadicEntry row i (SporadicTaken due) ∷ h) =
    if index == i then time_of h + separation else next_arrival index separation h
next_arrival index separation (_ ∷ h) = next_arrival index separation h

-- the soft jobs that were taken, with all their slots, oldest first
abbrev pub soft_jobs : History → List SoftJob
soft_jobs [] = []
soft_jobs (Soft row slots SoftTaken ∷ h) =
    soft_jobs h ++ record { row = row; left = slots; declared = slots } ∷ []
soft_jobs (_ ∷ h) = soft_jobs h

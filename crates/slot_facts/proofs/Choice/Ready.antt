-- The jobs that are ready are the same for any number of cycles past the time.
use Rattle.std.proofs.Common.{◌≡◌, ℕ, zero, suc, ◌*◌, ◌<◌, ◌≤◌, true, List, [], ◌∷◌, ◌++◌, append-nil, mul-le-mul_right, refl, ◌∙◌, inl, inr, arith}
use Rattle.std.proofs.lemmas.Bool.{cases_lt}
use Rattle.std.proofs.lemmas.Bool.Decides.{nat_tests}
use Rattle.std.proofs.lemmas.List.{map-append}
use Rattle.std.proofs.lemmas.List.Elements.{filter-append}
use Rattle.slot_core.specs.declared.jobs.Job.{Job}
use Rattle.slot_core.specs.declared.tasks.TaskSet.{TaskSet}
use Rattle.slot_core.specs.Sets.Cycles.{cycle_of}
use Rattle.slot_core.specs.Sets.Ranges.{is_sound}
use Rattle.slot_core.specs.Offline.OfflineJobs.{cycle_jobs, offline_jobs}
use Rattle.slot_core.specs.Runs.Histories.{History}
use Rattle.slot_core.specs.Runs.Scenes.{unended}
use Rattle.slot_core.specs.Runs.Choice.{ready}
use Rattle.slot_facts.proofs.Offline.Cycles.{IsOfCycle-from_cycle}
use Rattle.slot_facts.proofs.Lists.Members.{Has, Contains-from_Has}

-- the jobs that have not ended and may run at time t
abbrev pub ready_in : ℕ → History → List Job → List Job
ready_in t h jobs = ready t (unended h jobs)

-- of joined lists
pub ready_in-append : (t : ℕ) (h : History) (xs ys : List Job) → ready_in t h (xs ++ ys) ≡ ready_in t h xs ++ ready_in t h ys
ready_in-append t h xs ys = simp (filter-append, map-append)

-- where every job starts later, none is ready
ready_in-cons : (t : ℕ) (h : History) (j : Job) (js : List Job) → t < j.est → ready_in t h js ≡ [] → ready_in t h (j ∷ js) ≡ []
ready_in-cons t h j js late rest = grind (arith, nat_tests)

ready_in-late : (t : ℕ) (h : History) (jobs : List Job) → ((job : Job) → Has jobs job → t < job.est) → ready_in t h jobs ≡ []
ready_in-late t h [] late = refl
ready_in-late t h (j ∷ js) late =
    ready_in-cons t h j js (late j (inl refl)) (ready_in-late t h js (λ job at. late job (inr at)))

-- a cycle that starts after the time adds no ready job
ready_in-next : (set : TaskSet) (t : ℕ) (h : History) (n : ℕ) → is_sound set ≡ true → t < n * cycle_of set → ready_in t h (offline_jobs set (cycle_of set) (suc n)) ≡ ready_in t h (offline_jobs set (cycle_of set) n)
ready_in-next set t h n sound early =
    let fresh = cycle_jobs set (cycle_of set) n in
    let starts = λ (job : Job) (at : Has fresh job).
    (IsOfCycle-from_cycle set n job sound (Contains-from_Has fresh job at)).starts in
    let none = ready_in-late t h fresh (λ job at. omega (arith, starts job at)) in
    let split = ready_in-append t h (offline_jobs set (cycle_of set) n) fresh in
    rw (split, none, append-nil)

-- nor does any number of such cycles
pub ready_in-cycles : (set : TaskSet) (t : ℕ) (h : History) (m n : ℕ) → is_sound set ≡ true → t < m * cycle_of set → m ≤ n → ready_in t h (offline_jobs set (cycle_of set) n) ≡ ready_in t h (offline_jobs set (cycle_of set) m)
ready_in-cycles set t h m zero sound early le =
    let same : m ≡ 0 = omega arith in
    rw same
ready_in-cycles set t h m (suc n) sound early le =
    elim (cases_lt n m) [
      | inl above ↦ let same : m ≡ suc n = omega arith in rw same
      | inr below ↦
          let later : m * cycle_of set ≤ n * cycle_of set = mul-le-mul_right (cycle_of set) below in
          ready_in-next set t h n sound (omega arith) ∙ ready_in-cycles set t h m n sound early below
    ]

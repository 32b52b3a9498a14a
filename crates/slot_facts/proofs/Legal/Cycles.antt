-- The jobs of later cycles: the offline ones start and are due past the earlier cycles.
use Rattle.std.proofs.Common.{◌≡◌, ℕ, zero, suc, ◌+◌, ◌*◌, ◌/◌, ◌<◌, ◌≤◌, ◌⊎◌, true, ◌++◌, mul-le-mul_right, sym, ap, ◌∙◌, inl, inr, arith}
use Rattle.std.proofs.lemmas.Bool.{cases_lt, lt-leb}
use Rattle.slot_core.specs.declared.jobs.Job.{Job}
use Rattle.slot_core.specs.declared.tasks.TaskSet.{TaskSet}
use Rattle.slot_core.specs.Sets.Cycles.{cycle_of}
use Rattle.slot_core.specs.Sets.Ranges.{is_sound}
use Rattle.slot_core.specs.Feasibility.Feasible.{IsFeasible}
use Rattle.slot_core.specs.Offline.OfflineJobs.{cycle_jobs, offline_jobs}
use Rattle.slot_core.specs.Runs.Histories.{History, time_of, firm_jobs, sporadic_jobs}
use Rattle.slot_core.specs.Runs.Scenes.{guaranteed_in, unended}
use Rattle.slot_core.specs.Runs.Choice.{ready}
use Rattle.slot_facts.proofs.Lists.Members.{Has, Contains-from_Has, Has-append_left, Has-append_right, Has-append_cases}
use Rattle.slot_facts.proofs.Choice.Ready.{ready_in, ready_in-append, ready_in-cycles}
use Rattle.slot_facts.proofs.Offline.Jobs.{offline_from_cycle}
use Rattle.slot_facts.proofs.Offline.Cycles.{IsOfCycle-from_cycle}
use Rattle.slot_facts.proofs.Offline.LaterCycles.{job_room}
use Rattle.slot_facts.proofs.Legal.Jobs.{guaranteed-offline}
use Rattle.slot_facts.proofs.Legal.Left.{left_in, left_in-append, left_in-none, due_by}

-- an offline job of a feasible set has room in its window
pub cycle_job-room : (set : TaskSet) (n : ℕ) (job : Job) → is_sound set ≡ true → IsFeasible set (cycle_of set) → Has (cycle_jobs set (cycle_of set) n) job → job.est + job.declared ≤ job.dl
cycle_job-room set n job sound feasible at =
    let o = offline_from_cycle set (cycle_of set) n job (Contains-from_Has (cycle_jobs set (cycle_of set) n) job at) in
    let i = o.instance_of in
    let q : ℕ = cycle_of set / o.graph.period in
    let some : 0 < q = positive n q o.k o.at_least o.below in
    let room = job_room set o.g o.t 0 o.graph o.task sound feasible i.graph_at i.task_at some in
    let est = ap (λ (j : Job). j.est) i.derived in
    let dl = ap (λ (j : Job). j.dl) i.derived in
    let declared = ap (λ (j : Job). j.declared) i.derived in
    omega (arith, room, est, dl, declared)
  where
    positive : (n q k : ℕ) → n * q ≤ k → k < (n + 1) * q → 0 < q
    positive n zero k low high = absurd (omega arith)
    positive n (suc q) k low high = omega arith

-- so the jobs of a cycle are due after its start
pub cycle_job-due : (set : TaskSet) (n : ℕ) (job : Job) → is_sound set ≡ true → IsFeasible set (cycle_of set) → Has (cycle_jobs set (cycle_of set) n) job → n * cycle_of set < job.dl
cycle_job-due set n job sound feasible at =
    let of_cycle = IsOfCycle-from_cycle set n job sound (Contains-from_Has (cycle_jobs set (cycle_of set) n) job at) in
    omega (arith, cycle_job-room set n job sound feasible at, of_cycle.some, of_cycle.starts)

-- and every offline job after its start
pub offline_job-due : (set : TaskSet) (n : ℕ) (job : Job) → is_sound set ≡ true → IsFeasible set (cycle_of set) → Has (offline_jobs set (cycle_of set) n) job → job.est < job.dl
offline_job-due set zero job sound feasible at = absurd at
offline_job-due set (suc n) job sound feasible at =
    let jobs = cycle_jobs set (cycle_of set) n in
    elim (Has-append_cases (offline_jobs set (cycle_of set) n) jobs job at) [
      | inl a ↦ offline_job-due set n job sound feasible a
      | inr b ↦ omega (arith, cycle_job-room set n job sound feasible b, (IsOfCycle-from_cycle set n job sound (Contains-from_Has jobs job b)).some)
    ]

-- the offline jobs of some cycles are among those of more
offline-more : (set : TaskSet) (m n : ℕ) (job : Job) → m ≤ n → Has (offline_jobs set (cycle_of set) m) job → Has (offline_jobs set (cycle_of set) n) job
offline-more set m zero job le at =
    let same : m ≡ 0 = omega arith in
    rw same at at
offline-more set m (suc n) job le at =
    elim (cases_lt n m) [
      | inl above ↦ let same : m ≡ suc n = omega arith in rw same at at
      | inr below ↦ Has-append_left (offline_jobs set (cycle_of set) n) _ job (offline-more set m n job below at)
    ]

-- so are the guaranteed jobs
pub guaranteed-more : (set : TaskSet) (m n : ℕ) (h : History) (job : Job) → m ≤ n → Has (guaranteed_in set (cycle_of set) m h) job → Has (guaranteed_in set (cycle_of set) n h) job
guaranteed-more set m n h job le at =
    let few = offline_jobs set (cycle_of set) m in
    let more = offline_jobs set (cycle_of set) n in
    let firm = firm_jobs h in
    let sporadic = sporadic_jobs set.sporadics h in
    elim (Has-append_cases (few ++ firm) sporadic job at) [
      | inl a ↦ elim (Has-append_cases few firm job a) [
        | inl b ↦ guaranteed-offline set n h job (offline-more set m n job le b)
        | inr b ↦ Has-append_left (more ++ firm) sporadic job (Has-append_right more firm job b)
      ]
      | inr a ↦ Has-append_right (more ++ firm) sporadic job a
    ]

-- an offline job of more cycles is one of fewer, or starts at their end or later
pub offline-fewer : (set : TaskSet) (m n : ℕ) (job : Job) → is_sound set ≡ true → Has (offline_jobs set (cycle_of set) n) job → Has (offline_jobs set (cycle_of set) m) job ⊎ (m * cycle_of set ≤ job.est)
offline-fewer set m zero job sound at = absurd at
offline-fewer set m (suc n) job sound at =
    let jobs = cycle_jobs set (cycle_of set) n in
    elim (cases_lt n m) [
      | inl above ↦ inl (offline-more set (suc n) m job (omega arith) at)
      | inr below ↦ elim (Has-append_cases (offline_jobs set (cycle_of set) n) jobs job at) [
        | inl a ↦ offline-fewer set m n job sound a
        | inr b ↦
            let start : m * cycle_of set ≤ n * cycle_of set = mul-le-mul_right (cycle_of set) below in
            inr (omega (arith, (IsOfCycle-from_cycle set n job sound (Contains-from_Has jobs job b)).starts))
      ]
    ]

-- a guaranteed job is one with the offline jobs of fewer cycles, or one of these that starts at their end or later
pub guaranteed-fewer : (set : TaskSet) (m n : ℕ) (h : History) (job : Job) → is_sound set ≡ true → Has (guaranteed_in set (cycle_of set) n h) job → Has (guaranteed_in set (cycle_of set) m h) job ⊎ ((m * cycle_of set ≤ job.est) × Has (offline_jobs set (cycle_of set) n) job)
guaranteed-fewer set m n h job sound at =
    let few = offline_jobs set (cycle_of set) m in
    let more = offline_jobs set (cycle_of set) n in
    let firm = firm_jobs h in
    let sporadic = sporadic_jobs set.sporadics h in
    elim (Has-append_cases (more ++ firm) sporadic job at) [
      | inl a ↦ elim (Has-append_cases more firm job a) [
        | inl b ↦ elim (offline-fewer set m n job sound b) [
          | inl near ↦ inl (guaranteed-offline set m h job near)
          | inr far ↦ inr (far, b)
        ]
        | inr b ↦ inl (Has-append_left (few ++ firm) sporadic job (Has-append_right few firm job b))
      ]
      | inr a ↦ inl (Has-append_right (few ++ firm) sporadic job a)
    ]

-- by the end of some cycles, later cycles leave nothing to do
left_in-cycles : (set : TaskSet) (h : History) (m n x : ℕ) → is_sound set ≡ true → IsFeasible set (cycle_of set) → m ≤ n → x ≤ m * cycle_of set → left_in (due_by x) h (offline_jobs set (cycle_of set) n) ≤ left_in (due_by x) h (offline_jobs set (cycle_of set) m)
left_in-cycles set h m zero x sound feasible le early =
    let same : m ≡ 0 = omega arith in
    rw same (omega arith)
left_in-cycles set h m (suc n) x sound feasible le early =
    elim (cases_lt n m) [
      | inl above ↦ let same : m ≡ suc n = omega arith in rw same (omega arith)
      | inr below ↦
          let jobs = cycle_jobs set (cycle_of set) n in
          let start : m * cycle_of set ≤ n * cycle_of set = mul-le-mul_right (cycle_of set) below in
          let late = λ (job : Job) (at : Has jobs job).
          lt-leb job.dl x (omega (arith, cycle_job-due set n job sound feasible at)) in
          omega (arith, left_in-append (due_by x) h (offline_jobs set (cycle_of set) n) jobs, left_in-none (due_by x) h jobs late, left_in-cycles set h m n x sound feasible below early)
    ]

pub left_in-guaranteed : (set : TaskSet) (h : History) (m n x : ℕ) → is_sound set ≡ true → IsFeasible set (cycle_of set) → m ≤ n → x ≤ m * cycle_of set → left_in (due_by x) h (guaranteed_in set (cycle_of set) n h) ≤ left_in (due_by x) h (guaranteed_in set (cycle_of set) m h)
left_in-guaranteed set h m n x sound feasible le early =
    let test = due_by x in
    let few = offline_jobs set (cycle_of set) m in
    let more = offline_jobs set (cycle_of set) n in
    let firm = firm_jobs h in
    let sporadic = sporadic_jobs set.sporadics h in
    omega (arith, left_in-append test h few firm, left_in-append test h more firm, left_in-append test h (few ++ firm) sporadic, left_in-append test h (more ++ firm) sporadic, left_in-cycles set h m n x sound feasible le early)

-- nor is one of their jobs ready before
pub ready-guaranteed : (set : TaskSet) (h : History) (m n : ℕ) → is_sound set ≡ true → time_of h < m * cycle_of set → m ≤ n → ready (time_of h) (unended h (guaranteed_in set (cycle_of set) n h)) ≡ ready (time_of h) (unended h (guaranteed_in set (cycle_of set) m h))
ready-guaranteed set h m n sound early le =
    let t = time_of h in
    let few = offline_jobs set (cycle_of set) m in
    let more = offline_jobs set (cycle_of set) n in
    let firm = firm_jobs h in
    let sporadic = sporadic_jobs set.sporadics h in
    let same = ready_in-cycles set t h m n sound early le in
    ready_in-append t h (more ++ firm) sporadic
    ∙ ap (λ xs. xs ++ ready_in t h sporadic) (ready_in-append t h more firm ∙ ap (λ xs. xs ++ ready_in t h firm) same ∙ sym (ready_in-append t h few firm))
    ∙ sym (ready_in-append t h (few ++ firm) sporadic)

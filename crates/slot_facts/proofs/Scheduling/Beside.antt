-- Jobs with extra ones beside them: safe together they have a schedule, and a schedule fits the work of both.
use Rattle.std.proofs.Common.{◌≡◌, ℕ, ◌+◌, ◌-◌, ◌*◌, ◌/◌, ◌<◌, ◌≤◌, true, cond, ◌&&◌, List, ◌++◌, ap, inl, inr, arith}
use Rattle.std.specs.Prelude.{Contains, nat_le}
use Rattle.std.proofs.Math.Nat.{mul-le-mul_right}
use Rattle.std.proofs.lemmas.Bool.{cases_Bool, both_ways}
use Rattle.std.proofs.lemmas.List.Elements.{Contains-append_left, Contains-append_cases}
use Rattle.std.proofs.lemmas.List.Sums.{sum_by-append}
use Rattle.slot_core.specs.declared.jobs.Job.{Job}
use Rattle.slot_core.specs.declared.tasks.TaskSet.{TaskSet}
use Rattle.slot_core.specs.Offline.Keys.{is_offline, row_of}
use Rattle.slot_core.specs.Sets.Cycles.{cycle_of}
use Rattle.slot_core.specs.Sets.Ranges.{is_sound}
use Rattle.slot_core.specs.Offline.Windows.{raw_deadline}
use Rattle.slot_core.specs.Runs.Demand.{work_by, work_from}
use Rattle.slot_core.specs.Claims.Schedules.{HasSchedule}
use Rattle.slot_core.specs.Keeping.Kept.{ArePlanned, AreApart, SuccessorsWait, PredecessorsWait}
use Rattle.slot_facts.proofs.Lists.Members.{Has, Has-from_Contains, Has-append_cases}
use Rattle.slot_facts.proofs.Lists.ApartKeys.{AreApart-append}
use Rattle.slot_facts.proofs.Sets.Ranges.{GraphFits}
use Rattle.slot_facts.proofs.Offline.Jobs.{cycle-multiple}
use Rattle.slot_facts.proofs.Offline.LaterCycles.{GraphFits-from_sound}
use Rattle.slot_facts.proofs.Scheduling.Chains.{raw_deadline-offline}
use Rattle.slot_facts.proofs.Scheduling.Raw.{deadline_or-other}
use Rattle.slot_facts.proofs.Offline.Windows.{precedes-offline}
use Rattle.slot_facts.proofs.Scheduling.Safe.{safe_jobs_have_a_schedule}
use Rattle.slot_facts.proofs.Scheduling.Fits.{listed-from_planned, a_schedule_fits_its_work}
use Rattle.slot_facts.proofs.Scheduling.Extras.{AreExtra}

-- the work of both
pub work_by-both : (jobs extra : List Job) (x : ℕ) → work_by (jobs ++ extra) x ≡ work_by jobs x + work_by extra x
work_by-both jobs extra x = sum_by-append (λ (j : Job). cond (nat_le j.dl x) j.left 0) jobs extra

pub work_from-both : (jobs extra : List Job) (a x : ℕ) → work_from (jobs ++ extra) a x ≡ work_from jobs a x + work_from extra a x
work_from-both jobs extra a x =
    sum_by-append (λ (j : Job). cond (nat_le a j.est && nat_le j.dl x) j.left 0) jobs extra

-- extra jobs are no planned ones, and have neither predecessors nor successors
module _ (set : TaskSet) (cycles row : ℕ) (jobs extra : List Job) (extras : AreExtra row extra) where
  -- no extra job is offline
  not_extra : (job : Job) → is_offline job.key ≡ true → Contains extra job → ⊥
  not_extra job offline at = both_ways (is_offline job.key) (extras.other job (Has-from_Contains extra job at)) offline

  -- so the offline jobs of both are planned
  pub ArePlanned-both : ArePlanned set (cycle_of set) cycles jobs → ArePlanned set (cycle_of set) cycles (jobs ++ extra)
  ArePlanned-both planned = λ job at offline.
      elim (Contains-append_cases jobs extra job at) [
        | inl own ↦ planned job own offline
        | inr other ↦ absurd (not_extra job offline other)
      ]

  -- and their successors and predecessors are among the first
  pub SuccessorsWait-both : SuccessorsWait set (cycle_of set) cycles jobs → SuccessorsWait set (cycle_of set) cycles (jobs ++ extra)
  SuccessorsWait-both wait = λ before after at listed first.
      elim (Contains-append_cases jobs extra before at) [
        | inl own ↦ Contains-append_left jobs extra after (wait before after own listed first)
        | inr other ↦ absurd (not_extra before (precedes-offline set before.key after.key first).0 other)
      ]

  pub PredecessorsWait-both : PredecessorsWait set (cycle_of set) cycles jobs → PredecessorsWait set (cycle_of set) cycles (jobs ++ extra)
  PredecessorsWait-both wait = λ before after at listed first.
      elim (Contains-append_cases jobs extra after at) [
        | inl own ↦ Contains-append_left jobs extra before (wait before after own listed first)
        | inr other ↦ absurd (not_extra after (precedes-offline set before.key after.key first).1 other)
      ]

-- the jobs of a scene: planned, in rows below this one, each key once, each with a slot left
pub record AreOwn (set : TaskSet) (cycles row : ℕ) (jobs : List Job) : Type 0 where
  pub planned : ArePlanned set (cycle_of set) cycles jobs
  pub apart : AreApart jobs
  pub rows : (job : Job) → Has jobs job → row_of job.key < row
  pub some : (job : Job) → Has jobs job → 1 ≤ job.left

-- where what both need fits, they have a schedule
pub served_beside : (set : TaskSet) (cycles row t end : ℕ) (jobs extra : List Job) → is_sound set ≡ true → AreOwn set cycles row jobs → AreExtra row extra → t ≤ end → ((x : ℕ) → t ≤ x → x ≤ end → work_by jobs x + work_by extra x ≤ x - t) → ((a x : ℕ) → t < a → a ≤ x → x ≤ end → work_from jobs a x + work_from extra a x ≤ x - a) → HasSchedule set (jobs ++ extra) t end
served_beside set cycles row t end jobs extra sound own extras low due to_come =
    safe_jobs_have_a_schedule
    set
    cycles
    (jobs ++ extra)
    t
    end
    sound
    (ArePlanned-both set cycles row jobs extra extras own.planned)
    (AreApart-append row jobs extra own.rows extras.above own.apart extras.apart)
    (λ job at.
    elim (Has-append_cases jobs extra job (Has-from_Contains (jobs ++ extra) job at)) [
      | inl a ↦ own.some job a
      | inr b ↦ extras.some job b
    ])
    low
    (record {
      due = λ x after before. omega (arith, due x after before, work_by-both jobs extra x);
      to_come = λ a x after middle before. omega (arith, to_come a x after middle before, work_from-both jobs extra a x);
    })

-- a planned job is due by the end of its cycles
pub planned_due : (set : TaskSet) (cycles : ℕ) (jobs : List Job) (job : Job) → is_sound set ≡ true → ArePlanned set (cycle_of set) cycles jobs → Contains jobs job → is_offline job.key ≡ true → raw_deadline set job ≤ cycles * cycle_of set
planned_due set cycles jobs job sound planned at offline =
    let (g, t, k, graph, own) = listed-from_planned set cycles jobs job planned at offline in
    let ends = raw_deadline-offline set job g t k graph own.graph_at own.key in
    let fits : GraphFits graph = GraphFits-from_sound set g graph sound own.graph_at in
    let whole = cycle-multiple set g graph sound own.graph_at in
    let last : (k + 1) * graph.period ≤ (cycles * (cycle_of set / graph.period)) * graph.period = mul-le-mul_right graph.period (omega (arith, own.below)) in
    let all : (cycles * (cycle_of set / graph.period)) * graph.period ≡ cycles * cycle_of set = omega (arith, ap (λ c. cycles * c) whole) in
    omega (arith, ends, fits.within, last, all)

-- so a job of both that is due by x has its raw deadline by the end
pub due_beside : (set : TaskSet) (cycles row x : ℕ) (jobs extra : List Job) → is_sound set ≡ true → ArePlanned set (cycle_of set) cycles jobs → AreExtra row extra → x ≤ cycles * cycle_of set → (job : Job) → Contains (jobs ++ extra) job → job.dl ≤ x → raw_deadline set job ≤ cycles * cycle_of set
due_beside set cycles row x jobs extra sound planned extras high job at early =
    elim (cases_Bool (is_offline job.key)) [
      | inl offline ↦ planned_due set cycles (jobs ++ extra) job sound (ArePlanned-both set cycles row jobs extra extras planned) at offline
      | inr other ↦ omega (arith, deadline_or-other set job.key job.dl other)
    ]

-- where both have a schedule, what they need by a time fits
pub closed_beside : (set : TaskSet) (cycles row t x : ℕ) (jobs extra : List Job) → is_sound set ≡ true → ArePlanned set (cycle_of set) cycles jobs → SuccessorsWait set (cycle_of set) cycles jobs → AreExtra row extra → x ≤ cycles * cycle_of set → HasSchedule set (jobs ++ extra) t (cycles * cycle_of set) → work_by jobs x + work_by extra x ≤ x - t
closed_beside set cycles row t x jobs extra sound planned wait extras high schedule =
    let fits = a_schedule_fits_its_work
    set
    cycles
    (jobs ++ extra)
    t
    (cycles * cycle_of set)
    x
    sound
    (ArePlanned-both set cycles row jobs extra extras planned)
    (SuccessorsWait-both set cycles row jobs extra extras wait)
    (due_beside set cycles row x jobs extra sound planned extras high)
    high
    schedule in
    omega (arith, fits, work_by-both jobs extra x)

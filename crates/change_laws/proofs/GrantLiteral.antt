-- With no time shifted a change can be served exactly where it can be with times counted from it.
use Rattle.std.proofs.Common.{◌≡◌, ℕ, ◌+◌, ◌-◌, ◌*◌, ◌≤◌, max, true, cond, List, [], ◌∷◌, ◌++◌, map, Option, refl, sym, ap, ◌∙◌, subst, arith}
use Rattle.std.specs.Prelude.{nat_le}
use Rattle.std.specs.List.{AllByRecursion}
use Rattle.std.proofs.lemmas.Bool.Decides.{nat_tests}
use Rattle.std.proofs.lemmas.List.Sums.{sum_by-cons}
use Rattle.slot_core.specs.declared.jobs.Job.{Job}
use Rattle.slot_core.specs.declared.tasks.Sporadic.{Sporadic}
use Rattle.slot_core.specs.declared.tasks.TaskSet.{TaskSet}
use Rattle.slot_core.specs.Offline.OfflineJobs.{offline_jobs}
use Rattle.slot_core.specs.Sets.Cycles.{cycle_of}
use Rattle.slot_core.specs.Sets.Ranges.{is_sound}
use Rattle.slot_core.specs.Feasibility.Sporadics.{arrivals_due, sporadic_demand, IsLegalPattern}
use Rattle.slot_core.specs.Runs.Demand.{work_by}
use Rattle.slot_core.specs.Claims.Futures.{pattern_jobs}
use Rattle.slot_facts.proofs.Demand.Arrivals.{arrivals_due-shifted_to_zero}
use Rattle.slot_facts.proofs.Patterns.Counts.{arrivals_due-from}
use Rattle.slot_facts.proofs.Bounds.CycleDemand.{FitsCycle, FitCycle-from_sound}
use Rattle.slot_facts.proofs.Scheduling.Beside.{work_by-both}
use Rattle.change_laws.specs.Carried.{since, jobs_after, AreCarried}
use Rattle.change_laws.specs.Grants.{jobs_with, CanChangeFor}
use Rattle.change_laws.specs.Demand.{due_after, FitsFor}
use Rattle.change_laws.specs.Literal.{moved, nexts_at, jobs_from, CanChangeAt, IsScheduleFrom, due_at, FitsAt}
use Rattle.change_laws.specs.Laws.{ChangesAtAreExact}
use Rattle.change_laws.proofs.GrantExact.{changes_are_exact}
use Rattle.change_laws.proofs.GrantMoved.{AreMoved, AreMoved-append, AreMoved-carried, AreMoved-offline, schedule_from, schedule_since}
use Rattle.change_laws.proofs.GrantPatterns.{moved_pattern, pattern_since, moved-from_legal, AreMoved-pattern, legal-moved, legal-since}

module _ (set : TaskSet) (c row cycles : ℕ) (carried : List Job) (own : AreCarried c row carried) where
  -- the jobs with a pattern are moved
  all_moved : (pattern : List (ℕ × ℕ)) → AreMoved set c (jobs_with set c carried (row + 1) cycles pattern) (jobs_from set c carried cycles ++ pattern_jobs set.sporadics (row + 1) (moved_pattern c pattern))
  all_moved pattern =
      let planned = offline_jobs set (cycle_of set) cycles in
      AreMoved-append set c (jobs_after set c carried cycles) (pattern_jobs set.sporadics (row + 1) pattern) (jobs_from set c carried cycles) (pattern_jobs set.sporadics (row + 1) (moved_pattern c pattern))
      (AreMoved-append set c (map (since c) carried) planned carried (map (moved c) planned) (AreMoved-carried set c row carried own) (AreMoved-offline set c cycles))
      (AreMoved-pattern set c (row + 1) pattern)

  -- so what can be served at its own times can be with times since the change
  can-since : CanChangeAt set c carried (row + 1) cycles → CanChangeFor set c carried (row + 1) cycles
  can-since can = λ pattern legal.
      let jobs = jobs_with set c carried (row + 1) cycles pattern in
      let other = jobs_from set c carried cycles ++ pattern_jobs set.sporadics (row + 1) (moved_pattern c pattern) in
      let (slots, schedule) = can (moved_pattern c pattern) (legal-moved set c pattern legal) in
      (slots, schedule_since set c (cycles * cycle_of set) jobs other slots (all_moved pattern) schedule)

  -- and the other way round
  can-at : CanChangeFor set c carried (row + 1) cycles → CanChangeAt set c carried (row + 1) cycles
  can-at can = λ pattern legal.
      let first = pattern_since c pattern in
      let same = moved-from_legal set c pattern legal in
      let jobs = jobs_with set c carried (row + 1) cycles first in
      let other = jobs_from set c carried cycles ++ pattern_jobs set.sporadics (row + 1) (moved_pattern c first) in
      let (slots, schedule) = can first (legal-since set c first (subst (IsLegalPattern set.sporadics (nexts_at set c) c) same legal)) in
      subst
      (λ (p : List (ℕ × ℕ)). (s : List (Option ℕ)) × IsScheduleFrom set c (jobs_from set c carried cycles ++ pattern_jobs set.sporadics (row + 1) p) (c + cycles * cycle_of set) s)
      (sym same)
      (slots, schedule_from set c (cycles * cycle_of set) jobs other slots (all_moved first) schedule)

carried_due : (c x dl left : ℕ) → cond (nat_le dl (c + x)) left 0 ≡ cond (nat_le (dl - c) x) left 0
carried_due c x dl left = grind (arith, nat_tests)

moved_due : (c x dl left : ℕ) → cond (nat_le (dl + c) (c + x)) left 0 ≡ cond (nat_le dl x) left 0
moved_due c x dl left = grind (arith, nat_tests)

-- as much is due by each time
work-since : (c x : ℕ) (jobs : List Job) → work_by jobs (c + x) ≡ work_by (map (since c) jobs) x
work-since c x [] = refl
work-since c x (job ∷ jobs) =
    omega (
      arith,
      sum_by-cons (λ (j : Job). cond (nat_le j.dl (c + x)) j.left 0) job jobs,
      sum_by-cons (λ (j : Job). cond (nat_le j.dl x) j.left 0) (since c job) (map (since c) jobs),
      carried_due c x job.dl job.left,
      work-since c x jobs,
    )

work-moved : (c x : ℕ) (jobs : List Job) → work_by (map (moved c) jobs) (c + x) ≡ work_by jobs x
work-moved c x [] = refl
work-moved c x (job ∷ jobs) =
    omega (
      arith,
      sum_by-cons (λ (j : Job). cond (nat_le j.dl (c + x)) j.left 0) (moved c job) (map (moved c) jobs),
      sum_by-cons (λ (j : Job). cond (nat_le j.dl x) j.left 0) job jobs,
      moved_due c x job.dl job.left,
      work-moved c x jobs,
    )

-- so do the densest arrivals from c on need by c later
arrivals-moved : (s : Sporadic) (c x : ℕ) → 1 ≤ s.separation → arrivals_due s c c (c + x) ≡ arrivals_due s 0 0 x
arrivals-moved s c x apart =
    let first : max c c ≡ c = omega arith in
    let length : c + x - c ≡ x = omega arith in
    arrivals_due-from s c c (c + x) ∙ (ap (λ r. arrivals_due s 0 r (c + x)) first ∙ (arrivals_due-shifted_to_zero s c (c + x) apart (omega arith) ∙ ap (arrivals_due s 0 0) length))

demand-moved : (cycle c x : ℕ) (ss : List Sporadic) → AllByRecursion (FitsCycle cycle) ss → sporadic_demand ss (map (λ (s : Sporadic). c) ss) c (c + x) ≡ sporadic_demand ss [] 0 x
demand-moved cycle c x [] fit = refl
demand-moved cycle c x (s ∷ ss) fit =
    omega (arith, ap (λ n. s.wcet * n) (arrivals-moved s c x fit.0.apart), demand-moved cycle c x ss fit.1)

pub due_at-same : (set : TaskSet) (c cycles x : ℕ) (carried : List Job) → is_sound set ≡ true → due_at set c carried cycles (c + x) ≡ due_after set c carried cycles x
due_at-same set c cycles x carried sound =
    let planned = offline_jobs set (cycle_of set) cycles in
    omega (
      arith,
      work_by-both carried (map (moved c) planned) (c + x),
      work_by-both (map (since c) carried) planned x,
      work-since c x carried,
      work-moved c x planned,
      demand-moved (cycle_of set) c x set.sporadics (FitCycle-from_sound set sound),
    )

-- so what fits from c on fits with times since the change
fits-since : (set : TaskSet) (c cycles : ℕ) (carried : List Job) → is_sound set ≡ true → FitsAt set c carried cycles → FitsFor set c carried cycles
fits-since set c cycles carried sound fits = λ x low high.
    omega (arith, fits (c + x) (omega (arith, low)) (omega (arith, high)), due_at-same set c cycles x carried sound)

fits-at : (set : TaskSet) (c cycles : ℕ) (carried : List Job) → is_sound set ≡ true → FitsFor set c carried cycles → FitsAt set c carried cycles
fits-at set c cycles carried sound fits = λ x low high.
    let y = x - c in
    let end : c + y ≡ x = omega (arith, low) in
    subst (λ e. due_at set c carried cycles e ≤ e - c) end (omega (arith, fits y (omega (arith, low)) (omega (arith, high)), due_at-same set c cycles y carried sound))

-- the change is the same at its own times
pub changes_at_are_exact : ChangesAtAreExact
changes_at_are_exact set c row cycles carried sound feasible own =
    let exact = changes_are_exact set c row cycles carried sound feasible own in (
      (can-since set c row cycles carried own, can-at set c row cycles carried own),
      (
        λ can. fits-at set c cycles carried sound (exact.0 (can-since set c row cycles carried own can)),
        λ fits. can-at set c row cycles carried own (exact.1 (fits-since set c cycles carried sound fits)),
      ),
      λ x. due_at-same set c cycles x carried sound,
    )

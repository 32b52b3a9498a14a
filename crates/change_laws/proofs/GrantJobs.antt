-- The jobs after a change of plan: carried ones beside offline ones.
use Rattle.std.proofs.Common.{◌≡◌, ℕ, ◌+◌, ◌-◌, ◌*◌, ◌/◌, ◌<◌, ◌≤◌, true, false, cond, ◌&&◌, not, List, ◌++◌, map, refl, sym, ap, ◌∙◌, subst, inl, inr, arith}
use Rattle.std.specs.Prelude.{Contains, nat_le}
use Rattle.std.proofs.Math.Nat.{mul-le-mul_right}
use Rattle.std.proofs.lemmas.Bool.{cases_Bool, cases_lt, both_ways, not-true, false_from_ne_true}
use Rattle.std.proofs.lemmas.Bool.Decides.{nat_tests}
use Rattle.std.proofs.lemmas.List.Elements.{Contains-append_right, recursion_from_All}
use Rattle.std.proofs.lemmas.List.Sums.{sum_by-append}
use Rattle.slot_core.specs.declared.jobs.Job.{Job}
use Rattle.slot_core.specs.declared.tasks.TaskSet.{TaskSet}
use Rattle.slot_core.specs.Offline.Keys.{is_offline, row_of, same_key}
use Rattle.slot_core.specs.Offline.OfflineJobs.{offline_jobs}
use Rattle.slot_core.specs.Sets.Cycles.{cycle_of}
use Rattle.slot_core.specs.Sets.Ranges.{is_sound}
use Rattle.slot_core.specs.Feasibility.Feasible.{IsFeasible}
use Rattle.slot_core.specs.Runs.Demand.{work_by, work_from}
use Rattle.slot_core.specs.Keeping.Kept.{AreApart, SuccessorsWait, PredecessorsWait}
use Rattle.slot_facts.proofs.Lists.Members.{Has, Has-from_Contains, Contains-from_Has, Has-append_cases, Has-map, Has-map_cases, Has-filter_passes, AllByRecursion-from_Has, AllByRecursion-at_Has, fold_max-start, fold_max-at, fold_max-le}
use Rattle.slot_facts.proofs.Lists.Apart.{count-none, IsApart-filter}
use Rattle.slot_facts.proofs.Lists.ApartKeys.{IsApart-from_count, AreApart-from_members}
use Rattle.slot_facts.proofs.Lists.Sums.{sum_by-map, sum_by-le-where, sum_by-constant}
use Rattle.slot_facts.proofs.Choice.Earliest.{same_from_key}
use Rattle.slot_facts.proofs.Offline.Windows.{IsOfCycle-from_offline}
use Rattle.slot_facts.proofs.Legal.Jobs.{offline-key}
use Rattle.slot_facts.proofs.Legal.Cycles.{offline_job-due}
use Rattle.slot_facts.proofs.Scheduling.Beside.{AreOwn}
use Rattle.slot_facts.proofs.Offers.Verdicts.{own-offline}
use Rattle.change_laws.specs.Carried.{carried_of, since, cycles_of_change, jobs_after, AreCarried}
use Rattle.change_laws.specs.Laws.{TheCyclesAreLeast, WhatRemainsIsCarried}

-- a carried job with its times counted from the change on
pub record IsSince (c row : ℕ) (job : Job) : Type 0 where
  pub other : is_offline job.key ≡ false
  pub begun : job.est ≡ 0
  pub due_later : 1 ≤ job.dl
  pub some : 1 ≤ job.left
  pub whole : job.left ≡ job.declared

-- so is each of them
pub IsSince-from_carried : (c row : ℕ) (carried : List Job) (job : Job) → AreCarried c row carried → Has (map (since c) carried) job → IsSince c row job
IsSince-from_carried c row carried job own at =
    let (old, listed, same) = Has-map_cases (since c) carried job at in
    let inside = Contains-from_Has carried old listed in
    subst (IsSince c row) same (record {
      other = own.other old inside;
      begun = omega (arith, own.come old inside);
      due_later = omega (arith, own.due_later old inside);
      some = own.some old inside;
      whole = refl;
    })

-- and its row is not above the last one
since-row : (c row : ℕ) (carried : List Job) (job : Job) → AreCarried c row carried → Has (map (since c) carried) job → row_of job.key ≤ row
since-row c row carried job own at =
    let (old, listed, same) = Has-map_cases (since c) carried job at in
    subst (λ (j : Job). row_of j.key ≤ row) same (own.rows old (Contains-from_Has carried old listed))

-- the keys of the jobs after a change are apart
pub jobs_after-apart : (set : TaskSet) (c row cycles : ℕ) (carried : List Job) → is_sound set ≡ true → AreCarried c row carried → AreApart (jobs_after set c carried cycles)
jobs_after-apart set c row cycles carried sound own = λ key.
    let test = λ (j : Job). same_key j.key key in
    let ours = map (since c) carried in
    let planned = offline_jobs set (cycle_of set) cycles in
    let split = sum_by-append (λ (j : Job). cond (test j) 1 0) ours planned in
    let same = sum_by-map (λ (j : Job). cond (test j) 1 0) (since c) carried in
    let first = own.apart key in
    let second = (own-offline set cycles sound).apart key in
    elim (cases_Bool (is_offline key)) [
      | inl offline ↦
          let none = count-none test ours (λ j at. false_from_ne_true (test j) (λ e. both_ways (is_offline j.key) (IsSince-from_carried c row carried j own at).other (ap is_offline (same_from_key j.key key e) ∙ offline))) in
          omega arith
      | inr other ↦
          let none = count-none test planned (λ j at. false_from_ne_true (test j) (λ e. both_ways (is_offline key) other (sym (ap is_offline (same_from_key j.key key e)) ∙ offline-key set (cycle_of set) cycles j at))) in
          omega arith
    ]

-- so they are jobs that may stand beside others: planned, apart, in rows of their own, with a slot left
pub jobs_after-own : (set : TaskSet) (c row cycles : ℕ) (carried : List Job) → is_sound set ≡ true → AreCarried c row carried → AreOwn set cycles (row + 1) (jobs_after set c carried cycles)
jobs_after-own set c row cycles carried sound own =
    let ours = map (since c) carried in
    let planned = offline_jobs set (cycle_of set) cycles in
    let second = own-offline set cycles sound in
    let carried_job = λ (job : Job) (at : Has ours job). IsSince-from_carried c row carried job own at in
    record {
      planned = λ job at offline.
          elim (Has-append_cases ours planned job (Has-from_Contains (ours ++ planned) job at)) [
            | inl a ↦ absurd (both_ways (is_offline job.key) (carried_job job a).other offline)
            | inr b ↦ second.planned job (Contains-from_Has planned job b) offline
          ];
      apart = jobs_after-apart set c row cycles carried sound own;
      rows = λ job at.
          elim (Has-append_cases ours planned job at) [
            | inl a ↦ omega (arith, since-row c row carried job own a)
            | inr b ↦ omega (arith, second.rows job b)
          ];
      some = λ job at.
          elim (Has-append_cases ours planned job at) [ inl a ↦ (carried_job job a).some | inr b ↦ second.some job b ];
    }

-- each has a slot, all of its slots left, and is due later
pub record IsToCome (job : Job) : Type 0 where
  pub some : 1 ≤ job.declared
  pub whole : job.left ≡ job.declared
  pub due_later : 0 < job.dl

pub jobs_after-to_come : (set : TaskSet) (c row cycles : ℕ) (carried : List Job) (job : Job) → is_sound set ≡ true → IsFeasible set (cycle_of set) → AreCarried c row carried → Has (jobs_after set c carried cycles) job → IsToCome job
jobs_after-to_come set c row cycles carried job sound feasible own at =
    let planned = offline_jobs set (cycle_of set) cycles in
    elim (Has-append_cases (map (since c) carried) planned job at) [
      | inl a ↦
          let x = IsSince-from_carried c row carried job own a in
          record { some = omega (arith, x.some, x.whole); whole = x.whole; due_later = x.due_later }
      | inr b ↦
          let x = IsOfCycle-from_offline set cycles job sound (Contains-from_Has planned job b) in
          record { some = x.2.some; whole = x.2.whole; due_later = omega (arith, offline_job-due set cycles job sound feasible b) }
    ]

-- the successors of each wait, as all offline jobs are listed
pub jobs_after-wait : (set : TaskSet) (c cycles : ℕ) (carried : List Job) → SuccessorsWait set (cycle_of set) cycles (jobs_after set c carried cycles)
jobs_after-wait set c cycles carried = λ before after at listed first.
    Contains-append_right (map (since c) carried) (offline_jobs set (cycle_of set) cycles) after listed

-- so do the predecessors
pub jobs_after-come : (set : TaskSet) (c cycles : ℕ) (carried : List Job) → PredecessorsWait set (cycle_of set) cycles (jobs_after set c carried cycles)
jobs_after-come set c cycles carried = λ before after at listed first.
    Contains-append_right (map (since c) carried) (offline_jobs set (cycle_of set) cycles) before listed

not_due_now : (dl left : ℕ) → 1 ≤ dl → cond (nat_le dl 0) left 0 ≤ 0
not_due_now dl left later = grind (arith, nat_tests)

-- no carried job is due at once
pub carried-not_due_now : (c row : ℕ) (carried : List Job) → AreCarried c row carried → work_by (map (since c) carried) 0 ≤ 0
carried-not_due_now c row carried own =
    let ours = map (since c) carried in
    let each = AllByRecursion-from_Has (λ (j : Job). 1 ≤ j.dl) ours (λ job at. (IsSince-from_carried c row carried job own at).due_later) in
    omega (arith, sum_by-le-where (λ (j : Job). cond (nat_le j.dl 0) j.left 0) (λ (j : Job). 0) (λ (j : Job). 1 ≤ j.dl) ours each (λ j later. not_due_now j.dl j.left later), sum_by-constant 0 ours)

not_from_later : (a x est dl left : ℕ) → est ≡ 0 → 0 < a → cond (nat_le a est && nat_le dl x) left 0 ≤ 0
not_from_later a x est dl left begun later = grind (arith, nat_tests)

-- nor does one start later
pub carried-not_from_later : (c row a x : ℕ) (carried : List Job) → AreCarried c row carried → 0 < a → work_from (map (since c) carried) a x ≤ 0
carried-not_from_later c row a x carried own later =
    let ours = map (since c) carried in
    let each = AllByRecursion-from_Has (λ (j : Job). j.est ≡ 0) ours (λ job at. (IsSince-from_carried c row carried job own at).begun) in
    omega (arith, sum_by-le-where (λ (j : Job). cond (nat_le a j.est && nat_le j.dl x) j.left 0) (λ (j : Job). 0) (λ (j : Job). j.est ≡ 0) ours each (λ j begun. not_from_later a x j.est j.dl j.left begun later), sum_by-constant 0 ours)

-- so many cycles reach a deadline
reached : (cycle c dl cycles : ℕ) → 1 ≤ cycle → (dl - c + (cycle - 1)) / cycle + 1 ≤ cycles → dl ≤ c + (cycles - 1) * cycle
reached cycle c dl cycles positive enough =
    let last = (dl - c + (cycle - 1)) / cycle in
    let few : last ≤ cycles - 1 = omega (arith, enough) in
    omega (arith, mul-le-mul_right cycle few)

-- and no fewer do
reaches : (cycle c dl cycles : ℕ) → 1 ≤ cycle → 1 ≤ cycles → dl ≤ c + (cycles - 1) * cycle → (dl - c + (cycle - 1)) / cycle + 1 ≤ cycles
reaches cycle c dl cycles positive some reach =
    let last = (dl - c + (cycle - 1)) / cycle in
    elim (cases_lt (cycles - 1) last) [
      | inl more ↦ absurd (omega (arith, mul-le-mul_right cycle more))
      | inr few ↦ omega arith
    ]

-- the number of cycles is the least that reaches each carried deadline
pub the_cycles_are_least : TheCyclesAreLeast
the_cycles_are_least cycle c row carried positive own =
    let numbers = map (λ (j : Job). (j.dl - c + (cycle - 1)) / cycle + 1) carried in
    let cycles = cycles_of_change cycle c carried in
    record {
      three = fold_max-start 3 numbers;
      reach = λ job at.
          let here : (job.dl - c + (cycle - 1)) / cycle + 1 ≤ cycles = fold_max-at 3 numbers ((job.dl - c + (cycle - 1)) / cycle + 1) (Has-map (λ (j : Job). (j.dl - c + (cycle - 1)) / cycle + 1) carried job (Has-from_Contains carried job at)) in
          reached cycle c job.dl cycles positive here;
      least = λ other enough reach.
          fold_max-le 3 other numbers enough
          (λ n at.
          let (job, listed, same) = Has-map_cases (λ (j : Job). (j.dl - c + (cycle - 1)) / cycle + 1) carried n at in
          omega (arith, same, reaches cycle c job.dl other positive (omega arith) (reach job (Contains-from_Has carried job listed))));
    }

-- the jobs that an executive has beside its offline ones may be carried over
pub what_remains_is_carried : WhatRemainsIsCarried
what_remains_is_carried exec kept =
    let jobs = exec.scene.jobs in
    let beside = λ (j : Job). not (is_offline j.key) in
    let own = λ (job : Job) (at : Contains (carried_of jobs) job). Has-filter_passes beside jobs job (Has-from_Contains (carried_of jobs) job at) in
    let listed = λ (job : Job) (at : Contains (carried_of jobs) job). Contains-from_Has jobs job (own job at).0 in
    let other = λ (job : Job) (at : Contains (carried_of jobs) job). not-true (is_offline job.key) (own job at).1 in
    record {
      other = other;
      hard = λ job at. (kept.bounds.come job (listed job at) (other job at)).0;
      come = λ job at. (kept.bounds.come job (listed job at) (other job at)).1;
      due_later = λ job at. (kept.bounds.left job (listed job at)).0;
      some = λ job at. (kept.bounds.left job (listed job at)).1;
      rows = λ job at. AllByRecursion-at_Has (λ (j : Job). row_of j.key ≤ exec.last_row) jobs job (recursion_from_All _ jobs kept.rows.jobs) (own job at).0;
      apart = AreApart-from_members (carried_of jobs) (IsApart-filter (λ (j : Job). j.key) beside jobs (IsApart-from_count jobs kept.bounds.apart));
    }

-- Alarms that were taken and requests that were accepted have their times.
use Rattle.std.proofs.Common.{◌≡◌, ◌+◌, ◌-◌, ◌*◌, ◌/◌, ◌≤◌, ◌++◌, inl, inr, ap, arith}
use Rattle.std.specs.Prelude.{Contains}
use Rattle.std.proofs.Math.Nat.{mul-le-mul_right}
use Rattle.std.proofs.lemmas.Bool.{cases_lt}
use Rattle.std.proofs.lemmas.Grind.{div_ceil_times}
use Rattle.slot_core.specs.declared.jobs.Key.TheVariants.{Sporadic as SporadicKey, Firm as FirmKey}
use Rattle.slot_core.specs.declared.jobs.Job.{Job}
use Rattle.slot_core.specs.declared.tasks.TaskSet.{TaskSet}
use Rattle.slot_core.specs.Sets.Cycles.{cycle_of}
use Rattle.slot_core.specs.Offline.OfflineJobs.{offline_jobs}
use Rattle.slot_core.specs.Runs.Histories.{History, time_of, firm_jobs, sporadic_jobs, offered_job, sporadic_job}
use Rattle.slot_core.specs.Runs.Scenes.{guaranteed}
use Rattle.slot_facts.proofs.Legal.Data.{legal-as_data}
use Rattle.slot_facts.proofs.Legal.Rows.{firm-come, sporadic_job-at}
use Rattle.slot_facts.proofs.Legal.Served.{every_legal_history_is_served}
use Rattle.slot_facts.proofs.Lists.Members.{Has-append_left, Has-append_right, Has-from_Contains, Contains-from_Has}
use Rattle.clock_units.specs.Rounding.{down, up}
use Rattle.clock_units.proofs.Roundings.{down-le, le-up}
use Rattle.clock_laws.specs.Service.{AlarmsAreServed, RequestsAreServed}
use Rattle.clock_laws.proofs.Handed.{alarm-in_time}
use Rattle.clock_laws.proofs.Nanos.{nanos-wider, slots_give_time}
use Rattle.clock_laws.proofs.Parts.{worth, SporadicAt-from_derived, some-slot, wcet-held}
use Rattle.clock_laws.proofs.Roundings.{le-of_pieces}

-- firm jobs and sporadic jobs are among the guaranteed ones
guaranteed-firm : (set : TaskSet) (h : History) (job : Job) → Contains (firm_jobs h) job → Contains (guaranteed set (cycle_of set) h) job
guaranteed-firm set h job at =
    let planned = offline_jobs set (cycle_of set) (time_of h / cycle_of set + 3) in
    Contains-from_Has (guaranteed set (cycle_of set) h) job
    (Has-append_left (planned ++ firm_jobs h) (sporadic_jobs set.sporadics h) job (Has-append_right planned (firm_jobs h) job (Has-from_Contains (firm_jobs h) job at)))

guaranteed-sporadic : (set : TaskSet) (h : History) (job : Job) → Contains (sporadic_jobs set.sporadics h) job → Contains (guaranteed set (cycle_of set) h) job
guaranteed-sporadic set h job at =
    let planned = offline_jobs set (cycle_of set) (time_of h / cycle_of set + 3) in
    Contains-from_Has (guaranteed set (cycle_of set) h) job
    (Has-append_right (planned ++ firm_jobs h) (sporadic_jobs set.sporadics h) job (Has-from_Contains (sporadic_jobs set.sporadics h) job at))

pub alarms_are_served : AlarmsAreServed
alarms_are_served physical set h has index row at own run own_at polled listed due kept =
    let (some, value, less) = some-slot physical set run.derived in
    let found = SporadicAt-from_derived physical set index own run.derived own_at in
    let s = found.sporadic in
    let handed = up physical.slot at in
    let job = sporadic_job set.sporadics index row handed in
    let is = sporadic_job-at set.sporadics index row handed s found.at in
    let ends : job.dl ≡ handed + s.deadline = ap (λ (j : Job). j.dl) is in
    let slots : job.declared ≡ s.wcet = ap (λ (j : Job). j.declared) is in
    let in_time = alarm-in_time physical.slot (worth physical) at job.dl own s some found.parts polled (omega arith) in
    let by = le-of_pieces physical.slot job.dl (time_of h) some (omega (arith, in_time, due)) in
    let served = (every_legal_history_is_served set h run.sound run.feasible run.legal).0 in
    let got = slots_give_time set (cycle_of set) physical.slot physical.overhead has h job less served run.given (guaranteed-sporadic set h job listed) by kept in
    let held = wcet-held (worth physical) own.wcet s.wcet value found.parts.wcet.is in
    let from = (div_ceil_times at physical.slot some).0 in
    omega (arith, held, got, ap (λ n. n * worth physical) slots, nanos-wider has (SporadicKey index row) (handed * physical.slot) (job.dl * physical.slot) at (at + own.deadline) (omega (arith, from)) in_time)

pub requests_are_served : RequestsAreServed
requests_are_served physical set h has row at wcet deadline slots within run enough early listed due kept =
    let (some, value, less) = some-slot physical set run.derived in
    let slot = physical.slot in
    let handed = up slot at in
    let job = offered_job row handed slots within in
    let served = (every_legal_history_is_served set h run.sound run.feasible run.legal).0 in
    let among = guaranteed-firm set h job listed in
    let come = firm-come set (cycle_of set) h job (legal-as_data set (cycle_of set) h run.legal) (Has-from_Contains (firm_jobs h) job listed) in
    let give = λ (by : job.dl ≤ time_of h). slots_give_time set (cycle_of set) slot physical.overhead has h job less served run.given among by kept in
    let held = le-up (worth physical) slots wcet value enough in
    elim (cases_lt 0 within) [
      | inl later ↦
          let end : job.dl ≤ down slot (at + deadline) = omega (arith, early) in
          let in_time = down-le slot job.dl (at + deadline) some end in
          let by = le-of_pieces slot job.dl (time_of h) some (omega (arith, in_time, due)) in
          let from = (div_ceil_times at slot some).0 in
          omega (arith, held, give by, nanos-wider has (FirmKey row) (handed * slot) (job.dl * slot) at (at + deadline) (omega (arith, from)) in_time)
      | inr none ↦
          let end : job.dl ≡ handed = omega arith in
          let empty : job.dl * slot - handed * slot ≡ 0 = rw end (omega arith) in
          let nothing = rw empty at (give (omega (arith, end, come.starts))) in
          let one : 1 * worth physical ≤ slots * worth physical = mul-le-mul_right (worth physical) come.some in
          absurd (omega (arith, nothing, one, value))
    ]

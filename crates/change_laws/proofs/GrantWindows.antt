-- A slot schedule after a change stays inside derived windows.
use Rattle.std.proofs.Common.{◌≡◌, ◌+◌, ◌*◌, true, ◌&&◌, [], ◌++◌, arith}
use Rattle.std.specs.Prelude.{nat_le}
use Rattle.std.proofs.lemmas.Bool.{and_parts, leb-true}
use Rattle.slot_core.specs.declared.jobs.Job.{Job}
use Rattle.slot_core.specs.Sets.Cycles.{cycle_of}
use Rattle.slot_core.specs.Claims.Futures.{pattern_jobs}
use Rattle.slot_facts.proofs.Lists.Members.{Has-from_slice_get, Contains-from_Has}
use Rattle.slot_facts.proofs.Scheduling.Fits.{slots_lie_before_derived_deadlines, slots_lie_after_derived_starts, work_in_window}
use Rattle.slot_facts.proofs.Scheduling.Extras.{AreExtra-pattern}
use Rattle.slot_facts.proofs.Scheduling.Beside.{planned_due, due_beside, ArePlanned-both, SuccessorsWait-both, PredecessorsWait-both}
use Rattle.change_laws.specs.Carried.{jobs_after}
use Rattle.change_laws.specs.Laws.{SlotsLieInDerivedWindows, AScheduleFitsEachWindow}
use Rattle.change_laws.proofs.GrantJobs.{jobs_after-own, jobs_after-wait, jobs_after-come}

-- each slot of a job lies in its derived window
pub slots_lie_in_derived_windows : SlotsLieInDerivedWindows
slots_lie_in_derived_windows set c row cycles u n carried pattern slots job sound own legal schedule at listed =
    let end = cycles * cycle_of set in
    let jobs = jobs_after set c carried cycles in
    let extra = pattern_jobs set.sporadics (row + 1) pattern in
    let extras = AreExtra-pattern set [] 0 (row + 1) (row + 1) pattern sound (omega arith) legal in
    let planned = ArePlanned-both set cycles (row + 1) jobs extra extras (jobs_after-own set c row cycles carried sound own).planned in
    let after = SuccessorsWait-both set cycles (row + 1) jobs extra extras (jobs_after-wait set c cycles carried) in
    let before = PredecessorsWait-both set cycles (row + 1) jobs extra extras (jobs_after-come set c cycles carried) in
    let due = planned_due set cycles (jobs ++ extra) job sound planned (Contains-from_Has (jobs ++ extra) job (Has-from_slice_get (jobs ++ extra) n job listed)) in (
      omega (arith, slots_lie_after_derived_starts set cycles (jobs ++ extra) 0 end u n slots job sound planned before schedule at listed due),
      omega (arith, slots_lie_before_derived_deadlines set cycles (jobs ++ extra) 0 end u n slots job sound planned after schedule at listed due),
    )

-- so the work of each window fits it
pub a_schedule_fits_each_window : AScheduleFitsEachWindow
a_schedule_fits_each_window set c row cycles a x carried pattern sound own legal high (slots, schedule) =
    let jobs = jobs_after set c carried cycles in
    let extra = pattern_jobs set.sporadics (row + 1) pattern in
    let both = jobs ++ extra in
    let extras = AreExtra-pattern set [] 0 (row + 1) (row + 1) pattern sound (omega arith) legal in
    let planned = (jobs_after-own set c row cycles carried sound own).planned in
    let test = λ (j : Job). nat_le a j.est && nat_le j.dl x in
    let parts = λ (job : Job) (passes : test job ≡ true). and_parts (nat_le a job.est) (nat_le job.dl x) passes in
    work_in_window set both 0 (cycles * cycle_of set) a x slots test schedule
    (λ n job listed passes. due_beside set cycles (row + 1) x jobs extra sound planned extras high job (Contains-from_Has both job (Has-from_slice_get both n job listed)) (leb-true job.dl x (parts job passes).1))
    (λ u n job at listed passes.
    let inside = slots_lie_in_derived_windows set c row cycles u n carried pattern slots job sound own legal schedule at listed in
    (omega (arith, leb-true a job.est (parts job passes).0, inside.0), omega (arith, leb-true job.dl x (parts job passes).1, inside.1)))
    (omega arith)

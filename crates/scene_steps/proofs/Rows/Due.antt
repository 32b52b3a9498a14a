-- Jobs that are due at points.
use Rattle.std.proofs.Common.{◌≡◌, ℕ, ◌<◌, ◌≤◌, ◌⊎◌, cond, ltb, leb, ◌&&◌, List, [], ◌∷◌, refl, arith}
use Rattle.std.specs.Prelude.{Contains}
use Rattle.std.specs.List.{AllByRecursion}
use Rattle.std.proofs.lemmas.Bool.Decides.{nat_tests}
use Rattle.std.proofs.lemmas.List.Elements.{All-from_recursion, recursion_from_All}
use Rattle.slot_core.specs.declared.jobs.Job.{Job}
use Rattle.slot_core.specs.Runs.Demand.{work_between}
use Rattle.slot_facts.proofs.Lists.Members.{Has, Has-from_Contains, Contains-from_Has, AllByRecursion-at_Has, AllByRecursion-from_Has}
use Rattle.interval_build.proofs.Due.{work_of_first, work_between-cons}
use Rattle.scene_steps.specs.Rows.{AreDueAmong}

-- the deadline of each of the jobs is a point
pub Has-due : (points : List ℕ) (jobs : List Job) (job : Job) → AreDueAmong points jobs → Has jobs job → Has points job.dl
Has-due points jobs job due at =
    Has-from_Contains points job.dl
    (AllByRecursion-at_Has (λ (j : Job). Contains points j.dl) jobs job (recursion_from_All (λ (j : Job). Contains points j.dl) jobs due) at)

-- jobs whose deadlines are points are due at them
pub AreDueAmong-from_Has : (points : List ℕ) (jobs : List Job) → ((job : Job) → Has jobs job → Has points job.dl) → AreDueAmong points jobs
AreDueAmong-from_Has points jobs due =
    All-from_recursion (λ (j : Job). Contains points j.dl) jobs
    (AllByRecursion-from_Has (λ (j : Job). Contains points j.dl) jobs (λ j at. Contains-from_Has points j.dl (due j at)))

-- one job counts alike from both starts
first_from_later : (left dl s later e : ℕ) → s ≤ later → (dl ≤ s) ⊎ (later < dl) → cond (ltb s dl && leb dl e) left 0 ≡ cond (ltb later dl && leb dl e) left 0
first_from_later left dl s later e low h = grind (arith, nat_tests)

-- where no job is due between two starts, the same work is due from both on
pub work_between-from_later : (jobs : List Job) (s later e : ℕ) → s ≤ later → AllByRecursion (λ (j : Job). (j.dl ≤ s) ⊎ (later < j.dl)) jobs → work_between jobs s e ≡ work_between jobs later e
work_between-from_later [] s later e low none = refl
work_between-from_later (j ∷ jobs) s later e low none =
    let first : work_of_first s e j ≡ work_of_first later e j = first_from_later j.left j.dl s later e low none.0 in
    let rest = work_between-from_later jobs s later e low none.1 in
    omega (arith, work_between-cons s e j jobs, work_between-cons later e j jobs)

-- The jobs of a scene that keeps its bounds: none is soft, they are due by the end of the cycles, and all that is left
-- fits the slots up to it.
use Rattle.std.proofs.Common.{◌≡◌, ℕ, ◌+◌, ◌-◌, ◌*◌, ◌≤◌, true, false, cond, List, [], ◌∷◌, length, mul-le-mul_right, le-leb, inl, inr, refl, arith}
use Rattle.std.specs.Prelude.{All, Contains, sum_by, nat_le}
use Rattle.std.specs.List.{AllByRecursion}
use Rattle.std.proofs.lemmas.Bool.{cases_Bool}
use Rattle.std.proofs.lemmas.List.Elements.{All-from_recursion}
use Rattle.std.proofs.lemmas.List.Sums.{sum_by-cons}
use Rattle.slot_core.specs.declared.jobs.Job.{Job}
use Rattle.slot_core.specs.declared.tasks.TaskSet.{TaskSet}
use Rattle.slot_core.specs.Offline.Keys.{is_offline, is_soft}
use Rattle.slot_core.specs.Sets.Cycles.{cycle_of}
use Rattle.slot_core.specs.Sets.Ranges.{is_sound}
use Rattle.slot_core.specs.Runs.Demand.{work_by}
use Rattle.slot_core.specs.Runs.Scenes.{Scene}
use Rattle.slot_core.specs.Keeping.Kept.{KeepsBounds}
use Rattle.slot_facts.proofs.Legal.Jobs.{not_soft-from_offline}
use Rattle.slot_facts.proofs.Lists.Members.{Contains-from_Has, AllByRecursion-from_Has}
use Rattle.slot_facts.proofs.Lists.MemberSums.{length-at_most_sum}
use Rattle.slot_facts.proofs.Offline.Windows.{IsOfCycle-from_offline}

-- where all jobs are due by x, all that is left is work due by x
pub work_by-all : (jobs : List Job) (x : ℕ) → AllByRecursion (λ (j : Job). j.dl ≤ x) jobs → work_by jobs x ≡ sum_by (λ (j : Job). j.left) jobs
work_by-all [] x all = refl
work_by-all (j ∷ jobs) x all =
    let here : cond (nat_le j.dl x) j.left 0 ≡ j.left = rw (le-leb j.dl x all.0) refl in
    omega (arith, sum_by-cons (λ (o : Job). o.left) j jobs, sum_by-cons (λ (o : Job). cond (nat_le o.dl x) o.left 0) j jobs, work_by-all jobs x all.1, here)

-- a job of a scene that keeps its bounds is not soft
pub jobs-not_soft : (set : TaskSet) (cycle cycles : ℕ) (scene : Scene) (job : Job) → KeepsBounds set cycle cycles scene → Contains scene.jobs job → is_soft job.key ≡ false
jobs-not_soft set cycle cycles scene job bounds at =
    elim (cases_Bool (is_offline job.key)) [
      | inl offline ↦ not_soft-from_offline job.key offline
      | inr other ↦ (bounds.come job at other).0
    ]

-- so all of them are not
pub all-not_soft : (set : TaskSet) (cycle cycles : ℕ) (scene : Scene) → KeepsBounds set cycle cycles scene → All (λ (j : Job). is_soft j.key ≡ false) scene.jobs
all-not_soft set cycle cycles scene bounds =
    All-from_recursion (λ (j : Job). is_soft j.key ≡ false) scene.jobs (AllByRecursion-from_Has (λ (j : Job). is_soft j.key ≡ false) scene.jobs (λ job at. jobs-not_soft set cycle cycles scene job bounds (Contains-from_Has scene.jobs job at)))

-- each has a slot left
pub all-have_left : (set : TaskSet) (cycle cycles : ℕ) (scene : Scene) → KeepsBounds set cycle cycles scene → All (λ (j : Job). 1 ≤ j.left) scene.jobs
all-have_left set cycle cycles scene bounds =
    All-from_recursion (λ (j : Job). 1 ≤ j.left) scene.jobs (AllByRecursion-from_Has (λ (j : Job). 1 ≤ j.left) scene.jobs (λ job at. (bounds.left job (Contains-from_Has scene.jobs job at)).1))

module _ (set : TaskSet) (cycles : ℕ) (scene : Scene) (sound : is_sound set ≡ true) (bounds : KeepsBounds set (cycle_of set) cycles scene) (reaches : scene.time + cycle_of set ≤ cycles * cycle_of set) where
  abbrev end : ℕ
  end = cycles * cycle_of set

  -- each job is due by the end of the cycles
  pub due_by_end : (job : Job) → Contains scene.jobs job → job.dl ≤ end
  due_by_end job at =
      elim (cases_Bool (is_offline job.key)) [
        | inl offline ↦
            let of_cycle = IsOfCycle-from_offline set cycles (record job { left = job.declared }) sound (bounds.planned job at offline) in
            let last : (of_cycle.0 + 1) * cycle_of set ≤ cycles * cycle_of set = mul-le-mul_right (cycle_of set) (omega (arith, of_cycle.1)) in
            omega (arith, of_cycle.2.ends)
        | inr other ↦ omega (arith, reaches, bounds.come job at other)
      ]

  -- all that is left fits
  pub left-fits : sum_by (λ (j : Job). j.left) scene.jobs ≤ end - scene.time
  left-fits =
      let near = AllByRecursion-from_Has (λ (j : Job). j.dl ≤ end) scene.jobs (λ job at. due_by_end job (Contains-from_Has scene.jobs job at)) in
      omega (arith, work_by-all scene.jobs end near, bounds.fits end (omega (arith, reaches)) (omega arith))

  -- and so there are no more jobs than slots
  pub jobs-fit : length scene.jobs ≤ end - scene.time
  jobs-fit =
      omega (arith, left-fits, length-at_most_sum (λ (j : Job). j.left) scene.jobs (λ job at. (bounds.left job (Contains-from_Has scene.jobs job at)).1))

-- What holds of the scene of a history, whatever ran in its slots and whatever is late.
use Rattle.std.proofs.Common.{◌≡◌, ℕ, ◌+◌, ◌/◌, ◌≤◌, ◌⊎◌, ◌^◌, true, sym, ap, subst, div-mul-le_self, inl, inr, arith, cond, ◌∙◌}
use Rattle.std.specs.Prelude.{All, Contains, sum_by, length}
use Rattle.std.proofs.lemmas.Bool.{cases_lt}
use Rattle.std.proofs.lemmas.List.Elements.{All-from_recursion}
use Rattle.slot_core.specs.declared.TheConstants.{ARRIVAL_LIMIT}
use Rattle.slot_core.specs.declared.jobs.Job.{Job}
use Rattle.slot_core.specs.declared.tasks.TaskSet.{TaskSet}
use Rattle.slot_core.specs.Sets.Cycles.{cycle_of}
use Rattle.slot_core.specs.Sets.Ranges.{is_sound}
use Rattle.slot_core.specs.Feasibility.Feasible.{IsFeasible}
use Rattle.slot_core.specs.Keeping.Kept.{AreApart}
use Rattle.slot_core.specs.Runs.Histories.{History, time_of, last_row}
use Rattle.slot_core.specs.Runs.Rising.{AreRising, last_point}
use Rattle.slot_core.specs.Runs.Matches.{IsSameScene}
use Rattle.slot_core.specs.Offline.Keys.{same_key}
use Rattle.slot_core.specs.Runs.Scenes.{Scene, scene_of, horizon, guaranteed_in, remaining, points_of}
use Rattle.slot_facts.proofs.Histories.Unended.{unended_own, unended_have_left}
use Rattle.slot_facts.proofs.Legal.Bounds.{unended-apart}
use Rattle.slot_facts.proofs.Legal.Data.{Slots, Entries}
use Rattle.slot_facts.proofs.Legal.NextArrivals.{length-next_arrivals}
use Rattle.slot_facts.proofs.Legal.Works.{left-few, guaranteed-end}
use Rattle.slot_facts.proofs.Lists.Members.{Has, Contains-from_Has, AllByRecursion-from_Has}
use Rattle.slot_facts.proofs.Offline.Jobs.{cycle-at_most}
use Rattle.scene_steps.proofs.Facts.ScenePoints.{guaranteed-due_at_point, points_of-rising, points_of-last}
use Rattle.scene_steps.proofs.Facts.ProperScenes.{all-same_items}

module _ {S : Slots} (set : TaskSet) (h : History) (sound : is_sound set ≡ true) (told : Entries S set (cycle_of set) h) where
  -- the cycles up to the horizon
  abbrev cycles : ℕ
  cycles = time_of h / cycle_of set + 3

  -- no key stands twice among the remaining jobs
  pub remaining-apart : AreApart (remaining set (cycle_of set) h)
  remaining-apart = unended-apart set cycles h sound told

  -- each is due by the horizon
  due_by_horizon : (job : Job) → Has (remaining set (cycle_of set) h) job → job.dl ≤ horizon (cycle_of set) (time_of h)
  due_by_horizon job at =
      let own = unended_own h (guaranteed_in set (cycle_of set) cycles h) job at in
      let due_is : job.dl ≡ own.0.dl = ap (λ (j : Job). j.dl) own.1.same in
      omega (arith, guaranteed-end set cycles h own.0 sound told (omega arith) own.1.listed)

  pub remaining-near : All (λ (j : Job). j.dl ≤ horizon (cycle_of set) (time_of h)) (remaining set (cycle_of set) h)
  remaining-near =
      let near = λ (j : Job). j.dl ≤ horizon (cycle_of set) (time_of h) in
      All-from_recursion near (remaining set (cycle_of set) h) (AllByRecursion-from_Has near (remaining set (cycle_of set) h) due_by_horizon)

  -- and at a point, where that is to come
  due_at_point : (job : Job) → IsFeasible set (cycle_of set) → Has (remaining set (cycle_of set) h) job → (job.dl ≤ time_of h) ⊎ Contains (points_of set (cycle_of set) h) job.dl
  due_at_point job feasible at =
      let points = points_of set (cycle_of set) h in
      let own = unended_own h (guaranteed_in set (cycle_of set) cycles h) job at in
      let due_is : job.dl ≡ own.0.dl = ap (λ (j : Job). j.dl) own.1.same in
      elim (cases_lt (time_of h) job.dl) [
        | inl later ↦
            let listed = guaranteed-due_at_point set cycles h own.0 sound feasible own.1.listed (omega arith) (omega (arith, due_by_horizon job at)) in
            inr (Contains-from_Has points job.dl (subst (Has points) (sym due_is) listed))
        | inr late ↦ inl late
      ]

  pub remaining-at_points : IsFeasible set (cycle_of set) → All (λ (j : Job). (j.dl ≤ time_of h) ⊎ Contains (points_of set (cycle_of set) h) j.dl) (remaining set (cycle_of set) h)
  remaining-at_points feasible =
      let at_point = λ (j : Job). (j.dl ≤ time_of h) ⊎ Contains (points_of set (cycle_of set) h) j.dl in
      All-from_recursion at_point (remaining set (cycle_of set) h) (AllByRecursion-from_Has at_point (remaining set (cycle_of set) h) (λ j at. due_at_point j feasible at))

  -- in sum they have few slots left
  pub remaining-few : IsFeasible set (cycle_of set) → time_of h ≤ 2 ^ 32 → last_row h ≤ ARRIVAL_LIMIT → sum_by (λ (j : Job). j.left) (remaining set (cycle_of set) h) ≤ 2 ^ 34
  remaining-few feasible early rows =
      omega (arith, left-few set cycles h sound feasible told, cycle-at_most set sound, div-mul-le_self (time_of h) (cycle_of set))

-- a scene that is that of a history
module _ {S : Slots} (set : TaskSet) (h : History) (a : Scene) (sound : is_sound set ≡ true) (told : Entries S set (cycle_of set) h) (same : IsSameScene a (scene_of set (cycle_of set) h)) where
  -- its keys are apart
  pub scene-apart : AreApart a.jobs
  scene-apart key =
      let counts = same.jobs (λ (j : Job). cond (same_key j.key key) 1 0) in
      omega (arith, remaining-apart set h sound told key)

  -- each of its jobs has a slot left
  pub scene-left : All (λ (j : Job). 1 ≤ j.left) a.jobs
  scene-left =
      all-same_items (λ (j : Job). 1 ≤ j.left) a.jobs (remaining set (cycle_of set) h) same.jobs (unended_have_left h (guaranteed_in set (cycle_of set) (time_of h / cycle_of set + 3) h))

  -- in sum they have few
  pub scene-few : IsFeasible set (cycle_of set) → a.time ≤ 2 ^ 32 → last_row h ≤ ARRIVAL_LIMIT → sum_by (λ (j : Job). j.left) a.jobs ≤ 2 ^ 34
  scene-few feasible early rows =
      let sums = same.jobs (λ (j : Job). j.left) in
      omega (arith, remaining-few set h sound told feasible (omega (arith, same.time)) rows)

  -- each is due by the horizon
  pub scene-near : All (λ (j : Job). j.dl ≤ horizon (cycle_of set) a.time) a.jobs
  scene-near =
      subst
      (λ t. All (λ (j : Job). j.dl ≤ horizon (cycle_of set) t) a.jobs)
      (sym same.time)
      (all-same_items (λ (j : Job). j.dl ≤ horizon (cycle_of set) (time_of h)) a.jobs (remaining set (cycle_of set) h) same.jobs (remaining-near set h sound told))

  -- and at a point, where that is to come
  pub scene-at_points : IsFeasible set (cycle_of set) → All (λ (j : Job). (j.dl ≤ a.time) ⊎ Contains a.points j.dl) a.jobs
  scene-at_points feasible =
      let points = points_of set (cycle_of set) h in
      let listed = all-same_items (λ (j : Job). (j.dl ≤ time_of h) ⊎ Contains points j.dl) a.jobs (remaining set (cycle_of set) h) same.jobs (remaining-at_points set h sound told feasible) in
      subst
      (λ t. All (λ (j : Job). (j.dl ≤ t) ⊎ Contains a.points j.dl) a.jobs)
      (sym same.time)
      (subst (λ ps. All (λ (j : Job). (j.dl ≤ time_of h) ⊎ Contains ps j.dl) a.jobs) (sym same.points) listed)

  -- the points rise from its time, and there is one at the horizon
  pub scene-rising : AreRising a.time a.points
  scene-rising =
      subst (λ t. AreRising t a.points) (sym same.time) (subst (AreRising (time_of h)) (sym same.points) (points_of-rising set h))

  pub scene-last : IsFeasible set (cycle_of set) → last_point a.time a.points ≡ horizon (cycle_of set) a.time
  scene-last feasible =
      ap (λ t. last_point t a.points) same.time ∙ (ap (last_point (time_of h)) same.points ∙ (points_of-last set h sound feasible ∙ sym (ap (horizon (cycle_of set)) same.time)))

  -- each sporadic task has its next legal arrival
  pub scene-one_each : length a.nexts ≡ length set.sporadics
  scene-one_each = ap length same.nexts ∙ length-next_arrivals set.sporadics h 0

-- The scene of a legal history is proper, and so is that of each executive that stands for one.
use Rattle.std.proofs.Common.{◌≡◌, ℕ, ◌+◌, ◌-◌, ◌*◌, ◌/◌, ◌≤◌, true, List, length, sym, ap, ◌∙◌, subst, arith}
use Rattle.std.specs.Prelude.{All, Contains}
use Rattle.std.proofs.lemmas.List.Elements.{All-from_recursion}
use Rattle.std.proofs.lemmas.List.Sorted.{All-permutation, IsPermutation-sym}
use Rattle.slot_core.specs.declared.jobs.Job.{Job}
use Rattle.slot_core.specs.declared.tasks.TaskSet.{TaskSet}
use Rattle.slot_core.specs.Sets.Cycles.{cycle_of}
use Rattle.slot_core.specs.Sets.Ranges.{is_sound}
use Rattle.slot_core.specs.Feasibility.Feasible.{IsFeasible}
use Rattle.slot_core.specs.Runs.Histories.{History, time_of}
use Rattle.slot_core.specs.Runs.Rising.{AreRising, last_point}
use Rattle.slot_core.specs.Runs.Scenes.{Scene, horizon, guaranteed_in, remaining, scene_of, points_of}
use Rattle.slot_core.specs.Runs.Matches.{HaveSameItems, IsSameScene, MatchesHistory}
use Rattle.slot_core.specs.Runs.Traces.{IsLegal}
use Rattle.slot_core.specs.Keeping.Plans.{IsPlan}
use Rattle.slot_core.specs.Keeping.Executives.{Executive, StandsForSome}
use Rattle.slot_facts.proofs.Lists.Members.{Has, Contains-from_Has, AllByRecursion-from_Has}
use Rattle.slot_facts.proofs.Lists.SameItems.{jobs-same_items}
use Rattle.slot_facts.proofs.Lists.Sums.{sum_by-constant}
use Rattle.slot_facts.proofs.Histories.Unended.{unended_own}
use Rattle.slot_facts.proofs.Offline.Jobs.{cycle-positive}
use Rattle.slot_facts.proofs.Legal.Bounds.{below_end}
use Rattle.slot_facts.proofs.Legal.Kept.{every_legal_history_is_kept}
use Rattle.scene_steps.specs.Scenes.{IsProperScene}
use Rattle.scene_steps.proofs.Facts.ScenePoints.{guaranteed-due_at_point, points_of-rising, points_of-last, points_of-few}
use Rattle.scene_steps.proofs.Facts.SceneWork.{due_by_end, left-fits, jobs-fit}

-- the scene of a legal history is proper
pub proper_scene-legal : (set : TaskSet) (h : History) → is_sound set ≡ true → IsFeasible set (cycle_of set) → IsLegal set (cycle_of set) h → IsProperScene (cycle_of set) (scene_of set (cycle_of set) h)
proper_scene-legal set h sound feasible legal =
    let cycle = cycle_of set in
    let cycles = time_of h / cycle_of set + 3 in
    let scene = scene_of set (cycle_of set) h in
    let some = cycle-positive set sound in
    let bounds = (every_legal_history_is_kept set h (time_of h / cycle_of set + 3) sound feasible legal (omega arith)).bounds in
    let reach : time_of h + cycle_of set ≤ (time_of h / cycle_of set + 3) * cycle_of set = omega (arith, below_end (time_of h) (cycle_of set) (time_of h / cycle_of set + 3) some (omega arith)) in
    let at_point = λ (job : Job) (at : Has (remaining set (cycle_of set) h) job).
    let listed = Contains-from_Has (remaining set (cycle_of set) h) job at in
    let own = unended_own h (guaranteed_in set (cycle_of set) (time_of h / cycle_of set + 3) h) job at in
    let due_is : job.dl ≡ own.0.dl = ap (λ (j : Job). j.dl) own.1.same in
    let later = (bounds.left job listed).0 in
    let near = due_by_end set cycles scene sound bounds reach job listed in
    let own_at = guaranteed-due_at_point set cycles h own.0 sound feasible own.1.listed (omega arith) (omega arith) in
    Contains-from_Has (points_of set (cycle_of set) h) job.dl (subst (Has (points_of set (cycle_of set) h)) (sym due_is) own_at) in
    record {
      rising = points_of-rising set h;
      last = points_of-last set h sound feasible;
      due = All-from_recursion (λ (j : Job). Contains scene.points j.dl) scene.jobs (AllByRecursion-from_Has (λ (j : Job). Contains scene.points j.dl) scene.jobs at_point);
      few_points = points_of-few set h;
      few_jobs = jobs-fit set cycles scene sound bounds reach;
      left = left-fits set cycles scene sound bounds reach;
    }

-- what holds of each job of a list holds of those of a list with the same items
pub all-same_items : (P : Job → Type 0) (xs ys : List Job) → HaveSameItems xs ys → All P ys → All P xs
all-same_items P xs ys same all =
    All-permutation P ys xs (IsPermutation-sym xs ys ((jobs-same_items xs ys).0 same)) all

-- lists with the same items are of one length
pub length-same_items : (xs ys : List Job) → HaveSameItems xs ys → length xs ≡ length ys
length-same_items xs ys same =
    omega (arith, sum_by-constant 1 xs, sum_by-constant 1 ys, same (λ j. 1))

-- a scene that is the same is proper too
pub proper_scene-same : (cycle : ℕ) (a b : Scene) → IsSameScene a b → IsProperScene cycle b → IsProperScene cycle a
proper_scene-same cycle a b same proper =
    let slots : horizon cycle a.time - a.time ≡ horizon cycle b.time - b.time = ap (λ t. horizon cycle t - t) same.time in
    record {
      rising =
          subst (λ t. AreRising t a.points) (sym same.time) (subst (AreRising b.time) (sym same.points) proper.rising);
      last =
          ap (λ t. last_point t a.points) same.time ∙ (ap (last_point b.time) same.points ∙ (proper.last ∙ sym (ap (horizon cycle) same.time)));
      due =
          subst
          (λ points. All (λ (j : Job). Contains points j.dl) a.jobs)
          (sym same.points)
          (all-same_items (λ (j : Job). Contains b.points j.dl) a.jobs b.jobs same.jobs proper.due);
      few_points = omega (arith, slots, proper.few_points, ap length same.points);
      few_jobs = omega (arith, slots, proper.few_jobs, length-same_items a.jobs b.jobs same.jobs);
      left = omega (arith, slots, proper.left, same.jobs (λ (j : Job). j.left));
    }

-- so is the scene of parts that match a legal history
proper_scene-matching : (set : TaskSet) (cycle row : ℕ) (scene : Scene) (h : History) → cycle ≡ cycle_of set → is_sound set ≡ true → IsFeasible set cycle → MatchesHistory set cycle scene row h → IsProperScene cycle scene
proper_scene-matching set cycle row scene h is sound feasible matches =
    subst
    (λ c. IsFeasible set c → MatchesHistory set c scene row h → IsProperScene c scene)
    (sym is)
    (λ fits m. proper_scene-same (cycle_of set) scene (scene_of set (cycle_of set) h) m.same (proper_scene-legal set h sound fits m.legal))
    feasible
    matches

-- the scene of each executive that stands for a legal history is proper
pub proper_scene : (exec : Executive) → IsPlan exec.plan → StandsForSome exec → IsProperScene exec.plan.cycle exec.scene
proper_scene exec plan (h, matches) =
    proper_scene-matching exec.plan.tasks exec.plan.cycle exec.last_row exec.scene h plan.cycle plan.sound plan.feasible matches

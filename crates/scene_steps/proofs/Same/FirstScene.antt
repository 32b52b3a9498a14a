-- Before the first slot the scene is that of the empty history.
use Rattle.std.proofs.Common.{◌≡◌, ℕ, ◌+◌, ◌*◌, true, List, [], ◌∷◌, ◌++◌, map, filter, refl, sym, ap, ◌∙◌, subst, arith}
use Rattle.std.specs.Prelude.{sum_by}
use Rattle.std.specs.List.{range_with_len, enumerate_from}
use Rattle.slot_core.specs.declared.tasks.Sporadic.{Sporadic}
use Rattle.slot_core.specs.declared.tasks.TaskSet.{TaskSet}
use Rattle.slot_core.specs.Sets.Cycles.{cycle_of}
use Rattle.slot_core.specs.Keeping.Executives.{Executive, StandsFor}
use Rattle.slot_core.specs.Runs.Histories.{next_arrival}
use Rattle.slot_core.specs.Runs.Matches.{IsSameScene}
use Rattle.slot_core.specs.Keeping.Plans.{IsPlan}
use Rattle.slot_core.specs.Sets.Ranges.{is_sound}
use Rattle.slot_core.specs.Runs.Scenes.{scene_of, points_of}
use Rattle.slot_core.specs.Runs.Traces.{started}
use Rattle.slot_facts.proofs.Histories.Unended.{remaining-start}
use Rattle.slot_facts.proofs.Lists.RangeFilters.{filter-parts}
use Rattle.slot_facts.proofs.Plans.SetPoints.{points_of-start, is_plan_point}
use Rattle.scene_steps.specs.Steps.{points_in_cycle, first_scene}
use Rattle.scene_steps.proofs.Same.SameScenes.{same_scene-trans}

-- before the first arrival each sporadic task may come at once
nexts-start : (sporadics : List Sporadic) (n : ℕ) → map (λ (s : Sporadic). 0) sporadics ≡ map (λ (s : ℕ × Sporadic). next_arrival s.0 s.1.separation []) (enumerate_from n sporadics)
nexts-start [] n = refl
nexts-start (s ∷ sporadics) n = ap (λ nexts. 0 ∷ nexts) (nexts-start sporadics (n + 1))

-- the points of the first three cycles are those before the first slot
points-start : (set : TaskSet) → (points_in_cycle set (cycle_of set) 0 ++ points_in_cycle set (cycle_of set) 1) ++ points_in_cycle set (cycle_of set) 2 ≡ points_of set (cycle_of set) []
points-start set =
    let cycle = cycle_of set in
    let p = is_plan_point set in
    let a : ℕ = 0 * cycle + 1 in
    let b : ℕ = 1 * cycle + 1 in
    let c : ℕ = 2 * cycle + 1 in
    let front = filter-parts p a b cycle cycle (2 * cycle) (omega arith) (omega arith) in
    let all = filter-parts p a c (2 * cycle) cycle (3 * cycle) (omega arith) (omega arith) in
    let start : a ≡ 1 = omega arith in
    let whole = ap (λ n. filter p (range_with_len n (3 * cycle))) start in
    ap (λ points. points ++ points_in_cycle set cycle 2) (sym front) ∙ (sym all ∙ (whole ∙ sym (points_of-start set (3 * cycle) refl)))

-- the first scene is that of the empty history
pub first_scene-empty : (set : TaskSet) → is_sound set ≡ true → IsSameScene (first_scene set (cycle_of set)) (scene_of set (cycle_of set) [])
first_scene-empty set sound =
    record {
      time = refl;
      jobs = λ f. ap (sum_by f) (sym (remaining-start set sound));
      nexts = nexts-start set.sporadics 0;
      soft = refl;
      points = points-start set;
    }

-- an executive with this scene stands for the empty history, and for that of the start entry
pub StandsFor-first : (exec : Executive) → IsPlan exec.plan → IsSameScene exec.scene (first_scene exec.plan.tasks exec.plan.cycle) → exec.last_row ≡ 0 → StandsFor exec [] × StandsFor exec started
StandsFor-first exec plan same last =
    let set = exec.plan.tasks in
    let cycle = exec.plan.cycle in
    let first : IsSameScene (first_scene set cycle) (scene_of set cycle []) = subst (λ c. IsSameScene (first_scene set c) (scene_of set c [])) (sym plan.cycle) (first_scene-empty set plan.sound) in
    let own = same_scene-trans exec.scene (first_scene set cycle) (scene_of set cycle []) same first in
    (record { legal = tt; same = own; last = last }, record { legal = tt; same = own; last = last })

-- A walk along the lines of a trace of a plan's set.
use Rattle.std.proofs.Common.{◌≡◌, ℕ, ◌+◌, ◌-◌, ◌<◌, ◌≤◌, true, List, length, Option, Ok, Err, sym, ap, ◌∙◌, subst}
use Rattle.std.specs.Prelude.{⊤}
use Rattle.slot_core.specs.declared.TheConstants.{REPLAY_LIMIT}
use Rattle.slot_core.specs.declared.tasks.TaskSet.{TaskSet}
use Rattle.slot_core.specs.declared.events.Arrival.{Arrival}
use Rattle.slot_core.specs.declared.events.What.{What}
use Rattle.slot_core.specs.Calls.Results.{◌>>=◌}
use Rattle.slot_core.specs.Feasibility.Feasible.{IsFeasible}
use Rattle.slot_core.specs.Keeping.Plans.{PlanParts, IsPlan}
use Rattle.slot_core.specs.Runs.Arrivals.{are_fitting}
use Rattle.slot_core.specs.Runs.Matches.{IsSameScene}
use Rattle.slot_core.specs.Runs.Scenes.{Scene}
use Rattle.slot_core.specs.Runs.Traces.{Occurrence, occurrences_of, started}
use Rattle.slot_core.specs.Sets.Cycles.{cycle_of}
use Rattle.scene_steps.specs.Steps.{first_scene, scene_after}
use Rattle.trace_verify.specs.Checked.{IsChecked}
use Rattle.trace_verify.specs.SceneLines.{line_and_rest, first_line_in, next_of, IsNext, IsCheckedAfter, first_due}
use Rattle.trace_verify.specs.Verdicts.{Checking, first_line, lines_told, verdict}
use Rattle.trace_verify.proofs.Walks.{IsWalking, walking-checked, walking-next, walking-after, walking-stopped, walking-passed, walking-falls, walking-started, first_line-same, first-checked}
use Rattle.faults.specs.declared.verify_fault.VerifyFault.{VerifyFault}

-- the next line is passed, and the scene follows it
abbrev pub HasPassed : TaskSet → ℕ → Scene → Scene → ℕ → Occurrence → List ℕ → List ℕ → Type 0
HasPassed set cycle before after n next text rest =
    (what : What)
    × (line_and_rest set cycle before n next text ≡ Ok (what, rest))
    × IsSameScene after (scene_after set cycle what before)

module _ {plan : PlanParts} (p : IsPlan plan) where
  -- the set is feasible with the cycle that it has
  feasible : IsFeasible plan.tasks (cycle_of plan.tasks)
  feasible = subst (IsFeasible plan.tasks) p.cycle p.feasible

  module _ {scene : Scene} (same : IsSameScene scene (first_scene plan.tasks plan.cycle)) where
    -- the scene before the first slot
    first : IsSameScene scene (first_scene plan.tasks (cycle_of plan.tasks))
    first = subst (λ k. IsSameScene scene (first_scene plan.tasks k)) p.cycle same

    -- is checked
    pub first-checked_plan : IsChecked plan.tasks plan.cycle scene
    first-checked_plan =
        subst (λ k. IsChecked plan.tasks k scene) (sym p.cycle) (first-checked plan.tasks scene p.sound feasible first)

    -- and the first line tells the same in it
    first_line-plan : (text : List ℕ) → first_line_in plan.tasks plan.cycle scene text ≡ first_line plan.tasks plan.cycle text
    first_line-plan text =
        subst (λ k. first_line_in plan.tasks k scene text ≡ first_line plan.tasks k text) (sym p.cycle) (first_line-same plan.tasks scene text p.sound first)

    -- its fault is the verdict
    pub first-stopped : (arrivals : List Arrival) (slots : ℕ) (text : List ℕ) (e : VerifyFault) → first_line_in plan.tasks plan.cycle scene text ≡ Err e → verdict plan.tasks plan.cycle arrivals slots text ≡ Err e
    first-stopped arrivals slots text e stops =
        ap (λ (o : Checking (List ℕ)). o >>= λ rest. lines_told plan.tasks plan.cycle slots started 2 (occurrences_of arrivals slots) rest) (sym (first_line-plan text) ∙ stops)

    -- and else the walk begins after it
    pub first-passed : (arrivals : List Arrival) (slots : ℕ) (text rest : List ℕ) → are_fitting plan.tasks slots arrivals ≡ true → first_line_in plan.tasks plan.cycle scene text ≡ Ok rest → IsWalking plan.tasks slots scene arrivals 2 rest (verdict plan.tasks plan.cycle arrivals slots text)
    first-passed arrivals slots text rest fits passes =
        let lines = λ (k : ℕ). lines_told plan.tasks k slots started 2 (occurrences_of arrivals slots) in
        let told : verdict plan.tasks plan.cycle arrivals slots text ≡ lines plan.cycle rest = ap (λ (o : Checking (List ℕ)). o >>= lines plan.cycle) (sym (first_line-plan text) ∙ passes) in
        walking-started plan.tasks slots scene arrivals rest (verdict plan.tasks plan.cycle arrivals slots text) p.sound fits first (told ∙ ap (λ k. lines k rest) p.cycle)

  module _ {slots : ℕ} {scene : Scene} {arrivals : List Arrival} {n : ℕ} {text : List ℕ} {whole : Checking ⊤} (limit : slots ≤ REPLAY_LIMIT) (walking : IsWalking plan.tasks slots scene arrivals n text whole) where
    -- the scene of a walk is checked
    pub checked-plan : IsChecked plan.tasks plan.cycle scene
    checked-plan =
        subst (λ k. IsChecked plan.tasks k scene) (sym p.cycle) (walking-checked plan.tasks slots scene arrivals n text whole p.sound feasible limit walking)

    module _ {due : Option Arrival} {later : List Arrival} (on : scene.time < slots) (is : (due, later) ≡ first_due scene.time arrivals) where
      -- what is due may come next
      pub next-plan : IsNext plan.tasks due scene.jobs
      next-plan =
          walking-next plan.tasks slots scene arrivals n text whole p.sound feasible limit walking on due later is

      -- and the scene after it is checked
      pub after-plan : IsCheckedAfter plan.tasks plan.cycle scene (next_of due)
      after-plan =
          subst (λ k. IsCheckedAfter plan.tasks k scene (next_of due)) (sym p.cycle) (walking-after plan.tasks slots scene arrivals n text whole p.sound feasible limit walking on due later is)

      -- the fault of the next line is the verdict
      pub stopped-plan : (e : VerifyFault) → line_and_rest plan.tasks plan.cycle scene n (next_of due) text ≡ Err e → whole ≡ Err e
      stopped-plan e stops =
          walking-stopped plan.tasks slots scene arrivals n text whole p.sound feasible limit walking on due later is e (subst (λ k. line_and_rest plan.tasks k scene n (next_of due) text ≡ Err e) p.cycle stops)

      -- and else the walk goes on after it
      pub passed-plan : (after : Scene) (rest : List ℕ) → HasPassed plan.tasks plan.cycle scene after n (next_of due) text rest → IsWalking plan.tasks slots after later (n + 1) rest whole
      passed-plan after rest passes =
          let (what, told, follows) = subst (λ k. HasPassed plan.tasks k scene after n (next_of due) text rest) p.cycle passes in
          walking-passed plan.tasks slots scene arrivals n text whole p.sound feasible limit walking on due later is after what rest told follows

      -- with fewer slots and arrivals to come
      pub falls-plan : (after : Scene) (rest : List ℕ) → HasPassed plan.tasks plan.cycle scene after n (next_of due) text rest → (slots - after.time) + length later < (slots - scene.time) + length arrivals
      falls-plan after rest passes =
          let (what, told, follows) = subst (λ k. HasPassed plan.tasks k scene after n (next_of due) text rest) p.cycle passes in
          walking-falls plan.tasks slots scene arrivals n text whole p.sound feasible limit walking on due later is after what rest told follows

-- A line is told the same over a lawful history and over a scene that is that of it.
use Rattle.std.proofs.Common.{◌≡◌, ℕ, Bool, true, false, cond, List, ◌∷◌, Option, Some, None, Ok, Err, refl, ap, ◌∙◌}
use Rattle.std.specs.Prelude.{⊤}
use Rattle.std.specs.Option.{option_map_or}
use Rattle.slot_core.specs.declared.tasks.TaskSet.{TaskSet}
use Rattle.slot_core.specs.declared.events.Ran.{Ran}
use Rattle.slot_core.specs.declared.events.Ran.TheVariants.{Idle as RanIdle, Key as RanKey}
use Rattle.slot_core.specs.declared.events.What.{What}
use Rattle.slot_core.specs.declared.events.What.TheVariants.{Run, Idle}
use Rattle.slot_core.specs.Calls.Results.{◌>>=◌}
use Rattle.slot_core.specs.Claims.Lawful.{may_run, IsLawful}
use Rattle.slot_core.specs.Feasibility.Feasible.{IsFeasible}
use Rattle.slot_core.specs.Runs.Histories.{History}
use Rattle.slot_core.specs.Runs.Matches.{IsSameScene}
use Rattle.slot_core.specs.Runs.Scenes.{Scene, scene_of}
use Rattle.slot_core.specs.Runs.Traces.{Occurrence, arrive, slot, told_of, MayCome}
use Rattle.slot_core.specs.Sets.Cycles.{cycle_of}
use Rattle.slot_core.specs.Sets.Ranges.{is_sound}
use Rattle.scene_steps.specs.Steps.{scene_after}
use Rattle.scene_steps.proofs.Same.SameLawful.{may_run-same, same_scene-ran, answer-lawful, same_scene-answer}
use Rattle.scene_steps.proofs.Same.SameSpans.{shown_of-same}
use Rattle.trace_text.specs.RunLines.{run_of_line}
use Rattle.trace_verify.specs.SceneLines.{line_in}
use Rattle.trace_verify.specs.Verdicts.{Checking, told_where_ready, same_line, in_time, entry_in, line_told}
use Rattle.trace_verify.proofs.LineFacts.{in_time-same}
use Rattle.faults.specs.declared.verify_fault.VerifyFault.TheVariants.{NoRun, NotReady}

-- what line n tells after what it says happened: it is the line of that, and the jobs are in time
abbrev pub rest_told : TaskSet → ℕ → Scene → Scene → ℕ → Occurrence → List ℕ → What → Checking What
rest_told set cycle scene after n next line what =
    same_line set (entry_in cycle scene what after) n line >>= λ same. in_time after n next >>= λ timely. Ok what

-- the rest is told the same between scenes that are the same
rest_told-same : (set : TaskSet) (cycle : ℕ) (a b after then : Scene) (n : ℕ) (next : Occurrence) (line : List ℕ) (what : What) → IsSameScene a b → IsSameScene after then → rest_told set cycle a after n next line what ≡ rest_told set cycle b then n next line what
rest_told-same set cycle a b after then n next line what same later =
    let entry : entry_in cycle a what after ≡ entry_in cycle b what then = λ i. record { time = same.time i; what = what; shown = shown_of-same cycle after then later i } in
    ap (λ e. same_line set e n line >>= λ s. in_time after n next >>= λ timely. Ok what) entry
    ∙ ap (λ (o : Checking ⊤). same_line set (entry_in cycle b what then) n line >>= λ s. o >>= λ timely. Ok what) (in_time-same after then n next later)

-- what is told where this ran, and then the rest
abbrev ran_told : TaskSet → ℕ → Scene → (What → Scene) → ℕ → List ℕ → Option Ran → Checking What
ran_told set cycle scene after n line ran =
    option_map_or (told_where_ready set scene n) ran (Err (NoRun n)) >>= λ what. rest_told set cycle scene (after what) n slot line what

module _ (set : TaskSet) (h : History) (a : Scene) (sound : is_sound set ≡ true) (feasible : IsFeasible set (cycle_of set)) (lawful : IsLawful set (cycle_of set) h) (same : IsSameScene a (scene_of set (cycle_of set) h)) where
  -- what ran is told the same
  ran_told-same : (n : ℕ) (line : List ℕ) (ran : Option Ran) → ran_told set (cycle_of set) a (λ what. scene_after set (cycle_of set) what a) n line ran ≡ ran_told set (cycle_of set) (scene_of set (cycle_of set) h) (λ what. scene_of set (cycle_of set) (what ∷ h)) n line ran
  ran_told-same n line None = refl
  ran_told-same n line (Some RanIdle) =
      rest_told-same set (cycle_of set) a (scene_of set (cycle_of set) h) _ _ n slot line Idle same (same_scene-ran set h a sound feasible lawful same RanIdle refl)
  ran_told-same n line (Some (RanKey key)) =
      by_test (may_run set a (RanKey key)) (may_run set (scene_of set (cycle_of set) h) (RanKey key)) refl (may_run-same set a (scene_of set (cycle_of set) h) (RanKey key) same)
    where
      by_test : (x y : Bool) → may_run set a (RanKey key) ≡ x → x ≡ y → ((cond x (Ok (Run key)) (Err (NotReady n key))) >>= λ what. rest_told set (cycle_of set) a (scene_after set (cycle_of set) what a) n slot line what) ≡ ((cond y (Ok (Run key)) (Err (NotReady n key))) >>= λ what. rest_told set (cycle_of set) (scene_of set (cycle_of set) h) (scene_of set (cycle_of set) (what ∷ h)) n slot line what)
      by_test true true on e =
          rest_told-same set (cycle_of set) a (scene_of set (cycle_of set) h) _ _ n slot line (Run key) same (same_scene-ran set h a sound feasible lawful same (RanKey key) on)
      by_test false false on e = refl
      by_test true false on e = cc
      by_test false true on e = cc

  -- so is a line of what may come
  pub line_told-same : (n : ℕ) (next : Occurrence) (line : List ℕ) → MayCome set h next → line_in set (cycle_of set) a n next line ≡ line_told set (cycle_of set) (scene_of set (cycle_of set) h) (λ what. scene_of set (cycle_of set) (what ∷ h)) n next line
  line_told-same n (arrive row event) line may =
      let cycle = cycle_of set in
      let next = arrive row event in
      let what = told_of set cycle h next in
      ap (λ w. rest_told set cycle a (scene_after set cycle w a) n next line w) (answer-lawful set h a sound feasible lawful same row event)
      ∙ rest_told-same set cycle a (scene_of set cycle h) _ _ n next line what same (same_scene-answer set h a sound feasible lawful same row event may)
  line_told-same n slot line may = ran_told-same n line (run_of_line set line)

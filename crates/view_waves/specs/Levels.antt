-- Waves read back, as a viewer of them does.
use Rattle.std.specs.Prelude.{◌≡◌, ◌≢◌, ℕ, Bool, true, false, ◌==◌, nat_le, List, [], ◌∷◌, if◌then◌else◌, IfSome, ⊤}
use Rattle.std.specs.List.{filter, fold}
use Rattle.std.specs.Option.{option_map_or, unwrap_or}
use Rattle.trace_lines.specs.declared.line.TraceLine.{TraceLine}
use Rattle.run_blocks.specs.declared.rows.Row.{Row}
use Rattle.view_waves.specs.declared.steps.Step.{Step}
use Rattle.view_waves.specs.Steps.{first_on, first_wave, steps_from}

-- what changes in the waves of these lines
abbrev pub steps_of : List Row → List TraceLine → List Step
steps_of rows lines = steps_from rows (first_wave rows lines) lines

-- the steps up to a slot, with its own
abbrev pub steps_by : ℕ → List Step → List Step
steps_by slot steps = filter (λ step. nat_le step.time slot) steps

-- the wire that is on after a step
abbrev pub turned : ℕ → Step → ℕ
turned on step = option_map_or (λ (turn : ℕ × ℕ). turn.1) step.turn on

-- the wire that is on in a slot: that to which the last turn up to then turns, or else the first
abbrev pub on_at : ℕ → List Step → ℕ → ℕ
on_at first steps slot = fold turned first (steps_by slot steps)

-- the level of a wire after a step: the wire that it turns from falls, that which it turns to rises
abbrev pub level_after : ℕ → Bool → Step → Bool
level_after wire level step =
    option_map_or
    (λ (turn : ℕ × ℕ). if wire == turn.1 then true else if wire == turn.0 then false else level)
    step.turn
    level

-- the level of a wire in a slot, after its first one
abbrev pub level_at : ℕ → Bool → List Step → ℕ → Bool
level_at wire first steps slot = fold (level_after wire) first (steps_by slot steps)

-- the capacity that is shown after a step
abbrev pub changed : ℕ → Step → ℕ
changed shown step = unwrap_or step.change shown

-- the capacity that is shown in a slot: the last change up to then, or else the first one
abbrev pub shown_at : ℕ → List Step → ℕ → ℕ
shown_at first steps slot = fold changed first (steps_by slot steps)

-- each turn is from the wire that is on then, and to another
abbrev pub AreTurns : ℕ → List Step → Type 0
AreTurns on [] = ⊤
AreTurns on (step ∷ steps) =
    IfSome step.turn (λ turn. (turn.0 ≡ on) × (turn.1 ≢ on)) × AreTurns (turned on step) steps

-- whether a wire is on in a slot of these lines
abbrev pub is_on : List Row → List TraceLine → ℕ → ℕ → Bool
is_on rows lines wire slot =
    level_at wire (wire == first_on rows lines) (steps_of rows lines) slot

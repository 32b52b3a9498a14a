-- The values after steps are those after their lines.
use Rattle.std.proofs.Common.{◌≡◌, ◌≢◌, ℕ, ◌==◌, true, false, List, [], ◌∷◌, Option, Some, None, refl, sym, ap, subst, ◌∙◌, inl, inr}
use Rattle.std.specs.Prelude.{if◌then◌else◌, IfSome}
use Rattle.std.specs.List.{fold}
use Rattle.std.specs.Option.{option_map_or}
use Rattle.std.proofs.lemmas.Bool.{cases_Bool, eqb-true, eqb-false}
use Rattle.trace_lines.specs.declared.line.TraceLine.{TraceLine}
use Rattle.run_blocks.specs.declared.rows.Row.{Row}
use Rattle.view_waves.specs.declared.steps.Step.{Step}
use Rattle.view_waves.specs.declared.steps.Wave.{Wave}
use Rattle.view_waves.specs.Levels.{AreTurns, changed, level_after, turned}
use Rattle.view_waves.specs.Steps.{next_on, step_at, steps_from, turn_between, wave_along, wave_at}
use Rattle.view_waves.proofs.LineKinds.{along-none, along-step, steps-none, steps-step}

-- the wire that is on after a step
pub turned-at : (wave : Wave) (line : TraceLine) (on : ℕ) → turned wave.on (step_at wave line on) ≡ on
turned-at wave line on =
    elim (cases_Bool (wave.on == on)) [
      | inl same ↦ rw same (eqb-true wave.on on same)
      | inr other ↦ rw other refl
    ]

-- the capacity that is shown after it
pub changed-at : (wave : Wave) (line : TraceLine) (on : ℕ) → changed wave.shown (step_at wave line on) ≡ wave.next
changed-at wave line on =
    elim (cases_Bool (wave.shown == wave.next)) [
      | inl same ↦ rw same (eqb-true wave.shown wave.next same)
      | inr other ↦ rw other refl
    ]

-- the level of a wire after it
level-between : (wire from to : ℕ) → option_map_or (λ (turn : ℕ × ℕ). if wire == turn.1 then true else if wire == turn.0 then false else (wire == from)) (turn_between from to) (wire == from) ≡ (wire == to)
level-between wire from to =
    elim (cases_Bool (from == to)) [
      | inl same ↦ rw same (ap (λ n. wire == n) (eqb-true from to same))
      | inr other ↦
          rw other (elim (cases_Bool (wire == to)) [
            | inl new ↦ rw new refl
            | inr not_new ↦
                elim (cases_Bool (wire == from)) [
                  | inl old ↦ rw (not_new, old) refl
                  | inr not_old ↦ rw (not_new, not_old) refl
                ]
          ])
    ]

pub level-at : (wire : ℕ) (wave : Wave) (line : TraceLine) (on : ℕ) → level_after wire (wire == wave.on) (step_at wave line on) ≡ (wire == on)
level-at wire wave line on = level-between wire wave.on on

-- what a fold of steps gives, where each step takes what is told of the values before to that after
folded : {X : Type 0} (after : X → Step → X) (told : Wave → X) → ((wave : Wave) (line : TraceLine) (on : ℕ) → after (told wave) (step_at wave line on) ≡ told (wave_at wave line on)) → (rows : List Row) (wave : Wave) (lines : List TraceLine) → fold after (told wave) (steps_from rows wave lines) ≡ told (wave_along rows wave lines)
folded after told each rows wave [] = refl
folded {X} after told each rows wave (line ∷ lines) =
    let none = folded after told each rows wave lines in
    let more = λ (on : ℕ). folded after told each rows (wave_at wave line on) lines in
    by_next none more (next_on rows wave.on line.words) refl
  where
    by_next : fold after (told wave) (steps_from rows wave lines) ≡ told (wave_along rows wave lines) → ((on : ℕ) → fold after (told (wave_at wave line on)) (steps_from rows (wave_at wave line on) lines) ≡ told (wave_along rows (wave_at wave line on) lines)) → (o : Option ℕ) → next_on rows wave.on line.words ≡ o → fold after (told wave) (steps_from rows wave (line ∷ lines)) ≡ told (wave_along rows wave (line ∷ lines))
    by_next none more None is =
        ap (fold after (told wave)) (steps-none rows wave line lines is) ∙ none ∙ ap told (sym (along-none rows wave line lines is))
    by_next none more (Some on) is =
        ap (fold after (told wave)) (steps-step rows wave line lines on is)
        ∙ ap (λ x. fold after x (steps_from rows (wave_at wave line on) lines)) (each wave line on)
        ∙ more on
        ∙ ap told (sym (along-step rows wave line lines on is))

-- the wire that is on
pub turned-along : (rows : List Row) (wave : Wave) (lines : List TraceLine) → fold turned wave.on (steps_from rows wave lines) ≡ (wave_along rows wave lines).on
turned-along rows wave lines = folded turned (λ w. w.on) turned-at rows wave lines

-- the capacity that is shown
pub changed-along : (rows : List Row) (wave : Wave) (lines : List TraceLine) → fold changed wave.shown (steps_from rows wave lines) ≡ (wave_along rows wave lines).shown
changed-along rows wave lines = folded changed (λ w. w.shown) changed-at rows wave lines

-- the level of a wire
pub level-along : (wire : ℕ) (rows : List Row) (wave : Wave) (lines : List TraceLine) → fold (level_after wire) (wire == wave.on) (steps_from rows wave lines) ≡ (wire == (wave_along rows wave lines).on)
level-along wire rows wave lines = folded (level_after wire) (λ w. wire == w.on) (level-at wire) rows wave lines

-- a turn is from one wire to another
is-turn : (from to : ℕ) → IfSome (turn_between from to) (λ turn. (turn.0 ≡ from) × (turn.1 ≢ from))
is-turn from to =
    elim (cases_Bool (from == to)) [
      | inl same ↦ rw same tt
      | inr other ↦ rw other (refl, (λ same. eqb-false from to other (sym same)))
    ]

-- each turn is from the wire that is on
pub turns-along : (rows : List Row) (wave : Wave) (lines : List TraceLine) → AreTurns wave.on (steps_from rows wave lines)
turns-along rows wave [] = tt
turns-along rows wave (line ∷ lines) =
    let none = turns-along rows wave lines in
    let more = λ (on : ℕ). turns-along rows (wave_at wave line on) lines in
    by_next none more (next_on rows wave.on line.words) refl
  where
    by_next : AreTurns wave.on (steps_from rows wave lines) → ((on : ℕ) → AreTurns on (steps_from rows (wave_at wave line on) lines)) → (o : Option ℕ) → next_on rows wave.on line.words ≡ o → AreTurns wave.on (steps_from rows wave (line ∷ lines))
    by_next none more None is =
        subst (AreTurns wave.on) (sym (steps-none rows wave line lines is)) none
    by_next none more (Some on) is =
        subst
        (AreTurns wave.on)
        (sym (steps-step rows wave line lines on is))
        (is-turn wave.on on, subst (λ n. AreTurns n (steps_from rows (wave_at wave line on) lines)) (sym (turned-at wave line on)) (more on))

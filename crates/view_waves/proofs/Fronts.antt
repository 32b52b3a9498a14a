-- The steps up to a slot are those of the lines up to it.
use Rattle.std.proofs.Common.{◌≡◌, ℕ, suc, ◌+◌, ◌-◌, ◌<◌, ◌≤◌, false, List, [], ◌∷◌, ◌++◌, map, Option, Some, None, refl, sym, ap, subst, ◌∙◌, inl, inr, arith, append-nil}
use Rattle.std.specs.Prelude.{nat_le}
use Rattle.std.specs.List.{fold, range_with_len}
use Rattle.std.proofs.lemmas.Bool.{cases_Bool, le-leb, leb-true}
use Rattle.std.proofs.lemmas.Bool.Decides.{nat_tests}
use Rattle.std.proofs.lemmas.List.Elements.{filter-append}
use Rattle.trace_lines.specs.declared.line.TraceLine.{TraceLine}
use Rattle.trace_lines.specs.declared.trace.Reached.{Reached}
use Rattle.trace_lines.specs.declared.trace.Reached.TheVariants.{Nothing, Slot as AtSlot, End as AtEnd}
use Rattle.trace_lines.specs.Traces.{Leads}
use Rattle.run_blocks.specs.declared.rows.Row.{Row}
use Rattle.view_waves.specs.declared.steps.Step.{Step}
use Rattle.view_waves.specs.declared.steps.Wave.{Wave}
use Rattle.view_waves.specs.Levels.{changed, steps_by}
use Rattle.view_waves.specs.Steps.{next_on, step_at, steps_from, wave_after, wave_along, wave_at}
use Rattle.view_waves.proofs.Folds.{changed-at}
use Rattle.trace_lines.proofs.LineMoves.{end-stays}
use Rattle.view_waves.proofs.LineKinds.{along-none, along-step, Ends, kind-of, start-of, steps-none, steps-step, Tells, Waits}

-- a step at or before a slot is one of those up to it, and a later one is not
by-now : (slot : ℕ) (step : Step) (steps : List Step) → step.time ≤ slot → steps_by slot (step ∷ steps) ≡ step ∷ steps_by slot steps
by-now slot step steps low = rw (le-leb step.time slot low) refl

by-later : (slot : ℕ) (step : Step) (steps : List Step) → slot < step.time → steps_by slot (step ∷ steps) ≡ steps_by slot steps
by-later slot step steps late =
    let no : nat_le step.time slot ≡ false = grind (arith, nat_tests, late) in
    rw no refl

-- time does not go back
pub later : (from to : ℕ) (lines : List TraceLine) → Leads (AtSlot from) lines (AtSlot to) → from ≤ to
later from to [] leads = (let same : from ≡ to = cc leads in omega arith)
later from to (line ∷ lines) (may, (next, is, leads)) =
    let rest = λ (slot : ℕ) (at : next ≡ AtSlot slot). later slot to lines (subst (λ r. Leads r lines (AtSlot to)) at leads) in
    elim (kind-of [] from line next is).1 [
      | Tells wire on at ↦ omega (arith, rest (from + 1) at)
      | Ends on at ↦ absurd (let ended = (end-stays lines (AtSlot to) (subst (λ r. Leads r lines (AtSlot to)) at leads)).1 in cc ended)
      | Waits on at ↦ rest from at
    ]

-- no step of lines from a later slot on is up to a slot
pub none-by : (rows : List Row) (wave : Wave) (lines : List TraceLine) (from slot : ℕ) (to : Reached) → Leads (AtSlot from) lines to → slot < from → steps_by slot (steps_from rows wave lines) ≡ []
none-by rows wave [] from slot to leads late = refl
none-by rows wave (line ∷ lines) from slot to (may, (next, is, leads)) late =
    let rest = λ (w : Wave) (n : ℕ) (at : next ≡ AtSlot n) (l : slot < n). none-by rows w lines n slot to (subst (λ r. Leads r lines to) at leads) l in
    let (now, kind) = kind-of rows from line next is in
    let drop_step = λ (on : ℕ). by-later slot (step_at wave line on) (steps_from rows (wave_at wave line on) lines) (omega (arith, now, late)) in
    elim kind [
      | Tells wire on at ↦
          ap (steps_by slot) (steps-step rows wave line lines wire (on wave.on)) ∙ drop_step wire ∙ rest (wave_at wave line wire) (from + 1) at (omega (arith, late))
      | Ends on at ↦
          ap (steps_by slot) (steps-step rows wave line lines wave.on (on wave.on)) ∙ drop_step wave.on
          ∙ ap (λ ls. steps_by slot (steps_from rows (wave_at wave line wave.on) ls)) (end-stays lines to (subst (λ r. Leads r lines to) at leads)).0
      | Waits on at ↦ ap (steps_by slot) (steps-none rows wave line lines (on wave.on)) ∙ rest wave from at late
    ]

-- each step of lines up to a slot is
all-by : (rows : List Row) (wave : Wave) (lines : List TraceLine) (from slot to : ℕ) → Leads (AtSlot from) lines (AtSlot to) → to ≤ slot + 1 → steps_by slot (steps_from rows wave lines) ≡ steps_from rows wave lines
all-by rows wave [] from slot to leads soon = refl
all-by rows wave (line ∷ lines) from slot to (may, (next, is, leads)) soon =
    let there = λ (r : Reached) (at : next ≡ r). subst (λ r. Leads r lines (AtSlot to)) at leads in
    let (now, kind) = kind-of rows from line next is in
    elim kind [
      | Tells wire on at ↦
          let before = later (from + 1) to lines (there (AtSlot (from + 1)) at) in
          let step = steps-step rows wave line lines wire (on wave.on) in
          ap (steps_by slot) step
          ∙ by-now slot (step_at wave line wire) (steps_from rows (wave_at wave line wire) lines) (omega (arith, before, now, soon))
          ∙ ap (λ ss. step_at wave line wire ∷ ss) (all-by rows (wave_at wave line wire) lines (from + 1) slot to (there (AtSlot (from + 1)) at) soon)
          ∙ sym step
      | Ends on at ↦ absurd (let ended = (end-stays lines (AtSlot to) (there AtEnd at)).1 in cc ended)
      | Waits on at ↦
          let none = steps-none rows wave line lines (on wave.on) in
          ap (steps_by slot) none ∙ all-by rows wave lines from slot to (there (AtSlot from) at) soon ∙ sym none
    ]

-- from the beginning of a trace on
pub front-by : (rows : List Row) (wave : Wave) (lines : List TraceLine) (slot to : ℕ) → Leads Nothing lines (AtSlot to) → to ≤ slot + 1 → steps_by slot (steps_from rows wave lines) ≡ steps_from rows wave lines
front-by rows wave [] slot to leads soon = refl
front-by rows wave (line ∷ lines) slot to (may, (next, is, leads)) soon =
    let (on, at) = start-of rows line next is in
    let none = steps-none rows wave line lines (on wave.on) in
    ap (steps_by slot) none
    ∙ all-by rows wave lines 0 slot to (subst (λ r. Leads r lines (AtSlot to)) at leads) soon
    ∙ sym none

-- the steps of lines, and of others after them
pub steps-append : (rows : List Row) (wave : Wave) (front rest : List TraceLine) → steps_from rows wave (front ++ rest) ≡ steps_from rows wave front ++ steps_from rows (wave_along rows wave front) rest
steps-append rows wave [] rest = refl
steps-append rows wave (line ∷ front) rest = by_next (next_on rows wave.on line.words) refl (steps-append rows wave front rest) (λ on. steps-append rows (wave_at wave line on) front rest)
  where
    by_next : (o : Option ℕ) → next_on rows wave.on line.words ≡ o → steps_from rows wave (front ++ rest) ≡ steps_from rows wave front ++ steps_from rows (wave_along rows wave front) rest → ((on : ℕ) → steps_from rows (wave_at wave line on) (front ++ rest) ≡ steps_from rows (wave_at wave line on) front ++ steps_from rows (wave_along rows (wave_at wave line on) front) rest) → steps_from rows wave (line ∷ front ++ rest) ≡ steps_from rows wave (line ∷ front) ++ steps_from rows (wave_along rows wave (line ∷ front)) rest
    by_next None is none more =
        steps-none rows wave line (front ++ rest) is ∙ none
        ∙ ap (λ ss. ss ++ steps_from rows (wave_along rows wave front) rest) (sym (steps-none rows wave line front is))
        ∙ ap (λ w. steps_from rows wave (line ∷ front) ++ steps_from rows w rest) (sym (along-none rows wave line front is))
    by_next (Some on) is none more =
        steps-step rows wave line (front ++ rest) on is ∙ ap (λ ss. step_at wave line on ∷ ss) (more on)
        ∙ ap (λ ss. ss ++ steps_from rows (wave_along rows (wave_at wave line on) front) rest) (sym (steps-step rows wave line front on is))
        ∙ ap (λ w. steps_from rows wave (line ∷ front) ++ steps_from rows w rest) (sym (along-step rows wave line front on is))

pub along-append : (rows : List Row) (wave : Wave) (front rest : List TraceLine) → wave_along rows wave (front ++ rest) ≡ wave_along rows (wave_along rows wave front) rest
along-append rows wave [] rest = refl
along-append rows wave (line ∷ front) rest = along-append rows (wave_after rows wave line) front rest

-- the steps up to a slot are those of the lines that lead to the next one
pub steps_by-front : (rows : List Row) (wave : Wave) (front rest : List TraceLine) (slot : ℕ) (to : Reached) → Leads Nothing front (AtSlot (slot + 1)) → Leads (AtSlot (slot + 1)) rest to → steps_by slot (steps_from rows wave (front ++ rest)) ≡ steps_from rows wave front
steps_by-front rows wave front rest slot to before after =
    ap (steps_by slot) (steps-append rows wave front rest)
    ∙ filter-append (λ (step : Step). nat_le step.time slot) (steps_from rows wave front) (steps_from rows (wave_along rows wave front) rest)
    ∙ ap (λ ss. ss ++ steps_by slot (steps_from rows (wave_along rows wave front) rest)) (front-by rows wave front slot (slot + 1) before (omega arith))
    ∙ ap (λ ss. steps_from rows wave front ++ ss) (none-by rows (wave_along rows wave front) rest (slot + 1) slot to after (omega arith))
    ∙ append-nil (steps_from rows wave front)

-- the capacity that is shown in a slot, from the lines of this slot on
pub next-shown : (rows : List Row) (wave : Wave) (lines : List TraceLine) (slot : ℕ) → Leads (AtSlot slot) lines AtEnd → fold changed wave.shown (steps_by slot (steps_from rows wave lines)) ≡ wave.next
next-shown rows wave [] slot leads = absurd (cc leads)
next-shown rows wave (line ∷ lines) slot (may, (next, is, leads)) =
    let there = λ (r : Reached) (at : next ≡ r). subst (λ r. Leads r lines AtEnd) at leads in
    let (now, kind) = kind-of rows slot line next is in
    let own = λ (on : ℕ) (told : next_on rows wave.on line.words ≡ Some on) (none : steps_by slot (steps_from rows (wave_at wave line on) lines) ≡ []).
    ap (λ ss. fold changed wave.shown (steps_by slot ss)) (steps-step rows wave line lines on told)
    ∙ ap (fold changed wave.shown) (by-now slot (step_at wave line on) (steps_from rows (wave_at wave line on) lines) (omega (arith, now)) ∙ ap (λ ss. step_at wave line on ∷ ss) none)
    ∙ changed-at wave line on in
    elim kind [
      | Tells wire on at ↦
          own wire (on wave.on) (none-by rows (wave_at wave line wire) lines (slot + 1) slot AtEnd (there (AtSlot (slot + 1)) at) (omega arith))
      | Ends on at ↦
          own wave.on (on wave.on) (ap (λ ls. steps_by slot (steps_from rows (wave_at wave line wave.on) ls)) (end-stays lines AtEnd (there AtEnd at)).0)
      | Waits on at ↦
          ap (λ ss. fold changed wave.shown (steps_by slot ss)) (steps-none rows wave line lines (on wave.on))
          ∙ next-shown rows wave lines slot (there (AtSlot slot) at)
    ]

-- the times of steps
pub times-between : (rows : List Row) (wave : Wave) (lines : List TraceLine) (from to : ℕ) → Leads (AtSlot from) lines (AtSlot to) → map (λ (step : Step). step.time) (steps_from rows wave lines) ≡ range_with_len from (to - from)
times-between rows wave [] from to leads =
    let same : from ≡ to = cc leads in
    let none : to - from ≡ 0 = omega (arith, same) in
    rw none refl
times-between rows wave (line ∷ lines) from to (may, (next, is, leads)) =
    let there = λ (r : Reached) (at : next ≡ r). subst (λ r. Leads r lines (AtSlot to)) at leads in
    let (now, kind) = kind-of rows from line next is in
    let time_of = λ (step : Step). step.time in
    elim kind [
      | Tells wire on at ↦
          let before = later (from + 1) to lines (there (AtSlot (from + 1)) at) in
          let count : to - from ≡ suc (to - (from + 1)) = omega (arith, before) in
          ap (map time_of) (steps-step rows wave line lines wire (on wave.on))
          ∙ ap (λ t. t ∷ map time_of (steps_from rows (wave_at wave line wire) lines)) now
          ∙ ap (λ ts. from ∷ ts) (times-between rows (wave_at wave line wire) lines (from + 1) to (there (AtSlot (from + 1)) at))
          ∙ ap (range_with_len from) (sym count)
      | Ends on at ↦ absurd (let ended = (end-stays lines (AtSlot to) (there AtEnd at)).1 in cc ended)
      | Waits on at ↦
          ap (map time_of) (steps-none rows wave line lines (on wave.on)) ∙ times-between rows wave lines from to (there (AtSlot from) at)
    ]

-- the steps up to any slot are those of some lines
pub some-front : (rows : List Row) (wave : Wave) (lines : List TraceLine) (from slot : ℕ) (to : Reached) → Leads (AtSlot from) lines to → (front : List TraceLine) × (steps_by slot (steps_from rows wave lines) ≡ steps_from rows wave front)
some-front rows wave [] from slot to leads = ([], refl)
some-front rows wave (line ∷ lines) from slot to (may, (next, is, leads)) =
    let there = λ (r : Reached) (at : next ≡ r). subst (λ r. Leads r lines to) at leads in
    let (now, kind) = kind-of rows from line next is in
    elim (cases_Bool (nat_le from slot)) [
      | inr past ↦ ([], none-by rows wave (line ∷ lines) from slot to (may, (next, is, leads)) (grind (arith, nat_tests, past)))
      | inl low ↦
          let soon : line.time ≤ slot = omega (arith, leb-true from slot low, now) in
          let own = λ (on : ℕ). by-now slot (step_at wave line on) (steps_from rows (wave_at wave line on) lines) soon in
          elim kind [
            | Tells wire on at ↦
                let (front, same) = some-front rows (wave_at wave line wire) lines (from + 1) slot to (there (AtSlot (from + 1)) at) in (
                  line ∷ front,
                  ap (steps_by slot) (steps-step rows wave line lines wire (on wave.on)) ∙ own wire ∙ ap (λ ss. step_at wave line wire ∷ ss) same
                      ∙ sym (steps-step rows wave line front wire (on wave.on)),
                )
            | Ends on at ↦
                let none = (end-stays lines to (there AtEnd at)).0 in (
                  line ∷ [],
                  ap (steps_by slot) (steps-step rows wave line lines wave.on (on wave.on)) ∙ own wave.on
                      ∙ ap (λ ls. step_at wave line wave.on ∷ steps_by slot (steps_from rows (wave_at wave line wave.on) ls)) none
                      ∙ sym (steps-step rows wave line [] wave.on (on wave.on)),
                )
            | Waits on at ↦
                let (front, same) = some-front rows wave lines from slot to (there (AtSlot from) at) in
                (front, ap (steps_by slot) (steps-none rows wave line lines (on wave.on)) ∙ same)
          ]
    ]

-- from the beginning of a trace on
pub some-front-of : (rows : List Row) (wave : Wave) (lines : List TraceLine) (slot : ℕ) → Leads Nothing lines AtEnd → (front : List TraceLine) × (steps_by slot (steps_from rows wave lines) ≡ steps_from rows wave front)
some-front-of rows wave [] slot leads = absurd (cc leads)
some-front-of rows wave (line ∷ lines) slot (may, (next, is, leads)) =
    let (on, at) = start-of rows line next is in
    let (front, same) = some-front rows wave lines 0 slot AtEnd (subst (λ r. Leads r lines AtEnd) at leads) in
    (front, ap (steps_by slot) (steps-none rows wave line lines (on wave.on)) ∙ same)

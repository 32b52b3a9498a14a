-- What a line of a trace does to its waves.
use Rattle.std.proofs.Common.{◌≡◌, ℕ, ◌+◌, ◌==◌, List, ◌∷◌, ◌++◌, Some, None, refl, ap, inl, inr}
use Rattle.std.specs.Prelude.{option_map}
use Rattle.std.specs.Option.{option_map_or}
use Rattle.std.proofs.lemmas.Bool.{cases_Bool, eqb-true}
use Rattle.trace_lines.specs.declared.line.Words.{Words}
use Rattle.trace_lines.specs.declared.line.Words.TheVariants.{Start, Soft, Firm, Sporadic, Done, Withdraw, Run, Idle, End}
use Rattle.trace_lines.specs.declared.line.TraceLine.{TraceLine}
use Rattle.trace_lines.specs.declared.trace.Reached.{Reached}
use Rattle.trace_lines.specs.declared.trace.Reached.TheVariants.{Nothing, Slot as AtSlot, End as AtEnd}
use Rattle.trace_lines.specs.Traces.{reached_after, reached_by, reached_by_start}
use Rattle.run_blocks.specs.declared.rows.Row.{Row}
use Rattle.view_waves.specs.declared.steps.Wave.{Wave}
use Rattle.view_waves.specs.Steps.{next_on, step_at, step_if_any, steps_from, wave_along, wave_at}

-- a line at a slot makes a step, after which the slot is over or the trace is, or it makes none
pub data Kind (rows : List Row) (slot : ℕ) (words : Words) (next : Reached) : Type 0 where
  Tells : (wire : ℕ) → ((on : ℕ) → next_on rows on words ≡ Some wire) → next ≡ AtSlot (slot + 1) → Kind rows slot words next
  Ends : ((on : ℕ) → next_on rows on words ≡ Some on) → next ≡ AtEnd → Kind rows slot words next
  Waits : ((on : ℕ) → next_on rows on words ≡ None) → next ≡ AtSlot slot → Kind rows slot words next

kind-by : (rows : List Row) (slot : ℕ) (words : Words) (next : Reached) → reached_by slot words ≡ Some next → Kind rows slot words next
kind-by rows slot Start next is = absurd (cc is)
kind-by rows slot (Soft row slots a) next is = Waits (λ on. refl) (cc is)
kind-by rows slot (Firm row slots within a) next is = Waits (λ on. refl) (cc is)
kind-by rows slot (Sporadic row name a) next is = Waits (λ on. refl) (cc is)
kind-by rows slot (Done row key a) next is = Waits (λ on. refl) (cc is)
kind-by rows slot (Withdraw row firm a) next is = Waits (λ on. refl) (cc is)
kind-by rows slot (Run key) next is = Tells _ (λ on. refl) (cc is)
kind-by rows slot Idle next is = Tells _ (λ on. refl) (cc is)
kind-by rows slot End next is = Ends (λ on. refl) (cc is)

-- the line stands at the slot
pub kind-of : (rows : List Row) (slot : ℕ) (line : TraceLine) (next : Reached) → reached_after (AtSlot slot) line ≡ Some next → (line.time ≡ slot) × Kind rows slot line.words next
kind-of rows slot line next is =
    elim (cases_Bool (line.time == slot)) [
      | inl now ↦ (eqb-true line.time slot now, kind-by rows slot line.words next (rw now at is))
      | inr other ↦ absurd (let none = rw other at is in cc)
    ]

-- at the start nothing is on yet, and slot 0 follows
start-by : (rows : List Row) (time : ℕ) (words : Words) (next : Reached) → reached_by_start time words ≡ Some next → ((on : ℕ) → next_on rows on words ≡ None) × (next ≡ AtSlot 0)
start-by rows time Start next is =
    elim (cases_Bool (time == 0)) [
      | inl now ↦ ((λ on. refl), (let there = rw now at is in cc there))
      | inr other ↦ absurd (let none = rw other at is in cc)
    ]
start-by rows time (Soft row slots a) next is = absurd (cc is)
start-by rows time (Firm row slots within a) next is = absurd (cc is)
start-by rows time (Sporadic row name a) next is = absurd (cc is)
start-by rows time (Done row key a) next is = absurd (cc is)
start-by rows time (Withdraw row firm a) next is = absurd (cc is)
start-by rows time (Run key) next is = absurd (cc is)
start-by rows time Idle next is = absurd (cc is)
start-by rows time End next is = absurd (cc is)

pub start-of : (rows : List Row) (line : TraceLine) (next : Reached) → reached_after Nothing line ≡ Some next → ((on : ℕ) → next_on rows on line.words ≡ None) × (next ≡ AtSlot 0)
start-of rows line next is = start-by rows line.time line.words next is

-- a line that makes a step, before others
pub steps-step : (rows : List Row) (wave : Wave) (line : TraceLine) (lines : List TraceLine) (on : ℕ) → next_on rows wave.on line.words ≡ Some on → steps_from rows wave (line ∷ lines) ≡ step_at wave line on ∷ steps_from rows (wave_at wave line on) lines
steps-step rows wave line lines on is =
    ap (λ o. step_if_any (option_map (step_at wave line) o) ++ steps_from rows (option_map_or (wave_at wave line) o wave) lines) is

-- one that makes none
pub steps-none : (rows : List Row) (wave : Wave) (line : TraceLine) (lines : List TraceLine) → next_on rows wave.on line.words ≡ None → steps_from rows wave (line ∷ lines) ≡ steps_from rows wave lines
steps-none rows wave line lines is =
    ap (λ o. step_if_any (option_map (step_at wave line) o) ++ steps_from rows (option_map_or (wave_at wave line) o wave) lines) is

-- the values after either
pub along-step : (rows : List Row) (wave : Wave) (line : TraceLine) (lines : List TraceLine) (on : ℕ) → next_on rows wave.on line.words ≡ Some on → wave_along rows wave (line ∷ lines) ≡ wave_along rows (wave_at wave line on) lines
along-step rows wave line lines on is =
    ap (λ o. wave_along rows (option_map_or (wave_at wave line) o wave) lines) is

pub along-none : (rows : List Row) (wave : Wave) (line : TraceLine) (lines : List TraceLine) → next_on rows wave.on line.words ≡ None → wave_along rows wave (line ∷ lines) ≡ wave_along rows wave lines
along-none rows wave line lines is =
    ap (λ o. wave_along rows (option_map_or (wave_at wave line) o wave) lines) is

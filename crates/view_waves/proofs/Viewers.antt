-- What a viewer of the waves of a trace sees.
use Rattle.std.proofs.Common.{◌≡◌, ℕ, ◌+◌, ◌-◌, ◌==◌, List, [], ◌∷◌, ◌++◌, map, Some, sym, ap, subst, ◌∙◌, arith}
use Rattle.std.specs.Prelude.{nat_le}
use Rattle.std.specs.List.{fold, range_with_len}
use Rattle.std.proofs.lemmas.List.{map-append}
use Rattle.std.proofs.lemmas.List.Elements.{filter-append}
use Rattle.std.proofs.lemmas.List.Sums.{fold-append}
use Rattle.trace_lines.specs.declared.line.TraceLine.{TraceLine}
use Rattle.trace_lines.specs.declared.trace.Reached.TheVariants.{Nothing, Slot as AtSlot, End as AtEnd}
use Rattle.trace_lines.specs.Traces.{AreTrace, Leads}
use Rattle.run_blocks.proofs.BlockLemmas.{range-more}
use Rattle.run_blocks.specs.declared.rows.Row.{Row}
use Rattle.view_waves.specs.declared.steps.Step.{Step}
use Rattle.view_waves.specs.declared.steps.Wave.{Wave}
use Rattle.view_waves.specs.Laws.{IsLineOf}
use Rattle.view_waves.specs.Levels.{changed, is_on, level_after, on_at, shown_at, steps_by, steps_of, turned}
use Rattle.view_waves.specs.Steps.{capacity_of, first_on, first_shown, first_wave, steps_from, wave_along, wave_at, wire_on}
use Rattle.view_waves.proofs.Folds.{changed-along, level-along, turned-along}
use Rattle.view_waves.proofs.Fronts.{along-append, front-by, next-shown, some-front-of, steps_by-front, steps-append, times-between}
use Rattle.view_waves.proofs.LineKinds.{along-step, start-of, steps-none, steps-step}
use Rattle.view_waves.proofs.Splits.{end-split, slot-split, told-next}

-- the values after lines of which the last tells a slot
last-wave : (rows : List Row) (wave : Wave) (earlier : List TraceLine) (line : TraceLine) (wire : ℕ) → wire_on rows line.words ≡ Some wire → wave_along rows wave (earlier ++ line ∷ []) ≡ wave_at (wave_along rows wave earlier) line wire
last-wave rows wave earlier line wire told =
    along-append rows wave earlier (line ∷ [])
    ∙ along-step rows (wave_along rows wave earlier) line [] wire (told-next rows line.words wire (wave_along rows wave earlier).on told)

-- the wire that is on in the slot of a line is that which it tells
pub on-told : (rows : List Row) (lines : List TraceLine) (line : TraceLine) (wire : ℕ) → IsLineOf lines line → wire_on rows line.words ≡ Some wire → on_at (first_on rows lines) (steps_of rows lines) line.time ≡ wire
on-told rows lines line wire is told =
    let split = slot-split rows lines line wire is told in
    let wave = first_wave rows lines in
    let front = split.earlier ++ line ∷ [] in
    ap (λ ls. fold turned wave.on (steps_by line.time (steps_from rows wave ls))) split.whole
    ∙ ap (fold turned wave.on) (steps_by-front rows wave front split.rest line.time AtEnd split.front split.on)
    ∙ turned-along rows wave front
    ∙ ap (λ (w : Wave). w.on) (last-wave rows wave split.earlier line wire told)

-- a wire is on exactly if it is that to which the last turn turns
pub level-told : (rows : List Row) (lines : List TraceLine) (wire slot : ℕ) → AreTrace lines → is_on rows lines wire slot ≡ (wire == on_at (first_on rows lines) (steps_of rows lines) slot)
level-told rows lines wire slot trace =
    let wave = first_wave rows lines in
    let (front, same) = some-front-of rows wave lines slot trace in
    ap (fold (level_after wire) (wire == wave.on)) same
    ∙ level-along wire rows wave front
    ∙ ap (λ n. wire == n) (sym (turned-along rows wave front) ∙ ap (fold turned wave.on) (sym same))

-- the capacity after a slot is shown in the next
pub capacity-told : (rows : List Row) (lines : List TraceLine) (line : TraceLine) (wire : ℕ) → IsLineOf lines line → wire_on rows line.words ≡ Some wire → shown_at (first_shown lines) (steps_of rows lines) (line.time + 1) ≡ capacity_of line
capacity-told rows lines line wire is told =
    let split = slot-split rows lines line wire is told in
    let wave = first_wave rows lines in
    let front = split.earlier ++ line ∷ [] in
    let after = wave_along rows wave front in
    ap (λ ls. fold changed wave.shown (steps_by (line.time + 1) (steps_from rows wave ls))) split.whole
    ∙ ap (fold changed wave.shown)
    (ap (steps_by (line.time + 1)) (steps-append rows wave front split.rest)
    ∙ filter-append (λ (step : Step). nat_le step.time (line.time + 1)) (steps_from rows wave front) (steps_from rows after split.rest)
    ∙ ap (λ ss. ss ++ steps_by (line.time + 1) (steps_from rows after split.rest)) (front-by rows wave front (line.time + 1) (line.time + 1) split.front (omega arith)))
    ∙ fold-append changed wave.shown (steps_from rows wave front) (steps_by (line.time + 1) (steps_from rows after split.rest))
    ∙ ap (λ n. fold changed n (steps_by (line.time + 1) (steps_from rows after split.rest))) (changed-along rows wave front)
    ∙ next-shown rows after split.rest (line.time + 1) split.on
    ∙ ap (λ (w : Wave). w.next) (last-wave rows wave split.earlier line wire told)

-- in slot 0 the first capacity is shown
first-from : (rows : List Row) (wave : Wave) (lines : List TraceLine) → Leads Nothing lines AtEnd → fold changed wave.shown (steps_by 0 (steps_from rows wave lines)) ≡ wave.next
first-from rows wave [] leads = absurd (cc leads)
first-from rows wave (line ∷ lines) (may, (next, is, leads)) =
    let (on, at) = start-of rows line next is in
    ap (λ ss. fold changed wave.shown (steps_by 0 ss)) (steps-none rows wave line lines (on wave.on))
    ∙ next-shown rows wave lines 0 (subst (λ r. Leads r lines AtEnd) at leads)

pub first-told : (rows : List Row) (lines : List TraceLine) → AreTrace lines → shown_at (first_shown lines) (steps_of rows lines) 0 ≡ first_shown lines
first-told rows lines trace = first-from rows (first_wave rows lines) lines trace

-- the times of the steps of lines from the beginning of a trace on
times-from : (rows : List Row) (wave : Wave) (lines : List TraceLine) (to : ℕ) → Leads Nothing lines (AtSlot to) → map (λ (step : Step). step.time) (steps_from rows wave lines) ≡ range_with_len 0 to
times-from rows wave [] to leads = absurd (cc leads)
times-from rows wave (line ∷ lines) to (may, (next, is, leads)) =
    let (on, at) = start-of rows line next is in
    ap (map (λ (step : Step). step.time)) (steps-none rows wave line lines (on wave.on))
    ∙ times-between rows wave lines 0 to (subst (λ r. Leads r lines (AtSlot to)) at leads)
    ∙ ap (range_with_len 0) (whole to)
  where
    whole : (n : ℕ) → n - 0 ≡ n
    whole n = omega arith

-- the steps of a trace are one for each slot and one for the end
pub times-told : (rows : List Row) (lines : List TraceLine) (last : TraceLine) → AreTrace (lines ++ last ∷ []) → map (λ (step : Step). step.time) (steps_of rows (lines ++ last ∷ [])) ≡ range_with_len 0 (last.time + 1)
times-told rows lines last trace =
    let split = end-split rows lines last trace in
    let wave = first_wave rows (lines ++ last ∷ []) in
    let after = wave_along rows wave lines in
    let time_of = λ (step : Step). step.time in
    ap (map time_of) (steps-append rows wave lines (last ∷ []))
    ∙ map-append time_of (steps_from rows wave lines) (steps_from rows after (last ∷ []))
    ∙ ap (λ ts. ts ++ map time_of (steps_from rows after (last ∷ []))) (times-from rows wave lines last.time split.front)
    ∙ ap (λ ss. range_with_len 0 last.time ++ map time_of ss) (steps-step rows after last [] after.on (split.ends after.on))
    ∙ ap (λ t. range_with_len 0 last.time ++ t ∷ []) (none-before last.time)
    ∙ sym (range-more 0 last.time)
  where
    none-before : (t : ℕ) → t ≡ 0 + t
    none-before t = omega arith

-- The times at which a trace runs a job rise, and are few.
use Rattle.std.proofs.Common.{◌≡◌, ℕ, ◌+◌, ◌≤◌, ◌&&◌, ◌++◌, List, [], ◌∷◌, length, map, sym, ap, subst, ◌∙◌, inl, inr, arith}
use Rattle.std.specs.Prelude.{⊤, filter}
use Rattle.std.proofs.lemmas.Bool.{and_parts, cases_Bool, leb-true}
use Rattle.slot_core.specs.declared.TheConstants.{NUMBER_LIMIT}
use Rattle.slot_core.specs.declared.jobs.Key.{Key}
use Rattle.slot_core.specs.declared.tasks.TaskSet.{TaskSet}
use Rattle.slot_core.specs.Runs.Rising.{AreRising}
use Rattle.trace_lines.specs.declared.line.KeyName.{KeyName}
use Rattle.trace_lines.specs.declared.line.TraceLine.{TraceLine}
use Rattle.trace_lines.specs.declared.trace.Reached.{Reached}
use Rattle.trace_lines.specs.declared.trace.Reached.TheVariants.{Nothing, Slot as AtSlot, End as AtEnd}
use Rattle.trace_lines.specs.Ranges.{number_fits, spans_fit, words_fit}
use Rattle.trace_lines.specs.Traces.{Leads, MayStand, run_at}
use Rattle.trace_lines.proofs.LineMoves.{Ends, end-stays, moves-of, Runs, starts-by, Waits}
use Rattle.view_jobs.specs.JobTimes.{is_name_of, times_run}
use Rattle.view_jobs.specs.Laws.{Rise}
use Rattle.view_jobs.proofs.ToldTimes.{times-line}

-- the times rise from this one on, and none is above what a line may have
abbrev pub RiseFrom : ℕ → List ℕ → Type 0
RiseFrom from [] = ⊤
RiseFrom from (time ∷ times) = (from ≤ time) × (time ≤ NUMBER_LIMIT) × RiseFrom (time + 1) times

-- from an earlier time on too
pub from-earlier : (from later : ℕ) (times : List ℕ) → from ≤ later → RiseFrom later times → RiseFrom from times
from-earlier from later [] before rise = tt
from-earlier from later (time ∷ times) before (after, low, rest) = (omega (arith, before, after), low, rest)

pub rising-from : (time : ℕ) (times : List ℕ) → RiseFrom (time + 1) times → AreRising time times
rising-from time [] rise = tt
rising-from time (next ∷ times) (after, low, rest) = (omega (arith, after), rising-from next times rest)

pub rise-of : (times : List ℕ) → RiseFrom 0 times → Rise times
rise-of [] rise = tt
rise-of (time ∷ times) (after, low, rest) = rising-from time times rest

-- so many numbers stand from a time up to the limit
pub few-from : (from : ℕ) (times : List ℕ) → from ≤ NUMBER_LIMIT + 1 → RiseFrom from times → from + length times ≤ NUMBER_LIMIT + 1
few-from from [] low rise = omega (arith, low)
few-from from (time ∷ times) low (after, within, rest) =
    omega (arith, after, few-from (time + 1) times (omega (arith, within)) rest)

-- the time of a line is within the limit
time-fits : (line : TraceLine) → MayStand line → line.time ≤ NUMBER_LIMIT
time-fits line may =
    let whole = and_parts (number_fits line.time && words_fit line.words) (spans_fit line.words line.spans line.more) may.0 in
    leb-true line.time NUMBER_LIMIT (and_parts (number_fits line.time) (words_fit line.words) whole.0).0

module _ (set : TaskSet) (key : Key) where
  -- a line that runs no job has no time
  quiet : (line : TraceLine) (lines : List TraceLine) → run_at line.time line.words ≡ [] → times_run set (line ∷ lines) key ≡ times_run set lines key
  quiet line lines none =
      times-line set key line lines
      ∙ ap (λ runs. map (λ run. run.0) (filter (λ run. is_name_of set key run.1) runs) ++ times_run set lines key) none

  -- one that runs a job has its own at most
  running : (line : TraceLine) (lines : List TraceLine) (name : KeyName) (slot : ℕ) → run_at line.time line.words ≡ (line.time, name) ∷ [] → line.time ≡ slot → MayStand line → RiseFrom (slot + 1) (times_run set lines key) → RiseFrom slot (times_run set (line ∷ lines) key)
  running line lines name slot runs now may rest =
      let split = times-line set key line lines ∙ ap (λ runs. map (λ run. run.0) (filter (λ run. is_name_of set key run.1) runs) ++ times_run set lines key) runs in
      subst
      (RiseFrom slot)
      (sym split)
      (elim (cases_Bool (is_name_of set key name)) [
        | inl own ↦
            rw own (omega (arith, now), time-fits line may, subst (λ t. RiseFrom (t + 1) (times_run set lines key)) (sym now) rest)
        | inr other ↦ rw other (from-earlier slot (slot + 1) (times_run set lines key) (omega arith) rest)
      ])

  pub rise-along : (slot : ℕ) (lines : List TraceLine) (to : Reached) → Leads (AtSlot slot) lines to → RiseFrom slot (times_run set lines key)
  rise-along slot [] to leads = tt
  rise-along slot (line ∷ lines) to (may, (next, is, leads)) =
      let there = λ (r : Reached) (at : next ≡ r). subst (λ r. Leads r lines to) at leads in
      let (now, moves) = moves-of slot line next is in
      elim moves [
        | Runs name runs at ↦
            running line lines name slot runs now may (rise-along (slot + 1) lines to (there (AtSlot (slot + 1)) at))
        | Waits later none at after ↦
            subst (RiseFrom slot) (sym (quiet line lines none)) (from-earlier slot later (times_run set lines key) after (rise-along later lines to (there (AtSlot later) at)))
        | Ends none at ↦
            subst (RiseFrom slot) (sym (quiet line lines none ∙ ap (λ ls. times_run set ls key) (end-stays lines to (there AtEnd at)).0)) tt
      ]

  pub rise-in : (lines : List TraceLine) (to : Reached) → Leads Nothing lines to → RiseFrom 0 (times_run set lines key)
  rise-in [] to leads = tt
  rise-in (line ∷ lines) to (may, (next, is, leads)) =
      let (none, at) = starts-by line.time line.words next is in
      subst (RiseFrom 0) (sym (quiet line lines none)) (rise-along 0 lines to (subst (λ r. Leads r lines to) at leads))

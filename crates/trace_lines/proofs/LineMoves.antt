-- How the lines of a trace move on, and that no more of them run a job than slots pass.
use Rattle.std.proofs.Common.{◌≡◌, ℕ, suc, ◌+◌, ◌-◌, ◌≤◌, ◌==◌, ◌++◌, List, [], ◌∷◌, length, length-append, Some, refl, sym, ap, subst, ◌∙◌, inl, inr, arith}
use Rattle.std.specs.Prelude.{slice_get}
use Rattle.std.specs.Option.{option_map_or}
use Rattle.std.proofs.lemmas.Bool.{cases_Bool, eqb-true}
use Rattle.trace_lines.specs.declared.line.KeyName.{KeyName}
use Rattle.trace_lines.specs.declared.line.Words.{Words}
use Rattle.trace_lines.specs.declared.line.Words.TheVariants.{Start, Soft, Firm, Sporadic, Done, Withdraw, Run, Idle, End}
use Rattle.trace_lines.specs.declared.line.TraceLine.{TraceLine}
use Rattle.trace_lines.specs.declared.trace.Reached.{Reached}
use Rattle.trace_lines.specs.declared.trace.Reached.TheVariants.{Slot as AtSlot, End as AtEnd}
use Rattle.trace_lines.specs.Traces.{AreTrace, Leads, reached_after, reached_by, reached_by_start, run_at, runs_of, time_of_last}

-- a line runs a job, and then its slot is over; or it runs none, and time does not go back
pub data Moves (slot time : ℕ) (words : Words) (next : Reached) : Type 0 where
  Runs : (name : KeyName) → run_at time words ≡ (time, name) ∷ [] → next ≡ AtSlot (slot + 1) → Moves slot time words next
  Waits : (later : ℕ) → run_at time words ≡ [] → next ≡ AtSlot later → slot ≤ later → Moves slot time words next
  Ends : run_at time words ≡ [] → next ≡ AtEnd → Moves slot time words next

moves-by : (slot time : ℕ) (words : Words) (next : Reached) → reached_by slot words ≡ Some next → Moves slot time words next
moves-by slot time Start next is = absurd (cc is)
moves-by slot time (Soft row slots a) next is = Waits slot refl (cc is) (omega arith)
moves-by slot time (Firm row slots within a) next is = Waits slot refl (cc is) (omega arith)
moves-by slot time (Sporadic row name a) next is = Waits slot refl (cc is) (omega arith)
moves-by slot time (Done row key a) next is = Waits slot refl (cc is) (omega arith)
moves-by slot time (Withdraw row firm a) next is = Waits slot refl (cc is) (omega arith)
moves-by slot time (Run name) next is = Runs name refl (cc is)
moves-by slot time Idle next is = Waits (slot + 1) refl (cc is) (omega arith)
moves-by slot time End next is = Ends refl (cc is)

pub moves-of : (slot : ℕ) (line : TraceLine) (next : Reached) → reached_after (AtSlot slot) line ≡ Some next → (line.time ≡ slot) × Moves slot line.time line.words next
moves-of slot line next is =
    elim (cases_Bool (line.time == slot)) [
      | inl now ↦ (eqb-true line.time slot now, moves-by slot line.time line.words next (rw now at is))
      | inr other ↦ absurd (let none = rw other at is in cc)
    ]

-- the first line runs no job, and slot 0 follows
pub starts-by : (time : ℕ) (words : Words) (next : Reached) → reached_by_start time words ≡ Some next → (run_at time words ≡ []) × (next ≡ AtSlot 0)
starts-by time Start next is =
    elim (cases_Bool (time == 0)) [
      | inl now ↦ (refl, (let there = rw now at is in cc there))
      | inr other ↦ absurd (let none = rw other at is in cc)
    ]
starts-by time (Soft row slots a) next is = absurd (cc is)
starts-by time (Firm row slots within a) next is = absurd (cc is)
starts-by time (Sporadic row name a) next is = absurd (cc is)
starts-by time (Done row key a) next is = absurd (cc is)
starts-by time (Withdraw row firm a) next is = absurd (cc is)
starts-by time (Run name) next is = absurd (cc is)
starts-by time Idle next is = absurd (cc is)
starts-by time End next is = absurd (cc is)

-- after the end no line follows
pub end-stays : (lines : List TraceLine) (to : Reached) → Leads AtEnd lines to → (lines ≡ []) × (to ≡ AtEnd)
end-stays [] to leads = (refl, sym leads)
end-stays (line ∷ lines) to (may, (next, is, leads)) = absurd (cc is)

-- what stands last stands last behind one more line too
last-behind : (line next : TraceLine) (lines : List TraceLine) → time_of_last (line ∷ next ∷ lines) ≡ time_of_last (next ∷ lines)
last-behind line next lines =
    let whole : length (line ∷ next ∷ lines) - 1 ≡ suc (length lines) = omega arith in
    let part : length (next ∷ lines) - 1 ≡ length lines = omega arith in
    ap (λ n. option_map_or (λ (l : TraceLine). l.time) (slice_get (line ∷ next ∷ lines) n) 0) whole
    ∙ ap (λ n. option_map_or (λ (l : TraceLine). l.time) (slice_get (next ∷ lines) n) 0) (sym part)

-- the runs of a line and of those behind it
runs-split : (line : TraceLine) (lines : List TraceLine) → length (runs_of (line ∷ lines)) ≡ length (run_at line.time line.words) + length (runs_of lines)
runs-split line lines = length-append (run_at line.time line.words) (runs_of lines)

behind-few : (slot : ℕ) (line : TraceLine) (lines : List TraceLine) → Leads (AtSlot slot) lines AtEnd → slot + length (runs_of lines) ≤ time_of_last lines → slot + length (runs_of lines) ≤ time_of_last (line ∷ lines)
behind-few slot line [] leads few = absurd (cc leads)
behind-few slot line (next ∷ lines) leads few =
    subst (λ t. slot + length (runs_of (next ∷ lines)) ≤ t) (sym (last-behind line next lines)) few

-- the last line
only-few : (slot : ℕ) (line : TraceLine) → line.time ≡ slot → run_at line.time line.words ≡ [] → slot + length (runs_of (line ∷ [])) ≤ time_of_last (line ∷ [])
only-few slot line now none =
    let count : length (runs_of (line ∷ [])) ≡ 0 = ap (λ (runs : List (ℕ × KeyName)). length (runs ++ [])) none in
    let last : time_of_last (line ∷ []) ≡ line.time = refl in
    omega (arith, count, last, now)

runs-few : (slot : ℕ) (lines : List TraceLine) → Leads (AtSlot slot) lines AtEnd → slot + length (runs_of lines) ≤ time_of_last lines
runs-few slot [] leads = absurd (cc leads)
runs-few slot (line ∷ lines) (may, (next, is, leads)) =
    let there = λ (r : Reached) (at : next ≡ r). subst (λ r. Leads r lines AtEnd) at leads in
    let (now, moves) = moves-of slot line next is in
    let size = λ (runs : List (ℕ × KeyName)) (own : run_at line.time line.words ≡ runs). ap (λ (rs : List (ℕ × KeyName)). length rs) own in
    elim moves [
      | Runs name runs at ↦
          let one : length (run_at line.time line.words) ≡ 1 = size ((line.time, name) ∷ []) runs in
          let leads_on = there (AtSlot (slot + 1)) at in
          omega (arith, one, runs-split line lines, behind-few (slot + 1) line lines leads_on (runs-few (slot + 1) lines leads_on))
      | Waits later none at after ↦
          let zero_runs : length (run_at line.time line.words) ≡ 0 = size [] none in
          let leads_on = there (AtSlot later) at in
          omega (arith, zero_runs, after, runs-split line lines, behind-few later line lines leads_on (runs-few later lines leads_on))
      | Ends none at ↦
          subst
          (λ ls. slot + length (runs_of (line ∷ ls)) ≤ time_of_last (line ∷ ls))
          (sym (end-stays lines AtEnd (there AtEnd at)).0)
          (only-few slot line now none)
    ]

-- the lines of a trace run at most one job in each of its slots
pub trace-runs-few : (lines : List TraceLine) → AreTrace lines → length (runs_of lines) ≤ time_of_last lines
trace-runs-few [] leads = absurd (cc leads)
trace-runs-few (line ∷ lines) (may, (next, is, leads)) =
    let (none, at) = starts-by line.time line.words next is in
    let zero_runs : length (run_at line.time line.words) ≡ 0 = ap (λ (rs : List (ℕ × KeyName)). length rs) none in
    let leads_on = subst (λ r. Leads r lines AtEnd) at leads in
    omega (arith, zero_runs, runs-split line lines, behind-few 0 line lines leads_on (runs-few 0 lines leads_on))

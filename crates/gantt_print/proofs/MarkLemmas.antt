-- What one run marks.
use Rattle.std.proofs.Common.{◌≡◌, ℕ, zero, suc, ◌+◌, ◌<◌, ◌≤◌, ◌≢◌, ◌==◌, true, false, ◌&&◌, ◌||◌, cond, List, [], ◌∷◌, length, set, refl, sym, ap, ap₂, arith}
use Rattle.std.proofs.lemmas.Bool.Decides.{nat_tests}
use Rattle.slot_core.specs.declared.jobs.Key.{Key}
use Rattle.slot_core.specs.declared.events.What.{What}
use Rattle.slot_core.specs.declared.events.What.TheVariants.{Start, Soft, Firm, Sporadic, Done, Withdraw, Run, Idle, End}
use Rattle.slot_core.specs.Output.Charts.{ChartRow, is_in_row, run_at}
use Rattle.gantt_print.specs.Drawings.{MarkedRow, has_run, marks_with, with_runs}

-- marks with no run at their slots stay
pub marks_with-apart : (runs : List (ℕ × Key)) (row : ChartRow) (u : ℕ) (marks : List ℕ) → ((v : ℕ) → u ≤ v → v < u + length marks → has_run runs row v ≡ false) → marks_with runs row u marks ≡ marks
marks_with-apart runs row u [] none = refl
marks_with-apart runs row u (m ∷ marks) none =
    ap₂ (λ (x : ℕ) (ms : List ℕ). x ∷ ms)
    (ap (λ b. cond b 35 m) (none u (omega arith) (omega arith)))
    (marks_with-apart runs row (u + 1) marks (λ v low high. none v (omega arith) (omega arith)))

-- one run of a key that is in the row, or is not
has_run-other : (t v : ℕ) (key : Key) (row : ChartRow) → t ≢ v → has_run ((t, key) ∷ []) row v ≡ false
has_run-other t v key row other =
    let e : (t == v) ≡ false = grind (arith, nat_tests) in
    ap (λ b. (b && is_in_row row key) || false) e

has_run-here : (t v : ℕ) (key : Key) (row : ChartRow) → t ≡ v → is_in_row row key ≡ true → has_run ((t, key) ∷ []) row v ≡ true
has_run-here t v key row here inside =
    let e : (t == v) ≡ true = grind (arith, nat_tests) in
    ap₂ (λ a b. (a && b) || false) e inside

has_run-outside : (t v : ℕ) (key : Key) (row : ChartRow) → is_in_row row key ≡ false → has_run ((t, key) ∷ []) row v ≡ false
has_run-outside t v key row outside =
    elim (t == v) as (λ b. ((b && is_in_row row key) || false) ≡ false) [ true ↦ ap (λ b. b || false) outside | false ↦ refl ]

-- its slot is marked
marks_with-one : (t : ℕ) (key : Key) (row : ChartRow) (u i : ℕ) (marks : List ℕ) → is_in_row row key ≡ true → t ≡ u + i → i < length marks → marks_with ((t, key) ∷ []) row u marks ≡ set marks i 35
marks_with-one t key row u i [] inside at low = absurd (omega arith)
marks_with-one t key row u zero (m ∷ marks) inside at low =
    ap₂ (λ (x : ℕ) (ms : List ℕ). x ∷ ms)
    (ap (λ b. cond b 35 m) (has_run-here t u key row (omega arith) inside))
    (marks_with-apart ((t, key) ∷ []) row (u + 1) marks (λ v above high. has_run-other t v key row (omega arith)))
marks_with-one t key row u (suc i) (m ∷ marks) inside at low =
    ap₂ (λ (x : ℕ) (ms : List ℕ). x ∷ ms)
    (ap (λ b. cond b 35 m) (has_run-other t u key row (omega arith)))
    (marks_with-one t key row (u + 1) i marks inside (omega arith) (omega arith))

pub with_runs-marks : (t : ℕ) (key : Key) (r : MarkedRow) → is_in_row r.row key ≡ true → t < length r.marks → record r { marks = set r.marks t 35 } ≡ with_runs ((t, key) ∷ []) r
with_runs-marks t key r inside low =
    ap (λ ms. record r { marks = ms }) (sym (marks_with-one t key r.row 0 t r.marks inside (omega arith) low))

-- a row that the key is not in, or whose slots end before, stays
pub with_runs-outside : (t : ℕ) (key : Key) (r : MarkedRow) → is_in_row r.row key ≡ false → r ≡ with_runs ((t, key) ∷ []) r
with_runs-outside t key r outside =
    ap (λ ms. record r { marks = ms }) (sym (marks_with-apart ((t, key) ∷ []) r.row 0 r.marks (λ v low high. has_run-outside t v key r.row outside)))

pub with_runs-past : (t : ℕ) (key : Key) (r : MarkedRow) → length r.marks ≤ t → r ≡ with_runs ((t, key) ∷ []) r
with_runs-past t key r past =
    ap (λ ms. record r { marks = ms }) (sym (marks_with-apart ((t, key) ∷ []) r.row 0 r.marks (λ v low high. has_run-other t v key r.row (omega arith))))

-- no run is in another entry
pub run_at-none : (t : ℕ) (what : What) → ((key : Key) → what ≡ Run key → ⊥) → run_at t what ≡ []
run_at-none t Start other = refl
run_at-none t (Soft a b e) other = refl
run_at-none t (Firm a b d e) other = refl
run_at-none t (Sporadic a b e) other = refl
run_at-none t (Done a b e) other = refl
run_at-none t (Withdraw a b e) other = refl
run_at-none t (Run key) other = absurd (other key refl)
run_at-none t Idle other = refl
run_at-none t End other = refl

-- the number of marks stays
pub length-marks_with : (runs : List (ℕ × Key)) (row : ChartRow) (u : ℕ) (marks : List ℕ) → length (marks_with runs row u marks) ≡ length marks
length-marks_with runs row u [] = refl
length-marks_with runs row u (m ∷ marks) = ap suc (length-marks_with runs row (u + 1) marks)

-- Each job that runs has a row, where none is of a task that has none.
use Rattle.std.proofs.Common.{◌≡◌, ℕ, suc, Bool, true, false, not, List, [], ◌∷◌, ◌++◌, Some, None, refl, sym, subst, ◌∙◌, inl, inr}
use Rattle.std.specs.Prelude.{filter, slice_get}
use Rattle.std.proofs.lemmas.Bool.{and_from, and_parts, cases_Bool, false≢true, or_left, or_right}
use Rattle.std.proofs.lemmas.List.Folds.{list_all-append, list_any-append}
use Rattle.key_texts.proofs.PlaceLemmas.{position-None}
use Rattle.run_blocks.specs.declared.rows.Row.{Row}
use Rattle.run_blocks.specs.declared.rows.Row.TheVariants.{Task as TaskRow, Sporadic as SporadicRow, FirmJob, Firm, Soft}
use Rattle.run_blocks.specs.Rows.{has_row, have_rows, row_holds}
use Rattle.trace_lines.specs.declared.line.KeyName.{KeyName}
use Rattle.trace_lines.specs.declared.line.KeyName.TheVariants.{Offline, Sporadic as SporadicKey, Firm as FirmKey, Soft as SoftKey}
use Rattle.trace_lines.specs.declared.line.TraceLine.{TraceLine}
use Rattle.trace_lines.specs.declared.line.Words.{Words}
use Rattle.trace_lines.specs.declared.line.Words.TheVariants.{Run}
use Rattle.trace_lines.specs.Traces.{run_at, runs_of}
use Rattle.task_rows.specs.Rows.{AreTaskRows, first_of_no_task, is_for_arrivals, is_of_no_task, runs_no_task, words_run_no_task}

-- a row that holds a firm job or soft work is for such
holds-firm : (row : Row) (r : ℕ) → row_holds row (FirmKey r) ≡ true → is_for_arrivals row ≡ true
holds-firm (TaskRow graph task) r holds = absurd (false≢true holds)
holds-firm (SporadicRow name) r holds = absurd (false≢true holds)
holds-firm (FirmJob row) r holds = refl
holds-firm Firm r holds = refl
holds-firm Soft r holds = refl

holds-soft : (row : Row) (r : ℕ) → row_holds row (SoftKey r) ≡ true → is_for_arrivals row ≡ true
holds-soft (TaskRow graph task) r holds = absurd (false≢true holds)
holds-soft (SporadicRow name) r holds = absurd (false≢true holds)
holds-soft (FirmJob row) r holds = refl
holds-soft Firm r holds = refl
holds-soft Soft r holds = refl

-- a row that holds a job stays where a test keeps such rows
kept : (p : Row → Bool) (key : KeyName) (rows : List Row) → ((row : Row) → row_holds row key ≡ true → p row ≡ true) → has_row rows key ≡ true → has_row (filter p rows) key ≡ true
kept p key [] keeps held = held
kept p key (row ∷ rows) keeps held =
    elim (cases_Bool (row_holds row key)) [
      | inl holds ↦ rw (keeps row holds, holds) refl
      | inr fails ↦
          let rest = kept p key rows keeps (rw fails at held) in
          elim (cases_Bool (p row)) [
            | inl pass ↦ rw pass (or_right (row_holds row key) (has_row (filter p rows) key) rest)
            | inr fail ↦ rw fail rest
          ]
    ]

-- what is not false is so
known : (b : Bool) → not b ≡ false → b ≡ true
known true is = refl
known false is = cc is

-- a job has a row where its task has one, or where it arrived and has a row among those that run
key-held : (tasks run : List Row) (key : KeyName) → is_of_no_task tasks key ≡ false → has_row run key ≡ true → has_row (tasks ++ filter is_for_arrivals run) key ≡ true
key-held tasks run (Offline graph task instance) is held =
    let key = Offline graph task instance in
    list_any-append (λ row. row_holds row key) tasks (filter is_for_arrivals run)
    ∙ or_left (has_row tasks key) (has_row (filter is_for_arrivals run) key) (known (has_row tasks key) is)
key-held tasks run (SporadicKey name r) is held =
    let key = SporadicKey name r in
    list_any-append (λ row. row_holds row key) tasks (filter is_for_arrivals run)
    ∙ or_left (has_row tasks key) (has_row (filter is_for_arrivals run) key) (known (has_row tasks key) is)
key-held tasks run (FirmKey r) is held =
    let key = FirmKey r in
    list_any-append (λ row. row_holds row key) tasks (filter is_for_arrivals run)
    ∙ or_right (has_row tasks key) (has_row (filter is_for_arrivals run) key) (kept is_for_arrivals key run (λ row holds. holds-firm row r holds) held)
key-held tasks run (SoftKey r) is held =
    let key = SoftKey r in
    list_any-append (λ row. row_holds row key) tasks (filter is_for_arrivals run)
    ∙ or_right (has_row tasks key) (has_row (filter is_for_arrivals run) key) (kept is_for_arrivals key run (λ row holds. holds-soft row r holds) held)

-- so the job that words run, if they run one
words-held : (tasks run : List Row) (time : ℕ) (words : Words) → words_run_no_task tasks words ≡ false → have_rows run (run_at time words) ≡ true → have_rows (tasks ++ filter is_for_arrivals run) (run_at time words) ≡ true
words-held tasks run time (Run key) is held =
    let (here, rest) = and_parts (has_row run key) true held in
    and_from (has_row (tasks ++ filter is_for_arrivals run) key) true (key-held tasks run key is here) refl
words-held tasks run time words is held = refl

-- each of those that lines run
lines-held : (tasks run : List Row) (lines : List TraceLine) → ((i : ℕ) (line : TraceLine) → slice_get lines i ≡ Some line → runs_no_task tasks line ≡ false) → have_rows run (runs_of lines) ≡ true → have_rows (tasks ++ filter is_for_arrivals run) (runs_of lines) ≡ true
lines-held tasks run [] none held = refl
lines-held tasks run (line ∷ lines) none held =
    let rows = tasks ++ filter is_for_arrivals run in
    let first = run_at line.time line.words in
    let split = λ (rs : List Row). list_all-append (λ (r : ℕ × KeyName). has_row rs r.1) first (runs_of lines) in
    let (here, rest) = and_parts (have_rows run first) (have_rows run (runs_of lines)) (sym (split run) ∙ held) in
    split rows
    ∙ and_from
    (have_rows rows first)
    (have_rows rows (runs_of lines))
    (words-held tasks run line.time line.words (none 0 line refl) here)
    (lines-held tasks run lines (λ i l at. none (suc i) l at) rest)

-- each job that runs has a row
pub held : (tasks rows : List Row) (lines : List TraceLine) → AreTaskRows tasks lines rows → first_of_no_task tasks lines ≡ None → have_rows rows (runs_of lines) ≡ true
held tasks rows lines own none =
    subst
    (λ rs. have_rows rs (runs_of lines) ≡ true)
    (sym own.rows_all)
    (lines-held tasks own.run lines (position-None (runs_no_task tasks) lines none) own.own.own.held)

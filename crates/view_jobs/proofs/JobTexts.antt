-- The text of the table of jobs, in pieces.
use Rattle.std.proofs.Common.{◌≡◌, ℕ, ◌+◌, ◌<◌, List, [], ◌∷◌, ◌++◌, length, take, get_or, map, sym, ap, ◌∙◌}
use Rattle.std.proofs.Math.Path.{fun_ext}
use Rattle.std.proofs.lemmas.List.{get_or_default, map-append, take_more}
use Rattle.csv_table.specs.Tables.{row_line, rows_text}
use Rattle.csv_table.proofs.RowTexts.{rows_text-more}
use Rattle.slot_core.specs.declared.jobs.Key.{Key}
use Rattle.slot_core.specs.declared.tasks.TaskSet.{TaskSet}
use Rattle.slot_core.specs.Keeping.Plans.{PlanParts}
use Rattle.trace_lines.specs.declared.line.TraceLine.{TraceLine}
use Rattle.view_jobs.specs.declared.deeds.Deed.{Deed}
use Rattle.view_jobs.specs.declared.jobs.Listed.{Listed}
use Rattle.view_jobs.specs.declared.tallies.Tally.{Tally}
use Rattle.view_jobs.specs.Deeds.{deeds_of}
use Rattle.view_jobs.specs.JobRows.{job_row}
use Rattle.view_jobs.specs.Listing.{listed_jobs}
use Rattle.trace_lines.specs.Traces.{time_of_last}
use Rattle.view_jobs.specs.Tables.{jobs_text, listed_text, rows_with}
use Rattle.view_jobs.specs.Tallies.{tally_of}

-- the text of the rows of jobs
abbrev pub jobs_rows : TaskSet → (Key → Tally) → List Listed → List ℕ
jobs_rows set told jobs = rows_text (rows_with set told jobs)

-- one job more, after some text
pub job-more : (set : TaskSet) (told : Key → Tally) (text : List ℕ) (jobs : List Listed) (i : ℕ) (job : Listed) (row : List (List ℕ)) → i < length jobs → job ≡ get_or jobs i job → row ≡ job_row set job (told job.key) → (text ++ jobs_rows set told (take i jobs)) ++ row_line row ≡ text ++ jobs_rows set told (take (i + 1) jobs)
job-more set told text jobs i job row low is own =
    let row_of = λ (j : Listed). job_row set j (told j.key) in
    rows_text-more text (rows_with set told (take i jobs)) row
    ∙ ap (λ (r : List (List ℕ)). text ++ rows_text (rows_with set told (take i jobs) ++ r ∷ [])) own
    ∙ ap (λ rows. text ++ rows_text rows) (sym (ap (map row_of) (take_more jobs i job low ∙ ap (λ j. take i jobs ++ j ∷ []) (sym is)) ∙ map-append row_of (take i jobs) (job ∷ [])))

-- the job at a place
pub job-next : (set : TaskSet) (told : Key → Tally) (text : List ℕ) (jobs : List Listed) (i : ℕ) (d : Listed) (tally : Tally) → i < length jobs → tally ≡ told (get_or jobs i d).key → (text ++ jobs_rows set told (take i jobs)) ++ row_line (job_row set (get_or jobs i d) tally) ≡ text ++ jobs_rows set told (take (i + 1) jobs)
job-next set told text jobs i d tally low own =
    job-more set told text jobs i (get_or jobs i d) (job_row set (get_or jobs i d) tally) low (get_or_default jobs i d (get_or jobs i d) low) (ap (job_row set (get_or jobs i d)) own)

-- the table of the jobs of a trace, where its parts are what they are to be
pub jobs_text-from_parts : (plan : PlanParts) (lines : List TraceLine) (set : TaskSet) (told : Key → Tally) (deeds : List Deed) (jobs : List Listed) (slots : ℕ) → set ≡ plan.tasks → deeds ≡ deeds_of plan.tasks lines → slots ≡ time_of_last lines → jobs ≡ listed_jobs plan slots deeds → ((key : Key) → told key ≡ tally_of deeds key) → listed_text set told jobs ≡ jobs_text plan lines
jobs_text-from_parts plan lines set told deeds jobs slots own done last listed tells =
    ap (λ s. listed_text s told jobs) own
    ∙ ap (λ t. listed_text plan.tasks t jobs) (fun_ext tells)
    ∙ ap (λ js. listed_text plan.tasks (tally_of deeds) js) (listed ∙ ap (λ n. listed_jobs plan n deeds) last)
    ∙ ap (λ ds. listed_text plan.tasks (tally_of ds) (listed_jobs plan (time_of_last lines) ds)) done

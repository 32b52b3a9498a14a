-- What an early end frees, and what it leaves.
use Rattle.std.specs.Prelude.{ℕ, ◌≤◌, ◌&&◌, not, List, [], ◌∷◌, All, drop, filter, find, nat_lt, Option, Some, None, IsSomeAnd, if◌then◌else◌}
use Rattle.std.specs.Option.{option_map_or}
use Rattle.slot_core.specs.declared.jobs.Key.{Key}
use Rattle.slot_core.specs.declared.jobs.Key.TheVariants.{Soft as SoftKey}
use Rattle.slot_core.specs.declared.jobs.Job.{Job}
use Rattle.slot_core.specs.declared.jobs.SoftJob.{SoftJob}
use Rattle.slot_core.specs.declared.jobs.Span.{Span}
use Rattle.slot_core.specs.declared.events.Done.{Done}
use Rattle.slot_core.specs.declared.events.Done.TheVariants.{Freed, NotRunning}
use Rattle.slot_core.specs.Runs.Choice.{ready}
use Rattle.slot_core.specs.Offline.Keys.{is_soft, same_key}
use Rattle.spare_capacity.specs.Recurrence.{filled}
use Rattle.interval_row.specs.Changes.{span_ending, with_less}

-- the job, where it has started
abbrev pub started_of : Option Job → Option Job
started_of None = None
started_of (Some job) = if nat_lt job.left job.declared then Some job else None

-- the job of this key that ends early: it is ready and has started
abbrev pub ending_job : ℕ → Key → List Job → Option Job
ending_job time key jobs = started_of (find (λ (j : Job). same_key j.key key) (ready time jobs))

-- the soft job of this key that ends early: it is the first, and has started
abbrev pub ending_soft : Key → List SoftJob → Option SoftJob
ending_soft key [] = None
ending_soft key (s ∷ soft) =
    if same_key (SoftKey s.row) key && nat_lt s.left s.declared then Some s else None

-- the answer to an early end: how many slots it frees
abbrev pub freed : ℕ → Key → List Job → List SoftJob → Done
freed time key jobs soft =
    if is_soft key
    then option_map_or (λ (s : SoftJob). Freed s.left) (ending_soft key soft) NotRunning
    else option_map_or (λ (j : Job). Freed j.left) (ending_job time key jobs) NotRunning

-- the jobs after it: all but the one that ends
abbrev pub jobs_left : ℕ → Key → List Job → List Job
jobs_left time key jobs =
    option_map_or
    (λ (ended : Job). filter (λ (j : Job). not (same_key j.key key)) jobs)
    (ending_job time key jobs)
    jobs

-- the spans after it: what the job had left is due no more at its deadline
abbrev pub spans_left : ℕ → Key → List Job → List Span → List Span
spans_left time key jobs spans =
    option_map_or
    (λ (j : Job). filled (with_less j.dl j.left spans))
    (ending_job time key jobs)
    spans

-- the soft jobs after it: all but the first, where that one ends
abbrev pub soft_left : Key → List SoftJob → List SoftJob
soft_left key soft = option_map_or (λ (s : SoftJob). drop 1 soft) (ending_soft key soft) soft

-- no job has more left than the work of the span that ends at its deadline
abbrev pub AreDueInSpans : List Job → List Span → Type 0
AreDueInSpans jobs spans =
    All (λ (j : Job). IsSomeAnd (span_ending j.dl spans) (λ s. j.left ≤ s.work)) jobs

-- What the words of a line do to a job: they run it, end it or neither.
use Rattle.std.proofs.Common.{◌≡◌, ℕ, List, [], ◌∷◌, map, Option, Some, None, refl, inl, inr}
use Rattle.std.specs.Prelude.{filter, option_map}
use Rattle.std.specs.Option.{option_map_or}
use Rattle.std.proofs.lemmas.Bool.{cases_Bool}
use Rattle.slot_core.specs.declared.jobs.Key.{Key}
use Rattle.slot_core.specs.declared.jobs.Key.TheVariants.{Firm as FirmKey}
use Rattle.slot_core.specs.declared.tasks.TaskSet.{TaskSet}
use Rattle.slot_core.specs.declared.events.Soft.TheVariants.{Taken as SoftTaken, Full}
use Rattle.slot_core.specs.declared.events.Firm.TheVariants.{Accepted, Late, Far, NoRoom}
use Rattle.slot_core.specs.declared.events.Spo.{Spo}
use Rattle.slot_core.specs.declared.events.Spo.TheVariants.{Taken as SporadicTaken, Soon}
use Rattle.slot_core.specs.declared.events.Done.TheVariants.{Freed, NotRunning}
use Rattle.slot_core.specs.declared.events.Gone.TheVariants.{Freed as GoneFreed, NoJob}
use Rattle.slot_core.specs.Offline.Keys.{same_key}
use Rattle.key_texts.specs.KeyTexts.{sporadic_named}
use Rattle.trace_lines.specs.declared.line.KeyName.{KeyName}
use Rattle.trace_lines.specs.declared.line.Words.{Words}
use Rattle.trace_lines.specs.declared.line.Words.TheVariants.{Start, Soft, Firm, Sporadic, Done, Withdraw, Run, Idle, End}
use Rattle.trace_lines.specs.Traces.{run_at}
use Rattle.view_jobs.specs.declared.tallies.Tally.{Tally}
use Rattle.view_jobs.specs.Deeds.{brought_job, done_by, ended, key_in}
use Rattle.view_jobs.specs.JobTimes.{frees, is_name_of}
use Rattle.view_jobs.specs.Tallies.{after_does, after_end, after_run}

-- after the words of a line
abbrev pub after_words : TaskSet → Key → Tally → ℕ → Words → Tally
after_words set key tally time words = option_map_or (after_does key tally time) (done_by set time words) tally

-- the time, if the words run the job
abbrev pub time_run : TaskSet → Key → ℕ → Words → List ℕ
time_run set key time words =
    map (λ run. run.0) (filter (λ run. is_name_of set key run.1) (run_at time words))

pub data Kind (set : TaskSet) (key : Key) (time : ℕ) (words : Words) : Type 0 where
  Quiet : ((tally : Tally) → after_words set key tally time words ≡ tally) → time_run set key time words ≡ [] → frees set key words ≡ None → Kind set key time words
  Running : ((tally : Tally) → after_words set key tally time words ≡ after_run tally time) → time_run set key time words ≡ time ∷ [] → frees set key words ≡ None → Kind set key time words
  Ending : (slots : ℕ) → ((tally : Tally) → after_words set key tally time words ≡ after_end tally time slots) → time_run set key time words ≡ [] → frees set key words ≡ Some slots → Kind set key time words

-- a job that arrives tells nothing yet
arrived : (set : TaskSet) (key : Key) (tally : Tally) (time row : ℕ) (index : Option ℕ) (a : Spo) → option_map_or (after_does key tally time) (option_map (λ index. brought_job set row index a) index) tally ≡ tally
arrived set key tally time row None a = refl
arrived set key tally time row (Some index) (SporadicTaken due) = refl
arrived set key tally time row (Some index) (Soon next) = refl

-- nor does an end of what does not run
not_running : (key : Key) (tally : Tally) (time : ℕ) (k : Option Key) → option_map_or (after_does key tally time) (option_map (ended NotRunning) k) tally ≡ tally
not_running key tally time None = refl
not_running key tally time (Some k) = refl

run-kind : (set : TaskSet) (key : Key) (time : ℕ) (name : KeyName) (k : Option Key) → key_in set name ≡ k → Kind set key time (Run name)
run-kind set key time name None is = Quiet (λ tally. rw is refl) (rw is refl) refl
run-kind set key time name (Some k) is =
    elim (cases_Bool (same_key k key)) [
      | inl same ↦ Running (λ tally. rw (is, same) refl) (rw (is, same) refl) refl
      | inr other ↦ Quiet (λ tally. rw (is, other) refl) (rw (is, other) refl) refl
    ]

done-kind : (set : TaskSet) (key : Key) (time row slots : ℕ) (name : KeyName) (k : Option Key) → key_in set name ≡ k → Kind set key time (Done row name (Freed slots))
done-kind set key time row slots name None is = Quiet (λ tally. rw is refl) refl (rw is refl)
done-kind set key time row slots name (Some k) is =
    elim (cases_Bool (same_key k key)) [
      | inl same ↦ Ending slots (λ tally. rw (is, same) refl) refl (rw (is, same) refl)
      | inr other ↦ Quiet (λ tally. rw (is, other) refl) refl (rw (is, other) refl)
    ]

-- each line is of a kind
pub kind-of : (set : TaskSet) (key : Key) (time : ℕ) (words : Words) → Kind set key time words
kind-of set key time Start = Quiet (λ tally. refl) refl refl
kind-of set key time (Soft row slots SoftTaken) = Quiet (λ tally. refl) refl refl
kind-of set key time (Soft row slots (Full waiting)) = Quiet (λ tally. refl) refl refl
kind-of set key time (Firm row slots within Accepted) = Quiet (λ tally. refl) refl refl
kind-of set key time (Firm row slots within Late) = Quiet (λ tally. refl) refl refl
kind-of set key time (Firm row slots within Far) = Quiet (λ tally. refl) refl refl
kind-of set key time (Firm row slots within (NoRoom e)) = Quiet (λ tally. refl) refl refl
kind-of set key time (Sporadic row name a) =
    Quiet (λ tally. arrived set key tally time row (sporadic_named set.sporadics name) a) refl refl
kind-of set key time (Done row name (Freed slots)) = done-kind set key time row slots name (key_in set name) refl
kind-of set key time (Done row name NotRunning) =
    Quiet (λ tally. not_running key tally time (key_in set name)) refl refl
kind-of set key time (Withdraw row firm (GoneFreed slots)) =
    elim (cases_Bool (same_key (FirmKey firm) key)) [
      | inl same ↦ Ending slots (λ tally. rw same refl) refl (rw same refl)
      | inr other ↦ Quiet (λ tally. rw other refl) refl (rw other refl)
    ]
kind-of set key time (Withdraw row firm NoJob) = Quiet (λ tally. refl) refl refl
kind-of set key time (Run name) = run-kind set key time name (key_in set name) refl
kind-of set key time Idle = Quiet (λ tally. refl) refl refl
kind-of set key time End = Quiet (λ tally. refl) refl refl

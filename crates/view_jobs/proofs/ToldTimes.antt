-- What is told of a job comes from the times at which lines run it, and from its ends.
use Rattle.std.proofs.Common.{◌≡◌, ℕ, List, [], ◌∷◌, ◌++◌, map, Option, Some, None, refl, sym, ap, ◌∙◌}
use Rattle.std.specs.Prelude.{filter, option_map, slice_get}
use Rattle.std.specs.List.{cons_option, last_or}
use Rattle.std.specs.Option.{option_map_or, option_or}
use Rattle.std.proofs.lemmas.List.Elements.{filter-append}
use Rattle.std.proofs.lemmas.List.{map-append}
use Rattle.slot_core.specs.declared.jobs.Key.{Key}
use Rattle.slot_core.specs.declared.tasks.TaskSet.{TaskSet}
use Rattle.trace_lines.specs.declared.line.TraceLine.{TraceLine}
use Rattle.trace_lines.specs.Traces.{run_at, runs_of}
use Rattle.view_jobs.specs.declared.deeds.Does.{Does}
use Rattle.view_jobs.specs.declared.tallies.Tally.{Tally}
use Rattle.view_jobs.specs.Deeds.{deeds_of, done_by}
use Rattle.view_jobs.specs.JobTimes.{ends_of, frees, is_name_of, times_run}
use Rattle.view_jobs.specs.Tallies.{after_does, after_run, told_from}
use Rattle.view_jobs.proofs.DeedKinds.{after_words, Ending, kind-of, Quiet, Running, time_run}

-- what runs tell, without the end
abbrev pub without_end : Tally → Tally
without_end tally = record tally { ended = None }

-- after runs at these times
abbrev pub after_times : Tally → List ℕ → Tally
after_times tally [] = tally
after_times tally (time ∷ times) = after_times (after_run tally time) times

-- what lines tell is what the later ones tell beside the first
told-line : (set : TaskSet) (key : Key) (tally : Tally) (line : TraceLine) (lines : List TraceLine) → told_from key tally (deeds_of set (line ∷ lines)) ≡ told_from key (after_words set key tally line.time line.words) (deeds_of set lines)
told-line set key tally line lines = by_does (done_by set line.time line.words)
  where
    by_does : (does : Option Does) → told_from key tally (cons_option (option_map (λ does. record { time = line.time; does = does }) does) (deeds_of set lines)) ≡ told_from key (option_map_or (after_does key tally line.time) does tally) (deeds_of set lines)
    by_does None = refl
    by_does (Some does) = refl

-- the times of lines are that of the first and those of the later ones
pub times-line : (set : TaskSet) (key : Key) (line : TraceLine) (lines : List TraceLine) → times_run set (line ∷ lines) key ≡ time_run set key line.time line.words ++ times_run set lines key
times-line set key line lines =
    ap (map (λ (run : _). run.0)) (filter-append (λ run. is_name_of set key run.1) (run_at line.time line.words) (runs_of lines))
    ∙ map-append (λ run. run.0) (filter (λ run. is_name_of set key run.1) (run_at line.time line.words)) _

-- what is told beside the end is what runs at the times tell
pub told-times : (set : TaskSet) (key : Key) (tally : Tally) (lines : List TraceLine) → without_end (told_from key tally (deeds_of set lines)) ≡ after_times (without_end tally) (times_run set lines key)
told-times set key tally [] = refl
told-times set key tally (line ∷ lines) =
    let rest = λ (after : Tally) (times : List ℕ) (is : after_words set key tally line.time line.words ≡ after) (ran : time_run set key line.time line.words ≡ times).
    ap without_end (told-line set key tally line lines)
    ∙ ap (λ t. without_end (told_from key t (deeds_of set lines))) is
    ∙ told-times set key after lines in
    let whole = λ (times : List ℕ) (ran : time_run set key line.time line.words ≡ times).
    ap (after_times (without_end tally)) (times-line set key line lines ∙ ap (λ ts. ts ++ times_run set lines key) ran) in
    elim (kind-of set key line.time line.words) [
      | Quiet is ran freed ↦ rest tally [] (is tally) ran ∙ sym (whole [] ran)
      | Running is ran freed ↦ rest _ (line.time ∷ []) (is tally) ran ∙ sym (whole (line.time ∷ []) ran)
      | Ending slots is ran freed ↦ rest _ [] (is tally) ran ∙ sym (whole [] ran)
    ]

or-none : {X : Type 0} (o : Option X) → option_or o None ≡ o
or-none None = refl
or-none (Some x) = refl

or-some : {X : Type 0} (o p : Option X) (x : X) → option_or (option_or o (Some x)) p ≡ option_or o (Some x)
or-some None p x = refl
or-some (Some y) p x = refl

-- the end is the first of the ends
pub told-ends : (set : TaskSet) (key : Key) (tally : Tally) (lines : List TraceLine) → (told_from key tally (deeds_of set lines)).ended ≡ option_or tally.ended (slice_get (ends_of set lines key) 0)
told-ends set key tally [] = sym (or-none tally.ended)
told-ends set key tally (line ∷ lines) =
    let rest = λ (after : Tally) (is : after_words set key tally line.time line.words ≡ after).
    ap (λ t. t.ended) (told-line set key tally line lines)
    ∙ ap (λ t. (told_from key t (deeds_of set lines)).ended) is
    ∙ told-ends set key after lines in
    let whole = λ (slots : Option ℕ) (freed : frees set key line.words ≡ slots).
    ap (λ o. option_or tally.ended (slice_get (cons_option (option_map (λ slots. (line.time, slots)) o) (ends_of set lines key)) 0)) freed in
    elim (kind-of set key line.time line.words) [
      | Quiet is ran freed ↦ rest tally (is tally) ∙ sym (whole None freed)
      | Running is ran freed ↦ rest _ (is tally) ∙ sym (whole None freed)
      | Ending slots is ran freed ↦
          rest _ (is tally) ∙ or-some tally.ended (slice_get (ends_of set lines key) 0) (line.time, slots) ∙ sym (whole (Some slots) freed)
    ]

-- the first of the times
pub first-after : (tally : Tally) (times : List ℕ) → (after_times tally times).first ≡ option_or tally.first (slice_get times 0)
first-after tally [] = sym (or-none tally.first)
first-after tally (time ∷ times) =
    first-after (after_run tally time) times ∙ or-some tally.first (slice_get times 0) time

-- the last
pub last-after : (tally : Tally) (times : List ℕ) → (after_times tally times).last ≡ last_or tally.last times
last-after tally [] = refl
last-after tally (time ∷ times) = last-after (after_run tally time) times

-- What the line of an occurrence tells, step by step; and that scenes which are the same show the same.
use Rattle.std.proofs.Common.{◌≡◌, ◌≢◌, ℕ, true, false, List, [], ◌∷◌, ◌++◌, filter, Option, Some, None, refl, sym, ap, ◌∙◌, inl, inr}
use Rattle.std.specs.Prelude.{◌↔◌, Ok, Err, nat_le, ⊤}
use Rattle.std.specs.Option.{option_map_or}
use Rattle.std.specs.Str.{bytes_eq}
use Rattle.std.proofs.lemmas.Bool.{and_parts, cases_Bool}
use Rattle.std.proofs.lemmas.List.{same_from_push}
use Rattle.slot_core.specs.declared.events.Entry.{Entry}
use Rattle.slot_core.specs.declared.events.Ran.{Ran}
use Rattle.slot_core.specs.declared.events.Ran.TheVariants.{Idle as RanIdle, Key as RanKey}
use Rattle.slot_core.specs.declared.events.What.{What}
use Rattle.slot_core.specs.declared.jobs.Job.{Job}
use Rattle.slot_core.specs.declared.jobs.Key.{Key}
use Rattle.slot_core.specs.declared.tasks.TaskSet.{TaskSet}
use Rattle.slot_core.specs.Runs.Arrivals.{key_in_set, key_in_range, what_in_set}
use Rattle.slot_core.specs.Runs.Choice.{earliest}
use Rattle.slot_core.specs.Runs.Matches.{IsSameScene}
use Rattle.slot_core.specs.Runs.Scenes.{Scene}
use Rattle.slot_core.specs.Runs.Spans.{shown_of}
use Rattle.slot_core.specs.Runs.Traces.{Occurrence, arrive, slot, told_of_slot}
use Rattle.slot_core.specs.Sets.Ranges.{is_sound}
use Rattle.slot_facts.proofs.Lists.SameItems.{same-filter}
use Rattle.slot_facts.proofs.Lists.Tests.{same_tests}
use Rattle.key_texts.proofs.NameLemmas.{bytes_eq-same, same-from_bytes_eq}
use Rattle.scene_steps.specs.Steps.{scene_after}
use Rattle.scene_steps.proofs.Same.SameChoices.{earliest-same}
use Rattle.scene_steps.proofs.Same.SameSpans.{shown_of-same}
use Rattle.trace_text.specs.RunLines.{is_known, run_of_line, TellsRun}
use Rattle.trace_text.proofs.ReadRuns.{TellsRun-from_run, run-from_TellsRun}
use Rattle.trace_verify.specs.SceneLines.{line_in}
use Rattle.trace_verify.specs.Verdicts.{Checking, entry_in, in_time, same_line, told_by, told_where_ready}
use Rattle.faults.specs.declared.verify_fault.VerifyFault.{VerifyFault}
use Rattle.faults.specs.declared.verify_fault.VerifyFault.TheVariants.{Late, NoRun}

-- a text with a line feed is a line with one exactly where the text is the line
pub ended-same : (line start : List ℕ) → bytes_eq start line ≡ bytes_eq (line ++ 10 ∷ []) (start ++ 10 ∷ [])
ended-same line start =
    same_tests
    (bytes_eq start line)
    (bytes_eq (line ++ 10 ∷ []) (start ++ 10 ∷ []))
    (λ e. rw (same-from_bytes_eq start line e) (bytes_eq-same (line ++ 10 ∷ [])))
    (λ e. rw ((same_from_push line start 10 10 (same-from_bytes_eq (line ++ 10 ∷ []) (start ++ 10 ∷ []) e)).0) (bytes_eq-same start))

-- a text that does not end with a line feed is no line with one
pub not_ended : (line text : List ℕ) → ((start : List ℕ) → text ≢ start ++ 10 ∷ []) → false ≡ bytes_eq (line ++ 10 ∷ []) text
not_ended line text none =
    elim (cases_Bool (bytes_eq (line ++ 10 ∷ []) text)) [
      | inl same ↦ absurd (none line (sym (same-from_bytes_eq (line ++ 10 ∷ []) text same)))
      | inr other ↦ sym other
    ]

-- what is read of a line exactly where the line tells it is what the definition reads
pub read_as : (set : TaskSet) (line : List ℕ) (read : Option Ran) → is_sound set ≡ true → ((ran : Ran) → (read ≡ Some ran) ↔ TellsRun set line ran) → read ≡ run_of_line set line
read_as set line read sound exact = by_both read (run_of_line set line) refl refl
  where
    by_both : (o r : Option Ran) → read ≡ o → run_of_line set line ≡ r → o ≡ r
    by_both None None e f = refl
    by_both (Some ran) r e f = sym (run-from_TellsRun set line ran sound ((exact ran).0 e)) ∙ f
    by_both None (Some ran) e f =
        let told = (exact ran).1 (TellsRun-from_run set line ran f) in cc

-- a line that is read as a run tells it where it may run
pub told_by-run : (set : TaskSet) (cycle : ℕ) (scene : Scene) (n : ℕ) (line : List ℕ) (ran : Ran) → run_of_line set line ≡ Some ran → told_by set cycle scene n slot line ≡ told_where_ready set scene n ran
told_by-run set cycle scene n line ran read =
    ap (λ (o : Option Ran). option_map_or (told_where_ready set scene n) o (Err (NoRun n))) read

-- and one that is not tells none
pub told_by-none : (set : TaskSet) (cycle : ℕ) (scene : Scene) (n : ℕ) (line : List ℕ) → run_of_line set line ≡ None → told_by set cycle scene n slot line ≡ Err (NoRun n)
told_by-none set cycle scene n line read =
    ap (λ (o : Option Ran). option_map_or (told_where_ready set scene n) o (Err (NoRun n))) read

-- what ran in a slot is named in a set that knows it
pub known-in_set : (set : TaskSet) (ran : Ran) → is_known set ran ≡ true → what_in_set set (told_of_slot ran) ≡ true
known-in_set set RanIdle known = refl
known-in_set set (RanKey key) known = (and_parts (key_in_set set key) (key_in_range key) known).0

-- what is told is shown the same with the spans of a scene that is the same as the one after it
shown-same : (set : TaskSet) (cycle time n : ℕ) (what : What) (line : List ℕ) (scene after : Scene) → time ≡ scene.time → IsSameScene after (scene_after set cycle what scene) → same_line set (record { time = time; what = what; shown = shown_of cycle after }) n line ≡ same_line set (entry_in cycle scene what (scene_after set cycle what scene)) n line
shown-same set cycle time n what line scene after now same =
    ap (λ (e : Entry). same_line set e n line) (λ i. record { time = now i; what = what; shown = shown_of-same cycle after (scene_after set cycle what scene) same i })

-- in scenes that are the same the same job is late, or none
pub in_time-same : (a b : Scene) (n : ℕ) (next : Occurrence) → IsSameScene a b → in_time a n next ≡ in_time b n next
in_time-same a b n (arrive row event) same = refl
in_time-same a b n slot same =
    let late : Key → Checking ⊤ = λ key. Err (Late n key) in
    let past = λ (t : ℕ) (j : Job). nat_le j.dl t in
    earliest-same late (Ok tt) (filter (past a.time) a.jobs) (filter (past a.time) b.jobs) (same-filter (past a.time) a.jobs b.jobs same.jobs)
    ∙ ap (λ t. option_map_or (λ (j : Job). late j.key) (earliest (filter (past t) b.jobs)) (Ok tt)) same.time

-- a line tells nothing where it does not say what happened
pub line_in-untold : (set : TaskSet) (cycle : ℕ) (scene : Scene) (n : ℕ) (next : Occurrence) (line : List ℕ) (fault : VerifyFault) → told_by set cycle scene n next line ≡ Err fault → line_in set cycle scene n next line ≡ Err fault
line_in-untold set cycle scene n next line fault untold = rw untold refl

-- where a line tells what happened in a scene, and a scene is the same as that after it
module _ (set : TaskSet) (cycle : ℕ) (scene : Scene) (n : ℕ) (next : Occurrence) (line : List ℕ) (what : What) (time : ℕ) (after : Scene) (told : told_by set cycle scene n next line ≡ Ok what) (now : time ≡ scene.time) (same : IsSameScene after (scene_after set cycle what scene)) where
  -- the fault is that it is not the line of that
  pub line_in-differs : (fault : VerifyFault) → same_line set (record { time = time; what = what; shown = shown_of cycle after }) n line ≡ Err fault → line_in set cycle scene n next line ≡ Err fault
  line_in-differs fault differs =
      rw (told, sym (shown-same set cycle time n what line scene after now same) ∙ differs) refl

  -- or that a job is late
  pub line_in-late : (fault : VerifyFault) → same_line set (record { time = time; what = what; shown = shown_of cycle after }) n line ≡ Ok tt → in_time after n next ≡ Err fault → line_in set cycle scene n next line ≡ Err fault
  line_in-late fault is late =
      rw (told, sym (shown-same set cycle time n what line scene after now same) ∙ is, sym (in_time-same after (scene_after set cycle what scene) n next same) ∙ late) refl

  -- and else there is none
  pub line_in-told : same_line set (record { time = time; what = what; shown = shown_of cycle after }) n line ≡ Ok tt → in_time after n next ≡ Ok tt → line_in set cycle scene n next line ≡ Ok what
  line_in-told is timely =
      rw (told, sym (shown-same set cycle time n what line scene after now same) ∙ is, sym (in_time-same after (scene_after set cycle what scene) n next same) ∙ timely) refl

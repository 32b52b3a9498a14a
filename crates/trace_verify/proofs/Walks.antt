-- A walk along the lines of a trace: the lines so far tell a lawful history, and what is left of the verdict is that of
-- the lines to come.
use Rattle.std.proofs.Common.{◌≡◌, ℕ, ◌+◌, ◌-◌, ◌/◌, ◌<◌, ◌≤◌, Bool, true, false, cond, ◌==◌, List, [], ◌∷◌, length, Option, Some, None, Ok, Err, refl, sym, ap, ◌∙◌, subst, inl, inr, arith}
use Rattle.std.specs.Prelude.{All, ⊤}
use Rattle.std.proofs.lemmas.Bool.{and_from, eqb-true, eqb-false}
use Rattle.std.proofs.lemmas.List.Elements.{All-from_recursion}
use Rattle.slot_core.specs.declared.TheConstants.{ARRIVAL_LIMIT, REPLAY_LIMIT}
use Rattle.slot_core.specs.declared.jobs.Job.{Job}
use Rattle.slot_core.specs.declared.tasks.TaskSet.{TaskSet}
use Rattle.slot_core.specs.declared.events.Arrival.{Arrival}
use Rattle.slot_core.specs.declared.events.Ran.TheVariants.{Idle as RanIdle}
use Rattle.slot_core.specs.declared.events.What.{What}
use Rattle.slot_core.specs.declared.events.What.TheVariants.{Start}
use Rattle.slot_core.specs.Runs.ShownSpans.{ShownSpans}
use Rattle.slot_core.specs.Calls.Results.{◌>>=◌}
use Rattle.slot_core.specs.Claims.Lawful.{MayTell, IsLawful}
use Rattle.slot_core.specs.Feasibility.Feasible.{IsFeasible}
use Rattle.slot_core.specs.Offline.Keys.{row_of}
use Rattle.slot_core.specs.Runs.Arrivals.{are_fitting, event_may_come, event_names_known}
use Rattle.slot_core.specs.Runs.Histories.{History, time_of, last_row}
use Rattle.slot_core.specs.Runs.Matches.{IsSameScene}
use Rattle.slot_core.specs.Runs.Scenes.{Scene, guaranteed_in, remaining, scene_of}
use Rattle.slot_core.specs.Runs.Traces.{Occurrence, arrive, slot, occurrences_of, started, MayCome}
use Rattle.slot_core.specs.Sets.Cycles.{cycle_of}
use Rattle.slot_core.specs.Sets.Ranges.{is_sound}
use Rattle.slot_facts.proofs.Histories.Unended.{unended_own}
use Rattle.slot_facts.proofs.Lawful.Data.{lawful-as_data}
use Rattle.slot_facts.proofs.Lawful.Traces.{lawful-longer}
use Rattle.slot_facts.proofs.Legal.Data.{Slots, Entries}
use Rattle.slot_facts.proofs.Legal.Jobs.{guaranteed-cases, offline-key}
use Rattle.slot_facts.proofs.Legal.Traces.{MayHaveRow-above, row_past, BeginsWith-from}
use Rattle.slot_facts.proofs.Lists.Members.{Has, AllByRecursion-from_Has}
use Rattle.slot_facts.proofs.Replays.Entries.{AreLeft, AreLeft-row, AreLeft-start, AreLeft-arrival, AreLeft-ran, occurrences_left, occurrences_left-arrival, occurrences_left-ran, time_of-arrival, time_of-ran}
use Rattle.slot_facts.proofs.Replays.Following.{NoneIsDue, occurrences_from}
use Rattle.scene_steps.specs.Steps.{first_scene, scene_after}
use Rattle.scene_steps.proofs.Facts.ProperScenes.{all-same_items}
use Rattle.scene_steps.proofs.Same.FirstScene.{first_scene-empty}
use Rattle.scene_steps.proofs.Same.SameScenes.{same_scene-trans}
use Rattle.scene_steps.proofs.Same.SameSpans.{shown_of-same}
use Rattle.trace_verify.specs.Checked.{IsChecked}
use Rattle.trace_verify.specs.SceneLines.{line_in, line_and_rest, first_line_in, next_of, IsNext, IsCheckedAfter, first_due}
use Rattle.trace_verify.specs.Verdicts.{Checking, needed_line, same_line, line_told, lines_told, last_line, first_line}
use Rattle.trace_verify.proofs.CheckedScenes.{checked-lawful, checked-after, follows-tells}
use Rattle.trace_verify.proofs.SameVerdicts.{line_told-same}
use Rattle.trace_verify.proofs.ToldLines.{passed, told-may}
use Rattle.faults.specs.declared.verify_fault.VerifyFault.{VerifyFault}
use Rattle.slot_facts.proofs.Legal.Kept.{no_row}

-- a row above the last one is above those of the remaining jobs
rows-past : {S : Slots} (set : TaskSet) (h : History) (a : Scene) (row : ℕ) → is_sound set ≡ true → Entries S set (cycle_of set) h → IsSameScene a (scene_of set (cycle_of set) h) → last_row h < row → All (λ (j : Job). row_of j.key < row) a.jobs
rows-past set h a row sound told same above =
    let jobs = remaining set (cycle_of set) h in
    let below = λ (j : Job). row_of j.key < row in
    all-same_items below a.jobs jobs same.jobs (All-from_recursion below jobs (AllByRecursion-from_Has below jobs each))
  where
    each : (job : Job) → Has (remaining set (cycle_of set) h) job → row_of job.key < row
    each job at =
        let cycles = time_of h / cycle_of set + 3 in
        let own = unended_own h (guaranteed_in set (cycle_of set) cycles h) job at in
        let key : job.key ≡ own.0.key = ap (λ (j : Job). j.key) own.1.same in
        elim (guaranteed-cases set cycles h own.0 sound told own.1.listed) [
          | inl planned ↦ omega (arith, ap row_of key, no_row own.0.key (offline-key set (cycle_of set) cycles own.0 planned), above)
          | inr come ↦ omega (arith, ap row_of key, come.row_at_most, above)
        ]

-- what happens next after a history with these arrivals left, and what is left after it, whatever is told of it
record HappensNext (set : TaskSet) (slots : ℕ) (h : History) (arrivals : List Arrival) (due : Option Arrival) (later : List Arrival) : Type 0 where
  may : MayCome set h (next_of due)
  few : row_past (next_of due) (last_row h) ≤ ARRIVAL_LIMIT
  fits : (jobs : List Job) → ((row : ℕ) → last_row h < row → All (λ (j : Job). row_of j.key < row) jobs) → IsNext set due jobs
  time : ℕ
  happens : occurrences_left slots h arrivals ≡ next_of due ∷ occurrences_from later time (slots - time)
  passes : (what : What) → MayTell set (cycle_of set) h (next_of due) what → time_of (what ∷ h) ≡ time
  left : (what : What) → MayTell set (cycle_of set) h (next_of due) what → AreLeft set slots (what ∷ h) later
  early : time ≤ slots
  count : time + length arrivals ≡ time_of h + 1 + length later

-- an arrival that is due
next-arrival : (set : TaskSet) (slots : ℕ) (h : History) (a : Arrival) (arrivals : List Arrival) → AreLeft set slots h (a ∷ arrivals) → time_of h < slots → a.slot ≡ time_of h → HappensNext set slots h (a ∷ arrivals) (Some a) arrivals
next-arrival set slots h a arrivals left early due =
    let cycle = cycle_of set in
    let next = arrive a.row a.event in
    let f = BeginsWith-from set slots left.row (time_of h) a arrivals left.follow in
    let stays = time_of-arrival set cycle h a.row a.event in
    record {
      may = (MayHaveRow-above (last_row h) a.row a.event (omega (arith, left.above, f.row_is)), f.may);
      few = omega (arith, f.row_is, left.few);
      fits = λ jobs above. (and_from (event_may_come set a.event) (event_names_known set a.event) f.may f.named, above a.row (omega (arith, left.above, f.row_is)));
      time = time_of h;
      happens = occurrences_left-arrival set cycle slots h a arrivals due early ∙ ap (λ t. next ∷ occurrences_from arrivals t (slots - t)) stays;
      passes = λ what tells. ap (λ w. time_of (w ∷ h)) tells ∙ stays;
      left = λ what tells. subst (λ w. AreLeft set slots (w ∷ h) arrivals) (sym tells) (AreLeft-arrival set cycle slots h a arrivals due left);
      early = omega (arith, early);
      count = omega arith;
    }

-- a slot, where none is due
next-slot : (set : TaskSet) (slots : ℕ) (h : History) (arrivals : List Arrival) → AreLeft set slots h arrivals → time_of h < slots → NoneIsDue (time_of h) arrivals → HappensNext set slots h arrivals None arrivals
next-slot set slots h arrivals left early none =
    record {
      may = tt;
      few = AreLeft-row set slots h arrivals left;
      fits = λ jobs above. tt;
      time = time_of h + 1;
      happens = occurrences_left-ran set slots RanIdle h arrivals none left early ∙ ap (λ t. slot ∷ occurrences_from arrivals t (slots - t)) (omega (arith, time_of-ran RanIdle h));
      passes = λ what tells. omega (arith, ap (λ w. time_of (w ∷ h)) tells.1, time_of-ran tells.0 h);
      left = λ what tells. subst (λ w. AreLeft set slots (w ∷ h) arrivals) (sym tells.1) (AreLeft-ran set slots tells.0 h arrivals none left);
      early = omega (arith, early);
      count = omega arith;
    }

-- an arrival and others, split where it is due
abbrev split_by : Bool → Arrival → List Arrival → Option Arrival × List Arrival
split_by due a arrivals = cond due (Some a, arrivals) (None, a ∷ arrivals)

-- so the first arrival that is left happens next where it is due, and else a slot
next-first : (set : TaskSet) (slots : ℕ) (h : History) (arrivals : List Arrival) → AreLeft set slots h arrivals → time_of h < slots → HappensNext set slots h arrivals (first_due (time_of h) arrivals).0 (first_due (time_of h) arrivals).1
next-first set slots h [] left early = next-slot set slots h [] left early tt
next-first set slots h (a ∷ arrivals) left early = by_test (a.slot == time_of h) refl
  where
    by_test : (b : Bool) → (a.slot == time_of h) ≡ b → HappensNext set slots h (a ∷ arrivals) (split_by b a arrivals).0 (split_by b a arrivals).1
    by_test true on = next-arrival set slots h a arrivals left early (eqb-true a.slot (time_of h) on)
    by_test false on =
        next-slot set slots h (a ∷ arrivals) left early (λ due. absurd (eqb-false a.slot (time_of h) on due))

-- the lines so far tell a lawful history with this scene; these arrivals are left, line n is the next, and what it and
-- the later ones tell is the whole verdict
pub record IsWalking (set : TaskSet) (slots : ℕ) (scene : Scene) (arrivals : List Arrival) (n : ℕ) (text : List ℕ) (whole : Checking ⊤) : Type 0 where
  pub h : History
  pub lawful : IsLawful set (cycle_of set) h
  pub same : IsSameScene scene (scene_of set (cycle_of set) h)
  pub left : AreLeft set slots h arrivals
  pub early : time_of h ≤ slots
  pub few : n + length arrivals ≤ time_of h + ARRIVAL_LIMIT + 2
  pub verdict : whole ≡ lines_told set (cycle_of set) slots h n (occurrences_left slots h arrivals) text

-- what a line tells, with the text after it
abbrev with_rest : List ℕ → What → Checking (What × List ℕ)
with_rest rest what = Ok (what, rest)

-- which are one where what is told and the text are
same_told : (rest left : List ℕ) (what own : What) → with_rest rest what ≡ Ok (own, left) → what ≡ own
same_told rest left what own same =
    let pair : ◌≡◌ {A = What × List ℕ} (what, rest) (own, left) = cc in
    ap (λ (p : What × List ℕ). p.0) pair

-- the lines from the next on tell what the line in a scene tells that is told so, and then the later ones
lines-step : (set : TaskSet) (cycle slots : ℕ) (h : History) (a : Scene) (n : ℕ) (next : Occurrence) (later : List Occurrence) (text : List ℕ) → ((line : List ℕ) → line_in set cycle a n next line ≡ line_told set cycle (scene_of set cycle h) (λ w. scene_of set cycle (w ∷ h)) n next line) → lines_told set cycle slots h n (next ∷ later) text ≡ (line_and_rest set cycle a n next text >>= λ p. lines_told set cycle slots (p.0 ∷ h) (n + 1) later p.1)
lines-step set cycle slots h a n next later text same = by_parts (needed_line n text)
  where
    by_what : (rest : List ℕ) (what : Checking What) → (what >>= λ w. lines_told set cycle slots (w ∷ h) (n + 1) later rest) ≡ ((what >>= with_rest rest) >>= λ p. lines_told set cycle slots (p.0 ∷ h) (n + 1) later p.1)
    by_what rest (Ok w) = refl
    by_what rest (Err e) = refl

    by_parts : (parts : Checking (List ℕ × List ℕ)) → (parts >>= λ ps. line_told set cycle (scene_of set cycle h) (λ w. scene_of set cycle (w ∷ h)) n next ps.0 >>= λ w. lines_told set cycle slots (w ∷ h) (n + 1) later ps.1) ≡ ((parts >>= λ ps. line_in set cycle a n next ps.0 >>= with_rest ps.1) >>= λ p. lines_told set cycle slots (p.0 ∷ h) (n + 1) later p.1)
    by_parts (Ok ps) =
        by_what ps.1 (line_told set cycle (scene_of set cycle h) (λ w. scene_of set cycle (w ∷ h)) n next ps.0) ∙ ap (λ (o : Checking What). (o >>= with_rest ps.1) >>= λ p. lines_told set cycle slots (p.0 ∷ h) (n + 1) later p.1) (sym (same ps.0))
    by_parts (Err e) = refl

module _ (set : TaskSet) (slots : ℕ) (scene : Scene) (arrivals : List Arrival) (n : ℕ) (text : List ℕ) (whole : Checking ⊤) (sound : is_sound set ≡ true) (feasible : IsFeasible set (cycle_of set)) (limit : slots ≤ REPLAY_LIMIT) (walking : IsWalking set slots scene arrivals n text whole) where
  -- the scene is checked
  pub walking-checked : IsChecked set (cycle_of set) scene
  walking-checked =
      checked-lawful set walking.h scene sound feasible walking.lawful walking.same (omega (arith, walking.early, limit)) (AreLeft-row set slots walking.h arrivals walking.left)

  -- after the last slot the last line is left
  pub walking-over : slots ≤ scene.time → whole ≡ last_line set slots n text
  walking-over over =
      let none : slots - time_of walking.h ≡ 0 = omega (arith, walking.same.time, over) in
      walking.verdict ∙ ap (λ k. lines_told set (cycle_of set) slots walking.h n (occurrences_from arrivals (time_of walking.h) k) text) none

module _ (set : TaskSet) (slots : ℕ) (scene : Scene) (arrivals : List Arrival) (n : ℕ) (text : List ℕ) (whole : Checking ⊤) (sound : is_sound set ≡ true) (feasible : IsFeasible set (cycle_of set)) (limit : slots ≤ REPLAY_LIMIT) (walking : IsWalking set slots scene arrivals n text whole) (on : scene.time < slots) (due : Option Arrival) (later : List Arrival) (is : (due, later) ≡ first_due scene.time arrivals) where
  -- what happens next
  next : HappensNext set slots walking.h arrivals due later
  next =
      let now = walking.same.time in
      let first = next-first set slots walking.h arrivals walking.left (omega (arith, now, on)) in
      let own = is ∙ ap (λ t. first_due t arrivals) now in
      subst (λ (p : Option Arrival × List Arrival). HappensNext set slots walking.h arrivals p.0 p.1) (sym own) first

  -- it may come next
  pub walking-next : IsNext set due scene.jobs
  walking-next =
      next.fits scene.jobs (λ row above. rows-past set walking.h scene row sound (lawful-as_data set (cycle_of set) walking.h walking.lawful) walking.same above)

  -- and the scene after it is checked
  pub walking-after : IsCheckedAfter set (cycle_of set) scene (next_of due)
  walking-after =
      checked-after set walking.h scene sound feasible walking.lawful walking.same (next_of due) next.may (omega (arith, walking.same.time, on, limit)) next.few

  -- the verdict is that of the next line and the later ones
  verdict-step : whole ≡ (line_and_rest set (cycle_of set) scene n (next_of due) text >>= λ p. lines_told set (cycle_of set) slots (p.0 ∷ walking.h) (n + 1) (occurrences_from later next.time (slots - next.time)) p.1)
  verdict-step =
      let cycle = cycle_of set in
      walking.verdict
      ∙ ap (λ os. lines_told set cycle slots walking.h n os text) next.happens
      ∙ lines-step set cycle slots walking.h scene n (next_of due) (occurrences_from later next.time (slots - next.time)) text (λ line. line_told-same set walking.h scene sound feasible walking.lawful walking.same n (next_of due) line next.may)

  -- where the line has a fault, that is the verdict
  pub walking-stopped : (e : VerifyFault) → line_and_rest set (cycle_of set) scene n (next_of due) text ≡ Err e → whole ≡ Err e
  walking-stopped e stops =
      verdict-step ∙ ap (λ (o : Checking (What × List ℕ)). o >>= λ p. lines_told set (cycle_of set) slots (p.0 ∷ walking.h) (n + 1) (occurrences_from later next.time (slots - next.time)) p.1) stops

  -- what it tells else may be told
  line-may : (what : What) (rest : List ℕ) → line_and_rest set (cycle_of set) scene n (next_of due) text ≡ Ok (what, rest) → MayTell set (cycle_of set) walking.h (next_of due) what
  line-may what rest passes =
      let cycle = cycle_of set in
      let parts = passed (needed_line n text) (λ ps. line_in set cycle scene n (next_of due) ps.0 >>= with_rest ps.1) (what, rest) passes in
      let line = parts.0.0 in
      let told = passed (line_in set cycle scene n (next_of due) line) (with_rest parts.0.1) (what, rest) parts.2 in
      let same = line_told-same set walking.h scene sound feasible walking.lawful walking.same n (next_of due) line next.may in
      let is = same_told parts.0.1 rest told.0 what told.2 in
      told-may set cycle walking.h n (next_of due) line what (sym same ∙ (told.1 ∙ ap (λ (w : What). Ok w) is))

  -- then the scene after it is that of the longer history
  same-after : (after : Scene) (what : What) (rest : List ℕ) → line_and_rest set (cycle_of set) scene n (next_of due) text ≡ Ok (what, rest) → IsSameScene after (scene_after set (cycle_of set) what scene) → IsSameScene after (scene_of set (cycle_of set) (what ∷ walking.h))
  same-after after what rest passes follows =
      same_scene-trans after _ (scene_of set (cycle_of set) (what ∷ walking.h)) follows (follows-tells set walking.h scene sound feasible walking.lawful walking.same (next_of due) what next.may (line-may what rest passes))

  -- and the walk goes on after the line
  pub walking-passed : (after : Scene) (what : What) (rest : List ℕ) → line_and_rest set (cycle_of set) scene n (next_of due) text ≡ Ok (what, rest) → IsSameScene after (scene_after set (cycle_of set) what scene) → IsWalking set slots after later (n + 1) rest whole
  walking-passed after what rest passes follows =
      let cycle = cycle_of set in
      let h = walking.h in
      let tells = line-may what rest passes in
      let now = next.passes what tells in
      record {
        h = what ∷ h;
        lawful = lawful-longer set cycle h what walking.lawful (next_of due, next.may, tells);
        same = same-after after what rest passes follows;
        left = next.left what tells;
        early = omega (arith, now, next.early);
        few = omega (arith, now, next.count, walking.few);
        verdict = verdict-step ∙ (ap (λ (o : Checking (What × List ℕ)). o >>= λ p. lines_told set cycle slots (p.0 ∷ h) (n + 1) (occurrences_from later next.time (slots - next.time)) p.1) passes ∙ ap (λ t. lines_told set cycle slots (what ∷ h) (n + 1) (occurrences_from later t (slots - t)) rest) (sym now));
      }

  -- with fewer slots and arrivals to come
  pub walking-falls : (after : Scene) (what : What) (rest : List ℕ) → line_and_rest set (cycle_of set) scene n (next_of due) text ≡ Ok (what, rest) → IsSameScene after (scene_after set (cycle_of set) what scene) → (slots - after.time) + length later < (slots - scene.time) + length arrivals
  walking-falls after what rest passes follows =
      let now = next.passes what (line-may what rest passes) in
      let later_is = (same-after after what rest passes follows).time in
      omega (arith, later_is, walking.same.time, now, next.count, next.early, on)

-- before line 2 all of the arrivals are left
pub walking-started : (set : TaskSet) (slots : ℕ) (scene : Scene) (arrivals : List Arrival) (text : List ℕ) (whole : Checking ⊤) → is_sound set ≡ true → are_fitting set slots arrivals ≡ true → IsSameScene scene (first_scene set (cycle_of set)) → whole ≡ lines_told set (cycle_of set) slots started 2 (occurrences_of arrivals slots) text → IsWalking set slots scene arrivals 2 text whole
walking-started set slots scene arrivals text whole sound fits same verdict =
    let cycle = cycle_of set in
    let left = AreLeft-start set slots arrivals fits in
    let all : slots ≡ slots - 0 = omega arith in
    record {
      h = started;
      lawful = tt;
      same = same_scene-trans scene (first_scene set cycle) (scene_of set cycle started) same (first_scene-empty set sound);
      left = left;
      early = omega arith;
      few = omega (arith, left.few, left.above);
      verdict = verdict ∙ ap (λ k. lines_told set cycle slots started 2 (occurrences_from arrivals 0 k) text) all;
    }

-- the first line tells the same in the first scene
pub first_line-same : (set : TaskSet) (scene : Scene) (text : List ℕ) → is_sound set ≡ true → IsSameScene scene (first_scene set (cycle_of set)) → first_line_in set (cycle_of set) scene text ≡ first_line set (cycle_of set) text
first_line-same set scene text sound same =
    let cycle = cycle_of set in
    let own = same_scene-trans scene (first_scene set cycle) (scene_of set cycle started) same (first_scene-empty set sound) in
    ap (λ (s : ShownSpans). needed_line 1 text >>= λ parts. same_line set (record { time = 0; what = Start; shown = s }) 1 parts.0 >>= λ same. Ok parts.1) (shown_of-same cycle scene (scene_of set cycle started) own)

-- and this scene is checked
pub first-checked : (set : TaskSet) (scene : Scene) → is_sound set ≡ true → IsFeasible set (cycle_of set) → IsSameScene scene (first_scene set (cycle_of set)) → IsChecked set (cycle_of set) scene
first-checked set scene sound feasible same =
    let cycle = cycle_of set in
    let own = same_scene-trans scene (first_scene set cycle) (scene_of set cycle started) same (first_scene-empty set sound) in
    checked-lawful set started scene sound feasible tt own (omega arith) (omega arith)

-- On the text of a lawful trace the verdict is Ok.
use Rattle.std.proofs.Common.{◌≡◌, ℕ, ◌+◌, ◌≤◌, ◌^◌, Bool, true, cond, List, [], ◌∷◌, ◌++◌, Option, Some, None, Result, Ok, Err, refl, sym, ap, ◌∙◌, subst, arith}
use Rattle.std.specs.Prelude.{⊤, filter, nat_le, nat_lt}
use Rattle.std.specs.Option.{option_map_or}
use Rattle.std.proofs.lemmas.Bool.{and_parts, and_from, leb-true, ltb-true}
use Rattle.slot_core.specs.declared.TheConstants.{ARRIVAL_LIMIT, NUMBER_LIMIT, REPLAY_LIMIT}
use Rattle.slot_core.specs.declared.jobs.Job.{Job}
use Rattle.slot_core.specs.declared.jobs.Key.{Key}
use Rattle.slot_core.specs.declared.tasks.TaskSet.{TaskSet}
use Rattle.slot_core.specs.declared.events.Arrival.{Arrival}
use Rattle.slot_core.specs.declared.events.Entry.{Entry}
use Rattle.slot_core.specs.declared.events.Event.{Event}
use Rattle.slot_core.specs.declared.events.Event.TheVariants.{Soft, Firm, Sporadic, Done, Withdraw}
use Rattle.slot_core.specs.declared.events.Ran.{Ran}
use Rattle.slot_core.specs.declared.events.Ran.TheVariants.{Idle as RanIdle, Key as RanKey}
use Rattle.slot_core.specs.declared.events.What.{What}
use Rattle.slot_core.specs.declared.events.What.TheVariants.{Start, Run}
use Rattle.slot_core.specs.Calls.Results.{◌>>=◌}
use Rattle.slot_core.specs.Claims.Lawful.{may_run, is_in_time, MayTell, IsLawful, AreLawful}
use Rattle.slot_core.specs.Output.Texts.{entry_line, shown_text, trace_text}
use Rattle.slot_core.specs.Runs.Answers.{answer}
use Rattle.slot_core.specs.Runs.Arrivals.{event_fits, event_may_come, event_names_known, key_in_set, key_in_range, are_fitting}
use Rattle.slot_core.specs.Runs.Choice.{earliest}
use Rattle.slot_core.specs.Runs.Histories.{History, time_of, last_row}
use Rattle.slot_core.specs.Runs.Scenes.{Scene, scene_of}
use Rattle.slot_core.specs.Runs.ShownSpans.{ShownSpans}
use Rattle.slot_core.specs.Runs.Traces.{Occurrence, arrive, slot, told_of, told_of_slot, shown_entry, occurrences_of, started, end_entry, MayCome}
use Rattle.slot_core.specs.Sets.Cycles.{cycle_of}
use Rattle.slot_core.specs.Sets.Ranges.{is_sound}
use Rattle.slot_facts.proofs.Choice.Earliest.{IsEarliest-from_earliest}
use Rattle.slot_facts.proofs.Lawful.Data.{permitted-longer, lawful-as_data}
use Rattle.slot_facts.proofs.Lawful.Traces.{lawful-longer}
use Rattle.slot_facts.proofs.Legal.RunKeys.{run-in_range}
use Rattle.slot_facts.proofs.Legal.Traces.{MayHaveRow-above, last_row-arrival, last_row-ran}
use Rattle.slot_facts.proofs.Lists.Members.{Has-filter_passes, passes_from_list_all}
use Rattle.slot_facts.proofs.Replays.Entries.{time_of-arrival, time_of-ran}
use Rattle.slot_facts.proofs.Replays.Named.{run-named}
use Rattle.key_texts.proofs.NameLemmas.{bytes_eq-same}
use Rattle.trace_text.specs.RunLines.{is_known, TellsRun}
use Rattle.trace_text.proofs.ReadRuns.{run-from_TellsRun}
use Rattle.trace_verify.specs.Laws.{IsLawfulText}
use Rattle.trace_verify.specs.Verdicts.{Checking, needed_line, told_where_ready, told_by, same_line, in_time, line_told, no_more, last_line, lines_told, first_line, verdict}
use Rattle.trace_verify.proofs.FittingOccurrences.{AllFit, all_fit}
use Rattle.trace_verify.proofs.LineFacts.{told_by-run}
use Rattle.trace_verify.proofs.OneLineFeed.{entry_text, IsKnown, needed_line-entry}
use Rattle.trace_verify.proofs.SameVerdicts.{rest_told}
use Rattle.faults.specs.declared.verify_fault.VerifyFault.TheVariants.{NotReady, Differs, Late}

-- where the first step gives a value, and the second from that, both do
both-pass : {X Y E : Type 0} (r : Result X E) (f : X → Result Y E) (x : X) (y : Y) → r ≡ Ok x → f x ≡ Ok y → (r >>= f) ≡ Ok y
both-pass r f x y first second = ap (λ o. o >>= f) first ∙ second

-- whether a line is the wanted one, as a check
abbrev same_by : ℕ → Bool → Checking ⊤
same_by n same = cond same (Ok tt) (Err (Differs n))

-- the line of an entry is that of the entry
same-entry : (set : TaskSet) (entry : Entry) (n : ℕ) → same_line set entry n (entry_text set entry) ≡ Ok tt
same-entry set entry n = ap (same_by n) (bytes_eq-same (entry_line set entry))

-- whether the job of a key may run, as a check
abbrev ready_by : ℕ → Key → Bool → Checking What
ready_by n key may = cond may (Ok (Run key)) (Err (NotReady n key))

-- what may run is told
ready-told : (set : TaskSet) (scene : Scene) (n : ℕ) (ran : Ran) → may_run set scene ran ≡ true → told_where_ready set scene n ran ≡ Ok (told_of_slot ran)
ready-told set scene n RanIdle may = refl
ready-told set scene n (RanKey key) may = ap (ready_by n key) may

-- the line of a slot tells what ran in it
tells-run : (set : TaskSet) (ran : Ran) (time : ℕ) (shown : ShownSpans) → time ≤ NUMBER_LIMIT → is_known set ran ≡ true → TellsRun set (entry_text set (record { time = time; what = told_of_slot ran; shown = shown })) ran
tells-run set RanIdle time shown small known = record { time = time; rest = 124 ∷ shown_text shown; small = small; known = known; text = refl }
tells-run set (RanKey key) time shown small known = record { time = time; rest = 124 ∷ shown_text shown; small = small; known = known; text = refl }

-- so what may run is told by its line
told_by-slot : (set : TaskSet) (cycle : ℕ) (scene : Scene) (n : ℕ) (ran : Ran) (time : ℕ) (shown : ShownSpans) → is_sound set ≡ true → time ≤ NUMBER_LIMIT → is_known set ran ≡ true → may_run set scene ran ≡ true → told_by set cycle scene n slot (entry_text set (record { time = time; what = told_of_slot ran; shown = shown })) ≡ Ok (told_of_slot ran)
told_by-slot set cycle scene n ran time shown sound small known may =
    let line = entry_text set (record { time = time; what = told_of_slot ran; shown = shown }) in
    told_by-run set cycle scene n line ran (run-from_TellsRun set line ran sound (tells-run set ran time shown small known))
    ∙ ready-told set scene n ran may

-- the job is past its deadline then
abbrev is_past : ℕ → Job → Bool
is_past time job = nat_le job.dl time

-- the first job that is late, as a check
abbrev late_by : ℕ → Option Job → Checking ⊤
late_by n late = option_map_or (λ (j : Job). Err (Late n j.key)) late (Ok tt)

-- where all jobs are in time, none is late
in_time-all : (scene : Scene) (n : ℕ) → is_in_time scene ≡ true → in_time scene n slot ≡ Ok tt
in_time-all scene n timely = by_first (earliest (filter (is_past scene.time) scene.jobs)) refl
  where
    by_first : (o : Option Job) → earliest (filter (is_past scene.time) scene.jobs) ≡ o → late_by n o ≡ Ok tt
    by_first None found = refl
    by_first (Some job) found =
        let first = IsEarliest-from_earliest (filter (is_past scene.time) scene.jobs) job found in
        let (at, past) = Has-filter_passes (is_past scene.time) scene.jobs job first.among in
        let early = passes_from_list_all (λ (j : Job). nat_lt scene.time j.dl) scene.jobs job timely at in
        absurd (omega (arith, leb-true job.dl scene.time past, ltb-true scene.time job.dl early))

-- the answer to an event that fits names what is known
known-answer : (set : TaskSet) (cycle : ℕ) (scene : Scene) (row : ℕ) (event : Event) → event_fits set event ≡ true → IsKnown set (answer set cycle scene row event)
known-answer set cycle scene row (Soft slots) fits = record { in_set = refl; in_range = refl }
known-answer set cycle scene row (Firm slots within) fits = record { in_set = refl; in_range = refl }
known-answer set cycle scene row (Sporadic index) fits =
    record { in_set = (and_parts (event_may_come set (Sporadic index)) (event_names_known set (Sporadic index)) fits).0; in_range = refl }
known-answer set cycle scene row (Done key) fits =
    let names = (and_parts (event_may_come set (Done key)) (event_names_known set (Done key)) fits).1 in
    let both = and_parts (key_in_set set key) (key_in_range key) names in
    record { in_set = both.0; in_range = both.1 }
known-answer set cycle scene row (Withdraw firm) fits = record { in_set = refl; in_range = refl }

-- what runs in a lawful history is known to the set
known-ran : (set : TaskSet) (h : History) (ran : Ran) → is_sound set ≡ true → IsLawful set (cycle_of set) h → may_run set (scene_of set (cycle_of set) h) ran ≡ true → time_of h ≤ 2 ^ 31 → last_row h ≤ ARRIVAL_LIMIT → is_known set ran ≡ true
known-ran set h RanIdle sound lawful may early few = refl
known-ran set h (RanKey key) sound lawful may early few =
    let longer = permitted-longer set (cycle_of set) h (RanKey key) (lawful-as_data set (cycle_of set) h lawful) may in
    and_from (key_in_set set key) (key_in_range key) (run-named longer) (run-in_range sound early few longer)

-- so is what is told of it
known-told : (set : TaskSet) (ran : Ran) → is_known set ran ≡ true → IsKnown set (told_of_slot ran)
known-told set RanIdle known = record { in_set = refl; in_range = refl }
known-told set (RanKey key) known =
    let both = and_parts (key_in_set set key) (key_in_range key) known in
    record { in_set = both.0; in_range = both.1 }

-- what is told of what happens next passes, and what happens later fits after it
record IsPassed (set : TaskSet) (n : ℕ) (h : History) (next : Occurrence) (later : List Occurrence) (what : What) : Type 0 where
  come : MayCome set h next
  known : IsKnown set what
  tells : (number : ℕ) → told_by set (cycle_of set) (scene_of set (cycle_of set) h) number next (entry_text set (shown_entry set (cycle_of set) (time_of h) what (what ∷ h))) ≡ Ok what
  timely : (number : ℕ) → in_time (scene_of set (cycle_of set) (what ∷ h)) number next ≡ Ok tt
  few : last_row (what ∷ h) ≤ ARRIVAL_LIMIT
  fits : AllFit set n (last_row (what ∷ h)) (time_of (what ∷ h)) later

module _ (set : TaskSet) (n : ℕ) (sound : is_sound set ≡ true) (small : n ≤ REPLAY_LIMIT) where
  -- an arrival
  passed-arrival : (h : History) (row : ℕ) (event : Event) (later : List Occurrence) → AllFit set n (last_row h) (time_of h) (arrive row event ∷ later) → IsPassed set n h (arrive row event) later (told_of set (cycle_of set) h (arrive row event))
  passed-arrival h row event later (above, few, fits, rest) =
      let cycle = cycle_of set in
      let last = last_row-arrival set cycle h row event in
      record {
        come = (MayHaveRow-above (last_row h) row event above, (and_parts (event_may_come set event) (event_names_known set event) fits).0);
        known = known-answer set cycle (scene_of set cycle h) row event fits;
        tells = λ number. refl;
        timely = λ number. refl;
        few = omega (arith, last, few);
        fits = subst (λ r. AllFit set n r (time_of (told_of set cycle h (arrive row event) ∷ h)) later) (sym last) (subst (λ t. AllFit set n row t later) (sym (time_of-arrival set cycle h row event)) rest);
      }

  -- a slot
  passed-slot : (h : History) (ran : Ran) (later : List Occurrence) → IsLawful set (cycle_of set) h → last_row h ≤ ARRIVAL_LIMIT → AllFit set n (last_row h) (time_of h) (slot ∷ later) → may_run set (scene_of set (cycle_of set) h) ran ≡ true → is_in_time (scene_of set (cycle_of set) (told_of_slot ran ∷ h)) ≡ true → IsPassed set n h slot later (told_of_slot ran)
  passed-slot h ran later lawful few (early, rest) may timely =
      let cycle = cycle_of set in
      let known = known-ran set h ran sound lawful may (omega (arith, early, small)) few in
      let last = last_row-ran ran h in
      let time : time_of h + 1 ≡ time_of (told_of_slot ran ∷ h) = omega (arith, time_of-ran ran h) in
      let after = scene_of set cycle (told_of_slot ran ∷ h) in
      record {
        come = tt;
        known = known-told set ran known;
        tells = λ number. told_by-slot set cycle (scene_of set cycle h) number ran (time_of h) (shown_entry set cycle (time_of h) (told_of_slot ran) (told_of_slot ran ∷ h)).shown sound (omega (arith, early, small)) known may;
        timely = λ number. in_time-all after number timely;
        few = omega (arith, last, few);
        fits = subst (λ r. AllFit set n r (time_of (told_of_slot ran ∷ h)) later) (sym last) (subst (λ t. AllFit set n (last_row h) t later) time rest);
      }

  -- so what may be told passes
  passed-next : (h : History) (next : Occurrence) (later : List Occurrence) (what : What) → IsLawful set (cycle_of set) h → last_row h ≤ ARRIVAL_LIMIT → AllFit set n (last_row h) (time_of h) (next ∷ later) → MayTell set (cycle_of set) h next what → IsPassed set n h next later what
  passed-next h (arrive row event) later what lawful few fits is =
      subst (IsPassed set n h (arrive row event) later) (sym is) (passed-arrival h row event later fits)
  passed-next h slot later what lawful few fits (ran, is, may, timely) =
      let own = subst (λ w. is_in_time (scene_of set (cycle_of set) (w ∷ h)) ≡ true) is timely in
      subst (IsPassed set n h slot later) (sym is) (passed-slot h ran later lawful few fits may own)

  -- its line tells it
  line_told-passed : (h : History) (number : ℕ) (next : Occurrence) (later : List Occurrence) (what : What) → IsPassed set n h next later what → line_told set (cycle_of set) (scene_of set (cycle_of set) h) (λ w. scene_of set (cycle_of set) (w ∷ h)) number next (entry_text set (shown_entry set (cycle_of set) (time_of h) what (what ∷ h))) ≡ Ok what
  line_told-passed h number next later what p =
      let cycle = cycle_of set in
      let scene = scene_of set cycle h in
      let after = scene_of set cycle (what ∷ h) in
      let entry = shown_entry set cycle (time_of h) what (what ∷ h) in
      let line = entry_text set entry in
      let timely = both-pass (in_time after number next) (λ t. Ok what) tt what (p.timely number) refl in
      let same = both-pass (same_line set entry number line) (λ s. in_time after number next >>= λ t. Ok what) tt what (same-entry set entry number) timely in
      both-pass (told_by set cycle scene number next line) (λ w. rest_told set cycle scene (scene_of set cycle (w ∷ h)) number next line w) what what (p.tells number) same

  -- the line of the end is the last
  last_line-end : (number : ℕ) → last_line set n number (entry_line set (end_entry n) ++ []) ≡ Ok tt
  last_line-end number =
      let ending = end_entry n in
      let line = entry_text set ending in
      let needed = needed_line-entry set ending number [] sound (record { in_set = refl; in_range = refl }) in
      let same = both-pass (same_line set ending number line) (λ s. no_more (number + 1) []) tt tt (same-entry set ending number) refl in
      both-pass (needed_line number (entry_line set ending ++ [])) (λ parts. same_line set ending number parts.0 >>= λ s. no_more (number + 1) parts.1) (line, []) tt needed same

  -- the lines of lawful entries and of the end tell what happens
  lines_told-lawful : (h : History) (number : ℕ) (next : List Occurrence) (told : List Entry) → IsLawful set (cycle_of set) h → last_row h ≤ ARRIVAL_LIMIT → AllFit set n (last_row h) (time_of h) next → AreLawful set (cycle_of set) h next told → lines_told set (cycle_of set) n h number next (trace_text set (told ++ end_entry n ∷ [])) ≡ Ok tt
  lines_told-lawful h number [] told lawful few fits are =
      subst (λ es. last_line set n number (trace_text set (es ++ end_entry n ∷ [])) ≡ Ok tt) (sym are) (last_line-end number)
  lines_told-lawful h number (next ∷ later) [] lawful few fits are = absurd are
  lines_told-lawful h number (next ∷ later) (entry ∷ told) lawful few fits (tells, shown, are) =
      let cycle = cycle_of set in
      let what = entry.what in
      let scene = scene_of set cycle h in
      let after = λ (w : What). scene_of set cycle (w ∷ h) in
      let own = shown_entry set cycle (time_of h) what (what ∷ h) in
      let rest = trace_text set (told ++ end_entry n ∷ []) in
      let p = passed-next h next later what lawful few fits tells in
      let longer = lawful-longer set cycle h what lawful (next, p.come, tells) in
      let others = lines_told-lawful (what ∷ h) (number + 1) later told longer p.few p.fits are in
      let line = both-pass (line_told set cycle scene after number next (entry_text set own)) (λ w. lines_told set cycle n (w ∷ h) (number + 1) later rest) what tt (line_told-passed h number next later what p) others in
      let whole = both-pass (needed_line number (entry_line set own ++ rest)) (λ parts. line_told set cycle scene after number next parts.0 >>= λ w. lines_told set cycle n (w ∷ h) (number + 1) later parts.1) (entry_text set own, rest) tt (needed_line-entry set own number rest sound p.known) line in
      subst (λ e. lines_told set cycle n h number (next ∷ later) (entry_line set e ++ rest) ≡ Ok tt) (sym shown) whole

  -- and the first line is that of the start
  first_line-start : (rest : List ℕ) → first_line set (cycle_of set) (entry_line set (shown_entry set (cycle_of set) 0 Start started) ++ rest) ≡ Ok rest
  first_line-start rest =
      let start = shown_entry set (cycle_of set) 0 Start started in
      let needed = needed_line-entry set start 1 rest sound (record { in_set = refl; in_range = refl }) in
      let same = both-pass (same_line set start 1 (entry_text set start)) (λ s. Ok rest) tt rest (same-entry set start 1) refl in
      both-pass (needed_line 1 (entry_line set start ++ rest)) (λ parts. same_line set start 1 parts.0 >>= λ s. Ok parts.1) (entry_text set start, rest) rest needed same

-- so on the text of a lawful trace the verdict is Ok
pub verdict-from_lawful : (set : TaskSet) (arrivals : List Arrival) (n : ℕ) (text : List ℕ) → is_sound set ≡ true → n ≤ REPLAY_LIMIT → are_fitting set n arrivals ≡ true → IsLawfulText set arrivals n text → verdict set (cycle_of set) arrivals n text ≡ Ok tt
verdict-from_lawful set arrivals n text sound small fits (entries, (told, is, are), written) =
    let cycle = cycle_of set in
    let start = shown_entry set cycle 0 Start started in
    let rest = trace_text set (told ++ end_entry n ∷ []) in
    let lines = lines_told-lawful set n sound small started 2 (occurrences_of arrivals n) told tt (omega arith) (all_fit set arrivals n fits) are in
    let whole = both-pass (first_line set cycle (entry_line set start ++ rest)) (λ later. lines_told set cycle n started 2 (occurrences_of arrivals n) later) rest tt (first_line-start set n sound small rest) lines in
    subst (λ t. verdict set cycle arrivals n t ≡ Ok tt) (sym (written ∙ ap (trace_text set) is)) whole

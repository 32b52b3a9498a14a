-- What stays of the spans that are shown, where a slot adds none and drops none.
use Rattle.std.proofs.Common.{◌≡◌, ℕ, zero, suc, ◌+◌, ◌-◌, ◌%◌, ◌==◌, ◌≤◌, ◌<◌, Bool, true, false, cond, List, [], ◌∷◌, length, take, drop, refl, ap, sym, ◌∙◌, subst, arith}
use Rattle.std.specs.Prelude.{slice_get, Some}
use Rattle.std.proofs.lemmas.Option.{get_or_from_slice_get, slice_get_within}
use Rattle.slot_core.specs.declared.TheConstants.{SHOWN_LIMIT}
use Rattle.slot_core.specs.declared.jobs.Job.{Job}
use Rattle.slot_core.specs.declared.jobs.Span.{Span}
use Rattle.slot_core.specs.declared.events.What.{What}
use Rattle.slot_core.specs.declared.tasks.Sporadic.{Sporadic}
use Rattle.slot_core.specs.Keeping.Executives.{Does, Executive, Shows, StandsFor}
use Rattle.slot_core.specs.Keeping.Plans.{IsPlan, PlanParts}
use Rattle.slot_core.specs.Runs.Histories.{History}
use Rattle.slot_core.specs.Runs.Scenes.{horizon, scene_of}
use Rattle.slot_core.specs.Runs.ShownSpans.{others_of, ShownSpans}
use Rattle.slot_core.specs.Runs.Spans.{shown_of, spans_between, spans_of}
use Rattle.slot_core.specs.Runs.Traces.{slot}
use Rattle.slot_facts.proofs.Plans.FirstSpans.{shown-first}
use Rattle.spare_capacity.specs.Recurrence.{filled, last_end}
use Rattle.spare_capacity.proofs.Filled.{filled-filled}
use Rattle.spare_capacity.proofs.Free.{rest-filled}
use Rattle.interval_row.specs.Changes.{after_pass, appended, with_work}
use Rattle.interval_row.proofs.Fillings.{length-filled}
use Rattle.scene_steps.proofs.Same.Events.{Shows-from_scene}
use Rattle.scene_steps.proofs.Spans.Executives.{pass_slot-before_end}
use Rattle.slot_exec.specs.declared.runs.Chosen.{Chosen}
use Rattle.slot_exec.specs.declared.runs.Chosen.TheVariants.{Nothing, Soft, Guaranteed}
use Rattle.slot_exec.specs.Changes.{spans_after, spans_at}
use Rattle.slot_exec.specs.declared.rooms.Remembered.{Remembered}
use Rattle.slot_exec.specs.Parts.{IsExecutive}

-- a new work changes no length
length-with_work : (f : ℕ → ℕ) (deadline : ℕ) (rows : List Span) → length (with_work f deadline rows) ≡ length rows
length-with_work f deadline [] = refl
length-with_work f deadline (s ∷ ss) =
    by_test (s.end == deadline) (length-with_work f deadline ss)
  where
    by_test : (b : Bool) → length (with_work f deadline ss) ≡ length ss → length (cond b (record s { work = f s.work } ∷ ss) (s ∷ with_work f deadline ss)) ≡ suc (length ss)
    by_test true rest = refl
    by_test false rest = ap suc rest

-- nor does a run
length-spans_after : (chosen : Chosen) (rows : List Span) → length (spans_after chosen rows) ≡ length rows
length-spans_after Nothing rows = refl
length-spans_after (Soft row) rows = refl
length-spans_after (Guaranteed job) rows =
    length-filled (with_work (λ work. work - 1) job.dl rows) ∙ length-with_work (λ work. work - 1) job.dl rows

-- after a run the spans have their capacities
filled-spans_after : (chosen : Chosen) (rows : List Span) → rows ≡ filled rows → spans_after chosen rows ≡ filled (spans_after chosen rows)
filled-spans_after Nothing rows own = own
filled-spans_after (Soft row) rows own = own
filled-spans_after (Guaranteed job) rows own = sym (filled-filled (with_work (λ work. work - 1) job.dl rows))

-- spans with the same rest have the same first others
others-rest : (n : ℕ) (x y : Span) (xs ys : List Span) → xs ≡ ys → drop 1 (take n (x ∷ xs)) ≡ drop 1 (take n (y ∷ ys))
others-rest zero x y xs ys same = refl
others-rest (suc n) x y xs ys same = ap (take n) same

-- where a slot passes and no span goes, the first others stay
others-after_pass : (n : ℕ) (rows : List Span) → rows ≡ filled rows → length (filled (after_pass rows)) ≡ length rows → drop 1 (take n (filled (after_pass rows))) ≡ drop 1 (take n rows)
others-after_pass n [] own same = refl
others-after_pass n (s ∷ ss) own same =
    by_test (s.start + 1 == s.end) same
  where
    by_test : (b : Bool) → length (filled (cond b ss (record s { start = s.start + 1 } ∷ ss))) ≡ suc (length ss) → drop 1 (take n (filled (cond b ss (record s { start = s.start + 1 } ∷ ss)))) ≡ drop 1 (take n (s ∷ ss))
    by_test true fewer = absurd (omega (arith, fewer, length-filled ss))
    by_test false many = others-rest n _ s (filled ss) ss (sym (rest-filled s ss own))

-- so where no cycle ends, with one span more of the plan or none
spans_at-turns_not : (turns : Bool) (plan later : List Span) → turns ≡ false → cond turns (appended plan later) later ≡ later
spans_at-turns_not turns plan later not = ap (λ b. cond b (appended plan later) later) not

-- a slot that adds no span and drops none keeps the first others that its run keeps
pub others-slot : (n : ℕ) (plan : PlanParts) (time : ℕ) (chosen : Chosen) (rows run_rows next_rows : List Span) → rows ≡ filled rows → run_rows ≡ spans_after chosen rows → next_rows ≡ spans_at plan time run_rows → (time % plan.cycle == 0) ≡ false → length next_rows ≡ length rows → drop 1 (take n run_rows) ≡ drop 1 (take n rows) → drop 1 (take n next_rows) ≡ drop 1 (take n rows)
others-slot n plan time chosen rows run_rows next_rows own ran passed not many stay =
    let later : next_rows ≡ filled (after_pass run_rows) = passed ∙ spans_at-turns_not (time % plan.cycle == 0) plan.spans (filled (after_pass run_rows)) not in
    let run_own : run_rows ≡ filled run_rows = ran ∙ filled-spans_after chosen rows own ∙ ap filled (sym ran) in
    let run_many : length run_rows ≡ length rows = ap length ran ∙ length-spans_after chosen rows in
    let same : length (filled (after_pass run_rows)) ≡ length run_rows = sym (ap length later) ∙ many ∙ sym run_many in
    ap (λ xs. drop 1 (take n xs)) later ∙ others-after_pass n run_rows run_own same ∙ stay

-- what is shown of the spans of a scene
pub shown-rows : (exec : Executive) (rows : List Span) → rows ≡ spans_of exec.plan.cycle exec.scene → shown_of exec.plan.cycle exec.scene ≡ record { spans = take SHOWN_LIMIT rows; more = length rows - SHOWN_LIMIT }
shown-rows exec rows own =
    let scene = exec.scene in
    sym (shown-first scene.jobs (horizon exec.plan.cycle scene.time) scene.time scene.points _ rows refl own)

-- where the first others and the number of the spans are the same, so is what is shown but for the first
pub others-shown : (before after : Executive) (rows next_rows : List Span) → rows ≡ spans_of before.plan.cycle before.scene → next_rows ≡ spans_of after.plan.cycle after.scene → length next_rows ≡ length rows → drop 1 (take SHOWN_LIMIT next_rows) ≡ drop 1 (take SHOWN_LIMIT rows) → others_of (shown_of after.plan.cycle after.scene) ≡ others_of (shown_of before.plan.cycle before.scene)
others-shown before after rows next_rows own next_own many stay =
    let more : length next_rows - SHOWN_LIMIT ≡ length rows - SHOWN_LIMIT = ap (λ n. n - SHOWN_LIMIT) many in
    let same : others_of (record { spans = take SHOWN_LIMIT next_rows; more = length next_rows - SHOWN_LIMIT }) ≡ others_of (record { spans = take SHOWN_LIMIT rows; more = length rows - SHOWN_LIMIT }) = λ i. record { spans = stay i; more = more i } in
    ap others_of (shown-rows after next_rows next_own) ∙ same ∙ sym (ap others_of (shown-rows before rows own))

-- what is shown at a history for which an executive stands is what is shown of its scene
pub shown-stands : (exec : Executive) (h : History) (shown : ShownSpans) → IsPlan exec.plan → StandsFor exec h → shown ≡ shown_of exec.plan.cycle (scene_of exec.plan.tasks exec.plan.cycle h) → shown ≡ shown_of exec.plan.cycle exec.scene
shown-stands exec h shown plan stands is =
    is ∙ sym ((Shows-from_scene exec plan (h, stands)).1 h stands)

-- of spans past the next slot there is a first, and it is shown
some-first : (jobs : List Job) (end start n : ℕ) (points : List ℕ) → start + 1 < last_end start (spans_between jobs end start points) → 1 ≤ length (spans_between jobs end start (take (suc n) points))
some-first jobs end start n [] later = absurd (omega (arith, later))
some-first jobs end start n (e ∷ points) later = omega arith

-- so an executive shows a span
pub some-shown : (exec : Executive) (h : History) (shown : ShownSpans) → IsPlan exec.plan → StandsFor exec h → shown ≡ shown_of exec.plan.cycle (scene_of exec.plan.tasks exec.plan.cycle h) → 1 ≤ length shown.spans
some-shown exec h shown plan stands is =
    let scene = exec.scene in
    let end = horizon exec.plan.cycle scene.time in
    let later = pass_slot-before_end exec scene.jobs end plan (h, stands) in
    subst
    (λ (s : ShownSpans). 1 ≤ length s.spans)
    (sym (shown-stands exec h shown plan stands is))
    (some-first scene.jobs end scene.time 7 scene.points later)

-- the first spans are the first one and the others
first-shown : (n : ℕ) (rows : List Span) (s : Span) → slice_get rows 0 ≡ Some s → take (suc n) rows ≡ s ∷ drop 1 (take (suc n) rows)
first-shown n [] s at = absurd (omega (arith, slice_get_within [] 0 s at))
first-shown n (x ∷ xs) s at = ap (λ z. z ∷ take n xs) (get_or_from_slice_get (x ∷ xs) 0 s s at)

-- with a new first span and the same others, what was shown before a slot is what is shown after it
pub shown-next : (before next : Executive) (shown new : ShownSpans) (rows : List Span) (s : Span) → shown ≡ shown_of before.plan.cycle before.scene → next.plan ≡ before.plan → rows ≡ spans_of next.plan.cycle next.scene → slice_get rows 0 ≡ Some s → others_of (shown_of before.plan.cycle next.scene) ≡ others_of (shown_of before.plan.cycle before.scene) → new.spans ≡ s ∷ drop 1 shown.spans → new.more ≡ shown.more → new ≡ shown_of next.plan.cycle next.scene
shown-next before next shown new rows s is stays own at others first more =
    let same_cycle = ap (λ (p : PlanParts). others_of (shown_of p.cycle next.scene)) stays in
    let next_is = shown-rows next rows own in
    let same : others_of shown ≡ others_of (record { spans = take SHOWN_LIMIT rows; more = length rows - SHOWN_LIMIT }) = ap others_of is ∙ sym others ∙ sym same_cycle ∙ ap others_of next_is in
    let rest : drop 1 shown.spans ≡ drop 1 (take SHOWN_LIMIT rows) = ap (λ (x : ShownSpans). x.spans) same in
    let many : shown.more ≡ length rows - SHOWN_LIMIT = ap (λ (x : ShownSpans). x.more) same in
    let spans : new.spans ≡ take SHOWN_LIMIT rows = first ∙ ap (λ xs. s ∷ xs) rest ∙ sym (first-shown 7 rows s at) in
    let all : new ≡ record { spans = take SHOWN_LIMIT rows; more = length rows - SHOWN_LIMIT } = λ i. record { spans = spans i; more = (more ∙ many) i } in
    all ∙ sym next_is

module _ {reserved : List Sporadic} {limit capacity most : ℕ} {known : Remembered} (before own next : Executive) (h : History) (what : What) (shown : ShownSpans) (rows : List Span) (is : IsExecutive own rows reserved limit capacity most known) (seen : own ≡ next) (does : Does before next slot what) (stands : StandsFor before h) (shown_is : shown ≡ shown_of before.plan.cycle (scene_of before.plan.tasks before.plan.cycle h)) where
  -- what is seen after the slot agrees with the parts
  IsExecutive-seen : IsExecutive next rows reserved limit capacity most known
  IsExecutive-seen =
      subst (λ (e : Executive). IsExecutive e rows reserved limit capacity most known) seen is

  -- and the plan was one before it
  IsPlan-before : IsPlan before.plan
  IsPlan-before = subst IsPlan does.plan IsExecutive-seen.plan

  -- there was a span to show
  pub some-seen : 1 ≤ length shown.spans
  some-seen = some-shown before h shown IsPlan-before stands shown_is

  -- with the first span anew and the same others the executive shows what was shown before
  pub Shows-seen : (new : ShownSpans) (s : Span) → slice_get rows 0 ≡ Some s → others_of (shown_of before.plan.cycle next.scene) ≡ others_of (shown_of before.plan.cycle before.scene) → new.spans ≡ s ∷ drop 1 shown.spans → new.more ≡ shown.more → Shows next new
  Shows-seen new s at others first more =
      let was = shown-stands before h shown IsPlan-before stands shown_is in
      let now = shown-next before next shown new rows s was does.plan IsExecutive-seen.spans at others first more in
      subst (Shows next) (sym now) (Shows-from_scene next IsExecutive-seen.plan IsExecutive-seen.stands)

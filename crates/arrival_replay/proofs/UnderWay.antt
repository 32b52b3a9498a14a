-- A replay under way: what was told of its trace, and what is left.
use Rattle.std.proofs.Common.{◌≡◌, ℕ, ◌+◌, ◌≤◌, true, List, [], ◌∷◌, ◌++◌, length, take, append_assoc, length-append, refl, sym, ap, ◌∙◌, subst, arith}
use Rattle.std.proofs.Math.Seq.{take-append-add}
use Rattle.slot_core.specs.declared.events.Arrival.{Arrival}
use Rattle.slot_core.specs.declared.events.Entry.{Entry}
use Rattle.slot_core.specs.declared.events.What.{What}
use Rattle.slot_core.specs.declared.events.What.TheVariants.{Start}
use Rattle.slot_core.specs.Runs.Arrivals.{are_fitting}
use Rattle.slot_core.specs.Sets.Cycles.{cycle_of}
use Rattle.slot_core.specs.Keeping.Executives.{Executive, StandsFor, Does}
use Rattle.slot_core.specs.Runs.Histories.{History, time_of}
use Rattle.slot_core.specs.Keeping.Plans.{PlanParts}
use Rattle.slot_core.specs.Runs.Scenes.{scene_of}
use Rattle.slot_core.specs.Runs.ShownSpans.{ShownSpans}
use Rattle.slot_core.specs.Runs.Spans.{shown_of}
use Rattle.slot_core.specs.Runs.Traces.{Occurrence, told_of, shown_entry, trace_in, trace, history_of}
use Rattle.slot_facts.proofs.Replays.Entries.{AreLeft, entries_left, entry_after, entries_left-start, AreLeft-start}
use Rattle.slot_facts.proofs.Replays.Told.{history_of-more, StandsFor-started}
use Rattle.arrival_replay.specs.Replays.{BreaksOff}

-- entries were told and taken, the executive of this plan stands for their history, and with what
-- is left after it they are the trace
pub record IsUnderWay
    (Took : List Entry → Type 0) (plan : PlanParts) (exec : Executive) (trace : List Entry)
    (n : ℕ) (arrivals : List Arrival) : Type 0 where
  pub told : List Entry
  pub took : Took told
  pub plan_is : exec.plan ≡ plan
  pub stands : StandsFor exec (history_of told)
  pub left : AreLeft plan.tasks n (history_of told) arrivals
  pub early : exec.scene.time ≤ n
  pub count : length told ≡ 1 + exec.scene.time + exec.last_row
  pub whole : told ++ entries_left plan.tasks plan.cycle n (history_of told) arrivals ≡ trace

-- so it is but for one entry, which is to be told now
pub record IsToTell
    (Took : List Entry → Type 0) (plan : PlanParts) (exec : Executive) (trace : List Entry)
    (n : ℕ) (arrivals : List Arrival) (time : ℕ) (what : What) : Type 0 where
  pub told : List Entry
  pub took : Took told
  pub plan_is : exec.plan ≡ plan
  pub stands : StandsFor exec (what ∷ history_of told)
  pub left : AreLeft plan.tasks n (what ∷ history_of told) arrivals
  pub early : exec.scene.time ≤ n
  pub count : length told ≡ exec.scene.time + exec.last_row
  pub whole :
      told
      ++ (shown_entry plan.tasks plan.cycle time what (what ∷ history_of told)
      ∷ entries_left plan.tasks plan.cycle n (what ∷ history_of told) arrivals)
      ≡ trace

-- entries were taken, and these are the spans after them
abbrev pub TookShown : (List Entry → Type 0) → PlanParts → ShownSpans → List Entry → Type 0
TookShown Took plan shown told =
    Took told × (shown ≡ shown_of plan.cycle (scene_of plan.tasks plan.cycle (history_of told)))

-- where they are taken with one more, the spans of that one are those after them
pub TookShown-told : (Took : List Entry → Type 0) (plan : PlanParts) (told : List Entry) (time : ℕ) (what : What) (e : Entry) → e ≡ shown_entry plan.tasks plan.cycle time what (what ∷ history_of told) → Took (told ++ e ∷ []) → TookShown Took plan e.shown (told ++ shown_entry plan.tasks plan.cycle time what (what ∷ history_of told) ∷ [])
TookShown-told Took plan told time what e same took =
    let own = shown_entry plan.tasks plan.cycle time what (what ∷ history_of told) in
    (subst (λ e. Took (told ++ e ∷ [])) same took, ap (λ (e : Entry). e.shown) same ∙ ap (λ h. shown_of plan.cycle (scene_of plan.tasks plan.cycle h)) (sym (history_of-more told own)))

-- entries were taken, and the executive stood for their history
abbrev pub TookStood : (List Entry → Type 0) → Executive → List Entry → Type 0
TookStood Took before told = Took told × StandsFor before (history_of told)

-- an entry of this time that shows the spans after what happened is the one that is to be told
pub entry-told : (Took : List Entry → Type 0) (plan : PlanParts) (before after : Executive) (trace : List Entry) (n : ℕ) (arrivals : List Arrival) (time : ℕ) (first : ShownSpans) (e : Entry) (t : IsToTell (TookStood (TookShown Took plan first) before) plan after trace n arrivals time e.what) → before.plan ≡ plan → e.time ≡ time → ((h : History) → StandsFor before h → first ≡ shown_of before.plan.cycle (scene_of before.plan.tasks before.plan.cycle h) → e.shown ≡ shown_of before.plan.cycle (scene_of before.plan.tasks before.plan.cycle (e.what ∷ h))) → e ≡ shown_entry plan.tasks plan.cycle time e.what (e.what ∷ history_of t.told)
entry-told Took plan before after trace n arrivals time first e t same on_time shows =
    let h = history_of t.told in
    let own : first ≡ shown_of before.plan.cycle (scene_of before.plan.tasks before.plan.cycle h) = subst (λ (p : PlanParts). first ≡ shown_of p.cycle (scene_of p.tasks p.cycle h)) (sym same) t.took.0.1 in
    let shown = subst (λ (p : PlanParts). e.shown ≡ shown_of p.cycle (scene_of p.tasks p.cycle (e.what ∷ h))) same (shows h t.took.1 own) in
    ap (λ k. record e { time = k }) on_time ∙ ap (λ s. record e { time = time; shown = s }) shown

-- where the entry is taken too, the replay is under way
pub IsUnderWay-told : (Took Longer : List Entry → Type 0) (plan : PlanParts) (exec : Executive) (trace : List Entry) (n : ℕ) (arrivals : List Arrival) (time : ℕ) (what : What) → (t : IsToTell Took plan exec trace n arrivals time what) → Longer (t.told ++ shown_entry plan.tasks plan.cycle time what (what ∷ history_of t.told) ∷ []) → IsUnderWay Longer plan exec trace n arrivals
IsUnderWay-told Took Longer plan exec trace n arrivals time what t took =
    let e = shown_entry plan.tasks plan.cycle time what (what ∷ history_of t.told) in
    let h = history_of-more t.told e in
    record {
      told = t.told ++ e ∷ [];
      took = took;
      plan_is = t.plan_is;
      stands = subst (StandsFor exec) (sym h) t.stands;
      left = subst (λ h. AreLeft plan.tasks n h arrivals) (sym h) t.left;
      early = t.early;
      count = omega (arith, length-append t.told (e ∷ []), t.count);
      whole =
          subst
          (λ h. (t.told ++ e ∷ []) ++ entries_left plan.tasks plan.cycle n h arrivals ≡ trace)
          (sym h)
          (append_assoc t.told (e ∷ []) (entries_left plan.tasks plan.cycle n (what ∷ history_of t.told) arrivals) ∙ t.whole);
    }

-- a trace breaks off at an entry where it and those before it do
pub BreaksOff-after : (Broke : List Entry → Type 0) (exec : Executive) (told later trace : List Entry) (e : Entry) → told ++ (e ∷ later) ≡ trace → Broke (told ++ e ∷ []) → StandsFor exec (e.what ∷ history_of told) → BreaksOff Broke exec trace
BreaksOff-after Broke exec told later trace e whole broke stands =
    let front : take (length told + 1) trace ≡ told ++ e ∷ [] = ap (take (length told + 1)) (sym whole) ∙ take-append-add told (e ∷ later) 1 in
    record {
      told = length told + 1;
      within = omega (arith, ap length whole, length-append told (e ∷ later));
      broke = subst Broke (sym front) broke;
      stands = subst (λ es. StandsFor exec (history_of es)) (sym front) (subst (StandsFor exec) (sym (history_of-more told e)) stands);
    }

-- so it does where the entry that is to be told is not taken
pub BreaksOff-told : (Took Broke : List Entry → Type 0) (plan : PlanParts) (exec : Executive) (trace : List Entry) (n : ℕ) (arrivals : List Arrival) (time : ℕ) (what : What) → (t : IsToTell Took plan exec trace n arrivals time what) → Broke (t.told ++ shown_entry plan.tasks plan.cycle time what (what ∷ history_of t.told) ∷ []) → BreaksOff Broke exec trace
BreaksOff-told Took Broke plan exec trace n arrivals time what t broke =
    let e = shown_entry plan.tasks plan.cycle time what (what ∷ history_of t.told) in
    BreaksOff-after Broke exec t.told (entries_left plan.tasks plan.cycle n (what ∷ history_of t.told) arrivals) trace e t.whole broke t.stands

-- before the start entry is told all of the trace is left
pub IsToTell-start : (Took : List Entry → Type 0) (exec : Executive) (n : ℕ) (arrivals : List Arrival) → exec.plan.cycle ≡ cycle_of exec.plan.tasks → StandsFor exec [] → are_fitting exec.plan.tasks n arrivals ≡ true → Took [] → IsToTell Took exec.plan exec (trace exec.plan.tasks arrivals n) n arrivals 0 Start
IsToTell-start Took exec n arrivals cycle stands fits took =
    record {
      told = [];
      took = took;
      plan_is = refl;
      stands = StandsFor-started exec stands;
      left = AreLeft-start exec.plan.tasks n arrivals fits;
      early = omega (arith, stands.same.time);
      count = omega (arith, stands.same.time, stands.last);
      whole =
          sym (entries_left-start exec.plan.tasks exec.plan.cycle n arrivals)
          ∙ ap (λ c. trace_in exec.plan.tasks c arrivals n) cycle;
    }

-- what happens next, which is a slot or the next row, is to be told after it
pub IsToTell-next : (Took : List Entry → Type 0) (plan : PlanParts) (before after : Executive) (trace : List Entry) (n : ℕ) (arrivals rest : List Arrival) (next : Occurrence) (time : ℕ) (what : What) (u : IsUnderWay Took plan before trace n arrivals) → time ≡ before.scene.time → Does before after next what → entries_left plan.tasks plan.cycle n (history_of u.told) arrivals ≡ entry_after plan.tasks plan.cycle (history_of u.told) next ∷ entries_left plan.tasks plan.cycle n (told_of plan.tasks plan.cycle (history_of u.told) next ∷ history_of u.told) rest → AreLeft plan.tasks n (told_of plan.tasks plan.cycle (history_of u.told) next ∷ history_of u.told) rest → time_of (told_of plan.tasks plan.cycle (history_of u.told) next ∷ history_of u.told) ≤ n → after.scene.time + after.last_row ≡ 1 + before.scene.time + before.last_row → IsToTell (TookStood Took before) plan after trace n rest time what
IsToTell-next Took plan before after trace n arrivals rest next time what u now does step left early more =
    let set = plan.tasks in
    let h = history_of u.told in
    let stands = does.stands h u.stands in
    let told = subst (λ (p : PlanParts). what ≡ told_of p.tasks p.cycle h next) u.plan_is (does.told h u.stands) in
    let now : time_of h ≡ time = sym (now ∙ u.stands.same.time) in
    let all = ap (λ es. u.told ++ es) (sym step) ∙ u.whole in
    record {
      told = u.told;
      took = (u.took, u.stands);
      plan_is = does.plan ∙ u.plan_is;
      stands = stands;
      left = subst (λ w. AreLeft set n (w ∷ h) rest) (sym told) left;
      early = subst (λ t. t ≤ n) (sym stands.same.time) (subst (λ w. time_of (w ∷ h) ≤ n) (sym told) early);
      count = omega (arith, u.count, more);
      whole =
          subst
          (λ t. u.told ++ (shown_entry set plan.cycle t what (what ∷ h) ∷ entries_left set plan.cycle n (what ∷ h) rest) ≡ trace)
          now
          (subst
          (λ w. u.told ++ (shown_entry set plan.cycle (time_of h) w (w ∷ h) ∷ entries_left set plan.cycle n (w ∷ h) rest) ≡ trace)
          (sym told)
          all);
    }

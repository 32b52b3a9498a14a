-- The lines of what happens after a history, and the history after it.
use Rattle.std.proofs.Common.{◌≡◌, ℕ, ◌+◌, true, List, [], ◌∷◌, ◌++◌, refl, sym, ap, ◌∙◌, subst, append-nil, append_assoc, arith}
use Rattle.std.proofs.lemmas.Grind.{flat_map-append, replicate_next}
use Rattle.std.proofs.Math.ListN.{replicate}
use Rattle.std.proofs.lemmas.List.{replicate-append-replicate}
use Rattle.slot_core.specs.declared.events.What.{What}
use Rattle.slot_core.specs.declared.tasks.TaskSet.{TaskSet}
use Rattle.slot_core.specs.Keeping.Executives.{Executive, Does, StandsFor}
use Rattle.slot_core.specs.Keeping.Plans.{PlanParts, IsPlan}
use Rattle.slot_core.specs.Output.Texts.{entry_line, trace_text}
use Rattle.slot_core.specs.Runs.Arrivals.{what_in_set}
use Rattle.slot_core.specs.Runs.Choice.{choice}
use Rattle.slot_core.specs.Runs.Histories.{History, time_of}
use Rattle.slot_core.specs.Runs.Scenes.{scene_of}
use Rattle.slot_core.specs.Runs.Traces.{Occurrence, slot, told_of, shown_entry, entries, history_after, IsLegal}
use Rattle.slot_core.specs.Sets.Cycles.{cycle_of}
use Rattle.slot_facts.proofs.Replays.Entries.{time_of-ran}
use Rattle.slot_facts.proofs.Replays.Named.{told-named}
use Rattle.arrival_replay.proofs.Happenings.{line-told}

-- the line that an executive tells is the text of the entry, at each history for which it stands
pub text-told : (before after : Executive) (next : Occurrence) (what : What) (time : ℕ) (h : History) → time ≡ before.scene.time → StandsFor before h → Does before after next what → entry_line after.plan.tasks (shown_entry after.plan.tasks after.plan.cycle time what (what ∷ h)) ≡ trace_text before.plan.tasks (entries before.plan.tasks before.plan.cycle h (next ∷ []))
text-told before after next what time h now stands does =
    line-told before after next what time h now stands does
    ∙ sym (append-nil (entry_line before.plan.tasks (shown_entry before.plan.tasks before.plan.cycle (time_of h) (told_of before.plan.tasks before.plan.cycle h next) (told_of before.plan.tasks before.plan.cycle h next ∷ h))))

-- after a slot it is one slot later
pub time-passed : (before after : Executive) (what : What) → Does before after slot what → after.scene.time ≡ before.scene.time + 1
time-passed before after what does =
    let p = before.plan in
    let h = does.some.0 in
    let stands = does.some.1 in
    let told = ap (λ w. time_of (w ∷ h)) (does.told h stands) in
    let later = time_of-ran (choice p.tasks.sporadics p.cycle (scene_of p.tasks p.cycle h)) h in
    omega (arith, stands.same.time, (does.stands h stands).same.time, told, later)

-- what is told of a slot lies in the set
pub passed-named : (before after : Executive) (what : What) → IsPlan before.plan → Does before after slot what → what_in_set after.plan.tasks what ≡ true
passed-named before after what is_plan does =
    let p = before.plan in
    let h = does.some.0 in
    let stands = does.some.1 in
    let told : what ≡ told_of p.tasks (cycle_of p.tasks) h slot = does.told h stands ∙ ap (λ c. told_of p.tasks c h slot) is_plan.cycle in
    let legal = subst (λ c. IsLegal p.tasks c h) is_plan.cycle stands.legal in
    let plan_is = ap (λ (p : PlanParts). what_in_set p.tasks what) does.plan in
    plan_is ∙ (ap (what_in_set p.tasks) told ∙ told-named p.tasks h slot legal tt)

-- the history after occurrences and then others
pub history_after-append : (set : TaskSet) (cycle : ℕ) (h : History) (first later : List Occurrence) → history_after set cycle h (first ++ later) ≡ history_after set cycle (history_after set cycle h first) later
history_after-append set cycle h [] later = refl
history_after-append set cycle h (next ∷ first) later =
    history_after-append set cycle (told_of set cycle h next ∷ h) first later

-- and the entries of them
pub entries-append : (set : TaskSet) (cycle : ℕ) (h : History) (first later : List Occurrence) → entries set cycle h (first ++ later) ≡ entries set cycle h first ++ entries set cycle (history_after set cycle h first) later
entries-append set cycle h [] later = refl
entries-append set cycle h (next ∷ first) later =
    let what = told_of set cycle h next in
    ap (λ es. shown_entry set cycle (time_of h) what (what ∷ h) ∷ es) (entries-append set cycle (what ∷ h) first later)

-- and their text
pub text-append : (set : TaskSet) (cycle : ℕ) (h : History) (first later : List Occurrence) → trace_text set (entries set cycle h (first ++ later)) ≡ trace_text set (entries set cycle h first) ++ trace_text set (entries set cycle (history_after set cycle h first) later)
text-append set cycle h first later =
    ap (trace_text set) (entries-append set cycle h first later)
    ∙ flat_map-append (entry_line set) (entries set cycle h first) (entries set cycle (history_after set cycle h first) later)

-- the text of one slot more
pub text-next : (set : TaskSet) (cycle : ℕ) (h : History) (n : ℕ) → trace_text set (entries set cycle h (replicate (n + 1) slot)) ≡ trace_text set (entries set cycle h (replicate n slot)) ++ trace_text set (entries set cycle (history_after set cycle h (replicate n slot)) (slot ∷ []))
text-next set cycle h n =
    ap (λ os. trace_text set (entries set cycle h os)) (replicate_next n slot)
    ∙ text-append set cycle h (replicate n slot) (slot ∷ [])

-- and the history after it
pub history-next : (set : TaskSet) (cycle : ℕ) (h : History) (n : ℕ) → history_after set cycle h (replicate (n + 1) slot) ≡ history_after set cycle (history_after set cycle h (replicate n slot)) (slot ∷ [])
history-next set cycle h n =
    ap (history_after set cycle h) (replicate_next n slot)
    ∙ history_after-append set cycle h (replicate n slot) (slot ∷ [])

-- slots are some, and then the others
pub replicate-split : (n m : ℕ) → replicate (n + m) slot ≡ replicate n slot ++ replicate m slot
replicate-split n m = sym (replicate-append-replicate n m slot)

-- so the text of more slots begins with that of one slot more
pub text-more : (set : TaskSet) (cycle : ℕ) (h : History) (n m : ℕ) → trace_text set (entries set cycle h (replicate ((n + 1) + m) slot)) ≡ trace_text set (entries set cycle h (replicate n slot)) ++ (trace_text set (entries set cycle (history_after set cycle h (replicate n slot)) (slot ∷ [])) ++ trace_text set (entries set cycle (history_after set cycle h (replicate (n + 1) slot)) (replicate m slot)))
text-more set cycle h n m =
    let rest = trace_text set (entries set cycle (history_after set cycle h (replicate (n + 1) slot)) (replicate m slot)) in
    let one = trace_text set (entries set cycle (history_after set cycle h (replicate n slot)) (slot ∷ [])) in
    ap (λ os. trace_text set (entries set cycle h os)) (replicate-split (n + 1) m)
    ∙ text-append set cycle h (replicate (n + 1) slot) (replicate m slot)
    ∙ ap (λ xs. xs ++ rest) (text-next set cycle h n)
    ∙ append_assoc (trace_text set (entries set cycle h (replicate n slot))) one rest

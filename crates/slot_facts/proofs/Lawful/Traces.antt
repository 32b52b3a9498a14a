-- A trace of a feasible set and fitting arrivals is a lawful one, and the history of a lawful trace is lawful.
use Rattle.std.proofs.Common.{◌≡◌, ℕ, true, List, [], ◌∷◌, ◌++◌, map, append_assoc, refl, sym, ap, ◌∙◌, subst}
use Rattle.std.specs.Prelude.{reverse}
use Rattle.std.proofs.lemmas.List.{reverse-append}
use Rattle.slot_core.specs.declared.tasks.TaskSet.{TaskSet}
use Rattle.slot_core.specs.declared.events.Arrival.{Arrival}
use Rattle.slot_core.specs.declared.events.Entry.{Entry}
use Rattle.slot_core.specs.declared.events.What.{What}
use Rattle.slot_core.specs.declared.events.What.TheVariants.{Start, End}
use Rattle.slot_core.specs.Sets.Cycles.{cycle_of}
use Rattle.slot_core.specs.Sets.Ranges.{is_sound}
use Rattle.slot_core.specs.Feasibility.Feasible.{IsFeasible}
use Rattle.slot_core.specs.Runs.Arrivals.{are_fitting}
use Rattle.slot_core.specs.Runs.Histories.{History, last_row}
use Rattle.slot_core.specs.Runs.Traces.{Occurrence, arrive, slot, told_of, entries, occurrences_of, started, end_entry, history_of, MayCome, IsLegal}
use Rattle.slot_core.specs.Claims.Lawful.{MayTell, IsLawful, AreLawful, IsLawfulTrace}
use Rattle.slot_facts.specs.Lawful.{EveryTraceIsLawful}
use Rattle.slot_facts.proofs.Legal.Traces.{MayAllCome, MayCome-first, row_past, MayAllCome-past, MayAllCome-told, last_row-arrival, last_row-ran, may_all_come-fitting, legal-due}
use Rattle.slot_facts.proofs.Lawful.FromLegal.{may_tell-legal}

-- what is told of occurrences that may all come, from a legal history on, is lawful
lawful-entries : (set : TaskSet) (h : History) (next : List Occurrence) → is_sound set ≡ true → IsFeasible set (cycle_of set) → IsLegal set (cycle_of set) h → MayAllCome set (last_row h) next → AreLawful set (cycle_of set) h next (entries set (cycle_of set) h next)
lawful-entries set h [] sound feasible legal may = refl
lawful-entries set h (next ∷ later) sound feasible legal may =
    let cycle = cycle_of set in
    let what = told_of set cycle h next in
    let come = MayCome-first set h next later may in
    let tells = may_tell-legal set sound feasible h next legal come in
    let longer = legal-due set cycle h what legal (next, come, refl) in
    (tells, refl, lawful-entries set (what ∷ h) later sound feasible longer (MayAllCome-told set cycle h next later may))

-- the trace of a feasible set and fitting arrivals is a lawful one
pub every_trace_is_lawful : EveryTraceIsLawful
every_trace_is_lawful set arrivals n sound feasible fits =
    let next = occurrences_of arrivals n in
    (entries set (cycle_of set) started next, refl, lawful-entries set started next sound feasible tt (may_all_come-fitting set arrivals n fits))

-- what may be told of an occurrence that may come keeps a history lawful
pub lawful-longer : (set : TaskSet) (cycle : ℕ) (h : History) (what : What) → IsLawful set cycle h → (next : Occurrence) × MayCome set h next × MayTell set cycle h next what → IsLawful set cycle (what ∷ h)
lawful-longer set cycle h Start lawful told = lawful
lawful-longer set cycle h End lawful told = lawful
lawful-longer set cycle h what lawful told = (told, lawful)

-- the last row after what may be told of what happens next
last_row-tells : (set : TaskSet) (cycle : ℕ) (h : History) (what : What) (next : Occurrence) → MayTell set cycle h next what → last_row (what ∷ h) ≡ row_past next (last_row h)
last_row-tells set cycle h what (arrive row event) is = ap (λ w. last_row (w ∷ h)) is ∙ last_row-arrival set cycle h row event
last_row-tells set cycle h what slot (ran, is, may, in_time) = ap (λ w. last_row (w ∷ h)) is ∙ last_row-ran ran h

-- from which the others may come
MayAllCome-tells : (set : TaskSet) (cycle : ℕ) (h : History) (what : What) (next : Occurrence) (later : List Occurrence) → MayAllCome set (last_row h) (next ∷ later) → MayTell set cycle h next what → MayAllCome set (last_row (what ∷ h)) later
MayAllCome-tells set cycle h what next later may tells =
    subst (λ r. MayAllCome set r later) (sym (last_row-tells set cycle h what next tells)) (MayAllCome-past set (last_row h) next later may)

-- the history that lawful entries tell on top of a lawful one is lawful
lawful-told : (set : TaskSet) (cycle n : ℕ) (h : History) (next : List Occurrence) (told : List Entry) → IsLawful set cycle h → MayAllCome set (last_row h) next → AreLawful set cycle h next told → IsLawful set cycle (reverse (map (λ (e : Entry). e.what) (told ++ end_entry n ∷ [])) ++ h)
lawful-told set cycle n h [] told lawful may are = subst (λ es. IsLawful set cycle (reverse (map (λ (e : Entry). e.what) (es ++ end_entry n ∷ [])) ++ h)) (sym are) lawful
lawful-told set cycle n h (next ∷ later) [] lawful may are = absurd are
lawful-told set cycle n h (next ∷ later) (entry ∷ told) lawful may (tells, shown, rest) =
    let what = entry.what in
    let front = map (λ (e : Entry). e.what) (told ++ end_entry n ∷ []) in
    let longer = lawful-longer set cycle h what lawful (next, MayCome-first set h next later may, tells) in
    let more = lawful-told set cycle n (what ∷ h) later told longer (MayAllCome-tells set cycle h what next later may tells) rest in
    rw (reverse-append (what ∷ []) front) (subst (IsLawful set cycle) (sym (append_assoc (reverse front) (what ∷ []) h)) more)

-- so is that of a lawful trace of fitting arrivals
pub lawful-history_of : (set : TaskSet) (arrivals : List Arrival) (n : ℕ) (trace : List Entry) → are_fitting set n arrivals ≡ true → IsLawfulTrace set arrivals n trace → IsLawful set (cycle_of set) (history_of trace)
lawful-history_of set arrivals n trace fits (told, is, are) =
    let cycle = cycle_of set in
    let lawful = lawful-told set cycle n started (occurrences_of arrivals n) told tt (may_all_come-fitting set arrivals n fits) are in
    let front = map (λ (e : Entry). e.what) (told ++ end_entry n ∷ []) in
    subst (λ es. IsLawful set cycle (history_of es)) (sym is) (rw (reverse-append (Start ∷ []) front) lawful)

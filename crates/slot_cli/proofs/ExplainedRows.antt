-- What the explanation of a row shows.
use Rattle.std.proofs.Common.{◌≡◌, ℕ, zero, suc, ◌+◌, ◌-◌, ◌<◌, true, List, [], ◌∷◌, ◌++◌, take, Option, Some, refl, sym, ap, subst, ◌∙◌, arith}
use Rattle.std.specs.Prelude.{slice_get}
use Rattle.slot_core.specs.declared.events.Arrival.{Arrival}
use Rattle.slot_core.specs.declared.events.Entry.{Entry}
use Rattle.slot_core.specs.declared.events.Firm.TheVariants.{NoRoom}
use Rattle.slot_core.specs.declared.events.What.{What}
use Rattle.slot_core.specs.declared.events.What.TheVariants.{Firm}
use Rattle.slot_core.specs.Claims.Futures.{OfferIsExact}
use Rattle.slot_core.specs.Sets.Cycles.{cycle_of}
use Rattle.slot_core.specs.declared.jobs.Evidence.{Evidence}
use Rattle.slot_core.specs.Feasibility.Feasible.{IsFeasible}
use Rattle.slot_core.specs.Keeping.Plans.{PlanParts, IsPlan}
use Rattle.slot_core.specs.Runs.Arrivals.{are_fitting}
use Rattle.slot_core.specs.Runs.Histories.{History}
use Rattle.slot_core.specs.Runs.Scenes.{scene_of}
use Rattle.slot_core.specs.Runs.Traces.{IsDue, IsLegal, history_of, trace}
use Rattle.slot_facts.proofs.Legal.Traces.{every_trace_is_legal}
use Rattle.slot_facts.proofs.Offers.Answers.{short-from_no_room}
use Rattle.slot_facts.proofs.Offers.Exact.{offered-from_due, offers_are_always_exact}
use Rattle.slot_facts.proofs.Replays.Told.{history_of-more}
use Rattle.arrival_replay.specs.Replays.{entries_before, history_before}
use Rattle.future_check.proofs.Needs.{shown_slots_are_needed}
use Rattle.slot_cli.specs.Explained.{RowShowsWhy, ShowsWhy}

-- one more item of a list
take-suc : {X : Type 0} (xs : List X) (m : ℕ) (x : X) → slice_get xs m ≡ Some x → take (suc m) xs ≡ take m xs ++ x ∷ []
take-suc [] m x at = cc
take-suc (y ∷ ys) zero x at = let same : y ≡ x = cc in ap (λ z. z ∷ []) same
take-suc (y ∷ ys) (suc m) x at = ap (λ zs. y ∷ zs) (take-suc ys m x at)

take-next : {X : Type 0} (xs : List X) (m : ℕ) (x : X) → slice_get xs m ≡ Some x → take (m + 1) xs ≡ take m xs ++ x ∷ []
take-next xs m x at = let next : m + 1 ≡ suc m = omega arith in ap (λ n. take n xs) next ∙ take-suc xs m x at

-- so the history with an entry is that before it and what the entry tells
history-next : (told : List Entry) (m : ℕ) (entry : Entry) → slice_get told m ≡ Some entry → history_of (take (m + 1) told) ≡ entry.what ∷ history_of (take m told)
history-next told m entry at = ap history_of (take-next told m entry at) ∙ history_of-more (take m told) entry

-- an offer that is refused for want of room is explained
shows-why : (plan : PlanParts) (h : History) (r slots within : ℕ) (e : Evidence) → IsPlan plan → IsLegal plan.tasks plan.cycle (Firm r slots within (NoRoom e) ∷ h) → ShowsWhy plan h slots within e
shows-why plan h r slots within e is_plan legal =
    let set = plan.tasks in
    let cycle = plan.cycle in
    let scene = scene_of set cycle h in
    let due : IsDue set cycle h (Firm r slots within (NoRoom e)) = legal.0 in
    let offered = offered-from_due set cycle h r slots within (NoRoom e) due in
    let short = short-from_no_room set.sporadics cycle scene slots within e offered.told in
    let need = ap (λ (x : Evidence). x.need) short.exact in
    let room = ap (λ (x : Evidence). x.room) short.exact in
    let shown = shown_slots_are_needed set scene e.until in
    let feasible = subst (IsFeasible set) is_plan.cycle is_plan.feasible in
    let whole = subst (λ n. IsLegal set n (Firm r slots within (NoRoom e) ∷ h)) is_plan.cycle legal in
    let exact = offers_are_always_exact set (Firm r slots within (NoRoom e) ∷ h) is_plan.sound feasible whole r slots within (NoRoom e) h ([], refl) in
    record {
      sum = omega (arith, need, shown);
      more = omega (arith, need, room, short.short);
      none = (subst (λ n. OfferIsExact set n h slots within (NoRoom e)) (sym is_plan.cycle) exact).densest e refl;
    }

-- so is one of a row of the arrivals
pub row-shows_why : (plan : PlanParts) (arrivals : List Arrival) (slots row : ℕ) → IsPlan plan → are_fitting plan.tasks slots arrivals ≡ true → RowShowsWhy plan arrivals slots row
row-shows_why plan arrivals slots row is_plan fits a entry r offered within e at told is =
    let set = plan.tasks in
    let all = trace set arrivals slots in
    let before = history_before all a in
    let legal = every_trace_is_legal set arrivals slots (entries_before a + 1) fits in
    let longer : history_of (take (entries_before a + 1) all) ≡ Firm r offered within (NoRoom e) ∷ before = history-next all (entries_before a) entry told ∙ ap (λ (w : What). w ∷ before) is in
    shows-why plan before r offered within e is_plan (subst (λ n. IsLegal set n (Firm r offered within (NoRoom e) ∷ before)) (sym is_plan.cycle) (subst (IsLegal set (cycle_of set)) longer legal))

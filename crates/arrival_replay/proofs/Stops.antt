-- Where a replay stops: before the arrival at its place, or at the end.
use Rattle.std.proofs.Common.{◌≡◌, ℕ, ◌+◌, ◌<◌, ◌≤◌, Bool, true, false, ◌&&◌, ◌||◌, ◌==◌, List, [], ◌∷◌, ◌++◌, length, take, drop, Option, Some, None, refl, sym, ap, ◌∙◌, subst, inl, inr, arith}
use Rattle.std.specs.Prelude.{is_none, nat_le, nat_lt, slice_get, OnErr, OnOk, Result, Ok, Err}
use Rattle.std.proofs.lemmas.Bool.{and_parts, cases_lt, lt-ltb, ltb-true, ltb-false}
use Rattle.std.proofs.lemmas.Option.{slice_get_past}
use Rattle.slot_core.specs.declared.tasks.TaskSet.{TaskSet}
use Rattle.slot_core.specs.declared.faults.Failed.{Failed}
use Rattle.slot_core.specs.declared.events.Arrival.{Arrival}
use Rattle.slot_core.specs.declared.events.Entry.{Entry}
use Rattle.slot_core.specs.Runs.Arrivals.{are_fitting, arrivals_follow, event_fits}
use Rattle.slot_core.specs.Keeping.Executives.{Executive, StandsFor}
use Rattle.slot_core.specs.Keeping.Plans.{PlanParts}
use Rattle.slot_core.specs.Runs.Histories.{History, time_of}
use Rattle.slot_core.specs.Runs.ShownSpans.{ShownSpans}
use Rattle.slot_core.specs.Runs.Traces.{arrive, told_of, end_entry, history_of}
use Rattle.slot_facts.proofs.Legal.Traces.{BeginsWith-from}
use Rattle.slot_facts.proofs.Sets.Tasks.{slice_get-within}
use Rattle.slot_facts.proofs.Replays.Entries.{AreLeft, entries_left, entries_left-arrival, entries_left-end}
use Rattle.slot_facts.proofs.Replays.Told.{history_of-more, StandsFor-end}
use Rattle.arrival_replay.specs.Replays.{due_arrival, is_on_the_way, entry_of, entries_before, history_before, StandsBefore, entries_from, IsStopped, BreaksOff}
use Rattle.arrival_replay.proofs.UnderWay.{IsUnderWay, TookShown, BreaksOff-after}
use Rattle.arrival_replay.proofs.Happenings.{IsDueAt-from, first-at, fitting-at}

-- an arrival that follows comes before the last slot is over
follow-slot : (set : TaskSet) (n row from : ℕ) (a : Arrival) (arrivals : List Arrival) → arrivals_follow set n row from (a ∷ arrivals) ≡ true → a.slot < n
follow-slot set n row from a arrivals follow =
    let rest = and_parts (a.row == row && nat_le from a.slot && nat_lt a.slot n && event_fits set a.event) (arrivals_follow set n (row + 1) a.slot arrivals) follow in
    let fits = and_parts (a.row == row && nat_le from a.slot && nat_lt a.slot n) (event_fits set a.event) rest.0 in
    ltb-true a.slot n (and_parts (a.row == row && nat_le from a.slot) (nat_lt a.slot n) fits.0).1

-- a replay with slots left that is off its way has come to its place, and its arrival is due
off-parts : (early before none : Bool) → early && (before || none) ≡ false → early ≡ true → (before ≡ false) × (none ≡ false)
off-parts true false false off is = (refl, refl)
off-parts true true none off is = absurd (cc off)
off-parts true false true off is = absurd (cc off)
off-parts false before none off is = absurd (cc is)

-- what is not none is some
some-from : (o : Option Arrival) → is_none o ≡ false → (a : Arrival) × (o ≡ Some a)
some-from None is = absurd (cc is)
some-from (Some a) is = (a, refl)

-- a replay under way, with so many arrivals answered, up to a place
module _ (Took : List Entry → Type 0) (plan : PlanParts) (exec : Executive) (trace : List Entry) (n place next : ℕ) (arrivals : List Arrival) (u : IsUnderWay Took plan exec trace n (drop next arrivals)) (last : exec.last_row ≡ next) (before : next ≤ place) (there : place ≤ length arrivals) where
  -- the history so far
  abbrev so_far : History
  so_far = history_of u.told

  -- it stops where the next arrival is due
  IsStopped-due : (a : Arrival) → due_arrival arrivals next exec.scene.time ≡ Some a → exec.scene.time < n → IsStopped Took exec trace n (slice_get arrivals next)
  IsStopped-due a due early =
      let d = IsDueAt-from arrivals next exec.scene.time a due in
      let rest = drop (next + 1) arrivals in
      let later = entries_left plan.tasks plan.cycle n (told_of plan.tasks plan.cycle so_far (arrive a.row a.event) ∷ so_far) rest in
      let step = ap (entries_left plan.tasks plan.cycle n so_far) d.first ∙ entries_left-arrival plan.tasks plan.cycle n so_far a rest (d.on_time ∙ u.stands.same.time) (omega (arith, u.stands.same.time)) in
      subst
      (IsStopped Took exec trace n)
      (sym d.at)
      (record {
        told = u.told;
        took = u.took;
        stands = u.stands;
        now = sym d.on_time;
        count = u.count;
        later = later;
        whole = subst (λ (p : PlanParts). u.told ++ entries_from p n so_far (Some a) later ≡ trace) (sym u.plan_is) (ap (λ es. u.told ++ es) (sym step) ∙ u.whole);
      })

  -- after the last slot no arrival is left
  none_left : n ≤ exec.scene.time → length arrivals ≤ next
  none_left over =
      elim (cases_lt next (length arrivals)) [
        | inl within ↦
            let found = slice_get-within arrivals next within in
            let a = found.0 in
            let rest = drop (next + 1) arrivals in
            let left = subst (AreLeft plan.tasks n so_far) (first-at arrivals next a found.1) u.left in
            let f = BeginsWith-from plan.tasks n left.row (time_of so_far) a rest left.follow in
            absurd (omega (arith, follow-slot plan.tasks n left.row (time_of so_far) a rest left.follow, f.not_before, u.stands.same.time))
        | inr past ↦ past
      ]

  -- so it stops at the end
  IsStopped-over : n ≤ exec.scene.time → IsStopped Took exec trace n (slice_get arrivals place)
  IsStopped-over over =
      let all : time_of so_far ≡ n = omega (arith, u.stands.same.time, u.early) in
      subst
      (IsStopped Took exec trace n)
      (sym (slice_get_past arrivals place (omega (arith, none_left over))))
      (record {
        told = u.told;
        took = u.took;
        stands = u.stands;
        now = omega (arith, u.early);
        count = u.count;
        later = [];
        whole = ap (λ es. u.told ++ es) (sym (entries_left-end plan.tasks plan.cycle n so_far (drop next arrivals) all)) ∙ u.whole;
      })

  -- it stops where it is off its way, at its place
  pub IsStopped-off : is_on_the_way arrivals n place next exec.scene.time ≡ false → IsStopped Took exec trace n (slice_get arrivals place) × (exec.last_row ≡ place)
  IsStopped-off off =
      let time = exec.scene.time in
      elim (cases_lt time n) [
        | inl early ↦
            let parts = off-parts (nat_lt time n) (nat_lt next place) (is_none (due_arrival arrivals next time)) off (lt-ltb time n early) in
            let same : next ≡ place = omega (arith, ltb-false next place parts.0) in
            let due = some-from (due_arrival arrivals next time) parts.1 in
            (subst (λ k. IsStopped Took exec trace n (slice_get arrivals k)) same (IsStopped-due due.0 due.1 early), last ∙ same)
        | inr over ↦ (IsStopped-over over, omega (arith, none_left over))
      ]

-- where it has stopped, what was taken was taken, whatever spans were shown
pub IsStopped-taken : (Took : List Entry → Type 0) (plan : PlanParts) (shown : ShownSpans) (exec : Executive) (trace : List Entry) (n : ℕ) (next : Option Arrival) → IsStopped (TookShown Took plan shown) exec trace n next → IsStopped Took exec trace n next
IsStopped-taken Took plan shown exec trace n next s = record {
  told = s.told;
  took = s.took.0;
  stands = s.stands;
  now = s.now;
  count = s.count;
  later = s.later;
  whole = s.whole;
}

-- the entries before one, and that one
front-split : {X : Type 0} (front later : List X) (x : X) → (take (length front) (front ++ x ∷ later) ≡ front) × (slice_get (front ++ x ∷ later) (length front) ≡ Some x)
front-split [] later x = (refl, refl)
front-split (y ∷ front) later x =
    let more = front-split front later x in
    (ap (λ xs. y ∷ xs) more.0, more.1)

-- where a replay stops at an arrival, the executive stands before its entry
pub StandsBefore-stopped : (Took : List Entry → Type 0) (plan : PlanParts) (exec : Executive) (trace : List Entry) (n place : ℕ) (arrivals : List Arrival) (a : Arrival) → exec.plan ≡ plan → are_fitting plan.tasks n arrivals ≡ true → IsStopped Took exec trace n (slice_get arrivals place) → exec.last_row ≡ place → slice_get arrivals place ≡ Some a → StandsBefore exec trace a
StandsBefore-stopped Took plan exec trace n place arrivals a same fits stopped last at =
    let s = subst (IsStopped Took exec trace n) at stopped in
    let fits : are_fitting exec.plan.tasks n arrivals ≡ true = subst (λ (p : PlanParts). are_fitting p.tasks n arrivals ≡ true) (sym same) fits in
    let own = fitting-at exec.plan.tasks n place arrivals a fits at in
    let e = entry_of exec.plan (history_of s.told) a in
    let split = front-split s.told s.later e in
    let count : entries_before a ≡ length s.told = omega (arith, s.count, s.now, own.0, last) in
    let front : take (entries_before a) trace ≡ s.told = ap (λ k. take k trace) count ∙ ap (take (length s.told)) (sym s.whole) ∙ split.0 in
    let here : slice_get trace (entries_before a) ≡ Some e = ap (slice_get trace) count ∙ ap (λ es. slice_get es (length s.told)) (sym s.whole) ∙ split.1 in
    let so_far : history_of s.told ≡ history_before trace a = ap history_of (sym front) in
    record {
      stands = subst (StandsFor exec) so_far s.stands;
      now = s.now;
      row = omega (arith, own.0, last);
      may_come = own.1;
      named = own.2;
      next = subst (λ h. slice_get trace (entries_before a) ≡ Some (entry_of exec.plan h a)) so_far here;
    }

-- where no entry can break off, all are taken
pub taken-always : {X Q : Type 0} (result : Result X Failed) (exec : Executive) (trace : List Entry) → OnErr result (BreaksOff (λ told. ⊥) exec trace) → OnOk result Q → Q
taken-always (Ok x) exec trace breaks ok = ok
taken-always (Err e) exec trace breaks ok = absurd breaks.broke

-- a replay that has stopped without a next arrival
module _ (Took : List Entry → Type 0) (exec : Executive) (trace : List Entry) (n : ℕ) (next : Option Arrival) (s : IsStopped Took exec trace n next) (none : next ≡ None) where
  -- what was told and the end are the trace
  whole-end : s.told ++ end_entry n ∷ [] ≡ trace
  whole-end =
      subst (λ o. s.told ++ entries_from exec.plan n (history_of s.told) o s.later ≡ trace) none s.whole

  -- where the end is taken all is
  pub all-taken : (Longer : List Entry → Type 0) → Longer (s.told ++ end_entry n ∷ []) → Longer trace
  all-taken Longer took = subst Longer whole-end took

  -- the executive stands for the history of all
  pub all-stands : StandsFor exec (history_of trace)
  all-stands =
      let longer = StandsFor-end exec (history_of s.told) s.stands in
      subst (λ es. StandsFor exec (history_of es)) whole-end (subst (StandsFor exec) (sym (history_of-more s.told (end_entry n))) longer)

  -- and where the end is not taken, the trace breaks off at it
  pub BreaksOff-end : (Broke : List Entry → Type 0) → Broke (s.told ++ end_entry n ∷ []) → BreaksOff Broke exec trace
  BreaksOff-end Broke broke =
      BreaksOff-after Broke exec s.told [] trace (end_entry n) whole-end broke (StandsFor-end exec (history_of s.told) s.stands)

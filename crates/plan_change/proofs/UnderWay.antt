-- An offer that has no room after others: all of them cannot be served, and the evidence shows it.
use Rattle.std.proofs.Common.{◌≡◌, ℕ, ◌+◌, ◌-◌, ◌*◌, ◌<◌, ◌≤◌, true, cond, List, [], ◌∷◌, ◌++◌, refl, sym, ap, ◌∙◌, inl, inr, arith}
use Rattle.std.specs.Prelude.{nat_le}
use Rattle.std.proofs.Math.Nat.{zero-div}
use Rattle.std.proofs.lemmas.Bool.{cases_lt}
use Rattle.std.proofs.lemmas.Bool.Decides.{nat_tests}
use Rattle.slot_core.specs.declared.jobs.Evidence.{Evidence}
use Rattle.slot_core.specs.declared.tasks.TaskSet.{TaskSet}
use Rattle.slot_core.specs.declared.events.What.TheVariants.{Firm}
use Rattle.slot_core.specs.declared.events.Firm.{Firm as FirmAnswer}
use Rattle.slot_core.specs.declared.events.Firm.TheVariants.{Accepted, NoRoom}
use Rattle.slot_core.specs.Sets.Cycles.{cycle_of}
use Rattle.slot_core.specs.Sets.Ranges.{is_sound}
use Rattle.slot_core.specs.Feasibility.Feasible.{IsFeasible}
use Rattle.slot_core.specs.Keeping.Executives.{Executive, StandsFor}
use Rattle.slot_core.specs.Runs.Answers.{firm_answer}
use Rattle.slot_core.specs.Runs.Demand.{need_by, work_by}
use Rattle.slot_core.specs.Runs.Histories.{History, time_of}
use Rattle.slot_core.specs.Runs.Scenes.{horizon, scene_of}
use Rattle.slot_core.specs.Runs.Traces.{started}
use Rattle.slot_facts.proofs.Offers.Answers.{short-from_no_room}
use Rattle.plan_change.specs.declared.offers.Offer.{Offer}
use Rattle.plan_change.specs.Changed.{CanStartWith, HasNoRoom}
use Rattle.plan_change.specs.Offers.{accepted_after, AllAccepted, first_jobs, MayBeOffered}
use Rattle.plan_change.proofs.FirstOffers.{due-first, first_exactly}
use Rattle.plan_change.proofs.Together.{fit-from_accepted, need-after, work_by-offers}

-- offers and more offers
accepted_after-append : (h : History) (xs ys : List Offer) → accepted_after h (xs ++ ys) ≡ accepted_after (accepted_after h xs) ys
accepted_after-append h [] ys = refl
accepted_after-append h (x ∷ xs) ys = accepted_after-append (Firm x.row x.slots x.within Accepted ∷ h) xs ys

pub AllAccepted-append : (set : TaskSet) (cycle : ℕ) (h : History) (xs ys : List Offer) → AllAccepted set cycle h xs → AllAccepted set cycle (accepted_after h xs) ys → AllAccepted set cycle h (xs ++ ys)
AllAccepted-append set cycle h [] ys first second = second
AllAccepted-append set cycle h (x ∷ xs) ys first second =
    (first.0, AllAccepted-append set cycle (Firm x.row x.slots x.within Accepted ∷ h) xs ys first.1 second)

AllAccepted-rest : (set : TaskSet) (cycle : ℕ) (h : History) (xs ys : List Offer) → AllAccepted set cycle h (xs ++ ys) → AllAccepted set cycle (accepted_after h xs) ys
AllAccepted-rest set cycle h [] ys all = all
AllAccepted-rest set cycle h (x ∷ xs) ys all =
    AllAccepted-rest set cycle (Firm x.row x.slots x.within Accepted ∷ h) xs ys all.1

MayBeOffered-front : (cycle row : ℕ) (xs ys : List Offer) → MayBeOffered cycle row (xs ++ ys) → MayBeOffered cycle row xs
MayBeOffered-front cycle row [] ys may = tt
MayBeOffered-front cycle row (x ∷ xs) ys may = (may.0, MayBeOffered-front cycle x.row xs ys may.1)

-- they take no slot
pub time-accepted : (h : History) (offers : List Offer) → time_of (accepted_after h offers) ≡ time_of h
time-accepted h [] = refl
time-accepted h (offer ∷ offers) = time-accepted (Firm offer.row offer.slots offer.within Accepted ∷ h) offers

counts-due : (dl slots x : ℕ) → dl ≤ x → cond (nat_le (0 + dl) x) slots 0 ≡ slots
counts-due dl slots x due = grind (arith, nat_tests)

counts-later : (dl slots x : ℕ) → x < dl → cond (nat_le (0 + dl) x) slots 0 ≡ 0
counts-later dl slots x late = grind (arith, nat_tests)

-- the work of one more offer at the end
work-more : (before : List Offer) (offer : Offer) (x : ℕ) → work_by (first_jobs (before ++ offer ∷ [])) x ≡ work_by (first_jobs before) x + cond (nat_le (0 + offer.within) x) offer.slots 0
work-more [] offer x = omega (arith, work_by-offers 0 offer [] x)
work-more (first ∷ before) offer x =
    omega (arith, work_by-offers 0 first (before ++ offer ∷ []) x, work_by-offers 0 first before x, work-more before offer x)

-- an offer that has no room after others
module _ (set : TaskSet) (sound : is_sound set ≡ true) (feasible : IsFeasible set (cycle_of set)) (before rest : List Offer) (offer : Offer) (may : MayBeOffered (cycle_of set) 0 (before ++ offer ∷ rest)) (accepted : AllAccepted set (cycle_of set) started before) (e : Evidence) (answer : firm_answer set.sporadics (cycle_of set) (scene_of set (cycle_of set) (accepted_after started before)) offer.slots offer.within ≡ NoRoom e) where
  -- then all of them cannot be served
  none-together : ¬ (CanStartWith set (before ++ offer ∷ rest))
  none-together can =
      let all = (first_exactly set (before ++ offer ∷ rest) sound feasible may).1 can in
      let here = (AllAccepted-rest set (cycle_of set) started before (offer ∷ rest) all).0 in
      cc (sym here ∙ answer)

  -- and the evidence shows it
  no_room-shown : HasNoRoom set (before ++ offer ∷ rest) (record { row = offer.row; evidence = e })
  no_room-shown =
      let cycle = cycle_of set in
      let h = accepted_after started before in
      let scene = scene_of set cycle h in
      let x = e.until in
      let front = MayBeOffered-front cycle 0 before (offer ∷ rest) may in
      let short = short-from_no_room set.sporadics cycle scene offer.slots offer.within e answer in
      let now : time_of h ≡ 0 = time-accepted started before in
      let due : offer.within ≤ x = omega (arith, short.after, now) in
      let ends : horizon cycle (time_of h) ≡ 3 * cycle = ap (horizon cycle) now ∙ ap (λ n. (n + 3) * cycle) (zero-div cycle) in
      let needed = need-after set sound feasible started before x tt front accepted in
      let at_zero : need_by set.sporadics scene (time_of h) x ≡ need_by set.sporadics scene 0 x = ap (λ (t : ℕ). need_by set.sporadics scene t x) now in
      let need : e.need ≡ offer.slots + need_by set.sporadics scene (time_of h) x = ap (λ (f : Evidence). f.need) short.exact in
      let room : e.room ≡ x - time_of h = ap (λ (f : Evidence). f.room) short.exact in
      record {
        before = before;
        offer = offer;
        rest = rest;
        parts = refl;
        row = refl;
        fits = (first_exactly set before sound feasible front).0 accepted;
        due = due;
        near = omega (arith, short.before, ends);
        need = omega (
          arith,
          need,
          at_zero,
          needed,
          due-first set (before ++ offer ∷ []) x sound,
          work-more before offer x,
          counts-due offer.within offer.slots x due,
        );
        room = omega (arith, room, now);
        more = omega (arith, short.short, need, room);
        least = λ y early. elim (cases_lt y offer.within) [
          | inl sooner ↦
              let fit = fit-from_accepted set sound feasible started before tt front accepted y (omega arith) (omega (arith, early, short.before, ends)) in
              omega (arith, due-first set (before ++ offer ∷ []) y sound, work-more before offer y, counts-later offer.within offer.slots y sooner, fit)
          | inr later ↦
              let low : offer.within ≤ y = omega (arith, later) in
              let fit = short.least y (omega (arith, low, now)) early in
              let moved : need_by set.sporadics scene (time_of h) y ≡ need_by set.sporadics scene 0 y = ap (λ (t : ℕ). need_by set.sporadics scene t y) now in
              omega (
                arith,
                due-first set (before ++ offer ∷ []) y sound,
                work-more before offer y,
                counts-due offer.within offer.slots y low,
                need-after set sound feasible started before y tt front accepted,
                moved,
                fit,
                now,
              )
        ];
      }

  pub refused-here : (¬ (CanStartWith set (before ++ offer ∷ rest))) × HasNoRoom set (before ++ offer ∷ rest) (record { row = offer.row; evidence = e })
  refused-here = (none-together, no_room-shown)

-- what an offer was answered at each history that the executive stood for
abbrev pub IsAnswered : Executive → Offer → FirmAnswer → Type 0
IsAnswered exec offer answer =
    (h : History) → StandsFor exec h
    → firm_answer exec.plan.tasks.sporadics exec.plan.cycle (scene_of exec.plan.tasks exec.plan.cycle h) offer.slots offer.within ≡ answer

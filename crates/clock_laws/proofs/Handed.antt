-- Alarms that keep their separations are legal arrivals, and are served in time.
use Rattle.std.proofs.Common.{◌≡◌, ℕ, ◌+◌, ◌-◌, ◌*◌, ◌≤◌, ◌<◌, Bool, true, false, cond, ◌==◌, List, [], ◌∷◌, length, map, refl, sym, ap, ◌∙◌, subst, inl, inr, arith}
use Rattle.std.proofs.Math.Nat.{add-mul, mul-le-mul_right}
use Rattle.std.proofs.lemmas.Bool.{cases_Bool}
use Rattle.std.proofs.lemmas.Grind.{div_ceil_times}
use Rattle.std.proofs.lemmas.List.Elements.{All-map}
use Rattle.std.proofs.lemmas.Option.{slice_get_within, same_Some}
use Rattle.slot_core.specs.declared.tasks.Sporadic.{Sporadic}
use Rattle.slot_core.specs.Feasibility.Sporadics.{AreSpaced, times_of}
use Rattle.slot_facts.proofs.Sets.Tasks.{slice_get-within}
use Rattle.clock_units.specs.declared.sets.PhysicalSporadic.{PhysicalSporadic}
use Rattle.clock_units.specs.Rounding.{down, up}
use Rattle.clock_units.specs.Derived.{longest_wait, planned_separation, sporadic_of}
use Rattle.clock_units.proofs.Parts.{SetParts-from_Ok, each-length, SporadicParts}
use Rattle.clock_units.proofs.Roundings.{le-down, down-le, up-boundary}
use Rattle.clock_laws.specs.Handed.{handed_over, IsAtBoundary, AlarmsStayLegal, AlarmsAreInTime}
use Rattle.clock_laws.proofs.Parts.{worth, SporadicAt-from_derived, some-slot}
use Rattle.clock_laws.proofs.Roundings.{separation-handed}

-- the times of a task's alarms, handed over
times-handed : (slot index : ℕ) (alarms : List (ℕ × ℕ)) → times_of index (handed_over slot alarms) ≡ map (λ t. up slot t) (times_of index alarms)
times-handed slot index [] = refl
times-handed slot index (a ∷ alarms) =
    elim (cases_Bool (a.0 == index)) [
      | inl its ↦ rw its (ap (λ (ts : List ℕ). up slot a.1 ∷ ts) (times-handed slot index alarms))
      | inr other ↦ rw other (times-handed slot index alarms)
    ]

-- times that are spaced are spaced, handed over, by as many slots as fit into the separation
spaced-handed : (slot separation n from first : ℕ) (times : List ℕ) → 0 < slot → n ≤ down slot separation → ((t : ℕ) → from ≤ t → first ≤ up slot t) → AreSpaced separation from times → AreSpaced n first (map (λ t. up slot t) times)
spaced-handed slot separation n from first [] some few early spaced = tt
spaced-handed slot separation n from first (t ∷ times) some few early spaced =
    (early t spaced.0, spaced-handed slot separation n (t + separation) (up slot t + n) times some few (λ u after. separation-handed slot separation n t u some few after) spaced.1)

-- the separation in slots fits into the physical one
pub separation-fits : (slot worth : ℕ) (own : PhysicalSporadic) (s : Sporadic) → 0 < slot → SporadicParts slot worth own s → s.separation ≤ down slot own.separation
separation-fits slot worth own s some parts =
    let fits = down-le slot s.separation (planned_separation own) some (omega (arith, parts.separation.is)) in
    le-down slot s.separation own.separation some (omega (arith, fits))

pub alarms_stay_legal : AlarmsStayLegal
alarms_stay_legal physical set alarms derived kept =
    let some = (some-slot physical set derived).0 in
    let count = each-length (sporadic_of physical.slot (worth physical)) 0 physical.sporadics set.sporadics (SetParts-from_Ok physical set derived).sporadics in
    record {
      named = All-map (λ (a : ℕ × ℕ). a.0 < length set.sporadics) (λ (a : ℕ × ℕ). (a.0, up physical.slot a.1)) alarms (rw count kept.named);
      spaced = λ index s at.
          let (own, own_at) = slice_get-within physical.sporadics index (omega (arith, count, slice_get_within set.sporadics index s at)) in
          let found = SporadicAt-from_derived physical set index own derived own_at in
          let same : found.sporadic ≡ s = same_Some found.sporadic s (sym found.at ∙ at) in
          let fits : s.separation ≤ down physical.slot own.separation = subst (λ (x : Sporadic). x.separation ≤ down physical.slot own.separation) same (separation-fits physical.slot (worth physical) own found.sporadic some found.parts) in
          rw times-handed (spaced-handed physical.slot own.separation s.separation 0 0 (times_of index alarms) some fits (λ t h. omega arith) (kept.spaced index own own_at));
    }

-- an alarm is handed over no later than its longest wait
handed-soon : (slot at : ℕ) (own : PhysicalSporadic) → 0 < slot → (own.at_boundaries ≡ true → IsAtBoundary slot at) → up slot at * slot ≤ at + longest_wait slot own
handed-soon slot at own some polled = by_flag own.at_boundaries refl
  where
    by_flag : (b : Bool) → own.at_boundaries ≡ b → up slot at * slot ≤ at + cond b 0 slot
    by_flag true is = omega (arith, up-boundary slot at some (polled is))
    by_flag false is = omega (arith, (div_ceil_times at slot some).1)

-- its deadline in slots, from where it is handed over, lies before the physical one
pub alarm-in_time : (slot worth at end : ℕ) (own : PhysicalSporadic) (s : Sporadic) → 0 < slot → SporadicParts slot worth own s → (own.at_boundaries ≡ true → IsAtBoundary slot at) → end ≤ up slot at + s.deadline → end * slot ≤ at + own.deadline
alarm-in_time slot worth at end own s some parts polled ends =
    let wait = longest_wait slot own in
    let fits = down-le slot s.deadline (own.deadline - wait) some (omega (arith, parts.deadline.is)) in
    let one : 1 * slot ≤ s.deadline * slot = mul-le-mul_right slot parts.deadline.least in
    omega (arith, fits, one, handed-soon slot at own some polled, mul-le-mul_right slot ends, add-mul (up slot at) s.deadline slot)

pub alarms_are_in_time : AlarmsAreInTime
alarms_are_in_time physical set index at end own s derived own_at s_at polled ends =
    let found = SporadicAt-from_derived physical set index own derived own_at in
    let same : found.sporadic ≡ s = same_Some found.sporadic s (sym found.at ∙ s_at) in
    let parts : SporadicParts physical.slot (worth physical) own s = subst (SporadicParts physical.slot (worth physical) own) same found.parts in
    alarm-in_time physical.slot (worth physical) at end own s (some-slot physical set derived).0 parts polled ends

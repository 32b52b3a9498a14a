-- An alarm that keeps its separation is taken.
use Rattle.std.proofs.Common.{◌≡◌, ℕ, zero, suc, ◌+◌, ◌≤◌, ◌<◌, Bool, true, false, cond, ◌==◌, nat_lt, List, [], ◌∷◌, map, Some, refl, sym, ap, ◌∙◌, arith}
use Rattle.std.specs.Prelude.{slice_get, slice_index}
use Rattle.std.specs.List.{enumerate_from}
use Rattle.std.proofs.lemmas.Bool.{le-ltb, eqb-true}
use Rattle.slot_core.specs.declared.tasks.Sporadic.{Sporadic}
use Rattle.slot_core.specs.declared.events.What.{What}
use Rattle.slot_core.specs.declared.events.What.TheVariants.{Sporadic as SporadicEntry}
use Rattle.slot_core.specs.declared.events.Spo.TheVariants.{Taken}
use Rattle.slot_core.specs.Runs.Histories.{History, time_of, next_arrival}
use Rattle.slot_core.specs.Runs.Scenes.{next_arrivals}
use Rattle.clock_units.specs.Rounding.{down, up}
use Rattle.clock_laws.specs.Handed.{CameBefore, AlarmsAreTaken}
use Rattle.clock_laws.proofs.Handed.{separation-fits}
use Rattle.clock_laws.proofs.Parts.{worth, SporadicAt-from_derived, some-slot}
use Rattle.clock_laws.proofs.Roundings.{separation-handed}

-- the next legal arrival of the task at a place
next-at : (ss : List Sporadic) (h : History) (n k i : ℕ) (s : Sporadic) → slice_get ss k ≡ Some s → n + k ≡ i → slice_index (map (λ (p : ℕ × Sporadic). next_arrival p.0 p.1.separation h) (enumerate_from n ss)) k ≡ next_arrival i s.separation h
next-at [] h n k i s at is = cc
next-at (z ∷ ss) h n zero i s at is =
    let same : z ≡ s = cc in
    let here : n ≡ i = omega arith in
    ap (λ (x : Sporadic). next_arrival n x.separation h) same ∙ ap (λ m. next_arrival m s.separation h) here
next-at (z ∷ ss) h n (suc k) i s at is = next-at ss h (n + 1) k i s at (omega arith)

came-before : (slot separation index at : ℕ) (what : What) (h : History) → CameBefore slot separation index at (what ∷ h) → CameBefore slot separation index at h
came-before slot separation index at what h came =
    λ row due earlier follows. came row due earlier (what ∷ follows.0, ap (λ (l : History). what ∷ l) follows.1)

-- where the alarms that were taken came a separation ago, the next may come now
next-by : (slot separation n index at : ℕ) (h : History) → 0 < slot → n ≤ down slot separation → CameBefore slot separation index at h → next_arrival index n h ≤ up slot at
next-by slot separation n index at [] some few came = omega arith
next-by slot separation n index at (SporadicEntry row i (Taken due) ∷ h) some few came =
    let before = next-by slot separation n index at h some few (came-before slot separation index at (SporadicEntry row i (Taken due)) h came) in
    by_task (index == i) refl before
  where
    by_task : (b : Bool) → (index == i) ≡ b → next_arrival index n h ≤ up slot at → cond b (time_of h + n) (next_arrival index n h) ≤ up slot at
    by_task false other before = before
    by_task true its before =
        let same : index ≡ i = eqb-true index i its in
        let last = came row due h ([], ap (λ j. SporadicEntry row j (Taken due) ∷ h) (sym same)) in
        let apart = separation-handed slot separation n last.0 at some few last.2 in
        omega (arith, last.1, apart)
next-by slot separation n index at (what ∷ h) some few came =
    next-by slot separation n index at h some few (came-before slot separation index at what h came)

pub alarms_are_taken : AlarmsAreTaken
alarms_are_taken physical set h index at own derived own_at now came =
    let some = (some-slot physical set derived).0 in
    let found = SporadicAt-from_derived physical set index own derived own_at in
    let s = found.sporadic in
    let fits = separation-fits physical.slot (worth physical) own s some found.parts in
    let next = next-at set.sporadics h 0 index index s found.at (omega arith) in
    let by = next-by physical.slot own.separation s.separation index at h some fits came in
    let not_soon : nat_lt (time_of h) (slice_index (next_arrivals set.sporadics h) index) ≡ false = le-ltb (time_of h) (slice_index (next_arrivals set.sporadics h) index) (omega (arith, next, by, now)) in
    rw not_soon refl

-- A change is refused exactly where it cannot be served, by a true evidence.
use Rattle.std.proofs.Common.{◌≡◌, ℕ, ◌+◌, ◌-◌, ◌*◌, ◌<◌, ◌≤◌, Bool, true, false, List, [], Option, Some, None, refl, sym, ap, ◌∙◌, subst, inl, inr, arith}
use Rattle.std.specs.Prelude.{find, nat_lt, option_map}
use Rattle.std.specs.List.{range_with_len}
use Rattle.std.proofs.lemmas.Bool.{both_ways, cases_order, ltb-true, ltb-false, lt-ltb, le-ltb}
use Rattle.slot_core.specs.declared.jobs.Job.{Job}
use Rattle.slot_core.specs.declared.jobs.Evidence.{Evidence}
use Rattle.slot_core.specs.declared.tasks.TaskSet.{TaskSet}
use Rattle.slot_core.specs.Sets.Cycles.{cycle_of}
use Rattle.slot_core.specs.Feasibility.Sporadics.{densest_pattern}
use Rattle.slot_core.specs.Claims.Futures.{pattern_jobs}
use Rattle.slot_facts.proofs.Lists.Members.{Has-range_with_len, Has-range_with_len_bounds}
use Rattle.slot_facts.proofs.Lists.Tests.{find-Some, None-from_fails}
use Rattle.slot_facts.proofs.Lists.RangeSearch.{least-from_find}
use Rattle.slot_facts.proofs.Sets.Faults.{find-None, option_map-None}
use Rattle.slot_facts.proofs.Scheduling.Extras.{AreExtra-pattern, separated-from_sound}
use Rattle.slot_facts.proofs.Scheduling.Beside.{closed_beside}
use Rattle.slot_facts.proofs.Patterns.Densest.{the_densest_pattern_needs_all}
use Rattle.change_laws.specs.Carried.{cycles_of_change, jobs_after}
use Rattle.change_laws.specs.Demand.{due_after, FitsFor, first_short, shortage_at, refusal_of, ShowsNoRoom}
use Rattle.change_laws.specs.Laws.{RefusalsAreExact, TheDensestPatternShowsNoRoom}
use Rattle.change_laws.proofs.GrantJobs.{jobs_after-own, jobs_after-wait}
use Rattle.change_laws.proofs.GrantExact.{changes_are_exact}

abbrev evidence : ℕ → ℕ → ℕ → Evidence
evidence until need room = record { until = until; need = need; room = room }

-- what a map of an option gives comes from its value
from_mapped : {X Y : Type 0} (f : X → Y) (o : Option X) (y : Y) → option_map f o ≡ Some y → (x : X) × (o ≡ Some x) × (f x ≡ y)
from_mapped f None y given = absurd (cc given)
from_mapped f (Some x) y given = (x, refl, cc given)

-- the least number of a range that passes is what a search finds
found-least : (p : ℕ → Bool) (a n k : ℕ) → a ≤ k → k < a + n → p k ≡ true → ((m : ℕ) → a ≤ m → m < k → p m ≡ false) → (o : Option ℕ) → find p (range_with_len a n) ≡ o → o ≡ Some k
found-least p a n k low high passes least None found =
    absurd (both_ways (p k) (find-None p (range_with_len a n) k found (Has-range_with_len a n k low high)) passes)
found-least p a n k low high passes least (Some x) found =
    let own = find-Some p (range_with_len a n) x found in
    let within = Has-range_with_len_bounds a n x own.0 in
    elim (cases_order x k) [
      | inl same ↦ ap Some same
      | inr (inl below) ↦ absurd (both_ways (p x) (least x within.0 below) own.1)
      | inr (inr above) ↦ absurd (both_ways (p k) (least-from_find p a n x found k low above) passes)
    ]

module _ (set : TaskSet) (c : ℕ) (carried : List Job) where
  abbrev cycles : ℕ
  cycles = cycles_of_change (cycle_of set) c carried

  abbrev due : ℕ → ℕ
  due x = due_after set c carried cycles x

  abbrev short : ℕ → Bool
  short x = nat_lt x (due x)

  -- where no time is short, all fits
  fits-from_none : first_short set c carried cycles ≡ None → FitsFor set c carried cycles
  fits-from_none none = λ x low high.
      ltb-false x (due x) (find-None short (range_with_len 1 (cycles * cycle_of set)) x none (Has-range_with_len 1 (cycles * cycle_of set) x low (omega (arith, high))))

  -- and the other way round
  none-from_fits : FitsFor set c carried cycles → first_short set c carried cycles ≡ None
  none-from_fits fits =
      None-from_fails short (range_with_len 1 (cycles * cycle_of set))
      (λ x at.
      let within = Has-range_with_len_bounds 1 (cycles * cycle_of set) x at in
      le-ltb x (due x) (fits x within.0 (omega (arith, within.1))))

  -- the evidence of the first short time shows that there is no room
  shown_at : (x : ℕ) → first_short set c carried cycles ≡ Some x → ShowsNoRoom set c carried (shortage_at set c carried cycles x)
  shown_at x found =
      let range = range_with_len 1 (cycles * cycle_of set) in
      let own = find-Some short range x found in
      let within = Has-range_with_len_bounds 1 (cycles * cycle_of set) x own.0 in
      let since : x ≡ c + x - c = omega arith in
      record {
        after = omega (arith, within.0);
        within = omega (arith, within.1);
        need = ap due since;
        room = since;
        more = ltb-true x (due x) own.1;
        least = λ y low before. ltb-false y (due y) (least-from_find short 1 (cycles * cycle_of set) x found y low (omega (arith, before)));
      }

  pub shows-from_refusal : (e : Evidence) → refusal_of set c carried ≡ Some e → ShowsNoRoom set c carried e
  shows-from_refusal e refused =
      let (x, found, same) = from_mapped (shortage_at set c carried cycles) (first_short set c carried cycles) e refused in
      subst (ShowsNoRoom set c carried) same (shown_at x found)

  -- and an evidence that shows it is that one
  pub refusal-from_shows : (e : Evidence) → ShowsNoRoom set c carried e → refusal_of set c carried ≡ Some e
  refusal-from_shows e shows =
      let x = e.until - c in
      let end : c + x ≡ e.until = omega (arith, shows.after) in
      let found = found-least short 1 (cycles * cycle_of set) x (omega (arith, shows.after)) (omega (arith, shows.within, shows.after)) (lt-ltb x (due x) (omega (arith, shows.more, shows.need, shows.room)))
      (λ y low before. le-ltb y (due y) (shows.least y low (omega (arith, before, end))))
      (first_short set c carried cycles) refl in
      ap (λ o. option_map (shortage_at set c carried cycles) o) found ∙ ap Some (ap (λ (u : ℕ). evidence u (due x) x) end ∙ (ap (λ (n : ℕ). evidence e.until n x) (sym shows.need) ∙ ap (λ (r : ℕ). evidence e.until e.need r) (sym shows.room)))

-- a change is refused exactly where it cannot be served
pub refusals_are_exact : RefusalsAreExact
refusals_are_exact set c row carried sound feasible own =
    let cycles = cycles_of_change (cycle_of set) c carried in
    let exact = changes_are_exact set c row cycles carried sound feasible own in (
      (
        λ none. exact.1 (fits-from_none set c carried (option_map-None (shortage_at set c carried cycles) (first_short set c carried cycles) none)),
        λ can. ap (λ o. option_map (shortage_at set c carried cycles) o) (none-from_fits set c carried (exact.0 can)),
      ),
      λ e. (shows-from_refusal set c carried e, refusal-from_shows set c carried e),
    )

-- and the densest pattern shows it
pub the_densest_pattern_shows_no_room : TheDensestPatternShowsNoRoom
the_densest_pattern_shows_no_room set c row carried e sound own refused =
    let cycles = cycles_of_change (cycle_of set) c carried in
    let shows = shows-from_refusal set c carried e refused in
    let x = e.until - c in
    let extra = pattern_jobs set.sporadics (row + 1) (densest_pattern 0 set.sporadics [] 0 x) in
    let densest = the_densest_pattern_needs_all set.sporadics [] 0 (row + 1) x x (separated-from_sound set sound) (omega arith) in (
      densest.0,
      λ schedule.
          let closed = closed_beside set cycles (row + 1) 0 x (jobs_after set c carried cycles) extra sound (jobs_after-own set c row cycles carried sound own).planned (jobs_after-wait set c cycles carried) (AreExtra-pattern set [] 0 (row + 1) (row + 1) (densest_pattern 0 set.sporadics [] 0 x) sound (omega arith) densest.0) (omega (arith, shows.within, shows.after)) schedule in
          absurd (omega (arith, closed, densest.1, shows.need, shows.room, shows.more)),
    )

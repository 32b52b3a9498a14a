-- Jobs beside those of a scene: an offer, and the jobs of a pattern of sporadic arrivals.
use Rattle.std.proofs.Common.{◌≡◌, ℕ, ◌+◌, ◌<◌, ◌≤◌, max, true, false, cond, ◌==◌, List, [], ◌∷◌, length, refl, ap, subst, inl, inr, arith}
use Rattle.std.specs.Prelude.{slice_get, slice_index_or, filter}
use Rattle.std.specs.Option.{option_map_or}
use Rattle.std.proofs.lemmas.Bool.{eq-eqb}
use Rattle.std.proofs.lemmas.List.Elements.{recursion_from_All, All-weaker}
use Rattle.std.proofs.lemmas.List.Sums.{sum_by-cons, AllPass-from_list_all}
use Rattle.slot_core.specs.declared.TheConstants.{SLOT_LIMIT}
use Rattle.slot_core.specs.declared.jobs.Job.{Job}
use Rattle.slot_core.specs.declared.tasks.Sporadic.{Sporadic}
use Rattle.slot_core.specs.declared.tasks.TaskSet.{TaskSet}
use Rattle.slot_core.specs.Offline.Keys.{is_offline, row_of, same_key}
use Rattle.slot_core.specs.Sets.Ranges.{is_sound, sporadic_in_range}
use Rattle.slot_core.specs.Runs.Histories.{sporadic_job}
use Rattle.slot_core.specs.Feasibility.Sporadics.{AreSpaced, times_of, IsLegalPattern}
use Rattle.slot_core.specs.Claims.Futures.{pattern_jobs}
use Rattle.slot_core.specs.Keeping.Kept.{AreApart}
use Rattle.slot_facts.specs.Patterns.{AreSeparated}
use Rattle.slot_facts.proofs.Lists.Members.{Has, Has-map, Has-filter, AllByRecursion-at_Has, Has-from_slice_get, passes_from_list_all}
use Rattle.slot_facts.proofs.Sets.Tasks.{slice_get-within}
use Rattle.slot_facts.proofs.Lists.Sums.{cond-le}
use Rattle.slot_facts.proofs.Lists.ApartKeys.{AreApart-append}
use Rattle.slot_facts.proofs.Sets.Ranges.{bounds, SporadicRanges-from_test, SetRanges-from_sound}

-- jobs that are not offline, have a slot left, and stand in rows of their own from this one on
pub record AreExtra (row : ℕ) (jobs : List Job) : Type 0 where
  pub other : (job : Job) → Has jobs job → is_offline job.key ≡ false
  pub above : (job : Job) → Has jobs job → row ≤ row_of job.key
  pub some : (job : Job) → Has jobs job → 1 ≤ job.left
  pub apart : AreApart jobs

-- no jobs
pub AreExtra-nil : (row : ℕ) → AreExtra row []
AreExtra-nil row =
    record {
      other = λ job at. absurd at;
      above = λ job at. absurd at;
      some = λ job at. absurd at;
      apart = λ key. omega arith;
    }

-- one job alone
one_apart : (job : Job) → AreApart (job ∷ [])
one_apart job = λ key.
    omega (arith, sum_by-cons (λ (j : Job). cond (same_key j.key key) 1 0) job [], cond-le (same_key job.key key) 1)

-- and one more job in a lower row
pub AreExtra-cons : (row : ℕ) (job : Job) (jobs : List Job) → is_offline job.key ≡ false → row ≤ row_of job.key → 1 ≤ job.left → AreExtra (row_of job.key + 1) jobs → AreExtra row (job ∷ jobs)
AreExtra-cons row job jobs other above some rest =
    record {
      other = λ j at. elim at [ inl e ↦ subst (λ (k : Job). is_offline k.key ≡ false) e other | inr m ↦ rest.other j m ];
      above = λ j at. elim at [ inl e ↦ subst (λ (k : Job). row ≤ row_of k.key) e above | inr m ↦ omega (arith, rest.above j m, above) ];
      some = λ j at. elim at [ inl e ↦ subst (λ (k : Job). 1 ≤ k.left) e some | inr m ↦ rest.some j m ];
      apart = AreApart-append
          (row_of job.key + 1)
          (job ∷ [])
          jobs
          (λ j at. elim at [ inl e ↦ omega (arith, ap (λ (k : Job). row_of k.key) e) | inr m ↦ absurd m ])
          rest.above
          (one_apart job)
          rest.apart;
    }

-- what soundness says of each sporadic task
pub separated-from_sound : (set : TaskSet) → is_sound set ≡ true → AreSeparated set.sporadics
separated-from_sound set sound =
    All-weaker
    (λ s. sporadic_in_range s ≡ true)
    (λ (s : Sporadic). 1 ≤ s.separation)
    (λ s h. (bounds 1 SLOT_LIMIT s.separation (SporadicRanges-from_test s h).separation).0)
    set.sporadics
    (AllPass-from_list_all sporadic_in_range set.sporadics (SetRanges-from_sound set sound).sporadics)

-- a job of a sporadic task has a slot
some_slots : (set : TaskSet) (index : ℕ) → is_sound set ≡ true → index < length set.sporadics → 1 ≤ option_map_or (λ (s : Sporadic). s.wcet) (slice_get set.sporadics index) 0
some_slots set index sound below =
    let m = slice_get-within set.sporadics index below in
    let passes = passes_from_list_all sporadic_in_range set.sporadics m.0 (SetRanges-from_sound set sound).sporadics (Has-from_slice_get set.sporadics index m.0 m.1) in
    let least = (bounds 1 SLOT_LIMIT m.0.wcet (SporadicRanges-from_test m.0 passes).wcet).0 in
    omega (arith, ap (λ o. option_map_or (λ (s : Sporadic). s.wcet) o 0) m.1, least)

-- the jobs of a pattern of tasks of the set stand in rows of their own
pattern-extra : (set : TaskSet) (below row : ℕ) (pattern : List (ℕ × ℕ)) → is_sound set ≡ true → below ≤ row → ((a : ℕ × ℕ) → Has pattern a → a.0 < length set.sporadics) → AreExtra below (pattern_jobs set.sporadics row pattern)
pattern-extra set below row [] sound low named = AreExtra-nil below
pattern-extra set below row (a ∷ pattern) sound low named =
    AreExtra-cons below (sporadic_job set.sporadics a.0 row a.1) (pattern_jobs set.sporadics (row + 1) pattern) refl low (some_slots set a.0 sound (named a (inl refl)))
    (pattern-extra set (row + 1) (row + 1) pattern sound (omega arith) (λ b at. named b (inr at)))

-- so do those of a legal pattern
pub AreExtra-pattern : (set : TaskSet) (nexts : List ℕ) (r below row : ℕ) (pattern : List (ℕ × ℕ)) → is_sound set ≡ true → below ≤ row → IsLegalPattern set.sporadics nexts r pattern → AreExtra below (pattern_jobs set.sporadics row pattern)
AreExtra-pattern set nexts r below row pattern sound low legal =
    pattern-extra set below row pattern sound low (λ a at. AllByRecursion-at_Has (λ (b : ℕ × ℕ). b.0 < length set.sporadics) pattern a (recursion_from_All _ pattern legal.named) at)

-- a job of a pattern starts when its arrival comes
arrival_of_member : (sporadics : List Sporadic) (row : ℕ) (pattern : List (ℕ × ℕ)) (job : Job) → Has (pattern_jobs sporadics row pattern) job → (a : ℕ × ℕ) × Has pattern a × (a.1 ≡ job.est)
arrival_of_member sporadics row [] job at = absurd at
arrival_of_member sporadics row (a ∷ pattern) job (inl e) = (a, inl refl, ap (λ (j : Job). j.est) e)
arrival_of_member sporadics row (a ∷ pattern) job (inr at) =
    let r = arrival_of_member sporadics (row + 1) pattern job at in
    (r.0, inr r.1, r.2)

-- spaced times from a time on are no earlier
spaced-from : (separation from t : ℕ) (ts : List ℕ) → AreSpaced separation from ts → Has ts t → from ≤ t
spaced-from separation from t [] spaced at = absurd at
spaced-from separation from t (u ∷ ts) spaced (inl e) = omega (arith, spaced.0)
spaced-from separation from t (u ∷ ts) spaced (inr at) =
    omega (arith, spaced.0, spaced-from separation (u + separation) t ts spaced.1 at)

-- and are spaced from each earlier time on
spaced-earlier : (separation from earlier : ℕ) (ts : List ℕ) → earlier ≤ from → AreSpaced separation from ts → AreSpaced separation earlier ts
spaced-earlier separation from earlier [] low spaced = tt
spaced-earlier separation from earlier (u ∷ ts) low spaced = (omega (arith, spaced.0), spaced.1)

-- the jobs of a legal pattern from r start at r or later
pub pattern_jobs-start : (sporadics : List Sporadic) (nexts : List ℕ) (r row : ℕ) (pattern : List (ℕ × ℕ)) (job : Job) → IsLegalPattern sporadics nexts r pattern → Has (pattern_jobs sporadics row pattern) job → r ≤ job.est
pattern_jobs-start sporadics nexts r row pattern job legal at =
    let (a, listed, starts) = arrival_of_member sporadics row pattern job at in
    let below = AllByRecursion-at_Has (λ (b : ℕ × ℕ). b.0 < length sporadics) pattern a (recursion_from_All _ pattern legal.named) listed in
    let s = slice_get-within sporadics a.0 below in
    let own = Has-map (λ (b : ℕ × ℕ). b.1) (filter (λ (b : ℕ × ℕ). b.0 == a.0) pattern) a (Has-filter (λ (b : ℕ × ℕ). b.0 == a.0) pattern a listed (eq-eqb a.0 a.0 refl)) in
    let late = spaced-from s.0.separation (max r (slice_index_or nexts a.0 0)) a.1 (times_of a.0 pattern) (legal.spaced a.0 s.0 s.1) own in
    omega arith

-- a legal pattern from a time on is one from each earlier time on
pub legal-earlier : (sporadics : List Sporadic) (nexts : List ℕ) (r earlier : ℕ) (pattern : List (ℕ × ℕ)) → earlier ≤ r → IsLegalPattern sporadics nexts r pattern → IsLegalPattern sporadics nexts earlier pattern
legal-earlier sporadics nexts r earlier pattern low legal =
    record {
      named = legal.named;
      spaced = λ index s at.
          spaced-earlier s.separation (max r (slice_index_or nexts index 0)) (max earlier (slice_index_or nexts index 0)) (times_of index pattern) (omega arith) (legal.spaced index s at);
    }

-- Patterns of arrivals from the change on, beside the same ones at their own times.
use Rattle.std.proofs.Common.{◌≡◌, ℕ, zero, suc, ◌+◌, ◌-◌, ◌<◌, ◌≤◌, max, Bool, true, false, cond, ◌==◌, List, [], ◌∷◌, length, map, Some, refl, sym, ap, ◌∙◌, subst, inl, inr, arith}
use Rattle.std.specs.Prelude.{slice_get, slice_index_or, filter}
use Rattle.std.proofs.lemmas.List.Elements.{All-from_recursion, recursion_from_All}
use Rattle.slot_core.specs.declared.jobs.Job.{Job}
use Rattle.slot_core.specs.declared.tasks.Sporadic.{Sporadic}
use Rattle.slot_core.specs.declared.tasks.TaskSet.{TaskSet}
use Rattle.slot_core.specs.Feasibility.Sporadics.{AreSpaced, times_of, IsLegalPattern}
use Rattle.slot_core.specs.Claims.Futures.{pattern_jobs}
use Rattle.slot_facts.proofs.Lists.Members.{Has, Has-map, Has-map_cases, AllByRecursion-from_Has, AllByRecursion-at_Has}
use Rattle.slot_facts.proofs.Scheduling.Extras.{pattern_jobs-start}
use Rattle.change_laws.specs.Literal.{nexts_at}
use Rattle.change_laws.proofs.GrantMoved.{AreMoved}

-- the arrival c later
abbrev later : ℕ → ℕ × ℕ → ℕ × ℕ
later c a = (a.0, a.1 + c)

-- and c earlier
abbrev earlier : ℕ → ℕ × ℕ → ℕ × ℕ
earlier c a = (a.0, a.1 - c)

abbrev pub moved_pattern : ℕ → List (ℕ × ℕ) → List (ℕ × ℕ)
moved_pattern c pattern = map (later c) pattern

abbrev pub pattern_since : ℕ → List (ℕ × ℕ) → List (ℕ × ℕ)
pattern_since c pattern = map (earlier c) pattern

-- a pattern from c on is one from 0 on, c later
back_again : (sporadics : List Sporadic) (c row : ℕ) (pattern : List (ℕ × ℕ)) → ((job : Job) → Has (pattern_jobs sporadics row pattern) job → c ≤ job.est) → pattern ≡ moved_pattern c (pattern_since c pattern)
back_again sporadics c row [] late = refl
back_again sporadics c row (a ∷ pattern) late =
    let here : c ≤ a.1 = late _ (inl refl) in
    let same : a.1 ≡ a.1 - c + c = omega (arith, here) in
    ap (λ (t : ℕ). (a.0, t) ∷ pattern) same ∙ ap (λ (rest : List (ℕ × ℕ)). (a.0, a.1 - c + c) ∷ rest) (back_again sporadics c (row + 1) pattern (λ job at. late job (inr at)))

pub moved-from_legal : (set : TaskSet) (c : ℕ) (pattern : List (ℕ × ℕ)) → IsLegalPattern set.sporadics (nexts_at set c) c pattern → pattern ≡ moved_pattern c (pattern_since c pattern)
moved-from_legal set c pattern legal =
    back_again set.sporadics c 0 pattern (λ job at. pattern_jobs-start set.sporadics (nexts_at set c) c 0 pattern job legal at)

-- the jobs of a pattern are moved with it
pub AreMoved-pattern : (set : TaskSet) (c row : ℕ) (pattern : List (ℕ × ℕ)) → AreMoved set c (pattern_jobs set.sporadics row pattern) (pattern_jobs set.sporadics row (moved_pattern c pattern))
AreMoved-pattern set c row [] = tt
AreMoved-pattern set c row (a ∷ pattern) = (
  record { key = refl; left = refl; release = omega arith; deadline = omega arith },
  AreMoved-pattern set c (row + 1) pattern,
)

-- the times of a task are
times-moved : (c index : ℕ) (pattern : List (ℕ × ℕ)) → times_of index (moved_pattern c pattern) ≡ map (λ t. t + c) (times_of index pattern)
times-moved c index [] = refl
times-moved c index (a ∷ pattern) =
    let rest = times-moved c index pattern in
    elim (a.0 == index) as (λ (b : Bool). map (λ (x : ℕ × ℕ). x.1) (cond b ((a.0, a.1 + c) ∷ filter (λ (x : ℕ × ℕ). x.0 == index) (moved_pattern c pattern)) (filter (λ (x : ℕ × ℕ). x.0 == index) (moved_pattern c pattern))) ≡ map (λ t. t + c) (map (λ (x : ℕ × ℕ). x.1) (cond b (a ∷ filter (λ (x : ℕ × ℕ). x.0 == index) pattern) (filter (λ (x : ℕ × ℕ). x.0 == index) pattern)))) [
      | true ↦ ap (λ (ts : List ℕ). (a.1 + c) ∷ ts) rest
      | false ↦ rest
    ]

-- and spaced as before
spaced-moved : (separation c from other : ℕ) (ts : List ℕ) → other ≡ from + c → AreSpaced separation from ts → AreSpaced separation other (map (λ t. t + c) ts)
spaced-moved separation c from other [] same spaced = tt
spaced-moved separation c from other (t ∷ ts) same spaced =
    (omega (arith, spaced.0), spaced-moved separation c (t + separation) (t + c + separation) ts (omega arith) spaced.1)

spaced-since : (separation c from other : ℕ) (ts : List ℕ) → other ≡ from + c → AreSpaced separation other (map (λ t. t + c) ts) → AreSpaced separation from ts
spaced-since separation c from other [] same spaced = tt
spaced-since separation c from other (t ∷ ts) same spaced =
    (omega (arith, spaced.0), spaced-since separation c (t + separation) (t + c + separation) ts (omega arith) spaced.1)

-- each task may first arrive at c
next_at : (c index : ℕ) (sporadics : List Sporadic) (s : Sporadic) → slice_get sporadics index ≡ Some s → slice_index_or (map (λ (t : Sporadic). c) sporadics) index 0 ≡ c
next_at c index [] s at = absurd (cc at)
next_at c zero (t ∷ ts) s at = refl
next_at c (suc index) (t ∷ ts) s at = next_at c index ts s at

-- so a pattern is legal from 0 on exactly where it is legal c later from c on
pub legal-moved : (set : TaskSet) (c : ℕ) (pattern : List (ℕ × ℕ)) → IsLegalPattern set.sporadics [] 0 pattern → IsLegalPattern set.sporadics (nexts_at set c) c (moved_pattern c pattern)
legal-moved set c pattern legal =
    let named = λ (a : ℕ × ℕ). a.0 < length set.sporadics in
    record {
      named = All-from_recursion named (moved_pattern c pattern) (AllByRecursion-from_Has named (moved_pattern c pattern)
          (λ a at.
          let (b, listed, same) = Has-map_cases (later c) pattern a at in
          subst named same (AllByRecursion-at_Has named pattern b (recursion_from_All named pattern legal.named) listed)));
      spaced = λ index s at.
          let next = next_at c index set.sporadics s at in
          let first : max c (slice_index_or (nexts_at set c) index 0) ≡ max 0 (slice_index_or [] index 0) + c = omega (arith, next) in
          subst (AreSpaced s.separation (max c (slice_index_or (nexts_at set c) index 0))) (sym (times-moved c index pattern)) (spaced-moved s.separation c (max 0 (slice_index_or [] index 0)) (max c (slice_index_or (nexts_at set c) index 0)) (times_of index pattern) first (legal.spaced index s at));
    }

pub legal-since : (set : TaskSet) (c : ℕ) (pattern : List (ℕ × ℕ)) → IsLegalPattern set.sporadics (nexts_at set c) c (moved_pattern c pattern) → IsLegalPattern set.sporadics [] 0 pattern
legal-since set c pattern legal =
    let named = λ (a : ℕ × ℕ). a.0 < length set.sporadics in
    record {
      named = All-from_recursion named pattern (AllByRecursion-from_Has named pattern
          (λ a at. AllByRecursion-at_Has named (moved_pattern c pattern) (later c a) (recursion_from_All named (moved_pattern c pattern) legal.named) (Has-map (later c) pattern a at)));
      spaced = λ index s at.
          let next = next_at c index set.sporadics s at in
          let first : max c (slice_index_or (nexts_at set c) index 0) ≡ max 0 (slice_index_or [] index 0) + c = omega (arith, next) in
          spaced-since s.separation c (max 0 (slice_index_or [] index 0)) (max c (slice_index_or (nexts_at set c) index 0)) (times_of index pattern) first (subst (AreSpaced s.separation (max c (slice_index_or (nexts_at set c) index 0))) (times-moved c index pattern) (legal.spaced index s at));
    }

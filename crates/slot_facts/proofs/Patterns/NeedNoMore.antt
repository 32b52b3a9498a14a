-- No legal pattern needs more than the densest arrivals.
use Rattle.std.proofs.Common.{◌≡◌, ℕ, ◌*◌, ◌<◌, ◌≤◌, max, cond, ◌&&◌, List, length, Some, refl, sym, ap, ◌∙◌, subst, arith}
use Rattle.std.specs.Prelude.{sum_by, nat_le, slice_get, slice_index_or}
use Rattle.std.proofs.lemmas.Bool.Decides.{nat_tests}
use Rattle.std.proofs.lemmas.List.Elements.{recursion_from_All}
use Rattle.std.proofs.lemmas.List.Sums.{sum_by-le-sum_by}
use Rattle.slot_core.specs.declared.jobs.Job.{Job}
use Rattle.slot_core.specs.declared.tasks.Sporadic.{Sporadic}
use Rattle.slot_core.specs.Runs.Histories.{sporadic_job}
use Rattle.slot_core.specs.Feasibility.Sporadics.{arrivals_due, sporadic_demand, times_of, IsLegalPattern}
use Rattle.slot_core.specs.Claims.Futures.{pattern_jobs}
use Rattle.slot_core.specs.Runs.Demand.{work_from}
use Rattle.slot_facts.specs.Patterns.{AreSeparated, PatternsNeedNoMore}
use Rattle.slot_facts.proofs.Lists.Members.{AllByRecursion-at_Has, Has-from_slice_get}
use Rattle.slot_facts.proofs.Demand.OneSlot.{sporadic_demand-later}
use Rattle.slot_facts.proofs.Patterns.Counts.{arrivals_due-from, spaced-le}
use Rattle.slot_facts.proofs.Patterns.Work.{pattern_jobs-sum, pattern_sum-le, work_by-le_work_from_0}

-- the slots of a job, where it starts at or after a and is due by x
abbrev slots_from : ℕ → ℕ → Job → ℕ
slots_from a x j = cond (nat_le a j.est && nat_le j.dl x) j.left 0

-- the arrivals of one task of a legal pattern
task_need : (sporadics : List Sporadic) (nexts : List ℕ) (r a x : ℕ) (pattern : List (ℕ × ℕ)) (j : ℕ) (s : Sporadic) → AreSeparated sporadics → IsLegalPattern sporadics nexts r pattern → slice_get sporadics j ≡ Some s → sum_by (λ t. slots_from a x (sporadic_job sporadics j 0 t)) (times_of j pattern) ≤ s.wcet * arrivals_due s (slice_index_or nexts j 0) (max a r) x
task_need sporadics nexts r a x pattern j s apart legal at =
    let next = slice_index_or nexts j 0 in
    let each = AllByRecursion-at_Has (λ (s : Sporadic). 1 ≤ s.separation) sporadics s (recursion_from_All _ sporadics apart) (Has-from_slice_get sporadics j s at) in
    let le = spaced-le s (max r next) a x (times_of j pattern) each (legal.spaced j s at) in
    let later : max a (max r next) ≡ max (max a r) next = omega arith in
    let same : s.wcet * arrivals_due s 0 (max a (max r next)) x ≡ s.wcet * arrivals_due s next (max a r) x = ap (λ n. s.wcet * n) (ap (λ b. arrivals_due s 0 b x) later ∙ sym (arrivals_due-from s next (max a r) x)) in
    rw at (rw (← same) le)

counts_at_0 : (n v : ℕ) → v ≤ cond (nat_le 0 n) v 0
counts_at_0 n v = grind (arith, nat_tests)

-- what a legal pattern from r needs from a on is no more than the densest arrivals from both on need
pattern_need : (sporadics : List Sporadic) (nexts : List ℕ) (r row a x : ℕ) (pattern : List (ℕ × ℕ)) → AreSeparated sporadics → IsLegalPattern sporadics nexts r pattern → work_from (pattern_jobs sporadics row pattern) a x ≤ sporadic_demand sporadics nexts (max a r) x
pattern_need sporadics nexts r row a x pattern apart legal =
    let g = λ (b : ℕ × ℕ). slots_from a x (sporadic_job sporadics b.0 0 b.1) in
    let named = recursion_from_All (λ (b : ℕ × ℕ). b.0 < length sporadics) pattern legal.named in
    omega (
      arith,
      pattern_jobs-sum sporadics (slots_from a x) row pattern (λ index row t. refl),
      sum_by-le-sum_by g (λ (b : ℕ × ℕ). cond (nat_le 0 b.0) (g b) 0) pattern (λ b. counts_at_0 b.0 (g b)),
      pattern_sum-le
          g
          pattern
          sporadics
          nexts
          0
          (max a r)
          x
          (λ b at. omega (arith, AllByRecursion-at_Has (λ (b : ℕ × ℕ). b.0 < length sporadics) pattern b named at))
          (λ j i s place at. let same : j ≡ i = omega arith in subst (λ k. sum_by (λ t. g (k, t)) (times_of k pattern) ≤ s.wcet * arrivals_due s (slice_index_or nexts j 0) (max a r) x) same (task_need sporadics nexts r a x pattern j s apart legal at)),
    )

-- no legal pattern needs more than the sporadic demand
pub patterns_need_no_more : PatternsNeedNoMore
patterns_need_no_more sporadics nexts r row x pattern apart legal =
    let jobs = pattern_jobs sporadics row pattern in
    let from_r : max 0 r ≡ r = omega arith in
    let same : sporadic_demand sporadics nexts (max 0 r) x ≡ sporadic_demand sporadics nexts r x = ap (λ b. sporadic_demand sporadics nexts b x) from_r in (
      omega (arith, same, pattern_need sporadics nexts r row 0 x pattern apart legal, work_by-le_work_from_0 jobs x),
      λ a. omega (arith, pattern_need sporadics nexts r row a x pattern apart legal, sporadic_demand-later sporadics nexts a (max a r) x (omega arith)),
    )

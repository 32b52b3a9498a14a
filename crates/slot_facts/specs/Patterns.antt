-- Sporadic arrivals: no legal pattern needs more than the densest one, which needs all of the
-- demand.
use Rattle.std.specs.Prelude.{◌≡◌, ℕ, ◌≤◌, List, All}
use Rattle.slot_core.specs.declared.tasks.Sporadic.{Sporadic}
use Rattle.slot_core.specs.Feasibility.Sporadics.{sporadic_demand, densest_pattern, IsLegalPattern}
use Rattle.slot_core.specs.Claims.Futures.{pattern_jobs}
use Rattle.slot_core.specs.Runs.Demand.{work_by, work_from}

-- each separation is at least one slot
abbrev pub AreSeparated : List Sporadic → Type 0
AreSeparated sporadics = All (λ (s : Sporadic). 1 ≤ s.separation) sporadics

-- what the jobs of a legal pattern need by a time, from any start on, is at most the sporadic
-- demand
abbrev pub PatternsNeedNoMore : Type 0
PatternsNeedNoMore =
    (sporadics : List Sporadic) (nexts : List ℕ) (r row x : ℕ) (pattern : List (ℕ × ℕ))
    → AreSeparated sporadics → IsLegalPattern sporadics nexts r pattern
    → (work_by (pattern_jobs sporadics row pattern) x ≤ sporadic_demand sporadics nexts r x)
    × ((a : ℕ)
    → work_from (pattern_jobs sporadics row pattern) a x ≤ sporadic_demand sporadics nexts a x)

-- the densest pattern is legal, and by each time up to its end it needs all of the sporadic demand
abbrev pub TheDensestPatternNeedsAll : Type 0
TheDensestPatternNeedsAll =
    (sporadics : List Sporadic) (nexts : List ℕ) (r row x end : ℕ)
    → AreSeparated sporadics → x ≤ end
    → IsLegalPattern sporadics nexts r (densest_pattern 0 sporadics nexts r end)
    × (work_by (pattern_jobs sporadics row (densest_pattern 0 sporadics nexts r end)) x
    ≡ sporadic_demand sporadics nexts r x)

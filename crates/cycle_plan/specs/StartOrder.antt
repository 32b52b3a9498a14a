-- The order in which jobs come.
use Rattle.std.specs.Prelude.{◌≤◌, List, [], ◌∷◌, IsPermutation, ⊤}
use Rattle.std.specs.List.{AllByRecursion}
use Rattle.std.specs.List.Sorted.{IsSorted}
use Rattle.std.specs.declared.cmp.Ordering.{Ordering}
use Rattle.std.specs.Ordering.{nat_cmp, ordering_then}
use Rattle.std.specs.Cmp.Lexicographic.{slice_cmp}
use Rattle.slot_core.specs.declared.jobs.Job.{Job}
use Rattle.slot_core.specs.Offline.Keys.{deadline_order}
use Rattle.slot_core.specs.Keeping.Plans.{PlanParts, IsPlan}

-- by start, and those of one start backwards: the last by deadline and key comes first
abbrev pub start_cmp : Job → Job → Ordering
start_cmp a b =
    ordering_then (nat_cmp a.est b.est) (slice_cmp nat_cmp (deadline_order b) (deadline_order a))

-- sorted so
abbrev pub AreInStartOrder : List Job → Type 0
AreInStartOrder jobs = IsSorted start_cmp jobs

-- no job starts before one that stands in front of it
abbrev pub StartsRise : List Job → Type 0
StartsRise [] = ⊤
StartsRise (job ∷ jobs) =
    AllByRecursion (λ (other : Job). job.est ≤ other.est) jobs
    × StartsRise jobs

-- a plan, and its jobs once more by start
pub record KeepsPlan (plan : PlanParts) (by_start : List Job) : Type 0 where
  pub is_plan : IsPlan plan
  pub listed : IsPermutation plan.jobs by_start
  pub ordered : AreInStartOrder by_start

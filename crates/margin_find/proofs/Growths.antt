-- What growth does to demand and to feasibility, and that there is one margin.
use Rattle.std.proofs.Common.{◌≡◌, ℕ, ◌+◌, ◌-◌, ◌<◌, ◌≤◌, Some, refl, sym, subst, ap, ◌∙◌, inl, inr, arith}
use Rattle.std.proofs.lemmas.Bool.{cases_lt}
use Rattle.slot_core.specs.declared.faults.Part.{Part}
use Rattle.slot_core.specs.declared.faults.Part.TheVariants.{Top, Graph as GraphPart, Task as TaskPart, Sporadic as SporadicPart}
use Rattle.slot_core.specs.declared.jobs.Window.{Window}
use Rattle.slot_core.specs.declared.tasks.Task.{Task}
use Rattle.slot_core.specs.declared.tasks.Graph.{Graph}
use Rattle.slot_core.specs.declared.tasks.Sporadic.{Sporadic}
use Rattle.slot_core.specs.declared.tasks.TaskSet.{TaskSet}
use Rattle.slot_core.specs.Sets.Cycles.{cycle_of}
use Rattle.slot_core.specs.Offline.OfflineJobs.{cycle_jobs}
use Rattle.slot_core.specs.Feasibility.Feasible.{IsFeasible, demand, counterexample}
use Rattle.slot_core.specs.Claims.Growth.{longer_task, with_longer_task, longer_sporadic, grown, StillFits, IsMargin}
use Rattle.slot_facts.proofs.Demand.Feasible.{counterexample-fails}
use Rattle.margin_find.specs.Laws.{CycleStays, DemandOnlyRises, LessGrowthFits, MarginsAreUnique, WindowsOnlyShrink}
use Rattle.margin_find.proofs.LongerChains.{IsNoLonger}
use Rattle.margin_find.proofs.LongerSets.{cycle_jobs-pairs, GraphIsNoLonger, SporadicIsNoLonger, SetIsNoLonger, cycle_of-same, demand-rises}
use Rattle.margin_find.proofs.Pairs.{Pairwise-itself, Pairwise-changed_at, Pairwise-changed, Pairwise-unchanged}

-- everything is no longer than itself
task-itself : (t : Task) → IsNoLonger t t
task-itself t = record { name = refl; after = refl; wcet = omega arith }

graph-itself : (g : Graph) → GraphIsNoLonger g g
graph-itself g =
    record {
      name = refl;
      period = refl;
      offset = refl;
      deadline = refl;
      tasks = Pairwise-itself IsNoLonger g.tasks task-itself;
    }

sporadic-itself : (s : Sporadic) → SporadicIsNoLonger s s
sporadic-itself s =
    record { name = refl; separation = refl; deadline = refl; wcet = omega arith }

set-itself : (set : TaskSet) → SetIsNoLonger set set
set-itself set =
    record {
      soft_limit = refl;
      graphs = Pairwise-itself GraphIsNoLonger set.graphs graph-itself;
      sporadics = Pairwise-itself SporadicIsNoLonger set.sporadics sporadic-itself;
    }

-- with less growth everything is no longer
longer_task-pairs : (less more : ℕ) (t : Task) → less ≤ more → IsNoLonger (longer_task less t) (longer_task more t)
longer_task-pairs less more t low = record { name = refl; after = refl; wcet = omega arith }

with_longer_task-pairs : (task less more : ℕ) (g : Graph) → less ≤ more → GraphIsNoLonger (with_longer_task task less g) (with_longer_task task more g)
with_longer_task-pairs task less more g low =
    record {
      name = refl;
      period = refl;
      offset = refl;
      deadline = refl;
      tasks = Pairwise-changed_at IsNoLonger (longer_task less) (longer_task more) task g.tasks task-itself (λ t. longer_task-pairs less more t low);
    }

longer_sporadic-pairs : (less more : ℕ) (s : Sporadic) → less ≤ more → SporadicIsNoLonger (longer_sporadic less s) (longer_sporadic more s)
longer_sporadic-pairs less more s low =
    record { name = refl; separation = refl; deadline = refl; wcet = omega arith }

pub grown-pairs : (set : TaskSet) (part : Part) (less more : ℕ) → less ≤ more → SetIsNoLonger (grown set part less) (grown set part more)
grown-pairs set Top less more low = set-itself set
grown-pairs set (GraphPart graph) less more low = set-itself set
grown-pairs set (TaskPart graph task) less more low =
    record {
      soft_limit = refl;
      graphs = Pairwise-changed_at GraphIsNoLonger (with_longer_task task less) (with_longer_task task more) graph set.graphs graph-itself (λ g. with_longer_task-pairs task less more g low);
      sporadics = Pairwise-itself SporadicIsNoLonger set.sporadics sporadic-itself;
    }
grown-pairs set (SporadicPart index) less more low =
    record {
      soft_limit = refl;
      graphs = Pairwise-itself GraphIsNoLonger set.graphs graph-itself;
      sporadics = Pairwise-changed_at SporadicIsNoLonger (longer_sporadic less) (longer_sporadic more) index set.sporadics sporadic-itself (λ s. longer_sporadic-pairs less more s low);
    }

-- and a set is no longer than it is grown
pub set-pairs : (set : TaskSet) (part : Part) (growth : ℕ) → SetIsNoLonger set (grown set part growth)
set-pairs set Top growth = set-itself set
set-pairs set (GraphPart graph) growth = set-itself set
set-pairs set (TaskPart graph task) growth =
    record {
      soft_limit = refl;
      graphs = Pairwise-changed GraphIsNoLonger (with_longer_task task growth) graph set.graphs graph-itself (λ g.
          record {
            name = refl;
            period = refl;
            offset = refl;
            deadline = refl;
            tasks = Pairwise-changed IsNoLonger (longer_task growth) task g.tasks task-itself (λ t. record { name = refl; after = refl; wcet = omega arith });
          });
      sporadics = Pairwise-itself SporadicIsNoLonger set.sporadics sporadic-itself;
    }
set-pairs set (SporadicPart index) growth =
    record {
      soft_limit = refl;
      graphs = Pairwise-itself GraphIsNoLonger set.graphs graph-itself;
      sporadics = Pairwise-changed SporadicIsNoLonger (longer_sporadic growth) index set.sporadics sporadic-itself (λ s.
          record { name = refl; separation = refl; deadline = refl; wcet = omega arith });
    }

pub cycle_stays : CycleStays
cycle_stays set part growth =
    sym (cycle_of-same set (grown set part growth) (set-pairs set part growth))

-- with more growth windows only shrink
pub windows_only_shrink : WindowsOnlyShrink
windows_only_shrink set part less more low cycle n =
    cycle_jobs-pairs (grown set part less) (grown set part more) cycle n (grown-pairs set part less more low)

pub demand_only_rises : DemandOnlyRises
demand_only_rises set part less more low cycle a b =
    demand-rises (grown set part less) (grown set part more) cycle a b (grown-pairs set part less more low)

-- the cycle is the same with any growth
cycle-same : (set : TaskSet) (part : Part) (less more : ℕ) → less ≤ more → cycle_of (grown set part less) ≡ cycle_of (grown set part more)
cycle-same set part less more low =
    cycle_of-same (grown set part less) (grown set part more) (grown-pairs set part less more low)

-- where a set fits, each window has slots for its demand in the set with less growth
pub less_growth_fits : LessGrowthFits
less_growth_fits set part less more low fits =
    let same = cycle-same set part less more low in
    λ a b start past high.
    let here : demand (grown set part more) (cycle_of (grown set part less)) a b ≤ b - a = subst (IsFeasible (grown set part more)) (sym same) fits a b start past high in
    omega (arith, demand_only_rises set part less more low (cycle_of (grown set part less)) a b)

-- a set that fits does so with no growth
none-pairs : (set : TaskSet) (part : Part) → SetIsNoLonger (grown set part 0) set
none-pairs set Top = set-itself set
none-pairs set (GraphPart graph) = set-itself set
none-pairs set (TaskPart graph task) =
    record {
      soft_limit = refl;
      graphs = Pairwise-unchanged GraphIsNoLonger (with_longer_task task 0) graph set.graphs graph-itself (λ g.
          record {
            name = refl;
            period = refl;
            offset = refl;
            deadline = refl;
            tasks = Pairwise-unchanged IsNoLonger (longer_task 0) task g.tasks task-itself (λ t. record { name = refl; after = refl; wcet = omega arith });
          });
      sporadics = Pairwise-itself SporadicIsNoLonger set.sporadics sporadic-itself;
    }
none-pairs set (SporadicPart index) =
    record {
      soft_limit = refl;
      graphs = Pairwise-itself GraphIsNoLonger set.graphs graph-itself;
      sporadics = Pairwise-unchanged SporadicIsNoLonger (longer_sporadic 0) index set.sporadics sporadic-itself (λ s.
          record { name = refl; separation = refl; deadline = refl; wcet = omega arith });
    }

pub fits_itself : (set : TaskSet) (part : Part) → IsFeasible set (cycle_of set) → StillFits set part 0
fits_itself set part feasible =
    let pairs = none-pairs set part in
    λ a b start past high.
    let here : demand set (cycle_of (grown set part 0)) a b ≤ b - a = subst (IsFeasible set) (sym (cycle_of-same (grown set part 0) set pairs)) feasible a b start past high in
    omega (arith, demand-rises (grown set part 0) set (cycle_of (grown set part 0)) a b pairs)

-- a grown set with a counterexample is not feasible
pub not_fits-from_some : (set : TaskSet) (part : Part) (growth : ℕ) (w : Window) → 0 < cycle_of (grown set part growth) → counterexample (grown set part growth) (cycle_of (grown set part growth)) ≡ Some w → ¬ (StillFits set part growth)
not_fits-from_some set part growth w positive found fits =
    let longer = grown set part growth in
    let cycle = cycle_of longer in
    let (start, past, high, needs, short) = counterexample-fails (cycle_jobs longer cycle 0) longer.sporadics cycle w positive found in
    absurd (omega (arith, fits w.from w.until start past high, needs, short))

-- so what a search has found is the margin
pub IsMargin-from_search : (set : TaskSet) (part : Part) (growth : ℕ) (w : Window) → 0 < cycle_of (grown set part (growth + 1)) → StillFits set part growth → counterexample (grown set part (growth + 1)) (cycle_of (grown set part (growth + 1))) ≡ Some w → IsMargin set part growth w
IsMargin-from_search set part growth w positive fits found =
    let longer = grown set part (growth + 1) in
    let cycle = cycle_of longer in
    let failing = counterexample-fails (cycle_jobs longer cycle 0) longer.sporadics cycle w positive found in
    record {
      fits = λ g low. less_growth_fits set part g growth low fits;
      fails = λ g past more. not_fits-from_some set part (growth + 1) w positive found (less_growth_fits set part (growth + 1) g (omega arith) more);
      first = found;
      needs = sym failing.3;
      more = failing.4;
    }

-- there is one margin
margin-same : (set : TaskSet) (part : Part) (growth other : ℕ) (w v : Window) → IsMargin set part growth w → IsMargin set part other v → growth ≡ other
margin-same set part growth other w v h k =
    elim (cases_lt growth other) [
      | inl less ↦ absurd (h.fails other less (k.fits other (omega arith)))
      | inr past ↦ elim (cases_lt other growth) [
        | inl more ↦ absurd (k.fails growth more (h.fits growth (omega arith)))
        | inr none ↦ omega arith
      ]
    ]

pub margins_are_unique : MarginsAreUnique
margins_are_unique set part growth other w v h k =
    let same = margin-same set part growth other w v h k in
    let there = ap (λ g. counterexample (grown set part (g + 1)) (cycle_of (grown set part (g + 1)))) same in
    let found : Some w ≡ Some v = sym h.first ∙ there ∙ k.first in
    (same, cc)

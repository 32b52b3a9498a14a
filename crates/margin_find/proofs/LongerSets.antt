-- Sets whose tasks are no longer: their demand is no more in any window.
use Rattle.std.proofs.Common.{◌≡◌, ℕ, ◌+◌, ◌*◌, ◌/◌, ◌≤◌, max, List, [], ◌∷◌, subst, ap, ◌∙◌, arith}
use Rattle.std.specs.Prelude.{count_by, flat_map, fold, nat_le, nat_lt, ◌&&◌, if◌then◌else◌}
use Rattle.std.specs.List.{range_with_len, enumerate_from}
use Rattle.std.proofs.Math.Nat.{mul-le-mul_right}
use Rattle.std.proofs.lemmas.Bool.Decides.{nat_tests}
use Rattle.slot_core.specs.declared.jobs.Key.{Key}
use Rattle.slot_core.specs.declared.jobs.Key.TheVariants.{Offline, Sporadic as SporadicKey, Firm, Soft}
use Rattle.slot_core.specs.declared.jobs.RawJob.{RawJob}
use Rattle.slot_core.specs.declared.jobs.Job.{Job}
use Rattle.slot_core.specs.declared.tasks.Task.{Task}
use Rattle.slot_core.specs.declared.tasks.Graph.{Graph}
use Rattle.slot_core.specs.declared.tasks.Sporadic.{Sporadic}
use Rattle.slot_core.specs.declared.tasks.TaskSet.{TaskSet}
use Rattle.slot_core.specs.Sets.Cycles.{least_common_multiple, cycle_lengths, cycle_of}
use Rattle.slot_core.specs.Offline.OfflineJobs.{tasks_of, release_of, raw_job, instance_jobs, graph_jobs, raw_jobs, chain_before, chain_after, derived_job, cycle_jobs}
use Rattle.slot_core.specs.Feasibility.Sporadics.{arrivals_due, sporadic_demand}
use Rattle.slot_core.specs.Feasibility.Feasible.{declared_within, demand}
use Rattle.margin_find.specs.Laws.{HasNoMoreRoom, Pairwise}
use Rattle.margin_find.proofs.LongerChains.{IsNoLonger, longest_before-rises, longest_after-rises}
use Rattle.margin_find.proofs.Pairs.{AtPlace, Pairwise-same, Pairwise-map, Pairwise-flat_map, Pairwise-joined, Pairwise-enumerate, Pairwise-at, Pairwise-sum}

-- the first graph is the second, with tasks that are no longer
pub record GraphIsNoLonger (graph longer : Graph) : Type 0 where
  pub name : graph.name ≡ longer.name
  pub period : graph.period ≡ longer.period
  pub offset : graph.offset ≡ longer.offset
  pub deadline : graph.deadline ≡ longer.deadline
  pub tasks : Pairwise IsNoLonger graph.tasks longer.tasks

-- so of a sporadic task
pub record SporadicIsNoLonger (sporadic longer : Sporadic) : Type 0 where
  pub name : sporadic.name ≡ longer.name
  pub separation : sporadic.separation ≡ longer.separation
  pub deadline : sporadic.deadline ≡ longer.deadline
  pub wcet : sporadic.wcet ≤ longer.wcet

-- and of a set
pub record SetIsNoLonger (set longer : TaskSet) : Type 0 where
  pub soft_limit : set.soft_limit ≡ longer.soft_limit
  pub graphs : Pairwise GraphIsNoLonger set.graphs longer.graphs
  pub sporadics : Pairwise SporadicIsNoLonger set.sporadics longer.sporadics

-- the cycle is the same
pub cycle_lengths-same : (set longer : TaskSet) → SetIsNoLonger set longer → cycle_lengths set ≡ cycle_lengths longer
cycle_lengths-same set longer h =
    let periods = Pairwise-same GraphIsNoLonger (λ (g : Graph). g.period) set.graphs longer.graphs (λ x y r. r.period) h.graphs in
    let separations = Pairwise-same SporadicIsNoLonger (λ (s : Sporadic). s.separation) set.sporadics longer.sporadics (λ x y r. r.separation) h.sporadics in
    cc

pub cycle_of-same : (set longer : TaskSet) → SetIsNoLonger set longer → cycle_of set ≡ cycle_of longer
cycle_of-same set longer h = ap (fold least_common_multiple 1) (cycle_lengths-same set longer h)

tasks_of-pairs : (set longer : TaskSet) (g : ℕ) → SetIsNoLonger set longer → Pairwise IsNoLonger (tasks_of set g) (tasks_of longer g)
tasks_of-pairs set longer g h =
    Pairwise-at GraphIsNoLonger (Pairwise IsNoLonger) (λ (graph : Graph). graph.tasks) (λ (graph : Graph). graph.tasks) [] g set.graphs longer.graphs (λ x y r. r.tasks) tt h.graphs

-- chains of jobs
chain_before-rises : (set longer : TaskSet) (key : Key) → SetIsNoLonger set longer → chain_before set key ≤ chain_before longer key
chain_before-rises set longer (Offline g t k) h =
    longest_before-rises (tasks_of set g) (tasks_of longer g) t (tasks_of-pairs set longer g h)
chain_before-rises set longer (SporadicKey index row) h = omega arith
chain_before-rises set longer (Firm row) h = omega arith
chain_before-rises set longer (Soft row) h = omega arith

chain_after-rises : (set longer : TaskSet) (key : Key) → SetIsNoLonger set longer → chain_after set key ≤ chain_after longer key
chain_after-rises set longer (Offline g t k) h =
    longest_after-rises (tasks_of set g) (tasks_of longer g) t (tasks_of-pairs set longer g h)
chain_after-rises set longer (SporadicKey index row) h = omega arith
chain_after-rises set longer (Firm row) h = omega arith
chain_after-rises set longer (Soft row) h = omega arith

-- the first raw job is the second, with no more slots
record RawIsNoLonger (raw longer : RawJob) : Type 0 where
  key : raw.key ≡ longer.key
  release : raw.release ≡ longer.release
  deadline : raw.deadline ≡ longer.deadline
  wcet : raw.wcet ≤ longer.wcet

raw_job-pairs : (g k : ℕ) (graph longer : Graph) (t u : ℕ × Task) → GraphIsNoLonger graph longer → AtPlace IsNoLonger t u → RawIsNoLonger (raw_job g graph k t) (raw_job g longer k u)
raw_job-pairs g k graph longer t u h r =
    let release : release_of graph k ≡ release_of longer k = ap (λ n. k * n + graph.offset) h.period ∙ ap (λ n. k * longer.period + n) h.offset in
    record {
      key = ap (λ n. Offline g n k) r.0;
      release = release;
      deadline = ap (λ n. n + graph.deadline) release ∙ ap (λ n. release_of longer k + n) h.deadline;
      wcet = r.1.wcet;
    }

instance_jobs-pairs : (g k : ℕ) (graph longer : Graph) → GraphIsNoLonger graph longer → Pairwise RawIsNoLonger (instance_jobs g graph k) (instance_jobs g longer k)
instance_jobs-pairs g k graph longer h =
    Pairwise-map
    (AtPlace IsNoLonger)
    RawIsNoLonger
    (raw_job g graph k)
    (raw_job g longer k)
    (enumerate_from 0 graph.tasks)
    (enumerate_from 0 longer.tasks)
    (λ t u r. raw_job-pairs g k graph longer t u h r)
    (Pairwise-enumerate IsNoLonger 0 graph.tasks longer.tasks h.tasks)

graph_jobs-pairs : (cycle n : ℕ) (p q : ℕ × Graph) → AtPlace GraphIsNoLonger p q → Pairwise RawIsNoLonger (graph_jobs cycle n p) (graph_jobs cycle n q)
graph_jobs-pairs cycle n (g, graph) (k, longer) h =
    let ranges : ℕ → List ℕ = λ period. range_with_len (n * (cycle / period)) (cycle / period) in
    let here : Pairwise RawIsNoLonger (flat_map (instance_jobs g graph) (ranges graph.period)) (flat_map (instance_jobs g longer) (ranges graph.period)) = Pairwise-joined RawIsNoLonger (instance_jobs g graph) (instance_jobs g longer) (ranges graph.period) (λ i. instance_jobs-pairs g i graph longer h.1) in
    let range = subst (λ period. Pairwise RawIsNoLonger (graph_jobs cycle n (g, graph)) (flat_map (instance_jobs g longer) (ranges period))) h.1.period here in
    subst (λ i. Pairwise RawIsNoLonger (graph_jobs cycle n (g, graph)) (graph_jobs cycle n (i, longer))) h.0 range

raw_jobs-pairs : (set longer : TaskSet) (cycle n : ℕ) → SetIsNoLonger set longer → Pairwise RawIsNoLonger (raw_jobs set cycle n) (raw_jobs longer cycle n)
raw_jobs-pairs set longer cycle n h =
    Pairwise-flat_map
    (AtPlace GraphIsNoLonger)
    RawIsNoLonger
    (graph_jobs cycle n)
    (graph_jobs cycle n)
    (enumerate_from 0 set.graphs)
    (enumerate_from 0 longer.graphs)
    (graph_jobs-pairs cycle n)
    (Pairwise-enumerate GraphIsNoLonger 0 set.graphs longer.graphs h.graphs)

-- each job of longer tasks is no shorter
pub cycle_jobs-pairs : (set longer : TaskSet) (cycle n : ℕ) → SetIsNoLonger set longer → Pairwise HasNoMoreRoom (cycle_jobs set cycle n) (cycle_jobs longer cycle n)
cycle_jobs-pairs set longer cycle n h =
    Pairwise-map RawIsNoLonger HasNoMoreRoom (derived_job set) (derived_job longer) (raw_jobs set cycle n) (raw_jobs longer cycle n) (λ raw other r.
    let before : chain_before set raw.key ≤ chain_before longer other.key = subst (λ key. chain_before set raw.key ≤ chain_before longer key) r.key (chain_before-rises set longer raw.key h) in
    let after : chain_after set raw.key ≤ chain_after longer other.key = subst (λ key. chain_after set raw.key ≤ chain_after longer key) r.key (chain_after-rises set longer raw.key h) in
    record {
      key = r.key;
      est = omega (arith, r.release);
      dl = omega (arith, r.deadline);
      declared = r.wcet;
    }) (raw_jobs-pairs set longer cycle n h)

-- a job counts for no more
counts_for_no_more : (a b shift est later dl earlier d more : ℕ) → est ≤ later → earlier ≤ dl → d ≤ more → (if nat_le a (est + shift) && nat_le (dl + shift) b then d else 0) ≤ (if nat_le a (later + shift) && nat_le (earlier + shift) b then more else 0)
counts_for_no_more a b shift est later dl earlier d more starts ends fewer = grind (arith, nat_tests)

declared_within-rises : (jobs longer : List Job) (shift a b : ℕ) → Pairwise HasNoMoreRoom jobs longer → declared_within jobs shift a b ≤ declared_within longer shift a b
declared_within-rises jobs longer shift a b h =
    Pairwise-sum
    HasNoMoreRoom
    (λ (j : Job). if nat_le a (j.est + shift) && nat_le (j.dl + shift) b then j.declared else 0)
    (λ (j : Job). if nat_le a (j.est + shift) && nat_le (j.dl + shift) b then j.declared else 0)
    jobs
    longer
    (λ i j r. counts_for_no_more a b shift i.est j.est i.dl j.dl i.declared j.declared r.est r.dl r.declared)
    h

-- as many arrivals are due, and each needs no more
arrivals_due-same : (s longer : Sporadic) (next r x : ℕ) → SporadicIsNoLonger s longer → arrivals_due s next r x ≡ arrivals_due longer next r x
arrivals_due-same s longer next r x h =
    ap (λ n. count_by (λ m. nat_le (max r next + m * n + s.deadline) x) (range_with_len 0 (x + 1))) h.separation
    ∙ ap (λ n. count_by (λ m. nat_le (max r next + m * longer.separation + n) x) (range_with_len 0 (x + 1))) h.deadline

sporadic_demand-rises : (ss longer : List Sporadic) (r x : ℕ) → Pairwise SporadicIsNoLonger ss longer → sporadic_demand ss [] r x ≤ sporadic_demand longer [] r x
sporadic_demand-rises [] [] r x h = omega arith
sporadic_demand-rises [] (l ∷ ls) r x h = absurd h
sporadic_demand-rises (s ∷ ss) [] r x h = absurd h
sporadic_demand-rises (s ∷ ss) (l ∷ ls) r x h =
    omega (
      arith,
      mul-le-mul_right (arrivals_due s 0 r x) h.0.wcet,
      ap (λ n. l.wcet * n) (arrivals_due-same s l 0 r x h.0),
      sporadic_demand-rises ss ls r x h.1,
    )

-- so each window needs no more
next_cycle-rises : (cycle b m n : ℕ) → m ≤ n → (if nat_lt cycle b then m else 0) ≤ (if nat_lt cycle b then n else 0)
next_cycle-rises cycle b m n low = grind (arith, nat_tests)

pub demand-rises : (set longer : TaskSet) (cycle a b : ℕ) → SetIsNoLonger set longer → demand set cycle a b ≤ demand longer cycle a b
demand-rises set longer cycle a b h =
    let jobs = cycle_jobs set cycle 0 in
    let others = cycle_jobs longer cycle 0 in
    let pairs = cycle_jobs-pairs set longer cycle 0 h in
    omega (
      arith,
      declared_within-rises jobs others 0 a b pairs,
      next_cycle-rises cycle b (declared_within jobs cycle a b) (declared_within others cycle a b) (declared_within-rises jobs others cycle a b pairs),
      sporadic_demand-rises set.sporadics longer.sporadics a b h.sporadics,
    )

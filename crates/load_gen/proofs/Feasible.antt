-- Each load's set is feasible.
use Rattle.std.proofs.Common.{◌≡◌, ℕ, zero, suc, ◌+◌, ◌-◌, ◌*◌, ◌/◌, ◌%◌, ◌<◌, ◌≤◌, ◌==◌, Bool, true, false, ◌&&◌, cond, List, [], ◌∷◌, ◌++◌, map, Some, lit≤, refl, sym, ap, subst, ◌∙◌, inl, inr, arith}
use Rattle.std.specs.Prelude.{sum_by, slice_get, nat_le, nat_lt, if◌then◌else◌}
use Rattle.std.specs.List.{enumerate_from, range_with_len}
use Rattle.std.specs.Option.{option_map_or}
use Rattle.std.proofs.Math.Nat.{mul-le-mul_left}
use Rattle.std.proofs.lemmas.Bool.{cases_lt}
use Rattle.std.proofs.lemmas.List.Sums.{sum_by-cons, sum_by-append}
use Rattle.slot_core.specs.declared.jobs.Job.{Job}
use Rattle.slot_core.specs.declared.jobs.RawJob.{RawJob}
use Rattle.slot_core.specs.declared.tasks.Graph.{Graph}
use Rattle.slot_core.specs.Sets.Cycles.{cycle_of}
use Rattle.slot_core.specs.Feasibility.Feasible.{IsFeasible, declared_within}
use Rattle.slot_core.specs.Offline.OfflineJobs.{cycle_jobs, derived_job, graph_jobs, instance_jobs, raw_jobs, tasks_of}
use Rattle.slot_core.specs.Offline.Precedence.{longest_after, longest_before}
use Rattle.slot_core.specs.Sets.Ranges.{is_sound}
use Rattle.slot_core.specs.Feasibility.Sporadics.{sporadic_demand}
use Rattle.slot_facts.proofs.Demand.Arrivals.{arrivals_due-none, arrivals_due-spaced}
use Rattle.slot_facts.proofs.Lists.Members.{Has, Has-range_with_len_bounds}
use Rattle.slot_facts.proofs.Lists.RangeFilters.{range-parts}
use Rattle.slot_facts.proofs.Lists.Sums.{cond-le, sum_by-flat_map, sum_by-map, sum_by-plus}
use Rattle.slot_facts.proofs.Offline.Jobs.{cycle-multiple}
use Rattle.load_gen.specs.Loads.{load_graph, load_period, load_set, load_sporadic, load_tasks}
use Rattle.load_gen.proofs.Instances.{job-touches, touches, two_cycles-fit}
use Rattle.load_gen.proofs.Sound.{load_set-sound}

-- the graphs of a set by their indexes
graph-at : (a n i k : ℕ) → i < n → k ≡ a + i → slice_get (map load_graph (range_with_len a n)) i ≡ Some (load_graph k)
graph-at a zero i k low at = absurd (omega arith)
graph-at a (suc n) zero k low at = let same : a ≡ k = omega arith in ap (λ g. Some (load_graph g)) same
graph-at a (suc n) (suc i) k low at = graph-at (a + 1) n i k (omega arith) (omega arith)

tasks-at : (n i : ℕ) → i < n → tasks_of (load_set n) i ≡ load_tasks
tasks-at n i low =
    ap (λ g. option_map_or (λ (graph : Graph). graph.tasks) g []) (graph-at 0 n i i low (omega arith))

-- what a job adds to the demand of a window, its own window moved by s
abbrev in_window : ℕ → ℕ → ℕ → Job → ℕ
in_window a b s j = if nat_le a (j.est + s) && nat_le (j.dl + s) b then j.declared else 0

-- sums whose terms are bounded
sum_by-scaled : {X : Type 0} (m c : ℕ) (f g : X → ℕ) (xs : List X) → ((x : X) → Has xs x → m * f x ≤ c * g x) → m * sum_by f xs ≤ c * sum_by g xs
sum_by-scaled m c f g [] each = omega arith
sum_by-scaled m c f g (x ∷ xs) each =
    let here = each x (inl refl) in
    let others = sum_by-scaled m c f g xs (λ y h. each y (inr h)) in
    let left = ap (λ n. m * n) (sum_by-cons f x xs) in
    let right = ap (λ n. c * n) (sum_by-cons g x xs) in
    omega (arith, left, right, here, others)

sum_by-three : {X : Type 0} (f : X → ℕ) (x y z : X) → sum_by f (x ∷ y ∷ z ∷ []) ≡ f x + f y + f z
sum_by-three f x y z =
    omega (arith, sum_by-cons f x (y ∷ z ∷ []), sum_by-cons f y (z ∷ []), sum_by-cons f z [])

-- the jobs of an instance add to the demand where it touches
few_before : (n i t : ℕ) → i < n → longest_before load_tasks t ≤ 2 → longest_before (tasks_of (load_set n) i) t ≤ 2
few_before n i t low few = subst (λ tasks. longest_before tasks t ≤ 2) (sym (tasks-at n i low)) few

few_after : (n i t : ℕ) → i < n → longest_after load_tasks t ≤ 2 → longest_after (tasks_of (load_set n) i) t ≤ 2
few_after n i t low few = subst (λ tasks. longest_after tasks t ≤ 2) (sym (tasks-at n i low)) few

instance-le : (n i k a b s : ℕ) → i < n → sum_by (λ r. in_window a b s (derived_job (load_set n) r)) (instance_jobs i (load_graph i) k) ≤ 3 * touches a b (load_period i) (k * load_period i + s)
instance-le n i k a b s low =
    let tasks = tasks_of (load_set n) i in
    let period = load_period i in
    let first = job-touches a b period (k * period) s (longest_before tasks 0) (longest_after tasks 0) (few_before n i 0 low (lit≤ tt)) (few_after n i 0 low (lit≤ tt)) in
    let second = job-touches a b period (k * period) s (longest_before tasks 1) (longest_after tasks 1) (few_before n i 1 low (lit≤ tt)) (few_after n i 1 low (lit≤ tt)) in
    let third = job-touches a b period (k * period) s (longest_before tasks 2) (longest_after tasks 2) (few_before n i 2 low (lit≤ tt)) (few_after n i 2 low (lit≤ tt)) in
    omega (arith, first, second, third)

-- the instances of graph i in one cycle that touch, all moved by s
unfoldable touched : ℕ → ℕ → ℕ → ℕ → ℕ → ℕ
touched a b s cycle i =
    sum_by (λ k. touches a b (load_period i) (k * load_period i + s)) (range_with_len 0 (cycle / load_period i))

graph-le : (n i a b s cycle : ℕ) → i < n → sum_by (λ r. in_window a b s (derived_job (load_set n) r)) (graph_jobs cycle 0 (i, load_graph i)) ≤ 3 * touched a b s cycle i
unfolding touched
graph-le n i a b s cycle low =
    let f = λ (r : RawJob). in_window a b s (derived_job (load_set n) r) in
    let period = load_period i in
    let instances = instance_jobs i (load_graph i) in
    let start : 0 * (cycle / period) ≡ 0 = omega arith in
    let joined = sum_by-flat_map f instances (range_with_len (0 * (cycle / period)) (cycle / period)) ∙ ap (λ x. sum_by (λ k. sum_by f (instances k)) (range_with_len x (cycle / period))) start in
    let each = sum_by-scaled 1 3 (λ k. sum_by f (instances k)) (λ k. touches a b period (k * period + s)) (range_with_len 0 (cycle / period)) (λ k h. omega (arith, instance-le n i k a b s low)) in
    omega (arith, joined, each)

sum_by-graphs : (h : ℕ × Graph → ℕ) (a n : ℕ) → sum_by h (enumerate_from a (map load_graph (range_with_len a n))) ≡ sum_by (λ i. h (i, load_graph i)) (range_with_len a n)
sum_by-graphs h a zero = refl
sum_by-graphs h a (suc n) =
    sum_by-cons h (a, load_graph a) (enumerate_from (a + 1) (map load_graph (range_with_len (a + 1) n)))
    ∙ ap (λ m. h (a, load_graph a) + m) (sum_by-graphs h (a + 1) n)
    ∙ sym (sum_by-cons (λ i. h (i, load_graph i)) a (range_with_len (a + 1) n))

declared-le : (n a b s cycle : ℕ) → declared_within (cycle_jobs (load_set n) cycle 0) s a b ≤ 3 * sum_by (touched a b s cycle) (range_with_len 0 n)
declared-le n a b s cycle =
    let set = load_set n in
    let f = λ (r : RawJob). in_window a b s (derived_job set r) in
    let all = sum_by-map (in_window a b s) (derived_job set) (raw_jobs set cycle 0)
    ∙ sum_by-flat_map f (graph_jobs cycle 0) (enumerate_from 0 set.graphs)
    ∙ sum_by-graphs (λ g. sum_by f (graph_jobs cycle 0 g)) 0 n in
    let each = sum_by-scaled 1 3 (λ i. sum_by f (graph_jobs cycle 0 (i, load_graph i))) (touched a b s cycle) (range_with_len 0 n) (λ i h. omega (arith, graph-le n i a b s cycle (omega (arith, Has-range_with_len_bounds 0 n i h)))) in
    omega (arith, all, each)

-- how many times a period goes into 256 slots
unfoldable weight : ℕ → ℕ
weight i = if i % 3 == 0 then 4 else (if i % 3 == 1 then 2 else 1)

weights-le : (n : ℕ) → n ≤ 32 → sum_by weight (range_with_len 0 n) ≤ 76
unfolding weight
weights-le n few =
    let parts = range-parts 0 n n (32 - n) (omega arith) in
    let whole : n + (32 - n) ≡ 32 = omega arith in
    let split = sum_by-append weight (range_with_len 0 n) (range_with_len n (32 - n)) in
    let sum : sum_by weight (range_with_len 0 32) ≡ 76 = refl in
    let same : sum_by weight (range_with_len 0 n ++ range_with_len n (32 - n)) ≡ 76 = ap (sum_by weight) (sym parts) ∙ ap (λ m. sum_by weight (range_with_len 0 m)) whole ∙ sum in
    omega (arith, same, split)

by_period : (t u : Bool) (c w : ℕ) → cond t 64 (cond u 128 256) * c ≤ w → (256 * c ≤ w * cond t 4 (cond u 2 1)) × (w < 64 → c ≡ 0)
by_period true u c w h = (omega arith, λ low. omega arith)
by_period false true c w h = (omega arith, λ low. omega arith)
by_period false false c w h = (omega arith, λ low. omega arith)

unfoldable both : ℕ → ℕ → ℕ → ℕ → ℕ
both a b cycle i = touched a b 0 cycle i + touched a b cycle cycle i

both-le : (n i a b : ℕ) → is_sound (load_set n) ≡ true → i < n → a ≤ b → (256 * both a b (cycle_of (load_set n)) i ≤ (b - a + 4) * weight i) × (b - a + 4 < 64 → both a b (cycle_of (load_set n)) i ≡ 0)
unfolding both weight touched
both-le n i a b sound low order =
    let set = load_set n in
    let cycle = cycle_of set in
    let whole = cycle-multiple set i (load_graph i) sound (graph-at 0 n i i low (omega arith)) in
    by_period (i % 3 == 0) (i % 3 == 1) (touched a b 0 cycle i + touched a b cycle cycle i) (b - a + 4) (two_cycles-fit a b (load_period i) (cycle / load_period i) cycle whole order)

both-sum : (a b cycle : ℕ) (graphs : List ℕ) → sum_by (touched a b 0 cycle) graphs + sum_by (touched a b cycle cycle) graphs ≡ sum_by (both a b cycle) graphs
unfolding both
both-sum a b cycle graphs = sum_by-plus (touched a b 0 cycle) (touched a b cycle cycle) (both a b cycle) graphs (λ i. refl)

sum_by-zero : {X : Type 0} (f : X → ℕ) (xs : List X) → ((x : X) → Has xs x → f x ≡ 0) → sum_by f xs ≡ 0
sum_by-zero f xs none =
    omega (arith, sum_by-scaled 1 0 f f xs (λ x h. omega (arith, none x h)))

-- the sporadic task adds a slot for each 64, the first after 32
sporadic-le : (a b : ℕ) → a ≤ b → sporadic_demand (load_sporadic ∷ []) [] a b ≤ (b - a + 32) / 64
sporadic-le a b order =
    elim (cases_lt b (a + 32)) [
      | inl early ↦ let none = arrivals_due-none load_sporadic a b early in omega (arith, none)
      | inr late ↦ let some = arrivals_due-spaced load_sporadic a b (lit≤ tt) late in omega (arith, some)
    ]

fits : (d t v : ℕ) → 0 < d → 256 * t ≤ (d + 4) * 76 → (d + 4 < 64 → t ≡ 0) → v ≤ (d + 32) / 64 → 3 * t + v ≤ d
fits d t v some most none few =
    elim (cases_lt (d + 4) 64) [
      | inl short ↦ let zero_t = none short in omega arith
      | inr long ↦ omega arith
    ]

pub load_set-feasible : (n : ℕ) → 1 ≤ n → n ≤ 32 → IsFeasible (load_set n) (cycle_of (load_set n))
load_set-feasible n some few a b start order end =
    let set = load_set n in
    let cycle = cycle_of set in
    let sound = load_set-sound n some few in
    let this = declared-le n a b 0 cycle in
    let next = declared-le n a b cycle cycle in
    let second = cond-le (nat_lt cycle b) (declared_within (cycle_jobs set cycle 0) cycle a b) in
    let graphs = range_with_len 0 n in
    let joined = both-sum a b cycle graphs in
    let most = sum_by-scaled 256 (b - a + 4) (both a b cycle) weight graphs (λ i h. (both-le n i a b sound (omega (arith, Has-range_with_len_bounds 0 n i h)) (omega arith)).0) in
    let none : b - a + 4 < 64 → sum_by (both a b cycle) graphs ≡ 0 = λ short. sum_by-zero (both a b cycle) graphs (λ i h. (both-le n i a b sound (omega (arith, Has-range_with_len_bounds 0 n i h)) (omega arith)).1 short) in
    let weights = mul-le-mul_left (b - a + 4) (weights-le n few) in
    let room = fits (b - a) (sum_by (both a b cycle) graphs) (sporadic_demand (load_sporadic ∷ []) [] a b) (omega arith) (omega (arith, most, weights)) none (sporadic-le a b (omega arith)) in
    omega (arith, this, next, second, joined, room)

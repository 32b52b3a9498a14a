-- The jobs and the arrivals inside a window, and their lines.
use Rattle.std.proofs.Common.{◌≡◌, ℕ, zero, suc, ◌+◌, ◌-◌, ◌*◌, ◌/◌, ◌^◌, ◌<◌, ◌≤◌, max, Bool, true, false, List, [], ◌∷◌, ◌++◌, length, map, take, drop, get_or, Some, Result, Ok, Err, refl, sym, ap, subst, append-nil, append_assoc, ◌∙◌, arith}
use Rattle.std.specs.Prelude.{IfOk, All, Contains, filter, flat_map, nat_lt, slice_get, if◌then◌else◌, IsPermutation}
use Rattle.std.specs.List.{enumerate_from, range_with_len}
use Rattle.std.specs.Option.{option_map_or}
use Rattle.std.proofs.Math.Nat.{mul-le-mul_left, mul-le-mul_right}
use Rattle.std.proofs.lemmas.Grind.{flat_map-append}
use Rattle.std.proofs.lemmas.List.{at_drop_more, take_more}
use Rattle.std.proofs.lemmas.List.Elements.{All-from_recursion, All-get_or}
use Rattle.std.proofs.lemmas.List.Sorted.{IsPermutation-sym, IsPermutation-trans, Contains-permutation}
use Rattle.std.proofs.lemmas.Option.{get_or_from_slice_get, slice_get_within}
use Rattle.slot_core.specs.declared.TheConstants.{SLOT_LIMIT, TASK_LIMIT}
use Rattle.slot_core.specs.declared.jobs.Job.{Job}
use Rattle.slot_core.specs.declared.jobs.RawJob.{RawJob}
use Rattle.slot_core.specs.declared.jobs.Window.{Window}
use Rattle.slot_core.specs.declared.tasks.Graph.{Graph}
use Rattle.slot_core.specs.declared.tasks.Task.{Task}
use Rattle.slot_core.specs.declared.tasks.Sporadic.{Sporadic}
use Rattle.slot_core.specs.declared.tasks.TaskSet.{TaskSet}
use Rattle.slot_core.specs.Runs.Arrivals.{key_in_set}
use Rattle.slot_core.specs.Sets.Cycles.{cycle_of}
use Rattle.slot_core.specs.Sets.Ranges.{is_sound}
use Rattle.slot_core.specs.Offline.OfflineJobs.{cycle_jobs, derived_job, later_job, raw_jobs, tasks_of}
use Rattle.slot_core.specs.Offline.Precedence.{longest_before}
use Rattle.slot_core.specs.Keeping.Plans.{AreInDeadlineOrder, in_deadline_order}
use Rattle.slot_core.specs.Feasibility.Sporadics.{arrivals_due, densest_arrivals, densest_pattern}
use Rattle.slot_core.specs.Output.Reports.{job_line}
use Rattle.cycle_plan.specs.NearJobs.{instance_of}
use Rattle.slot_facts.proofs.Demand.Arrivals.{arrivals_due-shifted_to_zero}
use Rattle.slot_facts.proofs.Lists.Members.{Has, Has-from_Contains, Contains-from_Has, AllByRecursion-from_Has}
use Rattle.slot_facts.proofs.Offline.DistinctKeys.{offline_jobs-apart}
use Rattle.slot_facts.proofs.Offline.Jobs.{offline_from_cycle, offline-named, cycle-multiple, cycle-at_most}
use Rattle.slot_facts.proofs.Offline.LaterCycles.{GraphFits-from_sound}
use Rattle.slot_facts.proofs.Plans.InOrder.{IsPermutation-in_order, AreInDeadlineOrder-in_order, AreInDeadlineOrder-one}
use Rattle.slot_facts.proofs.Sets.Ranges.{GraphFits}
use Rattle.window_derive.specs.Chains.{AreOrderable}
use Rattle.window_derive.proofs.ChainSteps.{chain_bound}
use Rattle.window_derive.proofs.SoundSets.{graphs_orderable}
use Rattle.plan_answers.specs.Who.{is_inside, inside_line, ordered_jobs, next_jobs, jobs_inside, arrived_line, arrived_lines, arrival_line, IsSmall}

-- the texts of the items that pass a test
filter-step : {X Y : Type 0} (f : X → List Y) (p : X → Bool) (x : X) (xs : List X) (b : Bool) → p x ≡ b → flat_map f (filter p xs) ≡ flat_map (λ y. if p y then f y else []) xs → flat_map f (filter p (x ∷ xs)) ≡ flat_map (λ y. if p y then f y else []) (x ∷ xs)
filter-step f p x xs true is rest = rw is (ap (λ ys. f x ++ ys) rest)
filter-step f p x xs false is rest = rw is rest

flat_map-filter : {X Y : Type 0} (f : X → List Y) (p : X → Bool) (xs : List X) → flat_map f (filter p xs) ≡ flat_map (λ x. if p x then f x else []) xs
flat_map-filter f p [] = refl
flat_map-filter f p (x ∷ xs) = filter-step f p x xs (p x) refl (flat_map-filter f p xs)

flat_map-map : {X Y Z : Type 0} (f : Y → List Z) (g : X → Y) (xs : List X) → flat_map f (map g xs) ≡ flat_map (λ x. f (g x)) xs
flat_map-map f g [] = refl
flat_map-map f g (x ∷ xs) = ap (λ ys. f (g x) ++ ys) (flat_map-map f g xs)

-- the lines of the jobs inside a window that ends past the first cycle, and of those inside another
pub lines-past : (set : TaskSet) (w : Window) → nat_lt (cycle_of set) w.until ≡ true → flat_map (job_line set) (jobs_inside set w) ≡ flat_map (inside_line set w) (ordered_jobs set) ++ flat_map (λ job. inside_line set w (later_job set (cycle_of set) 1 job)) (ordered_jobs set)
lines-past set w past =
    let first = ordered_jobs set in
    let both = flat_map-append (job_line set) (filter (is_inside w) first) (filter (is_inside w) (next_jobs set)) in
    let next = flat_map-filter (job_line set) (is_inside w) (next_jobs set) ∙ flat_map-map (inside_line set w) (later_job set (cycle_of set) 1) first in
    rw past (both ∙ ap (λ xs. xs ++ flat_map (job_line set) (filter (is_inside w) (next_jobs set))) (flat_map-filter (job_line set) (is_inside w) first) ∙ ap (λ xs. flat_map (inside_line set w) first ++ xs) next)

pub lines-within : (set : TaskSet) (w : Window) → nat_lt (cycle_of set) w.until ≡ false → flat_map (job_line set) (jobs_inside set w) ≡ flat_map (inside_line set w) (ordered_jobs set)
lines-within set w within =
    let first = ordered_jobs set in
    let both = flat_map-append (job_line set) (filter (is_inside w) first) [] in
    rw within (both ∙ append-nil (flat_map (job_line set) (filter (is_inside w) first)) ∙ flat_map-filter (job_line set) (is_inside w) first)

-- jobs of the first cycle in deadline order are the ordered jobs
pub ordered-is : (set : TaskSet) (jobs : List Job) → IsPermutation (cycle_jobs set (cycle_of set) 0) jobs → AreInDeadlineOrder jobs → jobs ≡ ordered_jobs set
ordered-is set jobs listed ordered =
    let first = cycle_jobs set (cycle_of set) 0 in
    let own = in_deadline_order first in
    let own_order = AreInDeadlineOrder-in_order first (offline_jobs-apart set (cycle_of set) 1) in
    let permuted = IsPermutation-trans jobs first own (IsPermutation-sym first jobs listed) (IsPermutation-in_order first) in
    AreInDeadlineOrder-one jobs own ordered own_order permuted

-- each of them is a job of the first cycle
listed-ordered : (set : TaskSet) (job : Job) → Has (ordered_jobs set) job → Contains (cycle_jobs set (cycle_of set) 0) job
listed-ordered set job has =
    let first = cycle_jobs set (cycle_of set) 0 in
    Contains-permutation (ordered_jobs set) first job (IsPermutation-sym first (ordered_jobs set) (IsPermutation-in_order first)) (Contains-from_Has (ordered_jobs set) job has)

-- and its key lies in the set
pub ordered-named : (set : TaskSet) → All (λ (j : Job). key_in_set set j.key ≡ true) (ordered_jobs set)
ordered-named set =
    let Named : Job → Type 0 = λ j. key_in_set set j.key ≡ true in
    All-from_recursion Named (ordered_jobs set) (AllByRecursion-from_Has Named (ordered_jobs set) (λ job has. offline-named set 1 job (offline_from_cycle set (cycle_of set) 0 job (listed-ordered set job has))))

-- numbers of an instance of the first cycle
small-instance : (q period offset deadline cycle k : ℕ) → q * period ≡ cycle → 1 ≤ period → offset + deadline ≤ period → k < (0 + 1) * q → (k < cycle) × (k * period + offset ≤ cycle) × (k * period + offset + deadline ≤ cycle)
small-instance q period offset deadline cycle k whole some within below =
    let number : k < cycle = omega (arith, mul-le-mul_left q some) in
    let upto : (k + 1) * period ≤ q * period = mul-le-mul_right period (omega arith) in
    (number, omega arith, omega arith)

-- the chain before a task of a graph of the set
chain-small : (set : TaskSet) (g t : ℕ) (graph : Graph) (task : Task) → is_sound set ≡ true → slice_get set.graphs g ≡ Some graph → slice_get graph.tasks t ≡ Some task → longest_before (tasks_of set g) t ≤ TASK_LIMIT * SLOT_LIMIT
chain-small set g t graph task sound graph_at task_at =
    let orderable : AreOrderable graph.tasks = subst (λ (x : Graph). AreOrderable x.tasks) (get_or_from_slice_get set.graphs g graph graph graph_at) (graphs_orderable set sound g graph (slice_get_within set.graphs g graph graph_at)) in
    let same : tasks_of set g ≡ graph.tasks = ap (λ o. option_map_or (λ (x : Graph). x.tasks) o []) graph_at in
    let bound = chain_bound graph.tasks t orderable (slice_get_within graph.tasks t task task_at) in
    subst (λ tasks. longest_before tasks t ≤ TASK_LIMIT * SLOT_LIMIT) (sym same) (omega (arith, bound))

-- its numbers are small
IsSmall-listed : (set : TaskSet) (job : Job) → is_sound set ≡ true → Contains (cycle_jobs set (cycle_of set) 0) job → IsSmall job
IsSmall-listed set job sound at =
    let o = offline_from_cycle set (cycle_of set) 0 job at in
    let fits : GraphFits o.graph = GraphFits-from_sound set o.g o.graph sound o.instance_of.graph_at in
    let (number, released, due) = small-instance (cycle_of set / o.graph.period) o.graph.period o.graph.offset o.graph.deadline (cycle_of set) o.k (cycle-multiple set o.g o.graph sound o.instance_of.graph_at) fits.some_period fits.within o.below in
    let most = cycle-at_most set sound in
    let chain = chain-small set o.g o.t o.graph o.task sound o.instance_of.graph_at o.instance_of.task_at in
    subst IsSmall (sym o.instance_of.derived) (omega arith, omega arith, omega arith)

pub ordered-small : (set : TaskSet) → is_sound set ≡ true → All IsSmall (ordered_jobs set)
ordered-small set sound =
    All-from_recursion IsSmall (ordered_jobs set) (AllByRecursion-from_Has IsSmall (ordered_jobs set) (λ job has. IsSmall-listed set job sound (listed-ordered set job has)))

-- the lines of the densest arrivals of one task
task-lines : (set : TaskSet) (s : Sporadic) (index a : ℕ) (places : List ℕ) → slice_get set.sporadics index ≡ Some s → flat_map (arrival_line set) (map (λ m. (index, max a 0 + m * s.separation)) places) ≡ flat_map (λ m. arrived_line s (a + m * s.separation)) places
task-lines set s index a [] at = refl
task-lines set s index a (m ∷ places) at =
    let from : max a 0 ≡ a = omega arith in
    let here : arrival_line set (index, max a 0 + m * s.separation) ≡ arrived_line s (a + m * s.separation) = ap (λ o. option_map_or (λ (x : Sporadic). arrived_line x (max a 0 + m * s.separation)) o []) at ∙ ap (λ r. arrived_line s (r + m * s.separation)) from in
    ap (λ xs. xs ++ flat_map (arrival_line set) (map (λ n. (index, max a 0 + n * s.separation)) places)) here
    ∙ ap (λ xs. arrived_line s (a + m * s.separation) ++ xs) (task-lines set s index a places at)

pub slice_get-later : (x : Sporadic) (xs : List Sporadic) (i : ℕ) (y : Sporadic) → slice_get xs i ≡ Some y → slice_get (x ∷ xs) (i + 1) ≡ Some y
slice_get-later x xs i y here = subst (λ n. slice_get (x ∷ xs) n ≡ Some y) (let e : suc i ≡ i + 1 = omega arith in e) here

-- of these tasks, which stand in the set from this index on
tasks-lines : (set : TaskSet) (ss : List Sporadic) (index a b : ℕ) → ((i : ℕ) (s : Sporadic) → slice_get ss i ≡ Some s → slice_get set.sporadics (index + i) ≡ Some s) → flat_map (arrival_line set) (densest_pattern index ss [] a b) ≡ flat_map (arrived_lines a b) ss
tasks-lines set [] index a b at = refl
tasks-lines set (s ∷ ss) index a b at =
    let same : index + 0 ≡ index = omega arith in
    let first : slice_get set.sporadics index ≡ Some s = subst (λ n. slice_get set.sporadics n ≡ Some s) same (at 0 s refl) in
    let later = λ (i : ℕ) (x : Sporadic) (here : slice_get ss i ≡ Some x). let next : index + (i + 1) ≡ index + 1 + i = omega arith in subst (λ n. slice_get set.sporadics n ≡ Some x) next (at (i + 1) x (slice_get-later s ss i x here)) in
    flat_map-append (arrival_line set) (densest_arrivals index s 0 a b) (densest_pattern (index + 1) ss [] a b)
    ∙ ap (λ xs. xs ++ flat_map (arrival_line set) (densest_pattern (index + 1) ss [] a b)) (task-lines set s index a (range_with_len 0 (arrivals_due s 0 a b)) first)
    ∙ ap (λ xs. arrived_lines a b s ++ xs) (tasks-lines set ss (index + 1) a b later)

pub arrivals-lines : (set : TaskSet) (a b : ℕ) → flat_map (arrival_line set) (densest_pattern 0 set.sporadics [] a b) ≡ flat_map (arrived_lines a b) set.sporadics
arrivals-lines set a b = tasks-lines set set.sporadics 0 a b (λ i s at. let same : i ≡ 0 + i = omega arith in subst (λ n. slice_get set.sporadics n ≡ Some s) same at)

-- so the lines of the jobs so far, and of the next cycle where the window ends past the first, are those of the jobs inside it
pub text-past : (set : TaskSet) (w : Window) (cycle : ℕ) (jobs : List Job) (old mid new : List ℕ) → cycle ≡ cycle_of set → jobs ≡ ordered_jobs set → nat_lt cycle w.until ≡ true → mid ≡ old ++ flat_map (inside_line set w) jobs → new ≡ mid ++ flat_map (λ job. inside_line set w (later_job set cycle 1 job)) jobs → new ≡ old ++ flat_map (job_line set) (jobs_inside set w)
text-past set w cycle jobs old mid new whole listed past first next =
    let lines = λ (n : ℕ) (js : List Job). flat_map (λ job. inside_line set w (later_job set n 1 job)) js in
    let both : flat_map (inside_line set w) jobs ++ lines cycle jobs ≡ flat_map (job_line set) (jobs_inside set w) = ap (λ js. flat_map (inside_line set w) js ++ lines cycle js) listed ∙ ap (λ n. flat_map (inside_line set w) (ordered_jobs set) ++ lines n (ordered_jobs set)) whole ∙ sym (lines-past set w (subst (λ n. nat_lt n w.until ≡ true) whole past)) in
    next
    ∙ ap (λ xs. xs ++ lines cycle jobs) first
    ∙ append_assoc old (flat_map (inside_line set w) jobs) (lines cycle jobs)
    ∙ ap (λ xs. old ++ xs) both

pub text-within : (set : TaskSet) (w : Window) (cycle : ℕ) (jobs : List Job) (old mid : List ℕ) → cycle ≡ cycle_of set → jobs ≡ ordered_jobs set → nat_lt cycle w.until ≡ false → mid ≡ old ++ flat_map (inside_line set w) jobs → mid ≡ old ++ flat_map (job_line set) (jobs_inside set w)
text-within set w cycle jobs old mid whole listed within first =
    first
    ∙ ap (λ js. old ++ flat_map (inside_line set w) js) listed
    ∙ ap (λ xs. old ++ xs) (sym (lines-within set w (subst (λ n. nat_lt n w.until ≡ false) whole within)))

-- the lines of the densest arrivals in so many slots
pub slots-lines : (s : Sporadic) (a slots : ℕ) → 1 ≤ s.separation → arrivals_due s 0 a (a + slots) ≡ arrivals_due s 0 0 slots
slots-lines s a slots apart =
    arrivals_due-shifted_to_zero s a (a + slots) apart (omega arith) ∙ ap (arrivals_due s 0 0) (let e : a + slots - a ≡ slots = omega arith in e)

-- jobs of a cycle that are derived are the ordered ones
pub derived-ordered : {V E : Type 0} (set : TaskSet) (raw : List RawJob) (items : V → List Job) (r : Result V E) → raw ≡ raw_jobs set (cycle_of set) 0 → IfOk r (λ v. IsPermutation (map (derived_job set) raw) (items v)) → IfOk r (λ v. AreInDeadlineOrder (items v)) → IfOk r (λ v. items v ≡ ordered_jobs set)
derived-ordered set raw items (Ok v) is listed ordered =
    ordered-is set (items v) (subst (λ (rs : List RawJob). IsPermutation (map (derived_job set) rs) (items v)) is listed) ordered
derived-ordered set raw items (Err e) is listed ordered = tt

-- the ordered jobs are those of the first cycle
pub listed-by : (set : TaskSet) (cycle : ℕ) (jobs : List Job) → cycle ≡ cycle_of set → jobs ≡ ordered_jobs set → IsPermutation (cycle_jobs set cycle 0) jobs
listed-by set cycle jobs whole is =
    subst (IsPermutation (cycle_jobs set cycle 0)) (sym is) (subst (λ n. IsPermutation (cycle_jobs set n 0) (ordered_jobs set)) (sym whole) (IsPermutation-in_order (cycle_jobs set (cycle_of set) 0)))

-- one more item's line
pub lines-more : {X : Type 0} (f : X → List ℕ) (old so_far now : List ℕ) (xs : List X) (i : ℕ) (x : X) → i < length xs → x ≡ get_or xs i x → so_far ≡ old ++ flat_map f (take i xs) → now ≡ so_far ++ f x → now ≡ old ++ flat_map f (take (i + 1) xs)
lines-more f old so_far now xs i x low at before more =
    let one : flat_map f (get_or xs i x ∷ []) ≡ f x = append-nil (f (get_or xs i x)) ∙ ap f (sym at) in
    let all : flat_map f (take (i + 1) xs) ≡ flat_map f (take i xs) ++ f x = ap (flat_map f) (take_more xs i x low) ∙ flat_map-append f (take i xs) (get_or xs i x ∷ []) ∙ ap (λ l. flat_map f (take i xs) ++ l) one in
    more ∙ ap (λ l. l ++ f x) before ∙ append_assoc old (flat_map f (take i xs)) (f x) ∙ ap (λ l. old ++ l) (sym all)

-- one more item's lines, of items that are counted
pub items-more : {X : Type 0} (f : ℕ × X → List ℕ) (so_far now all : List ℕ) (xs : List X) (n : ℕ) (x : X) → n < length xs → x ≡ get_or xs n x → so_far ++ flat_map f (enumerate_from n (drop n xs)) ≡ all → now ≡ so_far ++ f (n, x) → now ++ flat_map f (enumerate_from (n + 1) (drop (n + 1) xs)) ≡ all
items-more f so_far now all xs n x low at before more =
    let rest = flat_map f (enumerate_from (n + 1) (drop (n + 1) xs)) in
    ap (λ l. l ++ rest) more
    ∙ append_assoc so_far (f (n, x)) rest
    ∙ ap (λ y. so_far ++ (f (n, y) ++ rest)) at
    ∙ sym (at_drop_more (λ ys. so_far ++ flat_map f (enumerate_from n ys)) xs n x low)
    ∙ before

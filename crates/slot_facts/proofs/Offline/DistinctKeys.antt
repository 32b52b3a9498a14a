-- No key stands twice among the offline jobs of the first cycles.
use Rattle.std.proofs.Common.{◌≡◌, ℕ, zero, suc, ◌+◌, ◌*◌, ◌/◌, ◌<◌, ◌≤◌, List, [], ◌∷◌, ◌++◌, map, zero-add, refl, sym, ap, ◌∙◌, inl, inr, arith}
use Rattle.std.specs.Prelude.{flat_map}
use Rattle.std.specs.List.{range_with_len, enumerate_from}
use Rattle.slot_core.specs.declared.jobs.Key.TheVariants.{Offline}
use Rattle.slot_core.specs.declared.jobs.RawJob.{RawJob}
use Rattle.slot_core.specs.declared.jobs.Job.{Job}
use Rattle.slot_core.specs.declared.tasks.Task.{Task}
use Rattle.slot_core.specs.declared.tasks.Graph.{Graph}
use Rattle.slot_core.specs.declared.tasks.TaskSet.{TaskSet}
use Rattle.slot_core.specs.Offline.OfflineJobs.{raw_job, instance_jobs, graph_jobs, raw_jobs, derived_job, cycle_jobs, offline_jobs}
use Rattle.slot_facts.proofs.Lists.Members.{Has, Contains-from_Has, Has-append_cases, Has-map_cases, Has-flat_map_cases, Has-range_with_len_bounds, Has-enumerate_from_at}
use Rattle.slot_facts.proofs.Offline.Jobs.{IsInstance, offline_from_cycle, offline_from_cycles}

-- no two places of the list have one value of f
abbrev pub IsApart : {X Y : Type 0} → (X → Y) → List X → Type 0
IsApart f [] = Unit
IsApart f (x ∷ xs) = ((y : _) → Has xs y → f x ≡ f y → ⊥) × IsApart f xs

-- where one value of f means one of g, values of g that are apart keep those of f apart
pub IsApart-weaker : {X Y Z : Type 0} (f : X → Y) (g : X → Z) (xs : List X) → ((x y : X) → f x ≡ f y → g x ≡ g y) → IsApart g xs → IsApart f xs
IsApart-weaker f g [] same apart = tt
IsApart-weaker f g (x ∷ xs) same apart =
    (λ y at e. apart.0 y at (same x y e), IsApart-weaker f g xs same apart.1)

-- two lists, one after the other, of which no two members have one value
pub IsApart-append : {X Y : Type 0} (f : X → Y) (xs ys : List X) → IsApart f xs → IsApart f ys → ((x y : X) → Has xs x → Has ys y → f x ≡ f y → ⊥) → IsApart f (xs ++ ys)
IsApart-append f [] ys first second cross = second
IsApart-append f (x ∷ xs) ys first second cross = (
  λ y at e. elim (Has-append_cases xs ys y at) [ inl a ↦ first.0 y a e | inr b ↦ cross x y (inl refl) b e ],
  IsApart-append f xs ys first.1 second (λ a b at. cross a b (inr at)),
)

-- a list of images
pub IsApart-map : {X Y Z : Type 0} (g : X → Y) (f : Y → Z) (xs : List X) → IsApart (λ x. f (g x)) xs → IsApart f (map g xs)
IsApart-map g f [] apart = tt
IsApart-map g f (x ∷ xs) apart = (
  λ y at e.
      let m = Has-map_cases g xs y at in
      apart.0 m.0 m.1 (e ∙ sym (ap f m.2)),
  IsApart-map g f xs apart.1,
)

-- lists joined end to end, where one value means one tag
IsApart-flat_map : {X Y Z T : Type 0} (g : X → List Y) (f : Y → Z) (tag : X → T) (xs : List X) → IsApart tag xs → ((x : X) → IsApart f (g x)) → ((x x' : X) (y y' : Y) → Has (g x) y → Has (g x') y' → f y ≡ f y' → tag x ≡ tag x') → IsApart f (flat_map g xs)
IsApart-flat_map g f tag [] apart each cross = tt
IsApart-flat_map g f tag (x ∷ xs) apart each cross =
    IsApart-append
    f
    (g x)
    (flat_map g xs)
    (each x)
    (IsApart-flat_map g f tag xs apart.1 each cross)
    (λ y y' at at' e.
    let m = Has-flat_map_cases g xs y' at' in
    apart.0 m.0 m.1 (cross x m.0 y y' at m.2 e))

-- the numbers of a range, and the places of a numbered list
IsApart-range_with_len : (a n : ℕ) → IsApart (λ k. k) (range_with_len a n)
IsApart-range_with_len a zero = tt
IsApart-range_with_len a (suc n) =
    (λ k at e. absurd (omega (arith, Has-range_with_len_bounds (a + 1) n k at)), IsApart-range_with_len (a + 1) n)

IsApart-enumerate_from : {X : Type 0} (n : ℕ) (xs : List X) → IsApart (λ (p : ℕ × X). p.0) (enumerate_from n xs)
IsApart-enumerate_from n [] = tt
IsApart-enumerate_from n (x ∷ xs) = (
  λ p at e.
      let r = Has-enumerate_from_at (n + 1) xs p.0 p.1 at in
      absurd (omega (arith, r.1)),
  IsApart-enumerate_from (n + 1) xs,
)

-- the key of a raw job of an instance, and of a graph
instance_key : (g k : ℕ) (graph : Graph) (raw : RawJob) → Has (instance_jobs g graph k) raw → (t : ℕ) × (Offline g t k ≡ raw.key)
instance_key g k graph raw at =
    let m = Has-map_cases (raw_job g graph k) (enumerate_from 0 graph.tasks) raw at in
    (m.0.0, ap (λ (r : RawJob). r.key) m.2)

graph_key : (cycle n g : ℕ) (graph : Graph) (raw : RawJob) → Has (graph_jobs cycle n (g, graph)) raw → (t k : ℕ) × (Offline g t k ≡ raw.key)
graph_key cycle n g graph raw at =
    let m = Has-flat_map_cases (instance_jobs g graph) (range_with_len (n * (cycle / graph.period)) (cycle / graph.period)) raw at in
    let i = instance_key g m.0 graph raw m.2 in
    (i.0, m.0, i.1)

-- keys of offline jobs that are one have the same numbers
pub same_numbers : (g h t u k l : ℕ) → Offline g t k ≡ Offline h u l → (g ≡ h) × (t ≡ u) × (k ≡ l)
same_numbers g h t u k l e = (cc, cc, cc)

-- the tasks of an instance, the instances of a graph and the graphs keep the keys apart
instance_jobs-apart : (g k : ℕ) (graph : Graph) → IsApart (λ (r : RawJob). r.key) (instance_jobs g graph k)
instance_jobs-apart g k graph =
    IsApart-map
    (raw_job g graph k)
    (λ (r : RawJob). r.key)
    (enumerate_from 0 graph.tasks)
    (IsApart-weaker
    (λ (t : ℕ × Task). Offline g t.0 k)
    (λ (t : ℕ × Task). t.0)
    (enumerate_from 0 graph.tasks)
    (λ t u e. (same_numbers g g t.0 u.0 k k e).1)
    (IsApart-enumerate_from 0 graph.tasks))

graph_jobs-apart : (cycle n g : ℕ) (graph : Graph) → IsApart (λ (r : RawJob). r.key) (graph_jobs cycle n (g, graph))
graph_jobs-apart cycle n g graph =
    let count = cycle / graph.period in
    IsApart-flat_map
    (instance_jobs g graph)
    (λ (r : RawJob). r.key)
    (λ k. k)
    (range_with_len (n * count) count)
    (IsApart-range_with_len (n * count) count)
    (λ k. instance_jobs-apart g k graph)
    (λ k l a b at_a at_b e.
    let x = instance_key g k graph a at_a in
    let y = instance_key g l graph b at_b in
    (same_numbers g g x.0 y.0 k l (x.1 ∙ e ∙ sym y.1)).2)

raw_jobs-apart : (set : TaskSet) (cycle n : ℕ) → IsApart (λ (r : RawJob). r.key) (raw_jobs set cycle n)
raw_jobs-apart set cycle n =
    IsApart-flat_map
    (graph_jobs cycle n)
    (λ (r : RawJob). r.key)
    (λ (i : ℕ × Graph). i.0)
    (enumerate_from 0 set.graphs)
    (IsApart-enumerate_from 0 set.graphs)
    (λ i. graph_jobs-apart cycle n i.0 i.1)
    (λ i j a b at_a at_b e.
    let x = graph_key cycle n i.0 i.1 a at_a in
    let y = graph_key cycle n j.0 j.1 b at_b in
    (same_numbers i.0 j.0 x.0 y.0 x.1 y.1 (x.2 ∙ e ∙ sym y.2)).0)

-- so do the offline jobs of one cycle
cycle_jobs-apart : (set : TaskSet) (cycle n : ℕ) → IsApart (λ (j : Job). j.key) (cycle_jobs set cycle n)
cycle_jobs-apart set cycle n =
    IsApart-map (derived_job set) (λ (j : Job). j.key) (raw_jobs set cycle n) (raw_jobs-apart set cycle n)

-- an instance is released in one cycle alone
one_cycle : (set : TaskSet) (cycle n : ℕ) (a b : Job) (g t k h u l : ℕ) (graph graph' : Graph) (task task' : Task) → IsInstance set a g t k graph task → IsInstance set b h u l graph' task' → k < n * (cycle / graph.period) → n * (cycle / graph'.period) ≤ l → a.key ≡ b.key → ⊥
one_cycle set cycle n a b g t k h u l graph graph' task task' ia ib early late same =
    let ka = ap (λ (j : Job). j.key) ia.derived in
    let kb = ap (λ (j : Job). j.key) ib.derived in
    let instance : k ≡ l = cc in
    let whole : graph ≡ graph' = cc in
    absurd (omega (arith, ap (λ (g : Graph). n * (cycle / g.period)) whole))

-- and those of the first cycles
pub offline_jobs-apart : (set : TaskSet) (cycle n : ℕ) → IsApart (λ (j : Job). j.key) (offline_jobs set cycle n)
offline_jobs-apart set cycle zero = tt
offline_jobs-apart set cycle (suc n) =
    let earlier = offline_jobs set cycle n in
    let fresh = cycle_jobs set cycle n in
    IsApart-append
    (λ (j : Job). j.key)
    earlier
    fresh
    (offline_jobs-apart set cycle n)
    (cycle_jobs-apart set cycle n)
    (λ a b at_a at_b e.
    let x = offline_from_cycles set cycle n a (Contains-from_Has earlier a at_a) in
    let y = offline_from_cycle set cycle n b (Contains-from_Has fresh b at_b) in
    one_cycle set cycle n a b x.g x.t x.k y.g y.t y.k x.graph y.graph x.task y.task x.instance_of y.instance_of (rw zero-add at x.below) y.at_least e)

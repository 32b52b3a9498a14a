-- Precedence between the tasks of a graph, and the chains that it makes.
use Rattle.std.specs.Prelude.{ℕ, zero, suc, max, Bool, ◌==◌, List, [], ◌∷◌, length, map, filter, flat_map, fold, sum_by, slice_get}
use Rattle.std.specs.Option.{option_map_or}
use Rattle.std.specs.List.{list_any, range_with_len}
use Rattle.slot_core.specs.declared.tasks.Task.{Task}

-- the predecessors that a task lists
abbrev pub after_of : List Task → ℕ → List ℕ
after_of tasks t = option_map_or (λ (task : Task). task.after) (slice_get tasks t) []

-- the declared slots of a task
abbrev pub wcet_of : List Task → ℕ → ℕ
wcet_of tasks t = option_map_or (λ (task : Task). task.wcet) (slice_get tasks t) 0

-- task t lists p among its direct predecessors
abbrev pub comes_after : List Task → ℕ → ℕ → Bool
comes_after tasks t p = list_any (λ a. a == p) (after_of tasks t)

-- the direct predecessors of a task
abbrev pub predecessors : List Task → ℕ → List ℕ
predecessors tasks t = filter (λ p. comes_after tasks t p) (range_with_len 0 (length tasks))

-- its direct successors
abbrev pub successors : List Task → ℕ → List ℕ
successors tasks t = filter (λ s. comes_after tasks s t) (range_with_len 0 (length tasks))

-- all chains of at most n tasks that go on from task t step by step, nearest task first
abbrev pub chains : (ℕ → List ℕ) → ℕ → ℕ → List (List ℕ)
chains step zero t = [] ∷ []
chains step (suc n) t = [] ∷ flat_map (λ s. map (λ chain. s ∷ chain) (chains step n s)) (step t)

-- the greatest sum of declared slots of a chain before task t
abbrev pub longest_before : List Task → ℕ → ℕ
longest_before tasks t =
    fold max 0 (map (sum_by (wcet_of tasks)) (chains (predecessors tasks) (length tasks) t))

-- the greatest sum of a chain after it
abbrev pub longest_after : List Task → ℕ → ℕ
longest_after tasks t =
    fold max 0 (map (sum_by (wcet_of tasks)) (chains (successors tasks) (length tasks) t))

-- a path of n `after` entries leads from task a back to task b
abbrev pub leads_to : List Task → ℕ → ℕ → ℕ → Bool
leads_to tasks zero a b = a == b
leads_to tasks (suc n) a b = list_any (λ p. leads_to tasks n p b) (after_of tasks a)

-- a path of one or more `after` entries leads from the task back to it; the shortest such path has
-- no more entries than the graph has tasks
abbrev pub is_on_loop : List Task → ℕ → Bool
is_on_loop tasks t = list_any (λ n. leads_to tasks n t t) (range_with_len 1 (length tasks))

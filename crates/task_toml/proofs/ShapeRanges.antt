-- A set of the right shape is in range.
use Rattle.std.proofs.Common.{◌≡◌, ℕ, Bool, true, ◌&&◌, ◌+◌, ◌-◌, nat_le, suc, List, [], ◌∷◌, length, map, Some, None, Ok, Err, ap, refl, arith}
use Rattle.std.proofs.lemmas.Bool.Decides.{nat_tests}
use Rattle.std.proofs.lemmas.List.{length-map}
use Rattle.std.specs.List.{list_all}
use Rattle.std.specs.Option.{ForSome}
use Rattle.toml.specs.Data.{Members}
use Rattle.slot_core.specs.Calls.Results.{◌>>=◌}
use Rattle.slot_core.specs.declared.TheConstants.{TASK_LIMIT, AFTER_LIMIT, GRAPH_LIMIT, SPORADIC_LIMIT, SLOT_LIMIT, SOFT_LIMIT, SOFT_DEFAULT}
use Rattle.slot_core.specs.declared.tasks.Graph.{Graph}
use Rattle.slot_core.specs.declared.tasks.Sporadic.{Sporadic as SporadicTask}
use Rattle.slot_core.specs.declared.tasks.TaskSet.{TaskSet}
use Rattle.slot_core.specs.declared.faults.Part.TheVariants.{Top, Graph as GraphPart, Task as TaskPart, Sporadic as SporadicPart}
use Rattle.slot_core.specs.declared.faults.Field.{Field}
use Rattle.slot_core.specs.declared.faults.Field.TheVariants.{Soft, Graph as GraphKey, Sporadic, Name, Period, Offset, Deadline, Task as TaskKey, Wcet, After, Separation}
use Rattle.slot_core.specs.declared.faults.Place.{Place}
use Rattle.slot_core.specs.Sets.Names.{is_name}
use Rattle.slot_core.specs.Sets.Ranges.{is_between, task_in_range, graph_in_range, sporadic_in_range, is_in_range}
use Rattle.task_toml.specs.TomlFields.{Read, known_keys, at_key}
use Rattle.task_toml.specs.Reading.{NamedTask, each, task_of, with_indexes, graph_of, sporadic_of, shaped_set}
use Rattle.task_toml.proofs.FieldRanges.{number_at-Ok, name_at-Ok, texts_at-Ok, tables_at-Ok, some_tables_at-Ok}

-- a reading of y took the step r, of which a fact is known, and then f
step : {X Y P : Type 0} {Q : X → Type 0} {r : Read X} {f : X → Read Y} {y : Y} → ((x : X) → r ≡ Ok x → Q x) → (r >>= f) ≡ Ok y → ((x : X) → Q x → f x ≡ Ok y → P) → P
step {r = Ok x} fact h then = then x (fact x refl) h
step {r = Err fault} fact h then = cc

-- nothing is known
any : {X : Type 0} (r : Read X) (x : X) → r ≡ Ok x → Unit {0}
any r x h = tt

-- what an absent number is lies in the range
no_default : (low high : ℕ) → ForSome None (λ a. is_between low high a ≡ true)
no_default low high = λ a h. cc

default : (low high n : ℕ) → is_between low high n ≡ true → ForSome (Some n) (λ a. is_between low high a ≡ true)
default low high n h = λ a is. let same : n ≡ a = cc in rw (← same) h

-- the ranges of a task whose entries are still names
abbrev pub named_in_range : NamedTask → Bool
named_in_range task = is_name task.name && is_between 1 SLOT_LIMIT task.wcet && nat_le (length task.after) AFTER_LIMIT

-- a task, a graph and a sporadic task of the right shape are in range
task_of-Ok : (g t : ℕ) (m : Members) (task : NamedTask) → task_of g t m ≡ Ok task → named_in_range task ≡ true
task_of-Ok g t m task h =
    let at = λ (field : Field). let place : Place = record { part = TaskPart g t; field = field } in place in
    step (any (known_keys (TaskPart g t) m)) h (λ known _ h.
    step (name_at-Ok (at Name) (at_key Name known)) h (λ name name_fits h.
    step (number_at-Ok (at Wcet) 1 SLOT_LIMIT None (at_key Wcet known) (no_default 1 SLOT_LIMIT)) h (λ wcet fits h.
    step (texts_at-Ok (at After) AFTER_LIMIT (at_key After known)) h (λ after few h.
    let same : record { name = name; wcet = wcet; after = after } ≡ task = cc in
    rw (← same, name_fits, fits, few)))))

-- what holds of each item that is read holds of all
each-Ok : {X : Type 0} (p : X → Bool) (f : ℕ → Members → Read X) → ((n : ℕ) (t : Members) (x : X) → f n t ≡ Ok x → p x ≡ true) → (n : ℕ) (ts : List Members) (xs : List X) → each f n ts ≡ Ok xs
    → (length xs ≡ length ts) × (list_all p xs ≡ true)
each-Ok p f good n [] xs h = let same : [] ≡ xs = cc in rw (← same) (refl, refl)
each-Ok p f good n (t ∷ ts) xs h =
    step (good n t) h (λ x fits h.
    step (each-Ok p f good (n + 1) ts) h (λ ys (count, all) h.
    let same : x ∷ ys ≡ xs = cc in
    rw (← same) (ap suc count, rw (fits, all))))

-- indexes for names leave tasks in range
with_indexes-in_range : (all ts : List NamedTask) → list_all task_in_range (map (with_indexes all) ts) ≡ list_all named_in_range ts
with_indexes-in_range all [] = refl
with_indexes-in_range all (t ∷ ts) = rw (length-map, with_indexes-in_range all ts)

graph_of-Ok : (g : ℕ) (m : Members) (graph : Graph) → graph_of g m ≡ Ok graph → graph_in_range graph ≡ true
graph_of-Ok g m graph h =
    let at = λ (field : Field). let place : Place = record { part = GraphPart g; field = field } in place in
    step (any (known_keys (GraphPart g) m)) h (λ known _ h.
    step (name_at-Ok (at Name) (at_key Name known)) h (λ name name_fits h.
    step (number_at-Ok (at Period) 1 SLOT_LIMIT None (at_key Period known) (no_default 1 SLOT_LIMIT)) h (λ period period_fits h.
    step (number_at-Ok (at Offset) 0 (period - 1) (Some 0) (at_key Offset known) (default 0 (period - 1) 0 (grind (arith, nat_tests)))) h (λ offset offset_fits h.
    step (number_at-Ok (at Deadline) 1 (period - offset) (Some (period - offset)) (at_key Deadline known) (default 1 (period - offset) (period - offset) (grind (arith, nat_tests)))) h (λ deadline deadline_fits h.
    step (some_tables_at-Ok (at TaskKey) TASK_LIMIT (at_key TaskKey known)) h (λ tables few h.
    step (each-Ok named_in_range (task_of g) (task_of-Ok g) 0 tables) h (λ tasks (count, all) h.
    let same : record { name = name; period = period; offset = offset; deadline = deadline; tasks = map (with_indexes tasks) tasks } ≡ graph = cc in
    rw (← same, name_fits, period_fits, offset_fits, deadline_fits, length-map, count, few, with_indexes-in_range tasks tasks, all))))))))

sporadic_of-Ok : (s : ℕ) (m : Members) (sporadic : SporadicTask) → sporadic_of s m ≡ Ok sporadic → sporadic_in_range sporadic ≡ true
sporadic_of-Ok s m sporadic h =
    let at = λ (field : Field). let place : Place = record { part = SporadicPart s; field = field } in place in
    step (any (known_keys (SporadicPart s) m)) h (λ known _ h.
    step (name_at-Ok (at Name) (at_key Name known)) h (λ name name_fits h.
    step (number_at-Ok (at Wcet) 1 SLOT_LIMIT None (at_key Wcet known) (no_default 1 SLOT_LIMIT)) h (λ wcet wcet_fits h.
    step (number_at-Ok (at Separation) 1 SLOT_LIMIT None (at_key Separation known) (no_default 1 SLOT_LIMIT)) h (λ separation separation_fits h.
    step (number_at-Ok (at Deadline) 1 separation (Some separation) (at_key Deadline known) (default 1 separation separation (grind (arith, nat_tests)))) h (λ deadline deadline_fits h.
    let same : record { name = name; wcet = wcet; separation = separation; deadline = deadline } ≡ sporadic = cc in
    rw (← same, name_fits, wcet_fits, separation_fits, deadline_fits))))))

-- a set of the right shape is in range
pub shaped_set-Ok : (m : Members) (set : TaskSet) → shaped_set m ≡ Ok set → is_in_range set ≡ true
shaped_set-Ok m set h =
    let at = λ (field : Field). let place : Place = record { part = Top; field = field } in place in
    step (any (known_keys Top m)) h (λ known _ h.
    step (number_at-Ok (at Soft) 1 SOFT_LIMIT (Some SOFT_DEFAULT) (at_key Soft known) (default 1 SOFT_LIMIT SOFT_DEFAULT refl)) h (λ soft soft_fits h.
    step (some_tables_at-Ok (at GraphKey) GRAPH_LIMIT (at_key GraphKey known)) h (λ graph_tables few h.
    step (each-Ok graph_in_range graph_of graph_of-Ok 0 graph_tables) h (λ graphs (count, all) h.
    step (tables_at-Ok (at Sporadic) SPORADIC_LIMIT (at_key Sporadic known)) h (λ sporadic_tables few_sporadics h.
    step (each-Ok sporadic_in_range sporadic_of sporadic_of-Ok 0 sporadic_tables) h (λ sporadics (count_sporadics, all_sporadics) h.
    let same : record { soft_limit = soft; graphs = graphs; sporadics = sporadics } ≡ set = cc in
    rw (← same, soft_fits, count, few, all, count_sporadics, few_sporadics, all_sporadics)))))))

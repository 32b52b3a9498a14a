-- A set that is read has its shape.
use Rattle.std.proofs.Common.{◌≡◌, ℕ, Bool, true, ◌&&◌, ◌+◌, ◌-◌, nat_le, suc, List, [], ◌∷◌, length, map, Some, None, Ok, Err, IfOk, ap, refl}
use Rattle.std.proofs.lemmas.List.{length-map}
use Rattle.std.specs.List.{list_all}
use Rattle.toml.specs.Data.{Members}
use Rattle.slot_core.specs.Calls.Results.{◌>>=◌}
use Rattle.slot_core.specs.declared.TheConstants.{TASK_LIMIT, AFTER_LIMIT, GRAPH_LIMIT, SPORADIC_LIMIT, SOFT_LIMIT, SOFT_DEFAULT}
use Rattle.slot_core.specs.declared.faults.Part.TheVariants.{Top, Graph as GraphPart, Task as TaskPart, Sporadic as SporadicPart}
use Rattle.slot_core.specs.Sets.Names.{is_name}
use Rattle.slot_core.specs.Sets.Ranges.{is_between}
use Rattle.clock_units.specs.declared.sets.PhysicalGraph.{PhysicalGraph}
use Rattle.clock_units.specs.declared.sets.PhysicalSporadic.{PhysicalSporadic}
use Rattle.clock_units.specs.declared.sets.PhysicalSet.{PhysicalSet}
use Rattle.clock_units.specs.Derived.{task_is_shaped, graph_is_shaped, is_shaped}
use Rattle.unit_toml.specs.declared.keys.UnitKey.{UnitKey}
use Rattle.unit_toml.specs.declared.keys.UnitKey.TheVariants.{Slot, Overhead, Soft, Graph as GraphKey, Sporadic, Name, Period, Offset, Deadline, Task as TaskKey, Wcet, After, Separation, Plan, Arrives}
use Rattle.unit_toml.specs.UnitFields.{Read, Answers, known_keys, at_key, number_at, some_time_at, time_at, time_within, boundaries_at}
use Rattle.unit_toml.specs.Reading.{NamedTask, place_at, each, task_of, with_indexes, graph_of, sporadic_of, graphs_at, sporadics_at, shaped_set}
use Rattle.unit_toml.proofs.FieldShapes.{name_at-Ok, texts_at-Ok, tables_at-Ok, some_tables_at-Ok}

-- a reading of y took the step r, of which a fact is known, and then f
step : {X Y P : Type 0} {Q : X → Type 0} {r : Read X} {f : X → Read Y} {y : Y} → ((x : X) → r ≡ Ok x → Q x) → (r >>= f) ≡ Ok y → ((x : X) → Q x → f x ≡ Ok y → P) → P
step {r = Ok x} fact h then = then x (fact x refl) h
step {r = Err fault} fact h then = cc

-- nothing is known
any : {X : Type 0} (r : Read X) (x : X) → r ≡ Ok x → Unit {0}
any r x h = tt

-- a task whose `after` entries are still names has its shape
abbrev named_is_shaped : NamedTask → Bool
named_is_shaped task = is_name task.name && nat_le (length task.after) AFTER_LIMIT

task_of-Ok : (g t : ℕ) (m : Members) (task : NamedTask) → task_of g t m ≡ Ok task → named_is_shaped task ≡ true
task_of-Ok g t m task h =
    let at = λ (key : UnitKey). place_at (TaskPart g t) key in
    step (any (known_keys (TaskPart g t) m)) h (λ known _ h.
    step (name_at-Ok (at Name) (at_key Name known)) h (λ name named h.
    step (any (time_at (at Wcet) None (at_key Wcet known))) h (λ wcet _ h.
    step (texts_at-Ok (at After) AFTER_LIMIT (at_key After known)) h (λ after few h.
    let same : record { name = name; wcet = wcet; after = after } ≡ task = cc in
    rw (← same, named, few)))))

-- what holds of each item that is read holds of all
record Items {X : Type 0} (p : X → Bool) (ts : List Members) (xs : List X) : Type 0 where
  pub count : length xs ≡ length ts
  pub all : list_all p xs ≡ true

each-Ok : {X : Type 0} (p : X → Bool) (f : ℕ → Members → Read X) → ((n : ℕ) (t : Members) (x : X) → f n t ≡ Ok x → p x ≡ true) → (n : ℕ) (ts : List Members) (xs : List X) → each f n ts ≡ Ok xs → Items p ts xs
each-Ok p f good n [] xs h = let same : [] ≡ xs = cc in rw (← same) (record { count = refl; all = refl })
each-Ok p f good n (t ∷ ts) xs h =
    step (good n t) h (λ x fits h.
    step (each-Ok p f good (n + 1) ts) h (λ ys more h.
    let same : x ∷ ys ≡ xs = cc in
    rw (← same) (record { count = ap suc more.count; all = rw (fits, more.all) refl })))

-- places for names leave tasks as they were shaped
with_indexes-shaped : (all ts : List NamedTask) → list_all task_is_shaped (map (with_indexes all) ts) ≡ list_all named_is_shaped ts
with_indexes-shaped all [] = refl
with_indexes-shaped all (t ∷ ts) = rw (length-map, with_indexes-shaped all ts)

graph_of-Ok : (g : ℕ) (m : Members) (graph : PhysicalGraph) → graph_of g m ≡ Ok graph → graph_is_shaped graph ≡ true
graph_of-Ok g m graph h =
    let at = λ (key : UnitKey). place_at (GraphPart g) key in
    step (any (known_keys (GraphPart g) m)) h (λ known _ h.
    step (name_at-Ok (at Name) (at_key Name known)) h (λ name named h.
    step (any (time_at (at Period) None (at_key Period known))) h (λ period _ h.
    step (any (time_at (at Offset) (Some 0) (at_key Offset known))) h (λ offset _ h.
    step (any (time_at (at Deadline) (Some (period - offset)) (at_key Deadline known))) h (λ deadline _ h.
    step (some_tables_at-Ok (at TaskKey) TASK_LIMIT (at_key TaskKey known)) h (λ tables few h.
    step (each-Ok named_is_shaped (task_of g) (task_of-Ok g) 0 tables) h (λ tasks items h.
    let same : record { name = name; period = period; offset = offset; deadline = deadline; tasks = map (with_indexes tasks) tasks } ≡ graph = cc in
    rw (← same, named, length-map, items.count, few, with_indexes-shaped tasks tasks, items.all))))))))

-- the name of a sporadic task is one
abbrev is_named : PhysicalSporadic → Bool
is_named s = is_name s.name

sporadic_of-Ok : (s : ℕ) (m : Members) (sporadic : PhysicalSporadic) → sporadic_of s m ≡ Ok sporadic → is_named sporadic ≡ true
sporadic_of-Ok s m sporadic h =
    let at = λ (key : UnitKey). place_at (SporadicPart s) key in
    step (any (known_keys (SporadicPart s) m)) h (λ known _ h.
    step (name_at-Ok (at Name) (at_key Name known)) h (λ name named h.
    step (any (time_at (at Wcet) None (at_key Wcet known))) h (λ wcet _ h.
    step (any (time_at (at Separation) None (at_key Separation known))) h (λ separation _ h.
    step (any (time_within (at Plan) separation (at_key Plan known))) h (λ planned _ h.
    step (any (time_at (at Deadline) (Some separation) (at_key Deadline known))) h (λ deadline _ h.
    step (any (boundaries_at (at Arrives) (at_key Arrives known))) h (λ at_boundaries _ h.
    let same : record { name = name; wcet = wcet; separation = separation; planned = planned; deadline = deadline; at_boundaries = at_boundaries } ≡ sporadic = cc in
    rw (← same) named)))))))

-- the graphs, and the sporadic tasks
record Graphs (graphs : List PhysicalGraph) : Type 0 where
  pub count : is_between 1 GRAPH_LIMIT (length graphs) ≡ true
  pub all : list_all graph_is_shaped graphs ≡ true

graphs_at-Ok : (m : Members) (graphs : List PhysicalGraph) → graphs_at m ≡ Ok graphs → Graphs graphs
graphs_at-Ok m graphs h =
    step (some_tables_at-Ok (place_at Top GraphKey) GRAPH_LIMIT (at_key GraphKey m)) h (λ tables few h.
    let items = each-Ok graph_is_shaped graph_of graph_of-Ok 0 tables graphs h in
    record { count = rw items.count few; all = items.all })

record Sporadics (sporadics : List PhysicalSporadic) : Type 0 where
  pub count : nat_le (length sporadics) SPORADIC_LIMIT ≡ true
  pub all : list_all is_named sporadics ≡ true

sporadics_at-Ok : (m : Members) (sporadics : List PhysicalSporadic) → sporadics_at m ≡ Ok sporadics → Sporadics sporadics
sporadics_at-Ok m sporadics h =
    step (tables_at-Ok (place_at Top Sporadic) SPORADIC_LIMIT (at_key Sporadic m)) h (λ tables few h.
    let items = each-Ok is_named sporadic_of sporadic_of-Ok 0 tables sporadics h in
    record { count = rw items.count few; all = items.all })

is_shaped-read : (m : Members) (set : PhysicalSet) → shaped_set m ≡ Ok set → is_shaped set ≡ true
is_shaped-read m set h =
    let at = λ (key : UnitKey). place_at Top key in
    step (any (known_keys Top m)) h (λ known _ h.
    step (any (some_time_at (at Slot) (at_key Slot known))) h (λ slot _ h.
    step (any (time_at (at Overhead) (Some 0) (at_key Overhead known))) h (λ overhead _ h.
    step (any (number_at (at Soft) 1 SOFT_LIMIT SOFT_DEFAULT (at_key Soft known))) h (λ soft _ h.
    step (graphs_at-Ok known) h (λ graphs graphs_fit h.
    step (sporadics_at-Ok known) h (λ sporadics sporadics_fit h.
    let same : record { slot = slot; overhead = overhead; soft_limit = soft; graphs = graphs; sporadics = sporadics } ≡ set = cc in
    rw (← same, graphs_fit.count, graphs_fit.all, sporadics_fit.count, sporadics_fit.all)))))))

-- so has the answer of the code
pub shaped-answer : (answer : Read PhysicalSet) (m : Members) → Answers answer (shaped_set m) → IfOk answer (λ set. is_shaped set ≡ true)
shaped-answer (Ok set) m h = is_shaped-read m set h
shaped-answer (Err fault) m h = tt

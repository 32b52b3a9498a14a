use Rattle.std.proofs.Common.{◌≡◌, ℕ, List, Some, Ok, Err, refl, sym, rules}
use Rattle.toml.specs.Data.{Members}
use Rattle.toml.specs.View.{table_view}
use Rattle.slot_core.specs.Calls.Results.{◌>>=◌}
use Rattle.slot_core.specs.declared.TheConstants.{GRAPH_LIMIT, SPORADIC_LIMIT, SOFT_LIMIT, SOFT_DEFAULT}
use Rattle.slot_core.specs.declared.faults.Part.TheVariants.{Top}
use Rattle.slot_core.specs.declared.faults.Field.{Field}
use Rattle.slot_core.specs.declared.faults.Field.TheVariants.{Soft, Graph, Sporadic}
use Rattle.slot_core.specs.declared.faults.Place.{Place}
use Rattle.slot_core.specs.declared.tasks.Graph.{Graph as GraphOf}
use Rattle.slot_core.specs.declared.tasks.Sporadic.{Sporadic as SporadicTask}
use Rattle.slot_core.specs.declared.tasks.TaskSet.{TaskSet}
use Rattle.task_toml.specs.Reading.{each, graph_of, sporadic_of, graphs_at, sporadics_at, shaped_set, some_tables_at, tables_at}
use Rattle.task_toml.specs.TomlFields.{Read, at_key, known_keys, number_at}
use Rattle.task_toml.proofs.read_set.Goals as goal
use Rattle.task_toml.proofs.read_set.Goals.{In_ok-soft_limit}

-- two steps that agree on each value
next-same : {Y Z : Type 0} (r : Read Y) (g h : Y → Read Z) → ((y : Y) → g y ≡ h y) → (r >>= g) ≡ (r >>= h)
next-same (Ok y) g h same = same y
next-same (Err fault) g h same = refl

-- a step of two steps
next-both : {X Y Z : Type 0} (r : Read X) (f : X → Read Y) (g h : Y → Read Z) → ((y : Y) → g y ≡ h y) → (r >>= (λ x. f x >>= g)) ≡ ((r >>= f) >>= h)
next-both (Ok x) f g h same = next-same (f x) g h same
next-both (Err fault) f g h same = refl

-- the set, of its parts
abbrev of_parts : ℕ → Members → Read TaskSet
of_parts soft members = graphs_at members >>= (λ graphs. sporadics_at members >>= (λ sporadics. Ok (record { soft_limit = soft; graphs = graphs; sporadics = sporadics })))

shaped_set-parts : (members : Members) (soft : ℕ) → known_keys Top members ≡ Ok members → number_at (record { part = Top; field = Soft }) 1 SOFT_LIMIT (Some SOFT_DEFAULT) (at_key Soft members) ≡ Ok soft → shaped_set members ≡ of_parts soft members
shaped_set-parts members soft known number =
    let at = λ (field : Field). let place : Place = record { part = Top; field = field } in place in
    let graph_tables = some_tables_at (at Graph) GRAPH_LIMIT (at_key Graph members) in
    let sporadic_tables = tables_at (at Sporadic) SPORADIC_LIMIT (at_key Sporadic members) in
    let set : List GraphOf → List SporadicTask → TaskSet = λ graphs sporadics. record { soft_limit = soft; graphs = graphs; sporadics = sporadics } in
    rw (known, number) (next-both graph_tables (each graph_of 0) _ _ (λ graphs. next-both sporadic_tables (each sporadic_of 0) (λ sporadics. Ok (set graphs sporadics)) _ (λ sporadics. refl)))

parts : (c : In_ok-soft_limit) → shaped_set (table_view c.args.table.now) ≡ of_parts c.in_ok-soft_limit.soft_limit (table_view c.args.table.now)
parts c =
    shaped_set-parts (table_view c.args.table.now) c.in_ok-soft_limit.soft_limit c.in_ok-check_keys.ensures (sym c.in_ok-soft_limit.ensures.reading)

pub returns-in_err-check_keys : goal.returns-in_err-check_keys
returns-in_err-check_keys c = search rules

pub returns-in_err-soft_limit : goal.returns-in_err-soft_limit
returns-in_err-soft_limit c = search rules

pub returns-in_err-graphs : goal.returns-in_err-graphs
returns-in_err-graphs c =
    rw (parts ((goal.at.returns-in_err-graphs c).In_ok-soft_limit)) (search rules)

pub returns-in_err-sporadics : goal.returns-in_err-sporadics
returns-in_err-sporadics c =
    rw (parts ((goal.at.returns-in_err-sporadics c).In_ok-soft_limit)) (search rules)

pub returns : goal.returns
returns c = rw (parts ((goal.at.returns c).In_ok-soft_limit)) (search rules)

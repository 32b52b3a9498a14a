-- The graph that was found is the set's, and its period is at least 1.
use Rattle.std.proofs.Common.{◌≡◌, ℕ, ◌/◌, ◌<◌, ◌≤◌, List, length, get_or, Some, None, refl, sym, ap, ap₂, ◌∙◌}
use Rattle.std.specs.Prelude.{slice_get}
use Rattle.std.specs.Option.{option_map_or}
use Rattle.std.proofs.lemmas.Option.{slice_get_read, slice_get_past}
use Rattle.slot_core.specs.declared.tasks.Graph.{Graph}
use Rattle.slot_facts.proofs.Offline.LaterCycles.{GraphFits-from_sound}
use Rattle.cycle_plan.proofs.later.instances.Goals as goal

-- what was read in a copy of the list stands in the list, and what was past its end is not there
found : (graphs listed : List Graph) (i place : ℕ) (graph : Graph) → listed ≡ graphs → place ≡ i → place < length listed → graph ≡ get_or listed place graph → slice_get graphs i ≡ Some graph
found graphs listed i place graph items from within at =
    ap₂ slice_get (sym items) (sym from) ∙ slice_get_read listed (length listed) place graph refl within at

past : (graphs listed : List Graph) (i place : ℕ) → listed ≡ graphs → place ≡ i → length listed ≤ place → slice_get graphs i ≡ None
past graphs listed i place items from out =
    ap₂ slice_get (sym items) (sym from) ∙ slice_get_past listed place out

pub nonzero_div-cycle : goal.nonzero_div-cycle
nonzero_div-cycle c =
    let lookup = c.in-Some.ensures.lookup in
    let at = found c.args.tasks.now.graphs c.items.result.now c.args.graph c.from.result c.in-Some.graph.now c.items.ensures c.from.ensures lookup.3.0 lookup.1 in
    (GraphFits-from_sound c.args.tasks.now c.args.graph c.in-Some.graph.now c.requires at).some_period

pub returns-in-Some-clause-count : goal.returns-in-Some-clause-count
returns-in-Some-clause-count c =
    let lookup = c.in-Some.ensures.lookup in
    let at = found c.args.tasks.now.graphs c.items.result.now c.args.graph c.from.result c.in-Some.graph.now c.items.ensures c.from.ensures lookup.3.0 lookup.1 in
    c.from-in-Some.ensures ∙ sym (ap (λ o. option_map_or (λ (g : Graph). c.args.cycle / g.period) o 0) at)

pub returns-in-None-clause-count : goal.returns-in-None-clause-count
returns-in-None-clause-count c =
    let none = past c.args.tasks.now.graphs c.items.result.now c.args.graph c.from.result c.items.ensures c.from.ensures c.in-None.ensures.lookup.3 in
    sym (ap (λ o. option_map_or (λ (g : Graph). c.args.cycle / g.period) o 0) none)

use Rattle.std.proofs.Common.{◌≡◌, ◌∙◌, ℕ, Bor, List, Option, Some, sym, ap, refl, arith}
use Rattle.std.specs.Prelude.{slice_get, option_map}
use Rattle.std.proofs.lemmas.Option.{slice_get_read}
use Rattle.slot_core.specs.declared.tasks.Graph.{Graph}
use Rattle.slot_facts.proofs.Offline.Jobs.{graph_in_range-from_sound}
use Rattle.slot_facts.proofs.Sets.Ranges.{few_tasks}
use Rattle.slot_facts.proofs.Sets.Tasks.{tasks_at}
use Rattle.key_texts.proofs.KeyLemmas.{offline_key-from_parts}
use Rattle.key_texts.proofs.keys.offline_key.Goals as goal

-- the parts of a text, as contracts see them
abbrev seen : Bor (List ℕ) × Bor (List ℕ) → List ℕ × List ℕ
seen p = (p.0.now, p.1.now)

-- the parts of a text that is cut
parts_are : (o : Option (Bor (List ℕ) × Bor (List ℕ))) (parts : Option (List ℕ × List ℕ)) (x y : Bor (List ℕ)) → option_map seen o ≡ parts → o ≡ Some (x, y) → parts ≡ Some (x.now, y.now)
parts_are o parts x y is was = sym is ∙ ap (option_map seen) was

pub overflow_cast-result-2 : goal.overflow_cast-result-2
overflow_cast-result-2 c =
    let set = c.args.tasks.now in
    let g = c.in_ok-graph.graph in
    let graphs = c.items-graphs.ensures in
    let at : slice_get set.graphs g ≡ Some c.index-graphs-graph.result = slice_get_read set.graphs _ g c.index-graphs-graph.result refl (rw graphs at c.in_ok-graph.ensures.there) (rw graphs at c.index-graphs-graph.is) in
    let few = few_tasks c.index-graphs-graph.result (graph_in_range-from_sound set g c.index-graphs-graph.result c.requires at) in
    let items = c.items.ensures ∙ ap (λ (x : Graph). x.tasks) (sym c.index-graphs-graph.is) in
    let below = rw items at c.in_ok-task.ensures.there in
    omega arith

pub returns : goal.returns
returns c =
    let set = c.args.tasks.now in
    let g = c.in_ok-graph.graph in
    let graphs = c.items-graphs.ensures in
    let at : slice_get set.graphs g ≡ Some c.index-graphs-graph.result = slice_get_read set.graphs _ g c.index-graphs-graph.result refl (rw graphs at c.in_ok-graph.ensures.there) (rw graphs at c.index-graphs-graph.is) in
    let items = c.items.ensures ∙ ap (λ (x : Graph). x.tasks) (sym c.index-graphs-graph.is) ∙ sym (tasks_at set g c.index-graphs-graph.result at) in
    let found = rw graphs at (sym c.in_ok-graph.ensures.found) in
    let there = rw items at (sym c.in_ok-task.ensures.found) in
    let cut = parts_are c.cut_at.result _ c.in_ok-names.names c.in_ok-names.digits c.cut_at.ensures c.in_ok-names.was in
    let inner = parts_are c.cut_at-2.result _ c.in_ok-graph_name.graph_name c.in_ok-graph_name.task_name c.cut_at-2.ensures c.in_ok-graph_name.was in
    rw c.from.ensures (sym (offline_key-from_parts set c.args.text.now c.in_ok-names.names.now c.in_ok-names.digits.now c.in_ok-graph_name.graph_name.now c.in_ok-graph_name.task_name.now g c.in_ok-task.task c.in_ok-instance.instance cut inner found there (sym c.in_ok-instance.ensures.reading)))

-- Task sets: what is read was written so and is in range, and what is in range is read as it was
-- written.
use Rattle.std.proofs.Common.{◌≡◌, ℕ, ◌-◌, ◌^◌, ◌<◌, Bool, true, List, [], ◌∷◌, ◌++◌, length, refl, sym, ap, subst, ◌∙◌, append_assoc, arith}
use Rattle.std.specs.Prelude.{flat_map}
use Rattle.std.specs.Prelude.{nat_le}
use Rattle.std.specs.List.{list_all, AllByRecursion}
use Rattle.std.proofs.lemmas.Bool.{and_from, and_parts}
use Rattle.slot_core.specs.declared.TheConstants.{GRAPH_LIMIT, TASK_LIMIT, AFTER_LIMIT, SPORADIC_LIMIT, SLOT_LIMIT, SOFT_LIMIT}
use Rattle.slot_core.specs.declared.tasks.Task.{Task}
use Rattle.slot_core.specs.declared.tasks.Graph.{Graph}
use Rattle.slot_core.specs.declared.tasks.Sporadic.{Sporadic}
use Rattle.slot_core.specs.declared.tasks.TaskSet.{TaskSet}
use Rattle.slot_core.specs.declared.faults.Part.TheVariants.{Top, Graph as GraphPart, Task as TaskPart, Sporadic as SporadicPart}
use Rattle.slot_core.specs.declared.faults.Field.TheVariants.{Soft, Graph as GraphKey, Sporadic as SporadicKey, Period, Offset, Deadline, Task as TaskKey, Wcet, After, Separation}
use Rattle.slot_core.specs.Sets.Ranges.{is_between, task_in_range, graph_in_range, sporadic_in_range, is_in_range}
use Rattle.slot_facts.proofs.Sets.Ranges.{bounds}
use Rattle.table_codec.specs.declared.layout.Layout.{Layout}
use Rattle.table_codec.specs.Forms.{each, up_to, one_up_to, name_form}
use Rattle.table_codec.specs.Grammar.{index_form, slots_form, range_form, task_form, graph_form, sporadic_form, set_form}
use Rattle.table_codec.specs.Readers.{Unread}
use Rattle.table_codec.proofs.FormLaws.{Takes, Takes-then, takes_nothing, at, step, ok_same, ReadsWhole, ReadsBack, each_whole, each_back}
use Rattle.table_codec.proofs.FieldLaws.{index_whole, index_back, range_whole, range_back, up_to_whole, up_to_back, one_up_to_whole, one_up_to_back, name_whole, name_back}

-- a list that passes a count's test has that many
counted : {X : Type 0} (test : ℕ → Bool) (n : ℕ) (xs : List X) → length xs ≡ n → test n ≡ true → test (length xs) ≡ true
counted test n xs len h = subst (λ m. test m ≡ true) (sym len) h

-- ---- tasks

after_whole : (n : ℕ) → ReadsWhole (each (λ _. index_form) n) (λ after. (length after ≡ n) × (list_all (λ _. true) after ≡ true))
after_whole = each_whole (λ _. index_form) (λ _. true) (λ i x. refl) (λ i. record { of_read = λ input x rest h. ((index_whole.of_read input x rest h).0, refl) })

after_back : (after : List ℕ) → AllByRecursion (λ a. a < 2 ^ 16) after → ReadsBack (each (λ _. index_form) (length after)) after
after_back after small = each_back (λ _. index_form) (λ i x. refl) (λ i x. refl) after (each_index after small)
  where
    each_index : (xs : List ℕ) → AllByRecursion (λ a. a < 2 ^ 16) xs → AllByRecursion (λ x. (j : ℕ) → ReadsBack index_form x) xs
    each_index [] all = tt
    each_index (x ∷ xs) all = ((λ j. index_back x all.0), each_index xs all.1)

pub task_whole : (layout : Layout) (g t : ℕ) → ReadsWhole (task_form layout g t) (λ task. task_in_range task ≡ true)
task_whole layout g t = record {
  of_read = λ input task rest h.
      step ((name_form (TaskPart g t)).read input) h (λ name i1 r1 h.
      step ((range_form layout (TaskPart g t) Wcet 1 SLOT_LIMIT).read i1) h (λ wcet i2 r2 h.
      step ((up_to (TaskPart g t) After AFTER_LIMIT).read i2) h (λ count i3 r3 h.
      step ((each (λ _. index_form) count).read i3) h (λ after i4 r4 h.
      let made : Task = record { name = name; wcet = wcet; after = after } in
      let same = ok_same (made, i4) (task, rest) h in
      let (t1, named) = (name_whole (TaskPart g t)).of_read input name i1 r1 in
      let (t2, slots) = (range_whole layout (TaskPart g t) Wcet 1 SLOT_LIMIT).of_read i1 wcet i2 r2 in
      let (t3, few) = (up_to_whole (TaskPart g t) After AFTER_LIMIT).of_read i2 count i3 r3 in
      let (t4, listed) = (after_whole count).of_read i3 after i4 r4 in
      let t3 : Takes i2 (index_form.written (length after)) i3 = subst (λ n. Takes i2 (index_form.written n) i3) (sym listed.0) t3 in
      let takes : Takes input ((task_form layout g t).written made) i4 = Takes-then t1 (Takes-then t2 (Takes-then t3 (Takes-then t4 (takes_nothing i4)))) in
      let range : task_in_range made ≡ true = and_from _ _ (and_from _ _ named slots.0) (counted (λ n. nat_le n AFTER_LIMIT) count after listed.0 few.0) in
      subst (λ (y : Task × Unread). Takes input ((task_form layout g t).written y.0) y.1 × (task_in_range y.0 ≡ true)) same (takes, range)))));
}

-- a task in range with small indexes
abbrev pub IsSpelledTask : Task → Type 0
IsSpelledTask task = (task_in_range task ≡ true) × AllByRecursion (λ a. a < 2 ^ 16) task.after

pub task_back : (layout : Layout) (g t : ℕ) (task : Task) → IsSpelledTask task → ReadsBack (task_form layout g t) task
task_back layout g t task fits = record {
  again = λ whole tail.
      let (front, short) = and_parts _ _ fits.0 in
      let (named, slots) = and_parts _ _ front in
      let name = (name_form (TaskPart g t)).written task.name in
      let wcet = (slots_form layout).written task.wcet in
      let count = index_form.written (length task.after) in
      let after = flat_map index_form.written task.after in
      let text : (task_form layout g t).written task ++ tail ≡ name ++ (wcet ++ (count ++ (after ++ tail))) = simp append_assoc in
      ap (λ left. (task_form layout g t).read (at whole left)) text ∙ rw (
        (name_back (TaskPart g t) task.name named).again whole (wcet ++ (count ++ (after ++ tail))),
        (range_back layout (TaskPart g t) Wcet 1 SLOT_LIMIT task.wcet (omega arith) slots).again whole (count ++ (after ++ tail)),
        (up_to_back (TaskPart g t) After AFTER_LIMIT (length task.after) (omega arith) short).again whole (after ++ tail),
        (after_back task.after fits.1).again whole tail,
      ) refl;
}

-- ---- graphs

tasks_whole : (layout : Layout) (g n : ℕ) → ReadsWhole (each (task_form layout g) n) (λ tasks. (length tasks ≡ n) × (list_all task_in_range tasks ≡ true))
tasks_whole layout g = each_whole (task_form layout g) task_in_range (λ i x. refl) (task_whole layout g)

tasks_back : (layout : Layout) (g : ℕ) (tasks : List Task) → AllByRecursion IsSpelledTask tasks → ReadsBack (each (task_form layout g) (length tasks)) tasks
tasks_back layout g tasks fits = each_back (task_form layout g) (λ i x. refl) (λ i x. refl) tasks (each_task tasks fits)
  where
    each_task : (xs : List Task) → AllByRecursion IsSpelledTask xs → AllByRecursion (λ x. (j : ℕ) → ReadsBack (task_form layout g j) x) xs
    each_task [] all = tt
    each_task (x ∷ xs) all = ((λ j. task_back layout g j x all.0), each_task xs all.1)

pub graph_whole : (layout : Layout) (g : ℕ) → ReadsWhole (graph_form layout g) (λ graph. graph_in_range graph ≡ true)
graph_whole layout g = record {
  of_read = λ input graph rest h.
      let place = GraphPart g in
      step ((name_form place).read input) h (λ name i1 r1 h.
      step ((range_form layout place Period 1 SLOT_LIMIT).read i1) h (λ period i2 r2 h.
      step ((range_form layout place Offset 0 (period - 1)).read i2) h (λ offset i3 r3 h.
      step ((range_form layout place Deadline 1 (period - offset)).read i3) h (λ deadline i4 r4 h.
      step ((one_up_to place TaskKey TASK_LIMIT).read i4) h (λ count i5 r5 h.
      step ((each (task_form layout g) count).read i5) h (λ tasks i6 r6 h.
      let made : Graph = record { name = name; period = period; offset = offset; deadline = deadline; tasks = tasks } in
      let same = ok_same (made, i6) (graph, rest) h in
      let (t1, named) = (name_whole place).of_read input name i1 r1 in
      let (t2, p2) = (range_whole layout place Period 1 SLOT_LIMIT).of_read i1 period i2 r2 in
      let (t3, p3) = (range_whole layout place Offset 0 (period - 1)).of_read i2 offset i3 r3 in
      let (t4, p4) = (range_whole layout place Deadline 1 (period - offset)).of_read i3 deadline i4 r4 in
      let (t5, p5) = (one_up_to_whole place TaskKey TASK_LIMIT).of_read i4 count i5 r5 in
      let (t6, listed) = (tasks_whole layout g count).of_read i5 tasks i6 r6 in
      let t5 : Takes i4 (index_form.written (length tasks)) i5 = subst (λ n. Takes i4 (index_form.written n) i5) (sym listed.0) t5 in
      let few : is_between 1 TASK_LIMIT (length tasks) ≡ true = counted (is_between 1 TASK_LIMIT) count tasks listed.0 (and_from _ _ p5.0 p5.1.0) in
      let takes : Takes input ((graph_form layout g).written made) i6 = Takes-then t1 (Takes-then t2 (Takes-then t3 (Takes-then t4 (Takes-then t5 (Takes-then t6 (takes_nothing i6)))))) in
      let range : graph_in_range made ≡ true = and_from _ _ (and_from _ _ (and_from _ _ (and_from _ _ (and_from _ _ named p2.0) p3.0) p4.0) few) listed.1 in
      subst (λ (y : Graph × Unread). Takes input ((graph_form layout g).written y.0) y.1 × (graph_in_range y.0 ≡ true)) same (takes, range)))))));
}

-- a graph in range with small indexes
abbrev pub HasSmallIndexes : Graph → Type 0
HasSmallIndexes graph = AllByRecursion (λ (t : Task). AllByRecursion (λ a. a < 2 ^ 16) t.after) graph.tasks

abbrev pub IsSpelledGraph : Graph → Type 0
IsSpelledGraph graph = (graph_in_range graph ≡ true) × HasSmallIndexes graph

spelled_tasks : (tasks : List Task) → list_all task_in_range tasks ≡ true → AllByRecursion (λ (t : Task). AllByRecursion (λ a. a < 2 ^ 16) t.after) tasks → AllByRecursion IsSpelledTask tasks
spelled_tasks [] range small = tt
spelled_tasks (task ∷ tasks) range small =
    let (first, rest) = and_parts (task_in_range task) (list_all task_in_range tasks) range in
    ((first, small.0), spelled_tasks tasks rest small.1)

graph_back : (layout : Layout) (g : ℕ) (graph : Graph) → IsSpelledGraph graph → ReadsBack (graph_form layout g) graph
graph_back layout g graph fits = record {
  again = λ whole tail.
      let (all_tasks, all) = and_parts _ _ fits.0 in
      let (due, few) = and_parts _ _ all_tasks in
      let (released, p4) = and_parts _ _ due in
      let (repeated, p3) = and_parts _ _ released in
      let (named, p2) = and_parts _ _ repeated in
      let high = (bounds 1 SLOT_LIMIT graph.period p2).1 in
      let place = GraphPart g in
      let name = (name_form place).written graph.name in
      let period = (slots_form layout).written graph.period in
      let offset = (slots_form layout).written graph.offset in
      let deadline = (slots_form layout).written graph.deadline in
      let count = index_form.written (length graph.tasks) in
      let tasks = flat_map (task_form layout g 0).written graph.tasks in
      let text : (graph_form layout g).written graph ++ tail ≡ name ++ (period ++ (offset ++ (deadline ++ (count ++ (tasks ++ tail))))) = simp append_assoc in
      ap (λ left. (graph_form layout g).read (at whole left)) text ∙ rw (
        (name_back place graph.name named).again whole (period ++ (offset ++ (deadline ++ (count ++ (tasks ++ tail))))),
        (range_back layout place Period 1 SLOT_LIMIT graph.period (omega arith) p2).again whole (offset ++ (deadline ++ (count ++ (tasks ++ tail)))),
        (range_back layout place Offset 0 (graph.period - 1) graph.offset (omega (arith, high)) p3).again whole (deadline ++ (count ++ (tasks ++ tail))),
        (range_back layout place Deadline 1 (graph.period - graph.offset) graph.deadline (omega (arith, high)) p4).again whole (count ++ (tasks ++ tail)),
        (one_up_to_back place TaskKey TASK_LIMIT (length graph.tasks) (omega arith) few).again whole (tasks ++ tail),
        (tasks_back layout g graph.tasks (spelled_tasks graph.tasks all fits.1)).again whole tail,
      ) refl;
}

-- ---- sporadic tasks

sporadic_whole : (layout : Layout) (s : ℕ) → ReadsWhole (sporadic_form layout s) (λ task. sporadic_in_range task ≡ true)
sporadic_whole layout s = record {
  of_read = λ input task rest h.
      let place = SporadicPart s in
      step ((name_form place).read input) h (λ name i1 r1 h.
      step ((range_form layout place Wcet 1 SLOT_LIMIT).read i1) h (λ wcet i2 r2 h.
      step ((range_form layout place Separation 1 SLOT_LIMIT).read i2) h (λ separation i3 r3 h.
      step ((range_form layout place Deadline 1 separation).read i3) h (λ deadline i4 r4 h.
      let made : Sporadic = record { name = name; wcet = wcet; separation = separation; deadline = deadline } in
      let same = ok_same (made, i4) (task, rest) h in
      let (t1, named) = (name_whole place).of_read input name i1 r1 in
      let (t2, p2) = (range_whole layout place Wcet 1 SLOT_LIMIT).of_read i1 wcet i2 r2 in
      let (t3, p3) = (range_whole layout place Separation 1 SLOT_LIMIT).of_read i2 separation i3 r3 in
      let (t4, p4) = (range_whole layout place Deadline 1 separation).of_read i3 deadline i4 r4 in
      let takes : Takes input ((sporadic_form layout s).written made) i4 = Takes-then t1 (Takes-then t2 (Takes-then t3 (Takes-then t4 (takes_nothing i4)))) in
      let range : sporadic_in_range made ≡ true = and_from _ _ (and_from _ _ (and_from _ _ named p2.0) p3.0) p4.0 in
      subst (λ (y : Sporadic × Unread). Takes input ((sporadic_form layout s).written y.0) y.1 × (sporadic_in_range y.0 ≡ true)) same (takes, range)))));
}

sporadic_back : (layout : Layout) (s : ℕ) (task : Sporadic) → sporadic_in_range task ≡ true → ReadsBack (sporadic_form layout s) task
sporadic_back layout s task fits = record {
  again = λ whole tail.
      let (apart, p4) = and_parts _ _ fits in
      let (needs, p3) = and_parts _ _ apart in
      let (named, p2) = and_parts _ _ needs in
      let high = (bounds 1 SLOT_LIMIT task.separation p3).1 in
      let place = SporadicPart s in
      let name = (name_form place).written task.name in
      let wcet = (slots_form layout).written task.wcet in
      let separation = (slots_form layout).written task.separation in
      let deadline = (slots_form layout).written task.deadline in
      let text : (sporadic_form layout s).written task ++ tail ≡ name ++ (wcet ++ (separation ++ (deadline ++ tail))) = simp append_assoc in
      ap (λ left. (sporadic_form layout s).read (at whole left)) text ∙ rw (
        (name_back place task.name named).again whole (wcet ++ (separation ++ (deadline ++ tail))),
        (range_back layout place Wcet 1 SLOT_LIMIT task.wcet (omega arith) p2).again whole (separation ++ (deadline ++ tail)),
        (range_back layout place Separation 1 SLOT_LIMIT task.separation (omega arith) p3).again whole (deadline ++ tail),
        (range_back layout place Deadline 1 task.separation task.deadline (omega (arith, high)) p4).again whole tail,
      ) refl;
}

-- ---- sets

graphs_whole : (layout : Layout) (n : ℕ) → ReadsWhole (each (graph_form layout) n) (λ graphs. (length graphs ≡ n) × (list_all graph_in_range graphs ≡ true))
graphs_whole layout = each_whole (graph_form layout) graph_in_range (λ i x. refl) (graph_whole layout)

graphs_back : (layout : Layout) (graphs : List Graph) → AllByRecursion IsSpelledGraph graphs → ReadsBack (each (graph_form layout) (length graphs)) graphs
graphs_back layout graphs fits = each_back (graph_form layout) (λ i x. refl) (λ i x. refl) graphs (each_graph graphs fits)
  where
    each_graph : (xs : List Graph) → AllByRecursion IsSpelledGraph xs → AllByRecursion (λ x. (j : ℕ) → ReadsBack (graph_form layout j) x) xs
    each_graph [] all = tt
    each_graph (x ∷ xs) all = ((λ j. graph_back layout j x all.0), each_graph xs all.1)

sporadics_whole : (layout : Layout) (n : ℕ) → ReadsWhole (each (sporadic_form layout) n) (λ tasks. (length tasks ≡ n) × (list_all sporadic_in_range tasks ≡ true))
sporadics_whole layout = each_whole (sporadic_form layout) sporadic_in_range (λ i x. refl) (sporadic_whole layout)

sporadics_back : (layout : Layout) (tasks : List Sporadic) → list_all sporadic_in_range tasks ≡ true → ReadsBack (each (sporadic_form layout) (length tasks)) tasks
sporadics_back layout tasks range = each_back (sporadic_form layout) (λ i x. refl) (λ i x. refl) tasks (each_sporadic tasks range)
  where
    each_sporadic : (xs : List Sporadic) → list_all sporadic_in_range xs ≡ true → AllByRecursion (λ x. (j : ℕ) → ReadsBack (sporadic_form layout j) x) xs
    each_sporadic [] all = tt
    each_sporadic (x ∷ xs) all =
        let (first, rest) = and_parts (sporadic_in_range x) (list_all sporadic_in_range xs) all in
        ((λ j. sporadic_back layout j x first), each_sporadic xs rest)

pub set_whole : (layout : Layout) → ReadsWhole (set_form layout) (λ set. is_in_range set ≡ true)
set_whole layout = record {
  of_read = λ input set rest h.
      step ((range_form layout Top Soft 1 SOFT_LIMIT).read input) h (λ soft i1 r1 h.
      step ((one_up_to Top GraphKey GRAPH_LIMIT).read i1) h (λ graph_count i2 r2 h.
      step ((each (graph_form layout) graph_count).read i2) h (λ graphs i3 r3 h.
      step ((up_to Top SporadicKey SPORADIC_LIMIT).read i3) h (λ sporadic_count i4 r4 h.
      step ((each (sporadic_form layout) sporadic_count).read i4) h (λ sporadics i5 r5 h.
      let made : TaskSet = record { soft_limit = soft; graphs = graphs; sporadics = sporadics } in
      let same = ok_same (made, i5) (set, rest) h in
      let (t1, p1) = (range_whole layout Top Soft 1 SOFT_LIMIT).of_read input soft i1 r1 in
      let (t2, p2) = (one_up_to_whole Top GraphKey GRAPH_LIMIT).of_read i1 graph_count i2 r2 in
      let (t3, p3) = (graphs_whole layout graph_count).of_read i2 graphs i3 r3 in
      let (t4, p4) = (up_to_whole Top SporadicKey SPORADIC_LIMIT).of_read i3 sporadic_count i4 r4 in
      let (t5, p5) = (sporadics_whole layout sporadic_count).of_read i4 sporadics i5 r5 in
      let t2 : Takes i1 (index_form.written (length graphs)) i2 = subst (λ n. Takes i1 (index_form.written n) i2) (sym p3.0) t2 in
      let t4 : Takes i3 (index_form.written (length sporadics)) i4 = subst (λ n. Takes i3 (index_form.written n) i4) (sym p5.0) t4 in
      let some : is_between 1 GRAPH_LIMIT (length graphs) ≡ true = counted (is_between 1 GRAPH_LIMIT) graph_count graphs p3.0 (and_from _ _ p2.0 p2.1.0) in
      let few : nat_le (length sporadics) SPORADIC_LIMIT ≡ true = counted (λ n. nat_le n SPORADIC_LIMIT) sporadic_count sporadics p5.0 p4.0 in
      let takes : Takes input ((set_form layout).written made) i5 = Takes-then t1 (Takes-then t2 (Takes-then t3 (Takes-then t4 (Takes-then t5 (takes_nothing i5))))) in
      let range : is_in_range made ≡ true = and_from _ _ (and_from _ _ (and_from _ _ (and_from _ _ p1.0 some) p3.1) few) p5.1 in
      subst (λ (y : TaskSet × Unread). Takes input ((set_form layout).written y.0) y.1 × (is_in_range y.0 ≡ true)) same (takes, range))))));
}

spelled_graphs : (graphs : List Graph) → list_all graph_in_range graphs ≡ true → AllByRecursion HasSmallIndexes graphs → AllByRecursion IsSpelledGraph graphs
spelled_graphs [] range small = tt
spelled_graphs (graph ∷ graphs) range small =
    let (first, rest) = and_parts (graph_in_range graph) (list_all graph_in_range graphs) range in
    ((first, small.0), spelled_graphs graphs rest small.1)

pub set_back : (layout : Layout) (set : TaskSet) → is_in_range set ≡ true → AllByRecursion HasSmallIndexes set.graphs → ReadsBack (set_form layout) set
set_back layout set range small = record {
  again = λ whole tail.
      let (front, p5) = and_parts _ _ range in
      let (listed, p4) = and_parts _ _ front in
      let (counted, p3) = and_parts _ _ listed in
      let (p1, p2) = and_parts _ _ counted in
      let soft = (slots_form layout).written set.soft_limit in
      let graph_count = index_form.written (length set.graphs) in
      let graphs = flat_map (graph_form layout 0).written set.graphs in
      let sporadic_count = index_form.written (length set.sporadics) in
      let sporadics = flat_map (sporadic_form layout 0).written set.sporadics in
      let text : (set_form layout).written set ++ tail ≡ soft ++ (graph_count ++ (graphs ++ (sporadic_count ++ (sporadics ++ tail)))) = regroup soft graph_count graphs sporadic_count sporadics tail in
      ap (λ left. (set_form layout).read (at whole left)) text ∙ rw (
        (range_back layout Top Soft 1 SOFT_LIMIT set.soft_limit (omega arith) p1).again whole (graph_count ++ (graphs ++ (sporadic_count ++ (sporadics ++ tail)))),
        (one_up_to_back Top GraphKey GRAPH_LIMIT (length set.graphs) (omega arith) p2).again whole (graphs ++ (sporadic_count ++ (sporadics ++ tail))),
        (graphs_back layout set.graphs (spelled_graphs set.graphs p3 small)).again whole (sporadic_count ++ (sporadics ++ tail)),
        (up_to_back Top SporadicKey SPORADIC_LIMIT (length set.sporadics) (omega arith) p4).again whole (sporadics ++ tail),
        (sporadics_back layout set.sporadics p5).again whole tail,
      ) refl;
}
  where
    regroup : (a b d e f tail : List ℕ) → (a ++ (b ++ (d ++ (e ++ (f ++ []))))) ++ tail ≡ a ++ (b ++ (d ++ (e ++ (f ++ tail))))
    regroup a b d e f tail = simp append_assoc

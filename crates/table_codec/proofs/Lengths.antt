-- The table of a plan is no larger than a table file may be.
use Rattle.std.proofs.Common.{◌≡◌, inl, inr, ℕ, ℤ, ◌+◌, ◌*◌, ◌≤◌, Bool, true, List, [], ◌∷◌, ◌++◌, length, refl, sym, ap, subst, arith}
use Rattle.std.specs.Prelude.{flat_map, ◌&&◌, nat_lt}
use Rattle.std.specs.Char.{is_ascii_alphabetic}
use Rattle.std.specs.Int.{w32}
use Rattle.std.specs.List.{list_all, AllByRecursion}
use Rattle.std.proofs.lemmas.Bool.{and_parts, ltb-true}
use Rattle.std.proofs.lemmas.List.{length-append}
use Rattle.std.proofs.lemmas.List.Concat.{length-flat_map}
use Rattle.std.proofs.lemmas.List.Elements.{All-from_recursion}
use Rattle.std.proofs.lemmas.List.Sums.{sum_by-le}
use Rattle.slot_core.specs.declared.TheConstants.{NAME_LIMIT, TABLE_FILE_LIMIT}
use Rattle.slot_core.specs.declared.jobs.Job.{Job}
use Rattle.slot_core.specs.declared.jobs.Span.{Span}
use Rattle.slot_core.specs.declared.tasks.Task.{Task}
use Rattle.slot_core.specs.declared.tasks.Graph.{Graph}
use Rattle.slot_core.specs.declared.tasks.Sporadic.{Sporadic}
use Rattle.slot_core.specs.declared.tasks.TaskSet.{TaskSet}
use Rattle.slot_core.specs.declared.faults.Part.TheVariants.{Top}
use Rattle.slot_core.specs.Sets.Names.{is_name, is_name_byte}
use Rattle.slot_core.specs.Keeping.Plans.{PlanParts, IsPlan}
use Rattle.slot_core.specs.Sets.Ranges.{task_in_range, graph_in_range, sporadic_in_range, is_sound}
use Rattle.slot_facts.proofs.Sets.Ranges.{TaskRanges-from_test, GraphRanges-from_test, SetRanges-from_sound}
use Rattle.table_codec.specs.declared.layout.Layout.{Layout}
use Rattle.table_codec.specs.declared.layout.NumberWidth.{NumberWidth}
use Rattle.table_codec.specs.declared.layout.NumberWidth.TheVariants.{Two, Four}
use Rattle.table_codec.specs.declared.layout.SpareWidth.{SpareWidth}
use Rattle.table_codec.specs.declared.layout.SpareWidth.TheVariants.{Four as FourSpare, Eight}
use Rattle.table_codec.specs.Forms.{number_form, signed_form, name_form}
use Rattle.table_codec.specs.Grammar.{number_width, spare_width, layout_1, layout_2, head_form, slots_form, index_form, spare_form, task_form, graph_form, sporadic_form, set_form, key_form, job_form, span_form, graph_of, task_of, instance_of, spelling_in, Spells}
use Rattle.table_codec.proofs.PlanSizes.{few_jobs, few_spans}

-- ---- lists of pieces

each-passes : {X : Type 0} (p : X → Bool) (P : X → Type 0) (xs : List X) → ((x : X) → p x ≡ true → P x) → list_all p xs ≡ true → AllByRecursion P xs
each-passes p P [] from all = tt
each-passes p P (x ∷ xs) from all =
    let parts = and_parts (p x) (list_all p xs) all in (from x parts.0, each-passes p P xs from parts.1)

every : {X : Type 0} (P : X → Type 0) (xs : List X) → ((x : X) → P x) → AllByRecursion P xs
every P [] from = tt
every P (x ∷ xs) from = (from x, every P xs from)

-- pieces of so many bytes at most
length-pieces : {X : Type 0} (f : X → List ℕ) (most : ℕ) (xs : List X) → AllByRecursion (λ x. length (f x) ≤ most) xs → length (flat_map f xs) ≤ length xs * most
length-pieces f most xs all =
    subst (λ n. n ≤ length xs * most) (sym (length-flat_map f xs)) (sum_by-le (λ x. length (f x)) most xs (All-from_recursion (λ x. length (f x) ≤ most) xs all))

-- parts one after the other
length-two : (a b : List ℕ) → length (a ++ (b ++ [])) ≡ length a + length b
length-two a b = omega (arith, length-append a (b ++ []), length-append b [])

length-four : (a b d e : List ℕ) → length (a ++ (b ++ (d ++ (e ++ [])))) ≡ length a + length b + length d + length e
length-four a b d e = omega (arith, length-append a (b ++ (d ++ (e ++ []))), length-append b (d ++ (e ++ [])), length-two d e)

length-five : (a b d e f : List ℕ) → length (a ++ (b ++ (d ++ (e ++ (f ++ []))))) ≡ length a + length b + length d + length e + length f
length-five a b d e f = omega (arith, length-append a (b ++ (d ++ (e ++ (f ++ [])))), length-four b d e f)

length-six : (a b d e f g : List ℕ) → length (a ++ (b ++ (d ++ (e ++ (f ++ (g ++ [])))))) ≡ length a + length b + length d + length e + length f + length g
length-six a b d e f g = omega (arith, length-append a (b ++ (d ++ (e ++ (f ++ (g ++ []))))), length-five b d e f g)

-- ---- the parts of a table

-- an index takes two bytes, a count of stored things four, a length or time up to four
length-index : (n : ℕ) → length (index_form.written n) ≡ 2
length-index n = refl

length-many : (n : ℕ) → length ((number_form w32).written n) ≡ 4
length-many n = refl

length-slots : (layout : Layout) (n : ℕ) → length ((slots_form layout).written n) ≤ 4
length-slots layout n = by_width layout.number
  where
    by_width : (w : NumberWidth) → length ((number_form (number_width w)).written n) ≤ 4
    by_width Two = omega arith
    by_width Four = omega arith

-- a capacity up to eight
length-spare : (layout : Layout) (z : ℤ) → length ((spare_form layout).written z) ≤ 8
length-spare layout z = by_width layout.spare
  where
    by_width : (w : SpareWidth) → length ((signed_form (spare_width w)).written z) ≤ 8
    by_width FourSpare = omega arith
    by_width Eight = omega arith

-- a name up to 25
length-name : (name : List ℕ) → is_name name ≡ true → length ((name_form Top).written name) ≤ 25
length-name [] named = omega arith
length-name (first ∷ rest) named =
    let (front, bytes) = and_parts (is_ascii_alphabetic first && nat_lt (length rest) NAME_LIMIT) (list_all is_name_byte rest) named in
    omega (arith, ltb-true (length rest) NAME_LIMIT (and_parts (is_ascii_alphabetic first) (nat_lt (length rest) NAME_LIMIT) front).1)

length-task : (layout : Layout) (task : Task) → task_in_range task ≡ true → length ((task_form layout 0 0).written task) ≤ 93
length-task layout task range =
    let ranges = TaskRanges-from_test task range in
    let name = length-name task.name (and_parts _ _ (and_parts _ _ range).0).0 in
    let entries = length-pieces index_form.written 2 task.after (every (λ n. length (index_form.written n) ≤ 2) task.after (λ n. omega (arith, length-index n))) in
    let whole : length ((task_form layout 0 0).written task) ≡ length ((name_form Top).written task.name) + length ((slots_form layout).written task.wcet) + length (index_form.written (length task.after)) + length (flat_map index_form.written task.after) = length-four ((name_form Top).written task.name) ((slots_form layout).written task.wcet) (index_form.written (length task.after)) (flat_map index_form.written task.after) in
    omega (arith, whole, name, length-slots layout task.wcet, length-index (length task.after), entries, ranges.entries)

length-graph : (layout : Layout) (graph : Graph) → graph_in_range graph ≡ true → length ((graph_form layout 0).written graph) ≤ 3015
length-graph layout graph range =
    let ranges = GraphRanges-from_test graph range in
    let name = length-name graph.name (and_parts _ _ (and_parts _ _ (and_parts _ _ (and_parts _ _ (and_parts _ _ range).0).0).0).0).0 in
    let written = (task_form layout 0 0).written in
    let slots = (slots_form layout).written in
    let tasks = length-pieces written 93 graph.tasks (each-passes task_in_range (λ (t : Task). length (written t) ≤ 93) graph.tasks (length-task layout) ranges.tasks) in
    let whole : length ((graph_form layout 0).written graph) ≡ length ((name_form Top).written graph.name) + length (slots graph.period) + length (slots graph.offset) + length (slots graph.deadline) + length (index_form.written (length graph.tasks)) + length (flat_map written graph.tasks) = length-six ((name_form Top).written graph.name) (slots graph.period) (slots graph.offset) (slots graph.deadline) (index_form.written (length graph.tasks)) (flat_map written graph.tasks) in
    omega (arith, whole, name, length-slots layout graph.period, length-slots layout graph.offset, length-slots layout graph.deadline, length-index (length graph.tasks), tasks, ranges.count)

length-sporadic : (layout : Layout) (s : Sporadic) → sporadic_in_range s ≡ true → length ((sporadic_form layout 0).written s) ≤ 37
length-sporadic layout s range =
    let name = length-name s.name (and_parts _ _ (and_parts _ _ (and_parts _ _ range).0).0).0 in
    let slots = (slots_form layout).written in
    let whole : length ((sporadic_form layout 0).written s) ≡ length ((name_form Top).written s.name) + length (slots s.wcet) + length (slots s.separation) + length (slots s.deadline) = length-four ((name_form Top).written s.name) (slots s.wcet) (slots s.separation) (slots s.deadline) in
    omega (arith, whole, name, length-slots layout s.wcet, length-slots layout s.separation, length-slots layout s.deadline)

length-set : (layout : Layout) (set : TaskSet) → is_sound set ≡ true → length ((set_form layout).written set) ≤ 97000
length-set layout set sound =
    let ranges = SetRanges-from_sound set sound in
    let of_graph = (graph_form layout 0).written in
    let of_sporadic = (sporadic_form layout 0).written in
    let graphs = length-pieces of_graph 3015 set.graphs (each-passes graph_in_range (λ (g : Graph). length (of_graph g) ≤ 3015) set.graphs (length-graph layout) ranges.graphs) in
    let sporadics = length-pieces of_sporadic 37 set.sporadics (each-passes sporadic_in_range (λ (s : Sporadic). length (of_sporadic s) ≤ 37) set.sporadics (length-sporadic layout) ranges.sporadics) in
    let soft = (slots_form layout).written set.soft_limit in
    let graph_count = index_form.written (length set.graphs) in
    let sporadic_count = index_form.written (length set.sporadics) in
    let whole : length ((set_form layout).written set) ≡ length soft + length graph_count + length (flat_map of_graph set.graphs) + length sporadic_count + length (flat_map of_sporadic set.sporadics) = length-five soft graph_count (flat_map of_graph set.graphs) sporadic_count (flat_map of_sporadic set.sporadics) in
    omega (arith, whole, length-slots layout set.soft_limit, length-index (length set.graphs), length-index (length set.sporadics), graphs, sporadics, ranges.count, ranges.few)

length-job : (layout : Layout) (job : Job) → length ((job_form layout).written job) ≤ 20
length-job layout job =
    let slots = (slots_form layout).written in
    let graph = index_form.written (graph_of job.key) in
    let task = index_form.written (task_of job.key) in
    let instance = slots (instance_of job.key) in
    let key : length ((key_form layout).written job.key) ≡ length graph + (length task + length instance) = key_parts graph task instance in
    let whole : length ((job_form layout).written job) ≡ length ((key_form layout).written job.key) + length (slots job.est) + length (slots job.dl) + length (slots job.declared) = length-four ((key_form layout).written job.key) (slots job.est) (slots job.dl) (slots job.declared) in
    omega (arith, whole, key, length-index (graph_of job.key), length-index (task_of job.key), length-slots layout (instance_of job.key), length-slots layout job.est, length-slots layout job.dl, length-slots layout job.declared)
  where
    key_parts : (a b d : List ℕ) → length (a ++ (b ++ (d ++ []))) ≡ length a + (length b + length d)
    key_parts a b d = omega (arith, length-append a (b ++ (d ++ [])), length-two b d)

length-span : (layout : Layout) (span : Span) → length ((span_form layout).written span) ≤ 20
length-span layout span =
    let slots = (slots_form layout).written in
    let whole : length ((span_form layout).written span) ≡ length (slots span.start) + length (slots span.end) + length (slots span.work) + length ((spare_form layout).written span.spare) = length-four (slots span.start) (slots span.end) (slots span.work) ((spare_form layout).written span.spare) in
    omega (arith, whole, length-slots layout span.start, length-slots layout span.end, length-slots layout span.work, length-spare layout span.spare)

-- ---- the whole

-- the bytes of a plan in any layout: head, set, jobs and spans
length-spelling_in : (layout : Layout) (plan : PlanParts) → IsPlan plan → length (spelling_in layout plan) ≤ TABLE_FILE_LIMIT
length-spelling_in layout plan is_plan =
    let head = head_form.written layout in
    let set = (set_form layout).written plan.tasks in
    let of_job = (job_form layout).written in
    let of_span = (span_form layout).written in
    let job_count = (number_form w32).written (length plan.jobs) in
    let span_count = (number_form w32).written (length plan.spans) in
    let jobs = flat_map of_job plan.jobs in
    let spans = flat_map of_span plan.spans in
    let short_jobs = length-pieces of_job 20 plan.jobs (every (λ (j : Job). length (of_job j) ≤ 20) plan.jobs (length-job layout)) in
    let short_spans = length-pieces of_span 20 plan.spans (every (λ (s : Span). length (of_span s) ≤ 20) plan.spans (length-span layout)) in
    let whole : length (spelling_in layout plan) ≡ length head + length set + (length job_count + length jobs) + (length span_count + length spans) = whole_parts head set job_count jobs span_count spans in
    omega (arith, whole, length-head layout, length-set layout plan.tasks is_plan.sound, length-many (length plan.jobs), length-many (length plan.spans), short_jobs, short_spans, few_jobs plan is_plan, few_spans plan is_plan)
  where
    length-head : (l : Layout) → length (head_form.written l) ≡ 6
    length-head l = refl

    whole_parts : (head set job_count jobs span_count spans : List ℕ) → length (head ++ (((set ++ []) ++ ((job_count ++ jobs) ++ ((span_count ++ spans) ++ []))) ++ [])) ≡ length head + length set + (length job_count + length jobs) + (length span_count + length spans)
    whole_parts head set job_count jobs span_count spans =
        let inner = (job_count ++ jobs) ++ ((span_count ++ spans) ++ []) in
        omega (arith, length-append head (((set ++ []) ++ inner) ++ []), length-append ((set ++ []) ++ inner) [], length-append (set ++ []) inner, length-append set [], length-two (job_count ++ jobs) (span_count ++ spans), length-append job_count jobs, length-append span_count spans)

-- bytes that spell a plan
pub length-spelled : (bytes : List ℕ) (plan : PlanParts) → IsPlan plan → Spells bytes plan → length bytes ≤ TABLE_FILE_LIMIT
length-spelled bytes plan is_plan (inl is) =
    omega (arith, ap (λ (text : List ℕ). length text) is, length-spelling_in layout_1 plan is_plan)
length-spelled bytes plan is_plan (inr is) =
    omega (arith, ap (λ (text : List ℕ). length text) is, length-spelling_in layout_2 plan is_plan)

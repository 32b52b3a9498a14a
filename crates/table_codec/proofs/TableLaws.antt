-- Tables: what is read was written so, and what is written so is read.
use Rattle.std.proofs.Common.{◌≡◌, ◌≢◌, ◌⊎◌, inl, inr, ℕ, ◌+◌, ◌-◌, ◌^◌, ◌<◌, ◌≤◌, Bool, true, false, cond, List, [], ◌∷◌, ◌++◌, length, Option, Some, None, Result, Ok, Err, refl, sym, ap, subst, ◌∙◌, append_assoc, arith}
use Rattle.std.specs.Prelude.{IfOk, MatchResult, nat_le, is_none, codes, ◌==◌, ⊤}
use Rattle.std.specs.Option.{option_map_or, option_or}
use Rattle.std.specs.List.{list_all, AllByRecursion}
use Rattle.std.specs.Str.{bytes_eq}
use Rattle.std.proofs.lemmas.Bool.{and_from, and_parts, eqb-true, leb-false}
use Rattle.std.proofs.lemmas.Bool.Decides.{nat_tests}
use Rattle.std.proofs.lemmas.List.{append-nil, nil_from_length}
use Rattle.std.proofs.lemmas.List.Elements.{recursion_from_All}
use Rattle.std.proofs.lemmas.Slice.Eq.{bytes_eq-Decides}
use Rattle.slot_core.specs.declared.TheConstants.{TASK_LIMIT}
use Rattle.slot_core.specs.declared.jobs.Job.{Job}
use Rattle.slot_core.specs.declared.jobs.Span.{Span}
use Rattle.slot_core.specs.declared.jobs.Window.{Window}
use Rattle.slot_core.specs.declared.tasks.Task.{Task}
use Rattle.slot_core.specs.declared.tasks.Graph.{Graph}
use Rattle.slot_core.specs.declared.tasks.TaskSet.{TaskSet}
use Rattle.slot_core.specs.declared.faults.Part.TheVariants.{Task as TaskPart}
use Rattle.slot_core.specs.declared.faults.Field.TheVariants.{After}
use Rattle.slot_core.specs.declared.faults.Place.{Place}
use Rattle.slot_core.specs.declared.faults.TaskFault.{TaskFault}
use Rattle.slot_core.specs.declared.faults.TaskFault.TheVariants.{NoSuchTask}
use Rattle.slot_core.specs.Sets.Cycles.{cycle_of}
use Rattle.slot_core.specs.Sets.Faults.{fault_if, first_fault, entries_fault, task_fault, after_fault, set_fault}
use Rattle.slot_core.specs.Feasibility.Feasible.{counterexample}
use Rattle.slot_core.specs.Keeping.Plans.{PlanParts, IsPlan, planned}
use Rattle.slot_core.specs.Sets.Ranges.{graph_in_range, is_in_range, is_sound}
use Rattle.slot_facts.proofs.Sets.Ranges.{SetRanges-from_test, few_tasks}
use Rattle.faults.specs.declared.table_fault.TableFault.{TableFault}
use Rattle.faults.specs.declared.table_fault.TableFault.TheVariants.{Memory, Short, BadMagic, BadVersion, BadSource, Infeasible, WrongJobCount, WrongJob, WrongSpanCount, WrongSpan, Trailing}
use Rattle.table_codec.specs.declared.layout.Layout.{Layout}
use Rattle.table_codec.specs.Readers.{Unread, Read, go_on, settled, end_at, value_of}
use Rattle.table_codec.specs.Faults.{NamesUnknown}
use Rattle.table_codec.specs.Forms.{Form, tested, bytes_form}
use Rattle.table_codec.specs.Grammar.{layout_1, layout_2, layout_of, head_form, index_form, set_form, sound_set, source_form, plan_of, jobs_form, spans_form, stored_form, plan_form, table_form, spelling_in, Spells, reading_of_table, AnswersAs}
use Rattle.table_codec.specs.Sizes.{FitsSpan}
use Rattle.table_codec.proofs.FormLaws.{IsBytes, Takes, Takes-then, takes_nothing, at, step, settles, value_same, ReadsWhole, ReadsBack, tested_whole, bytes_whole, bytes_back}
use Rattle.table_codec.proofs.FieldLaws.{index_whole, index_back}
use Rattle.table_codec.proofs.PlanSizes.{few_jobs, few_spans, all_stored_jobs, all_fitting_spans}
use Rattle.table_codec.proofs.Planned.{plan_of-plan}
use Rattle.table_codec.proofs.SetLaws.{HasSmallIndexes, set_whole, set_back}
use Rattle.table_codec.proofs.StoredLaws.{jobs_whole, spans_whole, jobs_back, spans_back}

-- of two parts with no fault between them neither has one
both_none : (o p : Option TaskFault) → option_or o p ≡ None → (o ≡ None) × (p ≡ None)
both_none None p h = (refl, h)
both_none (Some fault) p h = cc

none-from_test : (o : Option TaskFault) → is_none o ≡ true → o ≡ None
none-from_test None h = refl
none-from_test (Some fault) h = cc

-- a set that passes has no fault
sound-passes : (set passed : TaskSet) (o : Option TaskFault) → ◌≡◌ {A = Result TaskSet TableFault} (option_map_or (λ fault. Err (BadSource fault)) o (Ok set)) (Ok passed) → (is_none o ≡ true) × (set ≡ passed)
sound-passes set passed None h = (refl, value_same set passed h)
sound-passes set passed (Some fault) h = cc

-- a set that is read and passes is sound
pub sound_from_steps : (layout : Layout) (input after : Unread) (set : TaskSet) (y : TaskSet × Unread) → (set_form layout).read input ≡ Ok (set, after) → settled (sound_set set) after ≡ Ok y → is_sound set ≡ true
sound_from_steps layout input after set y read passed =
    let (is, _) = settles (sound_set set) after y.0 y.1 passed in
    and_from _ _ ((set_whole layout).of_read input set after read).1 (sound-passes set y.0 (set_fault set) is).0

pub source_whole : (layout : Layout) → ReadsWhole (source_form layout) (λ set. is_sound set ≡ true)
source_whole layout = record {
  of_read = λ input set rest h.
      step ((set_form layout).read input) {f = λ s. settled (sound_set s)} h (λ numbers after read h.
      let (is, same) = settles (sound_set numbers) after set rest h in
      let (none, value) = sound-passes numbers set (set_fault numbers) is in
      let (takes, range) = (set_whole layout).of_read input numbers after read in
      let all : Takes input ((source_form layout).written numbers) after = Takes-then takes (takes_nothing after) in
      let there : Takes input ((source_form layout).written numbers) rest = subst (λ i. Takes input ((source_form layout).written numbers) i) same all in
      subst (λ s. Takes input ((source_form layout).written s) rest × (is_sound s ≡ true)) value (there, and_from _ _ range none));
}

-- a fault of a later part is the fault of the whole
pub fault_of_plan : (layout : Layout) (input after : Unread) (set : TaskSet) (fault : TableFault) → (source_form layout).read input ≡ Ok (set, after) → settled (plan_of set) after ≡ Err fault → (plan_form layout).read input ≡ Err fault
fault_of_plan layout input after set fault source plan = after_source ((source_form layout).read input) source
  where
    after_source : (r : Read TaskSet) → r ≡ Ok (set, after) → go_on r (λ s rest. go_on (settled (plan_of s) rest) (λ p. (stored_form layout p).read)) ≡ Err fault
    after_source r e = rw (e, plan) refl

-- the whole of its parts
pub plan_of_parts : (layout : Layout) (input after rest : Unread) (set : TaskSet) (plan : PlanParts) (y : Read PlanParts) → (source_form layout).read input ≡ Ok (set, after) → settled (plan_of set) after ≡ Ok (plan, rest) → (stored_form layout plan).read rest ≡ y → (plan_form layout).read input ≡ y
plan_of_parts layout input after rest set plan y source planned stored = after_source ((source_form layout).read input) source
  where
    after_source : (r : Read TaskSet) → r ≡ Ok (set, after) → go_on r (λ s rest. go_on (settled (plan_of s) rest) (λ p. (stored_form layout p).read)) ≡ y
    after_source r e = rw (e, planned) stored

-- ---- what is read was written so

stored_plan_whole : (layout : Layout) (plan : PlanParts) → ReadsWhole (stored_form layout plan) (λ p. plan ≡ p)
stored_plan_whole layout plan = record {
  of_read = λ input p rest h.
      step ((jobs_form layout plan.jobs).read input) h (λ jobs i1 r1 h.
      step ((spans_form layout plan.spans).read i1) h (λ spans i2 r2 h.
      let (is, same) = settles (Ok plan) i2 p rest h in
      let (t1, same_jobs) = (jobs_whole layout plan.jobs).of_read input jobs i1 r1 in
      let (t2, same_spans) = (spans_whole layout plan.spans).of_read i1 spans i2 r2 in
      let t1 : Takes input ((jobs_form layout plan.jobs).written plan.jobs) i1 = subst (λ (js : List Job). Takes input ((jobs_form layout plan.jobs).written js) i1) (sym same_jobs) t1 in
      let t2 : Takes i1 ((spans_form layout plan.spans).written plan.spans) i2 = subst (λ (ss : List Span). Takes i1 ((spans_form layout plan.spans).written ss) i2) (sym same_spans) t2 in
      let all : Takes input ((stored_form layout plan).written plan) i2 = Takes-then t1 (Takes-then t2 (takes_nothing i2)) in
      let there : Takes input ((stored_form layout plan).written plan) rest = subst (λ i. Takes input ((stored_form layout plan).written plan) i) same all in
      let value = value_same plan p is in
      (subst (λ (q : PlanParts). Takes input ((stored_form layout plan).written q) rest) value there, value)));
}

-- what a plan is that a table gives: sound, feasible, and made of its set
pub record IsSettled (plan : PlanParts) : Type 0 where
  pub sound : is_sound plan.tasks ≡ true
  pub none : counterexample plan.tasks (cycle_of plan.tasks) ≡ None
  pub made : planned plan.tasks ≡ plan

-- a set that has a plan
planned-passes : (set : TaskSet) (plan : PlanParts) (o : Option Window) → ◌≡◌ {A = Result PlanParts TableFault} (option_map_or (λ (w : Window). Err (Infeasible w)) o (Ok (planned set))) (Ok plan) → (o ≡ None) × (planned set ≡ plan)
planned-passes set plan None h = (refl, value_same (planned set) plan h)
planned-passes set plan (Some w) h = cc

plan_whole : (layout : Layout) → ReadsWhole (plan_form layout) IsSettled
plan_whole layout = record {
  of_read = λ input plan rest h.
      step ((source_form layout).read input) h (λ set i1 r1 h.
      step (settled (plan_of set) i1) {f = λ p. (stored_form layout p).read} h (λ made i2 r2 h.
      let (is, same_input) = settles (plan_of set) i1 made i2 r2 in
      let (none, values) = planned-passes set made (counterexample set (cycle_of set)) is in
      let (t1, sound) = (source_whole layout).of_read input set i1 r1 in
      let (t2, same) = (stored_plan_whole layout made).of_read i2 plan rest h in
      let whole : planned set ≡ plan = values ∙ same in
      let tasks : set ≡ plan.tasks = ap (λ (p : PlanParts). p.tasks) whole in
      let t2 : Takes i1 ((stored_form layout plan).written plan) rest = subst (λ i. Takes i ((stored_form layout plan).written plan) rest) (sym same_input) t2 in
      let t1 : Takes input ((source_form layout).written plan.tasks) i1 = subst (λ (s : TaskSet). Takes input ((source_form layout).written s) i1) tasks t1 in
      let all : Takes input ((plan_form layout).written plan) rest = Takes-then t1 (Takes-then (takes_nothing i1) t2) in (
        all,
        record {
          sound = subst (λ (s : TaskSet). is_sound s ≡ true) tasks sound;
          none = subst (λ (s : TaskSet). counterexample s (cycle_of s) ≡ None) tasks none;
          made = ap planned (sym tasks) ∙ whole;
        },
      )));
}

-- a layout is that of its version
abbrev pub IsKnown : Layout → Type 0
IsKnown layout = layout_of layout.version ≡ Ok layout

-- the layout of a version says the version, and is one of the two
known_layout : (version : ℕ) (layout : Layout) → layout_of version ≡ Ok layout → (version ≡ layout.version) × ((layout_1 ≡ layout) ⊎ (layout_2 ≡ layout))
known_layout version layout =
    by_tests (version == 1) (version == 2) (eqb-true version 1) (eqb-true version 2)
  where
    by_tests : (first second : Bool) → (first ≡ true → version ≡ 1) → (second ≡ true → version ≡ 2) → ◌≡◌ {A = Result Layout TableFault} (cond first (Ok layout_1) (cond second (Ok layout_2) (Err (BadVersion version)))) (Ok layout) → (version ≡ layout.version) × ((layout_1 ≡ layout) ⊎ (layout_2 ≡ layout))
    by_tests true second one two h =
        let same = value_same layout_1 layout h in
        (one refl ∙ ap (λ (l : Layout). l.version) same, inl same)
    by_tests false true one two h =
        let same = value_same layout_2 layout h in
        (two refl ∙ ap (λ (l : Layout). l.version) same, inr same)
    by_tests false false one two h = cc

-- what is read as SLOT is SLOT
abbrev pub magic_form : Form (List ℕ) (List ℕ)
magic_form = tested (bytes_form 4) (λ text. bytes_eq text (codes "SLOT")) (λ _. BadMagic)

pub slot_whole : ReadsWhole magic_form (λ text. text ≡ codes "SLOT")
slot_whole = record {
  of_read = λ input text rest h.
      let read : ReadsWhole magic_form (λ t. (bytes_eq t (codes "SLOT") ≡ true) × (length t ≡ 4)) = tested_whole _ _ (bytes_whole 4) in
      let (takes, slot) = read.of_read input text rest h in
      (takes, (bytes_eq-Decides text (codes "SLOT")).0 slot.0);
}

head_whole : ReadsWhole head_form (λ layout. IsKnown layout)
head_whole = record {
  of_read = λ input layout rest h.
      step (magic_form.read input) h (λ text i1 r1 h.
      step (index_form.read i1) {f = λ version. settled (layout_of version)} h (λ version i2 r2 h.
      let (t1, letters) = slot_whole.of_read input text i1 r1 in
      let (t2, _) = index_whole.of_read i1 version i2 r2 in
      let (is, same) = settles (layout_of version) i2 layout rest h in
      let (stated, _) = known_layout version layout is in
      let t1 : Takes input (codes "SLOT") i1 = subst (λ t. Takes input t i1) letters t1 in
      let t2 : Takes i1 (index_form.written layout.version) i2 = subst (λ n. Takes i1 (index_form.written n) i2) stated t2 in
      let all : Takes input (head_form.written layout) i2 = Takes-then t1 (Takes-then t2 (takes_nothing i2)) in
      (subst (λ i. Takes input (head_form.written layout) i) same all, subst (λ n. layout_of n ≡ Ok layout) stated is)));
}

-- nothing is left at the end
ends-well : (b : Bool) (fault : TableFault) (x y : ⊤ × Unread) → cond b (Ok x) (Err fault) ≡ Ok y → b ≡ true
ends-well true fault x y h = refl
ends-well false fault x y h = cc

end-passes : (input : Unread) (y : ⊤ × Unread) → end_at input ≡ Ok y → input.left ≡ []
end-passes input y h =
    let none = ends-well (length input.left == 0) (Trailing (input.whole - length input.left)) (tt, input) y h in
    nil_from_length input.left (eqb-true (length input.left) 0 none)

-- what is said of all bytes that are read as a plan: they were written of it in some known layout
pub record WereWritten (bytes : List ℕ) (plan : PlanParts) : Type 0 where
  pub layout : Layout
  pub known : IsKnown layout
  pub spelled : IsBytes bytes → bytes ≡ (table_form layout).written plan
  pub settled : IsSettled plan

-- the value of what is read
value-cases : {X : Type 0} (r : Read X) (x : X) → value_of r ≡ Ok x → (rest : Unread) × (r ≡ Ok (x, rest))
value-cases (Ok y) x h = let same : y.0 ≡ x = cc in (y.1, λ i. Ok (same i, y.1))
value-cases (Err fault) x h = cc

were_written : (bytes : List ℕ) (plan : PlanParts) → reading_of_table bytes ≡ Ok plan → WereWritten bytes plan
were_written bytes plan h =
    let input = at (length bytes) bytes in
    let (rest, read) = value-cases ((table_form layout_2).read input) plan h in
    step (head_form.read input) read (λ layout i1 r1 h.
    step ((plan_form layout).read i1) h (λ p i2 r2 h.
    step (end_at i2) {f = λ _. settled (Ok p)} h (λ u i3 r3 h.
    let (is, _) = settles (Ok p) i3 plan rest h in
    let same : p ≡ plan = value_same p plan is in
    let (t1, known) = head_whole.of_read input layout i1 r1 in
    let (t2, settled_plan) = (plan_whole layout).of_read i1 p i2 r2 in
    let all : Takes input ((table_form layout).written p) i2 = Takes-then t1 (Takes-then t2 (takes_nothing i2)) in
    let none : i2.left ≡ [] = end-passes i2 (u, i3) r3 in
    let text : IsBytes bytes → bytes ≡ (table_form layout).written p = λ small. all.parts small ∙ (ap (λ t. (table_form layout).written p ++ t) none ∙ append-nil ((table_form layout).written p)) in
    record {
      layout = layout;
      known = known;
      spelled = λ small. text small ∙ ap (table_form layout).written same;
      settled = subst IsSettled same settled_plan;
    })))

-- all bytes of a table that is read spell its plan
pub spelled-from_reading : (bytes : List ℕ) (plan : PlanParts) → IsBytes bytes → reading_of_table bytes ≡ Ok plan → Spells bytes plan
spelled-from_reading bytes plan small h =
    let w = were_written bytes plan h in
    let text = λ (l : Layout). (table_form l).written plan in
    elim (known_layout w.layout.version w.layout w.known).1 [
      | inl first ↦ inl (w.spelled small ∙ ap text (sym first))
      | inr second ↦ inr (w.spelled small ∙ ap text (sym second))
    ]

-- a plan that is read is sound, feasible, and made of its set
pub settled-from_reading : (bytes : List ℕ) (plan : PlanParts) → reading_of_table bytes ≡ Ok plan → IsSettled plan
settled-from_reading bytes plan h = (were_written bytes plan h).settled

-- ---- what is written so is read

stored_plan_back : (layout : Layout) (plan : PlanParts) → IsPlan plan → ReadsBack (stored_form layout plan) plan
stored_plan_back layout plan is_plan = record {
  again = λ whole tail.
      let jobs = (jobs_form layout plan.jobs).written plan.jobs in
      let spans = (spans_form layout plan.spans).written plan.spans in
      let few = few_jobs plan is_plan in
      let fewer = few_spans plan is_plan in
      ap (λ left. (stored_form layout plan).read (at whole left)) (regroup jobs spans tail) ∙ rw (
        (jobs_back layout plan.jobs (omega (arith, few)) (all_stored_jobs layout plan is_plan)).again whole (spans ++ tail),
        (spans_back layout plan.spans (omega (arith, fewer)) (recursion_from_All (FitsSpan layout) plan.spans (all_fitting_spans layout plan is_plan))).again whole tail,
      ) refl;
}
  where
    regroup : (a b tail : List ℕ) → (a ++ (b ++ [])) ++ tail ≡ a ++ (b ++ tail)
    regroup a b tail = simp append_assoc

-- the entries of a sound set are small
small_entries : (place : Place) (count : ℕ) (earlier entries : List ℕ) → count ≤ TASK_LIMIT → entries_fault place count earlier entries ≡ None → AllByRecursion (λ a. a < 2 ^ 16) entries
small_entries place count earlier [] few none = tt
small_entries place count earlier (a ∷ entries) few none =
    let (here, none) = both_none _ _ none in
    let (_, none) = both_none _ _ none in
    let lt : a < count = below (nat_le count a) refl here in
    (omega (arith, lt), small_entries place count (a ∷ earlier) entries few none)
  where
    below : (b : Bool) → nat_le count a ≡ b → fault_if b (NoSuchTask place) ≡ None → a < count
    below true e h = cc
    below false e h = leb-false count a e

small_tasks : (g count t : ℕ) (tasks : List Task) → count ≤ TASK_LIMIT → first_fault (task_fault g count) t tasks ≡ None → AllByRecursion (λ (task : Task). AllByRecursion (λ a. a < 2 ^ 16) task.after) tasks
small_tasks g count t [] few none = tt
small_tasks g count t (task ∷ tasks) few none =
    let (here, none) = both_none _ _ none in
    (small_entries (record { part = TaskPart g t; field = After }) count [] task.after few here, small_tasks g count (t + 1) tasks few none)

small_graphs : (g : ℕ) (graphs : List Graph) → list_all graph_in_range graphs ≡ true → first_fault after_fault g graphs ≡ None → AllByRecursion HasSmallIndexes graphs
small_graphs g [] range none = tt
small_graphs g (graph ∷ graphs) range none =
    let (first, range) = and_parts (graph_in_range graph) (list_all graph_in_range graphs) range in
    let (here, none) = both_none _ _ none in
    (small_tasks g (length graph.tasks) 0 graph.tasks (few_tasks graph first) here, small_graphs (g + 1) graphs range none)

sound-Ok : (set : TaskSet) → set_fault set ≡ None → sound_set set ≡ Ok set
sound-Ok set none = rw none refl

source_back : (layout : Layout) (set : TaskSet) → is_sound set ≡ true → ReadsBack (source_form layout) set
source_back layout set sound = record {
  again = λ whole tail.
      let (range, passed) = and_parts (is_in_range set) (is_none (set_fault set)) sound in
      let none = none-from_test (set_fault set) passed in
      let (_, later) = both_none _ _ none in
      let (_, later) = both_none _ _ later in
      let (entries, _) = both_none _ _ later in
      let small = small_graphs 0 set.graphs (SetRanges-from_test set range).graphs entries in
      ap (λ left. (source_form layout).read (at whole (left ++ tail))) (append-nil ((set_form layout).written set))
      ∙ after whole tail (sound-Ok set none) ((set_form layout).read (at whole ((set_form layout).written set ++ tail))) ((set_back layout set range small).again whole tail);
}
  where
    after : (whole : ℕ) (tail : List ℕ) → sound_set set ≡ Ok set → (r : Read TaskSet) → r ≡ Ok (set, at whole tail) → go_on r (λ s. settled (sound_set s)) ≡ Ok (set, at whole tail)
    after whole tail fine r e = rw (e, fine) refl

plan_back : (layout : Layout) (plan : PlanParts) → IsPlan plan → ReadsBack (plan_form layout) plan
plan_back layout plan is_plan = record {
  again = λ whole tail.
      let source = (source_form layout).written plan.tasks in
      let stored = (stored_form layout plan).written plan in
      let after = at whole (stored ++ tail) in
      let made : settled (plan_of plan.tasks) after ≡ Ok (plan, after) = ap (λ (r : Result PlanParts TableFault). settled r after) (plan_of-plan plan is_plan) in
      ap (λ left. (plan_form layout).read (at whole left)) (append_assoc source stored tail)
      ∙ plan_of_parts layout (at whole (source ++ (stored ++ tail))) after after plan.tasks plan (Ok (plan, at whole tail)) ((source_back layout plan.tasks is_plan.sound).again whole (stored ++ tail)) made ((stored_plan_back layout plan is_plan).again whole tail);
}

head_back : (layout : Layout) → IsKnown layout → layout.version < 2 ^ 16 → ReadsBack head_form layout
head_back layout known small = record {
  again = λ whole tail.
      let magic = tested (bytes_form 4) (λ text. bytes_eq text (codes "SLOT")) (λ _. BadMagic) in
      let version = index_form.written layout.version in
      ap (λ left. head_form.read (at whole left)) (regroup (codes "SLOT") version tail)
      ∙ rw ((bytes_back 4 (codes "SLOT") refl).again whole (version ++ tail), (index_back layout.version small).again whole tail, known) refl;
}
  where
    regroup : (a b tail : List ℕ) → (a ++ (b ++ [])) ++ tail ≡ a ++ (b ++ tail)
    regroup a b tail = simp append_assoc

-- a version without a layout is refused
unknown-layout_of : (version : ℕ) → version ≢ 1 → version ≢ 2 → layout_of version ≡ Err (BadVersion version)
unknown-layout_of version one two =
    rw (eqb-other version 1 one, eqb-other version 2 two) refl
  where
    eqb-other : (m n : ℕ) → m ≢ n → (m == n) ≡ false
    eqb-other m n other = grind (arith, nat_tests, other)

pub unknown-refused : (bytes : List ℕ) (version : ℕ) → version < 2 ^ 16 → NamesUnknown bytes version → reading_of_table bytes ≡ Err (BadVersion version)
unknown-refused bytes version small unknown =
    let n = length bytes in
    let (more, is) = unknown.begins in
    let text = index_form.written version in
    let head : head_form.read (at n (codes "SLOT" ++ (text ++ more))) ≡ Err (BadVersion version) = rw ((bytes_back 4 (codes "SLOT") refl).again n (text ++ more), (index_back version small).again n more, unknown-layout_of version unknown.not_first unknown.not_second) refl in
    ap (λ left. value_of ((table_form layout_2).read (at n left))) is ∙ after_head (head_form.read (at n (codes "SLOT" ++ (text ++ more)))) head
  where
    after_head : (r : Read Layout) → r ≡ Err (BadVersion version) → value_of (go_on r (λ l input. go_on ((plan_form l).read input) (λ p input. go_on (end_at input) (λ _. settled (Ok p))))) ≡ Err (BadVersion version)
    after_head r e = rw e refl

-- what is read of a plan's bytes in a known layout and of bytes after them: the plan, and then the
-- end
pub reading-again : (own layout : Layout) → IsKnown layout → layout.version < 2 ^ 16 → (whole : ℕ) (plan : PlanParts) (tail : List ℕ) → IsPlan plan → (table_form own).read (at whole ((table_form layout).written plan ++ tail)) ≡ go_on (end_at (at whole tail)) (λ _. settled (Ok plan))
reading-again own layout known small whole plan tail is_plan =
    let head = head_form.written layout in
    let body = (plan_form layout).written plan in
    ap (λ left. (table_form own).read (at whole left)) (regroup head body tail)
    ∙ after_head (head_form.read (at whole (head ++ (body ++ tail)))) ((head_back layout known small).again whole (body ++ tail))
    ∙ after_body ((plan_form layout).read (at whole (body ++ tail))) ((plan_back layout plan is_plan).again whole tail)
  where
    regroup : (a b tail : List ℕ) → (a ++ (b ++ [])) ++ tail ≡ a ++ (b ++ tail)
    regroup a b tail = simp append_assoc

    after_head : (r : Read Layout) → r ≡ Ok (layout, at whole ((plan_form layout).written plan ++ tail)) → go_on r (λ l input. go_on ((plan_form l).read input) (λ p input. go_on (end_at input) (λ _. settled (Ok p)))) ≡ go_on ((plan_form layout).read (at whole ((plan_form layout).written plan ++ tail))) (λ p input. go_on (end_at input) (λ _. settled (Ok p)))
    after_head r e = rw e refl

    after_body : (r : Read PlanParts) → r ≡ Ok (plan, at whole tail) → go_on r (λ p input. go_on (end_at input) (λ _. settled (Ok p))) ≡ go_on (end_at (at whole tail)) (λ _. settled (Ok plan))
    after_body r e = rw e refl

-- the reading of a plan's bytes in a known layout and of bytes after them
reading-longer : (layout : Layout) → IsKnown layout → layout.version < 2 ^ 16 → (bytes tail : List ℕ) (plan : PlanParts) → IsPlan plan → bytes ≡ spelling_in layout plan ++ tail → reading_of_table bytes ≡ value_of (go_on (end_at (at (length bytes) tail)) (λ _. settled (Ok plan)))
reading-longer layout known small bytes tail plan is_plan is =
    ap (λ left. value_of ((table_form layout_2).read (at (length bytes) left))) is ∙ ap value_of (reading-again layout_2 layout known small (length bytes) plan tail is_plan)

-- the same of bytes that spell it
reading-spelled : (bytes front tail : List ℕ) (plan : PlanParts) → IsPlan plan → Spells front plan → bytes ≡ front ++ tail → reading_of_table bytes ≡ value_of (go_on (end_at (at (length bytes) tail)) (λ _. settled (Ok plan)))
reading-spelled bytes front tail plan is_plan (inl is) more =
    reading-longer layout_1 refl (omega arith) bytes tail plan is_plan (more ∙ ap (λ t. t ++ tail) is)
reading-spelled bytes front tail plan is_plan (inr is) more =
    reading-longer layout_2 refl (omega arith) bytes tail plan is_plan (more ∙ ap (λ t. t ++ tail) is)

-- what spells a plan is read as it
pub reading-from_spelled : (bytes : List ℕ) (plan : PlanParts) → IsPlan plan → Spells bytes plan → reading_of_table bytes ≡ Ok plan
reading-from_spelled bytes plan is_plan spells =
    reading-spelled bytes bytes [] plan is_plan spells (sym (append-nil bytes))

-- bytes after it are told
trailing : (whole x : ℕ) (more : List ℕ) (plan : PlanParts) → value_of (go_on (end_at (at whole (x ∷ more))) (λ _. settled (Ok plan))) ≡ Err (Trailing (whole - length (x ∷ more)))
trailing whole x more plan =
    let some : (length (x ∷ more) == 0) ≡ false = grind (arith, nat_tests) in
    rw some refl

-- no spelling begins another
pub no_prefix : (a b : PlanParts) (front whole more : List ℕ) → IsPlan a → IsPlan b → Spells front a → Spells whole b → whole ≡ front ++ more → more ≡ []
no_prefix a b front whole [] plan_a plan_b of_a of_b e = refl
no_prefix a b front whole (x ∷ more) plan_a plan_b of_a of_b e =
    let read = reading-from_spelled whole b plan_b of_b in
    let longer = reading-spelled whole front (x ∷ more) a plan_a of_a e ∙ trailing (length whole) x more a in
    cc (sym read ∙ longer)

-- ---- what an answer says

-- the bytes spell the plan that is answered
pub spelled-from_answer : (answer : Result PlanParts TableFault) (bytes : List ℕ) → IsBytes bytes → AnswersAs answer (reading_of_table bytes) → IfOk answer (Spells bytes)
spelled-from_answer (Ok plan) bytes small read = spelled-from_reading bytes plan small read
spelled-from_answer (Err fault) bytes small read = tt

-- a fault is want of memory or another
memory_or : (fault : TableFault) → (fault ≡ Memory) ⊎ (fault ≢ Memory)
memory_or Memory = inl refl
memory_or (Short at) = inr (λ h. cc)
memory_or BadMagic = inr (λ h. cc)
memory_or (BadVersion version) = inr (λ h. cc)
memory_or (BadSource fault) = inr (λ h. cc)
memory_or (Infeasible window) = inr (λ h. cc)
memory_or (WrongJobCount stored computed) = inr (λ h. cc)
memory_or (WrongJob place stored computed) = inr (λ h. cc)
memory_or (WrongSpanCount stored computed) = inr (λ h. cc)
memory_or (WrongSpan place stored computed) = inr (λ h. cc)
memory_or (Trailing at) = inr (λ h. cc)

-- of bytes that spell a plan the answer is that plan, where memory lasts
pub every-from_answer : (answer : Result PlanParts TableFault) (bytes : List ℕ) → AnswersAs answer (reading_of_table bytes) → (plan : PlanParts) → IsPlan plan → Spells bytes plan → MatchResult answer (λ p. p ≡ plan) (λ fault. fault ≡ Memory)
every-from_answer (Ok p) bytes read plan is_plan is =
    let whole = reading-from_spelled bytes plan is_plan is in cc
every-from_answer (Err fault) bytes read plan is_plan is =
    let whole = reading-from_spelled bytes plan is_plan is in
    elim (memory_or fault) [
      | inl memory ↦ memory
      | inr other ↦ let told = read other in cc
    ]

-- a version that is refused is read so
pub version-from_answer : (answer : Result PlanParts TableFault) (bytes : List ℕ) (version : ℕ) → AnswersAs answer (reading_of_table bytes) → answer ≡ Err (BadVersion version) → reading_of_table bytes ≡ Err (BadVersion version)
version-from_answer answer bytes version read is =
    let told : AnswersAs (Err (BadVersion version)) (reading_of_table bytes) = subst (λ a. AnswersAs a (reading_of_table bytes)) is read in
    told (λ h. cc)

-- of bytes of no known version no plan is answered, and no other fault
pub unknown-from_answer : (answer : Result PlanParts TableFault) (bytes : List ℕ) (version : ℕ) → AnswersAs answer (reading_of_table bytes) → version < 2 ^ 16 → NamesUnknown bytes version → MatchResult answer (λ _. ⊥) (λ fault. fault ≢ Memory → fault ≡ BadVersion version)
unknown-from_answer (Ok p) bytes version read small unknown =
    let told = unknown-refused bytes version small unknown in cc
unknown-from_answer (Err fault) bytes version read small unknown = λ other.
    let told = unknown-refused bytes version small unknown in
    let own = read other in cc

-- a fault of the set is read
pub source-from_answer : (answer : Result PlanParts TableFault) (bytes : List ℕ) (fault : TaskFault) → AnswersAs answer (reading_of_table bytes) → answer ≡ Err (BadSource fault) → reading_of_table bytes ≡ Err (BadSource fault)
source-from_answer answer bytes fault read is =
    let told : AnswersAs (Err (BadSource fault)) (reading_of_table bytes) = subst (λ a. AnswersAs a (reading_of_table bytes)) is read in
    told (λ h. cc)

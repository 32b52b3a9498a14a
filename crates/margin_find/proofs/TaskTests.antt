-- The test of a set with a longer task: what the code makes of it.
use Rattle.std.proofs.Common.{◌≡◌, ℕ, true, List, ◌++◌, get_or, Some, sym, ap, ◌∙◌, subst}
use Rattle.std.specs.Prelude.{slice_get, IsPermutation}
use Rattle.std.proofs.lemmas.Option.{get_or_from_slice_get}
use Rattle.slot_core.specs.declared.faults.Part.TheVariants.{Task as TaskPart, Sporadic as SporadicPart}
use Rattle.slot_core.specs.declared.jobs.Job.{Job}
use Rattle.slot_core.specs.declared.tasks.Graph.{Graph}
use Rattle.slot_core.specs.declared.tasks.Sporadic.{Sporadic}
use Rattle.slot_core.specs.declared.tasks.TaskSet.{TaskSet}
use Rattle.slot_core.specs.Claims.Growth.{changed_at, longer_sporadic, with_longer_task, grown}
use Rattle.slot_core.specs.Keeping.Plans.{PlanParts, IsPlan}
use Rattle.slot_core.specs.Offline.OfflineJobs.{cycle_jobs}
use Rattle.slot_core.specs.Runs.Matches.{HaveSameItems}
use Rattle.slot_core.specs.Sets.Cycles.{cycle_of}
use Rattle.slot_core.specs.Sets.Ranges.{is_sound}
use Rattle.slot_facts.proofs.Lists.SameItems.{same-from_permutation, same-sym}
use Rattle.margin_find.specs.declared.kept.Kept.{Kept}
use Rattle.margin_find.specs.Kept.{jobs_of_others, alone, IsKept}
use Rattle.margin_find.specs.Parts.{IsTaskOf}
use Rattle.margin_find.specs.Search.{StaysSound}
use Rattle.margin_find.proofs.AloneSets.{cycle_of-alone, is_sound-alone}
use Rattle.margin_find.proofs.Growths.{cycle_stays}
use Rattle.margin_find.proofs.KeptJobs.{listed-from_plan}
use Rattle.margin_find.proofs.OwnJobs.{changed_at-itself, joined-windows}
use Rattle.margin_find.proofs.TestedJobs.{AreGrown}
use Rattle.margin_find.proofs.WholeCycle.{at_graph}

-- the graph of a task of the set stands at its place
pub graph_read : (set tasks : TaskSet) (g t i : ℕ) (graphs : List Graph) (graph : Graph) → IsTaskOf set (TaskPart g t) → tasks ≡ set → graphs ≡ tasks.graphs → i ≡ g → graph ≡ get_or graphs i graph → slice_get set.graphs g ≡ Some graph
graph_read set tasks g t i graphs graph of these same place is =
    let (found, task, at, _) = at_graph set g t of in
    let listed : graphs ≡ set.graphs = same ∙ ap (λ (s : TaskSet). s.graphs) these in
    let read : graph ≡ found = is ∙ ap (λ n. get_or graphs n graph) place ∙ ap (λ gs. get_or gs g graph) listed ∙ get_or_from_slice_get set.graphs g found graph at in
    at ∙ ap Some (sym read)

-- its set alone is sound, and has the cycle
pub sound-own : (set : TaskSet) (g t growth cycle : ℕ) (graph : Graph) → StaysSound set (TaskPart g t) growth → slice_get set.graphs g ≡ Some graph → cycle ≡ cycle_of set → is_sound (alone set.soft_limit cycle (with_longer_task t growth graph)) ≡ true
sound-own set g t growth cycle graph stays at whole =
    let longer = grown set (TaskPart g t) growth in
    let own = with_longer_task t growth graph in
    let same : cycle_of longer ≡ cycle = cycle_stays set (TaskPart g t) growth ∙ sym whole in
    let sound = is_sound-alone longer g own stays.sound (changed_at-itself (with_longer_task t growth) g set.graphs graph at) in
    subst (λ n. is_sound (alone set.soft_limit n own) ≡ true) same sound

cycle-own : (set : TaskSet) (g t growth cycle : ℕ) (graph : Graph) → StaysSound set (TaskPart g t) growth → slice_get set.graphs g ≡ Some graph → cycle ≡ cycle_of set → cycle_of (alone set.soft_limit cycle (with_longer_task t growth graph)) ≡ cycle
cycle-own set g t growth cycle graph stays at whole =
    let longer = grown set (TaskPart g t) growth in
    let own = with_longer_task t growth graph in
    let same : cycle_of longer ≡ cycle = cycle_stays set (TaskPart g t) growth ∙ sym whole in
    let here = cycle_of-alone longer g own set.soft_limit stays.sound (changed_at-itself (with_longer_task t growth) g set.graphs graph at) in
    subst (λ n. cycle_of (alone set.soft_limit n own) ≡ n) same here

-- the set that the code makes
pub record IsMade (set : TaskSet) (g t growth cycle : ℕ) (graph : Graph) (one : TaskSet) : Type 0 where
  pub at : slice_get set.graphs g ≡ Some graph
  pub whole : cycle ≡ cycle_of set
  pub is : one ≡ alone set.soft_limit cycle (with_longer_task t growth graph)

pub IsMade-from : (set tasks : TaskSet) (g t u growth cycle : ℕ) (graph : Graph) (one : TaskSet) → slice_get set.graphs g ≡ Some graph → cycle ≡ cycle_of set → tasks ≡ set → u ≡ t → one ≡ alone tasks.soft_limit cycle (with_longer_task u growth graph) → IsMade set g t growth cycle graph one
IsMade-from set tasks g t u growth cycle graph one at whole these place made =
    record {
      at = at;
      whole = whole;
      is = made ∙ ap (λ (s : TaskSet). alone s.soft_limit cycle (with_longer_task u growth graph)) these ∙ ap (λ n. alone set.soft_limit cycle (with_longer_task n growth graph)) place;
    }

pub sound-made : (set : TaskSet) (g t growth cycle : ℕ) (graph : Graph) (one : TaskSet) → StaysSound set (TaskPart g t) growth → IsMade set g t growth cycle graph one → is_sound one ≡ true
sound-made set g t growth cycle graph one stays h =
    ap is_sound h.is ∙ sound-own set g t growth cycle graph stays h.at h.whole

-- so what is kept and the jobs of the set alone, joined, are those of the set with the longer task
pub AreGrown-joined : (set : TaskSet) (g t growth : ℕ) (graph : Graph) (kept : Kept) (one : TaskSet) (own first second joined jobs : List Job) (ss : List Sporadic) → StaysSound set (TaskPart g t) growth → IsMade set g t growth kept.cycle graph one → IsKept set kept → kept.graph ≡ g → IsPermutation (cycle_jobs one (cycle_of one) 0) own → first ≡ kept.others.items → second ≡ own → HaveSameItems (first ++ second) joined → jobs ≡ joined → ss ≡ set.sporadics → AreGrown set (TaskPart g t) growth kept.cycle jobs ss
AreGrown-joined set g t growth graph kept one own first second joined jobs ss stays made these left_out listed at_first at_second items is arriving =
    let longer = with_longer_task t growth graph in
    let cycle = kept.cycle in
    let whole = these.whole in
    let same : cycle_of one ≡ cycle = ap cycle_of made.is ∙ cycle-own set g t growth cycle graph stays made.at whole in
    let here : IsPermutation (cycle_jobs one cycle 0) own = subst (λ n. IsPermutation (cycle_jobs one n 0) own) same listed in
    let there : IsPermutation (cycle_jobs (alone set.soft_limit cycle longer) cycle 0) own = subst (λ (x : TaskSet). IsPermutation (cycle_jobs x cycle 0) own) made.is here in
    let moved : IsPermutation (cycle_jobs (alone set.soft_limit (cycle_of set) longer) (cycle_of set) 0) own = subst (λ n. IsPermutation (cycle_jobs (alone set.soft_limit n longer) n 0) own) whole there in
    let others = subst (λ n. IsPermutation (jobs_of_others set n) kept.others.items) left_out these.listed in
    let read : HaveSameItems (kept.others.items ++ own) joined = subst (λ (xs : List Job). HaveSameItems (kept.others.items ++ xs) joined) at_second (subst (λ (xs : List Job). HaveSameItems (xs ++ second) joined) at_first items) in
    record {
      whole = whole;
      arriving = arriving;
      windows = joined-windows set g t growth set.soft_limit graph kept.others.items own jobs made.at others moved (subst (HaveSameItems (kept.others.items ++ own)) (sym is) read);
    }

-- the jobs of the graphs are those of the set with a longer sporadic task
pub AreGrown-sporadic : (plan : PlanParts) (index i growth cycle : ℕ) (jobs : List Job) (ss longer given : List Sporadic) → IsPlan plan → cycle ≡ plan.cycle → IsPermutation plan.jobs jobs → given ≡ plan.tasks.sporadics → i ≡ index → longer ≡ changed_at (longer_sporadic growth) i given → ss ≡ longer → AreGrown plan.tasks (SporadicPart index) growth cycle jobs ss
AreGrown-sporadic plan index i growth cycle jobs ss longer given is_plan whole listed same place made is =
    let set = plan.tasks in
    let first = cycle_jobs set (cycle_of set) 0 in
    let items = same-sym first jobs (same-from_permutation first jobs (listed-from_plan plan jobs is_plan listed)) in
    record {
      whole = whole ∙ is_plan.cycle;
      arriving = is ∙ made ∙ ap (λ n. changed_at (longer_sporadic growth) n given) place ∙ ap (changed_at (longer_sporadic growth) index) same;
      windows = λ f. items (λ (j : Job). f j.est j.dl j.declared);
    }

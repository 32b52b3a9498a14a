-- No task has the processor before those that it comes after have had their worst cases.
use Rattle.std.proofs.Common.{◌≡◌, ℕ, ◌+◌, ◌*◌, ◌/◌, ◌≤◌, min, true, false, ◌==◌, List, [], ◌∷◌, ◌++◌, Some, refl, sym, ap, ◌∙◌, subst, append_assoc, inl, inr, arith}
use Rattle.std.specs.Prelude.{Contains, map, slice_get}
use Rattle.std.specs.Option.{option_map_or}
use Rattle.std.specs.List.{list_any}
use Rattle.std.proofs.Math.Nat.{div-mul-le_self, mul-le-mul_right, min-le_left}
use Rattle.std.proofs.lemmas.Bool.{or_parts, eq-eqb}
use Rattle.slot_core.specs.declared.jobs.Key.{Key}
use Rattle.slot_core.specs.declared.jobs.Key.TheVariants.{Offline, Soft as SoftKey, Firm as FirmKey}
use Rattle.slot_core.specs.declared.jobs.Job.{Job}
use Rattle.slot_core.specs.declared.jobs.SoftJob.{SoftJob}
use Rattle.slot_core.specs.declared.tasks.Task.{Task}
use Rattle.slot_core.specs.declared.tasks.Graph.{Graph}
use Rattle.slot_core.specs.declared.tasks.TaskSet.{TaskSet}
use Rattle.slot_core.specs.declared.events.What.{What}
use Rattle.slot_core.specs.declared.events.What.TheVariants.{Done, Withdraw, Run}
use Rattle.slot_core.specs.declared.events.Done.TheVariants.{Freed}
use Rattle.slot_core.specs.declared.events.Gone.TheVariants.{Freed as GoneFreed}
use Rattle.slot_core.specs.Sets.Cycles.{cycle_of}
use Rattle.slot_core.specs.Sets.Ranges.{is_sound}
use Rattle.slot_core.specs.Offline.Keys.{same_key}
use Rattle.slot_core.specs.Offline.OfflineJobs.{tasks_of, release_of}
use Rattle.slot_core.specs.Offline.Precedence.{comes_after}
use Rattle.slot_core.specs.Offline.Windows.{precedes, release_or, raw_release, raw_deadline}
use Rattle.slot_core.specs.Runs.Histories.{History, Follows, time_of, is_freed, soft_jobs}
use Rattle.slot_core.specs.Runs.Scenes.{guaranteed, guaranteed_in}
use Rattle.slot_core.specs.Claims.Service.{IsServed}
use Rattle.slot_facts.proofs.Legal.Bounds.{reaches-before}
use Rattle.slot_facts.proofs.Legal.Cycles.{guaranteed-more}
use Rattle.slot_facts.proofs.Legal.Jobs.{guaranteed-later, guaranteed-earlier}
use Rattle.slot_facts.proofs.Legal.Known.{time-earlier}
use Rattle.slot_facts.proofs.Legal.Served.{every_legal_history_is_served}
use Rattle.slot_facts.proofs.Lists.Members.{Has, Has-append_cases, Has-map_cases, Has-from_Contains, Contains-from_Has}
use Rattle.slot_facts.proofs.Lists.Tests.{equal-from_Has}
use Rattle.slot_facts.proofs.Offline.Jobs.{cycle-positive}
use Rattle.slot_facts.proofs.Sets.Tasks.{tasks_at}
use Rattle.clock_laws.specs.Service.{release_at, OrderIsKept}
use Rattle.clock_laws.proofs.Graphs.{at-place, job_of, raw-window, guaranteed-instance}
use Rattle.clock_laws.proofs.Nanos.{RunsInside, nanos-wider, nanos-executed, ran-ended}
use Rattle.clock_laws.proofs.Parts.{worth, GraphAt-from_derived, TaskAt-from_graph, some-slot, wcet-held, release-inside}

-- a job that is not ended early later was not before
not_freed-earlier : (key : Key) (later h : History) → is_freed key (later ++ h) ≡ false → is_freed key h ≡ false
not_freed-earlier key [] h kept = kept
not_freed-earlier key (Done row k (Freed n) ∷ later) h kept =
    not_freed-earlier key later h (or_parts (same_key key k) (is_freed key (later ++ h)) kept).1
not_freed-earlier key (Withdraw row firm (GoneFreed n) ∷ later) h kept =
    not_freed-earlier key later h (or_parts (same_key key (FirmKey firm)) (is_freed key (later ++ h)) kept).1
not_freed-earlier key (what ∷ later) h kept = not_freed-earlier key later h kept

-- the task comes after the other in its graph
comes_after-listed : (tasks : List Task) (t p : ℕ) (task : Task) → slice_get tasks t ≡ Some task → Has task.after p → comes_after tasks t p ≡ true
comes_after-listed tasks t p task at listed =
    ap (λ o. list_any (λ a. a == p) (option_map_or (λ (x : Task). x.after) o [])) at ∙ equal-from_Has task.after p listed

-- in one instance it goes before it
precedes-listed : (set : TaskSet) (g t p k : ℕ) (graph : Graph) (task : Task) → slice_get set.graphs g ≡ Some graph → slice_get graph.tasks t ≡ Some task → Has task.after p → precedes set (Offline g p k) (Offline g t k) ≡ true
precedes-listed set g t p k graph task graph_at task_at listed =
    let listed_by : comes_after (tasks_of set g) t p ≡ true = rw (tasks_at set g graph graph_at) (comes_after-listed graph.tasks t p task task_at listed) in
    rw (eq-eqb g g refl, eq-eqb k k refl, listed_by) refl

-- what follows an entry of a history follows that history
follows-further : (h earlier e : History) (what w : What) → Follows h what earlier → Follows earlier w e → Follows h w e
follows-further h earlier e what w later sooner = (
  later.0 ++ what ∷ sooner.0,
  later.1 ∙ ap (λ (l : History). later.0 ++ what ∷ l) sooner.1 ∙ sym (append_assoc later.0 (what ∷ sooner.0) (w ∷ e)),
)

-- the time of an earlier history is no later
time-follows : (h earlier : History) (key : Key) → Follows h (Run key) earlier → time_of earlier ≤ time_of h
time-follows h earlier key follows =
    let le : time_of earlier ≤ time_of (follows.0 ++ Run key ∷ earlier) = omega (arith, time-earlier follows.0 (Run key ∷ earlier)) in
    subst (λ (l : History). time_of earlier ≤ time_of l) (sym follows.1) le

-- a job of an earlier history is one of this one
guaranteed-follows : (set : TaskSet) (h earlier : History) (key : Key) (job : Job) → is_sound set ≡ true → Follows h (Run key) earlier → Has (guaranteed set (cycle_of set) earlier) job → Contains (guaranteed set (cycle_of set) h) job
guaranteed-follows set h earlier key job sound follows at =
    let cycle = cycle_of set in
    let cycles : ℕ = time_of h / cycle + 3 in
    let reaches = reaches-before (time_of earlier) (time_of h) cycle cycles (cycle-positive set sound) (time-follows h earlier key follows) (omega arith) in
    let more = guaranteed-more set (time_of earlier / cycle + 3) cycles earlier job reaches at in
    let later = guaranteed-earlier set cycles follows.0 (Run key ∷ earlier) job (guaranteed-later set cycles (Run key) earlier job more) in
    Contains-from_Has (guaranteed set cycle h) job (subst (λ (l : History). Has (guaranteed_in set cycle cycles l) job) (sym follows.1) later)

-- a job of a graph that runs was released
released-run : (set : TaskSet) (h earlier : History) (g t k : ℕ) (graph : Graph) → is_sound set ≡ true → IsServed set (cycle_of set) h → slice_get set.graphs g ≡ Some graph → Follows h (Run (Offline g t k)) earlier → release_of graph k ≤ time_of earlier
released-run set h earlier g t k graph sound served graph_at follows =
    let key = Offline g t k in
    let (declared, known) = served.known (Run key) key earlier follows (inl refl) in
    let jobs : List (Key × ℕ) = map (λ (j : Job). (j.key, j.declared)) (guaranteed set (cycle_of set) earlier) in
    let softs : List (Key × ℕ) = map (λ (s : SoftJob). (SoftKey s.row, s.declared)) (soft_jobs earlier) in
    let pair : Key × ℕ = (key, declared) in
    elim (Has-append_cases jobs softs pair (Has-from_Contains (jobs ++ softs) pair known)) [
      | inl a ↦
          let found = Has-map_cases (λ (j : Job). (j.key, j.declared)) (guaranteed set (cycle_of set) earlier) pair a in
          let job = found.0 in
          let key_is : job.key ≡ key = ap (λ (p : Key × ℕ). p.0) found.2 in
          let listed = guaranteed-follows set h earlier key job sound follows found.1 in
          let same_run : Follows h (Run job.key) earlier = subst (λ (q : Key). Follows h (Run q) earlier) (sym key_is) follows in
          let within = served.inside job earlier listed same_run in
          let release : raw_release set job ≡ release_of graph k =
          ap (λ (q : Key). release_or set q job.est) key_is ∙ at-place (λ (x : Graph). release_of x k) graph job.est (slice_get set.graphs g) graph_at in
          omega (arith, release, within.0, within.1)
      | inr b ↦
          let found = Has-map_cases (λ (s : SoftJob). (SoftKey s.row, s.declared)) (soft_jobs earlier) pair b in
          let key_is : SoftKey found.0.row ≡ key = ap (λ (p : Key × ℕ). p.0) found.2 in
          cc
    ]

pub order_is_kept : OrderIsKept
order_is_kept physical set h has g p t k time own before after run carried graph_at before_at after_at listed now at kept =
    let (some, value, less) = some-slot physical set run.derived in
    let slot = physical.slot in
    let found = GraphAt-from_derived physical set g own run.derived graph_at in
    let graph = found.graph in
    let first = TaskAt-from_graph slot (worth physical) g p own graph before found.parts before_at in
    let second = TaskAt-from_graph slot (worth physical) g t own graph after found.parts after_at in
    let (earlier, follows, slot_is) = carried.only (Offline g t k) time now at in
    let (served, ordered) = every_legal_history_is_served set h run.sound run.feasible run.legal in
    let released = released-run set h earlier g t k graph run.sound served found.at follows in
    let past : k * graph.period ≤ time_of h = omega (arith, released, time-follows h earlier (Offline g t k) follows) in
    let key = Offline g p k in
    let job = job_of set g graph p k first.task in
    let among = guaranteed-instance set h g p k graph first.task run.sound found.at first.at found.parts.some.0 past in
    let later = guaranteed-instance set h g t k graph second.task run.sound found.at second.at found.parts.some.0 past in
    let in_slots : Has second.task.after p = subst (λ (l : List ℕ). Has l p) (sym second.parts.after) (Has-from_Contains after.after p listed) in
    let goes_before = precedes-listed set g t p k graph second.task found.at second.at in_slots in
    let ended = ordered job (job_of set g graph t k second.task) earlier among later goes_before follows in
    let kept_now = not_freed-earlier key follows.0 (Run (Offline g t k) ∷ earlier) (subst (λ (l : History). is_freed key l ≡ false) follows.1 kept) in
    let ran = ran-ended job.declared key earlier ended kept_now in
    let a = raw_release set job in
    let b = raw_deadline set job in
    let inside : RunsInside slot physical.overhead a b has key earlier = λ e sooner.
    let run_of = follows-further h earlier e (Run (Offline g t k)) (Run key) follows sooner in
    let within = served.inside job e among run_of in
    record {
      starts = omega (arith, within.0, within.1);
      ends = omega (arith, within.2, within.3);
      gets = run.given key e run_of;
    } in
    let got = nanos-executed slot physical.overhead a b has key earlier less inside in
    let held = wcet-held (worth physical) before.wcet first.task.wcet value first.parts.wcet.is in
    let starts = release-inside slot (worth physical) g k own graph some found.parts in
    let (release, deadline) = raw-window set g p k graph first.task found.at in
    let boundary : time_of earlier * slot ≤ time = rw slot_is (div-mul-le_self time slot) in
    let most = mul-le-mul_right slot (min-le_left (time_of earlier) b) in
    omega (arith, held, mul-le-mul_right (worth physical) ran, got, nanos-wider has key (a * slot) (min (time_of earlier) b * slot) (release_at own k) time (omega (arith, starts, ap (λ n. n * slot) release)) (omega (arith, most, boundary)))

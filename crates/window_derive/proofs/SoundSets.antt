-- What a sound set says of its graphs and of the raw jobs of its first cycle.
use Rattle.std.proofs.Common.{◌≡◌, ℕ, zero, suc, ◌+◌, ◌-◌, ◌<◌, true, List, [], ◌∷◌, ◌++◌, length, map, get_or, take, Some, refl, sym, ap, ◌∙◌, subst, inl, inr, arith}
use Rattle.std.specs.Prelude.{slice_get, slice_index, All}
use Rattle.std.specs.List.{AllZip, range_with_len}
use Rattle.std.specs.Option.{option_map_or}
use Rattle.std.proofs.lemmas.Bool.{cases_lt}
use Rattle.std.proofs.lemmas.List.{take_more}
use Rattle.std.proofs.lemmas.Option.{slice_get-get_or, slice_get_within}
use Rattle.slot_core.specs.declared.jobs.Job.{Job}
use Rattle.slot_core.specs.declared.jobs.RawJob.{RawJob}
use Rattle.slot_core.specs.declared.tasks.Graph.{Graph}
use Rattle.slot_core.specs.declared.tasks.TaskSet.{TaskSet}
use Rattle.slot_core.specs.Sets.Cycles.{cycle_of}
use Rattle.slot_core.specs.Offline.OfflineJobs.{raw_jobs, derived_job, chain_before, chain_after}
use Rattle.slot_core.specs.Offline.Precedence.{is_on_loop, longest_before, longest_after}
use Rattle.slot_core.specs.Sets.Ranges.{is_sound}
use Rattle.slot_facts.proofs.Lists.Members.{Has, Has-range_with_len_bounds}
use Rattle.slot_facts.proofs.Offline.DistinctKeys.{same_numbers}
use Rattle.slot_facts.proofs.Offline.Chains.{HasNoLoop}
use Rattle.slot_facts.proofs.Offline.Jobs.{graph_in_range-from_sound, HasNoLoop-from_sound}
use Rattle.slot_facts.proofs.Sets.Ranges.{few_tasks}
use Rattle.window_derive.specs.declared.windows.Chains.{Chains}
use Rattle.window_derive.specs.Chains.{AreOrderable}
use Rattle.window_derive.specs.GraphChains.{AreChainsOf, AreChainsOfGraphs, HasChains, before_in, after_in, job_by}
use Rattle.slot_facts.proofs.Lists.Tests.{None-from_fails}
use Rattle.slot_facts.proofs.Sets.Tasks.{tasks_at, wcet_past, task_slots}
use Rattle.slot_facts.proofs.Offline.RawJobs.{IsRawJob, IsRawJob-from_cycle}

-- the graphs of a sound set have an order
AreOrderable-from_sound : (set : TaskSet) (g : ℕ) (graph : Graph) → is_sound set ≡ true → slice_get set.graphs g ≡ Some graph → AreOrderable graph.tasks
AreOrderable-from_sound set g graph sound at =
    let tasks = graph.tasks in
    let no_loop : HasNoLoop tasks = subst HasNoLoop (tasks_at set g graph at) (HasNoLoop-from_sound set g sound) in
    let slots = task_slots set g graph sound at in
    record {
      count = few_tasks graph (graph_in_range-from_sound set g graph sound at);
      named = λ t p after. (no_loop.named t p after).1;
      loopless = None-from_fails (is_on_loop tasks) (range_with_len 0 (length tasks)) λ t listed.
          let bounds = Has-range_with_len_bounds 0 (length tasks) t listed in
          no_loop.loopless t (omega (arith, bounds.1));
      some = λ t within. (slots t within).0;
      few = λ t.
          elim (cases_lt t (length tasks)) [
            | inl within ↦ (slots t within).1
            | inr past ↦ let none = wcet_past tasks t past in omega arith
          ];
    }

pub graphs_orderable : (set : TaskSet) → is_sound set ≡ true → All (λ (g : Graph). AreOrderable g.tasks) set.graphs
graphs_orderable set sound = λ k d within.
    AreOrderable-from_sound set k (get_or set.graphs k d) sound (slice_get-get_or set.graphs k d within)

-- what stands at a place of two lists that match
AllZip-slice_get : {X Y : Type 0} (R : X → Y → Type 0) (xs : List X) (ys : List Y) (i : ℕ) (x : X) → AllZip R xs ys → slice_get xs i ≡ Some x → (y : Y) × (slice_get ys i ≡ Some y) × R x y
AllZip-slice_get R [] [] i x all at = absurd (cc at)
AllZip-slice_get R [] (y ∷ ys) i x all at = absurd all
AllZip-slice_get R (z ∷ xs) [] i x all at = absurd all
AllZip-slice_get R (z ∷ xs) (y ∷ ys) zero x all at =
    let same : z ≡ x = cc at in
    (y, refl, subst (λ w. R w y) same all.0)
AllZip-slice_get R (z ∷ xs) (y ∷ ys) (suc i) x all at = AllZip-slice_get R xs ys i x all.1 at

-- chains of the graphs of a sound set are those of its raw jobs
pub HasChains-from_graphs : (set : TaskSet) (chains : List Chains) (raw : RawJob) → is_sound set ≡ true → AreChainsOfGraphs set.graphs chains → IsRawJob set raw → HasChains chains raw
HasChains-from_graphs set chains raw sound all is =
    let c = AllZip-slice_get (λ (g : Graph) (x : Chains). AreChainsOf g.tasks x) set.graphs chains is.g is.graph all is.graph_at in
    let listed = slice_get_within chains is.g c.0 c.1 in
    let few = (AreOrderable-from_sound set is.g is.graph sound is.graph_at).count in
    record {
      listed = λ g t k e.
          let same = same_numbers g is.g t is.t k is.k (sym e ∙ is.key) in
          (omega (arith, same.0), omega (arith, same.1, is.within));
      early = is.early;
    }

-- the job with chains of so many slots
abbrev window : RawJob → ℕ → ℕ → Job
window raw before after =
    record { key = raw.key; est = raw.release + before; dl = raw.deadline - after; left = raw.wcet; declared = raw.wcet }

pub job_by-derived_job : (set : TaskSet) (chains : List Chains) (raw : RawJob) → AreChainsOfGraphs set.graphs chains → IsRawJob set raw → job_by chains raw ≡ derived_job set raw
job_by-derived_job set chains raw all is =
    let c = AllZip-slice_get (λ (g : Graph) (x : Chains). AreChainsOf g.tasks x) set.graphs chains is.g is.graph all is.graph_at in
    let tasks = tasks_at set is.g is.graph is.graph_at in
    let before : before_in chains raw.key ≡ chain_before set raw.key =
    ap (before_in chains) is.key ∙ ap (λ o. option_map_or (λ (x : Chains). slice_index x.before is.t) o 0) c.1 ∙ c.2.before.at is.t is.within ∙ sym (ap (λ ts. longest_before ts is.t) tasks) ∙ sym (ap (chain_before set) is.key) in
    let after : after_in chains raw.key ≡ chain_after set raw.key =
    ap (after_in chains) is.key ∙ ap (λ o. option_map_or (λ (x : Chains). slice_index x.after is.t) o 0) c.1 ∙ c.2.after.at is.t is.within ∙ sym (ap (λ ts. longest_after ts is.t) tasks) ∙ sym (ap (chain_after set) is.key) in
    ap (λ b. window raw b (after_in chains raw.key)) before ∙ ap (λ a. window raw (chain_before set raw.key) a) after

-- the windows of some raw jobs, and of all raw jobs of the first cycle
map-some : (set : TaskSet) (chains : List Chains) (raw : List RawJob) → AreChainsOfGraphs set.graphs chains → ((r : RawJob) → Has raw r → IsRawJob set r) → map (job_by chains) raw ≡ map (derived_job set) raw
map-some set chains [] all each = refl
map-some set chains (r ∷ raw) all each =
    ap (λ j. j ∷ map (job_by chains) raw) (job_by-derived_job set chains r all (each r (inl refl))) ∙ ap (λ js. derived_job set r ∷ js) (map-some set chains raw all (λ s h. each s (inr h)))

pub cycle_jobs-from_chains : (set : TaskSet) (graphs : List Graph) (chains : List Chains) (raw : List RawJob) → is_sound set ≡ true → graphs ≡ set.graphs → AreChainsOfGraphs graphs chains → raw ≡ raw_jobs set (cycle_of set) 0 → map (job_by chains) raw ≡ map (derived_job set) raw
cycle_jobs-from_chains set graphs chains raw sound same all unrolled =
    map-some
    set
    chains
    raw
    (subst (λ gs. AreChainsOfGraphs gs chains) same all)
    (λ r h. IsRawJob-from_cycle set r sound (subst (λ xs. Has xs r) unrolled h))

-- one pair more
AllZip-push : {X Y : Type 0} (R : X → Y → Type 0) (xs : List X) (ys : List Y) (x : X) (y : Y) → AllZip R xs ys → R x y → AllZip R (xs ++ x ∷ []) (ys ++ y ∷ [])
AllZip-push R [] [] x y all h = (h, tt)
AllZip-push R [] (z ∷ ys) x y all h = absurd all
AllZip-push R (z ∷ xs) [] x y all h = absurd all
AllZip-push R (z ∷ xs) (w ∷ ys) x y all h = (all.0, AllZip-push R xs ys x y all.1 h)

-- the chains of one graph more
pub AreChainsOfGraphs-more : (graphs : List Graph) (chains new : List Chains) (i : ℕ) (graph : Graph) (c : Chains) → i < length graphs → graph ≡ get_or graphs i graph → AreChainsOfGraphs (take i graphs) chains → AreChainsOf graph.tasks c → new ≡ chains ++ c ∷ [] → AreChainsOfGraphs (take (i + 1) graphs) new
AreChainsOfGraphs-more graphs chains new i graph c within is all of_graph pushed =
    let more = AllZip-push (λ (g : Graph) (x : Chains). AreChainsOf g.tasks x) (take i graphs) chains graph c all of_graph in
    let taken : take (i + 1) graphs ≡ take i graphs ++ graph ∷ [] = take_more graphs i graph within ∙ ap (λ g. take i graphs ++ g ∷ []) (sym is) in
    rw (taken, pushed) more

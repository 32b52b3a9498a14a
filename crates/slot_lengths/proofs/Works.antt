-- A derived set has little work in a cycle.
use Rattle.std.proofs.Common.{◌≡◌, ℕ, ◌+◌, ◌-◌, ◌*◌, ◌/◌, ◌%◌, ◌<◌, ◌≤◌, true, List, [], ◌∷◌, Ok, min, subst, arith}
use Rattle.std.specs.Prelude.{All}
use Rattle.std.proofs.Math.Nat.{mul-le-mul_right, min-le_left}
use Rattle.std.proofs.lemmas.List.Elements.{All-nil, All-cons}
use Rattle.std.proofs.lemmas.Nat.{div-add-mod'}
use Rattle.slot_core.specs.declared.TheConstants.{SLOT_LIMIT}
use Rattle.slot_core.specs.declared.tasks.Graph.{Graph}
use Rattle.slot_core.specs.declared.tasks.Sporadic.{Sporadic}
use Rattle.slot_core.specs.declared.tasks.TaskSet.{TaskSet}
use Rattle.slot_core.specs.Sets.Cycles.{cycle_of}
use Rattle.slot_core.specs.Sets.Ranges.{is_sound}
use Rattle.slot_facts.proofs.Offline.Jobs.{cycle-at_most}
use Rattle.clock_units.specs.declared.sets.PhysicalGraph.{PhysicalGraph}
use Rattle.clock_units.specs.declared.sets.PhysicalSporadic.{PhysicalSporadic}
use Rattle.clock_units.specs.declared.sets.PhysicalSet.{PhysicalSet}
use Rattle.clock_units.specs.Derived.{derived_set, each, graph_of, sporadic_of}
use Rattle.clock_units.proofs.Parts.{GraphParts-from_Ok, SporadicParts-from_Ok, SetParts-from_Ok, same, step}
use Rattle.slot_lengths.specs.Loads.{HasFewJobs, HasLittleWork, IsFewTimes}

-- a time of some slots is no shorter than one, and so a cycle is few times as long
few-slots : (slot cycle slots time : ℕ) → cycle ≤ SLOT_LIMIT → 0 < slot → 1 ≤ slots → slots * slot ≤ time → IsFewTimes time (cycle * slot)
few-slots slot cycle slots time few some least reaches =
    let one : 1 * slot ≤ slots * slot = mul-le-mul_right slot least in
    let all : cycle * slot ≤ SLOT_LIMIT * slot = mul-le-mul_right slot few in
    record { some = omega (arith, one, reaches, some); few = omega (arith, one, all, reaches) }

-- the same of a time that was cut down
few-cut : (slot cycle kept planned slots : ℕ) → cycle ≤ SLOT_LIMIT → 0 < slot → min kept planned / slot ≡ slots → 1 ≤ slots → IsFewTimes kept (cycle * slot)
few-cut slot cycle kept planned slots few some is least =
    let whole : slots * slot + min kept planned % slot ≡ min kept planned = subst (λ n. n * slot + min kept planned % slot ≡ min kept planned) is (div-add-mod' (min kept planned) slot) in
    few-slots slot cycle slots kept few some least (omega (arith, whole, min-le_left kept planned))

graphs-few : (slot worth n cycle : ℕ) (gs : List PhysicalGraph) (ys : List Graph) → cycle ≤ SLOT_LIMIT → 0 < slot → each (graph_of slot worth) n gs ≡ Ok ys → All (HasFewJobs (cycle * slot)) gs
graphs-few slot worth n cycle [] ys few some h = All-nil (HasFewJobs (cycle * slot))
graphs-few slot worth n cycle (g ∷ gs) ys few some h =
    step (same (graph_of slot worth n g)) h (λ y here rest.
    step (same (each (graph_of slot worth) (n + 1) gs)) rest (λ more others last.
    let parts = GraphParts-from_Ok slot worth n g y here in
    let period = few-slots slot cycle y.period g.period few some parts.some.0 (omega (arith, parts.period)) in
    All-cons (HasFewJobs (cycle * slot)) g gs (record { period = period; tasks = parts.few }) (graphs-few slot worth (n + 1) cycle gs more few some others)))

sporadics-few : (slot worth n cycle : ℕ) (ss : List PhysicalSporadic) (ys : List Sporadic) → cycle ≤ SLOT_LIMIT → 0 < slot → each (sporadic_of slot worth) n ss ≡ Ok ys → All (λ (s : PhysicalSporadic). IsFewTimes s.separation (cycle * slot)) ss
sporadics-few slot worth n cycle [] ys few some h = All-nil (λ (s : PhysicalSporadic). IsFewTimes s.separation (cycle * slot))
sporadics-few slot worth n cycle (s ∷ ss) ys few some h =
    step (same (sporadic_of slot worth n s)) h (λ y here rest.
    step (same (each (sporadic_of slot worth) (n + 1) ss)) rest (λ more others last.
    let parts = SporadicParts-from_Ok slot worth n s y here in
    let apart = few-cut slot cycle s.separation s.planned y.separation few some parts.separation.is parts.separation.least in
    All-cons (λ (s : PhysicalSporadic). IsFewTimes s.separation (cycle * slot)) s ss apart (sporadics-few slot worth (n + 1) cycle ss more few some others)))

pub HasLittleWork-from_derived : (physical : PhysicalSet) (set : TaskSet) → derived_set physical ≡ Ok set → is_sound set ≡ true → HasLittleWork (cycle_of set * physical.slot) physical
HasLittleWork-from_derived physical set derived sound =
    let parts = SetParts-from_Ok physical set derived in
    let few = cycle-at_most set sound in
    let some : 0 < physical.slot = omega (arith, parts.below) in
    let worth = physical.slot - physical.overhead in
    record {
      few_graphs = parts.few_graphs;
      graphs = graphs-few physical.slot worth 0 (cycle_of set) physical.graphs set.graphs few some parts.graphs;
      few_sporadics = parts.few_sporadics;
      sporadics = sporadics-few physical.slot worth 0 (cycle_of set) physical.sporadics set.sporadics few some parts.sporadics;
    }

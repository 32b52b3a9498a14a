-- Scenes that are safe and keep their bounds, soft jobs in their order, and others.
use Rattle.std.specs.Prelude.{◌≡◌, ℕ, ◌≤◌, [], ◌∷◌, refl}
use Rattle.std.proofs.Common.{arith, inl, inr}
use Rattle.std.proofs.lemmas.List.Elements.{All-from_recursion, All-head}
use Rattle.slot_core.specs.declared.jobs.Key.TheVariants.{Offline}
use Rattle.slot_core.specs.declared.jobs.Job.{Job}
use Rattle.slot_core.specs.declared.jobs.SoftJob.{SoftJob}
use Rattle.slot_core.specs.declared.events.What.TheVariants.{Start, Run, Idle}
use Rattle.slot_core.specs.Runs.Histories.{History}
use Rattle.slot_core.specs.Runs.Scenes.{scene_of}
use Rattle.slot_core.specs.Claims.Safety.{IsSafe}
use Rattle.slot_core.specs.Keeping.Kept.{KeepsBounds, KeepsSoftOrder}
use Rattle.slot_core.specs.Runs.Traces.{started}
use Rattle.slot_facts.specs.Bounds.{HistoryIsKept}
use Rattle.slot_facts.proofs.Demand.Feasible.{IsFeasible-from_none}
use Rattle.slot_facts.proofs.Legal.Kept.{every_legal_history_is_kept}
use Rattle.slot_facts.proofs.Lists.Members.{Has-from_Contains, Contains-from_Has}
use Rattle.sample_sets.specs.Sets.{half_set, overlong_set, shared_set}
use Rattle.slot_examples.proofs.Legal.{run_then_idle}

-- three slots of work that are due by 2 are not safe
pub overlong_is_not_safe : IsSafe [] [] (scene_of overlong_set 2 started).jobs 0 6 → ⊥
overlong_is_not_safe safe =
    let fits : 3 ≤ 2 = safe.due 2 (omega arith) (omega arith) in
    omega arith

-- the jobs after a cycle of a legal history are
abbrev first_cycle : History
first_cycle = Idle ∷ Start ∷ Run (Offline 0 0 0) ∷ started

first_cycle_is_kept : HistoryIsKept half_set 4 first_cycle
first_cycle_is_kept =
    every_legal_history_is_kept half_set first_cycle 4 refl (IsFeasible-from_none half_set 2 refl) run_then_idle (omega arith)

pub safe_after_a_cycle : IsSafe [] [] (scene_of half_set 2 first_cycle).jobs 2 8
safe_after_a_cycle = first_cycle_is_kept.safe

-- and its scene keeps its bounds
pub bounds_after_a_cycle : KeepsBounds half_set 2 4 (scene_of half_set 2 first_cycle)
bounds_after_a_cycle = first_cycle_is_kept.bounds

-- one that lacks a job that starts later does not
pub job_to_come_is_missing :
    KeepsBounds half_set 2 3 (record (scene_of half_set 2 started) { jobs = [] }) → ⊥
job_to_come_is_missing bounds =
    let planned = (scene_of half_set 2 started).jobs in
    let next : Job = record { key = Offline 0 0 1; est = 2; dl = 4; left = 1; declared = 1 } in
    Has-from_Contains [] next (bounds.untouched next (Contains-from_Has planned next (inr (inl refl))) (omega arith))

-- nor one that lacks the next arrival of a sporadic task
pub next_arrival_is_missing :
    KeepsBounds shared_set 2 3 (record (scene_of shared_set 2 started) { nexts = [] }) → ⊥
next_arrival_is_missing bounds =
    let none : ◌≡◌ {A = ℕ} 0 1 = bounds.one_each in
    omega arith

-- soft jobs in rows 1 and 3, with slots left
abbrev soft : ℕ → ℕ → SoftJob
soft row left = record { row = row; left = left; declared = 2 }

pub first_has_started : KeepsSoftOrder 2 (soft 1 1 ∷ soft 3 2 ∷ [])
first_has_started =
    record {
      few = omega arith;
      rows = (omega arith, (omega arith, tt));
      left = All-from_recursion (λ (s : SoftJob). (1 ≤ s.left) × (s.left ≤ s.declared)) (soft 1 1 ∷ soft 3 2 ∷ []) ((omega arith, omega arith), ((omega arith, omega arith), tt));
      whole = All-from_recursion (λ (s : SoftJob). s.left ≡ s.declared) (soft 3 2 ∷ []) (refl, tt);
    }

pub second_has_started : KeepsSoftOrder 2 (soft 1 1 ∷ soft 3 1 ∷ []) → ⊥
second_has_started order =
    let whole : ◌≡◌ {A = ℕ} 1 2 = All-head (λ (s : SoftJob). s.left ≡ s.declared) (soft 3 1) [] order.whole in
    omega arith

pub more_than_the_limit : KeepsSoftOrder 1 (soft 1 1 ∷ soft 3 2 ∷ []) → ⊥
more_than_the_limit order =
    let few : 2 ≤ 1 = order.few in
    omega arith

-- Scenes that are the same need the same, and have room for the same offers and the same soft work.
use Rattle.std.proofs.Common.{◌≡◌, ℕ, ◌+◌, ◌-◌, not, cond, List}
use Rattle.std.specs.Prelude.{find, nat_le, nat_lt}
use Rattle.std.specs.List.{list_all, range_with_len}
use Rattle.slot_core.specs.declared.jobs.Job.{Job}
use Rattle.slot_core.specs.declared.tasks.Sporadic.{Sporadic}
use Rattle.slot_core.specs.Runs.Answers.{first_overload, evidence_at}
use Rattle.slot_core.specs.Runs.Choice.{soft_may_run}
use Rattle.slot_core.specs.Runs.Demand.{need_by, is_overloaded}
use Rattle.slot_core.specs.Runs.Matches.{IsSameScene}
use Rattle.slot_core.specs.Runs.Scenes.{Scene, horizon}
use Rattle.slot_core.specs.Feasibility.Sporadics.{sporadic_demand}

-- the same is needed by each time, where arrivals are counted from the same time on
need_from-same : (sporadics : List Sporadic) (a b : Scene) (r s x : ℕ) → r ≡ s → IsSameScene a b → need_by sporadics a r x ≡ need_by sporadics b s x
need_from-same sporadics a b r s x from same =
    let work = same.jobs (λ (j : Job). cond (nat_le j.dl x) j.left 0) in
    λ i. work i + sporadic_demand sporadics (same.nexts i) (from i) x

-- the same times are overloaded
is_overloaded-same : (sporadics : List Sporadic) (a b : Scene) (slots r s x : ℕ) → r ≡ s → IsSameScene a b → is_overloaded sporadics a slots r x ≡ is_overloaded sporadics b slots s x
is_overloaded-same sporadics a b slots r s x from same =
    let need = need_from-same sporadics a b r s x from same in
    λ i. nat_lt (x - same.time i) (slots + need i)

-- soft work may run in both, or in neither
pub soft_may_run-same : (sporadics : List Sporadic) (cycle : ℕ) (a b : Scene) → IsSameScene a b → soft_may_run sporadics cycle a ≡ soft_may_run sporadics cycle b
soft_may_run-same sporadics cycle a b same =
    let from : a.time + 1 ≡ b.time + 1 = λ i. same.time i + 1 in
    let over = λ (x : ℕ). is_overloaded-same sporadics a b 1 (a.time + 1) (b.time + 1) x from same in
    λ i. list_all (λ x. not (over x i)) (range_with_len (same.time i + 1) (horizon cycle (same.time i) - same.time i))

-- the first time at which an offer has no room is the same
pub first_overload-same : (sporadics : List Sporadic) (cycle : ℕ) (a b : Scene) (slots within : ℕ) → IsSameScene a b → first_overload sporadics cycle a slots (a.time + within) ≡ first_overload sporadics cycle b slots (b.time + within)
first_overload-same sporadics cycle a b slots within same =
    let over = λ (x : ℕ). is_overloaded-same sporadics a b slots a.time b.time x same.time same in
    λ i. find (λ x. over x i) (range_with_len (same.time i + within) (horizon cycle (same.time i) + 1 - (same.time i + within)))

-- and so is the evidence against it
pub evidence_at-same : (sporadics : List Sporadic) (a b : Scene) (slots x : ℕ) → IsSameScene a b → evidence_at sporadics a slots x ≡ evidence_at sporadics b slots x
evidence_at-same sporadics a b slots x same =
    let need = need_from-same sporadics a b a.time b.time x same.time same in
    λ i. record { until = x; need = slots + need i; room = x - same.time i }

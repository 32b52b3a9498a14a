-- Soft jobs in the order of their rows: the first of them, and what a run changes.
use Rattle.std.proofs.Common.{◌≡◌, ℕ, ◌-◌, ◌≤◌, true, false, List, [], ◌∷◌, map, fold, Some, refl, sym, ap, inr, inl, arith}
use Rattle.std.specs.Prelude.{All, nat_lt, slice_get, if◌then◌else◌}
use Rattle.std.specs.List.{AllByRecursion}
use Rattle.std.proofs.lemmas.Bool.{both_ways, false_from_ne_true, lt-ltb, le-ltb}
use Rattle.std.proofs.lemmas.Bool.Decides.{nat_tests}
use Rattle.std.proofs.lemmas.List.Elements.{All-weaker, recursion_from_All}
use Rattle.slot_core.specs.declared.jobs.Key.{Key}
use Rattle.slot_core.specs.declared.jobs.Key.TheVariants.{Soft as SoftKey}
use Rattle.slot_core.specs.declared.jobs.Job.{Job}
use Rattle.slot_core.specs.declared.jobs.SoftJob.{SoftJob}
use Rattle.slot_core.specs.Offline.Keys.{same_key, is_soft, row_of}
use Rattle.slot_core.specs.Runs.Rising.{AreRising}
use Rattle.slot_core.specs.Runs.Choice.{lower_of, first_soft}
use Rattle.slot_core.specs.Claims.Safety.{after_run}
use Rattle.slot_core.specs.Keeping.Kept.{KeepsSoftOrder}
use Rattle.slot_facts.proofs.Choice.Earliest.{same_from_key}
use Rattle.slot_facts.proofs.Choice.Runs.{run_of_another}
use Rattle.slot_facts.proofs.Lists.Apart.{AreRising-lower, above-from_rising}
use Rattle.slot_facts.proofs.Lists.ApartKeys.{same_key-itself}
use Rattle.slot_facts.proofs.Lists.Members.{Has, Has-map, AllByRecursion-at_Has}
use Rattle.scene_steps.specs.Steps.{soft_after_run}

-- soft jobs that keep their order have a slot left each
pub soft-have_left : (limit : ℕ) (soft : List SoftJob) → KeepsSoftOrder limit soft → All (λ (s : SoftJob). 1 ≤ s.left) soft
soft-have_left limit soft kept =
    All-weaker (λ (s : SoftJob). (1 ≤ s.left) × (s.left ≤ s.declared)) (λ (s : SoftJob). 1 ≤ s.left) (λ s some. some.0) soft kept.left

-- where all others have higher rows, the best so far stays
lowest-first : (best : SoftJob) (soft : List SoftJob) → AreRising best.row (map (λ (s : SoftJob). s.row) soft) → fold lower_of (Some best) soft ≡ Some best
lowest-first best [] rising = refl
lowest-first best (s ∷ soft) rising =
    let rest = AreRising-lower best.row s.row (map (λ (s : SoftJob). s.row) soft) (omega (arith, rising.0)) rising.1 in
    let later : nat_lt s.row best.row ≡ false = le-ltb s.row best.row (omega (arith, rising.0)) in
    rw later (lowest-first best soft rest)

-- soft rows rise, so the first soft job is the one of least row
pub first_soft-front : (soft : List SoftJob) → AreRising 0 (map (λ (s : SoftJob). s.row) soft) → first_soft soft ≡ slice_get soft 0
first_soft-front [] rising = refl
first_soft-front (s ∷ soft) rising = lowest-first s soft rising.1

-- a run of another key leaves soft jobs that have a slot left
soft_after_run-unnamed : (key : Key) (soft : List SoftJob) → ((s : SoftJob) → Has soft s → same_key (SoftKey s.row) key ≡ false) → AllByRecursion (λ (s : SoftJob). 1 ≤ s.left) soft → soft_after_run key soft ≡ soft
soft_after_run-unnamed key [] other some = refl
soft_after_run-unnamed key (s ∷ soft) other some =
    let differs = other s (inl refl) in
    let here : nat_lt 0 s.left ≡ true = lt-ltb 0 s.left (omega (arith, some.0)) in
    let rest = soft_after_run-unnamed key soft (λ o at. other o (inr at)) some.1 in
    rw (differs, here) (ap (λ ss. s ∷ ss) rest)

-- what a run does to soft jobs in order of rows: the first has a slot less, or goes
pub soft_after_run-front : (first : SoftJob) (rest : List SoftJob) → AreRising 0 (map (λ (s : SoftJob). s.row) (first ∷ rest)) → All (λ (s : SoftJob). 1 ≤ s.left) (first ∷ rest) → soft_after_run (SoftKey first.row) (first ∷ rest) ≡ (if nat_lt 1 first.left then record first { left = first.left - 1 } ∷ rest else rest)
soft_after_run-front first rest rising some =
    let each = recursion_from_All (λ (s : SoftJob). 1 ≤ s.left) (first ∷ rest) some in
    let above = λ (s : SoftJob) (at : Has rest s).
    above-from_rising first.row (map (λ (s : SoftJob). s.row) rest) s.row rising.1 (Has-map (λ (s : SoftJob). s.row) rest s at) in
    let others = soft_after_run-unnamed (SoftKey first.row) rest (λ s at. false_from_ne_true (same_key (SoftKey s.row) (SoftKey first.row)) (λ same. absurd (omega (arith, above s at, ap row_of (same_from_key (SoftKey s.row) (SoftKey first.row) same))))) each.1 in
    let itself = same_key-itself (SoftKey first.row) (SoftKey first.row) refl in
    rw (itself, others) (grind (arith, nat_tests))

-- a run of a guaranteed key leaves soft jobs
pub soft_after_run-other : (key : Key) (soft : List SoftJob) → is_soft key ≡ false → All (λ (s : SoftJob). 1 ≤ s.left) soft → soft_after_run key soft ≡ soft
soft_after_run-other key soft hard some =
    soft_after_run-unnamed key soft (λ s at. false_from_ne_true (same_key (SoftKey s.row) key) (λ same. both_ways (is_soft key) hard (ap is_soft (sym (same_from_key (SoftKey s.row) key same))))) (recursion_from_All (λ (s : SoftJob). 1 ≤ s.left) soft some)

-- and a run of a soft key the guaranteed jobs
pub after_run-soft : (row : ℕ) (jobs : List Job) → All (λ (j : Job). is_soft j.key ≡ false) jobs → All (λ (j : Job). 1 ≤ j.left) jobs → after_run (SoftKey row) jobs ≡ jobs
after_run-soft row jobs hard some =
    let each = recursion_from_All (λ (j : Job). is_soft j.key ≡ false) jobs hard in
    run_of_another (SoftKey row) jobs (λ j at same. both_ways (is_soft j.key) (AllByRecursion-at_Has (λ (j : Job). is_soft j.key ≡ false) jobs j each at) (ap is_soft (sym same))) (recursion_from_All (λ (j : Job). 1 ≤ j.left) jobs some)

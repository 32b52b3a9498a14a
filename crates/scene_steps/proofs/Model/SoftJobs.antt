-- The soft jobs that wait: after a slot, and with one more.
use Rattle.std.proofs.Common.{◌≡◌, ◌-◌, ◌≤◌, false, not, cond, List, [], ◌∷◌, ◌++◌, map, filter, refl, ap, ◌∙◌, arith}
use Rattle.std.specs.Prelude.{nat_le}
use Rattle.std.proofs.lemmas.Bool.{or_from, lt-leb}
use Rattle.std.proofs.lemmas.Bool.Decides.{nat_tests}
use Rattle.std.proofs.lemmas.List.{map-append}
use Rattle.std.proofs.lemmas.List.Elements.{filter-append}
use Rattle.slot_core.specs.declared.jobs.Key.{Key}
use Rattle.slot_core.specs.declared.jobs.Key.TheVariants.{Soft as SoftKey}
use Rattle.slot_core.specs.declared.jobs.SoftJob.{SoftJob}
use Rattle.slot_core.specs.declared.events.Ran.{Ran}
use Rattle.slot_core.specs.declared.events.Ran.TheVariants.{Idle as RanIdle, Key as RanKey}
use Rattle.slot_core.specs.declared.events.What.TheVariants.{Run}
use Rattle.slot_core.specs.Runs.Histories.{History, executed, is_freed, soft_jobs}
use Rattle.slot_core.specs.Runs.Scenes.{soft_has_ended, soft_with_left, waiting_soft}
use Rattle.slot_core.specs.Runs.Traces.{told_of_slot}
use Rattle.scene_steps.specs.Steps.{soft_after_run, soft_after_slot}

-- the soft jobs of a list that have not ended, with their slots left
abbrev pub waiting : History → List SoftJob → List SoftJob
waiting h jobs = map (soft_with_left h) (filter (λ s. not (soft_has_ended h s)) jobs)

-- the soft jobs after a run, one job at a time
soft_after_run-cons : (key : Key) (h : History) (soft : SoftJob) (jobs : List SoftJob) → soft_after_run key (waiting h jobs) ≡ waiting (Run key ∷ h) jobs → soft_after_run key (waiting h (soft ∷ jobs)) ≡ waiting (Run key ∷ h) (soft ∷ jobs)
soft_after_run-cons key h soft jobs more = grind (arith, nat_tests)

-- the soft jobs that wait after a run are those before it after the run
soft_after_run-waiting : (key : Key) (h : History) (jobs : List SoftJob) → soft_after_run key (waiting h jobs) ≡ waiting (Run key ∷ h) jobs
soft_after_run-waiting key h [] = refl
soft_after_run-waiting key h (soft ∷ jobs) = soft_after_run-cons key h soft jobs (soft_after_run-waiting key h jobs)

-- so a slot changes the soft jobs that wait
pub waiting-slot : (ran : Ran) (h : History) → soft_after_slot ran (waiting_soft h) ≡ waiting_soft (told_of_slot ran ∷ h)
waiting-slot RanIdle h = refl
waiting-slot (RanKey key) h = soft_after_run-waiting key h (soft_jobs h)

-- a soft job that has not run and has a slot waits behind the others with all its slots
pub waiting-push : (h : History) (soft : SoftJob) (jobs : List SoftJob) → executed (SoftKey soft.row) h ≡ 0 → is_freed (SoftKey soft.row) h ≡ false → 1 ≤ soft.declared → soft.left ≡ soft.declared → waiting h (jobs ++ soft ∷ []) ≡ waiting h jobs ++ soft ∷ []
waiting-push h soft jobs none kept some whole =
    ap (map (soft_with_left h)) (filter-append (λ s. not (soft_has_ended h s)) jobs (soft ∷ []))
    ∙ map-append (soft_with_left h) (filter (λ s. not (soft_has_ended h s)) jobs) (filter (λ s. not (soft_has_ended h s)) (soft ∷ []))
    ∙ ap (λ ss. waiting h jobs ++ ss) alone
  where
    alone : waiting h (soft ∷ []) ≡ soft ∷ []
    alone =
        let runs = or_from (nat_le soft.declared (executed (SoftKey soft.row) h)) (is_freed (SoftKey soft.row) h) (lt-leb soft.declared (executed (SoftKey soft.row) h) (omega arith)) kept in
        let left : soft.declared - executed (SoftKey soft.row) h ≡ soft.left = omega arith in
        ap (λ b. map (soft_with_left h) (cond (not b) (soft ∷ []) [])) runs ∙ ap (λ n. record soft { left = n } ∷ []) left

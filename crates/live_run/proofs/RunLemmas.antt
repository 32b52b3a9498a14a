-- How want of memory, and faulty words, are told.
use Rattle.std.proofs.Common.{◌≡◌, ℕ, List, [], ◌∷◌, ◌++◌, Option, true, false, inl, inr, refl, ap, ◌∙◌, subst}
use Rattle.command_line.specs.declared.refusal.Refusal.TheVariants.{Memory}
use Rattle.command_line.specs.declared.status.Status.{Status}
use Rattle.command_line.specs.Reports.{IsTold}
use Rattle.live_run.specs.declared.refusal.LiveRefusal.{LiveRefusal}
use Rattle.live_run.specs.declared.refusal.LiveRefusal.TheVariants.{Run, Usage}
use Rattle.live_run.specs.Refusals.{live_line, live_status, live_usage}
use Rattle.live_run.specs.Runs.{IsStatusTold}

-- want of memory is told alike whatever the names
pub memory-named : (words names : List (List ℕ)) (before after : Option (List ℕ)) (faults_before faults_after : ℕ) (status : Status) → IsStatusTold words [] (Run Memory) before after faults_before faults_after status → IsStatusTold words names (Run Memory) before after faults_before faults_after status
memory-named words names before after faults_before faults_after status told =
    let is : told.0 ≡ Run Memory = elim told.2.kept [
      | inl kept ↦ kept
      | inr memory ↦ memory.0
    ] in (
      Run Memory,
      told.1 ∙ ap live_status is,
      record {
        kept = inl refl;
        told = subst (λ (r : LiveRefusal). IsTold (live_line words [] r) before after faults_before faults_after) is told.2.told;
      },
    )

-- faulty words are told by the usage line
pub usage-told : (words names : List (List ℕ)) (before after : Option (List ℕ)) (faults_before faults_after : ℕ) (status : Status) → IsStatusTold words names Usage before after faults_before faults_after status → IsTold (live_usage ++ 10 ∷ []) before after faults_before faults_after
usage-told words names before after faults_before faults_after status told =
    let is : told.0 ≡ Usage = elim told.2.kept [
      | inl kept ↦ kept
      | inr memory ↦ (let no : true ≡ false = memory.1 in cc no)
    ] in
    subst (λ (r : LiveRefusal). IsTold (live_line words names r) before after faults_before faults_after) is told.2.told

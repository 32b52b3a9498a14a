-- What a run says of a set that does not fit means slot schedules.
use Rattle.std.proofs.Common.{◌≡◌, ℕ, List, Option, Err, sym, ◌∙◌}
use Rattle.slot_core.specs.declared.jobs.Window.{Window}
use Rattle.slot_core.specs.declared.tasks.TaskSet.{TaskSet}
use Rattle.slot_io.specs.Files.{Held}
use Rattle.demand_test.proofs.Schedules.{unserved-from_some}
use Rattle.command_line.specs.declared.refusal.Refusal.{Refusal}
use Rattle.command_line.specs.Refusals.{Outcome, refusal_line}
use Rattle.command_line.specs.Reports.{IsTold}
use Rattle.slot_cli.specs.Due.{expected}
use Rattle.slot_cli.specs.Verdicts.{IsInfeasibleRun}
use Rattle.run_steps.proofs.RefusedSets.{IsRefused}

-- a run that tells the refusal that is due shows that the set has no schedule
pub IsInfeasibleRun-refused : (words : List (List ℕ)) (held : Held) (made : Outcome TaskSet) (refusal : Refusal) (window : Window) (before after : Option (List ℕ)) (faults_before faults_after : ℕ) → IsRefused made window → expected held words ≡ Err refusal → IsTold (refusal_line words refusal) before after faults_before faults_after → IsInfeasibleRun words held made refusal window before after faults_before faults_after
IsInfeasibleRun-refused words held made refusal window before after faults_before faults_after refused due told =
    let none = unserved-from_some refused.set window refused.sound refused.found in
    record {
      set = refused.set;
      writes = refused.writes;
      due = due;
      told = told;
      fails = none.0;
      shown = none.1;
    }

-- of two refusals that are due the one is the other
pub same_refusal : (due : Outcome (List ℕ)) (a b : Refusal) → due ≡ Err a → due ≡ Err b → a ≡ b
same_refusal due a b is is_too = let same : (let o : Outcome (List ℕ) = Err a in o) ≡ Err b = sym is ∙ is_too in cc

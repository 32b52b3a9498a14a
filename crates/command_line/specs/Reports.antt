-- What standard error is told.
use Rattle.std.specs.Prelude.{◌≡◌, ◌⊎◌, ℕ, List, Option, false}
use Rattle.std.specs.Io.KnownBytes.{Appends}
use Rattle.slot_core.specs.Calls.Counts.{Rose}
use Rattle.slot_io.specs.Sinks.{AppendsPart}
use Rattle.command_line.specs.declared.refusal.Refusal.{Refusal}
use Rattle.command_line.specs.declared.refusal.Refusal.TheVariants.{Memory}
use Rattle.command_line.specs.Refusals.{refusal_line, has_fixed_line}

-- a line is written, or a part of it where a fault is counted
abbrev pub IsTold : List ℕ → Option (List ℕ) → Option (List ℕ) → ℕ → ℕ → Type 0
IsTold line before after faults_before faults_after =
    Appends before after line ⊎ (AppendsPart before after line × Rose faults_before faults_after)

-- how a refusal is reported: what it becomes, and what standard error is told
pub record IsReport (words : List (List ℕ)) (refusal reported : Refusal)
    (before after : Option (List ℕ)) (faults_before faults_after : ℕ) : Type 0 where
  -- it stays, or is want of memory for a line with values
  pub kept : (reported ≡ refusal) ⊎ ((reported ≡ Memory) × (has_fixed_line refusal ≡ false))
  -- the line of what it becomes is told
  pub told : IsTold (refusal_line words reported) before after faults_before faults_after

-- What a run that is done has shown of a recorded trace, and that what is replayed is verified.
use Rattle.std.specs.Prelude.{◌≡◌, ℕ, ◌≤◌, List, [], ◌∷◌, length, codes, Some, Ok}
use Rattle.std.specs.FinMap.{get}
use Rattle.slot_core.specs.declared.TheConstants.{READ_LIMIT}
use Rattle.slot_core.specs.declared.events.Arrival.{Arrival}
use Rattle.slot_core.specs.declared.events.Entry.{Entry}
use Rattle.slot_core.specs.Claims.Lawful.{IsLawfulTrace}
use Rattle.slot_core.specs.Claims.Service.{IsServed, IsOrdered}
use Rattle.slot_core.specs.Keeping.Plans.{PlanParts}
use Rattle.slot_core.specs.Output.Texts.{trace_text}
use Rattle.slot_core.specs.Runs.Traces.{history_of}
use Rattle.slot_io.specs.Files.{Held}
use Rattle.command_line.specs.declared.file.File.TheVariants.{Trace as TraceFile}
use Rattle.command_line.specs.declared.commands.Command.{Command}
use Rattle.command_line.specs.Commands.{command_of, slots_of}
use Rattle.plan_reports.specs.Lines.{verified_line}
use Rattle.run_steps.specs.Readings.{bytes_of}
use Rattle.slot_cli.specs.Due.{arrivals_for, expected, plan_of_run}

-- the trace file of a command holds the text of a lawful trace, which is served and ordered
pub record IsVerified (words : List (List ℕ)) (held : Held) (command : Command) : Type 0 where
  -- the plan that the files call for
  pub plan : PlanParts
  pub planned : plan_of_run held words ≡ Ok plan
  -- the arrivals that they call for
  pub arrivals : List Arrival
  pub gathered : arrivals_for held words command plan.tasks ≡ Ok arrivals
  -- the entries of a lawful trace of them, over the slots of the command
  pub entries : List Entry
  pub lawful : IsLawfulTrace plan.tasks arrivals (slots_of command) entries
  -- the bytes of the trace file are their text
  pub recorded : bytes_of held words TraceFile ≡ Ok (trace_text plan.tasks entries)
  -- in it every admitted job is served, after its predecessors
  pub served : IsServed plan.tasks plan.cycle (history_of entries)
  pub ordered : IsOrdered plan.tasks plan.cycle (history_of entries)

-- the words call for the line of a recorded trace that is verified
pub record CallsForVerified (words : List (List ℕ)) (held : Held) : Type 0 where
  -- their command
  pub command : Command
  pub asked : command_of words ≡ Some command
  -- the trace file holds the text of a lawful trace
  pub verified : IsVerified words held command
  -- what is due is the line that tells of its slots and its arrivals
  pub due : expected held words ≡ Ok (verified_line (slots_of command) (length verified.arrivals))

-- where `replay T A N` writes this text, files that hold it under X, and the same under T and A,
-- call for the line of a verified trace at `verify T A X N`
abbrev pub AReplayedTraceIsVerified : Type 0
AReplayedTraceIsVerified =
    (before after : Held) (t a x n text : List ℕ)
    → expected before (codes "replay" ∷ t ∷ a ∷ n ∷ []) ≡ Ok text
    → get after t ≡ get before t → get after a ≡ get before a
    → get after x ≡ Some text → length text ≤ READ_LIMIT
    → CallsForVerified (codes "verify" ∷ t ∷ a ∷ x ∷ n ∷ []) after

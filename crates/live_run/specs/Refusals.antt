-- How a live run comes out: done, or refused, with a status and the line that tells why.
use Rattle.std.specs.Prelude.{ℕ, Bool, true, false, List, [], ◌∷◌, ◌++◌, codes, Result}
use Rattle.live_run.specs.declared.streams.DialogueFault.{DialogueFault}
use Rattle.live_run.specs.declared.streams.DialogueFault.TheVariants.{Input, Record, Output}
use Rattle.command_line.specs.declared.refusal.Refusal.TheVariants.{WriteFault as OutputFault}
use Rattle.command_line.specs.declared.status.Status.{Status}
use Rattle.command_line.specs.Refusals.{has_fixed_line, reason_of, refusal_status}
use Rattle.live_run.specs.declared.refusal.LiveRefusal.{LiveRefusal}
use Rattle.live_run.specs.declared.refusal.LiveRefusal.TheVariants.{Usage, Run, Unmade, Unrecorded, Unheard}
use Rattle.live_run.specs.Calls.{record_name}

-- how a live run, or a step of it, comes out
abbrev pub LiveOutcome : Type 0 → Type 0
LiveOutcome X = Result X LiveRefusal

-- the refusal where a dialogue ends early
abbrev pub of_dialogue : DialogueFault → LiveRefusal
of_dialogue Input = Unheard
of_dialogue Record = Unrecorded
of_dialogue Output = Run OutputFault

-- the status of a refusal
abbrev pub live_status : LiveRefusal → Status
live_status Usage = Status.Usage
live_status (Run refusal) = refusal_status refusal
live_status Unmade = Status.WriteFault
live_status Unrecorded = Status.WriteFault
live_status Unheard = Status.FileFault

-- the usage
abbrev pub live_usage : List ℕ
live_usage = codes "usage: slotlive T [--record FILE], slotlive --table B [--record FILE]"

-- why the run is refused, by its words and those of the plan, without the line feed
abbrev pub live_reason : List (List ℕ) → List (List ℕ) → LiveRefusal → List ℕ
live_reason words names Usage = live_usage
live_reason words names (Run refusal) = reason_of names refusal
live_reason words names Unmade = codes "cannot write " ++ record_name words
live_reason words names Unrecorded = codes "cannot write " ++ record_name words
live_reason words names Unheard = codes "cannot read standard input"

-- the line of the refusal tells no value, so that it takes no memory
abbrev pub is_fixed : LiveRefusal → Bool
is_fixed Usage = true
is_fixed (Run refusal) = has_fixed_line refusal
is_fixed Unmade = false
is_fixed Unrecorded = false
is_fixed Unheard = true

-- the line of a refusal
abbrev pub live_line : List (List ℕ) → List (List ℕ) → LiveRefusal → List ℕ
live_line words names refusal = live_reason words names refusal ++ 10 ∷ []

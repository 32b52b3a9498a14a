-- A written table replays as the task file that it was made from.
use Rattle.std.proofs.Common.{◌≡◌, inr, ℕ, ◌+◌, ◌≤◌, Bool, true, false, List, [], ◌∷◌, length, take, Option, None, Some, Ok, Err, refl, sym, ap, ◌∙◌, arith}
use Rattle.std.specs.Prelude.{codes, nat_lt, option_map, if◌then◌else◌}
use Rattle.std.specs.FinMap.{get}
use Rattle.std.specs.Option.{option_map_or}
use Rattle.std.specs.Result.{result_map_both}
use Rattle.std.proofs.lemmas.Bool.{le-ltb}
use Rattle.std.proofs.lemmas.List.{take_all}
use Rattle.slot_core.specs.Calls.Results.{◌>>=◌}
use Rattle.slot_core.specs.declared.TheConstants.{REPLAY_LIMIT, TABLE_FILE_LIMIT}
use Rattle.slot_core.specs.declared.events.Arrival.{Arrival}
use Rattle.slot_core.specs.declared.tasks.TaskSet.{TaskSet}
use Rattle.slot_core.specs.Keeping.Plans.{PlanParts, IsPlan}
use Rattle.slot_io.specs.Files.{Held}
use Rattle.table_codec.specs.Grammar.{Spells, spelling}
use Rattle.table_codec.proofs.Lengths.{length-spelled}
use Rattle.table_codec.proofs.TableLaws.{reading-from_spelled}
use Rattle.command_line.specs.declared.file.File.TheVariants.{Table as TableFile, Arrivals as ArrivalsFile}
use Rattle.command_line.specs.declared.refusal.Refusal.TheVariants.{Unreadable, TooLarge, BadTable}
use Rattle.command_line.specs.Refusals.{Outcome, limit_of}
use Rattle.command_line.specs.declared.commands.Arrivals.TheVariants.{Recorded}
use Rattle.command_line.specs.declared.commands.Command.{Command}
use Rattle.command_line.specs.declared.commands.Output.TheVariants.{OfRun}
use Rattle.command_line.specs.declared.commands.RunOutput.TheVariants.{Trace}
use Rattle.command_line.specs.declared.commands.Check.TheVariants.{Unchecked}
use Rattle.command_line.specs.declared.commands.Second.TheVariants.{Unread}
use Rattle.command_line.specs.declared.commands.Source.{Source}
use Rattle.command_line.specs.declared.commands.Source.TheVariants.{Tasks, Spelled}
use Rattle.command_line.specs.Commands.{number_up_to, over_slots}
use Rattle.command_line.specs.Writings.{Writing, in_whole, whole_of}
use Rattle.run_steps.specs.Readings.{limited_bytes, bytes_of, spelled_plan, fitting_arrivals, recorded_arrivals, plan_from}
use Rattle.slot_cli.specs.Due.{writing_of, due_of, expected}
use Rattle.slot_cli.specs.Tables.{AWrittenTableReplaysTheSame, EachSpellingReplaysTheSame}
use Rattle.run_steps.proofs.SourcePlans.{IsPlan-from}
use Rattle.slot_cli.proofs.NamedFiles.{words_of_table, words_of_replay, words_of_replay_table, read-whole, arrivals_read}
use Rattle.slot_cli.proofs.TextStages.{writing_after, writing_with}
use Rattle.run_steps.proofs.StepLemmas.{bind_Ok}

-- the command that writes the trace of so many slots with recorded arrivals
abbrev trace_of : Source → ℕ → Command
trace_of source slots =
    record { source = source; second = Unread; arrivals = Recorded slots; check = Unchecked; output = OfRun Trace }

-- what a table is written of
written-of : (made : Outcome PlanParts) (bytes : List ℕ) → (made >>= (λ plan. let o : Outcome Writing = Ok (in_whole (spelling plan)) in o) >>= whole_of) ≡ Ok bytes → (plan : PlanParts) × (made ≡ Ok plan) × (bytes ≡ spelling plan)
written-of (Ok plan) bytes is = (plan, refl, cc)
written-of (Err refusal) bytes is = cc

table-written : (before : Held) (t bytes : List ℕ) → expected before (words_of_table t) ≡ Ok bytes → (plan : PlanParts) × (plan_from before (words_of_table t) Tasks ≡ Ok plan) × (bytes ≡ spelling plan)
table-written before t bytes is = written-of (plan_from before (words_of_table t) Tasks) bytes is

-- the plan that is read of the table
plan-spelled : (after : Held) (b a n bytes : List ℕ) (plan : PlanParts) → get after b ≡ Some bytes → IsPlan plan → Spells bytes plan → plan_from after (words_of_replay_table b a n) Spelled ≡ Ok plan
plan-spelled after b a n bytes plan held is_plan spells =
    let short = length-spelled bytes plan is_plan spells in
    bind_Ok (bytes_of after (words_of_replay_table b a n) TableFile) spelled_plan bytes (read-whole TableFile bytes (get after b) held short)
    ∙ ap (λ r. result_map_both (λ (p : PlanParts). p) BadTable r) (reading-from_spelled bytes plan is_plan spells)

-- the same arrivals are read
arrivals-same : (before after : Held) (t b a n : List ℕ) (slots : ℕ) (set : TaskSet) → get after a ≡ get before a → recorded_arrivals after (words_of_replay_table b a n) slots set ≡ recorded_arrivals before (words_of_replay t a n) slots set
arrivals-same before after t b a n slots set same =
    ap (λ (o : Option (List ℕ)). arrivals_read o slots set) same

-- what a replay writes is the same where its plan and its arrivals are
writing-same : (before after : Held) (t b a n : List ℕ) (plan : PlanParts) (slots : ℕ) → plan_from before (words_of_replay t a n) Tasks ≡ Ok plan → plan_from after (words_of_replay_table b a n) Spelled ≡ Ok plan → get after a ≡ get before a → writing_of after (words_of_replay_table b a n) (trace_of Spelled slots) ≡ writing_of before (words_of_replay t a n) (trace_of Tasks slots)
writing-same before after t b a n plan slots planned spelled same =
    bind_Ok (plan_from after (words_of_replay_table b a n) Spelled) (writing_after after (words_of_replay_table b a n) (trace_of Spelled slots)) plan spelled
    ∙ ap (λ (o : Outcome (List Arrival)). o >>= writing_with before (words_of_replay t a n) (trace_of Tasks slots) plan None) (arrivals-same before after t b a n slots plan.tasks same)
    ∙ sym (bind_Ok (plan_from before (words_of_replay t a n) Tasks) (writing_after before (words_of_replay t a n) (trace_of Tasks slots)) plan planned)

due-same : (before after : Held) (t b a n : List ℕ) (o : Option ℕ) → ((slots : ℕ) → writing_of after (words_of_replay_table b a n) (trace_of Spelled slots) ≡ writing_of before (words_of_replay t a n) (trace_of Tasks slots)) → due_of after (words_of_replay_table b a n) (over_slots Spelled Trace o) ≡ due_of before (words_of_replay t a n) (over_slots Tasks Trace o)
due-same before after t b a n None each = refl
due-same before after t b a n (Some slots) each = ap (λ (o : Outcome Writing). o >>= whole_of) (each slots)

-- a table that spells the plan of T replays as T
pub each_spelling_replays : EachSpellingReplaysTheSame
each_spelling_replays before after t b a n bytes plan planned spells held same =
    let is_plan = IsPlan-from before (words_of_table t) Tasks plan tt planned in
    let spelled = plan-spelled after b a n bytes plan held is_plan spells in
    due-same before after t b a n (number_up_to REPLAY_LIMIT n) (λ slots. writing-same before after t b a n plan slots planned spelled same)

pub written_table_replays : AWrittenTableReplaysTheSame
written_table_replays before after t b a n bytes written held same =
    let (plan, planned, is) = table-written before t bytes written in
    each_spelling_replays before after t b a n bytes plan planned (inr is) held same

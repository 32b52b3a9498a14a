-- A run that is done has verified the recorded trace that it was asked to, and what is replayed is verified.
use Rattle.std.proofs.Common.{◌≡◌, ℕ, ◌+◌, ◌≤◌, Bool, true, false, List, [], ◌∷◌, length, take, Option, None, Some, Result, Ok, Err, refl, sym, ap, subst, ◌∙◌, arith}
use Rattle.std.specs.Prelude.{codes, nat_lt, option_map, if◌then◌else◌, ⊤}
use Rattle.std.specs.FinMap.{get}
use Rattle.std.specs.Option.{option_map_or}
use Rattle.std.specs.Result.{result_map_both}
use Rattle.std.proofs.lemmas.Bool.{le-ltb}
use Rattle.std.proofs.lemmas.List.{take_all}
use Rattle.slot_core.specs.Calls.Results.{◌>>=◌}
use Rattle.slot_core.specs.declared.TheConstants.{REPLAY_LIMIT, READ_LIMIT}
use Rattle.slot_core.specs.declared.events.Arrival.{Arrival}
use Rattle.slot_core.specs.declared.events.Entry.{Entry}
use Rattle.slot_core.specs.declared.tasks.TaskSet.{TaskSet}
use Rattle.slot_core.specs.Claims.Lawful.{IsLawfulTrace}
use Rattle.slot_core.specs.Claims.Service.{IsServed, IsOrdered}
use Rattle.slot_core.specs.Feasibility.Feasible.{IsFeasible}
use Rattle.slot_core.specs.Keeping.Plans.{PlanParts, IsPlan}
use Rattle.slot_core.specs.Output.Texts.{trace_text}
use Rattle.slot_core.specs.Runs.Arrivals.{are_fitting}
use Rattle.slot_core.specs.Runs.Traces.{history_of, trace}
use Rattle.slot_io.specs.Files.{Held}
use Rattle.slot_facts.proofs.Lawful.Served.{every_lawful_trace_is_served}
use Rattle.slot_facts.proofs.Lawful.Traces.{every_trace_is_lawful}
use Rattle.trace_verify.specs.Verdicts.{verdict}
use Rattle.trace_verify.proofs.FromVerdict.{lawful-from_verdict}
use Rattle.trace_verify.proofs.ToVerdict.{verdict-from_lawful}
use Rattle.plan_reports.specs.Lines.{verified_line}
use Rattle.command_line.specs.declared.file.File.TheVariants.{Tasks as TaskFile, Arrivals as ArrivalsFile, Trace as TraceFile}
use Rattle.command_line.specs.declared.refusal.Refusal.{Refusal}
use Rattle.command_line.specs.declared.refusal.Refusal.TheVariants.{Unreadable, TooLarge}
use Rattle.command_line.specs.Refusals.{Outcome, limit_of}
use Rattle.command_line.specs.Writings.{Writing, in_whole, whole_of}
use Rattle.command_line.specs.declared.commands.Arrivals.TheVariants.{Recorded}
use Rattle.command_line.specs.declared.commands.Check.{Check}
use Rattle.command_line.specs.declared.commands.Check.TheVariants.{Unchecked, Verified}
use Rattle.command_line.specs.declared.commands.Command.{Command}
use Rattle.command_line.specs.declared.commands.Output.TheVariants.{OfPlan, OfRun}
use Rattle.command_line.specs.declared.commands.PlanOutput.TheVariants.{Lines}
use Rattle.command_line.specs.declared.commands.RunOutput.TheVariants.{Trace}
use Rattle.command_line.specs.declared.commands.Second.TheVariants.{Unread}
use Rattle.command_line.specs.declared.commands.Source.TheVariants.{Tasks}
use Rattle.command_line.specs.Commands.{command_of, number_up_to, of_trace, over_slots, slots_of}
use Rattle.command_line.proofs.CommandLemmas.{in_range-command}
use Rattle.run_steps.specs.Readings.{arrivals_from, bytes_of, check_from, fitting_arrivals, lawful_trace, limited_bytes, plan_from, planned_plan, second_from}
use Rattle.run_steps.proofs.StepLemmas.{bind_Ok}
use Rattle.slot_cli.specs.Due.{arrivals_for, check_for, due_of, expected, writing_for, writing_of}
use Rattle.slot_cli.specs.Recordings.{AReplayedTraceIsVerified, CallsForVerified, IsVerified}
use Rattle.slot_cli.proofs.NamedFiles.{words_of_replay, words_of_verify, read_of, read-whole, arrivals_read}
use Rattle.slot_cli.proofs.PrintedRuns.{first-step, plan_of_run-asked}
use Rattle.slot_cli.proofs.RunPlans.{fitting-run}
use Rattle.slot_cli.proofs.TextStages.{writing_after, writing_beside, writing_when, writing_with}
use Rattle.slot_cli.proofs.WorkLemmas.{writing-is_due}

-- ---- a run that verifies

-- a verdict that is told is Ok
verdict-told : {E : Type 0} (r : Result ⊤ E) (refuse : E → Refusal) → result_map_both (λ (lawful : ⊤). lawful) refuse r ≡ Ok tt → r ≡ Ok tt
verdict-told (Ok lawful) refuse is = refl
verdict-told (Err e) refuse is = cc

-- bytes that are verified are those of a lawful trace of the plan
lawful-bytes : (plan : PlanParts) (arrivals : List Arrival) (slots : ℕ) (bytes : List ℕ) → IsPlan plan → lawful_trace bytes slots plan arrivals ≡ Ok tt → (entries : List Entry) × IsLawfulTrace plan.tasks arrivals slots entries × (bytes ≡ trace_text plan.tasks entries)
lawful-bytes plan arrivals slots bytes is_plan checked =
    let told = verdict-told (verdict plan.tasks plan.cycle arrivals slots bytes) _ checked in
    lawful-from_verdict plan.tasks arrivals slots bytes (subst (λ (cycle : ℕ). verdict plan.tasks cycle arrivals slots bytes ≡ Ok tt) is_plan.cycle told)

-- a lawful trace of the plan is served and ordered
served-lawful : (plan : PlanParts) (arrivals : List Arrival) (slots : ℕ) (entries : List Entry) → IsPlan plan → are_fitting plan.tasks slots arrivals ≡ true → IsLawfulTrace plan.tasks arrivals slots entries → IsServed plan.tasks plan.cycle (history_of entries) × IsOrdered plan.tasks plan.cycle (history_of entries)
served-lawful plan arrivals slots entries is_plan fits lawful =
    let set = plan.tasks in
    let P : ℕ → Type 0 = λ cycle. IsServed set cycle (history_of entries) × IsOrdered set cycle (history_of entries) in
    subst P (sym is_plan.cycle) (every_lawful_trace_is_served set arrivals slots entries is_plan.sound (subst (IsFeasible set) is_plan.cycle is_plan.feasible) fits lawful)

-- what stands in the trace file of a command that verifies it
trace-recorded : (held : Held) (words : List (List ℕ)) (command : Command) (plan : PlanParts) (arrivals : List Arrival) → command.check ≡ Verified → check_for held words command plan arrivals ≡ Ok tt → (bytes : List ℕ) × (bytes_of held words TraceFile ≡ Ok bytes) × (lawful_trace bytes (slots_of command) plan arrivals ≡ Ok tt)
trace-recorded held words command plan arrivals check checked =
    let P : Check → Type 0 = λ c. check_from held words c (slots_of command) plan arrivals ≡ Ok tt in
    first-step (bytes_of held words TraceFile) (λ bytes. lawful_trace bytes (slots_of command) plan arrivals) tt (subst P check checked)

-- where what is due is a text the trace file is verified
pub IsVerified-due : (words : List (List ℕ)) (held : Held) (command : Command) (text : List ℕ) → command_of words ≡ Some command → command.check ≡ Verified → expected held words ≡ Ok text → IsVerified words held command
IsVerified-due words held command text asked check due =
    let (writing, written, whole) = first-step (writing_for held words (command_of words)) whole_of text due in
    let told = subst (λ (o : Option Command). writing_for held words o ≡ Ok writing) asked written in
    let (plan, from, later) = first-step (plan_from held words command.source) (writing_after held words command) writing told in
    let (second, seconded, last) = first-step (second_from held words command.second) (writing_beside held words command plan) writing later in
    let (arrivals, gathered, rest) = first-step (arrivals_for held words command plan.tasks) (writing_with held words command plan second) writing last in
    let (checked, is_checked, same) = first-step (check_for held words command plan arrivals) (writing_when command plan second arrivals) writing rest in
    let planned = plan_of_run-asked held words command plan asked from in
    let (is_plan, fits) = fitting-run held words command plan arrivals asked planned gathered in
    let (bytes, read, verified) = trace-recorded held words command plan arrivals check is_checked in
    let (entries, lawful, is_text) = lawful-bytes plan arrivals (slots_of command) bytes is_plan verified in
    let served = served-lawful plan arrivals (slots_of command) entries is_plan fits lawful in
    record {
      plan = plan;
      planned = planned;
      arrivals = arrivals;
      gathered = gathered;
      entries = entries;
      lawful = lawful;
      recorded = read ∙ ap (λ (bs : List ℕ). Ok bs) is_text;
      served = served.0;
      ordered = served.1;
    }

-- ---- what is replayed is verified

-- the command that replays so many slots, and the one that verifies their trace
abbrev replay_of : ℕ → Command
replay_of slots =
    record { source = Tasks; second = Unread; arrivals = Recorded slots; check = Unchecked; output = OfRun Trace }

abbrev verify_of : ℕ → Command
verify_of slots =
    record { source = Tasks; second = Unread; arrivals = Recorded slots; check = Verified; output = OfPlan Lines }

-- what a replay is due is the text of the trace of a plan and arrivals
pub record IsReplayed (held : Held) (words : List (List ℕ)) (slots : ℕ) (text : List ℕ) : Type 0 where
  pub plan : PlanParts
  pub from : plan_from held words Tasks ≡ Ok plan
  pub arrivals : List Arrival
  pub gathered : arrivals_from held words (Recorded slots) plan.tasks ≡ Ok arrivals
  pub is_text : text ≡ trace_text plan.tasks (trace plan.tasks arrivals slots)

text-whole : (text told : List ℕ) (w : Writing) → (let o : Outcome Writing = Ok (in_whole told) in o) ≡ Ok w → whole_of w ≡ Ok text → text ≡ told
text-whole text told w same whole = let is : in_whole told ≡ w = cc in let given : whole_of (in_whole told) ≡ Ok text = ap whole_of is ∙ whole in cc

replayed-due : (held : Held) (words : List (List ℕ)) (slots : ℕ) (text : List ℕ) → due_of held words (Some (replay_of slots)) ≡ Ok text → IsReplayed held words slots text
replayed-due held words slots text due =
    let command = replay_of slots in
    let (writing, told, whole) = first-step (writing_of held words command) whole_of text due in
    let (plan, from, later) = first-step (plan_from held words Tasks) (writing_after held words command) writing told in
    let (arrivals, gathered, same) = first-step (arrivals_for held words command plan.tasks) (writing_with held words command plan None) writing later in
    record {
      plan = plan;
      from = from;
      arrivals = arrivals;
      gathered = gathered;
      is_text = text-whole text (trace_text plan.tasks (trace plan.tasks arrivals slots)) writing same whole;
    }

-- the same plan and the same arrivals are read
plan-same : (before after : Held) (t a x n : List ℕ) → get after t ≡ get before t → plan_from after (words_of_verify t a x n) Tasks ≡ plan_from before (words_of_replay t a n) Tasks
plan-same before after t a x n same =
    ap (λ (o : Option (List ℕ)). read_of TaskFile o >>= planned_plan) same

arrivals-same : (before after : Held) (t a x n : List ℕ) (slots : ℕ) (set : TaskSet) → get after a ≡ get before a → arrivals_from after (words_of_verify t a x n) (Recorded slots) set ≡ arrivals_from before (words_of_replay t a n) (Recorded slots) set
arrivals-same before after t a x n slots set same =
    ap (λ (o : Option (List ℕ)). arrivals_read o slots set) same

-- a short trace file is read whole
trace-read : (held : Held) (t a x n text : List ℕ) → get held x ≡ Some text → length text ≤ READ_LIMIT → bytes_of held (words_of_verify t a x n) TraceFile ≡ Ok text
trace-read held t a x n text is short = read-whole TraceFile text (get held x) is short

-- the trace of a plan is lawful, and its text is verified
lawful-own : (plan : PlanParts) (arrivals : List Arrival) (slots : ℕ) → IsPlan plan → are_fitting plan.tasks slots arrivals ≡ true → IsLawfulTrace plan.tasks arrivals slots (trace plan.tasks arrivals slots)
lawful-own plan arrivals slots is_plan fits =
    every_trace_is_lawful plan.tasks arrivals slots is_plan.sound (subst (IsFeasible plan.tasks) is_plan.cycle is_plan.feasible) fits

verified-own : (plan : PlanParts) (arrivals : List Arrival) (slots : ℕ) (text : List ℕ) → IsPlan plan → slots ≤ REPLAY_LIMIT → are_fitting plan.tasks slots arrivals ≡ true → text ≡ trace_text plan.tasks (trace plan.tasks arrivals slots) → lawful_trace text slots plan arrivals ≡ Ok tt
verified-own plan arrivals slots text is_plan few fits is_text =
    let set = plan.tasks in
    let exact = verdict-from_lawful set arrivals slots text is_plan.sound few fits (trace set arrivals slots, lawful-own plan arrivals slots is_plan fits, is_text) in
    let told : verdict set plan.cycle arrivals slots text ≡ Ok tt = subst (λ (cycle : ℕ). verdict set cycle arrivals slots text ≡ Ok tt) (sym is_plan.cycle) exact in
    ap (result_map_both _ _) told

-- what is due of a command whose plan, arrivals and check are known
due-verified : (held : Held) (words : List (List ℕ)) (slots : ℕ) (plan : PlanParts) (arrivals : List Arrival) → command_of words ≡ Some (verify_of slots) → plan_from held words Tasks ≡ Ok plan → arrivals_for held words (verify_of slots) plan.tasks ≡ Ok arrivals → check_for held words (verify_of slots) plan arrivals ≡ Ok tt → expected held words ≡ Ok (verified_line slots (length arrivals))
due-verified held words slots plan arrivals asked from gathered checked =
    ap (due_of held words) asked
    ∙ bind_Ok (writing_of held words (verify_of slots)) whole_of (in_whole (verified_line slots (length arrivals))) (writing-is_due held words (verify_of slots) plan None arrivals from refl gathered checked)

-- files that hold a replayed text call for the line of it
calls-replayed : (before after : Held) (t a x n text : List ℕ) (slots : ℕ) → number_up_to REPLAY_LIMIT n ≡ Some slots → IsReplayed before (words_of_replay t a n) slots text → get after t ≡ get before t → get after a ≡ get before a → get after x ≡ Some text → length text ≤ READ_LIMIT → CallsForVerified (words_of_verify t a x n) after
calls-replayed before after t a x n text slots number replayed same_t same_a held short =
    let words = words_of_verify t a x n in
    let command = verify_of slots in
    let plan = replayed.plan in
    let arrivals = replayed.arrivals in
    let asked : command_of words ≡ Some command = ap of_trace number in
    let from = plan-same before after t a x n same_t ∙ replayed.from in
    let gathered = arrivals-same before after t a x n slots plan.tasks same_a ∙ replayed.gathered in
    let planned = plan_of_run-asked after words command plan asked from in
    let (is_plan, fits) = fitting-run after words command plan arrivals asked planned gathered in
    let few : slots ≤ REPLAY_LIMIT = (in_range-command words command asked).arrivals.1 in
    let read = trace-read after t a x n text held short in
    let lawful = lawful-own plan arrivals slots is_plan fits in
    let checked = bind_Ok (bytes_of after words TraceFile) (λ bytes. lawful_trace bytes slots plan arrivals) text read ∙ verified-own plan arrivals slots text is_plan few fits replayed.is_text in
    let served = served-lawful plan arrivals slots (trace plan.tasks arrivals slots) is_plan fits lawful in
    record {
      command = command;
      asked = asked;
      verified = record {
        plan = plan;
        planned = planned;
        arrivals = arrivals;
        gathered = gathered;
        entries = trace plan.tasks arrivals slots;
        lawful = lawful;
        recorded = read ∙ ap (λ (bs : List ℕ). Ok bs) replayed.is_text;
        served = served.0;
        ordered = served.1;
      };
      due = due-verified after words slots plan arrivals asked from gathered checked;
    }

-- the number of slots that a replay writes
slots-written : (held : Held) (words : List (List ℕ)) (o : Option ℕ) (text : List ℕ) → due_of held words (over_slots Tasks Trace o) ≡ Ok text → (slots : ℕ) × (o ≡ Some slots) × IsReplayed held words slots text
slots-written held words None text due = cc
slots-written held words (Some slots) text due = (slots, refl, replayed-due held words slots text due)

pub replayed-is_verified : AReplayedTraceIsVerified
replayed-is_verified before after t a x n text due same_t same_a held short =
    let (slots, number, replayed) = slots-written before (words_of_replay t a n) (number_up_to REPLAY_LIMIT n) text due in
    calls-replayed before after t a x n text slots number replayed same_t same_a held short

-- How the work of a command ends.
use Rattle.std.proofs.Common.{◌≡◌, ◌⊎◌, ℕ, ◌≤◌, Bool, true, false, List, [], ◌++◌, Option, None, Some, Result, Ok, Err, refl, sym, ap, subst, ◌∙◌, inl, inr, arith}
use Rattle.std.specs.Prelude.{not}
use Rattle.std.proofs.KnownBytes.{Appends-nil}
use Rattle.std.specs.Io.KnownBytes.{Appends}
use Rattle.slot_core.specs.Calls.Counts.{Rose}
use Rattle.slot_core.specs.Calls.Results.{◌>>=◌}
use Rattle.slot_core.specs.declared.events.Arrival.{Arrival}
use Rattle.slot_core.specs.declared.jobs.Evidence.{Evidence}
use Rattle.slot_core.specs.Keeping.Plans.{PlanParts}
use Rattle.slot_io.specs.Files.{Held}
use Rattle.slot_io.specs.Sinks.{AppendsPart}
use Rattle.command_line.specs.declared.file.File.{File}
use Rattle.command_line.specs.declared.refusal.Refusal.{Refusal}
use Rattle.command_line.specs.declared.refusal.Refusal.TheVariants.{Usage, Unreadable, TooLarge, BadTasks, Infeasible, BadTable, BadArrivals, NotVerified, BadSecond, SecondInfeasible, NoRow, NotCycleEnd, NoChange, WriteFault, Memory}
use Rattle.command_line.specs.Refusals.{Outcome, is_found}
use Rattle.command_line.specs.Writings.{Writing, IsPut, IsPartWriting, IsWriting, all_after, all_of, in_whole, leaves_output, whole_of}
use Rattle.command_line.specs.declared.commands.Command.{Command}
use Rattle.command_line.specs.Commands.{is_file_of, is_second_of, is_recorded_in, is_verified_in, reads, writes_in_parts}
use Rattle.run_steps.specs.Readings.{plan_from, second_from}
use Rattle.run_steps.specs.Stages.{stage_of, stage_due}
use Rattle.run_steps.specs.Steps.{IsUnreadable, IsOfReading, IsReading}
use Rattle.run_steps.proofs.StageLemmas.{stage-plan_file, stage-second_file, stage-arrivals_file, stage-trace_file}
use Rattle.run_steps.proofs.StepLemmas.{bind_Ok, bind_Err}
use Rattle.slot_cli.specs.Due.{arrivals_for, check_for, due_of, writing_for, writing_from, writing_of}
use Rattle.slot_cli.specs.Runs.{IsHostFault}
use Rattle.slot_cli.specs.Work.{IsWork}
use Rattle.slot_cli.proofs.TextStages.{stage-after, stage-beside, stage-whole, stage-with, stage-writing, writing_after, writing_beside, writing_when, writing_with}

-- a refusal that comes of reading is none of the words and none of the output
not_found : (e other : Refusal) → is_found other ≡ false → is_found e ≡ true → e ≡ other → ⊥
not_found e other apart found is = let same : is_found e ≡ is_found other = ap is_found is in cc

unread_apart : (file : File) (e other : Refusal) → e ≡ Unreadable file → (Unreadable file ≡ other → ⊥) → e ≡ other → ⊥
unread_apart file e other unread apart is = apart (sym unread ∙ is)

not_usage : (may : File → Bool) (e : Refusal) → IsOfReading may e → e ≡ Usage → ⊥
not_usage may e (inl (file, in_may, unread)) is = unread_apart file e Usage unread (λ same. cc) is
not_usage may e (inr (inl memory)) is = cc
not_usage may e (inr (inr found)) is = not_found e Usage refl found is

not_write : (may : File → Bool) (e : Refusal) → IsOfReading may e → e ≡ WriteFault → ⊥
not_write may e (inl (file, in_may, unread)) is = unread_apart file e WriteFault unread (λ same. cc) is
not_write may e (inr (inl memory)) is = cc
not_write may e (inr (inr found)) is = not_found e WriteFault refl found is

not_change : (may : File → Bool) (e : Refusal) (evidence : Evidence) → IsOfReading may e → e ≡ NoChange evidence → ⊥
not_change may e evidence (inl (file, in_may, unread)) is = unread_apart file e (NoChange evidence) unread (λ same. cc) is
not_change may e evidence (inr (inl memory)) is = cc
not_change may e evidence (inr (inr found)) is = not_found e (NoChange evidence) refl found is

Err_of : {X : Type 0} (e other : Refusal) → (let r : Outcome X = Err e in r) ≡ Err other → e ≡ other
Err_of e other is = cc

-- what the reading tells of what is due: its refusal is that, and the stages of its files are
-- reached
pub record IsOnTheWay {X : Type 0} (may : File → Bool) (step : Outcome X) (due : Outcome Writing) : Type 0 where
  pub passes : (e : Refusal) → step ≡ Err e → due ≡ Err e
  pub reached : (file : File) → may file ≡ true → stage_of (Unreadable file) ≤ stage_due due

host_reading : (may : File → Bool) (command : Command) (due : Outcome Writing) (e : Refusal) → ((file : File) → may file ≡ true → reads command file ≡ true) → ((file : File) → may file ≡ true → stage_of (Unreadable file) ≤ stage_due due) → IsUnreadable may e → IsHostFault (Some command) e × (stage_of e ≤ stage_due (due >>= whole_of))
host_reading may command due e read reached (file, in_may, is) =
    let P : Refusal → Type 0 = λ r. IsHostFault (Some command) r × (stage_of r ≤ stage_due (due >>= whole_of)) in subst P (sym is) (read file in_may, omega (arith, reached file in_may, stage-whole due))

-- where a step ends the run, nothing is written
put_of_nothing : (X : Type 0) (e : Refusal) (w : Writing) (o : Option (List ℕ)) → ((evidence : Evidence) → e ≡ NoChange evidence → ⊥) → IsPut {X = X} (Err e) w o o
put_of_nothing X Usage w o apart = refl
put_of_nothing X (Unreadable file) w o apart = refl
put_of_nothing X (TooLarge file) w o apart = refl
put_of_nothing X (BadTasks fault) w o apart = refl
put_of_nothing X (Infeasible window) w o apart = refl
put_of_nothing X (BadTable fault) w o apart = refl
put_of_nothing X (BadArrivals fault) w o apart = refl
put_of_nothing X (NotVerified reason) w o apart = refl
put_of_nothing X (BadSecond fault) w o apart = refl
put_of_nothing X (SecondInfeasible window) w o apart = refl
put_of_nothing X (NoRow row) w o apart = refl
put_of_nothing X (NotCycleEnd cycle) w o apart = refl
put_of_nothing X (NoChange evidence) w o apart = absurd (apart evidence refl)
put_of_nothing X WriteFault w o apart = (0, Appends-nil o)
put_of_nothing X Memory w o apart = inl refl

-- where a reading ends the run so does the work
pub work-refused : {S T A X Y : Type 0} {given : S → Option (List ℕ × ℕ)} (held : S → Option Held) (faults : S → ℕ) (blamed : S → Option (List ℕ)) (written : T → Option (List ℕ)) (failed : T → ℕ) (old new : S) (out : T) (words : List (List ℕ)) (command : Command) (may : File → Bool) (step : Held → Outcome X) (e : Refusal) (view : A → X) → ((file : File) → may file ≡ true → reads command file ≡ true) → ((files : Held) → held old ≡ Some files → IsOnTheWay may (step files) (writing_of files words command)) → IsReading held faults blamed given old new words may step (Err e) view → IsWork {X = Y} held faults blamed given written failed old new out out words (Some command) (Err e)
work-refused {Y = Y} held faults blamed written failed old new out words command may step e view read way reading =
    record {
      answers = λ files told. elim (reading.answers files told) [
        | inl fault ↦ inr (inr (host_reading may command (writing_of files words command) e read (way files told).reached fault))
        | inr (inl memory) ↦ inr (inl memory)
        | inr (inr is) ↦ inl (bind_Err (writing_of files words command) whole_of e ((way files told).passes e is))
      ];
      usage = ((λ is. absurd (not_usage may e reading.refuses (Err_of e Usage is))), (λ none. cc));
      blames = λ file is. let (in_may, rose, name) = reading.blames file (ap Err (Err_of e (Unreadable file) is)) in (read file in_may, rose, name);
      sizes = λ file is. let (in_may, gave) = reading.sizes file (ap Err (Err_of e (TooLarge file) is)) in (read file in_may, gave);
      writes = λ files told w is. put_of_nothing Y e w (written out) (λ evidence. not_change may e evidence reading.refuses);
      early = λ files told other is. refl;
      counts = λ is. absurd (not_write may e reading.refuses (Err_of e WriteFault is));
      reads_well = tt;
      output = λ leaves. refl;
      files = λ is. absurd (not_usage may e reading.refuses (Err_of e Usage is));
    }

-- the way from the plan to what is due
pub way-plan : (files : Held) (words : List (List ℕ)) (command : Command) → IsOnTheWay (is_file_of command.source) (plan_from files words command.source) (writing_of files words command)
way-plan files words command =
    record {
      passes = λ e is. bind_Err (plan_from files words command.source) (writing_after files words command) e is;
      reached = λ file is. omega (arith, stage-plan_file command.source file is, stage-writing files words command);
    }

due-planned : (files : Held) (words : List (List ℕ)) (command : Command) (plan : PlanParts) → plan_from files words command.source ≡ Ok plan → writing_of files words command ≡ writing_after files words command plan
due-planned files words command plan is =
    bind_Ok (plan_from files words command.source) (writing_after files words command) plan is

-- the way from the second plan to what is due, where the plan is
pub way-second : (files : Held) (words : List (List ℕ)) (command : Command) (plan : PlanParts) → plan_from files words command.source ≡ Ok plan → IsOnTheWay (is_second_of command.second) (second_from files words command.second) (writing_of files words command)
way-second files words command plan planned =
    let way : IsOnTheWay (is_second_of command.second) (second_from files words command.second) (writing_after files words command plan) = record {
      passes = λ e is. bind_Err (second_from files words command.second) (writing_beside files words command plan) e is;
      reached = λ file is. omega (arith, stage-second_file command.second file is, stage-after files words command plan);
    } in
    subst (IsOnTheWay (is_second_of command.second) (second_from files words command.second)) (sym (due-planned files words command plan planned)) way

due-seconded : (files : Held) (words : List (List ℕ)) (command : Command) (plan : PlanParts) (second : Option PlanParts) → plan_from files words command.source ≡ Ok plan → second_from files words command.second ≡ Ok second → writing_of files words command ≡ writing_beside files words command plan second
due-seconded files words command plan second planned seconded =
    due-planned files words command plan planned ∙ bind_Ok (second_from files words command.second) (writing_beside files words command plan) second seconded

-- the way from the arrivals to what is due, where both plans are
pub way-arrivals : (files : Held) (words : List (List ℕ)) (command : Command) (plan : PlanParts) (second : Option PlanParts) → plan_from files words command.source ≡ Ok plan → second_from files words command.second ≡ Ok second → IsOnTheWay (is_recorded_in command.arrivals) (arrivals_for files words command plan.tasks) (writing_of files words command)
way-arrivals files words command plan second planned seconded =
    let step = arrivals_for files words command plan.tasks in
    let way : IsOnTheWay (is_recorded_in command.arrivals) step (writing_beside files words command plan second) = record {
      passes = λ e is. bind_Err step (writing_with files words command plan second) e is;
      reached = λ file is. omega (arith, stage-arrivals_file command.arrivals file is, stage-beside files words command plan second);
    } in
    subst (IsOnTheWay (is_recorded_in command.arrivals) step) (sym (due-seconded files words command plan second planned seconded)) way

due-gathered : (files : Held) (words : List (List ℕ)) (command : Command) (plan : PlanParts) (second : Option PlanParts) (arrivals : List Arrival) → plan_from files words command.source ≡ Ok plan → second_from files words command.second ≡ Ok second → arrivals_for files words command plan.tasks ≡ Ok arrivals → writing_of files words command ≡ writing_with files words command plan second arrivals
due-gathered files words command plan second arrivals planned seconded gathered =
    due-seconded files words command plan second planned seconded ∙ bind_Ok (arrivals_for files words command plan.tasks) (writing_with files words command plan second) arrivals gathered

-- the way from the check to what is due, where the plans and the arrivals are
pub way-check : (files : Held) (words : List (List ℕ)) (command : Command) (plan : PlanParts) (second : Option PlanParts) (arrivals : List Arrival) → plan_from files words command.source ≡ Ok plan → second_from files words command.second ≡ Ok second → arrivals_for files words command plan.tasks ≡ Ok arrivals → IsOnTheWay (is_verified_in command.check) (check_for files words command plan arrivals) (writing_of files words command)
way-check files words command plan second arrivals planned seconded gathered =
    let step = check_for files words command plan arrivals in
    let way : IsOnTheWay (is_verified_in command.check) step (writing_with files words command plan second arrivals) = record {
      passes = λ e is. bind_Err step (writing_when command plan second arrivals) e is;
      reached = λ file is. omega (arith, stage-trace_file file, stage-with files words command plan second arrivals);
    } in
    subst (IsOnTheWay (is_verified_in command.check) step) (sym (due-gathered files words command plan second arrivals planned seconded gathered)) way

-- it is due where the plans, the arrivals and the check are
pub writing-is_due : (files : Held) (words : List (List ℕ)) (command : Command) (plan : PlanParts) (second : Option PlanParts) (arrivals : List Arrival) → plan_from files words command.source ≡ Ok plan → second_from files words command.second ≡ Ok second → arrivals_for files words command plan.tasks ≡ Ok arrivals → check_for files words command plan arrivals ≡ Ok tt → writing_of files words command ≡ Ok (writing_from command plan second arrivals)
writing-is_due files words command plan second arrivals planned seconded gathered checked =
    due-gathered files words command plan second arrivals planned seconded gathered ∙ bind_Ok (check_for files words command plan arrivals) (writing_when command plan second arrivals) tt checked

-- what is due is what is written
same_writing : (due : Outcome Writing) (w other : Writing) → due ≡ Ok w → due ≡ Ok other → w ≡ other
same_writing due w other is is_too = cc

no_refusal : (due : Outcome Writing) (w : Writing) (e : Refusal) → due ≡ Ok w → due ≡ Err e → ⊥
no_refusal due w e is is_too = let same : (let o : Outcome Writing = Ok w in o) ≡ Err e = sym is ∙ is_too in cc

put-due : {X : Type 0} (result : Outcome X) (due : Outcome Writing) (w other : Writing) (before after : Option (List ℕ)) → due ≡ Ok w → due ≡ Ok other → IsPut result w before after → IsPut result other before after
put-due {X = X} result due w other before after is is_too put =
    let P : Writing → Type 0 = λ v. IsPut {X = X} result v before after in subst P (same_writing due w other is is_too) put

-- its text, or its refusal
as_text : (front : List ℕ) (r : Result (List ℕ) Evidence) (rest : List ℕ) → r ≡ Ok rest → whole_of (record { front = front; rest = r }) ≡ Ok (front ++ rest)
as_text front (Ok given) rest is = let same : given ≡ rest = cc in ap (λ t. Ok (front ++ t)) same
as_text front (Err e) rest is = cc

as_refusal : (front : List ℕ) (r : Result (List ℕ) Evidence) (e : Evidence) → r ≡ Err e → whole_of (record { front = front; rest = r }) ≡ Err (NoChange e)
as_refusal front (Ok given) e is = cc
as_refusal front (Err other) e is = let same : other ≡ e = cc in ap (λ x. Err (NoChange x)) same

whole-rest : (due : Outcome Writing) (w : Writing) (rest : List ℕ) → due ≡ Ok w → w.rest ≡ Ok rest → (due >>= whole_of) ≡ Ok (w.front ++ rest)
whole-rest due w rest is is_rest = bind_Ok due whole_of w is ∙ as_text w.front w.rest rest is_rest

whole-refused : (due : Outcome Writing) (w : Writing) (e : Evidence) → due ≡ Ok w → w.rest ≡ Err e → (due >>= whole_of) ≡ Err (NoChange e)
whole-refused due w e is is_rest = bind_Ok due whole_of w is ∙ as_refusal w.front w.rest e is_rest

late : (due : Outcome Writing) (w : Writing) → due ≡ Ok w → 15 ≤ stage_due (due >>= whole_of)
late due w is = let P : Outcome Writing → Type 0 = λ o. 15 ≤ stage_due o in omega (arith, stage-whole due, subst P (sym is) (omega arith))

-- a front may stand where the text is put in parts
part_or_same : {T : Type 0} (parts : Bool) (A : Type 0) (before after : T) → ((after ≡ before) ⊎ ((parts ≡ true) × A)) → not parts ≡ true → after ≡ before
part_or_same parts A before after (inl same) whole = same
part_or_same true A before after (inr in_parts) whole = cc
part_or_same false A before after (inr in_parts) whole = cc

front_or_same : {T : Type 0} (written : T → Option (List ℕ)) (parts : Bool) (w : Writing) (before after : T) → ((after ≡ before) ⊎ ((parts ≡ true) × Appends (written before) (written after) w.front)) → (written after ≡ written before) ⊎ Appends (written before) (written after) w.front
front_or_same written parts w before after (inl same) = inl (ap written same)
front_or_same written parts w before after (inr (in_parts, put)) = inr put

in_parts_not_whole : (parts : Bool) → parts ≡ true → not parts ≡ true → ⊥
in_parts_not_whole true is whole = cc
in_parts_not_whole false is whole = cc

-- where what is due is written the work ends so
pub work-writing : {S T X : Type 0} {given : S → Option (List ℕ × ℕ)} (held : S → Option Held) (faults : S → ℕ) (blamed : S → Option (List ℕ)) (written : T → Option (List ℕ)) (failed : T → ℕ) (old new : S) (out_old out_new : T) (words : List (List ℕ)) (command : Command) (w : Writing) (result : Outcome X) → ((files : Held) → held old ≡ Some files → writing_of files words command ≡ Ok w) → IsPartWriting written failed (writes_in_parts command.output) w result out_old out_new → faults new ≡ faults old → IsWork held faults blamed given written failed old new out_old out_new words (Some command) result
work-writing {X = X} held faults blamed written failed old new out_old out_new words command w (Ok done) due (rest, is_rest, put) same =
    record {
      answers = λ files told. (w.front ++ rest, whole-rest (writing_of files words command) w rest (due files told) is_rest);
      usage = ((λ is. cc), (λ none. cc));
      blames = λ file is. cc;
      sizes = λ file is. cc;
      writes = λ files told other is. put-due {X = X} (Ok done) (writing_of files words command) w other (written out_old) (written out_new) (due files told) is (subst (λ t. Appends (written out_old) (written out_new) t) (sym (ap (all_after w.front) is_rest)) put);
      early = λ files told e is. absurd (no_refusal (writing_of files words command) w e (due files told) is);
      counts = λ is. cc;
      reads_well = same;
      output = tt;
      files = λ is. cc;
    }
work-writing {X = X} held faults blamed written failed old new out_old out_new words command w (Err WriteFault) due writing same =
    record {
      answers = λ files told. inr (inr (tt, late (writing_of files words command) w (due files told)));
      usage = ((λ is. cc), (λ none. cc));
      blames = λ file is. cc;
      sizes = λ file is. cc;
      writes = λ files told other is. put-due {X = X} (Err WriteFault) (writing_of files words command) w other (written out_old) (written out_new) (due files told) is writing.0;
      early = λ files told e is. absurd (no_refusal (writing_of files words command) w e (due files told) is);
      counts = λ is. writing.1;
      reads_well = tt;
      output = λ leaves. cc;
      files = λ is. cc;
    }
work-writing {X = X} held faults blamed written failed old new out_old out_new words command w (Err Memory) due writing same =
    record {
      answers = λ files told. inr (inl refl);
      usage = ((λ is. cc), (λ none. cc));
      blames = λ file is. cc;
      sizes = λ file is. cc;
      writes = λ files told other is. put-due {X = X} (Err Memory) (writing_of files words command) w other (written out_old) (written out_new) (due files told) is (front_or_same written (writes_in_parts command.output) w out_old out_new writing);
      early = λ files told e is. absurd (no_refusal (writing_of files words command) w e (due files told) is);
      counts = λ is. cc;
      reads_well = tt;
      output = λ leaves. part_or_same (writes_in_parts command.output) (Appends (written out_old) (written out_new) w.front) out_old out_new writing leaves;
      files = λ is. cc;
    }
work-writing {X = X} held faults blamed written failed old new out_old out_new words command w (Err (NoChange evidence)) due (in_parts, refused, put) same =
    record {
      answers = λ files told. inl (whole-refused (writing_of files words command) w evidence (due files told) refused);
      usage = ((λ is. cc), (λ none. cc));
      blames = λ file is. cc;
      sizes = λ file is. cc;
      writes = λ files told other is. put-due {X = X} (Err (NoChange evidence)) (writing_of files words command) w other (written out_old) (written out_new) (due files told) is put;
      early = λ files told e is. absurd (no_refusal (writing_of files words command) w e (due files told) is);
      counts = λ is. cc;
      reads_well = tt;
      output = λ leaves. absurd (in_parts_not_whole (writes_in_parts command.output) in_parts leaves);
      files = λ is. cc;
    }
work-writing {X = X} held faults blamed written failed old new out_old out_new words command w (Err Usage) due writing same = absurd writing
work-writing {X = X} held faults blamed written failed old new out_old out_new words command w (Err (Unreadable file)) due writing same = absurd writing
work-writing {X = X} held faults blamed written failed old new out_old out_new words command w (Err (TooLarge file)) due writing same = absurd writing
work-writing {X = X} held faults blamed written failed old new out_old out_new words command w (Err (BadTasks fault)) due writing same = absurd writing
work-writing {X = X} held faults blamed written failed old new out_old out_new words command w (Err (Infeasible window)) due writing same = absurd writing
work-writing {X = X} held faults blamed written failed old new out_old out_new words command w (Err (BadTable fault)) due writing same = absurd writing
work-writing {X = X} held faults blamed written failed old new out_old out_new words command w (Err (BadArrivals fault)) due writing same = absurd writing
work-writing {X = X} held faults blamed written failed old new out_old out_new words command w (Err (NotVerified reason)) due writing same = absurd writing
work-writing {X = X} held faults blamed written failed old new out_old out_new words command w (Err (BadSecond fault)) due writing same = absurd writing
work-writing {X = X} held faults blamed written failed old new out_old out_new words command w (Err (SecondInfeasible window)) due writing same = absurd writing
work-writing {X = X} held faults blamed written failed old new out_old out_new words command w (Err (NoRow row)) due writing same = absurd writing
work-writing {X = X} held faults blamed written failed old new out_old out_new words command w (Err (NotCycleEnd cycle)) due writing same = absurd writing

-- words that write no command are refused for them
pub work-usage : {S T X : Type 0} {given : S → Option (List ℕ × ℕ)} (held : S → Option Held) (faults : S → ℕ) (blamed : S → Option (List ℕ)) (written : T → Option (List ℕ)) (failed : T → ℕ) (files : S) (out : T) (words : List (List ℕ)) → IsWork {X = X} held faults blamed given written failed files files out out words None (Err Usage)
work-usage held faults blamed written failed files out words =
    record {
      answers = λ held told. inl refl;
      usage = ((λ is. refl), (λ none. refl));
      blames = λ file is. cc;
      sizes = λ file is. cc;
      writes = λ held told w is. cc;
      early = λ held told e is. refl;
      counts = λ is. cc;
      reads_well = tt;
      output = λ leaves. refl;
      files = λ is. refl;
    }

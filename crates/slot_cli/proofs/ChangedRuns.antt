-- What is told of a change of plan.
use Rattle.std.proofs.Common.{◌≡◌, ℕ, ◌+◌, true, List, Option, None, Some, Result, Ok, Err, refl, sym, ap, subst, ◌∙◌, take, length, arith}
use Rattle.std.specs.Option.{option_map_or}
use Rattle.std.specs.Result.{result_map_both}
use Rattle.std.proofs.lemmas.List.{take_all}
use Rattle.slot_core.specs.Calls.Results.{◌>>=◌}
use Rattle.slot_core.specs.Output.Texts.{trace_text}
use Rattle.slot_io.specs.Files.{Held}
use Rattle.command_line.specs.declared.file.File.TheVariants.{Second as SecondFile}
use Rattle.command_line.specs.Refusals.{Outcome}
use Rattle.command_line.specs.Writings.{whole_of}
use Rattle.command_line.specs.declared.commands.Second.{Second}
use Rattle.command_line.specs.declared.commands.Second.TheVariants.{Read}
use Rattle.run_steps.specs.Readings.{bytes_of, of_second, planned_plan, second_from, second_plan}
use Rattle.slot_facts.proofs.Legal.Traces.{every_trace_is_legal}
use Rattle.slot_core.specs.declared.events.Arrival.{Arrival}
use Rattle.slot_core.specs.declared.jobs.Evidence.{Evidence}
use Rattle.slot_core.specs.declared.jobs.Job.{Job}
use Rattle.slot_core.specs.Feasibility.Feasible.{IsFeasible}
use Rattle.slot_core.specs.Keeping.Executives.{Executive, StandsFor}
use Rattle.slot_core.specs.Keeping.Plans.{PlanParts, IsPlan}
use Rattle.slot_core.specs.Runs.Arrivals.{are_fitting}
use Rattle.slot_core.specs.Runs.Histories.{History, last_row, time_of}
use Rattle.slot_core.specs.Runs.Scenes.{scene_of}
use Rattle.slot_core.specs.Runs.Traces.{IsLegal, history_of, trace}
use Rattle.slot_core.specs.Sets.Cycles.{cycle_of}
use Rattle.slot_facts.proofs.Legal.Executives.{every_executive_is_kept}
use Rattle.slot_facts.proofs.Replays.Times.{time_of-trace}
use Rattle.change_laws.specs.Carried.{AreCarried}
use Rattle.change_laws.specs.Demand.{refusal_of}
use Rattle.mode_switch.specs.Texts.{change_text}
use Rattle.change_laws.proofs.GrantRefusals.{refusals_are_exact}
use Rattle.mode_switch.proofs.Openings.{carried-may}
use Rattle.mode_switch.proofs.ServedChanges.{changes_are_served}
use Rattle.slot_cli.specs.Changed.{carried_after, change_due, changed, history_to, IsChangeExact, IsGranted, IsDenied}

-- a change with no evidence against it has its text, and one with an evidence that evidence
due-told : (plan second : PlanParts) (c : ℕ) (carried : List Job) (n : ℕ) (o : Option Evidence) → refusal_of second.tasks c carried ≡ o → change_due plan second c carried n ≡ option_map_or (λ e. let r : Result (List ℕ) Evidence = Err e in r) o (Ok (change_text plan.tasks second.tasks c carried n))
due-told plan second c carried n o is = ap (λ (p : Option Evidence). option_map_or (λ e. let r : Result (List ℕ) Evidence = Err e in r) p (Ok (change_text plan.tasks second.tasks c carried n))) is

pub change-granted : (plan second : PlanParts) (c : ℕ) (lent carried : List Job) (n : ℕ) → lent ≡ carried → refusal_of second.tasks c lent ≡ None → change_due plan second c carried n ≡ Ok (change_text plan.tasks second.tasks c lent n)
change-granted plan second c lent carried n same none =
    ap (λ jobs. change_due plan second c jobs n) (sym same) ∙ due-told plan second c lent n None none

pub change-refused : (plan second : PlanParts) (c : ℕ) (lent carried : List Job) (n : ℕ) (e : Evidence) → lent ≡ carried → refusal_of second.tasks c lent ≡ Some e → change_due plan second c carried n ≡ Err e
change-refused plan second c lent carried n e same some =
    ap (λ jobs. change_due plan second c jobs n) (sym same) ∙ due-told plan second c lent n (Some e) some

-- the jobs that a legal history leaves may be carried over
carried-legal : (plan : PlanParts) (h : History) → IsPlan plan → IsLegal plan.tasks plan.cycle h → AreCarried (time_of h) (last_row h) (carried_after plan h)
carried-legal plan h is_plan legal =
    let exec : Executive = record { plan = plan; scene = scene_of plan.tasks plan.cycle h; last_row = last_row h } in
    let stands : StandsFor exec h = record {
      legal = legal;
      same = record { time = refl; jobs = λ f. refl; nexts = refl; soft = refl; points = refl };
      last = refl;
    } in
    carried-may exec (every_executive_is_kept exec is_plan (h, stands))

-- so a change after it is answered exactly
pub change-exact : (plan second : PlanParts) (h : History) (c : ℕ) → IsPlan plan → IsPlan second → IsLegal plan.tasks plan.cycle h → time_of h ≡ c → IsChangeExact plan second h c
change-exact plan second h c is_plan is_second legal now =
    let carried = carried_after plan h in
    let may = subst (λ t. AreCarried t (last_row h) carried) now (carried-legal plan h is_plan legal) in
    let feasible = subst (IsFeasible second.tasks) is_second.cycle is_second.feasible in
    let exact = refusals_are_exact second.tasks c (last_row h) carried is_second.sound feasible may in
    record {
      granted = λ none. let can = exact.0.0 none in record {
        can = can;
        served = λ cycles n. changes_are_served second.tasks c (last_row h) cycles n carried is_second.sound feasible may can;
      };
      refused = λ e some. record {
        cannot = λ can. let apart : (let o : Option Evidence = None in o) ≡ Some e = sym (exact.0.1 can) ∙ some in cc;
        shown = (exact.1 e).0 some;
      };
    }

-- so is one after a trace of fitting arrivals
pub change-exact_after : (plan second : PlanParts) (arrivals : List Arrival) (slots : ℕ) → IsPlan plan → IsPlan second → are_fitting plan.tasks slots arrivals ≡ true → IsChangeExact plan second (history_to plan arrivals slots) slots
change-exact_after plan second arrivals slots is_plan is_second fits =
    let tr = trace plan.tasks arrivals slots in
    let legal = every_trace_is_legal plan.tasks arrivals slots (length tr) fits in
    let whole : take (length tr) tr ≡ tr = take_all (length tr) tr (omega arith) in
    let own : IsLegal plan.tasks plan.cycle (history_of tr) = subst (λ n. IsLegal plan.tasks n (history_of tr)) (sym is_plan.cycle) (subst (λ es. IsLegal plan.tasks (cycle_of plan.tasks) (history_of es)) whole legal) in
    change-exact plan second (history_to plan arrivals slots) slots is_plan is_second own (time_of-trace plan.tasks arrivals slots)

-- a change whose text is whole has no evidence against it
none-of_text : (text : List ℕ) (o : Option Evidence) (front whole : List ℕ) → whole_of (record { front = front; rest = option_map_or (λ e. let r : Result (List ℕ) Evidence = Err e in r) o (Ok text) }) ≡ Ok whole → o ≡ None
none-of_text text None front whole is = refl
none-of_text text (Some e) front whole is = cc

-- so it is granted
pub granted-of_text : (plan second : PlanParts) (arrivals : List Arrival) (slots n : ℕ) (whole : List ℕ) → IsPlan plan → IsPlan second → are_fitting plan.tasks slots arrivals ≡ true → whole_of (changed plan second arrivals slots n) ≡ Ok whole → IsGranted plan second (history_to plan arrivals slots) slots
granted-of_text plan second arrivals slots n whole is_plan is_second fits is =
    let carried = carried_after plan (history_to plan arrivals slots) in
    (change-exact_after plan second arrivals slots is_plan is_second fits).granted (none-of_text (change_text plan.tasks second.tasks slots carried n) (refusal_of second.tasks slots carried) (trace_text plan.tasks (trace plan.tasks arrivals slots)) whole is)

-- a second plan that is read is there
there-made : (made : Outcome PlanParts) (o : Option PlanParts) → (let s : Outcome (Option PlanParts) = result_map_both Some of_second made in s) ≡ Ok o → (other : PlanParts) × (o ≡ Some other)
there-made (Ok plan) o is = (plan, cc)
there-made (Err e) o is = cc

there-bytes : (read : Outcome (List ℕ)) (o : Option PlanParts) → (read >>= second_plan) ≡ Ok o → (other : PlanParts) × (o ≡ Some other)
there-bytes (Ok bytes) o is = there-made (planned_plan bytes) o is
there-bytes (Err e) o is = cc

pub second-there : (held : Held) (words : List (List ℕ)) (second : Second) (o : Option PlanParts) → second ≡ Read → second_from held words second ≡ Ok o → (other : PlanParts) × (o ≡ Some other)
second-there held words second o is made = there-bytes (bytes_of held words SecondFile) o (rw is at made)

use Rattle.std.proofs.Common.{Some, Err, inl, inr, refl, ap, ◌∙◌}
use Rattle.faults.specs.declared.table_fault.TableFault.TheVariants.{Infeasible as NoPlan}
use Rattle.command_line.specs.declared.refusal.Refusal.TheVariants.{TooLarge, BadTasks, Infeasible, BadTable, BadArrivals, NotVerified, BadSecond, SecondInfeasible, NoRow, NotCycleEnd}
use Rattle.command_line.specs.declared.status.Status.{Status}
use Rattle.command_line.specs.Refusals.{is_found}
use Rattle.command_line.specs.Writings.{leaves_output}
use Rattle.command_line.specs.Commands.{command_of}
use Rattle.run_steps.specs.Sets.{second_set}
use Rattle.slot_cli.specs.Due.{expected, writing_due}
use Rattle.slot_cli.specs.Runs.{in_parts}
use Rattle.slot_cli.specs.Verdicts.{set_of_run}
use Rattle.slot_cli.proofs.StatusLemmas.{done-text, front-at_most, leaves-reported, refused-change, status-tells, told-due, told-either, reported-due, reported-answers, reported-put, reported-same, reported-unreadable, reported-large, write_apart, IfSome-from_each, err_same, reported-untouched}
use Rattle.slot_cli.proofs.ServedRuns.{changes-run, cycles-run, offers-run, served-run}
use Rattle.slot_cli.proofs.PrintedRuns.{IsPrinted-due}
use Rattle.slot_cli.proofs.VerifiedRuns.{IsVerified-due}
use Rattle.slot_cli.proofs.RunPlans.{fitting-run}
use Rattle.slot_cli.proofs.InfeasibleRuns.{refused-infeasible, refused-bad_table, refused-second_infeasible}
use Rattle.slot_cli.proofs.VerdictLemmas.{IsInfeasibleRun-refused, same_refusal}
use Rattle.slot_cli.proofs.run.Goals as goal

pub returns-in-Ok-clause-done : goal.returns-in-Ok-clause-done
returns-in-Ok-clause-done g c =
    λ is. IfSome-from_each (g.F.Files.held c.args.files.now) _ (λ held told. let (text, due) = c.in-Ok.ensures.answers held told in (text, due, done-text (writing_due held c.args.words.now) text _ _ due (c.in-Ok.ensures.writes held told)))

pub returns-in-Ok-clause-printed : goal.returns-in-Ok-clause-printed
returns-in-Ok-clause-printed g c =
    λ is. IfSome-from_each (g.F.Files.held c.args.files.now) _ (λ held told. let (text, due) = c.in-Ok.ensures.answers held told in IsPrinted-due c.args.words.now held _ _ text (done-text (writing_due held c.args.words.now) text _ _ due (c.in-Ok.ensures.writes held told)) due)

pub returns-in-Ok-clause-verified : goal.returns-in-Ok-clause-verified
returns-in-Ok-clause-verified g c =
    λ is. IfSome-from_each (g.F.Files.held c.args.files.now) _ (λ held told command asked check. let (text, due) = c.in-Ok.ensures.answers held told in IsVerified-due c.args.words.now held command text asked check due)

pub returns-in-Ok-clause-served : goal.returns-in-Ok-clause-served
returns-in-Ok-clause-served g c =
    IfSome-from_each (g.F.Files.held c.args.files.now) _ (λ held told. served-run held c.args.words.now)

pub returns-in-Ok-clause-offers : goal.returns-in-Ok-clause-offers
returns-in-Ok-clause-offers g c =
    IfSome-from_each (g.F.Files.held c.args.files.now) _ (λ held told. offers-run held c.args.words.now)

pub returns-in-Err-clause-offers : goal.returns-in-Err-clause-offers
returns-in-Err-clause-offers g c =
    IfSome-from_each (g.F.Files.held c.args.files.now) _ (λ held told. offers-run held c.args.words.now)

pub returns-in-Ok-clause-changes : goal.returns-in-Ok-clause-changes
returns-in-Ok-clause-changes g c =
    IfSome-from_each (g.F.Files.held c.args.files.now) _ (λ held told. changes-run held c.args.words.now)

pub returns-in-Err-clause-changes : goal.returns-in-Err-clause-changes
returns-in-Err-clause-changes g c =
    IfSome-from_each (g.F.Files.held c.args.files.now) _ (λ held told. changes-run held c.args.words.now)

pub returns-in-Ok-clause-fitting : goal.returns-in-Ok-clause-fitting
returns-in-Ok-clause-fitting g c =
    IfSome-from_each (g.F.Files.held c.args.files.now) _ (λ held told. fitting-run held c.args.words.now)

pub returns-in-Err-clause-fitting : goal.returns-in-Err-clause-fitting
returns-in-Err-clause-fitting g c =
    IfSome-from_each (g.F.Files.held c.args.files.now) _ (λ held told. fitting-run held c.args.words.now)

pub returns-in-Err-clause-whole : goal.returns-in-Err-clause-whole
returns-in-Err-clause-whole g c =
    let held = g.F.Files.held c.args.files.now in
    let work = c.in-Err.ensures in
    record {
      outcome = Err c.report.result;
      has_status = c.status.ensures;
      answers = IfSome-from_each held _ (λ files told. reported-answers (command_of c.args.words.now) (expected files c.args.words.now) c.in-Err.refusal c.report.result c.report.ensures.kept (work.answers files told));
      written = IfSome-from_each held _ (λ files told w due. reported-put c.in-Err.refusal c.report.result w _ _ c.report.ensures.kept (work.writes files told w due));
      early = IfSome-from_each held _ (λ files told e due. ap g.K.Sink.written (work.early files told e due));
      untouched = λ e is leaves. reported-untouched (in_parts (command_of c.args.words.now)) c.in-Err.refusal c.report.result e g.K.Sink.written _ _ c.report.ensures.kept work.output (err_same c.report.result e is) leaves;
      blames = λ file is. let (reads, rose, blamed) = work.blames file (ap Err (reported-unreadable c.in-Err.refusal c.report.result file c.report.ensures.kept is)) in (reads, blamed);
      sizes = λ file is. work.sizes file (ap Err (reported-large c.in-Err.refusal c.report.result file c.report.ensures.kept is));
      told = c.report.ensures.told;
    }

-- the refusal of such a status is the one that is due
pub returns-in-Err-clause-too_large : goal.returns-in-Err-clause-too_large
returns-in-Err-clause-too_large g c =
    λ status.
    let (file, is) = status-tells _ Status.TooLarge c.report.result c.status.ensures status in
    told-due TooLarge file (g.F.Files.held c.args.files.now) (command_of c.args.words.now) (λ files. expected files c.args.words.now) c.in-Err.refusal c.report.result refl is c.report.ensures.kept c.in-Err.ensures.answers

pub returns-in-Err-clause-too_large_file : goal.returns-in-Err-clause-too_large_file
returns-in-Err-clause-too_large_file g c =
    λ status.
    let (file, is) = status-tells _ Status.TooLarge c.report.result c.status.ensures status in
    (file, c.in-Err.ensures.sizes file (ap Err (reported-large c.in-Err.refusal c.report.result file c.report.ensures.kept (ap Err is))))

pub returns-in-Err-clause-bad_tasks : goal.returns-in-Err-clause-bad_tasks
returns-in-Err-clause-bad_tasks g c =
    λ status.
    let (fault, is) = status-tells _ Status.BadTasks c.report.result c.status.ensures status in
    told-either BadTasks BadSecond fault (g.F.Files.held c.args.files.now) (command_of c.args.words.now) (λ files. expected files c.args.words.now) c.in-Err.refusal c.report.result refl refl is c.report.ensures.kept c.in-Err.ensures.answers

pub returns-in-Err-clause-infeasible : goal.returns-in-Err-clause-infeasible
returns-in-Err-clause-infeasible g c =
    λ status.
    let (window, is) = status-tells _ Status.Infeasible c.report.result c.status.ensures status in
    told-either Infeasible SecondInfeasible window (g.F.Files.held c.args.files.now) (command_of c.args.words.now) (λ files. expected files c.args.words.now) c.in-Err.refusal c.report.result refl refl is c.report.ensures.kept c.in-Err.ensures.answers

pub returns-in-Err-clause-bad_table : goal.returns-in-Err-clause-bad_table
returns-in-Err-clause-bad_table g c =
    λ status.
    let (fault, is) = status-tells _ Status.BadTable c.report.result c.status.ensures status in
    told-due BadTable fault (g.F.Files.held c.args.files.now) (command_of c.args.words.now) (λ files. expected files c.args.words.now) c.in-Err.refusal c.report.result refl is c.report.ensures.kept c.in-Err.ensures.answers

pub returns-in-Err-clause-bad_arrivals : goal.returns-in-Err-clause-bad_arrivals
returns-in-Err-clause-bad_arrivals g c =
    λ status.
    let (fault, is) = status-tells _ Status.BadArrivals c.report.result c.status.ensures status in
    told-due BadArrivals fault (g.F.Files.held c.args.files.now) (command_of c.args.words.now) (λ files. expected files c.args.words.now) c.in-Err.refusal c.report.result refl is c.report.ensures.kept c.in-Err.ensures.answers

pub returns-in-Err-clause-not_verified : goal.returns-in-Err-clause-not_verified
returns-in-Err-clause-not_verified g c =
    λ status.
    let (reason, is) = status-tells _ Status.NotVerified c.report.result c.status.ensures status in
    told-due NotVerified reason (g.F.Files.held c.args.files.now) (command_of c.args.words.now) (λ files. expected files c.args.words.now) c.in-Err.refusal c.report.result refl is c.report.ensures.kept c.in-Err.ensures.answers

pub returns-in-Err-clause-no_row : goal.returns-in-Err-clause-no_row
returns-in-Err-clause-no_row g c =
    λ status.
    let (row, is) = status-tells _ Status.NoRow c.report.result c.status.ensures status in
    told-due NoRow row (g.F.Files.held c.args.files.now) (command_of c.args.words.now) (λ files. expected files c.args.words.now) c.in-Err.refusal c.report.result refl is c.report.ensures.kept c.in-Err.ensures.answers

pub returns-in-Err-clause-switch_refused : goal.returns-in-Err-clause-switch_refused
returns-in-Err-clause-switch_refused g c =
    let parts = in_parts (command_of c.args.words.now) in
    λ status.
    let which = status-tells _ Status.SwitchRefused c.report.result c.status.ensures status in
    IfSome-from_each (g.F.Files.held c.args.files.now) _ (λ held told. refused-change c.args.words.now held _ _ c.in-Err.refusal c.report.result c.report.ensures.kept (c.in-Err.ensures.answers held told) (c.in-Err.ensures.writes held told) (λ cycle is. ap g.K.Sink.written (c.in-Err.ensures.output (ap (leaves_output parts) is))) which)

-- what stays untouched
pub returns-in-Err-clause-refusal_writes_nothing : goal.returns-in-Err-clause-refusal_writes_nothing
returns-in-Err-clause-refusal_writes_nothing g c =
    λ leaves. c.in-Err.ensures.output (leaves-reported (in_parts (command_of c.args.words.now)) c.in-Err.refusal c.report.result _ c.report.ensures.kept c.status.ensures leaves)

pub returns-in-Err-clause-refusal_before_writing : goal.returns-in-Err-clause-refusal_before_writing
returns-in-Err-clause-refusal_before_writing g c =
    IfSome-from_each (g.F.Files.held c.args.files.now) _ (λ held told. c.in-Err.ensures.early held told)

pub returns-in-Ok-clause-refusal_before_writing : goal.returns-in-Ok-clause-refusal_before_writing
returns-in-Ok-clause-refusal_before_writing g c =
    IfSome-from_each (g.F.Files.held c.args.files.now) _ (λ held told. c.in-Ok.ensures.early held told)

pub returns-in-Err-clause-refusal_writes_front : goal.returns-in-Err-clause-refusal_writes_front
returns-in-Err-clause-refusal_writes_front g c =
    λ open_end failed.
    IfSome-from_each (g.F.Files.held c.args.files.now) _ (λ held told. front-at_most (writing_due held c.args.words.now) c.in-Err.refusal _ _ (write_apart c.in-Err.refusal c.report.result _ c.report.ensures.kept c.status.ensures failed) (c.in-Err.ensures.writes held told) (λ other due. ap g.K.Sink.written (c.in-Err.ensures.early held told other due)))

pub returns-in-Err-clause-served : goal.returns-in-Err-clause-served
returns-in-Err-clause-served g c =
    IfSome-from_each (g.F.Files.held c.args.files.now) _ (λ held told. served-run held c.args.words.now)

-- what the run says of the set means slot schedules
pub returns-in-Ok-clause-verdict : goal.returns-in-Ok-clause-verdict
returns-in-Ok-clause-verdict g c =
    IfSome-from_each (g.F.Files.held c.args.files.now) _ (λ held told. record {
      fits = cycles-run held c.args.words.now;
      fails = λ status. cc;
      table_fails = λ status. cc;
    })

pub returns-in-Err-clause-verdict : goal.returns-in-Err-clause-verdict
returns-in-Err-clause-verdict g c =
    let words = c.args.words.now in
    IfSome-from_each
    (g.F.Files.held c.args.files.now)
    _
    (λ held told. record {
      fits = cycles-run held words;
      fails = λ status.
          let (window, which) = status-tells _ Status.Infeasible c.report.result c.status.ensures status in (
            window,
            elim which [
              | inl is ↦
                  let due = reported-due (Some held) (command_of words) (λ files. expected files words) c.in-Err.refusal c.report.result (ap is_found is) c.report.ensures.kept (λ files same. c.in-Err.ensures.answers files (told ∙ same)) ∙ ap Err is in
                  inl (IsInfeasibleRun-refused words held (set_of_run held words) (Infeasible window) window _ _ _ _ (refused-infeasible held words window due) due (rw is at c.report.ensures.told))
              | inr is ↦
                  let due = reported-due (Some held) (command_of words) (λ files. expected files words) c.in-Err.refusal c.report.result (ap is_found is) c.report.ensures.kept (λ files same. c.in-Err.ensures.answers files (told ∙ same)) ∙ ap Err is in
                  inr (IsInfeasibleRun-refused words held (second_set held words) (SecondInfeasible window) window _ _ _ _ (refused-second_infeasible held words window due) due (rw is at c.report.ensures.told))
            ],
          );
      table_fails = λ status window due.
          let (fault, is) = status-tells _ Status.BadTable c.report.result c.status.ensures status in
          let reported = reported-due (Some held) (command_of words) (λ files. expected files words) c.in-Err.refusal c.report.result (ap is_found is) c.report.ensures.kept (λ files same. c.in-Err.ensures.answers files (told ∙ same)) in
          let same = same_refusal (expected held words) c.report.result (BadTable (NoPlan window)) reported due in
          IsInfeasibleRun-refused words held (set_of_run held words) (BadTable (NoPlan window)) window _ _ _ _ (refused-bad_table held words window due) due (rw same at c.report.ensures.told);
    })

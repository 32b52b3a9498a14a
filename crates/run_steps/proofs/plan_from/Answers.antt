use Rattle.std.proofs.Common.{◌≡◌, refl}
use Rattle.std.proofs.lemmas.Result.{err_from_is_err_and}
use Rattle.slot_core.specs.Keeping.Plans.{PlanParts}
use Rattle.slot_core.specs.Calls.Results.{◌>>=◌}
use Rattle.command_line.specs.declared.file.File.TheVariants.{Tasks as TaskFile, Table as TableFile}
use Rattle.command_line.specs.Refusals.{same_file}
use Rattle.command_line.specs.declared.commands.Source.TheVariants.{Tasks, Spelled}
use Rattle.command_line.specs.Commands.{is_file_of}
use Rattle.run_steps.specs.Readings.{bytes_of, planned_plan, spelled_plan, plan_from}
use Rattle.command_line.proofs.CommandLemmas.{file-of_tasks, file-of_spelled}
use Rattle.run_steps.proofs.StageLemmas.{found-planned, found-spelled}
use Rattle.run_steps.proofs.StepLemmas.{reading-as, reading-refused, reading-then}
use Rattle.run_steps.proofs.plan_from.Goals as goal

pub returns-in_err-bytes-in-Tasks-clause-reading : goal.returns-in_err-bytes-in-Tasks-clause-reading
returns-in_err-bytes-in-Tasks-clause-reading g c =
    let words = c.args.words.now in
    let source : c.args.source ≡ Tasks = c.in-Tasks.is in
    let p = err_from_is_err_and c.from_residual.result c.from_residual.ensures.1 in
    let read = reading-refused _ _ _ _ _ _ (same_file TaskFile) (λ held. bytes_of held words TaskFile) planned_plan c.in_err-bytes-in-Tasks.field-0.0 _ (λ (plan : PlanParts). plan) c.in_err-bytes-in-Tasks.ensures in
    rw (source, p.1, p.2) (reading-as _ _ _ _ _ _ (same_file TaskFile) (is_file_of Tasks) (λ held. bytes_of held words TaskFile >>= planned_plan) (λ held. plan_from held words Tasks) _ (λ (plan : PlanParts). plan) file-of_tasks (λ files. refl) read)

pub returns-in_err-bytes-in-Spelled-clause-reading : goal.returns-in_err-bytes-in-Spelled-clause-reading
returns-in_err-bytes-in-Spelled-clause-reading g c =
    let words = c.args.words.now in
    let source : c.args.source ≡ Spelled = c.in-Spelled.is in
    let p = err_from_is_err_and c.from_residual-in_err-bytes-in-Spelled.result c.from_residual-in_err-bytes-in-Spelled.ensures.1 in
    let read = reading-refused _ _ _ _ _ _ (same_file TableFile) (λ held. bytes_of held words TableFile) spelled_plan c.in_err-bytes-in-Spelled.field-0.0 _ (λ (plan : PlanParts). plan) c.in_err-bytes-in-Spelled.ensures in
    rw (source, p.1, p.2) (reading-as _ _ _ _ _ _ (same_file TableFile) (is_file_of Spelled) (λ held. bytes_of held words TableFile >>= spelled_plan) (λ held. plan_from held words Spelled) _ (λ (plan : PlanParts). plan) file-of_spelled (λ files. refl) read)

pub returns-in_ok-bytes-in-Tasks-clause-reading : goal.returns-in_ok-bytes-in-Tasks-clause-reading
returns-in_ok-bytes-in-Tasks-clause-reading g c =
    let words = c.args.words.now in
    let source : c.args.source ≡ Tasks = c.in-Tasks.is in
    let read = reading-then _ _ _ _ _ _ (same_file TaskFile) (λ held. bytes_of held words TaskFile) planned_plan _ _ c.planned.result (λ (plan : PlanParts). plan) c.in_ok-bytes-in-Tasks.ensures (found-planned c.in_ok-bytes-in-Tasks.bytes.items) (rw c.as_slice.ensures.value at c.planned.ensures.due) in
    rw source (reading-as _ _ _ _ _ _ (same_file TaskFile) (is_file_of Tasks) (λ held. bytes_of held words TaskFile >>= planned_plan) (λ held. plan_from held words Tasks) _ (λ (plan : PlanParts). plan) file-of_tasks (λ files. refl) read)

pub returns-in_ok-bytes-in-Spelled-clause-reading : goal.returns-in_ok-bytes-in-Spelled-clause-reading
returns-in_ok-bytes-in-Spelled-clause-reading g c =
    let words = c.args.words.now in
    let source : c.args.source ≡ Spelled = c.in-Spelled.is in
    let read = reading-then _ _ _ _ _ _ (same_file TableFile) (λ held. bytes_of held words TableFile) spelled_plan _ _ c.spelled.result (λ (plan : PlanParts). plan) c.in_ok-bytes-in-Spelled.ensures (found-spelled c.in_ok-bytes-in-Spelled.bytes.items) (rw c.as_slice-in-Spelled.ensures.value at c.spelled.ensures.due) in
    rw source (reading-as _ _ _ _ _ _ (same_file TableFile) (is_file_of Spelled) (λ held. bytes_of held words TableFile >>= spelled_plan) (λ held. plan_from held words Spelled) _ (λ (plan : PlanParts). plan) file-of_spelled (λ files. refl) read)

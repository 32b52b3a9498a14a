use Rattle.std.proofs.Common.{◌≡◌, refl}
use Rattle.std.specs.Prelude.{Option}
use Rattle.std.proofs.lemmas.Result.{err_from_is_err_and}
use Rattle.slot_core.specs.Keeping.Plans.{PlanParts}
use Rattle.slot_core.specs.Calls.Results.{◌>>=◌}
use Rattle.command_line.specs.declared.file.File.TheVariants.{Second as SecondFile}
use Rattle.command_line.specs.Refusals.{same_file}
use Rattle.command_line.specs.declared.commands.Second.TheVariants.{Read}
use Rattle.command_line.specs.Commands.{is_second_of}
use Rattle.run_steps.specs.Readings.{bytes_of, second_from, second_plan}
use Rattle.command_line.proofs.CommandLemmas.{file-second}
use Rattle.run_steps.proofs.StageLemmas.{found-second}
use Rattle.run_steps.proofs.StepLemmas.{reading-as, reading-refused, reading-then}
use Rattle.run_steps.proofs.second_from.Goals as goal

pub returns-in_err-bytes-in-Read-clause-reading : goal.returns-in_err-bytes-in-Read-clause-reading
returns-in_err-bytes-in-Read-clause-reading g c =
    let words = c.args.words.now in
    let is : c.args.second ≡ Read = c.in-Read.is in
    let p = err_from_is_err_and c.from_residual.result c.from_residual.ensures.1 in
    let read = reading-refused _ _ _ _ _ _ (same_file SecondFile) (λ held. bytes_of held words SecondFile) second_plan c.in_err-bytes-in-Read.field-0.0 _ (λ (second : Option PlanParts). second) c.in_err-bytes-in-Read.ensures in
    rw (is, p.1, p.2) (reading-as _ _ _ _ _ _ (same_file SecondFile) (is_second_of Read) (λ held. bytes_of held words SecondFile >>= second_plan) (λ held. second_from held words Read) _ (λ (second : Option PlanParts). second) file-second (λ files. refl) read)

pub returns-in_ok-bytes-in-Read-clause-reading : goal.returns-in_ok-bytes-in-Read-clause-reading
returns-in_ok-bytes-in-Read-clause-reading g c =
    let words = c.args.words.now in
    let is : c.args.second ≡ Read = c.in-Read.is in
    let read = reading-then _ _ _ _ _ _ (same_file SecondFile) (λ held. bytes_of held words SecondFile) second_plan _ _ c.second_planned.result (λ (second : Option PlanParts). second) c.in_ok-bytes-in-Read.ensures (found-second c.in_ok-bytes-in-Read.bytes.items) (rw c.as_slice.ensures.value at c.second_planned.ensures.due) in
    rw is (reading-as _ _ _ _ _ _ (same_file SecondFile) (is_second_of Read) (λ held. bytes_of held words SecondFile >>= second_plan) (λ held. second_from held words Read) _ (λ (second : Option PlanParts). second) file-second (λ files. refl) read)

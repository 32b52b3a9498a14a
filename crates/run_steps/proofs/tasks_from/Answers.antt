-- The file is read, and then its bytes.
use Rattle.std.proofs.lemmas.Result.{err_from_is_err_and}
use Rattle.slot_core.specs.declared.tasks.TaskSet.{TaskSet}
use Rattle.command_line.specs.declared.file.File.TheVariants.{Tasks}
use Rattle.run_steps.specs.Readings.{bytes_of, sound_set}
use Rattle.run_steps.proofs.StageLemmas.{found-set}
use Rattle.run_steps.proofs.StepLemmas.{reading-refused, reading-then}
use Rattle.run_steps.proofs.tasks_from.Goals as goal

pub returns-in_err-bytes-clause-reading : goal.returns-in_err-bytes-clause-reading
returns-in_err-bytes-clause-reading g c =
    let p = err_from_is_err_and c.from_residual.result c.from_residual.ensures.1 in
    rw (p.1, p.2) (reading-refused _ _ _ _ _ _ _ (λ held. bytes_of held c.args.words.now Tasks) sound_set c.in_err-bytes.field-0.0 _ (λ (set : TaskSet). set) c.in_err-bytes.ensures)

pub returns-clause-reading : goal.returns-clause-reading
returns-clause-reading g c =
    reading-then _ _ _ _ _ _ _ (λ held. bytes_of held c.args.words.now Tasks) sound_set _ _ c.set_of.result (λ (set : TaskSet). set) c.in_ok-bytes.ensures (found-set c.in_ok-bytes.bytes.items) (rw c.as_slice.ensures.value at c.set_of.ensures.due)

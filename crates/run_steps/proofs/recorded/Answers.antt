use Rattle.std.proofs.Common.{Vec, Global}
use Rattle.std.proofs.lemmas.Result.{err_from_is_err_and}
use Rattle.slot_core.specs.declared.events.Arrival.{Arrival}
use Rattle.command_line.specs.declared.file.File.TheVariants.{Arrivals}
use Rattle.run_steps.specs.Readings.{bytes_of, fitting_arrivals}
use Rattle.run_steps.proofs.StageLemmas.{found-fitting}
use Rattle.run_steps.proofs.StepLemmas.{reading-refused, reading-then}
use Rattle.run_steps.proofs.recorded.Goals as goal

pub returns-in_err-bytes-clause-reading : goal.returns-in_err-bytes-clause-reading
returns-in_err-bytes-clause-reading g c =
    let p = err_from_is_err_and c.from_residual.result c.from_residual.ensures.1 in
    rw (p.1, p.2) (reading-refused _ _ _ _ _ _ _ (λ held. bytes_of held c.args.words.now Arrivals) (λ bytes. fitting_arrivals bytes c.args.slots c.args.tasks.now) c.in_err-bytes.field-0.0 _ (λ (arrivals : Vec Arrival Global). arrivals.items) c.in_err-bytes.ensures)

pub returns-clause-reading : goal.returns-clause-reading
returns-clause-reading g c =
    reading-then _ _ _ _ _ _ _ (λ held. bytes_of held c.args.words.now Arrivals) (λ bytes. fitting_arrivals bytes c.args.slots c.args.tasks.now) _ _ c.fitting.result (λ (arrivals : Vec Arrival Global). arrivals.items) c.in_ok-bytes.ensures (found-fitting _ c.args.slots c.args.tasks.now) (rw c.as_slice.ensures.value at c.fitting.ensures.due)

use Rattle.std.proofs.lemmas.Result.{err_from_is_err_and}
use Rattle.command_line.specs.declared.file.File.TheVariants.{Trace}
use Rattle.run_steps.specs.Readings.{bytes_of, lawful_trace}
use Rattle.run_steps.proofs.StageLemmas.{found-lawful}
use Rattle.run_steps.proofs.StepLemmas.{reading-refused, reading-then}
use Rattle.run_steps.proofs.recorded_trace.Goals as goal

pub returns-in_err-bytes : goal.returns-in_err-bytes
returns-in_err-bytes g c =
    let p = err_from_is_err_and c.from_residual.result c.from_residual.ensures.1 in
    rw (p.1, p.2) (reading-refused _ _ _ _ _ _ _ (λ held. bytes_of held c.args.words.now Trace) (λ bytes. lawful_trace bytes c.args.slots c.args.plan.now c.args.arrivals.now) c.in_err-bytes.field-0.0 _ (λ (done : Unit {0}). tt) c.in_err-bytes.ensures)

pub returns : goal.returns
returns g c =
    reading-then _ _ _ _ _ _ _ (λ held. bytes_of held c.args.words.now Trace) (λ bytes. lawful_trace bytes c.args.slots c.args.plan.now c.args.arrivals.now) _ _ c.lawful.result (λ (done : Unit {0}). tt) c.in_ok-bytes.ensures (found-lawful c.in_ok-bytes.bytes.items c.args.slots c.args.plan.now c.args.arrivals.now) (rw c.as_slice.ensures.value at c.lawful.ensures)

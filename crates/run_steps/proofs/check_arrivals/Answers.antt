use Rattle.std.proofs.Common.{◌≡◌, refl}
use Rattle.command_line.specs.declared.file.File.TheVariants.{Trace as TraceFile}
use Rattle.command_line.specs.Refusals.{same_file}
use Rattle.command_line.specs.declared.commands.Check.TheVariants.{Verified, HasRow, AtCycleEnd}
use Rattle.command_line.specs.Commands.{is_verified_in}
use Rattle.run_steps.specs.Readings.{check_from, recorded_trace, row_among, whole_cycles}
use Rattle.command_line.proofs.CommandLemmas.{file-verified}
use Rattle.run_steps.proofs.StageLemmas.{found-among, found-cycles}
use Rattle.run_steps.proofs.StepLemmas.{reading-as, reading-over}
use Rattle.run_steps.proofs.check_arrivals.Goals as goal

pub returns-in-Verified-clause-reading : goal.returns-in-Verified-clause-reading
returns-in-Verified-clause-reading g c =
    let words = c.args.words.now in
    let plan = c.args.plan.now in
    let arrivals = c.args.arrivals.now in
    let is : c.args.check ≡ Verified = c.in-Verified.is in
    let read = rw c.from.ensures at c.recorded_trace.ensures in
    rw is (reading-as _ _ _ _ _ _ (same_file TraceFile) (is_verified_in Verified) (λ held. recorded_trace held words c.args.slots plan arrivals) (λ held. check_from held words Verified c.args.slots plan arrivals) _ (λ (done : Unit {0}). tt) file-verified (λ files. refl) read)

pub returns-in-HasRow-clause-reading : goal.returns-in-HasRow-clause-reading
returns-in-HasRow-clause-reading g c =
    let words = c.args.words.now in
    let plan = c.args.plan.now in
    let arrivals = c.args.arrivals.now in
    let row = c.in-HasRow.row in
    let is : c.args.check ≡ HasRow row = c.in-HasRow.is in
    rw is (reading-over _ _ _ _ _ _ (is_verified_in (HasRow row)) (λ held. check_from held words (HasRow row) c.args.slots plan arrivals) (row_among row arrivals) _ (λ (done : Unit {0}). tt) (λ files told. refl) refl refl (found-among row arrivals) c.row_among.ensures.due)

pub returns-in-AtCycleEnd-clause-reading : goal.returns-in-AtCycleEnd-clause-reading
returns-in-AtCycleEnd-clause-reading g c =
    let words = c.args.words.now in
    let plan = c.args.plan.now in
    let arrivals = c.args.arrivals.now in
    let is : c.args.check ≡ AtCycleEnd = c.in-AtCycleEnd.is in
    rw is (reading-over _ _ _ _ _ _ (is_verified_in AtCycleEnd) (λ held. check_from held words AtCycleEnd c.args.slots plan arrivals) (whole_cycles plan.cycle c.args.slots) _ (λ (done : Unit {0}). tt) (λ files told. refl) refl refl (found-cycles plan.cycle c.args.slots) c.whole_cycles.ensures.due)

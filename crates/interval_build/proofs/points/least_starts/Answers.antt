-- At first each slot has itself, and after the last job the least start of all that are due there.
use Rattle.std.proofs.Common.{◌≡◌, ◌+◌, length, get_or, ap, ◌∙◌, arith}
use Rattle.std.specs.List.{range_with_len}
use Rattle.std.proofs.lemmas.List.{take_all}
use Rattle.std.proofs.lemmas.List.FromFn.{length-range_with_len, get_or-range_with_len, fill_by_all}
use Rattle.slot_core.specs.Runs.Points.{least_start}
use Rattle.interval_build.proofs.points.least_starts.Goals as goal

pub loop-job-init : goal.loop-job-init
loop-job-init c =
    let slots : c.in_ok-starts.starts.items ≡ range_with_len 0 (c.args.cycle + 1) = c.in_ok-starts.ensures ∙ ap (λ n. range_with_len 0 (n + 1)) c.from.ensures in
    record {
      places = ap length slots ∙ length-range_with_len 0 (c.args.cycle + 1);
      starts = λ end within. ap (λ xs. get_or xs end 0) slots ∙ omega (arith, get_or-range_with_len 0 (c.args.cycle + 1) end 0 within);
    }

pub returns : goal.returns
returns c =
    let jobs = c.args.jobs.now in
    let all = take_all c.loop-job.job-index jobs c.loop-job-test.false in
    fill_by_all
    (λ end. least_start jobs end end)
    c.loop-job.starts.items
    (c.args.cycle + 1)
    0
    c.loop-job.invariant.places
    (λ end within. c.loop-job.invariant.starts end within ∙ ap (λ js. least_start js end end) all)

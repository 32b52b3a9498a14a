-- The next job is the first of those that remain.
use Rattle.std.proofs.Common.{◌≡◌, ◌-◌, length, Some, refl, sym, ap, ◌∙◌, arith}
use Rattle.std.specs.Prelude.{slice_get}
use Rattle.std.proofs.lemmas.Option.{slice_get_read}
use Rattle.slot_core.specs.declared.jobs.Job.{Job}
use Rattle.mode_switch.proofs.CarriedLeft.{carried_left-first, left-first}
use Rattle.mode_switch.proofs.turns.next_carried.Goals as goal

pub overflow_sub-result : goal.overflow_sub-result
overflow_sub-result c =
    let read = c.in_ok-job.ensures.lookup in
    let at = slice_get_read c.args.carried.now (length c.args.carried.now) c.args.ended c.in_ok-job.job.now refl read.3.0 read.1 in
    omega (arith, left-first c.args.at c.args.carried.now c.args.ended c.args.ran c.in_ok-job.job.now at c.requires)

pub returns : goal.returns
returns c =
    let read = c.in_ok-job.ensures.lookup in
    let job = c.in_ok-job.job.now in
    let at = slice_get_read c.args.carried.now (length c.args.carried.now) c.args.ended job refl read.3.0 read.1 in
    let first = carried_left-first c.args.at c.args.carried.now c.args.ended c.args.ran job at in
    let same : record job { est = c.saturating_sub.result; dl = c.saturating_sub-2.result; left = job.left - c.args.ran; declared = job.left } ≡ record job { est = job.est - c.args.at; dl = job.dl - c.args.at; left = job.left - c.args.ran; declared = job.left } = λ i. record job { est = c.saturating_sub.ensures i; dl = c.saturating_sub-2.ensures i; left = job.left - c.args.ran; declared = job.left } in
    ap (λ (j : Job). Some j) same ∙ sym (ap (λ jobs. slice_get jobs 0) first)

use Rattle.std.proofs.Common.{◌≡◌, ◌+◌, ◌-◌, ◌∙◌, ℕ, Option, sum, take, ap, arith}
use Rattle.std.specs.Prelude.{slice_index}
use Rattle.std.proofs.lemmas.List.Sums.{sum_by_more}
use Rattle.slot_core.specs.declared.jobs.Window.{Window}
use Rattle.plan_answers.specs.Tightest.{tighter, window_of}
use Rattle.plan_answers.proofs.Starts.{fold-step}
use Rattle.plan_answers.proofs.tightest.tightest_from.Goals as goal

pub loop-until-preserved : goal.loop-until-preserved
loop-until-preserved c =
    let due = c.args.due.now in
    let arrivals = c.args.arrivals.now in
    let a = c.args.from in
    let b = c.loop-until.until in
    let f = λ (best : Option Window) (x : ℕ). tighter best (window_of a x (sum (take (x + 1) due) + slice_index arrivals (x - a))) in
    let summed : c.loop-until.offline + c.from-offline.result ≡ sum (take (b + 1) due) = omega (arith, sum_by_more (λ x. x) due b 0 (omega arith), c.loop-until.invariant.summed, c.from-offline.ensures) in
    let need : c.loop-until.offline + c.from-offline.result + c.arriving_in.result ≡ sum (take (b + 1) due) + slice_index arrivals (b - a) = omega (arith, summed, c.arriving_in.ensures.value) in
    let next : c.tighter-best.result ≡ f c.loop-until.best b = c.tighter-best.ensures ∙ ap (λ n. tighter c.loop-until.best (window_of a b n)) need in
    record {
      summed = summed;
      tightest = fold-step f c.args.kept c.tighter-best.result (a + 1) b (omega arith) (next ∙ ap (λ best. f best b) c.loop-until.invariant.tightest);
    }

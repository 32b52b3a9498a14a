-- The distance to one more is appended.
use Rattle.std.proofs.Common.{◌<◌, ◌++◌, [], ◌∷◌, ℕ, length, take, ap, sym, ◌∙◌, arith}
use Rattle.view_stats.specs.Ordered.{distances}
use Rattle.view_stats.proofs.Sorts.{distances-more}
use Rattle.view_stats.proofs.ordered.distances.Goals as goal

pub loop-i-preserved : goal.loop-i-preserved
loop-i-preserved c =
    let numbers = c.args.numbers.now in
    let i = c.loop-i.i in
    let inside : i < length numbers = omega (arith, c.loop-i-test.true) in
    let more = distances-more numbers i 0 c.loop-i.invariant.some inside in
    record {
      apart =
          c.in_ok-push.ensures.items
          ∙ ap (λ ds. ds ++ c.saturating_sub.result ∷ []) c.loop-i.invariant.apart
          ∙ ap (λ (x : ℕ). distances (take i numbers) ++ x ∷ []) c.saturating_sub.ensures
          ∙ sym more;
      some = omega (arith, c.loop-i.invariant.some);
    }

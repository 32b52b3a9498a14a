use Rattle.std.proofs.Common.{◌≡◌, ◌-ℤ◌, FitsSigned, arith, rules, w64}
use Rattle.std.proofs.lemmas.Int.{ints, clamps, to_z-of_z}
use Rattle.spare_capacity.specs.Lending.{repaid}
use Rattle.interval_row.proofs.spans.repaid.Goals as goal

pub returns : goal.returns
returns c =
    let after : FitsSigned w64 c.min.result = search rules in
    let before : FitsSigned w64 c.min-2.result = search rules in
    let whole : c.min.result -ℤ c.min-2.result ≡ repaid c.args.before c.args.after = omega (arith, ints, clamps, c.min.ensures.value, c.min-2.ensures.value) in
    rw (to_z-of_z w64 c.min.result after, to_z-of_z w64 c.min-2.result before, whole) (to_z-of_z w64 (repaid c.args.before c.args.after) c.requires)

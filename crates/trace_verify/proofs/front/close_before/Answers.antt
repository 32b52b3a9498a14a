use Rattle.std.proofs.Common.{◌≡◌, ◌+◌, ◌-◌, ◌<◌, drop, length, ap, ◌∙◌, arith}
use Rattle.std.proofs.Math.Seq.{paste}
use Rattle.trace_verify.proofs.FrontFacts.{removed-moved}
use Rattle.trace_verify.proofs.front.close_before.Goals as goal

pub returns-clause-rest : goal.returns-clause-rest
returns-clause-rest g c =
    let xs = c.args.row.now.items in
    let k = c.args.start in
    let many : k + c.args.place - k ≡ c.args.place = omega arith in
    let inside : k + c.args.place < length xs = omega (arith, c.requires, c.args.row.now.ok.0) in
    ap (drop (k + 1)) (c.copy_within.ensures.items ∙ ap (paste xs (k + 1) (drop k xs)) many)
    ∙ removed-moved xs k c.args.place inside

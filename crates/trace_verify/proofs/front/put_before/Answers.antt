use Rattle.std.proofs.Common.{◌≡◌, ◌+◌, ◌-◌, ◌≤◌, List, drop, length, set, ap, ◌∙◌, arith}
use Rattle.std.proofs.Math.Seq.{paste}
use Rattle.trace_verify.proofs.FrontFacts.{inserted-moved}
use Rattle.trace_verify.proofs.front.put_before.Goals as goal

pub returns-clause-inserted : goal.returns-clause-inserted
returns-clause-inserted g c =
    let xs = c.args.row.now.items in
    let k = c.args.start in
    let many : k + c.args.place - k ≡ c.args.place = omega arith in
    let inside : k + c.args.place ≤ length xs = omega (arith, c.requires.within, c.args.row.now.ok.0) in
    ap
    (λ (ys : List g.row.T.Denot). drop (k - 1) (set ys (k - 1 + c.args.place) c.args.item))
    (c.copy_within.ensures.items ∙ ap (paste xs (k - 1) (drop k xs)) many)
    ∙ inserted-moved xs k c.args.place c.args.item c.requires.free inside

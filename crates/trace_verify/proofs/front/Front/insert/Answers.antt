use Rattle.std.proofs.Common.{◌+◌, ◌≤◌, List, drop, insert, length, ap, ◌∙◌, arith}
use Rattle.std.proofs.lemmas.List.{length-drop}
use Rattle.trace_verify.proofs.FrontFacts.{inserted-behind}
use Rattle.trace_verify.proofs.front.Front.insert.Goals as goal

pub returns-in_ok-insert-clause-inserted : goal.returns-in_ok-insert-clause-inserted
returns-in_ok-insert-clause-inserted g c =
    let s = c.self.inside in
    let xs = s.row.items in
    let inside : s.start + c.args.place ≤ length xs = omega (arith, c.requires, ap length c.self.view_is, length-drop s.start xs, c.self.invariant, s.row.ok.0) in
    ap (drop s.start) c.in_ok-insert.ensures.items
    ∙ inserted-behind xs s.start c.args.place c.args.item inside
    ∙ ap (λ (ys : List g.row.T.Denot). insert ys c.args.place c.args.item) c.self.view_is

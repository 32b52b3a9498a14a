use Rattle.std.proofs.Common.{◌+◌, ◌<◌, List, drop, length, remove, ap, ◌∙◌, arith}
use Rattle.std.proofs.lemmas.List.{length-drop}
use Rattle.trace_verify.proofs.FrontFacts.{removed-behind}
use Rattle.trace_verify.proofs.front.Front.remove.Goals as goal

pub returns-then-len-place-clause-rest : goal.returns-then-len-place-clause-rest
returns-then-len-place-clause-rest g c =
    let s = c.self.inside in
    let xs = s.row.items in
    let inside : s.start + c.args.place < length xs = omega (arith, c.requires, ap length c.self.view_is, length-drop s.start xs) in
    ap (drop s.start) c.remove.ensures.items
    ∙ removed-behind xs s.start c.args.place inside
    ∙ ap (λ (ys : List g.row.T.Denot). remove ys c.args.place) c.self.view_is

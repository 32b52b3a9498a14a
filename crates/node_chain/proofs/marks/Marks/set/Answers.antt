use Rattle.std.proofs.Common.{ap, ◌∙◌, slice_set}
use Rattle.node_chain.specs.declared.marks.Rest.{Rest}
use Rattle.node_chain.specs.Laps.{Laps, made_mark}
use Rattle.node_chain.proofs.SideBySide.{set-paired}
use Rattle.node_chain.proofs.marks.Marks.set.Goals as goal

pub returns : goal.returns
returns c =
    let m = c.args.mark in
    let rest : Rest = record { works = m.works; low = m.low } in
    let marks = set-paired made_mark c.self.inside.counts.items c.self.inside.rests.items c.args.index m.count rest
    ∙ ap (λ (v : Laps). slice_set v.marks c.args.index m) c.self.view_is in
    λ i. record { marks = marks i; lifts = (c.self.view_is i).lifts }

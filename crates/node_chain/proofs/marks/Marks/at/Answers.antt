use Rattle.std.proofs.Common.{◌≡◌, Some, slice_get, subst, sym}
use Rattle.std.proofs.lemmas.Option.{slice_get_read}
use Rattle.node_chain.specs.declared.marks.TheConstants.{LAP}
use Rattle.node_chain.specs.Laps.{Laps, made_mark}
use Rattle.node_chain.proofs.SideBySide.{slice_get-paired}
use Rattle.node_chain.proofs.marks.Marks.at.Goals as goal

pub returns : goal.returns
returns c =
    let count = slice_get_read c.self.inside.counts.items LAP c.args.index c.index.result.now (sym c.self.invariant.0) c.requires c.index.ensures in
    let rest = slice_get_read c.self.inside.rests.items LAP c.args.index c.index-rest.result.now (sym c.self.invariant.1) c.requires c.index-rest.ensures in
    subst
    (λ (v : Laps). slice_get v.marks c.args.index ≡ Some (made_mark c.index.result.now c.index-rest.result.now))
    c.self.view_is
    (slice_get-paired made_mark c.self.inside.counts.items c.self.inside.rests.items c.args.index c.index.result.now c.index-rest.result.now count rest)

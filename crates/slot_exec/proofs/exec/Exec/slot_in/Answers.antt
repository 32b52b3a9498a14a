-- Where the others of the spans that are shown stay, the first is put anew.
use Rattle.std.proofs.Common.{◌∙◌, slice_get, ap, sym}
use Rattle.slot_exec.proofs.ShownSlots.{Shows-seen, some-seen}
use Rattle.slot_exec.proofs.exec.Exec.slot_in.Goals as goal

pub set_first-requires : goal.set_first-requires
set_first-requires g c =
    let (h, stands, shown_is) = c.requires.shown in
    some-seen c.args.self.now _ c.pass_in-stay.new.self h c.pass_in-stay.new.what c.args.shown.now _ c.self.invariant c.self.view_is c.pass_in-stay.ensures.does stands shown_is

pub returns-then-stay-clause-shows : goal.returns-then-stay-clause-shows
returns-then-stay-clause-shows g c =
    let (h, stands, shown_is) = c.requires.shown in
    let at = ap (slice_get (g.T.SpareTable.spans c.self.inside.table)) (sym c.first.ensures.first) ∙ c.read.ensures.span in
    let others = c.pass_in-stay.ensures.others c.if-stay.true in
    Shows-seen c.args.self.now _ c.pass_in-stay.new.self h c.pass_in-stay.new.what c.args.shown.now _ c.self.invariant c.self.view_is c.pass_in-stay.ensures.does stands shown_is c.set_first.new.self c.read.result at others c.set_first.ensures.first c.set_first.ensures.more

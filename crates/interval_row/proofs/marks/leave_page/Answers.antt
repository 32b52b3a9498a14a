use Rattle.std.proofs.Common.{◌≡◌, ◌+◌, ◌*◌, cond, ap, drop, set, slice_get, Some, sym, subst, ◌∙◌, negsuc}
use Rattle.std.proofs.lemmas.Bool.{ne_eqb}
use Rattle.std.proofs.lemmas.List.{set-get_or}
use Rattle.std.proofs.lemmas.Option.{get_or_from_slice_get}
use Rattle.node_chain.specs.Laps.{blank_mark}
use Rattle.interval_row.specs.Lifts.{AreAtMost}
use Rattle.interval_row.specs.Marks.{mark_index, page_of, passed}
use Rattle.interval_row.proofs.LiftedSpans.{AreAtMost-drop, AreAtMost-none}
use Rattle.interval_row.proofs.marks.leave_page.Goals as goal

pub set_high-requires-clause-below : goal.set_high-requires-clause-below
set_high-requires-clause-below g c =
    let own = c.requires.marked.each c.mark_index-index.result c.mark-mark.result c.mark-mark.ensures in
    let none = AreAtMost-none c.mark_index-index.result (negsuc 9223372036854775807) (g.S.Store.spans c.args.store.now) (sym own.count ∙ c.if-mark-eq0.true) in
    subst (λ spans. AreAtMost c.mark_index-index.result (negsuc 9223372036854775807) (drop 1 spans)) (sym c.set_mark.ensures.kept.spans)
    (AreAtMost-drop c.mark_index-index.result (negsuc 9223372036854775807) (g.S.Store.spans c.args.store.now) none)

pub returns-else-mark-eq0-clause-marks : goal.returns-else-mark-eq0-clause-marks
returns-else-mark-eq0-clause-marks g c =
    let marks = g.S.Store.marks c.args.store.now in let i = mark_index c.args.time in let mark = c.mark-mark.result in
    let at : slice_get marks i ≡ Some mark = ap (slice_get marks) (sym c.mark_index-index.ensures) ∙ c.mark-mark.ensures in
    let stays : passed c.args.time mark ≡ mark = ap (λ b. cond b (record mark { low = (page_of c.args.time + 512) * 64 }) mark) (ne_eqb mark.count 0 c.if-mark-eq0.false) in
    rw at (sym (ap (set marks i) (stays ∙ sym (get_or_from_slice_get marks i mark blank_mark at)) ∙ set-get_or marks i blank_mark))

use Rattle.std.proofs.Common.{arith}
use Rattle.interval_row.specs.Marks.{mark_index, passed}
use Rattle.interval_row.proofs.Marked.{put_is, AreMarked-passed}
use Rattle.interval_row.proofs.marks.pass_time.Goals as goal

pub returns-then-time-eq0-clause-marked : goal.returns-then-time-eq0-clause-marked
returns-then-time-eq0-clause-marked g c =
    λ spans h.
    let marks = g.S.Store.marks c.args.store.now in
    let new = g.S.Store.marks c.leave_page.new.store in
    let put = put_is marks new (mark_index c.args.time) (passed c.args.time) (omega (arith, c.requires.marked.length)) c.leave_page.ensures.marks in
    rw put (AreMarked-passed c.args.time spans marks c.if-time-eq0.true h)

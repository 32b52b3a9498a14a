use Rattle.std.proofs.Common.{◌≡◌, ◌*◌, FitsSigned, ap, arith, rules, w64, of_z}
use Rattle.std.proofs.lemmas.Int.{to_z-of_z}
use Rattle.interval_row.specs.Changes.{ends_before}
use Rattle.interval_row.proofs.PageWalks.{ends_before-walks}
use Rattle.interval_row.proofs.WalkPages.{AreAtMost-followed}
use Rattle.interval_row.proofs.walk_back.follow_page.Goals as goal
use Rattle.interval_row.proofs.walk_back.follow_page.Goals.{then-followed-ne0-via-then-followed-ne0, then-followed-ne0-via-else-followed-ne0+then-followed-eq0}

pub set_high-requires-clause-below : goal.set_high-requires-clause-below
set_high-requires-clause-below g c =
    let followed = c.follow_spans-followed.result in
    let new = g.S.Store.spans c.follow_spans-followed.new.self in
    let rows = g.S.Store.spans c.args.store.now in
    let here : followed.walk.index ≡ ends_before (c.args.page * 64) new =
    elim c.then-followed-ne0.branch [
      | then-followed-ne0-via-then-followed-ne0 w ↦
          c.follow_spans-followed.ensures.place (λ none. w.if-followed-ne0.true (ap (of_z w64) none))
      | then-followed-ne0-via-else-followed-ne0+then-followed-eq0 w ↦
          omega (arith, w.if-followed-eq0.true, c.follow_spans-followed.ensures.reached, ends_before-walks (c.args.page * 64) followed.walk c.args.from new rows c.follow_spans-followed.ensures.spans)
    ] in
    let fits : FitsSigned w64 followed.high = search rules in
    rw (c.index_of_page.ensures, to_z-of_z w64 followed.high fits) (AreAtMost-followed followed.walk c.args.from c.args.page followed.high new rows (g.S.Store.marks c.args.store.now) c.requires.pages c.requires.page c.requires.place c.follow_spans-followed.ensures.spans c.follow_spans-followed.ensures.before here c.follow_spans-followed.ensures.high)

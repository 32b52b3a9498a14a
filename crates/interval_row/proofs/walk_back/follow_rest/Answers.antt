use Rattle.std.proofs.Common.{◌≡◌, ◌∙◌, FitsSigned, ap, sym, arith, rules, w64, to_z}
use Rattle.std.proofs.lemmas.Int.{to_z-of_z}
use Rattle.slot_core.specs.declared.jobs.Span.{Span}
use Rattle.interval_row.specs.Marks.{page_of}
use Rattle.interval_row.proofs.WalkPages.{ends_before-across, ends_before-front, EndsInPage-rest, IfSome-at}
use Rattle.interval_row.proofs.walk_back.follow_rest.Goals as goal
use Rattle.interval_row.proofs.walk_back.follow_rest.Goals.{then-from-eq0-via-then-from-eq0, then-from-eq0-via-else-from-eq0+then-from-eq0-2, then-from-eq0-via-else-from-eq0+else-from-eq0-2+then-start-page}

pub returns-then-from-eq0-clause-place : goal.returns-then-from-eq0-clause-place
returns-then-from-eq0-clause-place g c =
    let from = c.args.from in
    let page = c.args.page in
    let rows = g.S.Store.spans c.args.store.now in
    let fits : FitsSigned w64 from.more = search rules in
    let is = IfSome-at rows from.index (λ (s : Span). (s.start ≡ c.args.start) × (page_of s.end ≡ page)) c.requires.within c.requires.span in
    (λ other.
    elim c.then-from-eq0.branch [
      | then-from-eq0-via-then-from-eq0 w ↦
          ends_before-front from page rows c.requires.filled w.if-from-eq0.true c.requires.within (omega (arith, is.1))
      | then-from-eq0-via-else-from-eq0+then-from-eq0-2 w ↦
          absurd (other (sym (to_z-of_z w64 from.more fits) ∙ ap (to_z w64) w.if-from-eq0-2.true))
      | then-from-eq0-via-else-from-eq0+else-from-eq0-2+then-start-page w ↦
          ends_before-across from page rows c.requires.filled c.requires.within (omega (arith, is.0, w.if-start-page.true)) (omega (arith, is.1))
    ])

pub follow_spans-requires-clause-some : goal.follow_spans-requires-clause-some
follow_spans-requires-clause-some g c =
    (EndsInPage-rest c.args.from c.args.page c.args.start (g.S.Store.spans c.args.store.now) c.requires.filled (omega (arith, c.if-from-eq0.false)) c.requires.within c.requires.span c.if-start-page.false).some

pub follow_spans-requires-clause-place : goal.follow_spans-requires-clause-place
follow_spans-requires-clause-place g c =
    (EndsInPage-rest c.args.from c.args.page c.args.start (g.S.Store.spans c.args.store.now) c.requires.filled (omega (arith, c.if-from-eq0.false)) c.requires.within c.requires.span c.if-start-page.false).place

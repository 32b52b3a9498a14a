use Rattle.interval_row.proofs.Skips.{ArePassed}
use Rattle.interval_row.proofs.pages.skip_pages.Given as goal

-- the pages up to this one are passed
abbrev pub invariant-loop-page : goal.invariant-loop-page
invariant-loop-page g l = ArePassed (g.S.Store.spans l.store) l.fn.front l.passed l.fn.span l.until l.asked l.page

use Rattle.std.proofs.Common.{◌≡◌, ◌+◌, ◌-◌, ◌*◌, ◌∙◌, ap, sym, arith}
use Rattle.interval_row.specs.Changes.{ends_before}
use Rattle.interval_row.proofs.Stores.{Keeps-both}
use Rattle.interval_row.proofs.RunWalks.{take-fewer}
use Rattle.interval_row.proofs.walk_back.follow_some.Goals as goal

pub returns-clause-front : goal.returns-clause-front
returns-clause-front g c =
    c.follow_page-walk.ensures.front
    ∙ take-fewer c.follow_page-walk.result.index c.pass_pages-passed.result.walk.index (g.S.Store.spans c.pass_pages-passed.new.self) (g.S.Store.spans c.args.store.now) c.pass_pages-passed.ensures.front c.follow_page-walk.ensures.before

pub returns-clause-spans : goal.returns-clause-spans
returns-clause-spans g c = c.follow_page-walk.ensures.spans ∙ c.pass_pages-passed.ensures.spans

pub returns-clause-place : goal.returns-clause-place
returns-clause-place g c = c.follow_page-walk.ensures.place

pub returns-clause-first : goal.returns-clause-first
returns-clause-first g c = omega (arith, c.pass_pages-passed.ensures.first, c.if-passed-first_page.false)

pub returns-clause-before : goal.returns-clause-before
returns-clause-before g c = omega (arith, c.pass_pages-passed.ensures.first, c.pass_pages-passed.ensures.last, c.if-passed-first_page.false)

pub returns-clause-passed : goal.returns-clause-passed
returns-clause-passed g c = omega (arith, c.follow_page-walk.ensures.before, c.pass_pages-passed.ensures.before)

pub returns-clause-steps : goal.returns-clause-steps
returns-clause-steps g c = c.follow_page-walk.ensures.steps

pub returns-clause-few_steps : goal.returns-clause-few_steps
returns-clause-few_steps g c = omega (arith, c.follow_page-walk.ensures.few_steps, c.pass_pages-passed.ensures.before)

pub follow_page-walk-requires-clause-pages : goal.follow_page-walk-requires-clause-pages
follow_page-walk-requires-clause-pages g c = rw (c.pass_pages-passed.ensures.spans, c.pass_pages-passed.ensures.kept.numbers) c.requires.pages

pub follow_page-walk-requires-clause-page : goal.follow_page-walk-requires-clause-page
follow_page-walk-requires-clause-page g c =
    let first = c.requires.first in
    let low = c.pass_pages-passed.ensures.first in
    rw c.pass_pages-passed.ensures.spans (record {
      first = omega (arith, first, low, c.if-passed-first_page.false);
      last = omega (arith, first, low, c.pass_pages-passed.ensures.last, c.requires.end, c.requires.pages.lap);
    })

pub follow_page-walk-requires-clause-near : goal.follow_page-walk-requires-clause-near
follow_page-walk-requires-clause-near g c = omega (arith, c.requires.near, c.pass_pages-passed.ensures.last)

pub follow_page-walk-requires-clause-some : goal.follow_page-walk-requires-clause-some
follow_page-walk-requires-clause-some g c = c.pass_pages-passed.ensures.ended (omega (arith, c.pass_pages-passed.ensures.first, c.if-passed-first_page.false))

pub follow_page-walk-requires-clause-place : goal.follow_page-walk-requires-clause-place
follow_page-walk-requires-clause-place g c =
    let rows = g.S.Store.spans c.pass_pages-passed.new.self in
    let page = c.pass_pages-passed.result.page in
    let back : page ≡ page - 1 + 1 = omega (arith, c.pass_pages-passed.ensures.first, c.if-passed-first_page.false) in
    c.pass_pages-passed.ensures.place ∙ ap (λ n. ends_before (n * 64) rows) back

pub follow_page-walk-requires-clause-more : goal.follow_page-walk-requires-clause-more
follow_page-walk-requires-clause-more g c = λ none. c.requires.more (sym c.pass_pages-passed.ensures.more ∙ none)

pub returns-then-passed-first_page-clause-spans : goal.returns-then-passed-first_page-clause-spans
returns-then-passed-first_page-clause-spans g c = c.pass_pages-passed.ensures.spans

pub returns-then-passed-first_page-clause-first : goal.returns-then-passed-first_page-clause-first
returns-then-passed-first_page-clause-first g c = c.pass_pages-passed.ensures.first

pub returns-then-passed-first_page-clause-front : goal.returns-then-passed-first_page-clause-front
returns-then-passed-first_page-clause-front g c = c.pass_pages-passed.ensures.front

pub returns-then-passed-first_page-clause-passed : goal.returns-then-passed-first_page-clause-passed
returns-then-passed-first_page-clause-passed g c = c.pass_pages-passed.ensures.before

pub returns-then-passed-first_page-clause-place : goal.returns-then-passed-first_page-clause-place
returns-then-passed-first_page-clause-place g c = λ _. c.pass_pages-passed.ensures.place

pub returns-then-passed-first_page-clause-before : goal.returns-then-passed-first_page-clause-before
returns-then-passed-first_page-clause-before g c = omega (arith, c.requires.rising, c.if-passed-first_page.true)

pub returns-clause-kept : goal.returns-clause-kept
returns-clause-kept g c = Keeps-both c.pass_pages-passed.ensures.kept c.follow_page-walk.ensures.kept

pub returns-then-passed-first_page-clause-kept : goal.returns-then-passed-first_page-clause-kept
returns-then-passed-first_page-clause-kept g c = c.pass_pages-passed.ensures.kept

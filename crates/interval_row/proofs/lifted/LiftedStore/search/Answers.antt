use Rattle.std.proofs.Common.{◌≡◌, ap, slice_get, Some, subst, sym, ◌∙◌}
use Rattle.node_chain.specs.Searches.{works_of_first}
use Rattle.node_chain.proofs.PassedSpans.{ArePassed}
use Rattle.interval_row.specs.Stores.{StoreParts}
use Rattle.interval_row.proofs.LiftedSpans.{slice_get-lifted}
use Rattle.interval_row.proofs.Searching.{none-lifted, works_of_first-lifted, ArePassed-lifted}
use Rattle.interval_row.proofs.lifted.LiftedStore.search.Given.{Over}
use Rattle.interval_row.proofs.lifted.LiftedStore.search.Goals as goal
use Rattle.interval_row.proofs.lifted.LiftedStore.search.Goals.{After-search-found}

module _ (g : Over) (c : After-search-found g) where
  -- the works and the passed spans are those of the lifted spans
  works : c.search-found.result.works ≡ works_of_first c.search-found.result.index c.args.self.now.spans
  works =
      let lifts = (g.S.Shelf.laps c.self.inside.shelf).lifts in let index = c.search-found.result.index in
      c.search-found.ensures.works ∙ sym (works_of_first-lifted lifts index (g.S.Shelf.spans c.self.inside.shelf))
      ∙ ap (λ (v : StoreParts). works_of_first index v.spans) c.self.view_is

  passed : ArePassed c.args.search c.args.self.now.spans c.args.from c.search-found.result.index
  passed =
      let lifts = (g.S.Shelf.laps c.self.inside.shelf).lifts in let index = c.search-found.result.index in
      subst
      (λ (v : StoreParts). ArePassed c.args.search v.spans c.args.from index)
      c.self.view_is
      (ArePassed-lifted lifts c.args.search (g.S.Shelf.spans c.self.inside.shelf) c.args.from index c.search-found.ensures.passed)

pub search-found-requires-clause-works : goal.search-found-requires-clause-works
search-found-requires-clause-works g c =
    let lifts = (g.S.Shelf.laps c.self.inside.shelf).lifts in
    c.requires.works ∙ ap (λ (v : StoreParts). works_of_first c.args.from v.spans) (sym c.self.view_is)
    ∙ works_of_first-lifted lifts c.args.from (g.S.Shelf.spans c.self.inside.shelf)

pub returns-in_default-clause-works : goal.returns-in_default-clause-works
returns-in_default-clause-works g c = works g ((goal.at.returns-in_default-clause-works g c).After-search-found)

pub returns-in_default-clause-span : goal.returns-in_default-clause-span
returns-in_default-clause-span g c =
    let lifts = (g.S.Shelf.laps c.self.inside.shelf).lifts in let index = c.search-found.result.index in
    let none = none-lifted lifts (g.S.Shelf.spans c.self.inside.shelf) index (sym c.search-found.ensures.span ∙ c.in_default.is) in
    c.in_default.is ∙ sym none ∙ ap (λ (v : StoreParts). slice_get v.spans index) c.self.view_is

pub returns-in_default-clause-passed : goal.returns-in_default-clause-passed
returns-in_default-clause-passed g c = passed g ((goal.at.returns-in_default-clause-passed g c).After-search-found)

pub returns-clause-works : goal.returns-clause-works
returns-clause-works g c = works g ((goal.at.returns-clause-works g c).After-search-found)

pub returns-clause-span : goal.returns-clause-span
returns-clause-span g c =
    let lifts = (g.S.Shelf.laps c.self.inside.shelf).lifts in let index = c.search-found.result.index in
    let there = slice_get-lifted lifts (g.S.Shelf.spans c.self.inside.shelf) index c.mark_index.result c.in-Some.span c.lift.result
    (sym c.search-found.ensures.span ∙ c.in-Some.is) c.mark_index.ensures c.lift.ensures in
    ap Some c.lifted_by.ensures ∙ sym there ∙ ap (λ (v : StoreParts). slice_get v.spans index) c.self.view_is

pub returns-clause-passed : goal.returns-clause-passed
returns-clause-passed g c = passed g ((goal.at.returns-clause-passed g c).After-search-found)

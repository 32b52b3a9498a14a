use Rattle.std.proofs.Common.{◌≡◌, ◌+◌, ◌-◌, ◌*◌, ◌%◌, ◌<◌, ◌≤◌, ◌≤ℤ◌, ℕ, Fits, FitsSigned, get_or, slice_get, take, sym, ap, subst, ◌∙◌, arith, rules, w32, w64}
use Rattle.std.specs.Option.{IfSome}
use Rattle.std.proofs.lemmas.Int.{ints, to_z-of_z}
use Rattle.std.proofs.lemmas.Option.{slice_get-get_or, slice_get_within}
use Rattle.node_chain.specs.Laps.{blank_lift, blank_mark}
use Rattle.node_chain.specs.declared.marks.Mark.{Mark}
use Rattle.interval_row.specs.Changes.{ends_before}
use Rattle.interval_row.specs.Lifts.{lifted}
use Rattle.interval_row.specs.Walks.{after_walk}
use Rattle.interval_row.specs.declared.walk_back.Walk.{Walk}
use Rattle.interval_row.proofs.PassedPages.{count-told, HasPassed, HasPassed-run, IsAtPage, IsAtRun}
use Rattle.interval_row.proofs.RunWalks.{ends_before-lifted}
use Rattle.interval_row.proofs.lifted.pass_run.Given.{Over}
use Rattle.interval_row.proofs.lifted.pass_run.Goals as goal
use Rattle.interval_row.proofs.lifted.pass_run.Goals.{After-from}

-- the walk is at the end of the pages that the shelf has passed
at-run : (g : Over) (c : After-from g) → IsAtRun c.args.from.walk (c.args.from.page - c.from.result) c.pass_back-passed.result.index c.from.result (g.S.Shelf.laps c.args.shelf.now).lifts (g.S.Shelf.spans c.args.shelf.now) (g.S.Shelf.laps c.args.shelf.now).marks
at-run g c =
    let laps = g.S.Shelf.laps c.args.shelf.now in
    let rows = lifted laps.lifts (g.S.Shelf.spans c.args.shelf.now) in
    let more : FitsSigned w64 c.args.from.walk.more = search rules in
    let limit : FitsSigned w64 c.most_to_pass_on.result = search rules in
    let sum = rw (to_z-of_z w64 c.args.from.walk.more more) at c.most_to_pass_on.ensures.after in
    let within = slice_get_within laps.lifts c.index_of_page-last.result c.lift-lift.result c.lift-lift.ensures in
    let below : (k : ℕ) → k < c.from.result → 1 ≤ (get_or laps.marks (c.pass_back-passed.result.index + k) blank_mark).count → (get_or laps.lifts (c.pass_back-passed.result.index + k) blank_lift).high ≤ℤ c.most_to_pass_on.result =
    λ k less some.
    let i = c.pass_back-passed.result.index + k in
    let mark = slice_get-get_or laps.marks i blank_mark (omega (arith, less, c.from.ensures, c.index_of_page-last.ensures, c.requires.pages.length)) in
    let lift = slice_get-get_or laps.lifts i blank_lift (omega (arith, less, c.from.ensures, within)) in
    rw (to_z-of_z w64 c.most_to_pass_on.result limit) at c.pass_back-passed.ensures.passed i (get_or laps.marks i blank_mark) (get_or laps.lifts i blank_lift) (omega arith) (omega (arith, less, c.from.ensures)) mark lift some in
    let whole : c.args.from.page ≡ c.args.from.page - c.from.result + c.from.result = omega (arith, c.from.ensures, c.index_of_page-last.ensures, c.requires.rising) in
    record {
      pages = c.requires.pages;
      first = omega (arith, c.requires.first, c.requires.lap, c.from.ensures, c.index_of_page-last.ensures, c.index_of_page.ensures, c.pass_back-passed.ensures.first, c.requires.rising);
      last = omega (arith, whole, c.requires.end, c.requires.pages.lap);
      place = c.requires.place ∙ sym (ends_before-lifted laps.lifts (c.args.from.page * 64) (g.S.Shelf.spans c.args.shelf.now)) ∙ ap (λ p. ends_before (p * 64) rows) whole;
      covered = c.requires.covered;
      index = λ k less. omega (arith, less, c.from.ensures, c.index_of_page-last.ensures, c.requires.rising);
      within = omega (arith, within, c.from.ensures, c.pass_back-passed.ensures.last);
      before = λ k less some. let h = below k less some in omega (arith, ints, h, c.most_to_pass_on.ensures.before);
      after = λ k less some. let h = below k less some in omega (arith, ints, h, sum);
    }

-- so it has passed them
has-passed : (g : Over) (c : After-from g) → HasPassed c.args.from.walk (c.args.from.page - c.from.result) c.pass_back-passed.result.count (g.S.Shelf.laps c.args.shelf.now).lifts (g.S.Shelf.laps c.pass_back-passed.new.self).lifts (g.S.Shelf.spans c.pass_back-passed.new.self)
has-passed g c =
    let laps = g.S.Shelf.laps c.args.shelf.now in
    let more : FitsSigned w64 c.args.from.walk.more = search rules in
    let put = ap (λ l. l.lifts) c.pass_back-passed.ensures.lifts in
    let lifts = rw (to_z-of_z w64 c.args.from.walk.more more, sym c.from.ensures) at put in
    let count = rw (sym c.from.ensures) at c.pass_back-passed.ensures.count in
    rw (lifts, count, c.pass_back-passed.ensures.kept.spans) (HasPassed-run c.from.result (at-run g c))

-- and the spans at the end of the walk are the same
spans-same : (g : Over) (c : After-from g) → after_walk (record { index = c.args.from.walk.index - c.pass_back-passed.result.count; more = c.args.from.walk.more }) (lifted (g.S.Shelf.laps c.pass_back-passed.new.self).lifts (g.S.Shelf.spans c.pass_back-passed.new.self)) ≡ after_walk c.args.from.walk (lifted (g.S.Shelf.laps c.args.shelf.now).lifts (g.S.Shelf.spans c.args.shelf.now))
spans-same g c =
    (has-passed g c).spans ∙ ap (λ ss. after_walk c.args.from.walk (lifted (g.S.Shelf.laps c.args.shelf.now).lifts ss)) c.pass_back-passed.ensures.kept.spans

pub overflow_cast-result : goal.overflow_cast-result
overflow_cast-result g c =
    let fits : Fits w32 c.args.from.walk.index = search rules in
    let passed = has-passed g (goal.at.overflow_cast-result g c).After-from in
    omega (arith, fits, passed.within)

pub overflow_sub-result-2 : goal.overflow_sub-result-2
overflow_sub-result-2 g c = (has-passed g (goal.at.overflow_sub-result-2 g c).After-from).within

pub returns-clause-spans : goal.returns-clause-spans
returns-clause-spans g c =
    let more : FitsSigned w64 c.args.from.walk.more = search rules in
    rw (to_z-of_z w64 c.args.from.walk.more more) (spans-same g (goal.at.returns-clause-spans g c).After-from)

pub returns-clause-covered : goal.returns-clause-covered
returns-clause-covered g c = (has-passed g (goal.at.returns-clause-covered g c).After-from).covered

pub returns-clause-place : goal.returns-clause-place
returns-clause-place g c =
    let passed = has-passed g (goal.at.returns-clause-place g c).After-from in
    passed.place ∙ ends_before-lifted (g.S.Shelf.laps c.pass_back-passed.new.self).lifts ((c.args.from.page - c.from.result) * 64) (g.S.Shelf.spans c.pass_back-passed.new.self)

pub returns-clause-front : goal.returns-clause-front
returns-clause-front g c =
    let passed = has-passed g (goal.at.returns-clause-front g c).After-from in
    let lifts = (g.S.Shelf.laps c.args.shelf.now).lifts in
    passed.front ∙ ap (λ ss. take (c.args.from.walk.index - c.pass_back-passed.result.count) (lifted lifts ss)) c.pass_back-passed.ensures.kept.spans

pub returns-clause-ended : goal.returns-clause-ended
returns-clause-ended g c =
    let w = (goal.at.returns-clause-ended g c).After-from in
    let passed = has-passed g w in
    let marks = (g.S.Shelf.laps c.args.shelf.now).marks in
    let new = g.S.Shelf.laps c.pass_back-passed.new.self in
    let spans = g.S.Shelf.spans c.pass_back-passed.new.self in
    let i = c.pass_back-passed.result.index - 1 in
    let page = c.args.from.page - c.from.result - 1 in
    let walk : Walk = record { index = c.args.from.walk.index - c.pass_back-passed.result.count; more = c.args.from.walk.more } in
    λ l.
    let next : c.args.from.page - c.from.result ≡ page + 1 = omega (arith, l) in
    let above : c.index_of_page.result < c.pass_back-passed.result.index =
    omega (arith, l, c.requires.lap, c.from.ensures, c.index_of_page-last.ensures, c.index_of_page.ensures, c.pass_back-passed.ensures.last, c.requires.rising) in
    let same : page % 512 ≡ i = omega (arith, above, c.from.ensures, c.index_of_page-last.ensures, c.pass_back-passed.ensures.last, c.requires.rising, l) in
    let there = slice_get-get_or marks i blank_mark (omega (arith, same, c.requires.pages.length)) in
    let some : 1 ≤ (get_or marks i blank_mark).count = subst (λ o. IfSome o (λ (m : Mark). 1 ≤ m.count)) there (c.pass_back-passed.ensures.ended above) in
    let at : IsAtPage walk page (get_or marks i blank_mark) new.lifts spans marks =
    record {
      pages = rw (spans-same g w) c.requires.pages;
      is =
          rw (spans-same g w)
          (record {
            first = omega (arith, c.requires.first, l);
            last = omega (arith, l, c.requires.end, c.requires.pages.lap);
          });
      place = passed.place ∙ ap (λ p. ends_before (p * 64) (lifted new.lifts spans)) next;
      told = ap (slice_get marks) same ∙ there;
      covered = passed.covered;
    } in
    omega (arith, count-told at, some, ends_before-lifted new.lifts (page * 64) spans)

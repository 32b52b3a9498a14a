use Rattle.std.proofs.Common.{◌≡◌, ◌-◌, ◌*◌, ◌∙◌, take, ap, refl, sym, arith}
use Rattle.interval_row.specs.Changes.{ends_before}
use Rattle.interval_row.specs.Walks.{after_walk}
use Rattle.interval_row.specs.Lifts.{lifted}
use Rattle.interval_row.proofs.RunWalks.{ends_before-lifted, take-fewer}
use Rattle.interval_row.proofs.lifted.LiftedStore.pass_pages.Given.{Over}
use Rattle.interval_row.proofs.lifted.LiftedStore.pass_pages.Goals as goal
use Rattle.interval_row.proofs.lifted.LiftedStore.pass_pages.Goals.{After-pass_run-last}

pub loop-last-init : goal.loop-last-init
loop-last-init g c =
    let laps = g.S.Shelf.laps c.self.inside.shelf in
    let kept = g.S.Shelf.spans c.self.inside.shelf in
    record {
      spans = ap (λ v. after_walk c.args.from.walk v.spans) c.self.view_is;
      more = refl;
      place = c.requires.place ∙ ap (λ v. ends_before (c.args.from.page * 64) v.spans) (sym c.self.view_is) ∙ ends_before-lifted laps.lifts (c.args.from.page * 64) kept;
      first = c.requires.rising;
      last = omega arith;
      before = omega arith;
      front = ap (λ v. take c.args.from.walk.index v.spans) c.self.view_is;
      covered = c.self.invariant;
      room = ap (λ v. v.room) c.self.view_is;
      marks = ap (λ v. v.marks) c.self.view_is;
    }

pub pass_run-last-requires-clause-pages : goal.pass_run-last-requires-clause-pages
pass_run-last-requires-clause-pages g c = rw (c.loop-last.invariant.spans, c.loop-last.invariant.marks) c.requires.pages

pub pass_run-last-requires-clause-first : goal.pass_run-last-requires-clause-first
pass_run-last-requires-clause-first g c = rw c.loop-last.invariant.spans (omega (arith, c.requires.first, c.max-low.ensures))

pub pass_run-last-requires-clause-end : goal.pass_run-last-requires-clause-end
pass_run-last-requires-clause-end g c = rw c.loop-last.invariant.spans (omega (arith, c.requires.end, c.loop-last.invariant.last))

pub returns-then-low-last-clause-ended : goal.returns-then-low-last-clause-ended
returns-then-low-last-clause-ended g c =
    let shelf = c.pass_run-last.new.shelf in
    let same = ends_before-lifted (g.S.Shelf.laps shelf).lifts ((c.pass_run-last.result.page - 1) * 64) (g.S.Shelf.spans shelf) in
    λ l. omega (arith, c.pass_run-last.ensures.ended c.if-low-last.true, same)

-- the first spans have stayed over a run
stayed : (g : Over) (c : After-pass_run-last g) → take c.pass_run-last.result.walk.index (lifted (g.S.Shelf.laps c.pass_run-last.new.shelf).lifts (g.S.Shelf.spans c.pass_run-last.new.shelf)) ≡ take c.pass_run-last.result.walk.index c.args.self.now.spans
stayed g c =
    let shelf = c.loop-last.self-inside.shelf in
    c.pass_run-last.ensures.front ∙ take-fewer c.pass_run-last.result.walk.index c.loop-last.last.walk.index (lifted (g.S.Shelf.laps shelf).lifts (g.S.Shelf.spans shelf)) c.args.self.now.spans c.loop-last.invariant.front c.pass_run-last.ensures.before

pub returns-then-low-last-clause-front : goal.returns-then-low-last-clause-front
returns-then-low-last-clause-front g c = stayed g (goal.at.returns-then-low-last-clause-front g c).After-pass_run-last

pub loop-last-preserved : goal.loop-last-preserved
loop-last-preserved g c = record {
  spans = c.pass_run-last.ensures.spans ∙ c.loop-last.invariant.spans;
  more = c.pass_run-last.ensures.more ∙ c.loop-last.invariant.more;
  place = c.pass_run-last.ensures.place;
  first = omega (arith, c.pass_run-last.ensures.first, c.max-low.ensures);
  last = omega (arith, c.pass_run-last.ensures.last, c.loop-last.invariant.last);
  before = omega (arith, c.pass_run-last.ensures.before, c.loop-last.invariant.before);
  front = stayed g (goal.at.loop-last-preserved g c).After-pass_run-last;
  covered = c.pass_run-last.ensures.covered;
  room = c.pass_run-last.ensures.kept.room ∙ c.loop-last.invariant.room;
  marks = c.pass_run-last.ensures.marks ∙ c.loop-last.invariant.marks;
}

pub returns-clause-place : goal.returns-clause-place
returns-clause-place g c =
    let shelf = c.loop-last.self-inside.shelf in
    c.loop-last.invariant.place ∙ sym (ends_before-lifted (g.S.Shelf.laps shelf).lifts (c.loop-last.last.page * 64) (g.S.Shelf.spans shelf))

pub pass_run-last-requires-clause-covered : goal.pass_run-last-requires-clause-covered
pass_run-last-requires-clause-covered g c = c.loop-last.invariant.covered

pub pass_run-last-requires-clause-place : goal.pass_run-last-requires-clause-place
pass_run-last-requires-clause-place g c = c.loop-last.invariant.place

pub returns-then-low-last-clause-spans : goal.returns-then-low-last-clause-spans
returns-then-low-last-clause-spans g c = c.pass_run-last.ensures.spans ∙ c.loop-last.invariant.spans

pub returns-then-low-last-clause-more : goal.returns-then-low-last-clause-more
returns-then-low-last-clause-more g c = c.pass_run-last.ensures.more ∙ c.loop-last.invariant.more

pub returns-then-low-last-clause-first : goal.returns-then-low-last-clause-first
returns-then-low-last-clause-first g c = omega (arith, c.pass_run-last.ensures.first, c.max-low.ensures)

pub returns-then-low-last-clause-last : goal.returns-then-low-last-clause-last
returns-then-low-last-clause-last g c = omega (arith, c.pass_run-last.ensures.last, c.loop-last.invariant.last)

pub returns-then-low-last-clause-before : goal.returns-then-low-last-clause-before
returns-then-low-last-clause-before g c = omega (arith, c.pass_run-last.ensures.before, c.loop-last.invariant.before)

pub returns-then-low-last-clause-place : goal.returns-then-low-last-clause-place
returns-then-low-last-clause-place g c =
    let shelf = c.pass_run-last.new.shelf in
    c.pass_run-last.ensures.place ∙ sym (ends_before-lifted (g.S.Shelf.laps shelf).lifts (c.pass_run-last.result.page * 64) (g.S.Shelf.spans shelf))

pub returns-clause-spans : goal.returns-clause-spans
returns-clause-spans g c = c.loop-last.invariant.spans

pub returns-clause-more : goal.returns-clause-more
returns-clause-more g c = c.loop-last.invariant.more

pub returns-clause-first : goal.returns-clause-first
returns-clause-first g c = c.loop-last.invariant.first

pub returns-clause-last : goal.returns-clause-last
returns-clause-last g c = c.loop-last.invariant.last

pub returns-clause-before : goal.returns-clause-before
returns-clause-before g c = c.loop-last.invariant.before

pub returns-clause-front : goal.returns-clause-front
returns-clause-front g c = c.loop-last.invariant.front

pub returns-clause-ended : goal.returns-clause-ended
returns-clause-ended g c = λ more. absurd (omega (arith, more, c.loop-last-test.false))

pub returns-then-low-last-clause-kept : goal.returns-then-low-last-clause-kept
returns-then-low-last-clause-kept g c = record {
  room = c.pass_run-last.ensures.kept.room ∙ c.loop-last.invariant.room;
  numbers = c.pass_run-last.ensures.marks ∙ c.loop-last.invariant.marks;
}

pub returns-clause-kept : goal.returns-clause-kept
returns-clause-kept g c = record { room = c.loop-last.invariant.room; numbers = c.loop-last.invariant.marks }

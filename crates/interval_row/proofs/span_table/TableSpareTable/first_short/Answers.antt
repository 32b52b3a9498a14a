use Rattle.std.proofs.Common.{◌≡◌, ℕ, ◌+◌, ◌<◌, ◌≤◌, Some, sym, subst, ap, ◌∙◌, arith}
use Rattle.std.specs.Prelude.{slice_get}
use Rattle.spare_capacity.specs.Laws.{work_until}
use Rattle.interval_row.specs.Tables.{IsFront}
use Rattle.interval_row.proofs.Rooms.{seen_of, kept_of}
use Rattle.interval_row.proofs.span_table.TableSpareTable.first_short.Goals as goal

pub first_short-requires-clause-timed : goal.first_short-requires-clause-timed
first_short-requires-clause-timed g c = c.self.invariant.timed

pub first_short-requires-clause-front : goal.first_short-requires-clause-front
first_short-requires-clause-front g c =
    subst (λ xs. IsFront xs c.args.front) (seen_of c.self.view_is (kept_of c.self.invariant)).rows c.requires.front

pub first_short-requires-clause-span : goal.first_short-requires-clause-span
first_short-requires-clause-span g c =
    subst (λ xs. slice_get xs c.args.front.count ≡ Some c.args.span) (seen_of c.self.view_is (kept_of c.self.invariant)).rows c.requires.span

pub returns-clause-within : goal.returns-clause-within
returns-clause-within g c =
    omega (arith, c.first_short.ensures.within, (seen_of c.self.view_is (kept_of c.self.invariant)).end)

pub returns-clause-works : goal.returns-clause-works
returns-clause-works g c =
    c.first_short.ensures.works
    ∙ ap (λ xs. work_until xs c.first_short.result.until) (sym (seen_of c.self.view_is (kept_of c.self.invariant)).rows)

pub returns-clause-leaves : goal.returns-clause-leaves
returns-clause-leaves g c =
    subst (λ xs. (x : ℕ) → c.args.span.end ≤ x → x < c.first_short.result.until → c.args.asked + work_until xs x ≤ x) (sym (seen_of c.self.view_is (kept_of c.self.invariant)).rows) c.first_short.ensures.leaves

pub returns-clause-short : goal.returns-clause-short
returns-clause-short g c =
    λ early. c.first_short.ensures.short (omega (arith, early, (seen_of c.self.view_is (kept_of c.self.invariant)).end))

pub returns-clause-reads_once : goal.returns-clause-reads_once
returns-clause-reads_once g c =
    omega (arith, c.first_short.ensures.reads_once, (seen_of c.self.view_is (kept_of c.self.invariant)).count)

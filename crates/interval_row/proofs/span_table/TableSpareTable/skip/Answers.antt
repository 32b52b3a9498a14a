use Rattle.std.proofs.Common.{◌≡◌, ℕ, ◌+◌, ◌<◌, ◌≤◌, Some, sym, subst, arith}
use Rattle.std.specs.Prelude.{slice_get}
use Rattle.slot_core.specs.declared.jobs.Span.{Span}
use Rattle.spare_capacity.specs.Laws.{work_until}
use Rattle.interval_row.specs.Tables.{IsFront}
use Rattle.interval_row.proofs.Rooms.{seen_of, kept_of}
use Rattle.interval_row.proofs.span_table.TableSpareTable.skip.Goals as goal

pub skip-requires-clause-timed : goal.skip-requires-clause-timed
skip-requires-clause-timed g c = c.self.invariant.timed

pub skip-requires-clause-front : goal.skip-requires-clause-front
skip-requires-clause-front g c =
    subst (λ xs. IsFront xs c.args.front) (seen_of c.self.view_is (kept_of c.self.invariant)).rows c.requires.front

pub skip-requires-clause-span : goal.skip-requires-clause-span
skip-requires-clause-span g c =
    subst (λ xs. slice_get xs c.args.front.count ≡ Some c.args.span) (seen_of c.self.view_is (kept_of c.self.invariant)).rows c.requires.span

pub skip-requires-clause-until : goal.skip-requires-clause-until
skip-requires-clause-until g c =
    omega (arith, c.requires.until, (seen_of c.self.view_is (kept_of c.self.invariant)).end)

pub returns-clause-front : goal.returns-clause-front
returns-clause-front g c =
    subst (λ xs. IsFront xs c.skip.result) (sym (seen_of c.self.view_is (kept_of c.self.invariant)).rows) c.skip.ensures.front

pub returns-clause-within : goal.returns-clause-within
returns-clause-within g c =
    omega (arith, c.skip.ensures.within, (seen_of c.self.view_is (kept_of c.self.invariant)).count)

pub returns-clause-reached : goal.returns-clause-reached
returns-clause-reached g c =
    subst (λ xs. (later : Span) → slice_get xs c.skip.result.count ≡ Some later → c.args.front.count < c.skip.result.count → later.start < c.args.until) (sym (seen_of c.self.view_is (kept_of c.self.invariant)).rows) c.skip.ensures.reached

pub returns-clause-leaves : goal.returns-clause-leaves
returns-clause-leaves g c =
    subst (λ xs. (later : Span) → slice_get xs c.skip.result.count ≡ Some later → (x : ℕ) → c.args.span.end ≤ x → x < later.end → c.args.asked + work_until xs x ≤ x) (sym (seen_of c.self.view_is (kept_of c.self.invariant)).rows) c.skip.ensures.leaves

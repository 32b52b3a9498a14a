use Rattle.std.proofs.Common.{◌≤◌, sym, subst, arith}
use Rattle.interval_row.specs.Changes.{ends_before}
use Rattle.interval_row.specs.Tables.{IsFront}
use Rattle.interval_row.proofs.Rooms.{seen_of, kept_of}
use Rattle.interval_row.proofs.span_table.TableSpareTable.near.Goals as goal

pub near-requires-clause-timed : goal.near-requires-clause-timed
near-requires-clause-timed g c = c.self.invariant.timed

pub near-requires-clause-within : goal.near-requires-clause-within
near-requires-clause-within g c =
    omega (arith, c.requires.within, (seen_of c.self.view_is (kept_of c.self.invariant)).end)

pub returns-clause-front : goal.returns-clause-front
returns-clause-front g c =
    subst (λ xs. IsFront xs c.near.result) (sym (seen_of c.self.view_is (kept_of c.self.invariant)).rows) c.near.ensures.front

pub returns-clause-early : goal.returns-clause-early
returns-clause-early g c =
    subst (λ xs. c.near.result.count ≤ ends_before c.args.x xs) (sym (seen_of c.self.view_is (kept_of c.self.invariant)).rows) c.near.ensures.early

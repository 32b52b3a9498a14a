-- One time more.
use Rattle.std.proofs.Common.{◌≡◌, ℕ, ◌+◌, ◌-◌, min, sym, ap, ◌∙◌, arith}
use Rattle.supply_find.specs.Spare.{least_by, most_by}
use Rattle.supply_find.proofs.Least.{least-more}
use Rattle.supply_find.proofs.Tables.{mapped-at, mapped-length}
use Rattle.supply_find.proofs.spare.spares.Goals as goal

pub loop-time-init : goal.loop-time-init
loop-time-init c =
    let cycle = c.args.cycle in
    let table = c.in_ok-table.table.items in
    let none : 0 ≡ cycle - cycle = omega arith in
    record {
      some = omega arith;
      len = mapped-length (λ (n : ℕ). n) table (cycle + 1) c.in_ok-table.ensures;
      least = λ k near. mapped-at (λ (n : ℕ). n) table (cycle + 1) k c.in_ok-table.ensures (omega (arith, near)) ∙ ap (λ n. least_by c.args.due.now c.args.arriving.now cycle n k) none;
    }

pub loop-time-preserved : goal.loop-time-preserved
loop-time-preserved c =
    let inv = c.loop-time.invariant in
    let due = c.args.due.now in
    let arriving = c.args.arriving.now in
    let cycle = c.args.cycle in
    let time = c.loop-time.time in
    record {
      some = omega (arith, inv.some);
      len = c.keep_lesser.ensures.len ∙ inv.len;
      least = λ k near.
          let f = most_by due arriving k in
          let here : cycle + (time - cycle) ≡ time = omega (arith, inv.some) in
          let next : time - cycle + 1 ≡ time + 1 - cycle = omega (arith, inv.some) in
          c.keep_lesser.ensures.kept k (omega (arith, inv.len, near))
          ∙ ap (λ n. min n (f time)) (inv.least k near)
          ∙ ap (λ x. min (least_by due arriving cycle (time - cycle) k) (f x)) (sym here)
          ∙ sym (least-more f k cycle (time - cycle))
          ∙ ap (λ n. least_by due arriving cycle n k) next;
    }

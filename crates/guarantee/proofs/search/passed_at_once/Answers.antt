use Rattle.std.proofs.Common.{arith}
use Rattle.guarantee.proofs.Tables.{IsSeen-place, place-end}
use Rattle.guarantee.proofs.search.passed_at_once.Goals as goal

pub far_end-far-requires-clause-after : goal.far_end-far-requires-clause-after
far_end-far-requires-clause-after g c =
    let (after, within) = place-end c.requires.table c.requires.place in
    omega (arith, after, within, c.requires.now, c.requires.near)

pub far_end-far-requires-clause-near : goal.far_end-far-requires-clause-near
far_end-far-requires-clause-near g c =
    let (after, within) = place-end c.requires.table c.requires.place in
    omega (arith, after, within, c.requires.now, c.requires.near)

pub overflow_add-near : goal.overflow_add-near
overflow_add-near g c =
    let (after, within) = place-end c.requires.table c.requires.place in
    omega (arith, after, within, c.requires.now, c.requires.near)

pub overflow_mul-near : goal.overflow_mul-near
overflow_mul-near g c =
    let (after, within) = place-end c.requires.table c.requires.place in
    omega (arith, after, within, c.requires.now, c.requires.near)

pub far_end-far-requires-clause-due : goal.far_end-far-requires-clause-due
far_end-far-requires-clause-due g c =
    (IsSeen-place c.requires.table c.requires.place).small

pub far_end-far-requires-clause-work : goal.far_end-far-requires-clause-work
far_end-far-requires-clause-work g c =
    (IsSeen-place c.requires.table c.requires.place).stands.work

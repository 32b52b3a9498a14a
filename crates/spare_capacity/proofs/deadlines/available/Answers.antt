use Rattle.std.proofs.Common.{◌≡◌, ◌+◌, pos, get_or, drop, sym, ap, ◌∙◌, w64, to_z, arith}
use Rattle.std.proofs.lemmas.Int.{ints}
use Rattle.spare_capacity.proofs.Steps.{no_row}
use Rattle.spare_capacity.proofs.Free.{free, free-small, StartBy-rest, StartBy-turn, StartBy-first, start-early, part-small, free-turn, free-last, free-all, available-free}
use Rattle.spare_capacity.proofs.deadlines.available.Goals as goal
use Rattle.spare_capacity.proofs.deadlines.available.Goals.{else-loop-row-test, then-loop-row-test+then-dl-row}

pub loop-row-init : goal.loop-row-init
loop-row-init c =
    record {
      sum = omega (arith, ints);
      small = omega arith;
      rest = StartBy-first c.args.dl c.args.rows.now c.requires.consecutive c.requires.filled c.requires.after;
    }

pub free_until-free-requires : goal.free_until-free-requires
free_until-free-requires c =
    start-early c.args.dl _ _ (StartBy-turn c.args.dl c.loop-row.row-index c.args.rows.now c.loop-row-test.true c.loop-row.invariant.rest)

pub overflow_add-free : goal.overflow_add-free
overflow_add-free c =
    let before = c.loop-row.invariant in
    let i = c.loop-row.row-index in
    let rows = c.args.rows.now in
    let turn = StartBy-turn c.args.dl i rows c.loop-row-test.true before.rest in
    let small = part-small c.args.dl c.free_until-free.result (get_or rows i no_row) (drop (i + 1) rows) turn c.free_until-free.ensures in
    omega (arith, small, before.small)

pub loop-row-preserved : goal.loop-row-preserved
loop-row-preserved c =
    let before = c.loop-row.invariant in
    let i = c.loop-row.row-index in
    let rows = c.args.rows.now in
    let turn = StartBy-turn c.args.dl i rows c.loop-row-test.true before.rest in
    record {
      sum = free-turn c.args.dl i c.loop-row.free c.free_until-free.result rows c.loop-row-test.true c.if-dl-row.false c.free_until-free.ensures before.sum;
      small = omega (arith, part-small c.args.dl c.free_until-free.result (get_or rows i no_row) (drop (i + 1) rows) turn c.free_until-free.ensures, before.small);
      rest = StartBy-rest c.args.dl (get_or rows i no_row) (drop (i + 1) rows) turn c.if-dl-row.false;
    }

pub overflow_cast-result : goal.overflow_cast-result
overflow_cast-result c =
    let dl = c.args.dl in
    let rows = c.args.rows.now in
    let start = StartBy-first dl rows c.requires.consecutive c.requires.filled c.requires.after in
    let before = c.loop-row.invariant in
    let is : pos c.loop-row-test.free ≡ free dl rows = elim c.loop-row-test.branch [
      | else-loop-row-test w ↦
          ap pos w.free-is ∙ free-all dl c.loop-row.row-index c.loop-row.free rows w.loop-row-test.false before.sum
      | then-loop-row-test+then-dl-row w ↦
          ap pos w.free-is ∙ free-last dl c.loop-row.row-index c.loop-row.free w.free_until-free.result rows w.loop-row-test.true w.if-dl-row.true w.free_until-free.ensures before.sum
    ] in
    omega (arith, ints, free-small dl rows start, c.requires.few)

pub returns : goal.returns
returns c =
    let dl = c.args.dl in
    let rows = c.args.rows.now in
    let before = c.loop-row.invariant in
    let is : pos c.loop-row-test.free ≡ free dl rows = elim c.loop-row-test.branch [
      | else-loop-row-test w ↦
          ap pos w.free-is ∙ free-all dl c.loop-row.row-index c.loop-row.free rows w.loop-row-test.false before.sum
      | then-loop-row-test+then-dl-row w ↦
          ap pos w.free-is ∙ free-last dl c.loop-row.row-index c.loop-row.free w.free_until-free.result rows w.loop-row-test.true w.if-dl-row.true w.free_until-free.ensures before.sum
    ] in
    let start = StartBy-first dl rows c.requires.consecutive c.requires.filled c.requires.after in
    let cast : to_z w64 c.loop-row-test.free ≡ pos c.loop-row-test.free = omega (arith, ints, free-small dl rows start, c.requires.few, is) in
    cast ∙ is ∙ sym (available-free dl rows c.requires.consecutive c.requires.after c.requires.first)

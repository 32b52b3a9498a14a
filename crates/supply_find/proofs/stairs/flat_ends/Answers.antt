use Rattle.std.proofs.Common.{◌≡◌, ◌-◌, true, false, append-nil, filter, length, sym, ap, ◌∙◌, arith}
use Rattle.std.specs.List.{range_with_len}
use Rattle.supply_find.specs.Stairs.{is_flat_end}
use Rattle.supply_find.proofs.Tables.{flat-step}
use Rattle.supply_find.proofs.stairs.flat_ends.Goals.{then-is_flat_end+in_ok-push, else-is_flat_end}
use Rattle.supply_find.proofs.stairs.flat_ends.Goals as goal

pub loop-place-preserved : goal.loop-place-preserved
loop-place-preserved c =
    let inv = c.loop-place.invariant in
    let p = is_flat_end c.args.numbers.now in
    record {
      some = omega arith;
      most = omega (arith, c.loop-place-test.true);
      ends = elim c.if-is_flat_end.branch [
        | then-is_flat_end+in_ok-push w ↦ flat-step p c.loop-place.place c.loop-place.ends c.if-is_flat_end.ends true inv.some inv.ends (sym c.is_flat_end.ensures ∙ w.if-is_flat_end.true) (w.ends-is ∙ w.in_ok-push.ensures.ok)
        | else-is_flat_end w ↦ flat-step p c.loop-place.place c.loop-place.ends c.if-is_flat_end.ends false inv.some inv.ends (sym c.is_flat_end.ensures ∙ w.if-is_flat_end.false) (w.ends-is ∙ sym (append-nil c.loop-place.ends))
      ];
    }

pub returns : goal.returns
returns c =
    let inv = c.loop-place.invariant in
    let same : c.loop-place.place - 1 ≡ length c.args.numbers.now - 1 = omega (arith, inv.some, inv.most, c.loop-place-test.false) in
    inv.ends ∙ ap (λ n. filter (is_flat_end c.args.numbers.now) (range_with_len 1 n)) same

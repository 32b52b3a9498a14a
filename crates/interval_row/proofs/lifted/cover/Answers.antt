use Rattle.std.proofs.Common.{◌≡◌, ℤ, arith, ap, set, slice_get, sym, ◌∙◌}
use Rattle.std.specs.Int.{int_max}
use Rattle.std.proofs.lemmas.Int.{ints, clamps}
use Rattle.std.proofs.lemmas.List.{set-get_or}
use Rattle.std.proofs.lemmas.Option.{get_or_from_slice_get}
use Rattle.node_chain.specs.Laps.{blank_lift}
use Rattle.interval_row.specs.Marks.{mark_index}
use Rattle.interval_row.proofs.lifted.cover.Goals as goal

pub returns-else-lift-span-clause-laps : goal.returns-else-lift-span-clause-laps
returns-else-lift-span-clause-laps g c =
    let laps = g.S.Shelf.laps c.args.shelf.now in let s = c.args.span in
    let i = mark_index s.end in let lift = c.lift-lift.result in
    let at = ap (slice_get laps.lifts) (sym c.mark_index-index.ensures) ∙ c.lift-lift.ensures in
    let same : int_max lift.high s.spare ≡ lift.high = omega (arith, ints, clamps, c.if-lift-span.false) in
    let put = ap (set laps.lifts i) (ap (λ (x : ℤ). record lift { high = x }) same ∙ sym (get_or_from_slice_get laps.lifts i lift blank_lift at)) ∙ set-get_or laps.lifts i blank_lift in
    ap (λ ls. record laps { lifts = ls }) (sym put)

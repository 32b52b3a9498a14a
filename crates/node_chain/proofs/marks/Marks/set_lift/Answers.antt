use Rattle.std.proofs.Common.{◌≡◌, ◌+◌, ◌-◌, ◌%◌, ◌^◌, ◌+ℤ◌, ◌-ℤ◌, ◌∙◌, ap, arith, rules, slice_set, w64, to_z, of_z, FitsSigned}
use Rattle.std.proofs.lemmas.Int.{int_wrap-add_left, int_wrap_fits, ints, to_z-of_z, wraps}
use Rattle.std.specs.Int.{int_wrap}
use Rattle.node_chain.specs.Laps.{lift_over}
use Rattle.node_chain.proofs.SideBySide.{set-paired}
use Rattle.node_chain.proofs.marks.Marks.set_lift.Goals as goal

pub returns : goal.returns
returns c =
    let l = c.args.lift in
    let fits : FitsSigned w64 l.high = search rules in
    let too : FitsSigned w64 l.add = search rules in
    let top : to_z w64 ((of_z w64 l.high + (2 ^ 64 - of_z w64 l.add)) % 2 ^ 64) ≡ int_wrap w64 (l.high -ℤ l.add) = search (rules, wraps) in
    let high : int_wrap w64 (int_wrap w64 (l.high -ℤ l.add) +ℤ l.add) ≡ l.high =
    int_wrap-add_left w64 (l.high -ℤ l.add) l.add ∙ ap (int_wrap w64) (omega (arith, ints)) ∙ int_wrap_fits w64 l.high fits in
    let lift : lift_over (to_z w64 ((of_z w64 l.high + (2 ^ 64 - of_z w64 l.add)) % 2 ^ 64)) (to_z w64 (of_z w64 l.add)) ≡ l =
    (λ i. lift_over (top i) (to_z-of_z w64 l.add too i)) ∙ (λ i. record { high = high i; add = l.add }) in
    let lifts = set-paired lift_over c.self.inside.tops.items c.self.inside.adds.items c.args.index _ _
    ∙ (λ i. slice_set (c.self.view_is i).lifts c.args.index (lift i)) in
    λ i. record { marks = (c.self.view_is i).marks; lifts = lifts i }

use Rattle.std.proofs.Common.{◌≡◌, ◌^◌, ◌∙◌, ap, ℤ, neg_ℤ, pos, rules, replicate, w64, FitsSigned}
use Rattle.std.proofs.lemmas.Int.{int_wrap_fits}
use Rattle.node_chain.specs.declared.marks.TheConstants.{LAP}
use Rattle.node_chain.specs.Laps.{blank_lift, lift_over, made_mark, paired}
use Rattle.node_chain.proofs.SideBySide.{replicate-paired}
use Rattle.node_chain.proofs.marks.Marks.new.Goals as goal

pub returns : goal.returns
returns c =
    let least : ℤ = neg_ℤ (pos (2 ^ 63)) in
    let fits : FitsSigned w64 least = search rules in
    let blank : lift_over least (pos 0) ≡ blank_lift = λ i. record { high = int_wrap_fits w64 least fits i; add = pos 0 } in
    let counts : c.in_ok-vec.field-0.items ≡ replicate LAP 0 = search rules in
    let rests : c.in_ok-vec-2.field-0.items ≡ replicate LAP (record { works = 0; low = 0 }) = search rules in
    let tops : c.in_ok-vec-3.field-0.items ≡ replicate LAP (neg_ℤ (pos (2 ^ 63))) = search rules in
    let adds : c.in_ok-vec-4.field-0.items ≡ replicate LAP (pos 0) = search rules in
    let marks = (λ i. paired made_mark (counts i) (rests i)) ∙ replicate-paired made_mark LAP 0 (record { works = 0; low = 0 }) in
    let lifts = (λ i. paired lift_over (tops i) (adds i)) ∙ replicate-paired lift_over LAP least (pos 0) ∙ ap (replicate LAP) blank in
    λ i. record { marks = marks i; lifts = lifts i }

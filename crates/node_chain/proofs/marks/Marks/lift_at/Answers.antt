use Rattle.std.proofs.Common.{◌≡◌, ◌+◌, ◌%◌, ◌^◌, ◌+ℤ◌, ◌∙◌, rules, Some, slice_get, subst, sym, w64, to_z, of_z, FitsSigned}
use Rattle.std.proofs.lemmas.Int.{to_z-of_z, wraps}
use Rattle.std.proofs.lemmas.Option.{slice_get_read}
use Rattle.std.specs.Int.{int_wrap}
use Rattle.node_chain.specs.declared.marks.TheConstants.{LAP}
use Rattle.node_chain.specs.Laps.{Laps, lift_over}
use Rattle.node_chain.proofs.SideBySide.{slice_get-paired}
use Rattle.node_chain.proofs.marks.Marks.lift_at.Goals as goal

pub returns : goal.returns
returns c =
    let t = c.index.result.now in
    let a = c.index-add.result.now in
    let fits : FitsSigned w64 a = search rules in
    let high : to_z w64 ((of_z w64 t + of_z w64 a) % 2 ^ 64) ≡ int_wrap w64 (t +ℤ a) = search (rules, wraps) in
    let top = slice_get_read c.self.inside.tops.items LAP c.args.index t (sym c.self.invariant.2) c.requires c.index.ensures in
    let add = slice_get_read c.self.inside.adds.items LAP c.args.index a (sym c.self.invariant.3) c.requires c.index-add.ensures in
    subst (λ (v : Laps). slice_get v.lifts c.args.index ≡ Some (lift_over t a)) c.self.view_is (slice_get-paired lift_over c.self.inside.tops.items c.self.inside.adds.items c.args.index t a top add)
    ∙ (λ i. Some (record { high = sym high i; add = sym (to_z-of_z w64 a fits) i }))

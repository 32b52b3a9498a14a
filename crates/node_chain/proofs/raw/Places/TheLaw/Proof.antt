use mathlib.Core.List.{[], ◌++◌}
use base.Fml.{Incl-trans}
use contract.BorrowLft.{meet_⊑_left}
use denote.RattleType.{RattleType}
use denote.RawPtr.{RawPtr}
use denote.Param.Laws.{Laws}
use denote.Param.Shared.{copy_shared}
use denote.Struct.Laws.{field_copy}
use denote.Struct.Lending.{of_Lends}
use Rattle.std.specs.contracts.marker.PhantomData as marker
use Rattle.node_chain.specs.contracts.raw.Places as C
use Rattle.node_chain.proofs.raw.Places.TheLaw.Statement.{statement}
use Rattle.node_chain.proofs.Lending.{places-shown, places-lent}

pub shares : (R : RattleType) (L : Laws R) → statement R L
shares R L =
    let no_bytes = copy_shared (marker.the_field RawPtr) (field_copy (marker.the_type RawPtr) tt) in
    of_Lends (C.struct R) (C.the_codes R.Denot R.coded (marker.the_row RawPtr).coded) (C.the_heap R) (C.the_lent R)
    (λ d p. places-shown R L.shr_laws d.at d.held) (no_bytes, tt)
    (λ M 𝓤 𝓛 d p. places-lent 𝓛 (C.the_row R).lives R L (Incl-trans (meet_⊑_left (R.lives ++ []) _) (meet_⊑_left R.lives [])) d.at d.held)

-- A reference to a block's owner is made where one to each of its values is.
use Prim.Native.Nat.{ℕ, ◌+◌}
use Rattle.std.specs.Prelude.{List, [], ◌∷◌, Option, Some, None}
use Rattle.std.specs.Mem.{type_size}
use seplogic.Ra.Ura.{Ura}
use base.Fml.{Lft, Incl, ftrue, ffalse}
use types.Logic.{Logic}
use denote.RattleType.{RattleType, RowLaws}
use denote.Param.Laws.{Laws}
use denote.RawPtr.{Ptr, block_ptr, null_ptr}
use denote.Sharing.{ShrLaws, said}
use denote.SharingLaws.{beside_shr_laws, nothing_shr_laws, said_shr_laws}
use denote.Shares.{Shares-less}
use denote.Struct.Lending.{Lends, Lends-both, Lends-nothing, Lends-said, Lends-false}
use Rattle.node_chain.specs.Ownership.{place, places, place_lent, side_by_side_lent, fit, places_owned, places_lent}

-- what a reference shows may be shown again, for as long or for less
module _ (R : RattleType) (laws : RowLaws R) where
  place-shown : (b o : ℕ) (p : Option R.Denot) → ShrLaws (place_lent R b o p)
  place-shown b o None = nothing_shr_laws
  place-shown b o (Some x) = laws x b o

  row-shown : (b o : ℕ) (ps : List (Option R.Denot)) → ShrLaws (side_by_side_lent R b o ps)
  row-shown b o [] = nothing_shr_laws
  row-shown b o (p ∷ ps) =
      beside_shr_laws _ _ (place-shown b o p) (row-shown b (o + type_size R) ps)

  pub places-shown : (at : Ptr) (ps : List (Option R.Denot)) → ShrLaws (places_lent R at ps)
  places-shown null_ptr ps = said_shr_laws ffalse tt
  places-shown (block_ptr b o) ps =
      beside_shr_laws _ _ (said_shr_laws (fit R ps) tt) (row-shown b o ps)

-- what is owned is lent for as long as the values live
module _ {M : Type 1} {𝓤 : Ura M} (𝓛 : Logic 𝓤) (κ : Lft) (R : RattleType) (L : Laws R) (inside : Incl κ R.lives) where
  place-lent : (b o : ℕ) (p : Option R.Denot) → Lends 𝓛 (place R b o p) (place_lent R b o p) κ
  place-lent b o None = Lends-nothing 𝓛 (place R b o None) κ
  place-lent b o (Some x) =
      λ κ' token. Shares-less 𝓛 R R.lives κ inside (L.shares 𝓛) x κ' token b o

  row-lent : (b o : ℕ) (ps : List (Option R.Denot)) → Lends 𝓛 (places R b o ps) (side_by_side_lent R b o ps) κ
  row-lent b o [] = Lends-nothing 𝓛 ftrue κ
  row-lent b o (p ∷ ps) =
      let next = o + type_size R in
      Lends-both 𝓛 (place R b o p) (places R b next ps) (place_lent R b o p) (side_by_side_lent R b next ps) κ
      (place-lent b o p) (row-lent b next ps)

  pub places-lent : (at : Ptr) (ps : List (Option R.Denot)) → Lends 𝓛 (places_owned R at ps) (places_lent R at ps) κ
  places-lent null_ptr ps = Lends-false 𝓛 (said ffalse) κ
  places-lent (block_ptr b o) ps =
      Lends-both 𝓛 (fit R ps) (places R b o ps) (said (fit R ps)) (side_by_side_lent R b o ps) κ
      (Lends-said 𝓛 (fit R ps) tt κ) (row-lent b o ps)

-- What the parts of a block own and lend, where its items are those of a row.
use Rattle.std.specs.Prelude.{ℕ, ◌+◌, ◌*◌, ◌^◌, List, [], ◌∷◌, length, Option, Some, None}
use Rattle.std.specs.Mem.{type_size}
use base.Fraction.{full_share}
use base.Fml.{Lft, Fml, ftrue, ffalse, fsep, flt, froom}
use mir.Syntax.{Ty, ty_array}
use mir.Raw.{raw}
use denote.RattleType.{RattleType}
use denote.Memory.{lone, part_at, shared_of}
use denote.Sharing.{nothing, said, beside}
use denote.RawPtr.{Ptr, block_ptr, null_ptr}

module _ (R : RattleType) where
  -- a place that lies so many bytes into a block: its value, or room for one
  abbrev pub place : ℕ → ℕ → Option R.Denot → Fml
  place b o (Some x) = part_at R full_share x b o
  place b o None = froom (raw (lone R.mir)) b o

  -- places side by side
  abbrev pub places : ℕ → ℕ → List (Option R.Denot) → Fml
  places b o [] = ftrue
  places b o (p ∷ ps) = fsep (place b o p) (places b (o + type_size R) ps)

  -- what a reference to a block shows of one place
  abbrev pub place_lent : ℕ → ℕ → Option R.Denot → Lft → Fml
  place_lent b o (Some x) = shared_of R x b o
  place_lent b o None = nothing

  -- what a reference to a block shows of its places
  abbrev pub side_by_side_lent : ℕ → ℕ → List (Option R.Denot) → Lft → Fml
  side_by_side_lent b o [] = nothing
  side_by_side_lent b o (p ∷ ps) =
      beside (place_lent b o p) (side_by_side_lent b (o + type_size R) ps)

  -- all places together take fewer than 2 ^ 63 bytes
  abbrev pub fit : List (Option R.Denot) → Fml
  fit ps = flt (length ps * type_size R) (2 ^ 63)

  -- the owner's part: the places from a pointer on
  abbrev pub places_owned : Ptr → List (Option R.Denot) → Fml
  places_owned (block_ptr b o) ps = fsep (fit ps) (places b o ps)
  places_owned null_ptr ps = ffalse

  -- what a reference to the owner shows
  abbrev pub places_lent : Ptr → List (Option R.Denot) → Lft → Fml
  places_lent (block_ptr b o) ps = beside (said (fit ps)) (side_by_side_lent b o ps)
  places_lent null_ptr ps = said ffalse

  -- the allocator's token for a block of n places
  abbrev pub permits : (Ty → Ptr → Fml) → Ptr → ℕ → Fml
  permits token p n = token (raw (ty_array (lone R.mir) n)) p

-- The size and the alignment of a block of n places, as an allocator is asked for them.
use mathlib.Core.Path.{◌≡◌, sym, ap, ◌∙◌}
use Prim.Native.Nat.{ℕ, zero, suc, ◌*◌, ◌<◌, ◌^◌}
use native.Mathlib.Nat.{zero-mul, suc-mul}
use native.Mathlib.Omega.{arith}
use mathlib.Core.List.{[], ◌∷◌}
use mir.Syntax.{Ty, Args, a_type, ty_array, dcons, dnil}
use mir.Raw.{raw as bare}
use prog.Memory.{size, align, capped}
use prog.Capped.{capped_is}
use prog.RawLaws.{size-raw, align-raw}
use denote.RattleType.{RattleType}
use denote.Param.{param, bounded}
use Rattle.std.proofs.mem.Param.{El, elτ}
use Rattle.std.proofs.alloc.Calls.{Al}
use Rattle.node_chain.proofs.Blocks.{width}

-- a size below the cap is that size
pub uncapped : (n k : ℕ) → n * k < 2 ^ 64 → n * capped k ≡ n * k
uncapped zero k fits = zero-mul (capped k) ∙ sym (zero-mul k)
uncapped (suc n) k fits =
    let more = suc-mul n k in
    ap (λ (j : ℕ). suc n * j) (capped_is k (omega arith))

module _ (E : El) where
  -- the type of a block of n places
  abbrev pub block_ty : ℕ → Ty
  block_ty n = bare (ty_array (elτ E) n)

  -- its size
  pub block_size : (n : ℕ) → n * width E < 2 ^ 64 → capped (size (block_ty n)) ≡ n * width E
  block_size n fits = ap capped (size-raw (ty_array (elτ E) n)) ∙ capped_is (n * width E) fits

  -- its alignment
  pub block_align : (n : ℕ) → capped (align (block_ty n)) ≡ capped (align (elτ E))
  block_align n = ap capped (align-raw (ty_array (elτ E) n))

module _ (E : El) (Z : Al) where
  -- what stands for the two type parameters
  abbrev pub both : Args
  both = bounded (a_type ∷ a_type ∷ []) (E.row, (Z.row, tt)) (dcons Z.d (dcons Z.drops dnil))

  abbrev pub Handle : RattleType
  Handle = param 1 Z.row

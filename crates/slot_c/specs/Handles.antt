-- What a handle owns.
use Rattle.std.specs.Prelude.{Bool, true, false}
use base.Fml.{Fml, ftrue}
use denote.RattleType.{RattleType}
use denote.RawPtr.{Ptr}
use Rattle.std.specs.Box.Ownership.{box_owns}
use Rattle.std.specs.Global.{Global}
use Rattle.std.specs.contracts.impls.GlobalAllocator.TheImpl.{ghosts as heap_ghosts}
use Rattle.slot_core.specs.Keeping.Executives.{Executive}
use Rattle.slot_c.specs.contracts.unit.Unit.{the_row as unit_row}

-- an executive with its list
abbrev pub row : RattleType
row = unit_row

-- where one is there, what a box of it owns at this place; else nothing
abbrev pub owned_where : Bool → Global → Ptr → Executive → Fml
owned_where true alloc at value = box_owns (heap_ghosts.dealloc_token alloc) row at value
owned_where false alloc at value = ftrue

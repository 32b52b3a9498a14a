-- The rows of an executive in a box, of its parts and of its handle: all three own the same.
use mathlib.Core.List.{[]}
use mir.Syntax.{impl, tnil, dnil}
use denote.Signature.{Slot, plain}
use Rattle.std.proofs.BoxSteps.Form.{Bx}
use Rattle.std.specs.contracts.alloc.Global as heap
use Rattle.std.proofs.alloc.Global.TheLaws as heap_laws
use Rattle.std.specs.contracts.impls.GlobalAllocator.TheImpl.{ghosts, dict}
use Rattle.slot_c.proofs.unit.Unit.TheLaws as unit_laws
use Rattle.slot_c.specs.Handles.{row}
use Rattle.slot_c.specs.contracts.box_parts.BoxParts as parts
use Rattle.slot_c.specs.contracts.handle.Handle as handle

-- a box of an executive
abbrev pub boxed : Bx
boxed = record {
  row = row;
  laws = unit_laws.the_row_laws;
  al = record {
    row = heap.the_row;
    laws = heap_laws.the_row_laws;
    g = ghosts;
    d = dict;
    drops = impl [] tnil dnil;
  };
}

-- its parts as a parameter
abbrev pub FromParts : Slot 0
FromParts = plain (λ _. parts.the_row row heap.the_row ghosts)

-- its handle as a parameter
abbrev pub FromHandle : Slot 0
FromHandle = plain (λ _. handle.the_row)

-- an allocator as a parameter
abbrev pub FromAlloc : Slot 0
FromAlloc = plain (λ _. heap.the_row)

-- The versions that are refused, and the faults of a task set that a table may have.
use Rattle.std.specs.Prelude.{◌≡◌, ◌≢◌, ◌++◌, ℕ, List, codes, ⊤}
use Rattle.slot_core.specs.declared.faults.TaskFault.{TaskFault}
use Rattle.slot_core.specs.declared.faults.TaskFault.TheVariants.{Memory, NotToml, UnknownKey, WrongKind}
use Rattle.table_codec.specs.Grammar.{index_form}

-- the bytes begin as a table of this version, which is neither of the two
pub record NamesUnknown (bytes : List ℕ) (version : ℕ) : Type 0 where
  pub begins : (more : List ℕ) × (bytes ≡ codes "SLOT" ++ (index_form.written version ++ more))
  pub not_first : version ≢ 1
  pub not_second : version ≢ 2

-- a fault that a set may have which is no text: neither want of memory nor a fault of TOML
abbrev pub IsOfSet : TaskFault → Type 0
IsOfSet Memory = ⊥
IsOfSet NotToml = ⊥
IsOfSet (UnknownKey _) = ⊥
IsOfSet (WrongKind _) = ⊥
IsOfSet _ = ⊤

-- A text that is no key's word is unknown to every table.
use Rattle.std.proofs.Common.{◌≡◌, ℕ, false, List, Some, None, Option, sym}
use Rattle.std.specs.Str.{bytes_eq}
use Rattle.std.proofs.lemmas.Bool.{false_from_ne_true}
use Rattle.std.proofs.lemmas.Slice.Eq.{bytes_eq-Decides}
use Rattle.slot_core.specs.declared.faults.Part.{Part}
use Rattle.slot_core.specs.declared.faults.Part.TheVariants.{Top, Graph as GraphPart, Task as TaskPart, Sporadic as SporadicPart}
use Rattle.unit_toml.specs.declared.keys.UnitKey.{UnitKey}
use Rattle.unit_toml.specs.declared.keys.UnitKey.TheVariants.{Slot, Overhead, Soft, Graph, Sporadic, Name, Period, Offset, Deadline, Task, Wcet, After, Separation, Plan, Arrives}
use Rattle.unit_toml.specs.FaultTexts.{key_word}
use Rattle.unit_toml.specs.UnitFields.{knows_key}
use Rattle.unit_toml.proofs.fields.knows_key.Goals as goal

no_option : {X : Type 0} (x : X) → let none : Option X = None in none ≡ Some x → ⊥
no_option x e = cc

unknown : (part : Part) (text : List ℕ) → ((key : UnitKey) → bytes_eq (key_word key) text ≡ false) → knows_key part text ≡ false
unknown Top text other = rw (other Slot, other Overhead, other Soft, other Graph, other Sporadic)
unknown (GraphPart g) text other = rw (other Name, other Period, other Offset, other Deadline, other Task)
unknown (TaskPart g t) text other = rw (other Name, other Wcet, other After)
unknown (SporadicPart s) text other = rw (other Name, other Wcet, other Separation, other Plan, other Deadline, other Arrives)

pub returns-in-None : goal.returns-in-None
returns-in-None c =
    sym (unknown c.args.part c.args.text.now (λ key.
    false_from_ne_true (bytes_eq (key_word key) c.args.text.now) (λ same.
    no_option key (c.in-None.ensures.every key ((bytes_eq-Decides (key_word key) c.args.text.now).0 same)))))

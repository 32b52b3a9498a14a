-- A text that is no key's word is unknown to every table.
use Rattle.std.proofs.Common.{◌≡◌, ℕ, false, List, Some, None, Option, sym}
use Rattle.std.specs.Str.{bytes_eq}
use Rattle.std.proofs.lemmas.Bool.{false_from_ne_true}
use Rattle.std.proofs.lemmas.Slice.Eq.{bytes_eq-Decides}
use Rattle.slot_core.specs.declared.faults.Part.{Part}
use Rattle.slot_core.specs.declared.faults.Part.TheVariants.{Top, Graph as GraphPart, Task as TaskPart, Sporadic as SporadicPart}
use Rattle.slot_core.specs.declared.faults.Field.{Field}
use Rattle.slot_core.specs.declared.faults.Field.TheVariants.{Soft, Graph, Sporadic, Name, Period, Offset, Deadline, Task, Wcet, After, Separation}
use Rattle.slot_core.specs.Output.FaultTexts.{field_word}
use Rattle.task_toml.specs.TomlFields.{knows_key}
use Rattle.task_toml.proofs.fields.knows_key.Goals as goal

no_option : {X : Type 0} (x : X) → let none : Option X = None in none ≡ Some x → ⊥
no_option x e = cc

unknown : (part : Part) (key : List ℕ) → ((field : Field) → bytes_eq (field_word field) key ≡ false) → knows_key part key ≡ false
unknown Top key other = rw (other Soft, other Graph, other Sporadic)
unknown (GraphPart g) key other = rw (other Name, other Period, other Offset, other Deadline, other Task)
unknown (TaskPart g t) key other = rw (other Name, other Wcet, other After)
unknown (SporadicPart s) key other = rw (other Name, other Wcet, other Separation, other Deadline)

pub returns-in-None : goal.returns-in-None
returns-in-None c =
    sym (unknown c.args.part c.args.key.now (λ field.
    false_from_ne_true (bytes_eq (field_word field) c.args.key.now) (λ same.
    no_option field (c.in-None.ensures.every field ((bytes_eq-Decides (field_word field) c.args.key.now).0 same)))))

-- Each key's word is found, since no two keys have one word.
use Rattle.std.proofs.Common.{◌≡◌, List, [], ◌∷◌, Some, refl, subst, sym, ◌∙◌}
use Rattle.std.specs.Prelude.{find}
use Rattle.std.specs.Str.{bytes_eq}
use Rattle.slot_core.specs.declared.faults.Field.{Field}
use Rattle.slot_core.specs.declared.faults.Field.TheVariants.{Soft, Graph, Sporadic, Name, Period, Offset, Deadline, Task, Wcet, After, Separation}
use Rattle.slot_core.specs.Output.FaultTexts.{field_word}
use Rattle.slot_core.proofs.faults.Field.of.Goals as goal

abbrev fields : List Field
fields = Soft ∷ Graph ∷ Sporadic ∷ Name ∷ Period ∷ Offset ∷ Deadline ∷ Task ∷ Wcet ∷ After ∷ Separation ∷ []

-- the key is the first of its word
first : (field : Field) → find (λ f. bytes_eq (field_word f) (field_word field)) fields ≡ Some field
first Soft = refl
first Graph = refl
first Sporadic = refl
first Name = refl
first Period = refl
first Offset = refl
first Deadline = refl
first Task = refl
first Wcet = refl
first After = refl
first Separation = refl

pub returns-clause-every : goal.returns-clause-every
returns-clause-every c = λ field same. subst (λ text. c.field_of.result ≡ find (λ f. bytes_eq (field_word f) text) fields) (sym same) c.field_of.ensures.first ∙ first field

-- Each key's word is found, since no two keys have one word.
use Rattle.std.proofs.Common.{◌≡◌, List, [], ◌∷◌, Some, refl, subst, sym, ◌∙◌}
use Rattle.std.specs.Prelude.{find}
use Rattle.std.specs.Str.{bytes_eq}
use Rattle.unit_toml.specs.declared.keys.UnitKey.{UnitKey}
use Rattle.unit_toml.specs.declared.keys.UnitKey.TheVariants.{Slot, Overhead, Soft, Graph, Sporadic, Name, Period, Offset, Deadline, Task, Wcet, After, Separation, Plan, Arrives}
use Rattle.unit_toml.specs.FaultTexts.{key_word}
use Rattle.unit_toml.proofs.keys.UnitKey.of.Goals as goal

abbrev keys : List UnitKey
keys = Slot ∷ Overhead ∷ Soft ∷ Graph ∷ Sporadic ∷ Name ∷ Period ∷ Offset ∷ Deadline ∷ Task ∷ Wcet ∷ After ∷ Separation ∷ Plan ∷ Arrives ∷ []

-- the key is the first of its word
first : (key : UnitKey) → find (λ k. bytes_eq (key_word k) (key_word key)) keys ≡ Some key
first Slot = refl
first Overhead = refl
first Soft = refl
first Graph = refl
first Sporadic = refl
first Name = refl
first Period = refl
first Offset = refl
first Deadline = refl
first Task = refl
first Wcet = refl
first After = refl
first Separation = refl
first Plan = refl
first Arrives = refl

pub returns-clause-every : goal.returns-clause-every
returns-clause-every c = λ key same. subst (λ text. c.key_of.result ≡ find (λ k. bytes_eq (key_word k) text) keys) (sym same) c.key_of.ensures.first ∙ first key

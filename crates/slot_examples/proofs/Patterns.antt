-- Patterns of sporadic arrivals that are legal, and others.
use Rattle.std.specs.Prelude.{◌≡◌, ℕ, zero, suc, ◌<◌, max, List, [], ◌∷◌, codes, slice_get, slice_index_or, Some, refl}
use Rattle.std.specs.List.{AllByRecursion}
use Rattle.std.proofs.Common.{arith, subst}
use Rattle.std.proofs.lemmas.List.Elements.{All-from_recursion, All-head}
use Rattle.slot_core.specs.declared.tasks.Sporadic.{Sporadic}
use Rattle.slot_core.specs.Feasibility.Sporadics.{AreSpaced, times_of, IsLegalPattern}
use Rattle.sample_sets.specs.Sets.{sporadic}

-- there is no task but the one
spaced-each :
    (alarm : Sporadic) (nexts : List ℕ) (from : ℕ) (pattern : List (ℕ × ℕ))
    → AreSpaced alarm.separation (max from (slice_index_or nexts 0 0)) (times_of 0 pattern)
    → (index : ℕ) (s : Sporadic) → slice_get (alarm ∷ []) index ≡ Some s
    → AreSpaced s.separation (max from (slice_index_or nexts index 0)) (times_of index pattern)
spaced-each alarm nexts from pattern spaced zero s at =
    let same : alarm ≡ s = cc at in
    subst (λ (o : Sporadic). AreSpaced o.separation (max from (slice_index_or nexts 0 0)) (times_of 0 pattern)) same spaced
spaced-each alarm nexts from pattern spaced (suc index) s at = cc

-- a pattern of arrivals of one task alone is legal where its times are spaced
pub IsLegalPattern-of_one :
    (alarm : Sporadic) (nexts : List ℕ) (from : ℕ) (pattern : List (ℕ × ℕ))
    → AllByRecursion (λ (a : ℕ × ℕ). a.0 < 1) pattern
    → AreSpaced alarm.separation (max from (slice_index_or nexts 0 0)) (times_of 0 pattern)
    → IsLegalPattern (alarm ∷ []) nexts from pattern
IsLegalPattern-of_one alarm nexts from pattern named spaced =
    record {
      named = All-from_recursion (λ (a : ℕ × ℕ). a.0 < 1) pattern named;
      spaced = spaced-each alarm nexts from pattern spaced;
    }

-- one task, whose arrivals are two slots apart
abbrev alarm : Sporadic
alarm = sporadic (codes "s") 1 2 1

-- from time 0, with no next arrival given: one at 0 and one two slots later
pub at_0_and_2 : IsLegalPattern (alarm ∷ []) [] 0 ((0, 0) ∷ (0, 2) ∷ [])
at_0_and_2 =
    IsLegalPattern-of_one alarm [] 0 ((0, 0) ∷ (0, 2) ∷ []) (omega arith, (omega arith, tt)) (omega arith, (omega arith, tt))

-- one slot later is too soon
pub at_0_and_1 : IsLegalPattern (alarm ∷ []) [] 0 ((0, 0) ∷ (0, 1) ∷ []) → ⊥
at_0_and_1 legal =
    let apart : AreSpaced 2 0 (0 ∷ 1 ∷ []) = legal.spaced 0 alarm refl in
    omega (arith, apart.1.0)

-- where the next arrival is 3, one at 3 is legal from time 0, and one at 2 is not
pub at_3 : IsLegalPattern (alarm ∷ []) (3 ∷ []) 0 ((0, 3) ∷ [])
at_3 = IsLegalPattern-of_one alarm (3 ∷ []) 0 ((0, 3) ∷ []) (omega arith, tt) (omega arith, tt)

pub at_2_before_3 : IsLegalPattern (alarm ∷ []) (3 ∷ []) 0 ((0, 2) ∷ []) → ⊥
at_2_before_3 legal =
    let apart : AreSpaced 2 3 (2 ∷ []) = legal.spaced 0 alarm refl in
    omega (arith, apart.0)

-- no task has the number 1
pub of_no_task : IsLegalPattern (alarm ∷ []) [] 0 ((1, 0) ∷ []) → ⊥
of_no_task legal =
    let named = All-head (λ (a : ℕ × ℕ). a.0 < 1) (1, 0) [] legal.named in
    omega (arith, named)

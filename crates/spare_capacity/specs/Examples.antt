-- Worked capacities: each holds by computing the definitions.
use Rattle.std.specs.Prelude.{◌≡◌, ℕ, ℤ, pos, negsuc, List, [], ◌∷◌, ◌++◌, refl}
use Rattle.slot_core.specs.declared.jobs.Span.{Span}
use Rattle.spare_capacity.specs.Recurrence.{filled}
use Rattle.spare_capacity.specs.Available.{available}
use Rattle.spare_capacity.specs.Lending.{carry, moved}

-- a span
abbrev pub span : ℕ → ℕ → ℕ → ℤ → Span
span start end work spare = record { start = start; end = end; work = work; spare = spare }

-- three cycles of a set in which every second span lacks two slots
abbrev borrowing : List Span
borrowing =
    span 0 4 1 (pos 1)
    ∷ span 4 10 8 (negsuc 1)
    ∷ span 10 14 1 (pos 1)
    ∷ span 14 20 8 (negsuc 1)
    ∷ span 20 24 1 (pos 1)
    ∷ span 24 30 8 (negsuc 1)
    ∷ []

pub borrowing_filled : filled borrowing ≡ borrowing
borrowing_filled = refl

-- a deadline in the current span, in the next one, which borrows, and at its end
pub free_by_2 : available borrowing 2 ≡ pos 1
free_by_2 = refl

pub free_by_5 : available borrowing 5 ≡ pos 1
free_by_5 = refl

pub free_by_10 : available borrowing 10 ≡ pos 1
free_by_10 = refl

-- later spans give what they have, the last of them only its slots before the deadline
pub free_by_12 : available borrowing 12 ≡ pos 2
free_by_12 = refl

pub free_by_30 : available borrowing 30 ≡ pos 3
free_by_30 = refl

-- two spans that lend three slots to the one after them: the second borrows two from the first
abbrev lenders : List Span
lenders = span 0 4 1 (pos 1) ∷ span 4 8 3 (negsuc 1) ∷ []

-- the one after them
abbrev borrower : ℕ → ℤ → List Span
borrower work spare = span 8 12 work spare ∷ []

pub lenders_filled :
    filled (lenders ++ borrower 7 (negsuc 2)) ≡ lenders ++ borrower 7 (negsuc 2)
lenders_filled = refl

-- repaid all three, the second keeps one and repays two
pub three_repaid : moved (pos 3) lenders ≡ span 0 4 1 (pos 3) ∷ span 4 8 3 (pos 1) ∷ []
three_repaid = refl

pub three_repaid_filled :
    filled (lenders ++ borrower 4 (pos 0)) ≡ moved (pos 3) lenders ++ borrower 4 (pos 0)
three_repaid_filled = refl

-- asked for two more, the first gives the one that it has and borrows the other
pub two_lent : moved (negsuc 1) lenders ≡ span 0 4 1 (negsuc 0) ∷ span 4 8 3 (negsuc 3) ∷ []
two_lent = refl

pub one_borrowed : carry (negsuc 1) lenders ≡ negsuc 0
one_borrowed = refl

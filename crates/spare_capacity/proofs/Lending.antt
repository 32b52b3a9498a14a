-- The law of lending: a change after some spans reaches them by what it repays alone.
use Rattle.std.proofs.Common.{◌≡◌, ℤ, pos, ◌+ℤ◌, List, [], ◌∷◌, ◌++◌, refl, sym, ap, ◌∙◌, arith}
use Rattle.std.specs.Int.{int_min}
use Rattle.std.proofs.lemmas.Int.{ints, clamps}
use Rattle.slot_core.specs.declared.jobs.Span.{Span}
use Rattle.spare_capacity.specs.Recurrence.{filled, first_spare, room, with_spare}
use Rattle.spare_capacity.specs.Lending.{repaid, raised, carry, moved}
use Rattle.spare_capacity.proofs.Free.{rest-filled, spare-filled}

-- what the first of the spans repays is what all of them carry
pub repaid-carry : (more : ℤ) (xs old new : List Span) → more ≡ repaid (first_spare old) (first_spare new) → repaid (first_spare (xs ++ old)) (first_spare (moved more xs ++ new)) ≡ carry more xs
repaid-carry more [] old new e = sym e
repaid-carry more (s ∷ ss) old new e = refl

-- filled spans, where those after the first ones become others
pub filled-moved : (xs old new : List Span) → xs ++ old ≡ filled (xs ++ old) → filled (xs ++ new) ≡ moved (repaid (first_spare old) (first_spare (filled new))) xs ++ filled new
filled-moved [] old new e = refl
filled-moved (s ∷ ss) old new e =
    let more = repaid (first_spare old) (first_spare (filled new)) in
    let rest : filled (ss ++ new) ≡ moved more ss ++ filled new = filled-moved ss old new (rest-filled s (ss ++ old) e) in
    let was : s.spare ≡ room s +ℤ int_min (pos 0) (first_spare (ss ++ old)) = spare-filled s (ss ++ old) e in
    let change : repaid (first_spare (ss ++ old)) (first_spare (moved more ss ++ filled new)) ≡ carry more ss = repaid-carry more ss old (filled new) refl in
    let now : room s +ℤ int_min (pos 0) (first_spare (moved more ss ++ filled new)) ≡ s.spare +ℤ carry more ss = omega (arith, ints, clamps) in
    ap (λ zs. with_spare s (first_spare zs) ∷ zs) rest ∙ ap (λ z. record s { spare = z } ∷ moved more ss ++ filled new) now

-- what spans carry one after the other
pub carry-append : (more : ℤ) (xs ys : List Span) → carry more (xs ++ ys) ≡ carry (carry more ys) xs
carry-append more [] ys = refl
carry-append more (s ∷ ss) ys = ap (λ c. repaid s.spare (s.spare +ℤ c)) (carry-append more ss ys)

pub moved-append : (more : ℤ) (xs ys : List Span) → moved more (xs ++ ys) ≡ moved (carry more ys) xs ++ moved more ys
moved-append more [] ys = refl
moved-append more (s ∷ ss) ys =
    ap (λ c. raised c s ∷ moved more (ss ++ ys)) (carry-append more ss ys) ∙ ap (λ zs. raised (carry (carry more ys) ss) s ∷ zs) (moved-append more ss ys)

-- where nothing is repaid, nothing changes
pub carry-zero : (xs : List Span) → carry (pos 0) xs ≡ pos 0
carry-zero [] = refl
carry-zero (s ∷ ss) = omega (arith, ints, clamps, carry-zero ss)

pub moved-zero : (xs : List Span) → moved (pos 0) xs ≡ xs
moved-zero [] = refl
moved-zero (s ∷ ss) =
    let same : s.spare +ℤ carry (pos 0) ss ≡ s.spare = omega (arith, ints, carry-zero ss) in
    ap (λ z. record s { spare = z } ∷ moved (pos 0) ss) same ∙ ap (λ zs. s ∷ zs) (moved-zero ss)

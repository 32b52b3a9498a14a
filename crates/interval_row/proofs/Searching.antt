-- What a search passes of spans, and of the same spans lifted.
use Rattle.std.proofs.Common.{◌≡◌, ℕ, zero, suc, ◌+◌, List, [], ◌∷◌, take, slice_get, None, refl, sym, ap, subst, ◌∙◌}
use Rattle.std.specs.Prelude.{option_map}
use Rattle.std.proofs.lemmas.List.Sums.{sum_by-cons}
use Rattle.std.proofs.lemmas.Option.{slice_get-map}
use Rattle.slot_core.specs.declared.jobs.Span.{Span}
use Rattle.node_chain.specs.declared.marks.Lift.{Lift}
use Rattle.node_chain.specs.declared.searches.Search.{Search}
use Rattle.node_chain.specs.Searches.{works_of_first}
use Rattle.node_chain.proofs.PassedSpans.{ArePassed, IsPassed}
use Rattle.interval_row.specs.Lifts.{lifted, lifted_in}
use Rattle.interval_row.proofs.LiftedSpans.{shelf-at}

-- lifted spans have the same works
pub works_of_first-lifted : (lifts : List Lift) (i : ℕ) (spans : List Span) → works_of_first i (lifted lifts spans) ≡ works_of_first i spans
works_of_first-lifted lifts zero spans = refl
works_of_first-lifted lifts (suc i) [] = refl
works_of_first-lifted lifts (suc i) (s ∷ ss) =
    let work : Span → ℕ = λ t. t.work in
    sum_by-cons work (lifted_in lifts s) (take i (lifted lifts ss)) ∙ ap (λ n. s.work + n) (works_of_first-lifted lifts i ss) ∙ sym (sum_by-cons work s (take i ss))

-- no span is read after the last
pub none-lifted : (lifts : List Lift) (spans : List Span) (i : ℕ) → slice_get spans i ≡ None → slice_get (lifted lifts spans) i ≡ None
none-lifted lifts spans i e = slice_get-map (lifted_in lifts) spans i ∙ ap (option_map (lifted_in lifts)) e

-- where spans are passed, so are they lifted
pub ArePassed-lifted : (lifts : List Lift) (search : Search) (spans : List Span) (from index : ℕ) → ArePassed search spans from index
    → ArePassed search (lifted lifts spans) from index
ArePassed-lifted lifts search spans from index are i span low below e =
    let own = shelf-at lifts spans i span e in
    let works = works_of_first-lifted lifts i spans in
    subst
    (λ (t : Span). IsPassed search (works_of_first i (lifted lifts spans)) t)
    own.2
    (subst (λ n. IsPassed search n (lifted_in lifts own.0)) (sym works) (are i own.0 low below own.1))

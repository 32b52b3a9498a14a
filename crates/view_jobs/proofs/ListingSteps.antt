-- The jobs of a trace, one more at a time.
use Rattle.std.proofs.Common.{◌≡◌, ℕ, ◌+◌, ◌<◌, ◌++◌, Bool, true, false, cond, List, [], ◌∷◌, append_assoc, append-nil, length, map, take, sym, ap, subst, ◌∙◌, inl, inr, arith}
use Rattle.std.specs.Prelude.{filter, flat_map, slice_get, IfSome}
use Rattle.std.specs.List.{range_with_len}
use Rattle.std.proofs.lemmas.List.{map_more}
use Rattle.std.proofs.lemmas.List.Concat.{flat_map-append}
use Rattle.std.proofs.lemmas.List.Elements.{filter-append}
use Rattle.std.proofs.lemmas.Option.{slice_get_cases}
use Rattle.slot_core.specs.declared.jobs.Job.{Job}
use Rattle.slot_facts.proofs.Lists.RangeFilters.{range-more}
use Rattle.view_jobs.specs.declared.jobs.Listed.{Listed}

-- one more job, of which this is made
one_more : (f : Job → Listed) (jobs : List Job) (i : ℕ) (made : Listed) → i < length jobs → IfSome (slice_get jobs i) (λ job. made ≡ f job) → map f (take (i + 1) jobs) ≡ map f (take i jobs) ++ made ∷ []
one_more f jobs i made inside is =
    elim (slice_get_cases jobs i).1 [
      | inl (job, low, at, same) ↦
          map_more f jobs i job inside ∙ ap (λ j. map f (take i jobs) ++ j ∷ []) (sym (subst (λ o. IfSome o (λ j. made ≡ f j)) at is ∙ ap f (sym same)))
      | inr past ↦ absurd (omega (arith, past.0))
    ]

-- it is kept where it passes the test
pub one_more-kept : (p : Listed → Bool) (f : Job → Listed) (before old new : List Listed) (jobs : List Job) (i : ℕ) (made : Listed) → old ≡ before ++ filter p (map f (take i jobs)) → i < length jobs → IfSome (slice_get jobs i) (λ job. made ≡ f job) → p made ≡ true → new ≡ old ++ made ∷ [] → new ≡ before ++ filter p (map f (take (i + 1) jobs))
one_more-kept p f before old new jobs i made so_far inside is passes pushed =
    let front = filter p (map f (take i jobs)) in
    pushed
    ∙ ap (λ js. js ++ made ∷ []) so_far
    ∙ append_assoc before front (made ∷ [])
    ∙ ap (λ js. before ++ (front ++ js)) (sym (ap (λ b. cond b (made ∷ []) []) passes))
    ∙ ap (λ js. before ++ js) (sym (ap (filter p) (one_more f jobs i made inside is) ∙ filter-append p (map f (take i jobs)) (made ∷ [])))

-- else it is left out
pub one_more-left_out : (p : Listed → Bool) (f : Job → Listed) (before old : List Listed) (jobs : List Job) (i : ℕ) (made : Listed) → old ≡ before ++ filter p (map f (take i jobs)) → i < length jobs → IfSome (slice_get jobs i) (λ job. made ≡ f job) → p made ≡ false → old ≡ before ++ filter p (map f (take (i + 1) jobs))
one_more-left_out p f before old jobs i made so_far inside is fails =
    let front = filter p (map f (take i jobs)) in
    so_far
    ∙ ap (λ js. before ++ js) (sym (append-nil front))
    ∙ ap (λ js. before ++ (front ++ js)) (sym (ap (λ b. cond b (made ∷ []) []) fails))
    ∙ ap (λ js. before ++ js) (sym (ap (filter p) (one_more f jobs i made inside is) ∙ filter-append p (map f (take i jobs)) (made ∷ [])))

-- the jobs of one more cycle
pub one_more_cycle : (jobs_in : ℕ → List Listed) (before old new : List Listed) (n : ℕ) → old ≡ before ++ flat_map jobs_in (range_with_len 0 n) → new ≡ old ++ jobs_in n → new ≡ before ++ flat_map jobs_in (range_with_len 0 (n + 1))
one_more_cycle jobs_in before old new n so_far more =
    let front = flat_map jobs_in (range_with_len 0 n) in
    more
    ∙ ap (λ js. js ++ jobs_in n) so_far
    ∙ append_assoc before front (jobs_in n)
    ∙ ap (λ js. before ++ (front ++ js)) (sym (append-nil (jobs_in n)))
    ∙ ap (λ js. before ++ js) (sym (ap (flat_map jobs_in) (range-more n) ∙ flat_map-append jobs_in (range_with_len 0 n) (n ∷ [])))

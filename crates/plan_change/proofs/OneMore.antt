-- The loops over jobs: one more is listed, counted or offered.
use Rattle.std.proofs.Common.{◌≡◌, ℕ, ◌+◌, ◌-◌, ◌<◌, ◌≤◌, Bool, true, false, cond, List, [], ◌∷◌, ◌++◌, drop, get_or, length, take, Some, sym, ap, ◌∙◌, arith}
use Rattle.std.specs.Prelude.{filter, nat_lt, slice_get}
use Rattle.std.proofs.lemmas.List.{drop_all, drop_more, length-append, take_all, take_more}
use Rattle.std.proofs.lemmas.List.Elements.{filter-append}
use Rattle.std.proofs.lemmas.List.Sums.{length-filter, sum_by-append, sum_by-cons, sum_by-take-le}
use Rattle.std.proofs.lemmas.Bool.{cond-true}
use Rattle.std.proofs.lemmas.Option.{get_or_from_slice_get, slice_get_within}
use Rattle.slot_core.specs.declared.jobs.Job.{Job}
use Rattle.plan_change.specs.declared.offers.Offer.{Offer}
use Rattle.plan_change.specs.Carrying.{cut_count, next_row, offer_of, offers_of, row_in}

-- of one more item those that pass
pub filter-more : (p : Job → Bool) (jobs : List Job) (i : ℕ) (job : Job) → slice_get jobs i ≡ Some job → filter p (take (i + 1) jobs) ≡ filter p (take i jobs) ++ filter p (job ∷ [])
filter-more p jobs i job at =
    let here = get_or_from_slice_get jobs i job job at in
    ap (filter p) (take_more jobs i job (slice_get_within jobs i job at) ∙ ap (λ (j : Job). take i jobs ++ j ∷ []) here)
    ∙ filter-append p (take i jobs) (job ∷ [])

-- before one that passes there are fewer of them than of all
pub filter-room : (p : Job → Bool) (jobs : List Job) (i : ℕ) (job : Job) → slice_get jobs i ≡ Some job → p job ≡ true → length (filter p (take i jobs)) < length (filter p jobs)
filter-room p jobs i job at passes =
    let one : ℕ = cond (p job) 1 0 in
    let all = sum_by-take-le (λ (j : Job). cond (p j) 1 0) jobs (i + 1) in
    omega (
      arith,
      ap (λ (js : List Job). length js) (filter-more p jobs i job at),
      length-append (filter p (take i jobs)) (filter p (job ∷ [])),
      length-filter p (job ∷ []),
      sum_by-cons (λ (j : Job). cond (p j) 1 0) job [],
      cond-true {A = ℕ} (p job) 1 0 passes,
      length-filter p (take (i + 1) jobs),
      length-filter p jobs,
      all,
    )

-- of all items
pub filter-all : (p : Job → Bool) (jobs : List Job) (i : ℕ) → length jobs ≤ i → filter p (take i jobs) ≡ filter p jobs
filter-all p jobs i end = ap (filter p) (take_all i jobs end)

-- one more is counted or not
pub cut_count-more : (c cycle : ℕ) (jobs : List Job) (i : ℕ) (d : Job) → i < length jobs → cut_count c cycle (take (i + 1) jobs) ≡ cut_count c cycle (take i jobs) + cond (nat_lt cycle ((get_or jobs i d).dl - c)) 1 0
cut_count-more c cycle jobs i d within =
    let cut : Job → ℕ = λ j. cond (nat_lt cycle (j.dl - c)) 1 0 in
    let job = get_or jobs i d in
    omega (
      arith,
      ap (cut_count c cycle) (take_more jobs i d within),
      sum_by-append cut (take i jobs) (job ∷ []),
      sum_by-cons cut job [],
    )

-- what is left of the offers has the next one first
pub offers-next : (c cycle next : ℕ) (jobs : List Job) (i : ℕ) (d : Job) (row : ℕ) (offer : Offer) → i < length jobs → row ≡ row_in next (get_or jobs i d) → offer ≡ offer_of c cycle row (get_or jobs i d) → offers_of c cycle next (drop i jobs) ≡ offer ∷ offers_of c cycle (next_row next (get_or jobs i d)) (drop (i + 1) jobs)
offers-next c cycle next jobs i d row offer within here made =
    let job = get_or jobs i d in
    let rest = offers_of c cycle (next_row next job) (drop (i + 1) jobs) in
    let own : offer ≡ offer_of c cycle (row_in next job) job = made ∙ ap (λ (r : ℕ). offer_of c cycle r job) here in
    ap (offers_of c cycle next) (drop_more jobs i d within) ∙ ap (λ (o : Offer). o ∷ rest) (sym own)

-- the next row rises by one at most
next_row-cases : (next : ℕ) (b : Bool) → cond b (next + 1) next ≤ next + 1
next_row-cases next true = omega arith
next_row-cases next false = omega arith

pub next_row-low : (next after : ℕ) (b : Bool) → after ≡ cond b (next + 1) next → after ≤ next + 1
next_row-low next after b is = omega (arith, is, next_row-cases next b)

pub offers-end : (c cycle next : ℕ) (jobs : List Job) (i : ℕ) → length jobs ≤ i → offers_of c cycle next (drop i jobs) ≡ []
offers-end c cycle next jobs i end = ap (offers_of c cycle next) (drop_all i jobs end)

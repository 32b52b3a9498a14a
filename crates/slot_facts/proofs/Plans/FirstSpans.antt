-- The first of the spans between points are the spans between the first points.
use Rattle.std.proofs.Common.{◌≡◌, ℕ, zero, suc, ◌-◌, List, [], ◌∷◌, length, take, refl, ap, ◌∙◌, ◌<◌, ◌≤◌, ◌++◌, filter, inl, inr, Bool, true, false, cond, map}
use Rattle.slot_core.specs.declared.jobs.Job.{Job}
use Rattle.slot_core.specs.declared.jobs.Span.{Span}
use Rattle.slot_core.specs.Runs.ShownSpans.{ShownSpans}
use Rattle.slot_core.specs.Runs.Demand.{work_between}
use Rattle.slot_core.specs.Runs.Spans.{spare_capacity, spans_between}
use Rattle.std.specs.Prelude.{nat_le}
use Rattle.std.proofs.lemmas.Bool.{le-leb, lt-leb, cond-true, cond-false}
use Rattle.slot_core.specs.declared.TheConstants.{SHOWN_LIMIT}
use Rattle.slot_facts.proofs.Lists.Members.{Has}

take-spans : (jobs : List Job) (end start n : ℕ) (points : List ℕ) → take n (spans_between jobs end start points) ≡ spans_between jobs end start (take n points)
take-spans jobs end start zero points = refl
take-spans jobs end start (suc n) [] = refl
take-spans jobs end start (suc n) (e ∷ points) =
    let here : Span = record { start = start; end = e; work = work_between jobs start e; spare = spare_capacity jobs end start e } in
    ap (λ spans. here ∷ spans) (take-spans jobs end e n points)

pub length-spans : (jobs : List Job) (end start : ℕ) (points : List ℕ) → length (spans_between jobs end start points) ≡ length points
length-spans jobs end start [] = refl
length-spans jobs end start (e ∷ points) = ap suc (length-spans jobs end e points)

-- what is shown of such spans
pub shown-first : (jobs : List Job) (end start : ℕ) (points : List ℕ) (shown : ShownSpans) (spans : List Span) → shown ≡ record { spans = take SHOWN_LIMIT spans; more = length spans - SHOWN_LIMIT } → spans ≡ spans_between jobs end start points → shown ≡ record { spans = spans_between jobs end start (take SHOWN_LIMIT points); more = length points - SHOWN_LIMIT }
shown-first jobs end start points shown spans is own =
    let first = ap (take SHOWN_LIMIT) own ∙ take-spans jobs end start SHOWN_LIMIT points in
    let more = ap (λ xs. length xs - SHOWN_LIMIT) own ∙ ap (λ n. n - SHOWN_LIMIT) (length-spans jobs end start points) in
    is ∙ λ i. record { spans = first i; more = more i }

-- of spans at rising points, those that end by m are the spans between the points up to m
no_spans : (jobs : List Job) (end s m : ℕ) (ys : List ℕ) → ((y : ℕ) → Has ys y → m < y) → filter (λ (x : Span). nat_le x.end m) (spans_between jobs end s ys) ≡ []
no_spans jobs end s m [] later = refl
no_spans jobs end s m (y ∷ ys) later =
    let rest = filter (λ (x : Span). nat_le x.end m) (spans_between jobs end y ys) in
    cond-false (nat_le y m) _ rest (lt-leb y m (later y (inl refl))) ∙ no_spans jobs end y m ys (λ z h. later z (inr h))

pub first_spans : (jobs : List Job) (end s m : ℕ) (xs ys : List ℕ) → ((x : ℕ) → Has xs x → x ≤ m) → ((y : ℕ) → Has ys y → m < y) → filter (λ (x : Span). nat_le x.end m) (spans_between jobs end s (xs ++ ys)) ≡ spans_between jobs end s xs
first_spans jobs end s m [] ys early later = no_spans jobs end s m ys later
first_spans jobs end s m (x ∷ xs) ys early later =
    let span : Span = record { start = s; end = x; work = work_between jobs s x; spare = spare_capacity jobs end s x } in
    let rest = filter (λ (x : Span). nat_le x.end m) (spans_between jobs end x (xs ++ ys)) in
    cond-true (nat_le x m) (span ∷ rest) rest (le-leb x m (early x (inl refl))) ∙ ap (λ zs. span ∷ zs) (first_spans jobs end x m xs ys (λ z h. early z (inr h)) later)

-- the ends of spans are the points between which they lie
pub ends_of_spans : (jobs : List Job) (f : ℕ → ℕ) (last end start : ℕ) (points : List ℕ) → map (λ (s : Span). f s.end) (filter (λ (s : Span). nat_le s.end last) (spans_between jobs end start points)) ≡ map f (filter (λ e. nat_le e last) points)
ends_of_spans jobs f last end start [] = refl
ends_of_spans jobs f last end start (e ∷ points) =
    by_test (nat_le e last) (ends_of_spans jobs f last end e points)
  where
    spans : List Span
    spans = filter (λ (s : Span). nat_le s.end last) (spans_between jobs end e points)

    here : Span
    here = record { start = start; end = e; work = work_between jobs start e; spare = spare_capacity jobs end start e }

    by_test : (b : Bool) → map (λ (s : Span). f s.end) spans ≡ map f (filter (λ x. nat_le x last) points) → map (λ (s : Span). f s.end) (cond b (here ∷ spans) spans) ≡ map f (cond b (e ∷ filter (λ x. nat_le x last) points) (filter (λ x. nat_le x last) points))
    by_test true rest = ap (λ xs. f e ∷ xs) rest
    by_test false rest = rest

-- Two lists in the order of their starts are joined in that order.
use Rattle.std.proofs.Common.{◌≡◌, ℕ, ◌+◌, ◌-◌, ◌<◌, ◌≤◌, List, [], ◌∷◌, ◌++◌, length, take, drop, get_or, refl, sym, ap, ◌∙◌, subst, false, inl, inr, arith}
use Rattle.std.specs.Prelude.{sum_by, nat_le}
use Rattle.std.specs.List.{prefix_len}
use Rattle.std.proofs.lemmas.Bool.{cases_lt, leb-true, leb-false}
use Rattle.std.proofs.lemmas.List.{get_or-take, get_or-drop, length-take, length-drop, length-append, get_or_append_left, get_or-append_right, get_or_default, drop-drop}
use Rattle.std.proofs.lemmas.List.Sorted.{IsNonDecreasingBy-take, IsNonDecreasingBy-drop, IsNonDecreasingBy-short}
use Rattle.std.proofs.lemmas.List.Sums.{sum_by-append, sum_by-take-drop, prefix_len_passes, prefix_len_stops}
use Rattle.slot_core.specs.declared.jobs.Job.{Job}
use Rattle.slot_core.specs.Runs.Matches.{HaveSameItems}
use Rattle.margin_find.specs.Kept.{StartInOrder}

-- no job of the first list starts after one of the second
abbrev ComeBefore : List Job → List Job → Type 0
ComeBefore xs ys =
    (i j : ℕ) (d : Job) → i < length xs → j < length ys → (get_or xs i d).est ≤ (get_or ys j d).est

-- a list that is cut
before-take_drop : (n : ℕ) (ys : List Job) → StartInOrder ys → ComeBefore (take n ys) (drop n ys)
before-take_drop n ys ordered i j d front back =
    let short : i < n = omega (arith, length-take n ys) in
    let within : n + j < length ys = omega (arith, length-drop n ys) in
    rw (get_or-take n ys i d short, get_or-drop n ys j d) (ordered i (n + j) d (omega arith) within)

before-take : (n : ℕ) (xs ys : List Job) → ComeBefore xs ys → ComeBefore xs (take n ys)
before-take n xs ys h i j d low within =
    let short : j < n = omega (arith, length-take n ys) in
    rw (get_or-take n ys j d short) (h i j d low (omega (arith, length-take n ys)))

before-drop : (n : ℕ) (xs ys : List Job) → ComeBefore xs ys → ComeBefore xs (drop n ys)
before-drop n xs ys h i j d low within =
    rw (get_or-drop n ys j d) (h i (n + j) d low (omega (arith, length-drop n ys)))

-- lists end to end
before-append : (xs ys zs : List Job) → ComeBefore xs zs → ComeBefore ys zs → ComeBefore (xs ++ ys) zs
before-append xs ys zs h k i j d low within =
    elim (cases_lt i (length xs)) [
      | inl front ↦ rw (get_or_append_left xs ys d i front) (h i j d front within)
      | inr back ↦ rw (get_or-append_right xs ys (length xs) i d refl back) (k (i - length xs) j d (omega (arith, length-append xs ys)) within)
    ]

in_order-append : (xs ys : List Job) → StartInOrder xs → StartInOrder ys → ComeBefore xs ys → StartInOrder (xs ++ ys)
in_order-append xs ys first second before i j d low within =
    let len = length-append xs ys in
    elim (cases_lt j (length xs)) [
      | inl front ↦ rw (get_or_append_left xs ys d i (omega arith), get_or_append_left xs ys d j front) (first i j d low front)
      | inr back ↦ elim (cases_lt i (length xs)) [
        | inl front ↦ rw (get_or_append_left xs ys d i front, get_or-append_right xs ys (length xs) j d refl back) (before i (j - length xs) d front (omega arith))
        | inr behind ↦ rw (get_or-append_right xs ys (length xs) i d refl behind, get_or-append_right xs ys (length xs) j d refl back) (second (i - length xs) (j - length xs) d (omega arith) (omega arith))
      ]
    ]

-- what is joined so far, and what is left of both lists
pub record AreJoining (kept own jobs rest left : List Job) : Type 0 where
  pub ordered : StartInOrder jobs
  pub rest_ordered : StartInOrder rest
  pub left_ordered : StartInOrder left
  pub before_rest : ComeBefore jobs rest
  pub before_left : ComeBefore jobs left
  pub sums :
      (f : Job → ℕ) → sum_by f jobs + sum_by f rest + sum_by f left ≡ sum_by f kept + sum_by f own

pub AreJoining-first : (kept own : List Job) → StartInOrder kept → StartInOrder own → AreJoining kept own [] kept own
AreJoining-first kept own first second =
    record {
      ordered = IsNonDecreasingBy-short (λ (j : Job). j.est) [] (omega arith);
      rest_ordered = first;
      left_ordered = second;
      before_rest = λ i j d low within. absurd (omega arith);
      before_left = λ i j d low within. absurd (omega arith);
      sums = λ f. omega arith;
    }

first_sum : (f : Job → ℕ) (left : List Job) (x : Job) → 0 < length left → ((d : Job) → get_or left 0 d ≡ x) → sum_by f (take 1 left) ≡ sum_by f (x ∷ [])
first_sum f [] x some head = absurd (omega arith)
first_sum f (y ∷ ys) x some head = ap (λ z. sum_by f (z ∷ [])) (head y)

-- the jobs of the rest that start by the next job's start go before it
next : (kept own jobs rest left later : List Job) (x : Job) (n : ℕ) → AreJoining kept own jobs rest left → 0 < length left → ((d : Job) → get_or left 0 d ≡ x) → later ≡ drop 1 left → n ≡ prefix_len (λ (j : Job). nat_le j.est x.est) rest → AreJoining kept own (jobs ++ take n rest ++ x ∷ []) (drop n rest) later
next kept own jobs rest left later x n h some head back count =
    let starts = λ (j : Job). nat_le j.est x.est in
    let one : List Job = x ∷ [] in
    let front = take n rest in
    let behind = drop n rest in
    let jobs_one : ComeBefore jobs one = λ i j d low within.
    let at : j ≡ 0 = omega arith in
    rw at (subst (λ (k : Job). (get_or jobs i d).est ≤ k.est) (head d) (h.before_left i 0 d low some)) in
    let front_one : ComeBefore front one = λ i j d low within.
    let short : i < n = omega (arith, length-take n rest) in
    let at : j ≡ 0 = omega arith in
    rw (at, get_or-take n rest i d short) (leb-true (get_or rest i d).est x.est (prefix_len_passes starts rest i d (omega arith))) in
    let one_behind : ComeBefore one behind = λ i j d low within.
    let at : i ≡ 0 = omega arith in
    let len = length-drop n rest in
    let stops : nat_le (get_or rest n d).est x.est ≡ false = rw count (prefix_len_stops starts rest d (omega arith)) in
    let late = leb-false (get_or rest n d).est x.est stops in
    let more = h.rest_ordered n (n + j) d (omega arith) (omega arith) in
    rw (at, get_or-drop n rest j d) (omega arith) in
    let one_later : ComeBefore one later = λ i j d low within.
    let at : i ≡ 0 = omega arith in
    let len = length-drop 1 left in
    let same = ap length back in
    rw (at, back, get_or-drop 1 left j d) (subst (λ (k : Job). k.est ≤ (get_or left (1 + j) d).est) (head d) (h.left_ordered 0 (1 + j) d (omega arith) (omega arith))) in
    let front_later : ComeBefore front later = λ i j d low within.
    let first = front_one i 0 d low (omega arith) in
    let second = one_later 0 j d (omega arith) within in
    omega arith in
    let jobs_later : ComeBefore jobs later = rw back (before-drop 1 jobs left h.before_left) in
    let joined = in_order-append jobs front h.ordered (IsNonDecreasingBy-take (λ (j : Job). j.est) n rest h.rest_ordered) (before-take n jobs rest h.before_rest) in
    record {
      ordered = in_order-append (jobs ++ front) one joined (IsNonDecreasingBy-short (λ (j : Job). j.est) one (omega arith)) (before-append jobs front one jobs_one front_one);
      rest_ordered = IsNonDecreasingBy-drop (λ (j : Job). j.est) n rest h.rest_ordered;
      left_ordered = rw back (IsNonDecreasingBy-drop (λ (j : Job). j.est) 1 left h.left_ordered);
      before_rest = before-append (jobs ++ front) one behind (before-append jobs front behind (before-drop n jobs rest h.before_rest) (before-take_drop n rest h.rest_ordered)) one_behind;
      before_left = before-append (jobs ++ front) one later (before-append jobs front later jobs_later front_later) one_later;
      sums = λ f. omega (
        arith,
        h.sums f,
        sum_by-append f (jobs ++ front) one,
        sum_by-append f jobs front,
        sum_by-take-drop f rest n,
        sum_by-take-drop f left 1,
        ap (sum_by f) back,
        first_sum f left x some head,
      );
    }

-- one job more of the second list, at its place
pub AreJoining-next : (kept own jobs rest : List Job) (i n : ℕ) (d : Job) → AreJoining kept own jobs rest (drop i own) → i < length own → n ≡ prefix_len (λ (j : Job). nat_le j.est (get_or own i d).est) rest → AreJoining kept own (jobs ++ take n rest ++ get_or own i d ∷ []) (drop n rest) (drop (i + 1) own)
AreJoining-next kept own jobs rest i n d h low count =
    let place : i + 0 ≡ i = omega arith in
    let head = λ (e : Job). get_or-drop i own 0 e ∙ ap (λ k. get_or own k e) place ∙ get_or_default own i e d low in
    next kept own jobs rest (drop i own) (drop (i + 1) own) (get_or own i d) n h (omega (arith, length-drop i own)) head (sym (drop-drop 1 i own)) count

-- at last the rest
pub joined-last : (kept own jobs rest left : List Job) → AreJoining kept own jobs rest left → length left ≡ 0 → StartInOrder (jobs ++ rest) × HaveSameItems (kept ++ own) (jobs ++ rest)
joined-last kept own jobs rest left h none = (
  in_order-append jobs rest h.ordered h.rest_ordered h.before_rest,
  λ f. omega (arith, h.sums f, sum_by-append f kept own, sum_by-append f jobs rest, none_left f left none),
)
  where
    none_left : (f : Job → ℕ) (left : List Job) → length left ≡ 0 → sum_by f left ≡ 0
    none_left f [] none = refl
    none_left f (y ∷ ys) none = absurd (omega arith)

-- the same as the code appends it: the jobs at the front, and then the job
pub AreJoining-appended : (kept own jobs rest extended pushed front after : List Job) (i n : ℕ) (d : Job) → AreJoining kept own jobs rest (drop i own) → i < length own → n ≡ prefix_len (λ (j : Job). nat_le j.est (get_or own i d).est) rest → front ≡ take n rest → after ≡ drop n rest → extended ≡ jobs ++ front → pushed ≡ extended ++ get_or own i d ∷ [] → AreJoining kept own pushed after (drop (i + 1) own)
AreJoining-appended kept own jobs rest extended pushed front after i n d h low count at_front back grown more =
    let joined : pushed ≡ jobs ++ take n rest ++ get_or own i d ∷ [] = more ∙ ap (λ xs. xs ++ get_or own i d ∷ []) (grown ∙ ap (λ xs. jobs ++ xs) at_front) in
    rw (joined, back) (AreJoining-next kept own jobs rest i n d h low count)

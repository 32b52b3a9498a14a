-- Places of ready jobs: in one list as far as it was looked at, and in lists one behind the other.
use Rattle.std.proofs.Common.{◌≡◌, ℕ, ◌+◌, ◌-◌, ◌<◌, ◌≤◌, true, false, ◌&&◌, cond, List, [], ◌∷◌, ◌++◌, length, take, get_or, Option, Some, None, refl, sym, ap, ◌∙◌, subst, inl, inr, arith}
use Rattle.std.specs.Prelude.{count_by, find, nat_le, reverse}
use Rattle.std.specs.Option.{option_map}
use Rattle.std.specs.List.Sorted.{IsNonDecreasingBy}
use Rattle.std.proofs.lemmas.Bool.{and_cases, and_parts, cases_lt, cond-false, false_from_ne_true, leb-true, leb-false}
use Rattle.std.proofs.lemmas.List.{get_or_append_left, get_or-append_right, get_or_read, length-append}
use Rattle.std.proofs.lemmas.List.Elements.{filter-append}
use Rattle.std.proofs.lemmas.List.Folds.{find-append}
use Rattle.slot_core.specs.declared.jobs.Key.{Key}
use Rattle.slot_core.specs.declared.jobs.Job.{Job}
use Rattle.slot_core.specs.Runs.Choice.{ready}
use Rattle.slot_facts.proofs.Lists.Members.{Has}
use Rattle.slot_facts.proofs.Lists.SameItems.{counted}
use Rattle.job_queue.specs.Queues.{IsReadyPlace}
use Rattle.job_queue.proofs.KeptQueues.{sum_by-reverse}
use Rattle.job_queue.proofs.ReadyJobs.{find-place, find-take_now, ready-take_later, ready-rest}
use Rattle.job_queue.proofs.Searches.{has_key}

-- the place of a job that has the key and may start, after ready jobs of other keys
pub IsReadyPlace-found : (now : ℕ) (key : Key) (jobs : List Job) (i : ℕ) (x : Job) → i < length jobs → x ≡ get_or jobs i x → x.est ≤ now → has_key key x ≡ true → find (has_key key) (ready now (take i jobs)) ≡ None → IsReadyPlace now key jobs (Some i)
IsReadyPlace-found now key jobs i x inside is starts here none =
    let found = find-place now key jobs i x inside is starts here none in
    record {
      job = λ d. found ∙ ap (λ (j : Job). Some j) (get_or_read jobs i x inside is d);
      within = λ k e. let same : i ≡ k = cc e in omega arith;
    }

-- the same by one test of both
pub IsReadyPlace-test : (now : ℕ) (key : Key) (jobs : List Job) (i : ℕ) (x : Job) → i < length jobs → x ≡ get_or jobs i x → (has_key key x && nat_le x.est now) ≡ true → find (has_key key) (ready now (take i jobs)) ≡ None → IsReadyPlace now key jobs (Some i)
IsReadyPlace-test now key jobs i x inside is test none =
    let parts = and_parts (has_key key x) (nat_le x.est now) test in
    IsReadyPlace-found now key jobs i x inside is (leb-true x.est now parts.1) parts.0 none

-- no place where nothing is found
pub IsReadyPlace-none : (now : ℕ) (key : Key) (jobs : List Job) → find (has_key key) (ready now jobs) ≡ None → IsReadyPlace now key jobs None
IsReadyPlace-none now key jobs none =
    record { job = λ d. none; within = λ i e. absurd (cc e) }

-- nothing is found among one more, which has another key or starts later
pub find-take_other : (now : ℕ) (key : Key) (jobs : List Job) (i : ℕ) (x : Job) → i < length jobs → x ≡ get_or jobs i x → (has_key key x && nat_le x.est now) ≡ false → find (has_key key) (ready now (take i jobs)) ≡ None → find (has_key key) (ready now (take (i + 1) jobs)) ≡ None
find-take_other now key jobs i x inside is other none =
    elim (cases_lt now x.est) [
      | inl later ↦ ap (find (has_key key)) (ready-take_later now jobs i x inside is later) ∙ none
      | inr starts ↦ elim (and_cases (has_key key x) (nat_le x.est now) other) [
        | inl another ↦ find-take_now now key jobs i x inside is starts another none
        | inr later ↦ absurd (omega (arith, starts, leb-false x.est now later))
      ]
    ]

-- none is ready behind the first of jobs in order of start that starts later
pub IsReadyPlace-later : (now : ℕ) (key : Key) (jobs : List Job) (i : ℕ) (x : Job) → IsNonDecreasingBy (λ (j : Job). j.est) jobs → i < length jobs → x ≡ get_or jobs i x → now < x.est → find (has_key key) (ready now (take i jobs)) ≡ None → IsReadyPlace now key jobs None
IsReadyPlace-later now key jobs i x ordered inside is later none =
    let rest = ready-rest now [] jobs jobs 0 i x refl ordered refl (omega arith) inside is later in
    IsReadyPlace-none now key jobs (ap (find (has_key key)) rest ∙ none)

-- no ready job has a key that no job has
find-ready_none : (now : ℕ) (key : Key) (jobs : List Job) → ((o : Job) → Has jobs o → has_key key o ≡ false) → find (has_key key) (ready now jobs) ≡ None
find-ready_none now key [] none = refl
find-ready_none now key (j ∷ jobs) none =
    let rest = find-ready_none now key jobs (λ o at. none o (inr at)) in
    elim (nat_le j.est now) as (λ b. find (has_key key) (cond b (j ∷ ready now jobs) (ready now jobs)) ≡ None) [
      | true ↦ cond-false (has_key key j) (Some j) (find (has_key key) (ready now jobs)) (none j (inl refl)) ∙ rest
      | false ↦ rest
    ]

-- so there is no place of it, from the last either
pub IsReadyPlace-unmarked : (now : ℕ) (key : Key) (jobs : List Job) → count_by (has_key key) jobs ≡ 0 → IsReadyPlace now key (reverse jobs) None
IsReadyPlace-unmarked now key jobs none =
    let back = reverse jobs in
    let all = sum_by-reverse (λ (j : Job). cond (has_key key j) 1 0) jobs in
    IsReadyPlace-none now key back (find-ready_none now key back (λ o at. false_from_ne_true (has_key key o) (λ here. absurd (omega (arith, all, none, counted (has_key key) back o at here)))))

-- a place in the first of two lists
in_front : (now : ℕ) (key : Key) (xs ys : List Job) (i : ℕ) → IsReadyPlace now key xs (Some i) → IsReadyPlace now key (xs ++ ys) (Some i)
in_front now key xs ys i at =
    let inside = at.within i refl in
    record {
      job = λ d.
          ap (find (has_key key)) (filter-append (λ (j : Job). nat_le j.est now) xs ys) ∙ find-append (has_key key) (ready now xs) (ready now ys) ∙ rw (at.job d) (ap (λ (j : Job). Some j) (sym (get_or_append_left xs ys d i inside)));
      within = λ k e. let same : i ≡ k = cc e in omega (arith, length-append xs ys);
    }

-- a place in the second, where the first has none
behind : (now : ℕ) (key : Key) (xs ys : List Job) (n : ℕ) (place : Option ℕ) → length xs ≡ n → IsReadyPlace now key xs None → IsReadyPlace now key ys place → IsReadyPlace now key (xs ++ ys) (option_map (λ i. n + i) place)
behind now key xs ys n place long none at =
    let whole : (d : Job) → find (has_key key) (ready now (xs ++ ys)) ≡ find (has_key key) (ready now ys) =
    λ d. ap (find (has_key key)) (filter-append (λ (j : Job). nat_le j.est now) xs ys) ∙ find-append (has_key key) (ready now xs) (ready now ys) ∙ rw (none.job d) refl in
    by_case place at whole
  where
    by_case : (o : Option ℕ) → IsReadyPlace now key ys o → ((d : Job) → find (has_key key) (ready now (xs ++ ys)) ≡ find (has_key key) (ready now ys)) → IsReadyPlace now key (xs ++ ys) (option_map (λ i. n + i) o)
    by_case None own whole =
        record { job = λ d. whole d ∙ own.job d; within = λ k e. absurd (cc e) }
    by_case (Some i) own whole =
        let inside = own.within i refl in
        let back : n + i - n ≡ i = omega arith in
        record {
          job = λ d.
              whole d ∙ own.job d ∙ ap (λ (j : Job). Some j) (ap (λ k. get_or ys k d) (sym back) ∙ sym (get_or-append_right xs ys n (n + i) d long (omega arith)));
          within = λ k e. let same : n + i ≡ k = cc e in omega (arith, length-append xs ys);
        }

-- a place among those beside
pub IsReadyPlace-beside : (now : ℕ) (key : Key) (beside back listed jobs : List Job) (i : ℕ) → beside ++ back ++ listed ≡ jobs → IsReadyPlace now key beside (Some i) → IsReadyPlace now key jobs (Some i)
IsReadyPlace-beside now key beside back listed jobs i parts at =
    subst (λ js. IsReadyPlace now key js (Some i)) parts (in_front now key (beside ++ back) listed i (in_front now key beside back i at))

-- among those that have come
pub IsReadyPlace-come : (now : ℕ) (key : Key) (beside back listed jobs : List Job) (n i : ℕ) → beside ++ back ++ listed ≡ jobs → length beside ≡ n → IsReadyPlace now key beside None → IsReadyPlace now key back (Some i) → IsReadyPlace now key jobs (Some (n + i))
IsReadyPlace-come now key beside back listed jobs n i parts long none at =
    subst (λ js. IsReadyPlace now key js (Some (n + i))) parts (in_front now key (beside ++ back) listed (n + i) (behind now key beside back n (Some i) long none at))

-- and among the listed ones
pub IsReadyPlace-listed : (now : ℕ) (key : Key) (beside back listed jobs : List Job) (n : ℕ) (place : Option ℕ) → beside ++ back ++ listed ≡ jobs → length (beside ++ back) ≡ n → IsReadyPlace now key beside None → IsReadyPlace now key back None → IsReadyPlace now key listed place → IsReadyPlace now key jobs (option_map (λ i. n + i) place)
IsReadyPlace-listed now key beside back listed jobs n place parts long none none_come at =
    subst (λ js. IsReadyPlace now key js (option_map (λ i. n + i) place)) parts (behind now key (beside ++ back) listed n place long (behind now key beside back (length beside) None refl none none_come) at)

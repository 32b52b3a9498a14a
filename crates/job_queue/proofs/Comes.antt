-- Jobs that have come, of which the earliest stands last: what edits leave of that order, and which of them runs.
use Rattle.std.proofs.Common.{nat_cmp, ◌≡◌, ℕ, zero, suc, ◌+◌, ◌-◌, ◌<◌, ◌≤◌, true, false, cond, List, [], ◌∷◌, ◌++◌, length, drop, get_or, fold, Option, Some, None, Ordering, Less, Equal, Greater, is_lt, is_gt, refl, sym, ap, ◌∙◌, inl, inr, arith}
use Rattle.std.specs.Prelude.{nat_le, reverse, slice_get}
use Rattle.std.specs.Cmp.Lexicographic.{slice_cmp}
use Rattle.std.specs.List.{insert, remove}
use Rattle.std.specs.Ordering.{ordering_reverse}
use Rattle.std.proofs.lemmas.Bool.{cases_lt, cond-false, false≢true, lt-leb, true_from_ne_false}
use Rattle.std.proofs.lemmas.Cmp.{upto}
use Rattle.std.proofs.lemmas.List.{append-nil, drop_more, get_or_read, get_or-drop, get_or-reverse, length-drop, length-reverse}
use Rattle.std.proofs.lemmas.List.Elements.{filter-append}
use Rattle.std.proofs.lemmas.Option.{get_or_from_slice_get, slice_get_within}
use Rattle.std.proofs.lemmas.List.Edits.{length-insert, length-remove, get_or-insert_at, get_or-insert_above, get_or-insert_below, get_or-remove_below, get_or-remove_above}
use Rattle.slot_core.specs.declared.jobs.Job.{Job}
use Rattle.slot_core.specs.Offline.Keys.{deadline_order, is_earlier}
use Rattle.slot_core.specs.Runs.Choice.{earlier_of, earliest, ready}
use Rattle.slot_facts.proofs.Choice.Earliest.{IsNotAfter, IsNotAfter-from_not_earlier, job_cmp, job_cmp_total}
use Rattle.slot_facts.proofs.Plans.InOrder.{is_earlier-one_way}
use Rattle.job_queue.specs.Queues.{IsEarliestLast, after_run_at}
use Rattle.job_queue.proofs.Edits.{kept-after_run_at, length-after_run_at}
use Rattle.job_queue.proofs.ReadyJobs.{ready-first_now}

-- a job does not go before one that does not go after it
not_lt-from_not_gt : (o : Ordering) → is_gt o ≡ false → is_lt (ordering_reverse o) ≡ false
not_lt-from_not_gt Less e = refl
not_lt-from_not_gt Equal e = refl
not_lt-from_not_gt Greater e = cc

not_earlier-from_not_after : (a b : Job) → IsNotAfter a b → is_earlier b a ≡ false
not_earlier-from_not_after a b e =
    ap is_lt (job_cmp_total.antisymm b a) ∙ not_lt-from_not_gt (job_cmp a b) e

-- not going before is a chain
pub not_earlier-trans : (a b c : Job) → is_earlier a b ≡ false → is_earlier b c ≡ false → is_earlier a c ≡ false
not_earlier-trans a b c first second =
    not_earlier-from_not_after c a (upto job_cmp_total c b a (IsNotAfter-from_not_earlier c b second) (IsNotAfter-from_not_earlier b a first))

-- the job above the place of one that was put among them
get_or-insert_past : (jobs : List Job) (p k : ℕ) (job d : Job) → p < k → p ≤ length jobs → get_or (insert jobs p job) k d ≡ get_or jobs (k - 1) d
get_or-insert_past jobs p k job d past inside =
    let back : k - 1 + 1 ≡ k = omega arith in
    ap (λ n. get_or (insert jobs p job) n d) (sym back) ∙ get_or-insert_above jobs p job d (k - 1) (omega arith) inside

-- where one of them goes before a job, so does each that stands behind it
pub is_earlier-behind : (jobs : List Job) (m i : ℕ) (x job d : Job) → IsEarliestLast jobs → m < length jobs → x ≡ get_or jobs m x → is_earlier x job ≡ true → m ≤ i → i < length jobs → is_earlier (get_or jobs i d) job ≡ true
is_earlier-behind jobs m i x job d ordered inside is earlier from below =
    let there = ap (λ j. is_earlier j job) (sym (get_or_read jobs m x inside is d)) ∙ earlier in
    elim (cases_lt m i) [
      | inl above ↦
          true_from_ne_false (is_earlier (get_or jobs i d) job) (λ fails. false≢true (sym (not_earlier-trans (get_or jobs m d) (get_or jobs i d) job (ordered m i d above below) fails) ∙ there))
      | inr upto_m ↦
          let same : i ≡ m = omega arith in
          ap (λ k. is_earlier (get_or jobs k d) job) same ∙ there
    ]

-- a job put at its place
pub IsEarliestLast-insert : (jobs : List Job) (p : ℕ) (job : Job) → p ≤ length jobs → IsEarliestLast jobs → ((i : ℕ) (d : Job) → p ≤ i → i < length jobs → is_earlier (get_or jobs i d) job ≡ true) → ((d : Job) → 1 ≤ p → is_earlier (get_or jobs (p - 1) d) job ≡ false) → IsEarliestLast (insert jobs p job)
IsEarliestLast-insert jobs p job inside ordered behind before i k d first below =
    let long = length-insert jobs p job inside in
    elim (cases_lt k p) [
      | inl k_below ↦
          rw (get_or-insert_below jobs p job d i (omega arith) inside, get_or-insert_below jobs p job d k k_below inside) (ordered i k d first (omega arith))
      | inr k_from ↦ elim (cases_lt p k) [
        | inl k_above ↦ elim (cases_lt i p) [
          | inl i_below ↦
              rw (get_or-insert_below jobs p job d i i_below inside, get_or-insert_past jobs p k job d k_above inside) (ordered i (k - 1) d (omega arith) (omega arith))
          | inr i_from ↦ elim (cases_lt p i) [
            | inl i_above ↦
                rw (get_or-insert_past jobs p i job d i_above inside, get_or-insert_past jobs p k job d k_above inside) (ordered (i - 1) (k - 1) d (omega arith) (omega arith))
            | inr i_to ↦
                let same : i ≡ p = omega arith in
                rw (same, get_or-insert_at jobs p job d inside, get_or-insert_past jobs p k job d k_above inside) (is_earlier-one_way (get_or jobs (k - 1) d) job (behind (k - 1) d (omega arith) (omega arith)))
          ]
        ]
        | inr k_to ↦
            let same : k ≡ p = omega arith in
            rw (same, get_or-insert_at jobs p job d inside, get_or-insert_below jobs p job d i (omega arith) inside) (by_last i (omega arith))
      ]
    ]
  where
    by_last : (i : ℕ) → i < p → is_earlier (get_or jobs i d) job ≡ false
    by_last i low =
        elim (cases_lt i (p - 1)) [
          | inl under ↦
              not_earlier-trans (get_or jobs i d) (get_or jobs (p - 1) d) job (ordered i (p - 1) d under (omega arith)) (before d (omega arith))
          | inr last ↦
              let same : i ≡ p - 1 = omega arith in rw same (before d (omega arith))
        ]

-- a job taken out
pub IsEarliestLast-remove : (jobs : List Job) (p : ℕ) → p < length jobs → IsEarliestLast jobs → IsEarliestLast (remove jobs p)
IsEarliestLast-remove jobs p inside ordered i k d first below =
    let long = length-remove jobs p inside in
    elim (cases_lt i p) [
      | inl i_below ↦ elim (cases_lt k p) [
        | inl k_below ↦
            rw (get_or-remove_below jobs p d i i_below inside, get_or-remove_below jobs p d k k_below inside) (ordered i k d first (omega arith))
        | inr k_above ↦
            rw (get_or-remove_below jobs p d i i_below inside, get_or-remove_above jobs p d k k_above inside) (ordered i (k + 1) d (omega arith) (omega arith))
      ]
      | inr i_above ↦ let k_above : p ≤ k = omega arith in
          rw (get_or-remove_above jobs p d i i_above inside, get_or-remove_above jobs p d k k_above inside) (ordered (i + 1) (k + 1) d (omega arith) (omega arith))
    ]

-- a run of one of them
pub IsEarliestLast-after_run_at : (p : ℕ) (jobs : List Job) → IsEarliestLast jobs → IsEarliestLast (after_run_at p jobs)
IsEarliestLast-after_run_at p jobs ordered i k d first below =
    let one = kept-after_run_at deadline_order (λ job. refl) p jobs i d in
    let other = kept-after_run_at deadline_order (λ job. refl) p jobs k d in
    let same = ordered i k d first (omega (arith, length-after_run_at p jobs)) in
    ap (λ o. is_lt (slice_cmp nat_cmp o (deadline_order (get_or (after_run_at p jobs) k d)))) one ∙ ap (λ o. is_lt (slice_cmp nat_cmp (deadline_order (get_or jobs i d)) o)) other ∙ same

-- a job before which none of these goes stays the best
best_stays : (now : ℕ) (best : Job) (jobs : List Job) → ((k : ℕ) (d : Job) → k < length jobs → is_earlier (get_or jobs k d) best ≡ false) → fold earlier_of (Some best) (ready now jobs) ≡ Some best
best_stays now best [] none = refl
best_stays now best (j ∷ jobs) none =
    let rest = best_stays now best jobs (λ k d low. none (suc k) d (omega arith)) in
    let same : earlier_of (Some best) j ≡ Some best =
    cond-false (is_earlier j best) (Some j) (Some best) (none zero j (omega arith)) in
    elim (nat_le j.est now) as (λ b. fold earlier_of (Some best) (cond b (j ∷ ready now jobs) (ready now jobs)) ≡ Some best) [
      | true ↦ ap (λ o. fold earlier_of o (ready now jobs)) same ∙ rest
      | false ↦ rest
    ]

-- the best of a job and of those after it, none of which goes before it
best_of_first : (now : ℕ) (best : Option Job) (j : Job) (jobs : List Job) → j.est ≤ now → ((k : ℕ) (d : Job) → k < length jobs → is_earlier (get_or jobs k d) j ≡ false) → fold earlier_of best (ready now (j ∷ jobs)) ≡ earlier_of best j
best_of_first now None j jobs starts none =
    ap (fold earlier_of None) (ready-first_now now j jobs starts) ∙ best_stays now j jobs none
best_of_first now (Some best) j jobs starts none =
    let by_test : fold earlier_of (earlier_of (Some best) j) (ready now jobs) ≡ earlier_of (Some best) j =
    elim (is_earlier j best) as (λ b. is_earlier j best ≡ b → fold earlier_of (cond b (Some j) (Some best)) (ready now jobs) ≡ cond b (Some j) (Some best)) [
      | true ↦ λ e. best_stays now j jobs none
      | false ↦ λ e. best_stays now best jobs (λ k d low. not_earlier-trans (get_or jobs k d) j best (none k d low) e)
    ] refl in
    ap (fold earlier_of (Some best)) (ready-first_now now j jobs starts) ∙ by_test

-- of jobs that have come, looked at from the last, none goes before one that is looked at sooner
pub none-behind : (come : List Job) (i : ℕ) (x : Job) → IsEarliestLast come → i < length come → x ≡ get_or (reverse come) i x → (k : ℕ) (d : Job) → k < length (drop (i + 1) (reverse come)) → is_earlier (get_or (drop (i + 1) (reverse come)) k d) x ≡ false
none-behind come i x ordered inside is k d low =
    let back = reverse come in
    let long = length-reverse come in
    let fits : i + 1 + k < length come = omega (arith, length-drop (i + 1) back) in
    let there = get_or-drop (i + 1) back k d ∙ get_or-reverse come (i + 1 + k) d fits in
    let here = get_or_read back i x (omega arith) is d ∙ get_or-reverse come i d inside in
    let order = ordered (length come - 1 - (i + 1 + k)) (length come - 1 - i) d (omega arith) (omega arith) in
    ap (λ j. is_earlier j x) there ∙ ap (λ j. is_earlier (get_or come (length come - 1 - (i + 1 + k)) d) j) here ∙ order

-- so the first of them that may start is the best
pub best_of_come : (now : ℕ) (best : Option Job) (come : List Job) (i : ℕ) (x : Job) → IsEarliestLast come → i < length come → x ≡ get_or (reverse come) i x → x.est ≤ now → fold earlier_of best (ready now (drop i (reverse come))) ≡ earlier_of best x
best_of_come now best come i x ordered inside is starts =
    let back = reverse come in
    let long = length-reverse come in
    let rest = drop_more back i x (omega arith) ∙ ap (λ j. j ∷ drop (i + 1) back) (sym is) in
    ap (λ js. fold earlier_of best (ready now js)) rest ∙ best_of_first now best x (drop (i + 1) back) starts (none-behind come i x ordered inside is)

-- where none stands beside and no listed one may start, the last of those that have come is the best, where it may start
pub earliest-first_come : (now : ℕ) (beside come listed : List Job) (first : Job) → IsEarliestLast come → beside ≡ [] → slice_get come (length come - 1) ≡ Some first → first.est ≤ now → ready now listed ≡ [] → Some first ≡ earliest (ready now (beside ++ reverse come ++ listed))
earliest-first_come now beside come listed first ordered none last starts later =
    let inside : 0 < length come = omega (arith, slice_get_within come (length come - 1) first last) in
    let at : length come - 1 - 0 ≡ length come - 1 = omega arith in
    let is : first ≡ get_or (reverse come) 0 first =
    sym (get_or-reverse come 0 first inside ∙ ap (λ k. get_or come k first) at ∙ get_or_from_slice_get come (length come - 1) first first last) in
    let both : ready now (reverse come ++ listed) ≡ ready now (reverse come) =
    filter-append (λ (j : Job). nat_le j.est now) (reverse come) listed ∙ (ap (λ js. ready now (reverse come) ++ js) later ∙ append-nil (ready now (reverse come))) in
    let jobs = ap (λ js. ready now (js ++ reverse come ++ listed)) none ∙ both in
    sym (ap earliest jobs ∙ best_of_come now None come 0 first ordered inside is starts)

-- one that may not start is not ready
pub ready-drop_later : (now : ℕ) (jobs : List Job) (i : ℕ) (x : Job) → i < length jobs → x ≡ get_or jobs i x → now < x.est → ready now (drop i jobs) ≡ ready now (drop (i + 1) jobs)
ready-drop_later now jobs i x inside is later =
    let rest = drop_more jobs i x inside ∙ ap (λ j. j ∷ drop (i + 1) jobs) (sym is) in
    ap (ready now) rest ∙ cond-false (nat_le x.est now) (x ∷ ready now (drop (i + 1) jobs)) (ready now (drop (i + 1) jobs)) (lt-leb x.est now later)

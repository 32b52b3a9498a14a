-- The soft jobs of a legal history wait in the order of their rows, no more than the limit, and only the first has
-- started.
use Rattle.std.proofs.Common.{◌≡◌, ℕ, suc, ◌+◌, ◌-◌, ◌/◌, ◌<◌, ◌≤◌, ◌⊎◌, Bool, true, false, not, cond, List, [], ◌∷◌, ◌++◌, length, map, filter, fold, drop, length-append, Option, Some, None, refl, sym, ap, ◌∙◌, inl, inr, arith}
use Rattle.std.specs.Prelude.{nat_le, nat_lt}
use Rattle.std.specs.List.{AllByRecursion}
use Rattle.std.proofs.lemmas.Bool.{cases_lt, cond_both, cases_Bool, both_ways, false_from_ne_true, or_parts, leb-false, ltb-true, ltb-false, cond-false}
use Rattle.std.proofs.lemmas.List.{length-map}
use Rattle.std.proofs.lemmas.List.Elements.{All-from_recursion, filter-append}
use Rattle.std.proofs.lemmas.List.Sums.{length-filter, sum_by-le-sum_by}
use Rattle.slot_core.specs.declared.jobs.Key.{Key}
use Rattle.slot_core.specs.declared.jobs.Key.TheVariants.{Soft as SoftKey}
use Rattle.slot_core.specs.declared.jobs.Job.{Job}
use Rattle.slot_core.specs.declared.jobs.SoftJob.{SoftJob}
use Rattle.slot_core.specs.declared.tasks.TaskSet.{TaskSet}
use Rattle.slot_core.specs.declared.events.What.{What}
use Rattle.slot_core.specs.declared.events.What.TheVariants.{Soft, Run}
use Rattle.slot_core.specs.declared.events.Soft.TheVariants.{Taken as SoftTaken}
use Rattle.slot_core.specs.Offline.Keys.{same_key, is_soft, row_of}
use Rattle.slot_core.specs.Runs.Rising.{AreRising}
use Rattle.slot_core.specs.Sets.Cycles.{cycle_of}
use Rattle.slot_core.specs.Sets.Ranges.{is_sound}
use Rattle.slot_core.specs.Runs.Histories.{History, time_of, last_row, executed, is_freed, soft_jobs}
use Rattle.slot_core.specs.Runs.Scenes.{remaining, guaranteed_in, soft_has_ended, soft_with_left, waiting_soft}
use Rattle.slot_core.specs.Runs.Choice.{lower_of, ready}
use Rattle.slot_core.specs.Keeping.Kept.{KeepsSoftOrder}
use Rattle.slot_facts.proofs.Choice.Earliest.{IsEarliest-from_earliest, same_from_key}
use Rattle.slot_facts.proofs.Histories.Unended.{unended_own}
use Rattle.slot_facts.proofs.Lists.Apart.{AreRising-lower, above-from_rising}
use Rattle.slot_facts.proofs.Lists.Members.{Has, Has-append_cases, Has-filter, Has-filter_passes, Has-map, AllByRecursion-from_Has}
use Rattle.slot_facts.proofs.Legal.Data.{RunsJob, LegalEntries, first_soft-listed, slot_runs}
use Rattle.slot_facts.proofs.Legal.Jobs.{IsGuaranteed-from_listed, soft-come, soft-rising}
use Rattle.slot_facts.proofs.Legal.Owned.{is_further, over-further, not_over-earlier}
use Rattle.slot_facts.proofs.Legal.Rows.{entries-before, rows-rise, soft_taken-says}
use Rattle.slot_facts.proofs.Legal.Steps.{waiting_own}

-- of two soft jobs the lower one is at most each, and the first of all at most that one
module _ (j : SoftJob) (jobs : List SoftJob) (s other : SoftJob) (more : (o : Option SoftJob) (x : SoftJob) → fold lower_of o jobs ≡ Some s → (o ≡ Some x) ⊎ Has jobs x → s.row ≤ x.row) where
  below_one : (b : SoftJob) (t : Bool) → nat_lt j.row b.row ≡ t → fold lower_of (cond t (Some j) (Some b)) jobs ≡ Some s → (b ≡ other) ⊎ (j ≡ other) → s.row ≤ other.row
  below_one b true lower f (inl same) =
      omega (arith, more (Some j) j f (inl refl), ltb-true j.row b.row lower, ap (λ (x : SoftJob). x.row) same)
  below_one b true lower f (inr same) =
      omega (arith, more (Some j) j f (inl refl), ap (λ (x : SoftJob). x.row) same)
  below_one b false lower f (inl same) =
      omega (arith, more (Some b) b f (inl refl), ap (λ (x : SoftJob). x.row) same)
  below_one b false lower f (inr same) =
      omega (arith, more (Some b) b f (inl refl), ltb-false j.row b.row lower, ap (λ (x : SoftJob). x.row) same)

  below_two : (o : Option SoftJob) → fold lower_of (lower_of o j) jobs ≡ Some s → (o ≡ Some other) ⊎ ((j ≡ other) ⊎ Has jobs other) → s.row ≤ other.row
  below_two o f (inr (inr at)) = more (lower_of o j) other f (inr at)
  below_two None f (inl none) = absurd (cc none)
  below_two None f (inr (inl same)) = more (Some j) other f (inl (ap Some same))
  below_two (Some b) f (inl same) = below_one b (nat_lt j.row b.row) refl f (inl (cc same))
  below_two (Some b) f (inr (inl same)) = below_one b (nat_lt j.row b.row) refl f (inr same)

-- the first soft job has the least row
pub first_soft-below : (best : Option SoftJob) (jobs : List SoftJob) (s other : SoftJob) → fold lower_of best jobs ≡ Some s → (best ≡ Some other) ⊎ Has jobs other → s.row ≤ other.row
first_soft-below best [] s other e (inl same) =
    let one : s ≡ other = cc in
    omega (arith, ap (λ (j : SoftJob). j.row) one)
first_soft-below best [] s other e (inr at) = absurd at
first_soft-below best (j ∷ jobs) s other e which =
    below_two j jobs s other (λ o x f w. first_soft-below o jobs s x f w) best e which

-- a soft job that has not ended waits
pub waits : (h : History) (soft : SoftJob) → Has (soft_jobs h) soft → soft_has_ended h soft ≡ false → Has (waiting_soft h) (soft_with_left h soft)
waits h soft at runs =
    Has-map (soft_with_left h) _ soft (Has-filter (λ s. not (soft_has_ended h s)) (soft_jobs h) soft at (ap not runs))

-- the guaranteed job that a slot runs has no soft key
pub job_runs-not_soft : (set : TaskSet) (h : History) (key : Key) → is_sound set ≡ true → LegalEntries set (cycle_of set) h → RunsJob set (cycle_of set) h key → is_soft key ≡ false
job_runs-not_soft set h key sound l r =
    let cycles = time_of h / cycle_of set + 3 in
    let jobs = remaining set (cycle_of set) h in
    let first = IsEarliest-from_earliest (ready (time_of h) jobs) r.job r.first in
    let in_time = Has-filter_passes (λ (j : Job). nat_le j.est (time_of h)) jobs r.job first.among in
    let own = unended_own h (guaranteed_in set (cycle_of set) cycles h) r.job in_time.0 in
    let key_is : key ≡ own.0.key = r.keyed ∙ ap (λ (j : Job). j.key) own.1.same in
    ap is_soft key_is ∙ (IsGuaranteed-from_listed set cycles h own.0 sound l own.1.listed).not_soft

other-key : (row : ℕ) (key : Key) → is_soft key ≡ false → same_key (SoftKey row) key ≡ false
other-key row key hard =
    false_from_ne_true (same_key (SoftKey row) key) (λ same. both_ways (is_soft key) hard (ap is_soft (sym (same_from_key (SoftKey row) key same))))

module _ (set : TaskSet) (sound : is_sound set ≡ true) where
  abbrev Legal : History → Type 0
  Legal h = LegalEntries set (cycle_of set) h

  -- no soft job of a row above the last has run
  not_run-above : (h : History) (row : ℕ) → Legal h → last_row h < row → executed (SoftKey row) h ≡ 0
  not_run-above [] row l above = refl
  not_run-above (Run key ∷ h) row (slot_runs known (inl r) l) above =
      let own = waiting_own h r.soft (first_soft-listed (waiting_soft h) r.soft r.first) in
      let come = soft-come set (cycle_of set) h own.0 l own.1.listed in
      let other = false_from_ne_true (same_key (SoftKey row) key) (λ same.
      let rows : row ≡ r.soft.row = ap row_of (same_from_key (SoftKey row) key same ∙ r.keyed) in
      let own_row : r.soft.row ≡ own.0.row = ap (λ (s : SoftJob). s.row) own.1.same in
      absurd (omega (arith, come.row_at_most))) in
      cond-false (same_key (SoftKey row) key) (suc (executed (SoftKey row) h)) (executed (SoftKey row) h) other ∙ not_run-above h row l above
  not_run-above (Run key ∷ h) row (slot_runs known (inr r) l) above =
      let other = other-key row key (job_runs-not_soft set h key sound l r) in
      cond-false (same_key (SoftKey row) key) (suc (executed (SoftKey row) h)) (executed (SoftKey row) h) other ∙ not_run-above h row l above
  not_run-above (what ∷ h) row l above =
      not_run-above h row (entries-before l) (omega (arith, rows-rise l))

  -- of the soft jobs that have not ended only the one of least row has started
  started-first : (h : History) (soft other : SoftJob) → Legal h → Has (soft_jobs h) soft → Has (soft_jobs h) other → soft_has_ended h other ≡ false → 1 ≤ executed (SoftKey soft.row) h → soft_has_ended h soft ≡ false → soft.row ≤ other.row
  started-first [] soft other l at at_other runs started unended = absurd at
  started-first (Run key ∷ h) soft other (slot_runs known (inl r) l) at at_other runs started unended =
      let before = not_over-earlier (Run key) h (SoftKey other.row) other.declared runs in
      let still = not_over-earlier (Run key) h (SoftKey soft.row) soft.declared unended in
      elim (cases_Bool (same_key (SoftKey soft.row) key)) [
        | inl same ↦
            let rows : soft.row ≡ r.soft.row = ap row_of (same_from_key (SoftKey soft.row) key same ∙ r.keyed) in
            let least = first_soft-below None (waiting_soft h) r.soft (soft_with_left h other) r.first (inr (waits h other at_other before)) in
            omega arith
        | inr differs ↦
            let ran = cond-false (same_key (SoftKey soft.row) key) (suc (executed (SoftKey soft.row) h)) (executed (SoftKey soft.row) h) differs in
            started-first h soft other l at at_other before (omega arith) still
      ]
  started-first (Run key ∷ h) soft other (slot_runs known (inr r) l) at at_other runs started unended =
      let before = not_over-earlier (Run key) h (SoftKey other.row) other.declared runs in
      let still = not_over-earlier (Run key) h (SoftKey soft.row) soft.declared unended in
      let differs = other-key soft.row key (job_runs-not_soft set h key sound l r) in
      let ran = cond-false (same_key (SoftKey soft.row) key) (suc (executed (SoftKey soft.row) h)) (executed (SoftKey soft.row) h) differs in
      started-first h soft other l at at_other before (omega arith) still
  started-first (Soft row slots SoftTaken ∷ h) soft other l at at_other runs started unended =
      let taken = soft_taken-says l in
      let own : SoftJob = record { row = row; left = slots; declared = slots } in
      elim (Has-append_cases (soft_jobs h) (own ∷ []) soft at) [
        | inr new ↦ elim new [
          | inl e ↦
              let same : row ≡ soft.row = ap (λ (s : SoftJob). s.row) e in
              absurd (omega (arith, not_run-above h soft.row (entries-before l) (omega (arith, taken.above))))
          | inr none ↦ absurd none
        ]
        | inl old ↦ elim (Has-append_cases (soft_jobs h) (own ∷ []) other at_other) [
          | inr new ↦ elim new [
            | inl e ↦
                let same : row ≡ other.row = ap (λ (s : SoftJob). s.row) e in
                omega (arith, (soft-come set (cycle_of set) h soft (entries-before l) old).row_at_most, taken.above)
            | inr none ↦ absurd none
          ]
          | inl too ↦ started-first h soft other (entries-before l) old too runs started unended
        ]
      ]
  started-first (what ∷ h) soft other l at at_other runs started unended =
      started-first h soft other (entries-before l) at at_other (not_over-earlier what h (SoftKey other.row) other.declared runs) started (not_over-earlier what h (SoftKey soft.row) soft.declared unended)

  -- no more wait than the limit allows
  fewer-wait : (what : What) (h : History) (jobs : List SoftJob) → length (map (soft_with_left (what ∷ h)) (filter (λ s. not (soft_has_ended (what ∷ h) s)) jobs)) ≤ length (map (soft_with_left h) (filter (λ s. not (soft_has_ended h s)) jobs))
  fewer-wait what h jobs =
      let after = λ (s : SoftJob). not (soft_has_ended (what ∷ h) s) in
      let before = λ (s : SoftJob). not (soft_has_ended h s) in
      omega (
        arith,
        length-map (filter after jobs) (soft_with_left (what ∷ h)),
        length-map (filter before jobs) (soft_with_left h),
        length-filter after jobs,
        length-filter before jobs,
        sum_by-le-sum_by (λ s. cond (after s) 1 0) (λ s. cond (before s) 1 0) jobs (λ s. counts (soft_has_ended h s) (soft_has_ended (what ∷ h) s) (over-further h (what ∷ h) (SoftKey s.row) s.declared (is_further what h))),
      )
    where
      counts : (over later : Bool) → (over ≡ true → later ≡ true) → cond (not later) 1 0 ≤ cond (not over) 1 0
      counts true later stays = rw (stays refl) (omega arith)
      counts false true stays = omega arith
      counts false false stays = omega arith

  few-wait : (h : History) → Legal h → length (waiting_soft h) ≤ set.soft_limit
  few-wait [] l = omega arith
  few-wait (Soft row slots SoftTaken ∷ h) l =
      let taken = soft_taken-says l in
      let own : SoftJob = record { row = row; left = slots; declared = slots } in
      let test = λ (s : SoftJob). not (soft_has_ended h s) in
      let other = taken.few in
      let one : length (filter test (own ∷ [])) ≤ 1 = one_at_most (test own) own in
      omega (
        arith,
        few-wait h (entries-before l),
        length-map (filter test (soft_jobs h ++ own ∷ [])) (soft_with_left h),
        length-map (filter test (soft_jobs h)) (soft_with_left h),
        ap length (filter-append test (soft_jobs h) (own ∷ [])),
        length-append (filter test (soft_jobs h)) (filter test (own ∷ [])),
      )
    where
      one_at_most : (b : Bool) (s : SoftJob) → length (cond b (s ∷ []) []) ≤ 1
      one_at_most true s = omega arith
      one_at_most false s = omega arith
  few-wait (what ∷ h) l =
      omega (arith, few-wait h (entries-before l), fewer-wait what h (soft_jobs h))

  -- those that wait stand in the order of their rows
  rising-kept : (p : SoftJob → Bool) (f : SoftJob → SoftJob) (start : ℕ) (jobs : List SoftJob) → ((s : SoftJob) → (f s).row ≡ s.row) → AreRising start (map (λ (s : SoftJob). s.row) jobs) → AreRising start (map (λ (s : SoftJob). s.row) (map f (filter p jobs)))
  rising-kept p f start [] same rising = tt
  rising-kept p f start (j ∷ jobs) same rising =
      let rest = rising-kept p f j.row jobs same rising.1 in
      let rows = λ (js : List SoftJob). map (λ (s : SoftJob). s.row) (map f js) in
      cond_both (p j) (j ∷ filter p jobs) (filter p jobs) (λ js. AreRising start (rows js))
      (λ passes. (omega (arith, same j, rising.0), AreRising-lower (f j).row j.row (rows (filter p jobs)) (omega (arith, same j)) rest))
      (λ fails. AreRising-lower start j.row (rows (filter p jobs)) (omega (arith, rising.0)) rest)

  waiting-rising : (h : History) → Legal h → AreRising 0 (map (λ (s : SoftJob). s.row) (waiting_soft h))
  waiting-rising h l =
      rising-kept (λ s. not (soft_has_ended h s)) (soft_with_left h) 0 (soft_jobs h) (λ s. refl) (soft-rising set (cycle_of set) h l)

  -- each has slots left
  waiting-left : (h : History) (soft : SoftJob) → Has (waiting_soft h) soft → (1 ≤ soft.left) × (soft.left ≤ soft.declared)
  waiting-left h soft at =
      let own = waiting_own h soft at in
      let short = leb-false own.0.declared (executed (SoftKey own.0.row) h) (or_parts (nat_le own.0.declared (executed (SoftKey own.0.row) h)) (is_freed (SoftKey own.0.row) h) own.1.runs).0 in
      let left_is : soft.left ≡ own.0.declared - executed (SoftKey own.0.row) h = ap (λ (s : SoftJob). s.left) own.1.same in
      let declared_is : soft.declared ≡ own.0.declared = ap (λ (s : SoftJob). s.declared) own.1.same in
      (omega arith, omega arith)

  -- one behind the first has not started
  behind-whole : (h : History) (first soft : SoftJob) → Legal h → Has (waiting_soft h) first → Has (waiting_soft h) soft → first.row < soft.row → soft.left ≡ soft.declared
  behind-whole h first soft l at_first at behind =
      let a = waiting_own h first at_first in
      let b = waiting_own h soft at in
      let row_a : first.row ≡ a.0.row = ap (λ (s : SoftJob). s.row) a.1.same in
      let row_b : soft.row ≡ b.0.row = ap (λ (s : SoftJob). s.row) b.1.same in
      let left_is : soft.left ≡ b.0.declared - executed (SoftKey b.0.row) h = ap (λ (s : SoftJob). s.left) b.1.same in
      let declared_is : soft.declared ≡ b.0.declared = ap (λ (s : SoftJob). s.declared) b.1.same in
      elim (cases_lt 0 (executed (SoftKey b.0.row) h)) [
        | inl started ↦ absurd (omega (arith, started-first h b.0 a.0 l b.1.listed a.1.listed a.1.runs started b.1.runs))
        | inr none ↦ omega arith
      ]

  rest-whole : (h : History) (jobs : List SoftJob) → Legal h → ((s : SoftJob) → Has jobs s → Has (waiting_soft h) s) → AreRising 0 (map (λ (s : SoftJob). s.row) jobs) → AllByRecursion (λ (s : SoftJob). s.left ≡ s.declared) (drop 1 jobs)
  rest-whole h [] l waiting rising = tt
  rest-whole h (j ∷ jobs) l waiting rising =
      AllByRecursion-from_Has (λ (s : SoftJob). s.left ≡ s.declared) jobs (λ s at.
      behind-whole h j s l (waiting j (inl refl)) (waiting s (inr at)) (above-from_rising j.row (map (λ (s : SoftJob). s.row) jobs) s.row rising.1 (Has-map (λ (s : SoftJob). s.row) jobs s at)))

  -- so soft jobs keep their order
  pub soft_order-kept : (h : History) → Legal h → KeepsSoftOrder set.soft_limit (waiting_soft h)
  soft_order-kept h l =
      let jobs = waiting_soft h in
      record {
        few = few-wait h l;
        rows = waiting-rising h l;
        left = All-from_recursion (λ (s : SoftJob). (1 ≤ s.left) × (s.left ≤ s.declared)) jobs (AllByRecursion-from_Has (λ (s : SoftJob). (1 ≤ s.left) × (s.left ≤ s.declared)) jobs (waiting-left h));
        whole = All-from_recursion (λ (s : SoftJob). s.left ≡ s.declared) (drop 1 jobs) (rest-whole h jobs l (λ s at. at) (waiting-rising h l));
      }

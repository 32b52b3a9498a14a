-- How many spans end before a deadline, and the steps of an offer and of a withdrawal.
use Rattle.std.proofs.Common.{◌≡◌, ℕ, ◌+◌, ◌*◌, ◌≤◌, cond, ltb, ◌&&◌, List, [], ◌∷◌, length, map, Option, Some, None, refl, sym, ap, ◌∙◌, subst, arith}
use Rattle.std.specs.Prelude.{Contains}
use Rattle.std.proofs.lemmas.Bool.{cond_both, le-ltb}
use Rattle.std.proofs.lemmas.List.Sums.{sum_by-cons}
use Rattle.slot_core.specs.declared.jobs.Job.{Job}
use Rattle.slot_core.specs.declared.jobs.Key.TheVariants.{Firm as FirmKey}
use Rattle.slot_core.specs.declared.jobs.Span.{Span}
use Rattle.slot_core.specs.declared.tasks.Sporadic.{Sporadic}
use Rattle.slot_core.specs.Keeping.Executives.{Executive}
use Rattle.slot_core.specs.Runs.Histories.{offered_job}
use Rattle.slot_core.specs.Offline.Keys.{same_key}
use Rattle.slot_core.specs.Runs.Spans.{spans_of}
use Rattle.slot_facts.proofs.Legal.Executives.{every_executive_is_kept}
use Rattle.slot_facts.proofs.Lists.ApartKeys.{IsApart-from_count, same_key-itself, same_member-from_apart}
use Rattle.slot_facts.proofs.Lists.Members.{Has-from_Contains}
use Rattle.slot_facts.proofs.Sets.Faults.{find-None}
use Rattle.spare_capacity.specs.Recurrence.{filled, first_spare, with_spare}
use Rattle.sporadic_reserve.specs.Reserves.{without_name}
use Rattle.interval_row.specs.Changes.{cut, ends_before, part_before, part_from}
use Rattle.scene_steps.specs.Withdrawals.{withdrawn_job}
use Rattle.scene_steps.proofs.Ends.Withdrawals.{withdrawn_job-listed}
use Rattle.slot_exec.specs.declared.rooms.Remembered.{Remembered}
use Rattle.slot_exec.specs.Parts.{IsExecutive}

-- of spans, the first and the others
ends_before-cons : (x : ℕ) (s : Span) (ss : List Span) → ends_before x (s ∷ ss) ≡ cond (ltb s.end x) 1 0 + ends_before x ss
ends_before-cons x s ss = sum_by-cons (λ (r : Span). cond (ltb r.end x) 1 0) s ss

-- capacities move no end
ends_before-filled : (x : ℕ) (spans : List Span) → ends_before x (filled spans) ≡ ends_before x spans
ends_before-filled x [] = refl
ends_before-filled x (s ∷ ss) =
    let first = with_spare s (first_spare (filled ss)) in
    omega (arith, ends_before-cons x first (filled ss), ends_before-cons x s ss, ends_before-filled x ss)

-- after a cut as many spans end before it
ends_before-cut : (at : ℕ) (spans : List Span) → ends_before at (cut at spans) ≡ ends_before at spans
ends_before-cut at [] = refl
ends_before-cut at (s ∷ ss) =
    cond_both (ltb s.start at && ltb at s.end) (part_before at s ∷ part_from at s ∷ ss) (s ∷ cut at ss) (λ xs. ends_before at xs ≡ ends_before at (s ∷ ss))
    (λ t.
    let at_end : cond {A = ℕ} (ltb at at) 1 0 ≡ 0 = ap (λ b. cond b 1 0) (le-ltb at at (omega arith)) in
    omega (arith, at_end, ends_before-cons at (part_before at s) (part_from at s ∷ ss), ends_before-cons at (part_from at s) ss, ends_before-cons at s ss))
    (λ t. omega (arith, ends_before-cons at s (cut at ss), ends_before-cons at s ss, ends_before-cut at ss))

-- and also with their capacities
pub ends_before-split : (at : ℕ) (spans : List Span) → ends_before at (filled (cut at spans)) ≡ ends_before at spans
ends_before-split at spans = ends_before-filled at (cut at spans) ∙ ends_before-cut at spans

module _ (exec now : Executive) (rows : List Span) (reserved : List Sporadic) (limit capacity most : ℕ) {known : Remembered} (is : IsExecutive exec rows reserved limit capacity most known) (same : exec ≡ now) where
  -- an accepted offer takes the steps of the test, of the split and of the charge
  pub few_steps-offer : (at slots within row old middle new : ℕ) (job : Job) → at ≡ exec.scene.time → job ≡ offered_job row at slots within → now.plan.tasks.sporadics ≡ [] → (reserved ≡ [] → middle ≤ old + ends_before (exec.scene.time + within) rows + 1) → new ≤ middle + 4 * ends_before job.dl rows + 9 → new ≤ old + 5 * ends_before (now.scene.time + within) (spans_of now.plan.cycle now.scene) + 13
  few_steps-offer at slots within row old middle new job at_is job_at none test joins =
      let own : exec.plan.tasks.sporadics ≡ [] = ap (λ (e : Executive). e.plan.tasks.sporadics) same ∙ none in
      let tested = test (is.sporadics ∙ ap (λ (ss : List Sporadic). map without_name ss) own) in
      let due : job.dl ≡ exec.scene.time + within = ap (λ (j : Job). j.dl) job_at ∙ ap (λ t. t + within) at_is in
      let joined = subst (λ dl. new ≤ middle + 4 * ends_before dl rows + 9) due joins in
      let bound : new ≤ old + 5 * ends_before (exec.scene.time + within) rows + 13 = omega (arith, tested, joined) in
      let seen = subst (λ (rs : List Span). new ≤ old + 5 * ends_before (exec.scene.time + within) rs + 13) is.spans bound in
      subst (λ (e : Executive). new ≤ old + 5 * ends_before (e.scene.time + within) (spans_of e.plan.cycle e.scene) + 13) same seen

  -- the job that has the key is the one that is withdrawn
  withdrawn_job-own : (firm : ℕ) (job : Job) → Contains exec.scene.jobs job → job.key ≡ FirmKey firm → withdrawn_job firm exec.scene.jobs ≡ Some job
  withdrawn_job-own firm job remains key = by_found (withdrawn_job firm exec.scene.jobs) refl
    where
      by_found : (o : Option Job) → withdrawn_job firm exec.scene.jobs ≡ o → withdrawn_job firm exec.scene.jobs ≡ Some job
      by_found None e =
          let other = find-None (λ (j : Job). same_key j.key (FirmKey firm)) exec.scene.jobs job e (Has-from_Contains exec.scene.jobs job remains) in
          let itself = same_key-itself job.key (FirmKey firm) key in
          absurd (cc (other, itself))
      by_found (Some found) e =
          let listed = withdrawn_job-listed firm exec.scene.jobs found e in
          let bounds = (every_executive_is_kept exec is.plan is.stands).bounds in
          let one = same_member-from_apart (λ (j : Job). j.key) exec.scene.jobs found job (IsApart-from_count exec.scene.jobs bounds.apart) listed.0 (Has-from_Contains exec.scene.jobs job remains) (listed.1 ∙ sym key) in
          e ∙ ap (λ (j : Job). Some j) one

  -- its withdrawal takes the steps of the search, and of giving back
  pub few_steps-withdrawal : (firm old new : ℕ) (job : Job) → Contains now.scene.jobs job → job.key ≡ FirmKey firm → (withdrawn_job firm exec.scene.jobs ≡ Some job → new ≤ old + length exec.scene.jobs + 3 * ends_before job.dl rows + 3) → new ≤ old + length now.scene.jobs + 3 * ends_before job.dl (spans_of now.plan.cycle now.scene) + 3
  few_steps-withdrawal firm old new job remains key taken =
      let own = subst (λ (e : Executive). Contains e.scene.jobs job) (sym same) remains in
      let bound = taken (withdrawn_job-own firm job own key) in
      let seen = subst (λ (rs : List Span). new ≤ old + length exec.scene.jobs + 3 * ends_before job.dl rs + 3) is.spans bound in
      subst (λ (e : Executive). new ≤ old + length e.scene.jobs + 3 * ends_before job.dl (spans_of e.plan.cycle e.scene) + 3) same seen

  -- where there is none, only the search
  pub no_job_steps-withdrawal : (old new : ℕ) → new ≤ old + length exec.scene.jobs → new ≤ old + length now.scene.jobs
  no_job_steps-withdrawal old new bound = subst (λ (e : Executive). new ≤ old + length e.scene.jobs) same bound

-- A withdrawal, in the parts of an executive.
use Rattle.std.proofs.Common.{◌≡◌, ℕ, ◌≤◌, not, Option, Some, None, List, [], ◌∷◌, refl, sym, ap, ◌∙◌, subst, inl, inr}
use Rattle.std.specs.Prelude.{count_by, find, nat_le, sum_by, ◌↔◌}
use Rattle.std.specs.Option.{option_map_or}
use Rattle.std.proofs.lemmas.Bool.{cases_Bool, cond-true, cond-false, le-leb, not_from_false}
use Rattle.slot_core.specs.declared.TheConstants.{TIME_LIMIT}
use Rattle.slot_facts.proofs.Legal.Executives.{every_executive_is_kept}
use Rattle.slot_facts.proofs.Lists.Members.{Contains-from_Has}
use Rattle.slot_facts.proofs.Sets.Faults.{find-None}
use Rattle.scene_steps.proofs.Ends.EndedScenes.{filter_passed}
use Rattle.slot_core.specs.declared.events.Event.TheVariants.{Withdraw as WithdrawEvent}
use Rattle.slot_core.specs.declared.events.Gone.{Gone}
use Rattle.slot_core.specs.declared.events.Gone.TheVariants.{Freed, NoJob}
use Rattle.slot_core.specs.declared.events.What.TheVariants.{Withdraw}
use Rattle.slot_core.specs.declared.jobs.Job.{Job}
use Rattle.slot_core.specs.declared.jobs.Key.{Key}
use Rattle.slot_core.specs.declared.jobs.Key.TheVariants.{Firm as FirmKey}
use Rattle.slot_core.specs.declared.jobs.Span.{Span}
use Rattle.slot_core.specs.declared.tasks.Sporadic.{Sporadic}
use Rattle.slot_core.specs.Runs.Answers.{withdraw_answer}
use Rattle.slot_core.specs.Runs.Choice.{ready}
use Rattle.slot_core.specs.Keeping.Executives.{Executive, Does}
use Rattle.slot_core.specs.Offline.Keys.{is_offline, same_key}
use Rattle.slot_core.specs.Runs.Matches.{HaveSameItems}
use Rattle.slot_core.specs.Runs.Traces.{arrive}
use Rattle.scene_steps.specs.Withdrawals.{jobs_without, spans_without, withdrawn, withdrawn_job}
use Rattle.scene_steps.proofs.Ends.Withdrawals.{left_by, Does-withdraw, NoJob-counted, spans-withdrawn, withdrawn-some, withdrawn_job-listed}
use Rattle.scene_steps.proofs.Slots.NewParts.{parts-same}
use Rattle.slot_exec.specs.declared.rooms.Remembered.{Remembered}
use Rattle.slot_exec.specs.Rooms.{due_left}
use Rattle.slot_exec.specs.Parts.{executive, IsExecutive}
use Rattle.slot_exec.proofs.EventParts.{IsExecutive-after}
use Rattle.slot_exec.proofs.ChangedRooms.{RemembersScene-left}

-- the jobs without the one that is withdrawn are all others, where there is one
jobs_without-is : (firm : ℕ) (jobs : List Job) → jobs_without firm jobs ≡ option_map_or (λ (ended : Job). jobs_without firm jobs) (withdrawn_job firm jobs) jobs
jobs_without-is firm jobs = by_found (withdrawn_job firm jobs) refl
  where
    by_found : (o : Option Job) → withdrawn_job firm jobs ≡ o → jobs_without firm jobs ≡ option_map_or (λ (ended : Job). jobs_without firm jobs) o jobs
    by_found None e =
        let test = λ (j : Job). same_key j.key (FirmKey firm) in
        filter_passed (λ (j : Job). not (test j)) jobs (λ j at. not_from_false (test j) (find-None test jobs j e at))
    by_found (Some job) e = refl

-- a search for a key among the ready jobs finds what one among all finds, where that may start now
pub find-ready : (key : Key) (now : ℕ) (jobs : List Job) → ((job : Job) → find (λ (j : Job). same_key j.key key) jobs ≡ Some job → job.est ≤ now) → find (λ (j : Job). same_key j.key key) (ready now jobs) ≡ find (λ (j : Job). same_key j.key key) jobs
find-ready key now [] come = refl
find-ready key now (j ∷ jobs) come =
    let found = find (λ (o : Job). same_key o.key key) jobs in
    elim (cases_Bool (same_key j.key key)) [
      | inl own ↦
          let starts = come j (cond-true (same_key j.key key) (Some j) found own) in
          rw (le-leb j.est now starts, own) refl
      | inr other ↦
          let rest = find-ready key now jobs (λ job e. come job (cond-false (same_key j.key key) (Some j) found other ∙ e)) in
          elim (cases_Bool (nat_le j.est now)) [
            | inl starts ↦ rw (starts, other) rest
            | inr later ↦ rw (later, other) rest
          ]
    ]

-- where the job of this row is taken, or all jobs stay since there is none, what is left are the
-- jobs without it
pub jobs-taken : (firm : ℕ) (jobs left : List Job) (taken : Option Job) → taken ≡ withdrawn_job firm jobs → ((job : Job) → taken ≡ Some job → HaveSameItems left (jobs_without firm jobs)) → (taken ≡ None → left ≡ jobs) → HaveSameItems left (jobs_without firm jobs)
jobs-taken firm jobs left None is some none f =
    let stays = jobs_without-is firm jobs ∙ ap (λ (o : Option Job). option_map_or (λ (ended : Job). jobs_without firm jobs) o jobs) (sym is) in
    ap (sum_by f) (none refl ∙ sym stays)
jobs-taken firm jobs left (Some job) is some none f = some job refl f

module _ (exec now : Executive) (rows : List Span) (reserved : List Sporadic) (limit capacity most row firm : ℕ) {known : Remembered} (is : IsExecutive exec rows reserved limit capacity most known) (same : exec ≡ now) where
  -- what is told is the answer
  pub answer-withdrawn : (result : Gone) → result ≡ withdrawn firm exec.scene.jobs → result ≡ withdraw_answer now.scene firm
  answer-withdrawn result told = told ∙ ap (λ (e : Executive). withdraw_answer e.scene firm) same

  -- the job that is withdrawn may start now
  pub come-before : (job : Job) → withdrawn_job firm exec.scene.jobs ≡ Some job → job.est ≤ exec.scene.time
  come-before job e =
      let listed = withdrawn_job-listed firm exec.scene.jobs job e in
      let bounds = (every_executive_is_kept exec is.plan is.stands).bounds in
      (bounds.come job (Contains-from_Has exec.scene.jobs job listed.0) (ap is_offline listed.1)).1

  -- at least one slot is freed
  pub some-withdrawn : (result : Gone) → result ≡ withdrawn firm exec.scene.jobs → (n : ℕ) → result ≡ Freed n → 1 ≤ n
  some-withdrawn result told n frees = withdrawn-some exec firm n is.plan is.stands (sym told ∙ frees)

  -- no job is withdrawn exactly where none has the key
  pub none-withdrawn : (result : Gone) → result ≡ withdrawn firm exec.scene.jobs → (result ≡ NoJob) ↔ (count_by (λ (j : Job). same_key j.key (FirmKey firm)) now.scene.jobs ≡ 0)
  none-withdrawn result told =
      subst
      (λ (e : Executive). (result ≡ NoJob) ↔ (count_by (λ (j : Job). same_key j.key (FirmKey firm)) e.scene.jobs ≡ 0))
      same
      (subst (λ (r : Gone). (r ≡ NoJob) ↔ (count_by (λ (j : Job). same_key j.key (FirmKey firm)) exec.scene.jobs ≡ 0)) (sym told) (NoJob-counted firm exec.scene.jobs))

  -- parts with what a withdrawal leaves have done what the model does, and agree
  pub parts-withdrawn : (result : Gone) (at : ℕ) (spans : List Span) (left : List Job) (places room due : ℕ) → now.last_row ≤ row → result ≡ withdrawn firm exec.scene.jobs → spans ≡ spans_without firm exec.scene.jobs rows → at ≡ exec.scene.time → places ≡ limit → HaveSameItems left (jobs_without firm exec.scene.jobs) → room ≡ capacity → due ≡ due_left (withdrawn_job firm exec.scene.jobs) known.tight known.due → let after = executive exec.plan at spans left exec.scene.nexts exec.scene.soft row in Does now after (arrive row (WithdrawEvent firm)) (Withdraw row firm result) × IsExecutive after spans reserved places room most (record known { due = due })
  parts-withdrawn result at spans left places room due later told new_spans new_time new_places new_jobs new_room new_due =
      let scene = exec.scene in
      let cycle = exec.plan.cycle in
      let after = executive exec.plan at spans left scene.nexts scene.soft row in
      let are_spans = new_spans ∙ ap (spans_without firm scene.jobs) is.spans ∙ spans-withdrawn exec firm is.plan is.stands in
      let parts = parts-same cycle after.scene (left_by firm scene) spans new_time new_jobs refl refl refl are_spans in
      let last : exec.last_row ≤ row = subst (λ (e : Executive). e.last_row ≤ row) (sym same) later in
      let does = Does-withdraw exec after row firm is.plan is.stands last refl parts.0 refl in
      let early = subst (λ n. n ≤ TIME_LIMIT) (sym new_time) is.early in (
        subst
            (λ (e : Executive). Does e after (arrive row (WithdrawEvent firm)) (Withdraw row firm result))
            same
            (subst (λ (r : Gone). Does exec after (arrive row (WithdrawEvent firm)) (Withdraw row firm r)) (sym told) does),
        IsExecutive-after exec after _ _ rows spans reserved limit capacity most places room most known _ is does early parts.1 new_places new_room refl (RemembersScene-left exec is.plan is.stands known is.remembers after.scene new_time (FirmKey firm) (withdrawn_job firm scene.jobs) due (λ job e. withdrawn_job-listed firm scene.jobs job e) (subst (HaveSameItems left) (jobs_without-is firm scene.jobs) new_jobs) refl new_due),
      )

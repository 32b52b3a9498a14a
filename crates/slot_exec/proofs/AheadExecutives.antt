-- What the parts of an executive tell ahead of slots.
use Rattle.std.proofs.Common.{◌≡◌, ℕ, ◌+◌, ◌<◌, ◌≤◌, ◌⊎◌, Bool, true, false, List, [], ◌∷◌, map, Option, Some, None, refl, sym, ap, ◌∙◌, subst, inl, inr, arith}
use Rattle.std.specs.Prelude.{◌≢◌}
use Rattle.std.specs.List.{AllByRecursion}
use Rattle.std.proofs.lemmas.Bool.{both_ways, cases_lt}
use Rattle.std.proofs.lemmas.List.Elements.{recursion_from_All}
use Rattle.slot_core.specs.declared.jobs.Key.TheVariants.{Soft as SoftKey}
use Rattle.slot_core.specs.declared.jobs.Job.{Job}
use Rattle.slot_core.specs.declared.jobs.SoftJob.{SoftJob}
use Rattle.slot_core.specs.declared.jobs.Span.{Span}
use Rattle.slot_core.specs.declared.events.Ran.TheVariants.{Key as RanKey}
use Rattle.slot_core.specs.declared.tasks.Sporadic.{Sporadic as SporadicTask}
use Rattle.slot_core.specs.Keeping.Executives.{Executive, StandsFor}
use Rattle.slot_core.specs.Keeping.Plans.{PlanParts}
use Rattle.slot_core.specs.Offline.Keys.{is_soft}
use Rattle.slot_core.specs.Runs.Choice.{earliest, ready}
use Rattle.slot_core.specs.Runs.Demand.{need_by, work_by}
use Rattle.slot_core.specs.Runs.Histories.{History}
use Rattle.slot_core.specs.Runs.Scenes.{horizon}
use Rattle.slot_core.specs.Runs.Traces.{told_of_slot}
use Rattle.slot_facts.proofs.Legal.Executives.{every_executive_is_kept}
use Rattle.slot_facts.proofs.Plans.Items.{plan_cycle-bounds}
use Rattle.spare_capacity.specs.Laws.{work_until}
use Rattle.spare_capacity.specs.Recurrence.{last_end}
use Rattle.sporadic_reserve.specs.Reserves.{Reserved, without_name}
use Rattle.guarantee.specs.Offers.{need_until, soft_fits}
use Rattle.scene_steps.specs.Scenes.{IsProperScene}
use Rattle.scene_steps.proofs.Facts.Choices.{earliest-listed}
use Rattle.scene_steps.proofs.Facts.ProperScenes.{proper_scene}
use Rattle.scene_steps.proofs.Slots.Chosen.{listed-not_soft}
use Rattle.scene_steps.proofs.Spans.Proper.{horizon-at_least, last_end-proper, work_until-proper}
use Rattle.slot_exec.specs.Ahead.{first_left, IsTightFor, MayTell, Stays, TellsAhead, TellsOtherAfter}
use Rattle.slot_exec.specs.Changes.{chosen_of, ran_of}
use Rattle.slot_exec.specs.Parts.{executive, IsExecutive}
use Rattle.slot_exec.specs.declared.rooms.Remembered.{Remembered}
use Rattle.slot_exec.specs.declared.runs.Chosen.{Chosen}
use Rattle.slot_exec.specs.declared.runs.Chosen.TheVariants.{Nothing, Soft, Guaranteed}
use Rattle.slot_exec.proofs.AheadParts.{held-back, idle-changes, idle-stays, job-changes, job-stays}
use Rattle.slot_exec.proofs.AheadSlots.{job-left, slots_later, soft-ahead, soft-held, soft-runs_out, ChoosesAhead, TellsAhead-from_choices, TellsOtherAfter-from_choices}
use Rattle.slot_exec.proofs.SceneOffers.{soft_fits-scene}
use Rattle.slot_exec.proofs.SlotChoice.{choice_of, IsChosen}
use Rattle.slot_exec.proofs.SlotParts.{IsChosen-parts}
use Rattle.slot_exec.proofs.SpanOffers.{need_until-proper, reserve-demand}

-- what is chosen tells of the parts from which it is
chosen-nothing : (soft : List SoftJob) (may : Bool) (o : Option Job) → Nothing ≡ chosen_of soft may o → o ≡ None
chosen-nothing [] may None e = refl
chosen-nothing [] may (Some job) e = cc
chosen-nothing (s ∷ soft) true o e = cc
chosen-nothing (s ∷ soft) false None e = refl
chosen-nothing (s ∷ soft) false (Some job) e = cc

chosen-soft : (soft : List SoftJob) (may : Bool) (o : Option Job) (row : ℕ) → Soft row ≡ chosen_of soft may o → (s : SoftJob) × (rest : List SoftJob) × (soft ≡ s ∷ rest) × (may ≡ true) × (row ≡ s.row)
chosen-soft [] may None row e = absurd (cc e)
chosen-soft [] may (Some job) row e = absurd (cc e)
chosen-soft (s ∷ soft) true o row e = (s, soft, refl, refl, cc e)
chosen-soft (s ∷ soft) false None row e = absurd (cc e)
chosen-soft (s ∷ soft) false (Some job) row e = absurd (cc e)

chosen-job : (soft : List SoftJob) (may : Bool) (o : Option Job) (job : Job) → Guaranteed job ≡ chosen_of soft may o → (o ≡ Some job) × (soft ≢ [] → may ≡ false)
chosen-job [] may None job e = absurd (cc e)
chosen-job [] may (Some j) job e =
    let same : j ≡ job = cc e in
    (ap (λ (k : Job). Some k) same, λ waits. absurd (waits refl))
chosen-job (s ∷ soft) true o job e = absurd (cc e)
chosen-job (s ∷ soft) false None job e = absurd (cc e)
chosen-job (s ∷ soft) false (Some j) job e =
    let same : j ≡ job = cc e in
    (ap (λ (k : Job). Some k) same, λ waits. refl)

module _ {plan : PlanParts} {time : ℕ} {rows : List Span} {jobs : List Job} (reserve : Reserved) {soft : List SoftJob} {row limit capacity most : ℕ} {known : Remembered} (is : IsExecutive (executive plan time rows jobs reserve.nexts soft row) rows reserve.sporadics limit capacity most known) where
  -- the executive of the parts
  abbrev exec : Executive
  exec = executive plan time rows jobs reserve.nexts soft row

  proper : IsProperScene plan.cycle exec.scene
  proper = proper_scene exec is.plan is.stands

  -- by its spans the same is needed, and they end at the horizon
  need-same : (r x : ℕ) → need_until rows reserve r x ≡ need_by plan.tasks.sporadics exec.scene r x
  need-same r x =
      ap (λ xs. need_until xs reserve r x) is.spans ∙ need_until-proper plan.tasks.sporadics plan.cycle exec.scene reserve r x proper is.sporadics refl

  end-same : last_end time rows ≡ horizon plan.cycle time
  end-same =
      ap (last_end time) is.spans ∙ last_end-proper plan.cycle exec.scene jobs (horizon plan.cycle time) proper

  work-same : (x : ℕ) → work_until rows x ≡ work_by jobs x
  work-same x = ap (λ xs. work_until xs x) is.spans ∙ work_until-proper plan.cycle exec.scene x proper

  -- the slots of a cycle lie before the last end
  pub cycle-before_end : time + plan.cycle < last_end time rows
  cycle-before_end =
      omega (arith, end-same, horizon-at_least plan.cycle time (plan_cycle-bounds plan is.plan).0)

  -- where no sporadic task may come the reserve has none
  reserve-none : plan.tasks.sporadics ≡ [] → reserve.sporadics ≡ []
  reserve-none none = is.sporadics ∙ ap (map without_name) none

  reserve-some : plan.tasks.sporadics ≢ [] → reserve.sporadics ≢ []
  reserve-some some = λ none. by_tasks plan.tasks.sporadics refl (sym is.sporadics ∙ none)
    where
      by_tasks : (ss : List SporadicTask) → plan.tasks.sporadics ≡ ss → map without_name ss ≡ [] → ⊥
      by_tasks [] same empty = some same
      by_tasks (s ∷ ss) same empty = cc empty

  module _ (chosen : Chosen) (chosen_is : chosen ≡ chosen_of soft (soft_fits rows reserve time) (earliest (ready time jobs))) where
    -- what is chosen may be told ahead, with what is then remembered
    pub MayTell-parts : (room : Remembered) → (soft ≢ [] → reserve.sporadics ≢ [] → soft_fits rows reserve time ≡ false → IsTightFor rows reserve time 1 room) → MayTell chosen rows reserve time soft room
    MayTell-parts room tight = by_chosen chosen chosen_is
      where
        by_chosen : (c : Chosen) → c ≡ chosen_of soft (soft_fits rows reserve time) (earliest (ready time jobs)) → MayTell c rows reserve time soft room
        by_chosen Nothing same = tt
        by_chosen (Soft r) same =
            let (s, rest, here, may, row_is) = chosen-soft soft (soft_fits rows reserve time) (earliest (ready time jobs)) r same in
            let left = recursion_from_All (λ (j : SoftJob). (1 ≤ j.left) × (j.left ≤ j.declared)) soft (every_executive_is_kept exec is.plan is.stands).soft.left in
            (some_left soft s rest here left, may)
          where
            some_left : (xs : List SoftJob) (s : SoftJob) (rest : List SoftJob) → xs ≡ s ∷ rest → AllByRecursion (λ (j : SoftJob). (1 ≤ j.left) × (j.left ≤ j.declared)) xs → 1 ≤ first_left xs
            some_left [] s rest e all = absurd (cc e)
            some_left (x ∷ xs) s rest e all = all.0.0
        by_chosen (Guaranteed job) same =
            let (found, held) = chosen-job soft (soft_fits rows reserve time) (earliest (ready time jobs)) job same in
            ((job-left exec is.plan is.stands job (earliest-listed time jobs job found).0).1, λ waits some. tight waits some (held waits))

    module _ (n bound : ℕ) (some : 1 ≤ n) (few : n ≤ bound) (bound_few : bound ≤ plan.cycle) (stays : Stays chosen rows reserve time jobs soft bound n) where
      -- it stays for so many slots
      chooses : ChoosesAhead (ran_of chosen) n exec
      chooses = by_chosen chosen chosen_is (IsChosen-parts reserve is chosen chosen_is) stays
        where
          by_chosen : (c : Chosen) → c ≡ chosen_of soft (soft_fits rows reserve time) (earliest (ready time jobs)) → IsChosen exec c → Stays c rows reserve time jobs soft bound n → ChoosesAhead (ran_of c) n exec
          by_chosen Nothing same at holds =
              idle-stays exec is.plan is.stands n bound (chosen-nothing soft (soft_fits rows reserve time) (earliest (ready time jobs)) same) at bound_few holds
          by_chosen (Soft r) same (s, rest, here, row_is, runs) holds =
              let left : first_left soft ≡ s.left = ap first_left here in
              subst (λ k. ChoosesAhead (RanKey (SoftKey k)) n exec) (sym row_is) (soft-ahead n exec s rest is.plan is.stands here (omega (arith, holds.left)) (omega arith) (λ k x low after within needed.
              omega (arith, need-same (time + k + 1) x, holds.free k x low after (omega (arith, end-same)) (omega (arith, need-same (time + k + 1) x)))))
          by_chosen (Guaranteed job) same (listed, runs) holds =
              let (found, held) = chosen-job soft (soft_fits rows reserve time) (earliest (ready time jobs)) job same in
              let may = ap (λ xs. soft_fits xs reserve time) is.spans ∙ soft_fits-scene exec reserve is.plan is.stands is.sporadics refl in
              job-stays exec is.plan is.stands job found runs n bound some bound_few holds.few (held-back exec is.plan is.stands job found runs n some (λ waits. sym may ∙ held waits) (λ waits tasks.
              let (room, tight) = holds.tight waits (reserve-some tasks) in
              (room.tight, tight.after, omega (arith, tight.within, end-same), omega (arith, tight.short, tight.due, work-same room.tight, reserve-demand plan.tasks.sporadics exec.scene reserve (time + n) room.tight is.sporadics refl))))

      -- and then another comes, where the number is exact
      changes : (soft ≡ []) ⊎ (plan.tasks.sporadics ≡ []) ⊎ ((r : ℕ) × (ran_of chosen ≡ RanKey (SoftKey r))) → n < bound → ran_of chosen ≡ choice_of (slots_later n exec) → ⊥
      changes = by_chosen chosen chosen_is (IsChosen-parts reserve is chosen chosen_is) stays chooses
        where
          by_chosen : (c : Chosen) → c ≡ chosen_of soft (soft_fits rows reserve time) (earliest (ready time jobs)) → IsChosen exec c → Stays c rows reserve time jobs soft bound n → ChoosesAhead (ran_of c) n exec → (soft ≡ []) ⊎ (plan.tasks.sporadics ≡ []) ⊎ ((r : ℕ) × (ran_of c ≡ RanKey (SoftKey r))) → n < bound → ran_of c ≡ choice_of (slots_later n exec) → ⊥
          by_chosen Nothing same at holds ahead exact less =
              idle-changes exec is.plan is.stands n bound ahead holds less
          by_chosen (Soft r) same (s, rest, here, row_is, runs) holds ahead exact less =
              let left : first_left soft ≡ s.left = ap first_left here in
              elim (cases_lt n s.left) [
                | inl more ↦
                    let (x, after, within, short) = holds.short less (omega arith) in
                    soft-held n r exec x is.plan is.stands ahead after (omega (arith, end-same)) (omega (arith, short, need-same (time + n + 1) x))
                | inr last ↦
                    let own = subst (λ k. ChoosesAhead (RanKey (SoftKey k)) n exec) row_is ahead in
                    subst (λ k. RanKey (SoftKey k) ≡ choice_of (slots_later n exec) → ⊥) (sym row_is) (soft-runs_out n exec s rest is.plan is.stands own here (omega (arith, holds.left)) some)
              ]
          by_chosen (Guaranteed job) same (listed, runs) holds ahead exact less =
              let (found, held) = chosen-job soft (soft_fits rows reserve time) (earliest (ready time jobs)) job same in
              job-changes exec is.plan is.stands job found runs n bound some bound_few ahead (holds.all (alone exact)) less
            where
              alone : (soft ≡ []) ⊎ (plan.tasks.sporadics ≡ []) ⊎ ((r : ℕ) × (RanKey job.key ≡ RanKey (SoftKey r))) → (soft ≡ []) ⊎ (reserve.sporadics ≡ [])
              alone (inl none) = inl none
              alone (inr (inl none)) = inr (reserve-none none)
              alone (inr (inr (r, e))) =
                  let named : job.key ≡ SoftKey r = cc e in
                  absurd (both_ways (is_soft job.key) (listed-not_soft exec job is.plan is.stands listed) (ap is_soft named))

      -- so it is told, from what is seen of the executive
      pub TellsAhead-parts : (before : Executive) → exec ≡ before → (h : History) → StandsFor before h → TellsAhead before.plan.tasks before.plan.cycle (told_of_slot (ran_of chosen)) n h
      TellsAhead-parts before seen =
          subst
          (λ (e : Executive). (h : History) → StandsFor e h → TellsAhead e.plan.tasks e.plan.cycle (told_of_slot (ran_of chosen)) n h)
          seen
          (λ h stands. TellsAhead-from_choices (ran_of chosen) n exec h is.plan stands chooses)

      pub TellsOtherAfter-parts : (before : Executive) → exec ≡ before → (h : History) → StandsFor before h → (before.scene.soft ≡ []) ⊎ (before.plan.tasks.sporadics ≡ []) ⊎ ((r : ℕ) × (ran_of chosen ≡ RanKey (SoftKey r))) → n < bound → TellsOtherAfter before.plan.tasks before.plan.cycle (told_of_slot (ran_of chosen)) n h
      TellsOtherAfter-parts before seen =
          subst
          (λ (e : Executive). (h : History) → StandsFor e h → (e.scene.soft ≡ []) ⊎ (e.plan.tasks.sporadics ≡ []) ⊎ ((r : ℕ) × (ran_of chosen ≡ RanKey (SoftKey r))) → n < bound → TellsOtherAfter e.plan.tasks e.plan.cycle (told_of_slot (ran_of chosen)) n h)
          seen
          (λ h stands exact less. TellsOtherAfter-from_choices (ran_of chosen) n exec h is.plan stands chooses (changes exact less))

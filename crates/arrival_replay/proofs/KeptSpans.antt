-- What is shown stays where no span changes, and what happens is not the end.
use Rattle.std.proofs.Common.{◌≡◌, ℕ, Bool, true, false, ◌∷◌, refl, sym, ◌∙◌, subst}
use Rattle.std.specs.Prelude.{◌≢◌}
use Rattle.slot_core.specs.declared.tasks.TaskSet.{TaskSet}
use Rattle.slot_core.specs.declared.events.What.{What}
use Rattle.slot_core.specs.declared.events.What.TheVariants.{Start, Soft, Firm, Sporadic, Done, Withdraw, Run, Idle, End}
use Rattle.slot_core.specs.declared.events.Firm.TheVariants.{Accepted, Late, Far, NoRoom}
use Rattle.slot_core.specs.declared.events.Spo.TheVariants.{Taken, Soon}
use Rattle.slot_core.specs.declared.events.Done.TheVariants.{Freed, NotRunning}
use Rattle.slot_core.specs.declared.events.Gone.TheVariants.{Freed as GoneFreed, NoJob}
use Rattle.slot_core.specs.declared.events.Event.TheVariants.{Soft as SoftEvent, Firm as FirmEvent, Sporadic as SporadicEvent, Done as DoneEvent, Withdraw as WithdrawEvent}
use Rattle.slot_core.specs.declared.events.Ran.{Ran}
use Rattle.slot_core.specs.declared.events.Ran.TheVariants.{Idle as RanIdle, Key as RanKey}
use Rattle.slot_core.specs.Keeping.Executives.{Executive, Does, Shows, StandsFor}
use Rattle.slot_core.specs.Keeping.Plans.{PlanParts}
use Rattle.slot_core.specs.Runs.Choice.{choice}
use Rattle.slot_core.specs.Runs.Histories.{History}
use Rattle.slot_core.specs.Runs.Scenes.{scene_of}
use Rattle.slot_core.specs.Runs.ShownSpans.{ShownSpans}
use Rattle.slot_core.specs.Runs.Spans.{shown_of}
use Rattle.slot_core.specs.Runs.Traces.{Occurrence, arrive, slot, told_of, told_of_slot}
use Rattle.arrival_replay.specs.Replays.{may_change_spans}

-- the spans after what changes none are those before it
shown-kept : (set : TaskSet) (cycle : ℕ) (what : What) (h : History) → may_change_spans what ≡ false → shown_of cycle (scene_of set cycle (what ∷ h)) ≡ shown_of cycle (scene_of set cycle h)
shown-kept set cycle (Soft row slots answer) h kept = refl
shown-kept set cycle (Firm row slots within Accepted) h kept = absurd (cc kept)
shown-kept set cycle (Firm row slots within Late) h kept = refl
shown-kept set cycle (Firm row slots within Far) h kept = refl
shown-kept set cycle (Firm row slots within (NoRoom evidence)) h kept = refl
shown-kept set cycle (Sporadic row index (Taken due)) h kept = absurd (cc kept)
shown-kept set cycle (Sporadic row index (Soon next)) h kept = refl
shown-kept set cycle (Done row key (Freed n)) h kept = absurd (cc kept)
shown-kept set cycle (Done row key NotRunning) h kept = refl
shown-kept set cycle (Withdraw row firm (GoneFreed n)) h kept = absurd (cc kept)
shown-kept set cycle (Withdraw row firm NoJob) h kept = refl
shown-kept set cycle Start h kept = absurd (cc kept)
shown-kept set cycle (Run key) h kept = absurd (cc kept)
shown-kept set cycle Idle h kept = absurd (cc kept)
shown-kept set cycle End h kept = absurd (cc kept)

-- the spans of an executive after what it did are those after that
pub shown-after : (before after : Executive) (next : Occurrence) (what : What) (last : ShownSpans) (h : History) → Does before after next what → Shows after last → StandsFor before h → last ≡ shown_of before.plan.cycle (scene_of before.plan.tasks before.plan.cycle (what ∷ h))
shown-after before after next what last h does shows stands =
    subst (λ (p : PlanParts). last ≡ shown_of p.cycle (scene_of p.tasks p.cycle (what ∷ h))) does.plan (shows.1 (what ∷ h) (does.stands h stands))

-- what ran is not the end
ran-some : (ran : Ran) → told_of_slot ran ≡ End → ⊥
ran-some RanIdle same = cc same
ran-some (RanKey key) same = cc same

-- nor is anything that happens
told-some : (set : TaskSet) (cycle : ℕ) (h : History) (next : Occurrence) → told_of set cycle h next ≡ End → ⊥
told-some set cycle h (arrive row (SoftEvent slots)) same = cc same
told-some set cycle h (arrive row (FirmEvent slots within)) same = cc same
told-some set cycle h (arrive row (SporadicEvent index)) same = cc same
told-some set cycle h (arrive row (DoneEvent key)) same = cc same
told-some set cycle h (arrive row (WithdrawEvent firm)) same = cc same
told-some set cycle h slot same =
    ran-some (choice set.sporadics cycle (scene_of set cycle h)) same

-- so what an executive does is not the end
pub done-some : (before after : Executive) (next : Occurrence) (what : What) → Does before after next what → what ≢ End
done-some before after next what does = λ same.
    let h = does.some.0 in
    told-some before.plan.tasks before.plan.cycle h next (sym (does.told h does.some.1) ∙ same)

-- where an arrival was answered, an entry whose spans were read where they may have changed shows
-- those after it
pub shown-answered : (before after : Executive) (next : Occurrence) (what : What) (first last : ShownSpans) (h : History) → Does before after next what → (may_change_spans what ≡ true → Shows after last) → (may_change_spans what ≡ false → last ≡ first) → StandsFor before h → first ≡ shown_of before.plan.cycle (scene_of before.plan.tasks before.plan.cycle h) → last ≡ shown_of before.plan.cycle (scene_of before.plan.tasks before.plan.cycle (what ∷ h))
shown-answered before after next what first last h does read kept stands shown =
    by_test (may_change_spans what) refl
  where
    by_test : (test : Bool) → may_change_spans what ≡ test → last ≡ shown_of before.plan.cycle (scene_of before.plan.tasks before.plan.cycle (what ∷ h))
    by_test true may = shown-after before after next what last h does (read may) stands
    by_test false stay =
        kept stay ∙ shown ∙ sym (shown-kept before.plan.tasks before.plan.cycle what h stay)

-- Slots in which the same runs: those that pass, and those ahead.
use Rattle.std.proofs.Common.{◌≡◌, ℕ, ◌+◌, ◌<◌, ◌≤◌, ◌⊎◌, [], sym, ◌∙◌, subst}
use Rattle.slot_core.specs.declared.events.Ran.{Ran}
use Rattle.slot_core.specs.declared.events.Ran.TheVariants.{Key as RanKey}
use Rattle.slot_core.specs.declared.jobs.Key.TheVariants.{Soft as SoftKey}
use Rattle.slot_core.specs.Keeping.Executives.{Does, Executive, StandsFor}
use Rattle.slot_core.specs.Keeping.Plans.{PlanParts}
use Rattle.slot_core.specs.Runs.Histories.{History}
use Rattle.slot_core.specs.Runs.Traces.{slot, told_of, told_of_slot}
use Rattle.slot_exec.specs.Ahead.{history_ahead, TellsAhead, TellsOtherAfter}
use Rattle.slot_exec.proofs.AheadHistories.{history_ahead-more, TellsAhead-more}
use Rattle.slot_port.specs.Calls.{ran_in, StaysAhead}

-- n slots have passed, and in each of them what was to run in the first has run
pub record HasPassed (before after : Executive) (n : ℕ) : Type 0 where
  pub same :
      (h : History) → StandsFor before h
      → TellsAhead before.plan.tasks before.plan.cycle (told_of_slot (ran_in before)) n h
  pub stands :
      (h : History) → StandsFor before h
      → StandsFor after (history_ahead (told_of_slot (ran_in before)) n h)
  pub plan : after.plan ≡ before.plan

-- one slot
pub HasPassed-one : (before after : Executive) (ran : Ran) → ran ≡ ran_in before → Does before after slot (told_of_slot ran) → HasPassed before after 1
HasPassed-one before after ran is does =
    let own = subst (λ r. Does before after slot (told_of_slot r)) is does in
    record {
      same = λ h stands. (own.told h stands, tt);
      stands = λ h stands. own.stands h stands;
      plan = own.plan;
    }

-- one more in which that runs
pub HasPassed-more : (before now after : Executive) (ran : Ran) (n : ℕ) → HasPassed before now n → ran ≡ ran_in before → Does now after slot (told_of_slot ran) → HasPassed before after (n + 1)
HasPassed-more before now after ran n was is does =
    let what = told_of_slot (ran_in before) in
    let own = subst (λ r. Does now after slot (told_of_slot r)) is does in
    record {
      same = λ h stands.
          let told = subst (λ (p : PlanParts). what ≡ told_of p.tasks p.cycle (history_ahead what n h) slot) was.plan (own.told (history_ahead what n h) (was.stands h stands)) in
          TellsAhead-more before.plan.tasks before.plan.cycle what n h (was.same h stands) told;
      stands = λ h stands. subst (StandsFor after) (history_ahead-more what n h) (own.stands (history_ahead what n h) (was.stands h stands));
      plan = own.plan ∙ was.plan;
    }

-- what is told ahead of what runs in the next slot
pub StaysAhead-told : (exec : Executive) (most count : ℕ) (ran : Ran) → ran ≡ ran_in exec → 1 ≤ count → count ≤ most → count ≤ exec.plan.cycle → ((h : History) → StandsFor exec h → TellsAhead exec.plan.tasks exec.plan.cycle (told_of_slot ran) count h) → ((h : History) → StandsFor exec h → (exec.scene.soft ≡ []) ⊎ (exec.plan.tasks.sporadics ≡ []) ⊎ ((row : ℕ) × (ran ≡ RanKey (SoftKey row))) → count < most → count < exec.plan.cycle → TellsOtherAfter exec.plan.tasks exec.plan.cycle (told_of_slot ran) count h) → StaysAhead exec most count
StaysAhead-told exec most count ran is some few within =
    subst
    (λ r. ((h : History) → StandsFor exec h → TellsAhead exec.plan.tasks exec.plan.cycle (told_of_slot r) count h) → ((h : History) → StandsFor exec h → (exec.scene.soft ≡ []) ⊎ (exec.plan.tasks.sporadics ≡ []) ⊎ ((row : ℕ) × (r ≡ RanKey (SoftKey row))) → count < most → count < exec.plan.cycle → TellsOtherAfter exec.plan.tasks exec.plan.cycle (told_of_slot r) count h) → StaysAhead exec most count)
    (sym is)
    (λ same longest. record { some = some; few = few; within = within; same = same; longest = longest })

-- What an executive tells ahead is a look after each history for which it stands.
use Rattle.std.proofs.Common.{◌≡◌, ◌<◌, ◌≤◌, ◌∙◌, ℕ, zero, suc, true, [], inl, inr, ap, subst, arith}
use Rattle.std.specs.Prelude.{◌⊎◌}
use Rattle.slot_core.specs.declared.events.Ran.{Ran}
use Rattle.slot_core.specs.declared.events.Ran.TheVariants.{Idle as RanIdle, Key as RanKey}
use Rattle.slot_core.specs.declared.events.What.{What}
use Rattle.slot_core.specs.declared.events.What.TheVariants.{Run}
use Rattle.slot_core.specs.declared.jobs.Key.{Key}
use Rattle.slot_core.specs.declared.jobs.Key.TheVariants.{Soft}
use Rattle.slot_core.specs.declared.tasks.TaskSet.{TaskSet}
use Rattle.slot_core.specs.Keeping.Executives.{Executive, StandsFor, StandsForSome}
use Rattle.slot_core.specs.Keeping.Plans.{IsPlan}
use Rattle.slot_core.specs.Runs.Arrivals.{what_in_set}
use Rattle.slot_core.specs.Runs.Histories.{History}
use Rattle.slot_core.specs.Runs.Traces.{slot, told_of, told_of_slot, IsLegal}
use Rattle.slot_core.specs.Sets.Cycles.{cycle_of}
use Rattle.slot_exec.specs.Ahead.{TellsAhead, TellsOtherAfter}
use Rattle.slot_facts.proofs.Replays.Named.{told-named}
use Rattle.live_run.specs.Looks.{look_line, IsExact, TellsLook}

-- what is told of some slots is told of the first
tells-first : (set : TaskSet) (cycle : ℕ) (what : What) (n : ℕ) (h : History) → 1 ≤ n → TellsAhead set cycle what n h → what ≡ told_of set cycle h slot
tells-first set cycle what zero h some ahead = absurd (omega (arith, some))
tells-first set cycle what (suc n) h some ahead = ahead.0

-- what ran is told
ran-told : (ran : Ran) (key : Key) → told_of_slot ran ≡ Run key → ran ≡ RanKey key
ran-told RanIdle key is = cc
ran-told (RanKey other) key is = cc

-- what is told of the next slot lies in the set
pub looked-named : (exec : Executive) (ran : Ran) (count : ℕ) → IsPlan exec.plan → StandsForSome exec → 1 ≤ count
    → ((h : History) → StandsFor exec h → TellsAhead exec.plan.tasks exec.plan.cycle (told_of_slot ran) count h)
    → what_in_set exec.plan.tasks (told_of_slot ran) ≡ true
looked-named exec ran count is_plan stood some ahead =
    let p = exec.plan in
    let h = stood.0 in
    let first = tells-first p.tasks p.cycle (told_of_slot ran) count h some (ahead h stood.1) in
    let told : told_of_slot ran ≡ told_of p.tasks (cycle_of p.tasks) h slot = first ∙ ap (λ c. told_of p.tasks c h slot) is_plan.cycle in
    let legal = subst (λ c. IsLegal p.tasks c h) is_plan.cycle stood.1.legal in
    ap (what_in_set p.tasks) told ∙ told-named p.tasks h slot legal tt

-- where the number is to be the greatest one, it was to be so for the executive
was-exact : (exec : Executive) (ran : Ran) (h : History) → StandsFor exec h → told_of_slot ran ≡ told_of exec.plan.tasks exec.plan.cycle h slot → IsExact exec.plan.tasks exec.plan.cycle h
    → (exec.scene.soft ≡ []) ⊎ (exec.plan.tasks.sporadics ≡ []) ⊎ ((row : ℕ) × (ran ≡ RanKey (Soft row)))
was-exact exec ran h stands first (inl none) = inl (stands.same.soft ∙ none)
was-exact exec ran h stands first (inr (inl none)) = inr (inl none)
was-exact exec ran h stands first (inr (inr (row, is))) =
    inr (inr (row, ran-told ran (Soft row) (first ∙ is)))

pub TellsLook-told : (exec : Executive) (most count : ℕ) (ran : Ran) (h : History) → StandsFor exec h → 1 ≤ count → count ≤ most → count ≤ exec.plan.cycle
    → TellsAhead exec.plan.tasks exec.plan.cycle (told_of_slot ran) count h
    → ((exec.scene.soft ≡ []) ⊎ (exec.plan.tasks.sporadics ≡ []) ⊎ ((row : ℕ) × (ran ≡ RanKey (Soft row))) → count < most → count < exec.plan.cycle → TellsOtherAfter exec.plan.tasks exec.plan.cycle (told_of_slot ran) count h)
    → TellsLook exec.plan.tasks exec.plan.cycle h most (look_line exec.plan.tasks (told_of_slot ran) count)
TellsLook-told exec most count ran h stands some few within ahead longest =
    let p = exec.plan in
    let first = tells-first p.tasks p.cycle (told_of_slot ran) count h some ahead in (
      count,
      record {
        some = some;
        few = few;
        within = within;
        same = subst (λ w. TellsAhead p.tasks p.cycle w count h) first ahead;
        longest = λ exact less short.
            subst (λ w. TellsOtherAfter p.tasks p.cycle w count h) first (longest (was-exact exec ran h stands first exact) less short);
      },
      ap (λ w. look_line p.tasks w count) first,
    )

-- The turn is that of the slot, it may run, and what the change keeps stays kept.
use Rattle.std.proofs.Common.{◌≡◌, ◌↔◌, ℕ, ◌<◌, ◌≤◌, ◌^◌, true, List, subst, sym}
use Rattle.std.specs.Prelude.{All, Contains}
use Rattle.slot_core.specs.declared.jobs.Key.{Key}
use Rattle.slot_core.specs.declared.jobs.Job.{Job}
use Rattle.slot_core.specs.Runs.Arrivals.{key_in_set}
use Rattle.mode_switch.specs.Keeping.{HasItsJob, NoneIsReady, carried_after, carried_left, history_of_change}
use Rattle.mode_switch.specs.Parts.{ChangeParts, time_of_change}
use Rattle.mode_switch.specs.Runs.{turn_at}
use Rattle.mode_switch.specs.declared.turns.Turn.TheVariants.{Idle, New, Old}
use Rattle.mode_switch.proofs.CarriedLeft.{left-any, length-any}
use Rattle.mode_switch.proofs.ChangeFacts.{front-left, idle-none, new-named, old-carried, turn-is, turn-queue}
use Rattle.mode_switch.proofs.ChangeSteps.{KeepsChange-next, queue-empty}
use Rattle.mode_switch.proofs.ChangeTurns.{HasItsJob-any, HasItsJob-turn, turn-told}
use Rattle.mode_switch.proofs.change.Change.slot_counted.Goals as goal

pub next_carried-carried-requires : goal.next_carried-carried-requires
next_carried-carried-requires g c =
    subst
    (λ (js : List Job). All (λ (j : Job). 1 ≤ j.left) (carried_left c.self.inside.at js c.self.inside.ended c.self.inside.ran))
    (sym c.deref.ensures.value)
    (front-left _ _ _ _ c.self.invariant)

pub run-ended-requires-clause-left : goal.run-ended-requires-clause-left
run-ended-requires-clause-left g c =
    let own = c.self.inside in
    subst
    (λ (js : List Job). All (λ (j : Job). 1 ≤ j.left) (carried_left 0 js own.ended own.ran))
    (sym c.deref-2.ensures.value)
    (left-any own.at 0 own.carried.items own.ended own.ran (front-left _ _ _ _ c.self.invariant))

pub run-ended-requires-clause-may : goal.run-ended-requires-clause-may
run-ended-requires-clause-may g c =
    let own = c.self.inside in
    let turn = c.turn_between-turn.result in
    let told = turn-told own.at own.ended own.ran own.passed c.deref.result.now own.carried.items own.own.jobs c.next_carried-carried.result c.earliest-own.result c.turn_between-turn.result c.turn_between-turn.ensures c.next_carried-carried.ensures c.deref.ensures.value c.earliest-own.ensures.job in
    let may = HasItsJob-turn own.passed (carried_left own.at own.carried.items own.ended own.ran) own.own.jobs turn (turn-queue _ _ _ _ c.self.invariant turn told) in
    subst
    (λ (js : List Job). HasItsJob turn (carried_left 0 js own.ended own.ran) own.own.jobs)
    (sym c.deref-2.ensures.value)
    (HasItsJob-any turn (carried_left own.at own.carried.items own.ended own.ran) (carried_left 0 own.carried.items own.ended own.ran) own.own.jobs (length-any own.at 0 own.carried.items own.ended own.ran) may)

pub pass-requires-clause-none : goal.pass-requires-clause-none
pass-requires-clause-none g c =
    let own = c.self.inside in
    let told = turn-told own.at own.ended own.ran own.passed c.deref.result.now own.carried.items own.own.jobs c.next_carried-carried.result c.earliest-own.result c.turn_between-turn.result c.turn_between-turn.ensures c.next_carried-carried.ensures c.deref.ensures.value c.earliest-own.ensures.job in
    queue-empty _ _ _ _ c.self.invariant c.turn_between-turn.result told c.run-ended.new.own.jobs c.run-ended.ensures.own

pub invariant_of-self : goal.invariant_of-self
invariant_of-self g c =
    let own = c.self.inside in
    let turn = c.turn_between-turn.result in
    let told = turn-told own.at own.ended own.ran own.passed c.deref.result.now own.carried.items own.own.jobs c.next_carried-carried.result c.earliest-own.result c.turn_between-turn.result c.turn_between-turn.ensures c.next_carried-carried.ensures c.deref.ensures.value c.earliest-own.ensures.job in
    let runs = subst (λ (js : List Job). (t : ℕ) → carried_left t js c.run-ended.result.0 c.run-ended.result.1 ≡ carried_after turn (carried_left t js own.ended own.ran)) c.deref-2.ensures.value c.run-ended.ensures.carried in
    let early = subst (λ (p : ChangeParts). time_of_change p < 2 ^ 32) (sym c.self.view_is) c.requires.early in
    KeepsChange-next _ _ _ _ c.self.invariant turn told c.run-ended.result.0 c.run-ended.result.1 c.run-ended.new.own c.pass.new.queue runs c.run-ended.ensures.own c.run-ended.ensures.capacity c.pass.ensures.jobs c.pass.ensures.capacity early

pub returns-clause-turn : goal.returns-clause-turn
returns-clause-turn g c =
    let own = c.self.inside in
    let turn = c.turn_between-turn.result in
    let told = turn-told own.at own.ended own.ran own.passed c.deref.result.now own.carried.items own.own.jobs c.next_carried-carried.result c.earliest-own.result c.turn_between-turn.result c.turn_between-turn.ensures c.next_carried-carried.ensures c.deref.ensures.value c.earliest-own.ensures.job in
    subst
    (λ (p : ChangeParts). turn ≡ turn_at p.plan.tasks p.at p.carried p.passed)
    c.self.view_is
    (turn-is _ _ _ _ c.self.invariant turn told)

pub returns-clause-idle : goal.returns-clause-idle
returns-clause-idle g c =
    let own = c.self.inside in
    let turn = c.turn_between-turn.result in
    let told = turn-told own.at own.ended own.ran own.passed c.deref.result.now own.carried.items own.own.jobs c.next_carried-carried.result c.earliest-own.result c.turn_between-turn.result c.turn_between-turn.ensures c.next_carried-carried.ensures c.deref.ensures.value c.earliest-own.ensures.job in
    subst
    (λ (p : ChangeParts). (turn ≡ Idle) ↔ NoneIsReady p.plan.tasks p.at p.carried (history_of_change p))
    c.self.view_is
    (idle-none _ _ _ _ c.self.invariant turn told)

pub returns-clause-old_key : goal.returns-clause-old_key
returns-clause-old_key g c =
    let own = c.self.inside in
    let turn = c.turn_between-turn.result in
    let told = turn-told own.at own.ended own.ran own.passed c.deref.result.now own.carried.items own.own.jobs c.next_carried-carried.result c.earliest-own.result c.turn_between-turn.result c.turn_between-turn.ensures c.next_carried-carried.ensures c.deref.ensures.value c.earliest-own.ensures.job in
    subst
    (λ (p : ChangeParts). (key : Key) → turn ≡ Old key → (job : Job) × Contains p.carried job × (job.key ≡ key))
    c.self.view_is
    (old-carried _ _ _ _ c.self.invariant turn told)

pub returns-clause-new_key : goal.returns-clause-new_key
returns-clause-new_key g c =
    let own = c.self.inside in
    let turn = c.turn_between-turn.result in
    let told = turn-told own.at own.ended own.ran own.passed c.deref.result.now own.carried.items own.own.jobs c.next_carried-carried.result c.earliest-own.result c.turn_between-turn.result c.turn_between-turn.ensures c.next_carried-carried.ensures c.deref.ensures.value c.earliest-own.ensures.job in
    subst
    (λ (p : ChangeParts). (key : Key) → turn ≡ New key → key_in_set p.plan.tasks key ≡ true)
    c.self.view_is
    (new-named _ _ _ _ c.self.invariant turn told)

-- The list is that of each history for which the executive stands, and names jobs of its set.
use Rattle.std.proofs.Common.{◌≡◌, ℕ, List, ap, filter, length, subst, sym, ◌∙◌, arith}
use Rattle.std.specs.Prelude.{All, true}
use Rattle.std.proofs.lemmas.List.Elements.{All-from_recursion}
use Rattle.slot_core.specs.declared.jobs.Job.{Job}
use Rattle.slot_core.specs.Runs.Arrivals.{key_in_set}
use Rattle.slot_core.specs.Runs.Matches.{HaveSameItems}
use Rattle.slot_core.specs.Runs.Scenes.{remaining}
use Rattle.slot_core.specs.Runs.Traces.{IsLegal}
use Rattle.slot_facts.proofs.Lists.Members.{AllByRecursion-from_Has}
use Rattle.slot_facts.proofs.Replays.Named.{remaining-named}
use Rattle.plan_change.specs.Carrying.{carried_from, carried_jobs, goes_on}
use Rattle.plan_change.proofs.CarriedOrder.{one_list_is_carried}
use Rattle.plan_change.proofs.CarriedRows.{carried-one}
use Rattle.plan_change.proofs.Released.{carried-few, going-few}
use Rattle.plan_change.proofs.listing.list_counted.Goals as goal

pub list_carried-requires-clause-places : goal.list_carried-requires-clause-places
list_carried-requires-clause-places g c =
    let from = c.args.from.now in
    let (h, stands) = c.now-at.ensures.stands in
    let same = ap (λ (t : ℕ). length (filter (goes_on c.args.keep from.plan.tasks t) from.scene.jobs)) c.now-at.ensures.time in
    omega (arith, same, going-few from c.now-at.ensures.kept h stands c.args.keep, c.requires.places)

pub returns-clause-listed : goal.returns-clause-listed
returns-clause-listed g c = λ h stands.
    let from = c.args.from.now in
    c.list_carried.ensures.listed
    ∙ (one_list_is_carried from h c.args.keep c.now-at.ensures.kept stands
    ∙ ap (λ (t : ℕ). carried_jobs c.args.keep from.plan.tasks t (remaining from.plan.tasks from.plan.cycle h)) stands.same.time)

pub returns-clause-named : goal.returns-clause-named
returns-clause-named g c =
    let from = c.args.from.now in
    let set = from.plan.tasks in
    let kept = c.now-at.ensures.kept in
    let (h, stands) = c.now-at.ensures.stands in
    let legal = subst (λ (n : ℕ). IsLegal set n h) kept.plan.cycle stands.legal in
    let same = subst (λ (n : ℕ). HaveSameItems from.scene.jobs (remaining set n h)) kept.plan.cycle stands.same.jobs in
    let P : Job → Type 0 = λ (j : Job). key_in_set set j.key ≡ true in
    let all = AllByRecursion-from_Has P (carried_from c.args.keep from) (λ j at. remaining-named set h from.scene.jobs j legal same (carried-one from kept c.args.keep j at).0) in
    subst (λ (js : List Job). All P js) (sym c.list_carried.ensures.listed) (All-from_recursion P (carried_from c.args.keep from) all)

pub returns-clause-few : goal.returns-clause-few
returns-clause-few g c =
    let (h, stands) = c.now-at.ensures.stands in
    omega (arith, ap (λ (js : List Job). length js) c.list_carried.ensures.listed, carried-few c.args.from.now c.now-at.ensures.kept h stands c.args.keep)

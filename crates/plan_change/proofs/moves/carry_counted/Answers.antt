-- The offers and the soft jobs may be made, and what is told of them is told of what the executive carries over.
use Rattle.std.proofs.Common.{◌≡◌, ℕ, ◌≤◌, List, ap, filter, length, refl, subst, sym, take, ◌∙◌, arith}
use Rattle.std.specs.Prelude.{IfErr, IfOk, OnErr, OnOk}
use Rattle.slot_core.specs.declared.jobs.Job.{Job}
use Rattle.slot_facts.proofs.Lists.Members.{Has, Has-from_Contains}
use Rattle.slot_facts.proofs.Plans.Items.{plan_cycle-bounds}
use Rattle.plan_change.specs.declared.moves.Moved.{Moved}
use Rattle.plan_change.specs.declared.moves.Refusal.{Refusal}
use Rattle.plan_change.specs.declared.offers.Offer.{Offer}
use Rattle.plan_change.specs.Carrying.{carried_from, cut_count, goes_on}
use Rattle.plan_change.specs.Changed.{CanStartWith, HasNoRoom}
use Rattle.plan_change.specs.Offers.{MayBeOffered}
use Rattle.plan_change.specs.SoftWork.{IsChangedWithSoft, IsCutOffWithSoft, RowsAreApart}
use Rattle.plan_change.proofs.CarriedRows.{carried-may, offers-same}
use Rattle.plan_change.proofs.Released.{carried-few, going-few, rows-fit}
use Rattle.plan_change.proofs.SoftRows.{soft-apart, soft-may}
use Rattle.plan_change.proofs.moves.carry_counted.Goals as goal

pub list_carried-requires-clause-places : goal.list_carried-requires-clause-places
list_carried-requires-clause-places g c =
    let from = c.args.from.now in
    let (h, stands) = c.now-at.ensures.stands in
    let same = ap (λ (t : ℕ). length (filter (goes_on c.args.keep from.plan.tasks t) from.scene.jobs)) c.now-at.ensures.time in
    omega (arith, same, going-few from c.now-at.ensures.kept h stands c.args.keep, c.requires.places)

pub move_all-requires-clause-few : goal.move_all-requires-clause-few
move_all-requires-clause-few g c =
    let from = c.args.from.now in
    let (h, stands) = c.now-at.ensures.stands in
    omega (
      arith,
      ap (λ (js : List Job). length js) (c.jobs.ensures ∙ c.list_carried.ensures.listed),
      carried-few from c.now-at.ensures.kept h stands c.args.keep,
      plan_cycle-bounds from.plan c.now-at.ensures.kept.plan,
    )

pub move_all-requires-clause-rows : goal.move_all-requires-clause-rows
move_all-requires-clause-rows g c = λ job at offline.
    let from = c.args.from.now in
    let (h, stands) = c.now-at.ensures.stands in
    let listed = c.jobs.ensures ∙ c.list_carried.ensures.listed in
    let here = subst (λ (js : List Job). Has js job) listed (Has-from_Contains c.jobs.result.now job at) in
    let few : length c.jobs.result.now ≤ from.plan.cycle = omega (arith, ap (λ (js : List Job). length js) listed, carried-few from c.now-at.ensures.kept h stands c.args.keep) in
    rows-fit c.args.keep from c.args.first (length c.jobs.result.now) job c.now-at.ensures.kept c.requires.rows few here offline

pub move_all-requires-clause-offers : goal.move_all-requires-clause-offers
move_all-requires-clause-offers g c =
    let (h, stands) = c.now-at.ensures.stands in
    let some = (plan_cycle-bounds c.args.into.now.plan c.now.ensures.kept.plan).0 in
    let same = offers-same c.args.keep c.args.from.now c.cycle-cycle.result c.args.first c.now-at.result c.cycle-cycle.result c.jobs.result.now c.now-at.ensures.time refl (c.jobs.ensures ∙ c.list_carried.ensures.listed) in
    subst (MayBeOffered c.cycle-cycle.result 0) (sym same) (carried-may c.args.from.now c.now-at.ensures.kept h stands c.args.keep c.cycle-cycle.result c.args.first c.requires.above (omega (arith, some, c.cycle-cycle.ensures)))

pub move_all-requires-clause-waits : goal.move_all-requires-clause-waits
move_all-requires-clause-waits g c =
    let (h, stands) = c.now-at.ensures.stands in
    soft-may c.args.from.now c.now-at.ensures.kept h stands c.args.soft

pub move_all-requires-clause-apart : goal.move_all-requires-clause-apart
move_all-requires-clause-apart g c =
    let (h, stands) = c.now-at.ensures.stands in
    let same = offers-same c.args.keep c.args.from.now c.cycle-cycle.result c.args.first c.now-at.result c.cycle-cycle.result c.jobs.result.now c.now-at.ensures.time refl (c.jobs.ensures ∙ c.list_carried.ensures.listed) in
    let apart = soft-apart c.args.from.now c.now-at.ensures.kept h stands c.args.keep c.cycle-cycle.result c.args.first c.args.soft c.requires.above in
    subst (λ (offers : List Offer). RowsAreApart offers (take c.args.soft c.args.from.now.scene.soft)) (sym same) apart

pub returns-clause-granted : goal.returns-clause-granted
returns-clause-granted g c =
    let same = offers-same c.args.keep c.args.from.now c.args.into.now.plan.cycle c.args.first c.now-at.result c.cycle-cycle.result c.jobs.result.now c.now-at.ensures.time c.cycle-cycle.ensures (c.jobs.ensures ∙ c.list_carried.ensures.listed) in
    subst (λ (offers : List Offer). OnOk c.move_all.result (IsChangedWithSoft c.args.into.now.plan offers (take c.args.soft c.args.from.now.scene.soft) c.move_all.new.into)) same c.move_all.ensures.granted

pub returns-clause-moved : goal.returns-clause-moved
returns-clause-moved g c =
    let Told : ℕ → ℕ → List Job → Type 0 = λ t n js. IfOk c.move_all.result (λ (m : Moved). (m.carried ≡ length js) × (m.cut ≡ cut_count t n js)) in
    subst (λ (n : ℕ). Told c.args.from.now.scene.time n (carried_from c.args.keep c.args.from.now)) c.cycle-cycle.ensures
    (subst (λ (t : ℕ). Told t c.cycle-cycle.result (carried_from c.args.keep c.args.from.now)) c.now-at.ensures.time
    (subst (λ (js : List Job). Told c.now-at.result c.cycle-cycle.result js) (c.jobs.ensures ∙ c.list_carried.ensures.listed) c.move_all.ensures.moved))

pub returns-clause-refused : goal.returns-clause-refused
returns-clause-refused g c =
    let same = offers-same c.args.keep c.args.from.now c.args.into.now.plan.cycle c.args.first c.now-at.result c.cycle-cycle.result c.jobs.result.now c.now-at.ensures.time c.cycle-cycle.ensures (c.jobs.ensures ∙ c.list_carried.ensures.listed) in
    subst (λ (offers : List Offer). OnErr c.move_all.result (¬ (CanStartWith c.args.into.now.plan.tasks offers))) same c.move_all.ensures.refused

pub returns-clause-no_room : goal.returns-clause-no_room
returns-clause-no_room g c =
    let same = offers-same c.args.keep c.args.from.now c.args.into.now.plan.cycle c.args.first c.now-at.result c.cycle-cycle.result c.jobs.result.now c.now-at.ensures.time c.cycle-cycle.ensures (c.jobs.ensures ∙ c.list_carried.ensures.listed) in
    subst (λ (offers : List Offer). IfErr c.move_all.result (HasNoRoom c.args.into.now.plan.tasks offers)) same c.move_all.ensures.no_room

pub returns-clause-cut_off : goal.returns-clause-cut_off
returns-clause-cut_off g c =
    let same = offers-same c.args.keep c.args.from.now c.args.into.now.plan.cycle c.args.first c.now-at.result c.cycle-cycle.result c.jobs.result.now c.now-at.ensures.time c.cycle-cycle.ensures (c.jobs.ensures ∙ c.list_carried.ensures.listed) in
    subst (λ (offers : List Offer). IfErr c.move_all.result (λ (r : Refusal). IsCutOffWithSoft c.args.into.now.plan offers (take c.args.soft c.args.from.now.scene.soft) r c.move_all.new.into)) same c.move_all.ensures.cut_off

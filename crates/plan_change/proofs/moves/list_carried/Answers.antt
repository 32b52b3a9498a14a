-- The jobs that go on have keys of their own, and are put into their order.
use Rattle.std.proofs.Common.{ℕ, ap, filter, subst, sym, ◌∙◌}
use Rattle.slot_core.specs.declared.jobs.Job.{Job}
use Rattle.slot_core.specs.Keeping.Kept.{AreApart}
use Rattle.slot_facts.proofs.Lists.Apart.{IsApart-filter}
use Rattle.slot_facts.proofs.Lists.ApartKeys.{AreApart-from_members, IsApart-from_count}
use Rattle.plan_change.specs.Carrying.{goes_on, in_row_order}
use Rattle.plan_change.proofs.moves.list_carried.Goals as goal

pub sort-requires : goal.sort-requires
sort-requires g c =
    let jobs = c.args.from.now.scene.jobs in
    let test = goes_on c.args.keep c.args.from.now.plan.tasks c.args.at in
    subst AreApart (sym c.gather.ensures.listed) (AreApart-from_members (filter test jobs) (IsApart-filter (λ (j : Job). j.key) test jobs (IsApart-from_count jobs c.requires.apart)))

pub returns-clause-listed : goal.returns-clause-listed
returns-clause-listed g c =
    let jobs = c.args.from.now.scene.jobs in
    c.sort.ensures.items
    ∙ ap in_row_order (c.gather.ensures.listed ∙ ap (λ (t : ℕ). filter (goes_on c.args.keep c.args.from.now.plan.tasks t) jobs) c.requires.now)

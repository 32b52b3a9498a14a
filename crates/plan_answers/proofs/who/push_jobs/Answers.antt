use Rattle.std.proofs.Common.{◌≡◌, true, false, arith}
use Rattle.std.specs.Prelude.{nat_lt}
use Rattle.std.proofs.lemmas.Bool.Decides.{nat_tests}
use Rattle.std.proofs.lemmas.List.Elements.{All-same}
use Rattle.std.proofs.lemmas.Result.{on_ok_weaker}
use Rattle.slot_core.specs.declared.jobs.Job.{Job}
use Rattle.slot_core.specs.Runs.Arrivals.{key_in_set}
use Rattle.slot_facts.proofs.Offline.Jobs.{cycle-at_most}
use Rattle.plan_answers.specs.Who.{ordered_jobs, IsSmall}
use Rattle.plan_answers.proofs.Insides.{ordered-named, ordered-small, text-past, text-within}
use Rattle.plan_answers.proofs.who.push_jobs.Goals as goal

pub push_first-requires : goal.push_first-requires
push_first-requires c =
    let set = c.args.tasks.now in
    All-same (λ (j : Job). key_in_set set j.key ≡ true) c.args.jobs.now (ordered_jobs set) c.requires.jobs (ordered-named set)

pub push_next-requires-clause-cycle : goal.push_next-requires-clause-cycle
push_next-requires-clause-cycle c = omega (arith, c.requires.cycle, cycle-at_most c.args.tasks.now c.requires.sound)

pub push_next-requires-clause-named : goal.push_next-requires-clause-named
push_next-requires-clause-named c =
    let set = c.args.tasks.now in
    All-same (λ (j : Job). key_in_set set j.key ≡ true) c.args.jobs.now (ordered_jobs set) c.requires.jobs (ordered-named set)

pub push_next-requires-clause-small : goal.push_next-requires-clause-small
push_next-requires-clause-small c =
    let set = c.args.tasks.now in
    All-same IsSmall c.args.jobs.now (ordered_jobs set) c.requires.jobs (ordered-small set c.requires.sound)

pub returns-then-from-window : goal.returns-then-from-window
returns-then-from-window c =
    let set = c.args.tasks.now in
    let w = c.args.window in
    let past : nat_lt c.args.cycle w.until ≡ true = grind (arith, nat_tests, c.if-from-window.true, c.from.ensures) in
    on_ok_weaker c.push_next.result (λ told. text-past set w c.args.cycle c.args.jobs.now c.args.text.now.items c.push_first.new.text.items c.push_next.new.text.items c.requires.cycle c.requires.jobs past c.in_ok-push_first.ensures told) c.push_next.ensures

pub returns-else-from-window : goal.returns-else-from-window
returns-else-from-window c =
    let set = c.args.tasks.now in
    let w = c.args.window in
    let within : nat_lt c.args.cycle w.until ≡ false = grind (arith, nat_tests, c.if-from-window.false, c.from.ensures) in
    text-within set w c.args.cycle c.args.jobs.now c.args.text.now.items c.push_first.new.text.items c.requires.cycle c.requires.jobs within c.in_ok-push_first.ensures

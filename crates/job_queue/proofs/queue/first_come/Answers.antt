use Rattle.std.proofs.Common.{[], ◌≡◌, ap, sym, ◌∙◌, arith, rules}
use Rattle.std.specs.Prelude.{length}
use Rattle.std.specs.Option.{option_copied}
use Rattle.std.proofs.lemmas.List.{nil_from_length}
use Rattle.job_queue.proofs.Comes.{earliest-first_come}
use Rattle.slot_core.specs.Runs.Choice.{ready}
use Rattle.job_queue.proofs.queue.first_come.Goals as goal

pub returns-clause-job : goal.returns-clause-job
returns-clause-job g c =
    let none : length c.args.beside.now ≡ 0 = search rules in
    let later : ready c.args.now c.args.listed.now.items ≡ [] = c.start_later.ensures (search rules) in
    let last = sym c.last.ensures.value ∙ ap option_copied c.in_ok-first.was in
    earliest-first_come c.args.now c.args.beside.now c.args.come.now c.args.listed.now.items c.in_ok-first.first.now c.requires.latest_first (nil_from_length c.args.beside.now none) last (omega arith) later

use Rattle.std.proofs.Common.{◌≡◌, ℕ, ◌*◌, ◌<◌, ◌≤◌, List, [], ◌∷◌, length, get_or, arith}
use Rattle.slot_core.specs.declared.tasks.Sporadic.{Sporadic}
use Rattle.slot_core.specs.Feasibility.Sporadics.{arrivals_due, sporadic_demand}
use Rattle.library_tests.proofs.verdicts.needed_by.Goals as goal

-- the demand of one task is its own
of_one : (ss : List Sporadic) (s : Sporadic) (x : ℕ) → 1 ≤ length ss → length ss < 2 → s ≡ get_or ss 0 s → sporadic_demand ss [] 0 x ≡ s.wcet * arrivals_due s 0 0 x
of_one [] s x some few is = absurd (omega arith)
of_one (t ∷ []) s x some few is = rw is (omega arith)
of_one (t ∷ u ∷ ss) s x some few is = absurd (omega arith)

pub returns-in_ok-needed-in-len1 : goal.returns-in_ok-needed-in-len1
returns-in_ok-needed-in-len1 c =
    let s = c.task-item.result in
    let x = c.args.end in
    let whole = of_one c.args.sporadics.now s x c.in-len1.len_at_least c.in-len1.len_below c.task-item.is in
    let more : c.from.result * c.arrivals_by.result ≡ s.wcet * arrivals_due s 0 0 x = cc in
    omega (arith, whole, more, c.in_ok-needed-in-len1.ensures)

use Rattle.std.proofs.Common.{◌≡◌, List, [], ◌∷◌, None, refl}
use Rattle.std.specs.Prelude.{slice_get}
use Rattle.slot_core.specs.declared.jobs.SoftJob.{SoftJob}
use Rattle.slot_exec.proofs.runs.choose.Goals as goal

-- where there is no first one, there is none
none-first : (soft : List SoftJob) → None ≡ slice_get soft 0 → soft ≡ []
none-first [] e = refl
none-first (s ∷ soft) e = absurd (cc e)

pub returns-in_default-clause-tight : goal.returns-in_default-clause-tight
returns-in_default-clause-tight g c waits some fails =
    absurd (waits (none-first c.args.soft.now.items c.in_default.ensures))

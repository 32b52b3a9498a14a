-- What an offer is tested against.
use Rattle.std.specs.Prelude.{ℕ, List, []}
use Rattle.slot_core.specs.declared.jobs.Job.{Job}
use Rattle.slot_core.specs.Runs.Scenes.{Scene}

-- the scene of an offer: the time, the remaining jobs and the next legal arrivals
abbrev pub offer_scene : ℕ → List Job → List ℕ → Scene
offer_scene time jobs nexts =
    record { time = time; jobs = jobs; nexts = nexts; soft = []; points = [] }

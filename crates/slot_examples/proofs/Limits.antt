-- The limits that pages name, each with its number. Each list holds by computing the constants.
use Rattle.std.specs.Prelude.{◌≡◌, [], ◌∷◌, refl}
use Rattle.slot_core.specs.declared.TheConstants.{NAME_LIMIT, GRAPH_LIMIT, TASK_LIMIT, AFTER_LIMIT, SPORADIC_LIMIT, SLOT_LIMIT, SOFT_LIMIT, SOFT_DEFAULT, ARRIVAL_LIMIT, OFFER_LIMIT, NUMBER_LIMIT, REPLAY_LIMIT, SHOWN_LIMIT, CHART_LIMIT, LOAD_LIMIT, TASK_FILE_LIMIT, ARRIVALS_FILE_LIMIT, TABLE_FILE_LIMIT, READ_LIMIT}

-- of a task set: a cycle, period, separation or worst case; graphs; tasks in a graph; entries of
-- `after`; sporadic tasks; bytes of a name
pub limits_of_sets :
    SLOT_LIMIT ∷ GRAPH_LIMIT ∷ TASK_LIMIT ∷ AFTER_LIMIT ∷ SPORADIC_LIMIT ∷ NAME_LIMIT ∷ []
    ≡ 8192 ∷ 32 ∷ 32 ∷ 31 ∷ 8 ∷ 24 ∷ []
limits_of_sets = refl

-- of soft jobs that wait: at most, and where the file tells none
pub limits_of_soft_jobs : SOFT_LIMIT ∷ SOFT_DEFAULT ∷ [] ≡ 1024 ∷ 64 ∷ []
limits_of_soft_jobs = refl

-- of arrivals: how many; slots of soft or firm work and of a deadline ahead; a number of their file
pub limits_of_arrivals :
    ARRIVAL_LIMIT ∷ OFFER_LIMIT ∷ NUMBER_LIMIT ∷ [] ≡ 65535 ∷ 65535 ∷ 4294967295 ∷ []
limits_of_arrivals = refl

-- of runs: slots of a replay and of a chart, spans of a line, the number of a load
pub limits_of_runs :
    REPLAY_LIMIT ∷ CHART_LIMIT ∷ SHOWN_LIMIT ∷ LOAD_LIMIT ∷ [] ≡ 100000 ∷ 200 ∷ 8 ∷ 32 ∷ []
limits_of_runs = refl

-- of bytes: a task file, an arrivals file, a table, a recorded trace
pub limits_of_files :
    TASK_FILE_LIMIT ∷ ARRIVALS_FILE_LIMIT ∷ TABLE_FILE_LIMIT ∷ READ_LIMIT ∷ []
    ≡ 1048576 ∷ 4194304 ∷ 4194304 ∷ 67108864 ∷ []
limits_of_files = refl

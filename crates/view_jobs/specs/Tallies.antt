-- What is told of each job.
use Rattle.std.specs.Prelude.{ℕ, ◌+◌, ◌-◌, ◌^◌, ◌==◌, min, List, [], ◌∷◌, if◌then◌else◌, Option, Some, None, unwrap_or}
use Rattle.std.specs.Option.{option_or}
use Rattle.std.specs.Ordering.{nat_cmp}
use Rattle.std.specs.Cmp.Lexicographic.{slice_cmp}
use Rattle.std.specs.BTreeMap.{BTreeMap, get}
use Rattle.slot_core.specs.declared.jobs.Key.{Key}
use Rattle.slot_core.specs.Offline.Keys.{key_order, same_key}
use Rattle.view_jobs.specs.declared.deeds.Deed.{Deed}
use Rattle.view_jobs.specs.declared.deeds.Does.{Does}
use Rattle.view_jobs.specs.declared.deeds.Does.TheVariants.{Runs, Ends}
use Rattle.view_jobs.specs.declared.tallies.Tally.{Tally}

-- nothing is told
abbrev pub untold : Tally
untold = record { ran = 0; first = None; last = None; gaps = 0; ended = None }

-- one more, up to the last value of a counter
abbrev pub one_more : ℕ → ℕ
one_more n = min (n + 1) (2 ^ 64 - 1)

-- a slot that is not the one after the last in which the job ran begins after a gap
abbrev pub gaps_at : Option ℕ → ℕ → ℕ → ℕ
gaps_at None time gaps = gaps
gaps_at (Some last) time gaps = if last + 1 == time then gaps else one_more gaps

-- after a slot that the job ran
abbrev pub after_run : Tally → ℕ → Tally
after_run tally time =
    record {
      ran = one_more tally.ran;
      first = option_or tally.first (Some time);
      last = Some time;
      gaps = gaps_at tally.last time tally.gaps;
      ended = tally.ended;
    }

-- after an early end, of which the first counts
abbrev pub after_end : Tally → ℕ → ℕ → Tally
after_end tally time freed = record tally { ended = option_or tally.ended (Some (time, freed)) }

-- after one more deed, of whatever job
abbrev pub after_does : Key → Tally → ℕ → Does → Tally
after_does key tally time (Runs k) = if same_key k key then after_run tally time else tally
after_does key tally time (Ends k freed) =
    if same_key k key then after_end tally time freed else tally
after_does key tally time _ = tally

-- what deeds tell of a job, beside what is told of it already
abbrev pub told_from : Key → Tally → List Deed → Tally
told_from key tally [] = tally
told_from key tally (deed ∷ deeds) = told_from key (after_does key tally deed.time deed.does) deeds

-- what deeds tell of a job
abbrev pub tally_of : List Deed → Key → Tally
tally_of deeds key = told_from key untold deeds

-- the tally of a key in a map of tallies
abbrev pub tally_in : BTreeMap Key Tally → Key → Tally
tally_in tallies key =
    unwrap_or (get (λ a b. slice_cmp nat_cmp (key_order a) (key_order b)) tallies key) untold

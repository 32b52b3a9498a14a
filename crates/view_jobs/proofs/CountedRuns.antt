-- What is told of the runs of a job in a trace: no counter comes to its end.
use Rattle.std.proofs.Common.{◌≡◌, ℕ, ◌+◌, ◌-◌, ◌^◌, ◌≤◌, List, ◌∷◌, length, refl, sym, ap, subst, ◌∙◌, arith}
use Rattle.slot_core.specs.declared.jobs.Key.{Key}
use Rattle.slot_core.specs.declared.tasks.TaskSet.{TaskSet}
use Rattle.trace_lines.specs.declared.line.TraceLine.{TraceLine}
use Rattle.trace_lines.specs.Traces.{AreTrace}
use Rattle.view_jobs.specs.JobTimes.{stretches, times_run}
use Rattle.view_jobs.specs.Laws.{told_by}
use Rattle.view_jobs.specs.Tallies.{after_run, untold}
use Rattle.view_jobs.proofs.RisingTimes.{few-from, rise-in, RiseFrom, rising-from}
use Rattle.view_jobs.proofs.Stretches.{gaps-after, gaps_after, ran-after, stretches-after}
use Rattle.view_jobs.proofs.ToldTimes.{after_times, told-times}

-- a trace runs a job less often than a counter counts: at most once a time, up to the last number
few-times : (times : List ℕ) → RiseFrom 0 times → length times ≤ 2 ^ 64 - 1
few-times times rise = omega (arith, few-from 0 times (omega arith) rise)

none-more : (n : ℕ) → 0 + n ≡ n
none-more n = omega arith

pub runs-counted : (set : TaskSet) (lines : List TraceLine) (key : Key) → AreTrace lines → (told_by set lines key).ran ≡ length (times_run set lines key)
runs-counted set lines key trace =
    let times = times_run set lines key in
    let few = few-times times (rise-in set key lines _ trace) in
    let bound : 0 + length times ≤ 2 ^ 64 - 1 = omega (arith, few) in
    ap (λ t. t.ran) (told-times set key untold lines) ∙ ran-after untold times bound ∙ none-more (length times)

pub gaps-between : (set : TaskSet) (lines : List TraceLine) (key : Key) (first : ℕ) (later : List ℕ) → AreTrace lines → times_run set lines key ≡ first ∷ later → stretches (times_run set lines key) ≡ (told_by set lines key).gaps + 1
gaps-between set lines key first later trace are =
    let rise = subst (RiseFrom 0) are (rise-in set key lines _ trace) in
    let (from, low, rest) = rise in
    let few = few-times (first ∷ later) rise in
    let told = ap (λ t. t.gaps) (told-times set key untold lines) ∙ ap (λ ts. (after_times untold ts).gaps) are in
    let bound : 0 + length later ≤ 2 ^ 64 - 1 = omega (arith, few) in
    let counted = gaps-after (after_run untold first) first later refl bound ∙ none-more (gaps_after first later) in
    ap stretches are
    ∙ stretches-after first later (rising-from first later rest)
    ∙ sym (ap (λ n. n + 1) (told ∙ counted))

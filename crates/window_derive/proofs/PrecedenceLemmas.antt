-- Precedence is kept by the derived windows, in any order of the jobs.
use Rattle.std.proofs.Common.{◌≡◌, true, List}
use Rattle.std.specs.Prelude.{Contains, IsPermutation}
use Rattle.std.proofs.lemmas.List.Sorted.{Contains-permutation, IsPermutation-sym}
use Rattle.slot_core.specs.declared.jobs.Job.{Job}
use Rattle.slot_core.specs.declared.tasks.TaskSet.{TaskSet}
use Rattle.slot_core.specs.Sets.Cycles.{cycle_of}
use Rattle.slot_core.specs.Offline.OfflineJobs.{cycle_jobs}
use Rattle.slot_core.specs.Sets.Ranges.{is_sound}
use Rattle.slot_core.specs.Offline.Windows.{precedes}
use Rattle.slot_facts.proofs.Offline.Windows.{IsBefore, IsBefore-from_precedes}
use Rattle.window_derive.specs.PrecedenceKept.{KeepsPrecedence}

-- the offline jobs of the first cycle, in any order, keep precedence
pub KeepsPrecedence-from_cycle : (set : TaskSet) (jobs : List Job) → is_sound set ≡ true → IsPermutation (cycle_jobs set (cycle_of set) 0) jobs → KeepsPrecedence set jobs
KeepsPrecedence-from_cycle set jobs sound same = record {
  starts = λ a b at_a at_b first. (windows a b at_a at_b first).starts;
  due = λ a b at_a at_b first. (windows a b at_a at_b first).due;
}
  where
    in_cycle : (job : Job) → Contains jobs job → Contains (cycle_jobs set (cycle_of set) 0) job
    in_cycle job = Contains-permutation jobs (cycle_jobs set (cycle_of set) 0) job (IsPermutation-sym (cycle_jobs set (cycle_of set) 0) jobs same)

    windows : (a b : Job) → Contains jobs a → Contains jobs b → precedes set a.key b.key ≡ true → IsBefore a b
    windows a b at_a at_b = IsBefore-from_precedes set 1 a b sound (in_cycle a at_a) (in_cycle b at_b)

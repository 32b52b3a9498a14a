use Rattle.std.proofs.Common.{◌≡◌, ◌-◌, ◌<◌, get_or, length, refl, sym, ap, subst, ◌∙◌, arith}
use Rattle.std.specs.Prelude.{vec_capacity}
use Rattle.slot_core.specs.declared.jobs.Job.{Job}
use Rattle.job_queue.specs.Queues.{QueueParts, after_run_at}
use Rattle.job_queue.proofs.Edits.{set-after_run_at}
use Rattle.job_queue.proofs.KeptQueues.{AreKept-run, HasRun-beside, HasRun-come, HasRun-listed, get_or-come, get_or-listed, length-parts, parts_of}
use Rattle.job_queue.proofs.queue.JobQueue.run_at.Goals as goal

pub invariant_of-self : goal.invariant_of-self
invariant_of-self c =
    let old = parts_of c.self.inside.beside.items c.self.inside.come.items c.self.inside.listed.items (vec_capacity c.self.inside.beside) c.self.inside.come.places in
    let long = length-parts c.self.inside.beside.items c.self.inside.come.items c.self.inside.listed.items in
    let jobs = ap (λ (q : QueueParts). length q.jobs) c.self.view_is in
    let more = subst (λ (q : QueueParts). (d : Job) → 1 < (get_or q.jobs c.args.place d).left) (sym c.self.view_is) c.requires.more in
    let run = HasRun-beside c.self.inside.capacity c.args.place (vec_capacity c.self.inside.beside) old c.self.invariant (omega arith) refl in
    let set = set-after_run_at c.args.place c.self.inside.beside.items c.index_mut.result.now (omega arith) c.index_mut.ensures.value in
    rw
    set
    (AreKept-run c.self.inside.capacity c.args.place old _ c.self.invariant (omega (arith, jobs)) more run)

pub returns-then-place-beside-clause-jobs : goal.returns-then-place-beside-clause-jobs
returns-then-place-beside-clause-jobs c =
    let old = parts_of c.self.inside.beside.items c.self.inside.come.items c.self.inside.listed.items (vec_capacity c.self.inside.beside) c.self.inside.come.places in
    let run = HasRun-beside c.self.inside.capacity c.args.place (vec_capacity c.self.inside.beside) old c.self.invariant (omega arith) refl in
    let set = set-after_run_at c.args.place c.self.inside.beside.items c.index_mut.result.now (omega arith) c.index_mut.ensures.value in
    rw set (run.jobs ∙ ap (λ (q : QueueParts). after_run_at c.args.place q.jobs) c.self.view_is)

pub run-requires-clause-more : goal.run-requires-clause-more
run-requires-clause-more c = λ d.
    let left = λ (j : Job). j.left in
    let old = parts_of c.self.inside.beside.items c.self.inside.come.items c.self.inside.listed.items (vec_capacity c.self.inside.beside) c.self.inside.come.places in
    let in_beside : length c.self.inside.beside.items ≡ c.len-beside.result = omega arith in
    let in_come : length c.self.inside.come.items ≡ c.len-come.result = omega arith in
    let more = subst (λ (q : QueueParts). (d : Job) → 1 < (get_or q.jobs c.args.place d).left) (sym c.self.view_is) c.requires.more in
    let k = c.len-come.result - 1 - (c.args.place - c.len-beside.result) in
    let at = get_or-come old c.args.place k d (omega arith) (omega arith) (omega arith) in
    omega (arith, more d, ap left at)

pub invariant_of-self-then-place-beside-2 : goal.invariant_of-self-then-place-beside-2
invariant_of-self-then-place-beside-2 c =
    let old = parts_of c.self.inside.beside.items c.self.inside.come.items c.self.inside.listed.items (vec_capacity c.self.inside.beside) c.self.inside.come.places in
    let in_beside : length c.self.inside.beside.items ≡ c.len-beside.result = omega arith in
    let in_come : length c.self.inside.come.items ≡ c.len-come.result = omega arith in
    let long = length-parts c.self.inside.beside.items c.self.inside.come.items c.self.inside.listed.items in
    let jobs = ap (λ (q : QueueParts). length q.jobs) c.self.view_is in
    let more = subst (λ (q : QueueParts). (d : Job) → 1 < (get_or q.jobs c.args.place d).left) (sym c.self.view_is) c.requires.more in
    let k = c.len-come.result - 1 - (c.args.place - c.len-beside.result) in
    let run = HasRun-come c.self.inside.capacity c.args.place k c.run.new.self.places old c.self.invariant (omega arith) (omega arith) (omega arith) c.run.ensures.places in
    rw
    c.run.ensures.items
    (AreKept-run c.self.inside.capacity c.args.place old _ c.self.invariant (omega (arith, jobs)) more run)

pub returns-then-place-beside-2-clause-jobs : goal.returns-then-place-beside-2-clause-jobs
returns-then-place-beside-2-clause-jobs c =
    let old = parts_of c.self.inside.beside.items c.self.inside.come.items c.self.inside.listed.items (vec_capacity c.self.inside.beside) c.self.inside.come.places in
    let in_beside : length c.self.inside.beside.items ≡ c.len-beside.result = omega arith in
    let in_come : length c.self.inside.come.items ≡ c.len-come.result = omega arith in
    let k = c.len-come.result - 1 - (c.args.place - c.len-beside.result) in
    let run = HasRun-come c.self.inside.capacity c.args.place k c.run.new.self.places old c.self.invariant (omega arith) (omega arith) (omega arith) c.run.ensures.places in
    rw c.run.ensures.items (run.jobs ∙ ap (λ (q : QueueParts). after_run_at c.args.place q.jobs) c.self.view_is)

pub overflow_sub-index_mut-else-place-beside-2 : goal.overflow_sub-index_mut-else-place-beside-2
overflow_sub-index_mut-else-place-beside-2 c =
    let left = λ (j : Job). j.left in
    let job = c.index_mut-else-place-beside-2.result.now in
    let old = parts_of c.self.inside.beside.items c.self.inside.come.items c.self.inside.listed.items (vec_capacity c.self.inside.beside) c.self.inside.come.places in
    let in_beside : length c.self.inside.beside.items ≡ c.len-beside.result = omega arith in
    let in_come : length c.self.inside.come.items ≡ c.len-come.result = omega arith in
    let more = subst (λ (q : QueueParts). (d : Job) → 1 < (get_or q.jobs c.args.place d).left) (sym c.self.view_is) c.requires.more in
    let k = c.args.place - c.len-beside.result - c.len-come.result in
    let at = get_or-listed old c.args.place k job (omega arith) (omega arith) (omega arith) in
    omega (arith, more job, ap left at, ap left c.index_mut-else-place-beside-2.ensures.value)

pub invariant_of-self-else-place-beside-2 : goal.invariant_of-self-else-place-beside-2
invariant_of-self-else-place-beside-2 c =
    let old = parts_of c.self.inside.beside.items c.self.inside.come.items c.self.inside.listed.items (vec_capacity c.self.inside.beside) c.self.inside.come.places in
    let in_beside : length c.self.inside.beside.items ≡ c.len-beside.result = omega arith in
    let in_come : length c.self.inside.come.items ≡ c.len-come.result = omega arith in
    let long = length-parts c.self.inside.beside.items c.self.inside.come.items c.self.inside.listed.items in
    let jobs = ap (λ (q : QueueParts). length q.jobs) c.self.view_is in
    let more = subst (λ (q : QueueParts). (d : Job) → 1 < (get_or q.jobs c.args.place d).left) (sym c.self.view_is) c.requires.more in
    let k = c.args.place - c.len-beside.result - c.len-come.result in
    let run = HasRun-listed c.self.inside.capacity c.args.place k old c.self.invariant (omega arith) (omega arith) (omega arith) in
    let set = set-after_run_at k c.self.inside.listed.items c.index_mut-else-place-beside-2.result.now (omega (arith, long, jobs)) c.index_mut-else-place-beside-2.ensures.value in
    rw
    set
    (AreKept-run c.self.inside.capacity c.args.place old _ c.self.invariant (omega (arith, jobs)) more run)

pub returns-else-place-beside-2-clause-jobs : goal.returns-else-place-beside-2-clause-jobs
returns-else-place-beside-2-clause-jobs c =
    let old = parts_of c.self.inside.beside.items c.self.inside.come.items c.self.inside.listed.items (vec_capacity c.self.inside.beside) c.self.inside.come.places in
    let in_beside : length c.self.inside.beside.items ≡ c.len-beside.result = omega arith in
    let in_come : length c.self.inside.come.items ≡ c.len-come.result = omega arith in
    let long = length-parts c.self.inside.beside.items c.self.inside.come.items c.self.inside.listed.items in
    let jobs = ap (λ (q : QueueParts). length q.jobs) c.self.view_is in
    let k = c.args.place - c.len-beside.result - c.len-come.result in
    let run = HasRun-listed c.self.inside.capacity c.args.place k old c.self.invariant (omega arith) (omega arith) (omega arith) in
    let set = set-after_run_at k c.self.inside.listed.items c.index_mut-else-place-beside-2.result.now (omega (arith, long, jobs)) c.index_mut-else-place-beside-2.ensures.value in
    rw set (run.jobs ∙ ap (λ (q : QueueParts). after_run_at c.args.place q.jobs) c.self.view_is)

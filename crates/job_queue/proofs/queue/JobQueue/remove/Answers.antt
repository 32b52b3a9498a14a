use Rattle.std.proofs.Common.{◌≡◌, ◌-◌, Some, get_or, length, sym, ap, ◌∙◌, arith}
use Rattle.std.specs.Prelude.{sum_by, vec_capacity}
use Rattle.std.specs.List.{remove}
use Rattle.std.proofs.lemmas.List.{get_or_default}
use Rattle.slot_core.specs.declared.jobs.Job.{Job}
use Rattle.job_queue.specs.Queues.{QueueParts}
use Rattle.job_queue.proofs.Searches.{nobody}
use Rattle.job_queue.proofs.KeptQueues.{AreKept-gone, IsGone-beside, IsGone-come, IsGone-listed, get_or-come, get_or-listed, length-parts, parts_of, same-gone}
use Rattle.job_queue.proofs.queue.JobQueue.remove.Goals as goal

pub invariant_of-self : goal.invariant_of-self
invariant_of-self c =
    let old = parts_of c.self.inside.beside.items c.self.inside.come.items c.self.inside.listed.items (vec_capacity c.self.inside.beside) c.self.inside.come.places in
    let gone = IsGone-beside c.self.inside.capacity c.args.place (vec_capacity c.swap_remove.new.self) c.swap_remove.result old c.self.invariant (omega arith) c.swap_remove.ensures.capacity in
    rw
    c.swap_remove.ensures.items
    (AreKept-gone c.self.inside.capacity c.args.place old _ c.self.invariant gone)

pub invariant_of-self-then-place-beside-2 : goal.invariant_of-self-then-place-beside-2
invariant_of-self-then-place-beside-2 c =
    let old = parts_of c.self.inside.beside.items c.self.inside.come.items c.self.inside.listed.items (vec_capacity c.self.inside.beside) c.self.inside.come.places in
    let in_beside : length c.self.inside.beside.items ≡ c.len-beside.result = omega arith in
    let in_come : length c.self.inside.come.items ≡ c.len-come.result = omega arith in
    let k = c.len-come.result - 1 - (c.args.place - c.len-beside.result) in
    let gone = IsGone-come c.self.inside.capacity c.args.place k c.remove.new.self.places old c.self.invariant (omega arith) (omega arith) (omega arith) c.remove.ensures.places in
    rw
    c.remove.ensures.items
    (AreKept-gone c.self.inside.capacity c.args.place old _ c.self.invariant gone)

pub invariant_of-self-else-place-beside-2 : goal.invariant_of-self-else-place-beside-2
invariant_of-self-else-place-beside-2 c =
    let old = parts_of c.self.inside.beside.items c.self.inside.come.items c.self.inside.listed.items (vec_capacity c.self.inside.beside) c.self.inside.come.places in
    let in_beside : length c.self.inside.beside.items ≡ c.len-beside.result = omega arith in
    let in_come : length c.self.inside.come.items ≡ c.len-come.result = omega arith in
    let long = length-parts c.self.inside.beside.items c.self.inside.come.items c.self.inside.listed.items in
    let jobs = ap (λ (q : QueueParts). length q.jobs) c.self.view_is in
    let listed = c.self.inside.listed.items in
    let k = c.args.place - c.len-beside.result - c.len-come.result in
    let some = c.remove-else-place-beside-2.ensures.succeeds nobody (omega (arith, long, jobs)) in
    let left : c.remove-else-place-beside-2.new.self.items ≡ remove listed k =
    rw some at c.remove-else-place-beside-2.ensures.items in
    let gone = IsGone-listed c.self.inside.capacity c.args.place k old c.self.invariant (omega (arith, jobs)) (omega arith) (omega arith) (omega arith) in
    rw left (AreKept-gone c.self.inside.capacity c.args.place old _ c.self.invariant gone)

pub returns-then-place-beside-clause-jobs : goal.returns-then-place-beside-clause-jobs
returns-then-place-beside-clause-jobs c = λ f.
    let old = parts_of c.self.inside.beside.items c.self.inside.come.items c.self.inside.listed.items (vec_capacity c.self.inside.beside) c.self.inside.come.places in
    let gone = IsGone-beside c.self.inside.capacity c.args.place (vec_capacity c.swap_remove.new.self) c.swap_remove.result old c.self.invariant (omega arith) c.swap_remove.ensures.capacity in
    rw
    c.swap_remove.ensures.items
    (same-gone c.args.place old _ gone f ∙ ap (λ (q : QueueParts). sum_by f (remove q.jobs c.args.place)) c.self.view_is)

pub returns-then-place-beside-2-clause-job : goal.returns-then-place-beside-2-clause-job
returns-then-place-beside-2-clause-job c = λ d.
    let old = parts_of c.self.inside.beside.items c.self.inside.come.items c.self.inside.listed.items (vec_capacity c.self.inside.beside) c.self.inside.come.places in
    let in_beside : length c.self.inside.beside.items ≡ c.len-beside.result = omega arith in
    let in_come : length c.self.inside.come.items ≡ c.len-come.result = omega arith in
    let k = c.len-come.result - 1 - (c.args.place - c.len-beside.result) in
    let at = get_or-come old c.args.place k d (omega arith) (omega arith) (omega arith) in
    let is = c.remove.ensures.value ∙ get_or_default c.self.inside.come.items k c.remove.result d (omega arith) in
    ap (λ (j : Job). Some j) (is ∙ sym at ∙ ap (λ (q : QueueParts). get_or q.jobs c.args.place d) c.self.view_is)

pub returns-then-place-beside-2-clause-jobs : goal.returns-then-place-beside-2-clause-jobs
returns-then-place-beside-2-clause-jobs c = λ f.
    let old = parts_of c.self.inside.beside.items c.self.inside.come.items c.self.inside.listed.items (vec_capacity c.self.inside.beside) c.self.inside.come.places in
    let in_beside : length c.self.inside.beside.items ≡ c.len-beside.result = omega arith in
    let in_come : length c.self.inside.come.items ≡ c.len-come.result = omega arith in
    let k = c.len-come.result - 1 - (c.args.place - c.len-beside.result) in
    let gone = IsGone-come c.self.inside.capacity c.args.place k c.remove.new.self.places old c.self.invariant (omega arith) (omega arith) (omega arith) c.remove.ensures.places in
    rw
    c.remove.ensures.items
    (same-gone c.args.place old _ gone f ∙ ap (λ (q : QueueParts). sum_by f (remove q.jobs c.args.place)) c.self.view_is)

pub returns-else-place-beside-2-clause-job : goal.returns-else-place-beside-2-clause-job
returns-else-place-beside-2-clause-job c = λ d.
    let old = parts_of c.self.inside.beside.items c.self.inside.come.items c.self.inside.listed.items (vec_capacity c.self.inside.beside) c.self.inside.come.places in
    let in_beside : length c.self.inside.beside.items ≡ c.len-beside.result = omega arith in
    let in_come : length c.self.inside.come.items ≡ c.len-come.result = omega arith in
    let long = length-parts c.self.inside.beside.items c.self.inside.come.items c.self.inside.listed.items in
    let jobs = ap (λ (q : QueueParts). length q.jobs) c.self.view_is in
    let k = c.args.place - c.len-beside.result - c.len-come.result in
    let at = get_or-listed old c.args.place k d (omega arith) (omega arith) (omega arith) in
    let some = c.remove-else-place-beside-2.ensures.succeeds d (omega (arith, long, jobs)) in
    some ∙ ap (λ (j : Job). Some j) (sym at ∙ ap (λ (q : QueueParts). get_or q.jobs c.args.place d) c.self.view_is)

pub returns-else-place-beside-2-clause-jobs : goal.returns-else-place-beside-2-clause-jobs
returns-else-place-beside-2-clause-jobs c = λ f.
    let old = parts_of c.self.inside.beside.items c.self.inside.come.items c.self.inside.listed.items (vec_capacity c.self.inside.beside) c.self.inside.come.places in
    let in_beside : length c.self.inside.beside.items ≡ c.len-beside.result = omega arith in
    let in_come : length c.self.inside.come.items ≡ c.len-come.result = omega arith in
    let long = length-parts c.self.inside.beside.items c.self.inside.come.items c.self.inside.listed.items in
    let jobs = ap (λ (q : QueueParts). length q.jobs) c.self.view_is in
    let listed = c.self.inside.listed.items in
    let k = c.args.place - c.len-beside.result - c.len-come.result in
    let some = c.remove-else-place-beside-2.ensures.succeeds nobody (omega (arith, long, jobs)) in
    let left : c.remove-else-place-beside-2.new.self.items ≡ remove listed k =
    rw some at c.remove-else-place-beside-2.ensures.items in
    let gone = IsGone-listed c.self.inside.capacity c.args.place k old c.self.invariant (omega (arith, jobs)) (omega arith) (omega arith) (omega arith) in
    rw left (same-gone c.args.place old _ gone f ∙ ap (λ (q : QueueParts). sum_by f (remove q.jobs c.args.place)) c.self.view_is)

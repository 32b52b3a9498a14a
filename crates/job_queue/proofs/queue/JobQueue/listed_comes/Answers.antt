use Rattle.std.proofs.Common.{◌≡◌, ℕ, ◌<◌, Bor, List, Option, Some, None, IfSome, IsSome, get_or, length, ap, ◌∙◌, refl, subst, arith}
use Rattle.std.specs.Prelude.{sum_by, vec_capacity}
use Rattle.slot_core.specs.declared.jobs.Job.{Job}
use Rattle.job_queue.specs.Queues.{QueueParts}
use Rattle.job_queue.proofs.KeptQueues.{AreKept-come, HasCome-listed, parts_of, same-come}
use Rattle.job_queue.proofs.queue.JobQueue.listed_comes.Goals as goal

-- the first is what stands at the front
is_front : (r : Option (Bor Job)) (jobs : List Job) (first : Bor Job) → IfSome r (λ x. x.now ≡ get_or jobs 0 x.now) → r ≡ Some first → first.now ≡ get_or jobs 0 first.now
is_front (Some x) jobs first front is =
    let same : x ≡ first = cc in subst (λ (j : Bor Job). j.now ≡ get_or jobs 0 j.now) same front
is_front None jobs first front is = cc

-- there is one where there is a first
is_there : (r : Option (Bor Job)) (n : ℕ) (first : Bor Job) → r ≡ Some first → (IsSome r → 0 < n) → 0 < n
is_there (Some x) n first is some = some refl
is_there None n first is some = cc

pub invariant_of-self : goal.invariant_of-self
invariant_of-self g c =
    let old = parts_of c.self.inside.beside.items c.self.inside.come.items c.self.inside.listed.items (vec_capacity c.self.inside.beside) c.self.inside.come.places in
    let some : 0 < length c.self.inside.listed.items = omega (arith, is_there c.front.result _ c.in-Some.first c.in-Some.is c.front.ensures.variant.0) in
    let first = is_front c.front.result c.self.inside.listed.items c.in-Some.first c.front.ensures.lookup c.in-Some.is in
    let has = HasCome-listed c.self.inside.capacity c.put_in_order.new.come.places c.in-Some.first.now c.pop_front.new.self.items c.put_in_order.new.come.items old c.self.invariant some c.pop_front.ensures.rest first c.put_in_order.ensures.jobs c.put_in_order.ensures.order c.put_in_order.ensures.places in
    AreKept-come c.self.inside.capacity c.in-Some.first.now old _ c.self.invariant has

pub returns-clause-jobs : goal.returns-clause-jobs
returns-clause-jobs g c = λ f.
    let old = parts_of c.self.inside.beside.items c.self.inside.come.items c.self.inside.listed.items (vec_capacity c.self.inside.beside) c.self.inside.come.places in
    let some : 0 < length c.self.inside.listed.items = omega (arith, is_there c.front.result _ c.in-Some.first c.in-Some.is c.front.ensures.variant.0) in
    let first = is_front c.front.result c.self.inside.listed.items c.in-Some.first c.front.ensures.lookup c.in-Some.is in
    let has = HasCome-listed c.self.inside.capacity c.put_in_order.new.come.places c.in-Some.first.now c.pop_front.new.self.items c.put_in_order.new.come.items old c.self.invariant some c.pop_front.ensures.rest first c.put_in_order.ensures.jobs c.put_in_order.ensures.order c.put_in_order.ensures.places in
    same-come c.in-Some.first.now old _ has f ∙ ap (λ (q : QueueParts). sum_by f q.jobs) c.self.view_is

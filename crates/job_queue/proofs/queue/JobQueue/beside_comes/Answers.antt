use Rattle.std.proofs.Common.{◌≡◌, ℕ, ◌-◌, List, length, take, sym, ap, ◌∙◌, arith}
use Rattle.std.specs.Prelude.{slice_get, sum_by, vec_capacity}
use Rattle.std.specs.Vec.{vec_len}
use Rattle.std.specs.Option.{option_copied}
use Rattle.slot_core.specs.declared.jobs.Job.{Job}
use Rattle.job_queue.specs.Queues.{QueueParts}
use Rattle.job_queue.proofs.KeptQueues.{AreKept-come, HasCome-beside, parts_of, same-come}
use Rattle.job_queue.proofs.queue.JobQueue.beside_comes.Goals as goal

pub invariant_of-self : goal.invariant_of-self
invariant_of-self g c =
    let old = parts_of c.self.inside.beside.items c.self.inside.come.items c.self.inside.listed.items (vec_capacity c.self.inside.beside) c.self.inside.come.places in
    let last = c.last.ensures.value ∙ ap (λ (js : List Job). slice_get js (length js - 1)) c.deref.ensures.value in
    let long : vec_len c.self.inside.beside ≡ length c.self.inside.beside.items = omega arith in
    let rest = c.pop.ensures.rest ∙ ap (λ (n : ℕ). take (n - 1) c.self.inside.beside.items) long in
    let has = HasCome-beside c.self.inside.capacity (vec_capacity c.pop.new.self) c.put_in_order.new.come.places c.in-Some.last.now c.pop.new.self.items c.put_in_order.new.come.items old c.self.invariant rest (sym last ∙ ap option_copied c.in-Some.is) c.put_in_order.ensures.jobs c.put_in_order.ensures.order c.pop.ensures.capacity c.put_in_order.ensures.places in
    AreKept-come c.self.inside.capacity c.in-Some.last.now old _ c.self.invariant has

pub returns-clause-jobs : goal.returns-clause-jobs
returns-clause-jobs g c = λ f.
    let old = parts_of c.self.inside.beside.items c.self.inside.come.items c.self.inside.listed.items (vec_capacity c.self.inside.beside) c.self.inside.come.places in
    let last = c.last.ensures.value ∙ ap (λ (js : List Job). slice_get js (length js - 1)) c.deref.ensures.value in
    let long : vec_len c.self.inside.beside ≡ length c.self.inside.beside.items = omega arith in
    let rest = c.pop.ensures.rest ∙ ap (λ (n : ℕ). take (n - 1) c.self.inside.beside.items) long in
    let has = HasCome-beside c.self.inside.capacity (vec_capacity c.pop.new.self) c.put_in_order.new.come.places c.in-Some.last.now c.pop.new.self.items c.put_in_order.new.come.items old c.self.invariant rest (sym last ∙ ap option_copied c.in-Some.is) c.put_in_order.ensures.jobs c.put_in_order.ensures.order c.pop.ensures.capacity c.put_in_order.ensures.places in
    same-come c.in-Some.last.now old _ has f ∙ ap (λ (q : QueueParts). sum_by f q.jobs) c.self.view_is

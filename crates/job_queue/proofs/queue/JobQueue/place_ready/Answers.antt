use Rattle.std.proofs.Common.{◌≡◌, ◌+◌, ◌++◌, List, length, Some, None, refl, sym, ap, subst, arith}
use Rattle.std.specs.Prelude.{reverse}
use Rattle.std.proofs.lemmas.List.{length-append, length-reverse}
use Rattle.slot_core.specs.declared.jobs.Job.{Job}
use Rattle.job_queue.specs.Queues.{IsReadyPlace, QueueParts}
use Rattle.job_queue.proofs.ReadyPlaces.{IsReadyPlace-beside, IsReadyPlace-come, IsReadyPlace-listed}
use Rattle.job_queue.proofs.queue.JobQueue.place_ready.Goals as goal

pub returns-in-Some-clause-place : goal.returns-in-Some-clause-place
returns-in-Some-clause-place g c =
    let now = c.args.now in
    let key = c.args.key in
    let beside = c.self.inside.beside.items in
    let parts = ap (λ (q : QueueParts). q.jobs) c.self.view_is in
    let at = subst (λ js. IsReadyPlace now key js c.place_beside.result) c.deref.ensures.value c.place_beside.ensures.place in
    IsReadyPlace-beside now key beside (reverse c.self.inside.come.items) c.self.inside.listed.items c.args.self.now.jobs c.in-Some.place parts (subst (λ place. IsReadyPlace now key beside place) c.in-Some.is at)

pub returns-in-Some-place_come-clause-place : goal.returns-in-Some-place_come-clause-place
returns-in-Some-place_come-clause-place g c =
    let now = c.args.now in
    let key = c.args.key in
    let beside = c.self.inside.beside.items in
    let back = reverse c.self.inside.come.items in
    let parts = ap (λ (q : QueueParts). q.jobs) c.self.view_is in
    let at = subst (λ js. IsReadyPlace now key js c.place_beside.result) c.deref.ensures.value c.place_beside.ensures.place in
    let none = subst (λ place. IsReadyPlace now key beside place) c.in_default.is at in
    let found = subst (λ place. IsReadyPlace now key back place) c.in-Some-place_come.is c.place_come.ensures.place in
    IsReadyPlace-come now key beside back c.self.inside.listed.items c.args.self.now.jobs c.len-beside.result c.in-Some-place_come.place parts (omega arith) none found

pub returns-in_err-place-clause-place : goal.returns-in_err-place-clause-place
returns-in_err-place-clause-place g c =
    let now = c.args.now in
    let key = c.args.key in
    let beside = c.self.inside.beside.items in
    let back = reverse c.self.inside.come.items in
    let listed = c.self.inside.listed.items in
    let parts = ap (λ (q : QueueParts). q.jobs) c.self.view_is in
    let at = subst (λ js. IsReadyPlace now key js c.place_beside.result) c.deref.ensures.value c.place_beside.ensures.place in
    let none = subst (λ place. IsReadyPlace now key beside place) c.in_default.is at in
    let none_come = subst (λ place. IsReadyPlace now key back place) c.in_default-place_come.is c.place_come.ensures.place in
    let none_listed = subst (λ place. IsReadyPlace now key listed place) c.in_err-place.was c.place_listed.ensures.place in
    subst (λ place. IsReadyPlace now key c.args.self.now.jobs place) (sym c.from_residual.ensures) (IsReadyPlace-listed now key beside back listed c.args.self.now.jobs (length beside + length back) None parts (length-append beside back) none none_come none_listed)

pub returns-clause-place : goal.returns-clause-place
returns-clause-place g c =
    let now = c.args.now in
    let key = c.args.key in
    let beside = c.self.inside.beside.items in
    let come = c.self.inside.come.items in
    let back = reverse come in
    let listed = c.self.inside.listed.items in
    let parts = ap (λ (q : QueueParts). q.jobs) c.self.view_is in
    let at = subst (λ js. IsReadyPlace now key js c.place_beside.result) c.deref.ensures.value c.place_beside.ensures.place in
    let none = subst (λ place. IsReadyPlace now key beside place) c.in_default.is at in
    let none_come = subst (λ place. IsReadyPlace now key back place) c.in_default-place_come.is c.place_come.ensures.place in
    let found = subst (λ place. IsReadyPlace now key listed place) c.in_ok-place.was c.place_listed.ensures.place in
    let long : length (beside ++ back) ≡ c.len-beside.result + c.len.result = omega (arith, length-append beside back, length-reverse come) in
    IsReadyPlace-listed now key beside back listed c.args.self.now.jobs (c.len-beside.result + c.len.result) (Some c.in_ok-place.place) parts long none none_come found

-- how many jobs stand in the three parts
long : (beside come listed jobs : List Job) → beside ++ reverse come ++ listed ≡ jobs → length jobs ≡ length beside + length come + length listed
long beside come listed jobs parts =
    omega (arith, ap length parts, length-append (beside ++ reverse come) listed, length-append beside (reverse come), length-reverse come)

pub returns-in-Some-clause-few_steps : goal.returns-in-Some-clause-few_steps
returns-in-Some-clause-few_steps g c =
    let long = long c.self.inside.beside.items c.self.inside.come.items c.self.inside.listed.items c.args.self.now.jobs (ap (λ (q : QueueParts). q.jobs) c.self.view_is) in
    omega (arith, ap length c.deref.ensures.value)

pub returns-in-Some-place_come-clause-few_steps : goal.returns-in-Some-place_come-clause-few_steps
returns-in-Some-place_come-clause-few_steps g c =
    let long = long c.self.inside.beside.items c.self.inside.come.items c.self.inside.listed.items c.args.self.now.jobs (ap (λ (q : QueueParts). q.jobs) c.self.view_is) in
    omega (arith, ap length c.deref.ensures.value)

pub returns-in_err-place-clause-few_steps : goal.returns-in_err-place-clause-few_steps
returns-in_err-place-clause-few_steps g c =
    let long = long c.self.inside.beside.items c.self.inside.come.items c.self.inside.listed.items c.args.self.now.jobs (ap (λ (q : QueueParts). q.jobs) c.self.view_is) in
    omega (arith, ap length c.deref.ensures.value)

pub returns-clause-few_steps : goal.returns-clause-few_steps
returns-clause-few_steps g c =
    let long = long c.self.inside.beside.items c.self.inside.come.items c.self.inside.listed.items c.args.self.now.jobs (ap (λ (q : QueueParts). q.jobs) c.self.view_is) in
    omega (arith, ap length c.deref.ensures.value)

pub overflow_add-result : goal.overflow_add-result
overflow_add-result g c =
    let come = c.self.inside.come.items in
    let keeps = c.self.invariant in
    let few = long c.self.inside.beside.items come c.self.inside.listed.items _ refl in
    let place = c.in-Some-place_come.ensures.place.within c.in-Some-place_come.place refl in
    omega (arith, few, place, length-reverse come, keeps.queue.few, keeps.small)

pub overflow_add-result-2 : goal.overflow_add-result-2
overflow_add-result-2 g c =
    let keeps = c.self.invariant in
    let few = long c.self.inside.beside.items c.self.inside.come.items c.self.inside.listed.items _ refl in
    omega (arith, few, keeps.queue.few, keeps.small)

pub overflow_add-result-3 : goal.overflow_add-result-3
overflow_add-result-3 g c =
    let keeps = c.self.invariant in
    let few = long c.self.inside.beside.items c.self.inside.come.items c.self.inside.listed.items _ refl in
    let place = c.in_ok-place.ensures.place.within c.in_ok-place.place refl in
    omega (arith, few, place, keeps.queue.few, keeps.small)

use Rattle.std.proofs.Common.{arith}
use Rattle.std.specs.Prelude.{vec_capacity}
use Rattle.job_queue.proofs.KeptQueues.{MayInsert-view, AreKept-push_beside, AreKept-push_listed, parts_of}
use Rattle.job_queue.proofs.queue.JobQueue.insert.Goals as goal

pub invariant_of-self : goal.invariant_of-self
invariant_of-self g c =
    let old = parts_of c.self.inside.beside.items c.self.inside.come.items c.self.inside.listed.items (vec_capacity c.self.inside.beside) c.self.inside.come.places in
    let fits = MayInsert-view c.args.job _ c.args.self.now c.self.view_is c.requires.free c.requires.fresh c.requires.guaranteed c.requires.left in
    rw
    c.push_back_reserved.ensures.items
    (AreKept-push_listed c.self.inside.capacity old c.args.job c.self.invariant fits (c.starts_last.ensures c.if-starts_last.true))

pub invariant_of-self-else-has_place : goal.invariant_of-self-else-has_place
invariant_of-self-else-has_place g c =
    let old = parts_of c.self.inside.beside.items c.self.inside.come.items c.self.inside.listed.items (vec_capacity c.self.inside.beside) c.self.inside.come.places in
    let fits = MayInsert-view c.args.job _ c.args.self.now c.self.view_is c.requires.free c.requires.fresh c.requires.guaranteed c.requires.left in
    rw
    c.push_reserved.ensures.items
    (AreKept-push_beside c.self.inside.capacity (vec_capacity c.push_reserved.new.self) old c.args.job c.self.invariant fits (omega (arith, c.push_reserved.ensures.capacity)))

-- One more job is kept or not.
use Rattle.std.proofs.Common.{◌≡◌, ◌++◌, ◌∷◌, [], ap, sym, ◌∙◌}
use Rattle.change_laws.specs.Carried.{carried_of}
use Rattle.mode_switch.proofs.CarriedJobs.{carried_of-more}
use Rattle.mode_switch.proofs.carried.gather.Goals as goal

pub loop-i-preserved : goal.loop-i-preserved
loop-i-preserved g c =
    let kept : c.keep.new.jobs.items ≡ c.loop-i.jobs.items ++ carried_of (c.job.result ∷ []) = c.in_ok-keep.ensures in
    kept
    ∙ ap (λ js. js ++ carried_of (c.job.result ∷ [])) c.loop-i.invariant
    ∙ sym (carried_of-more c.args.exec.now.scene.jobs c.loop-i.i c.job.result c.job.ensures.job)

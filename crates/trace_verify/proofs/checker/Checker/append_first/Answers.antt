use Rattle.std.proofs.Common.{ℕ, List, ◌++◌, map, ap, ◌∙◌, subst, arith}
use Rattle.std.specs.Prelude.{sum_by}
use Rattle.slot_core.specs.declared.jobs.Job.{Job}
use Rattle.slot_core.specs.Keeping.Plans.{PlanParts}
use Rattle.slot_core.specs.Offline.OfflineJobs.{later_job}
use Rattle.slot_core.specs.Runs.Matches.{IsSameScene}
use Rattle.slot_core.specs.Runs.Scenes.{Scene}
use Rattle.scene_steps.specs.Steps.{bare_scene, with_cycle}
use Rattle.scene_steps.proofs.Same.SameScenes.{same_scene-refl}
use Rattle.trace_verify.specs.Checked.{Checked}
use Rattle.trace_verify.proofs.CycleParts.{first_cycles-due, first_cycles-few, with_cycle-made}
use Rattle.trace_verify.proofs.checker.Checker.append_first.Goals as goal

-- with the plan's jobs of a cycle
abbrev with_jobs : PlanParts → ℕ → List Job → List Job
with_jobs plan n jobs = jobs ++ map (later_job plan.tasks plan.cycle n) plan.jobs

pub append_cycle-requires-clause-small : goal.append_cycle-requires-clause-small
append_cycle-requires-clause-small c =
    omega (arith, ap (λ (s : Scene). sum_by (λ (j : Job). j.left) s.jobs) c.requires.bare)

pub append_cycle-requires-2-clause-small : goal.append_cycle-requires-2-clause-small
append_cycle-requires-2-clause-small c =
    let plan = c.args.plan.now in
    let first = ap (λ (k : Checked). k.scene.jobs) c.in_ok-append_cycle.ensures.made ∙ ap (λ (s : Scene). with_jobs plan 0 s.jobs) c.requires.bare in
    first_cycles-few plan 1 c.append_cycle.new.self.scene.jobs c.requires.plan (omega arith) first

pub append_cycle-requires-3-clause-small : goal.append_cycle-requires-3-clause-small
append_cycle-requires-3-clause-small c =
    let plan = c.args.plan.now in
    let first = ap (λ (k : Checked). k.scene.jobs) c.in_ok-append_cycle.ensures.made ∙ ap (λ (s : Scene). with_jobs plan 0 s.jobs) c.requires.bare in
    let second = ap (λ (k : Checked). k.scene.jobs) c.in_ok-append_cycle-2.ensures.made ∙ ap (with_jobs plan 1) first in
    first_cycles-few plan 2 c.append_cycle-2.new.self.scene.jobs c.requires.plan (omega arith) second

pub append_cycle-requires-2-clause-earlier : goal.append_cycle-requires-2-clause-earlier
append_cycle-requires-2-clause-earlier c =
    let plan = c.args.plan.now in
    let first = ap (λ (k : Checked). k.scene.jobs) c.in_ok-append_cycle.ensures.made ∙ ap (λ (s : Scene). with_jobs plan 0 s.jobs) c.requires.bare in
    first_cycles-due plan 1 c.append_cycle.new.self.scene.jobs c.requires.plan first

pub append_cycle-requires-3-clause-earlier : goal.append_cycle-requires-3-clause-earlier
append_cycle-requires-3-clause-earlier c =
    let plan = c.args.plan.now in
    let first = ap (λ (k : Checked). k.scene.jobs) c.in_ok-append_cycle.ensures.made ∙ ap (λ (s : Scene). with_jobs plan 0 s.jobs) c.requires.bare in
    let second = ap (λ (k : Checked). k.scene.jobs) c.in_ok-append_cycle-2.ensures.made ∙ ap (with_jobs plan 1) first in
    first_cycles-due plan 2 c.append_cycle-2.new.self.scene.jobs c.requires.plan second

pub returns-clause-scene : goal.returns-clause-scene
returns-clause-scene c =
    let plan = c.args.plan.now in
    let set = plan.tasks in
    let cycle = plan.cycle in
    let is_plan = c.requires.plan in
    let bare = bare_scene set in
    let start = subst (IsSameScene c.args.self.now.scene) c.requires.bare (same_scene-refl c.args.self.now.scene) in
    let first = with_cycle-made plan 0 c.args.self.now.scene bare c.append_cycle.new.self.scene is_plan start (ap (λ (k : Checked). k.scene) c.in_ok-append_cycle.ensures.made) in
    let second = with_cycle-made plan 1 c.append_cycle.new.self.scene (with_cycle set cycle 0 bare) c.append_cycle-2.new.self.scene is_plan first (ap (λ (k : Checked). k.scene) c.in_ok-append_cycle-2.ensures.made) in
    with_cycle-made plan 2 c.append_cycle-2.new.self.scene (with_cycle set cycle 1 (with_cycle set cycle 0 bare)) c.append_cycle-3.new.self.scene is_plan second (ap (λ (k : Checked). k.scene) c.in_ok-append_cycle-3.ensures.made)

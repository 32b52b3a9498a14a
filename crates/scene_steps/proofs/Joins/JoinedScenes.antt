-- When a job may join the scene of an executive, and the place that it finds then.
use Rattle.std.proofs.Common.{◌≡◌, ◌+◌, ◌-◌, ◌*◌, ◌≤◌, false, cond, List, [], ◌∷◌, ◌++◌, refl, sym, ap, subst, inl, arith}
use Rattle.std.specs.Prelude.{Contains, count_by, sum_by}
use Rattle.std.proofs.lemmas.List.Sums.{sum_by-append}
use Rattle.slot_core.specs.declared.jobs.Job.{Job}
use Rattle.slot_core.specs.Keeping.Executives.{Executive, StandsForSome}
use Rattle.slot_core.specs.Offline.Keys.{is_offline, same_key}
use Rattle.slot_core.specs.Keeping.Plans.{PlanParts, IsPlan}
use Rattle.slot_core.specs.Runs.Scenes.{horizon}
use Rattle.slot_core.specs.Runs.Spans.{spans_of}
use Rattle.slot_facts.proofs.Legal.Executives.{every_executive_is_kept}
use Rattle.slot_facts.proofs.Lists.ApartKeys.{same_key-itself}
use Rattle.slot_facts.proofs.Lists.Members.{Contains-from_Has, Has-append_right}
use Rattle.slot_facts.proofs.Plans.Items.{plan_cycle-bounds}
use Rattle.scene_steps.specs.Joins.{HavePlace, MayJoin}
use Rattle.scene_steps.proofs.Facts.ProperScenes.{proper_scene}
use Rattle.slot_facts.proofs.Lists.MemberSums.{length-at_most_sum}
use Rattle.scene_steps.proofs.Joins.JoinedSpans.{charge-cut, left-with_job}
use Rattle.scene_steps.proofs.Spans.Executives.{last_end-spans, split-free}
use Rattle.scene_steps.proofs.Spans.Proper.{horizon-at_least, horizon-at_most}

-- a list in which a key stands at most once with the job of that key does not have it without the job
fresh-from_apart : (jobs : List Job) (job : Job) → count_by (λ (j : Job). same_key j.key job.key) (jobs ++ job ∷ []) ≤ 1 → count_by (λ (j : Job). same_key j.key job.key) jobs ≡ 0
fresh-from_apart jobs job once =
    let has_key = λ (j : Job). same_key j.key job.key in
    let own : count_by has_key (job ∷ []) ≡ 1 = rw (same_key-itself job.key job.key refl) refl in
    omega (arith, once, sum_by-append (λ (j : Job). cond (same_key j.key job.key) 1 0) jobs (job ∷ []), own)

-- a job of the scene of an executive of this plan that came in beside other jobs: it could join them
pub MayJoin-from_joined : (exec after : Executive) (job : Job) → IsPlan exec.plan → after.plan ≡ exec.plan → StandsForSome after → after.scene.time ≡ exec.scene.time → after.scene.jobs ≡ exec.scene.jobs ++ job ∷ [] → is_offline job.key ≡ false → MayJoin exec.plan.cycle exec.scene job
MayJoin-from_joined exec after job plan stays stands time jobs other =
    let cycle = exec.plan.cycle in
    let later_plan = subst IsPlan (sym stays) plan in
    let kept = (every_executive_is_kept after later_plan stands).bounds in
    let proper = proper_scene after later_plan stands in
    let same_cycle : after.plan.cycle ≡ cycle = ap (λ (p : PlanParts). p.cycle) stays in
    let listed : Contains after.scene.jobs job =
    subst (λ js. Contains js job) (sym jobs) (Contains-from_Has (exec.scene.jobs ++ job ∷ []) job (Has-append_right exec.scene.jobs (job ∷ []) job (inl refl))) in
    let left = kept.left job listed in
    let come = kept.come job listed other in
    let slots : horizon after.plan.cycle after.scene.time - after.scene.time ≡ horizon cycle exec.scene.time - exec.scene.time = λ i. horizon (same_cycle i) (time i) - time i in
    record {
      guaranteed = come.0;
      fresh = fresh-from_apart exec.scene.jobs job (subst (λ js. count_by (λ (j : Job). same_key j.key job.key) js ≤ 1) jobs (kept.apart job.key));
      after = omega (arith, left.0, time);
      within = omega (arith, come.2, time, same_cycle, horizon-at_least cycle exec.scene.time (plan_cycle-bounds exec.plan plan).0);
      some = left.1;
      fits = omega (arith, proper.left, slots, ap (λ js. sum_by (λ (j : Job). j.left) js) jobs);
    }

-- a job that may join finds a place, where there is room for the spans and the jobs of three cycles, and one span more
pub HavePlace-from_join : (exec : Executive) (job : Job) → IsPlan exec.plan → StandsForSome exec → MayJoin exec.plan.cycle exec.scene job → HavePlace job exec.scene.time (spans_of exec.plan.cycle exec.scene) (3 * exec.plan.cycle + 1) exec.scene.jobs (3 * exec.plan.cycle)
HavePlace-from_join exec job plan stands may =
    let cycle = exec.plan.cycle in
    let scene = exec.scene in
    let end = horizon cycle scene.time in
    let kept = (every_executive_is_kept exec plan stands).bounds in
    let each = length-at_most_sum (λ (j : Job). j.left) scene.jobs (λ j at. (kept.left j (Contains-from_Has scene.jobs j at)).1) in
    record {
      after = may.after;
      within = omega (arith, may.within, last_end-spans exec scene.jobs end plan stands);
      span = split-free exec scene.jobs end plan stands;
      work = charge-cut cycle scene job (plan_cycle-bounds exec.plan plan).1 (proper_scene exec plan stands) may.after may.within may.fits;
      queue = omega (arith, each, may.fits, may.some, left-with_job scene.jobs job, horizon-at_most cycle scene.time);
      fresh = may.fresh;
      guaranteed = may.guaranteed;
      left = may.some;
    }

-- Scenes that are the same keep the same bounds, and so does every executive that stands for a legal history.
use Rattle.std.proofs.Common.{◌≡◌, ℕ, ◌+◌, ◌/◌, ◌≤◌, true, cond, List, length, sym, ap, ◌∙◌, subst, arith}
use Rattle.std.specs.Prelude.{All, Contains, nat_le}
use Rattle.std.proofs.lemmas.List.Elements.{All-contains, All-from_recursion}
use Rattle.std.proofs.lemmas.List.Sorted.{Contains-permutation}
use Rattle.slot_core.specs.declared.jobs.Job.{Job}
use Rattle.slot_core.specs.declared.jobs.SoftJob.{SoftJob}
use Rattle.slot_core.specs.declared.tasks.Sporadic.{Sporadic}
use Rattle.slot_core.specs.declared.tasks.TaskSet.{TaskSet}
use Rattle.slot_core.specs.Offline.Keys.{same_key, row_of}
use Rattle.slot_core.specs.Sets.Cycles.{cycle_of}
use Rattle.slot_core.specs.Sets.Ranges.{is_sound}
use Rattle.slot_core.specs.Feasibility.Feasible.{IsFeasible}
use Rattle.slot_core.specs.Runs.Histories.{History, last_row}
use Rattle.slot_core.specs.Runs.Scenes.{Scene, scene_of}
use Rattle.slot_core.specs.Feasibility.Sporadics.{sporadic_demand}
use Rattle.slot_core.specs.Runs.Demand.{need_by}
use Rattle.slot_core.specs.Runs.Matches.{HaveSameItems, IsSameScene, MatchesHistory}
use Rattle.slot_core.specs.Keeping.Kept.{KeepsBounds, KeepsSoftOrder, KeepsRows}
use Rattle.slot_facts.specs.Bounds.{EveryExecutiveIsKept}
use Rattle.slot_facts.proofs.Lists.Members.{Contains-from_Has, AllByRecursion-from_Has}
use Rattle.slot_facts.proofs.Lists.SameItems.{same-sym, jobs-same_items}
use Rattle.slot_facts.proofs.Legal.Kept.{every_legal_history_is_kept}

-- jobs of a list are jobs of one with the same items
Contains-same : (xs ys : List Job) (job : Job) → HaveSameItems xs ys → Contains xs job → Contains ys job
Contains-same xs ys job same at = Contains-permutation xs ys job ((jobs-same_items xs ys).0 same) at

-- the same needs
need_by-same : (sporadics : List Sporadic) (a b : Scene) (x : ℕ) → IsSameScene a b → need_by sporadics a a.time x ≡ need_by sporadics b b.time x
need_by-same sporadics a b x same =
    let work = same.jobs (λ (j : Job). cond (nat_le j.dl x) j.left 0) in
    let demand : sporadic_demand sporadics a.nexts a.time x ≡ sporadic_demand sporadics b.nexts b.time x =
    ap (λ ns. sporadic_demand sporadics ns a.time x) same.nexts ∙ ap (λ t. sporadic_demand sporadics b.nexts t x) same.time in
    omega arith

-- a scene that is the same keeps the same bounds
pub bounds-same : (set : TaskSet) (cycle cycles : ℕ) (a b : Scene) → IsSameScene a b → KeepsBounds set cycle cycles b → KeepsBounds set cycle cycles a
bounds-same set cycle cycles a b same kept =
    let there = λ (job : Job) (at : Contains a.jobs job). Contains-same a.jobs b.jobs job same.jobs at in
    let back = λ (job : Job) (at : Contains b.jobs job). Contains-same b.jobs a.jobs job (same-sym a.jobs b.jobs same.jobs) at in
    let time = same.time in
    record {
      fits = λ x low high.
          let fit = kept.fits x (omega arith) high in
          omega (arith, fit, need_by-same set.sporadics a b x same);
      left = λ job at.
          let l = kept.left job (there job at) in
          (omega (arith, l), l.1, l.2);
      planned = λ job at is. kept.planned job (there job at) is;
      come = λ job at other.
          let c = kept.come job (there job at) other in
          (c.0, omega (arith, c), omega (arith, c));
      untouched = λ job at late. back job (kept.untouched job at (omega arith));
      waiting = λ before after first second listed. back after (kept.waiting before after (there before first) second listed);
      apart = λ key.
          let counts = same.jobs (λ (j : Job). cond (same_key j.key key) 1 0) in
          omega (arith, kept.apart key);
      one_each = ap length same.nexts ∙ kept.one_each;
      reach =
          subst
          (λ t. All (λ next. next ≤ t + cycle) a.nexts)
          (sym time)
          (subst (λ ns. All (λ next. next ≤ b.time + cycle) ns) (sym same.nexts) kept.reach);
    }

-- and the same rows
rows-same : (row : ℕ) (a b : Scene) → IsSameScene a b → KeepsRows row b → KeepsRows row a
rows-same row a b same kept =
    record {
      jobs = All-from_recursion (λ (j : Job). row_of j.key ≤ row) a.jobs (AllByRecursion-from_Has (λ (j : Job). row_of j.key ≤ row) a.jobs (λ j at.
          All-contains (λ (j : Job). row_of j.key ≤ row) b.jobs j kept.jobs (Contains-same a.jobs b.jobs j same.jobs (Contains-from_Has a.jobs j at))));
      soft = subst (λ ss. All (λ (s : SoftJob). s.row ≤ row) ss) (sym same.soft) kept.soft;
    }

-- what the parts of an executive keep
parts-kept : (set : TaskSet) (cycle row : ℕ) (scene : Scene) (h : History) → cycle ≡ cycle_of set → is_sound set ≡ true → IsFeasible set cycle → MatchesHistory set cycle scene row h → KeepsBounds set cycle (scene.time / cycle + 3) scene × KeepsSoftOrder set.soft_limit scene.soft × KeepsRows row scene
parts-kept set cycle row scene h is sound feasible matches =
    subst
    (λ c. IsFeasible set c → MatchesHistory set c scene row h → KeepsBounds set c (scene.time / c + 3) scene × KeepsSoftOrder set.soft_limit scene.soft × KeepsRows row scene)
    (sym is)
    (λ fits m.
    let c = cycle_of set in
    let cycles = scene.time / c + 3 in
    let own = scene_of set c h in
    let reach : own.time / c + 3 ≤ own.time / c + 3 = omega arith in
    let kept = every_legal_history_is_kept set h (own.time / c + 3) sound fits m.legal reach in
    let bounds = bounds-same set c (own.time / c + 3) scene own m.same kept.bounds in
    let rows = rows-same (last_row h) scene own m.same kept.rows in (
      subst (λ t. KeepsBounds set c (t / c + 3) scene) (sym m.same.time) bounds,
      subst (λ ss. KeepsSoftOrder set.soft_limit ss) (sym m.same.soft) kept.soft,
      subst (λ r. KeepsRows r scene) (sym m.last) rows,
    ))
    feasible
    matches

pub every_executive_is_kept : EveryExecutiveIsKept
every_executive_is_kept exec plan (h, matches) =
    let kept = parts-kept exec.plan.tasks exec.plan.cycle exec.last_row exec.scene h plan.cycle plan.sound plan.feasible matches in
    record { plan = plan; bounds = kept.0; soft = kept.1; rows = kept.2 }

-- From slot to slot, and at the end of the cycle.
use Rattle.std.proofs.Common.{◌≡◌, ℕ, ◌+◌, ◌≤◌, ◌<◌, ◌++◌, ◌∷◌, [], List, length, get_or, ap, ap₂, sym, ◌∙◌, arith}
use Rattle.std.specs.Prelude.{All, map}
use Rattle.std.specs.List.{range_with_len}
use Rattle.std.proofs.lemmas.List.Elements.{All-contains}
use Rattle.std.proofs.lemmas.List.FromFn.{length-map-range_with_len, get_or-map-range_with_len}
use Rattle.slot_core.specs.declared.jobs.Job.{Job}
use Rattle.slot_core.specs.Runs.Points.{end_before, least_start}
use Rattle.slot_facts.proofs.Lists.Members.{Contains-from_Has}
use Rattle.slot_facts.proofs.Plans.Points.{AreInCycle, end_before-le}
use Rattle.slot_facts.proofs.Plans.CyclePoints.{start_if_later, points_by, points_by-due, end_before-none, points_by-cycle}
use Rattle.interval_build.proofs.points.cycle_points.Goals as goal
use Rattle.interval_build.proofs.points.cycle_points.Goals.{then-start-end+in_ok-push_interval, else-start-end, then-before-from+in_ok-push, else-before-from}

-- what the call requires of the jobs
in_cycle : (cycle : ℕ) (jobs : List Job) → All (λ (j : Job). j.est < j.dl) jobs → All (λ (j : Job). j.dl ≤ cycle) jobs → AreInCycle cycle jobs
in_cycle cycle jobs started due j listed =
    let at = Contains-from_Has jobs j listed in
    (All-contains (λ (j : Job). j.est < j.dl) jobs j started at, All-contains (λ (j : Job). j.dl ≤ cycle) jobs j due at)

-- the table has a place for each slot and the end of the cycle
table-length : (cycle : ℕ) (jobs : List Job) (starts : List ℕ) → starts ≡ map (λ e. least_start jobs e e) (range_with_len 0 (cycle + 1)) → length starts ≡ cycle + 1
table-length cycle jobs starts table =
    ap length table ∙ length-map-range_with_len (λ e. least_start jobs e e) 0 (cycle + 1)

-- the least start that stands at a place of it
start-at : (cycle : ℕ) (jobs : List Job) (starts : List ℕ) (end : ℕ) → starts ≡ map (λ e. least_start jobs e e) (range_with_len 0 (cycle + 1)) → end < length starts → get_or starts end 0 ≡ least_start jobs end end
start-at cycle jobs starts end table within =
    ap (λ xs. get_or xs end 0) table ∙ get_or-map-range_with_len (λ e. least_start jobs e e) 0 (cycle + 1) end end 0 (omega (arith, table-length cycle jobs starts table)) (omega arith)

pub loop-end-init : goal.loop-end-init
loop-end-init c =
    let none = end_before-le c.args.jobs.now 0 0 (λ j listed early. absurd (omega arith)) in
    record { is_before = omega arith; points = c.new-points.ensures.items }

pub loop-end-preserved : goal.loop-end-preserved
loop-end-preserved c =
    let cycle = c.args.cycle in
    let jobs = c.args.jobs.now in
    let before = c.loop-end.before in
    let end = c.loop-end.end in
    let start = get_or c.deref-start-items.result.now end 0 in
    let least = start-at cycle jobs c.deref-start-items.result.now end (c.deref-start-items.ensures.value ∙ c.in_ok-starts.ensures) c.loop-end-test.true in
    elim c.if-start-end.branch [
      | then-start-end+in_ok-push_interval w ↦
          let step = points_by-due cycle jobs before start end c.requires.some (in_cycle cycle jobs c.requires.started c.requires.due) c.loop-end.invariant.is_before least w.if-start-end.true in
          let pushed = ap (λ (v : _). v.items) w.points-is ∙ (w.in_ok-push_interval.ensures ∙ ap (λ xs. xs ++ (start_if_later before start ++ end ∷ [])) c.loop-end.invariant.points) in
          record {
            is_before = w.before-is ∙ step.1;
            points = pushed ∙ (sym step.0 ∙ ap (points_by cycle jobs) (sym w.before-is));
          }
      | else-start-end w ↦
          let step = end_before-none jobs before end c.loop-end.invariant.is_before (omega (arith, least, w.if-start-end.false)) (λ j listed. (in_cycle cycle jobs c.requires.started c.requires.due j listed).0) in
          record {
            is_before = w.before-is ∙ step;
            points = ap (λ (v : _). v.items) w.points-is ∙ (c.loop-end.invariant.points ∙ ap (points_by cycle jobs) (sym w.before-is));
          }
    ]

pub returns : goal.returns
returns c =
    let cycle = c.args.cycle in
    let jobs = c.args.jobs.now in
    let before = c.loop-end.before in
    let all = in_cycle cycle jobs c.requires.started c.requires.due in
    let table = table-length cycle jobs c.deref-start-items.result.now (c.deref-start-items.ensures.value ∙ c.in_ok-starts.ensures) in
    let places : c.loop-end.end ≡ cycle + 1 = omega (arith, table, c.loop-end-test.false) in
    let is_before : before ≡ end_before jobs (cycle + 1) = c.loop-end.invariant.is_before ∙ ap (end_before jobs) places in
    elim c.if-before-from.branch [
      | then-before-from+in_ok-push w ↦
          let low : before < cycle = omega (arith, w.if-before-from.true, c.from.ensures) in
          let last = points_by-cycle cycle jobs before c.requires.some all is_before low in
          ap (λ (v : _). v.items) w.points-is ∙ (w.in_ok-push.ensures.items ∙ (ap₂ (λ xs e. xs ++ e ∷ []) c.loop-end.invariant.points w.from-then-before-from.ensures ∙ sym last))
      | else-before-from w ↦
          let most : before ≤ cycle = omega (arith, end_before-le jobs (cycle + 1) cycle (λ j listed early. omega arith)) in
          let whole : before ≡ cycle = omega (arith, w.if-before-from.false, c.from.ensures) in
          ap (λ (v : _). v.items) w.points-is ∙ (c.loop-end.invariant.points ∙ ap (points_by cycle jobs) whole)
    ]

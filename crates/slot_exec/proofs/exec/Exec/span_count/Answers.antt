use Rattle.std.proofs.Common.{◌≡◌, ◌*◌, ◌≤◌, length, map, ap, arith}
use Rattle.std.proofs.lemmas.List.{length-map}
use Rattle.slot_core.specs.declared.jobs.Span.{Span}
use Rattle.slot_core.specs.Keeping.Executives.{Executive}
use Rattle.slot_exec.proofs.ShownExecutives.{few_points-stands}
use Rattle.slot_exec.proofs.exec.Exec.span_count.Goals as goal

pub returns-clause-few : goal.returns-clause-few
returns-clause-few g c =
    let spans = g.T.SpareTable.spans c.self.inside.table in
    let many : length (map (λ (s : Span). s.end) spans) ≡ length spans =
    length-map spans (λ (s : Span). s.end)
    in
    let few : length (map (λ (s : Span). s.end) spans) ≤ 3 * c.self.inside.plan.cycle =
    few_points-stands _ c.self.invariant.plan c.self.invariant.stands
    in
    let whole : c.self.inside.plan.cycle ≡ c.args.self.now.plan.cycle =
    ap (λ (exec : Executive). exec.plan.cycle) c.self.view_is
    in
    omega (arith, c.count.ensures.count, many, few, whole)

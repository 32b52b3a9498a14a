use Rattle.std.proofs.Common.{◌≡◌, ℕ, List, ◌++◌, ◌∷◌, [], ◌≤◌, take, filter, length, sum_by, ap, sym, subst, ◌∙◌, arith}
use Rattle.std.proofs.lemmas.List.{length-append, length-take, take_at}
use Rattle.slot_core.specs.declared.jobs.Job.{Job}
use Rattle.slot_core.specs.declared.jobs.Span.{Span}
use Rattle.slot_core.specs.Runs.Rising.{last_point}
use Rattle.spare_capacity.specs.Recurrence.{filled, AreConsecutive}
use Rattle.interval_build.specs.Rows.{rows_between}
use Rattle.interval_build.proofs.Due.{is_due_after}
use Rattle.interval_build.proofs.Filled.{length-rows_between}
use Rattle.trace_verify.specs.Lacks.{lack}
use Rattle.trace_verify.proofs.FirstSpans.{AreConsecutive-lacking, AreRising-take, first_spans-at, last_point-take, with_lacking}
use Rattle.trace_verify.proofs.OrderEdits.{AreInDeadlineOrder-filter}
use Rattle.trace_verify.proofs.shown.first_spans.Goals as goal

-- what is lacking is no more than what the jobs have left
few_lacking : (jobs : List Job) (end last n : ℕ) → end ≡ last → n ≡ lack end (filter (is_due_after end) jobs) → n ≤ sum_by (λ (j : Job). j.left) jobs → lack last (filter (is_due_after last) jobs) ≤ sum_by (λ (j : Job). j.left) jobs
few_lacking jobs end last n is lacks few =
    subst (λ e. lack e (filter (is_due_after e) jobs) ≤ sum_by (λ (j : Job). j.left) jobs) is (omega (arith, lacks, few))

pub rows_until-requires-clause-rising : goal.rows_until-requires-clause-rising
rows_until-requires-clause-rising c = AreRising-take c.args.time c.args.count c.args.points.now c.requires.rising

pub lack_after-requires-clause-near : goal.lack_after-requires-clause-near
lack_after-requires-clause-near c =
    omega (arith, c.last_end-end.ensures, last_point-take c.args.time c.args.count c.args.points.now c.requires.rising, c.requires.near)

pub lacking-requires-clause-near : goal.lacking-requires-clause-near
lacking-requires-clause-near c =
    omega (arith, c.last_end-end.ensures, last_point-take c.args.time c.args.count c.args.points.now c.requires.rising, c.requires.near)

pub lacking-requires-clause-few : goal.lacking-requires-clause-few
lacking-requires-clause-few c =
    omega (arith, c.lack_after.ensures.few, c.requires.small)

pub fill-requires-clause-consecutive : goal.fill-requires-clause-consecutive
fill-requires-clause-consecutive c =
    let jobs = c.args.jobs.now in
    let t = c.args.time in
    let points = c.args.points.now in
    let front = take c.args.count points in
    let last = last_point t front in
    let beyond = filter (is_due_after last) jobs in
    let listed = c.in_ok-spans.ensures ∙ ap (λ js. rows_between js t front) c.items.ensures in
    let rows = c.deref_mut.ensures.value ∙ c.in_ok-push.ensures.items ∙ ap (λ (rows : List Span). rows ++ c.lacking.result ∷ []) listed ∙ with_lacking jobs t c.last_end-end.result c.lack_after.result front c.lacking.result c.last_end-end.ensures c.lack_after.ensures.lack c.lacking.ensures in
    let few : lack last beyond ≤ sum_by (λ (j : Job). j.left) jobs = few_lacking jobs c.last_end-end.result last c.lack_after.result c.last_end-end.ensures c.lack_after.ensures.lack c.lack_after.ensures.few in
    subst AreConsecutive (sym rows)
    (AreConsecutive-lacking jobs t (lack last beyond) front (AreRising-take t c.args.count points c.requires.rising) (omega (arith, last_point-take t c.args.count points c.requires.rising, c.requires.near)) (omega (arith, c.requires.small)) (omega (arith, few, c.requires.small)))

pub fill-requires-clause-few : goal.fill-requires-clause-few
fill-requires-clause-few c =
    let points = c.args.points.now in
    let t = c.args.time in
    let front = take c.args.count points in
    let listed = c.in_ok-spans.ensures ∙ ap (λ js. rows_between js t front) c.items.ensures in
    let rows = c.deref_mut.ensures.value ∙ c.in_ok-push.ensures.items ∙ ap (λ (rows : List Span). rows ++ c.lacking.result ∷ []) listed in
    omega (arith, ap length rows, length-append (rows_between c.args.jobs.now t front) (c.lacking.result ∷ []), length-rows_between c.args.jobs.now t front, length-take c.args.count points, c.requires.few)

pub returns : goal.returns
returns c =
    let jobs = c.args.jobs.now in
    let t = c.args.time in
    let points = c.args.points.now in
    let front = take c.args.count points in
    let last = last_point t front in
    let listed = c.in_ok-spans.ensures ∙ ap (λ js. rows_between js t front) c.items.ensures in
    let rows = c.deref_mut.ensures.value ∙ c.in_ok-push.ensures.items ∙ ap (λ (rows : List Span). rows ++ c.lacking.result ∷ []) listed ∙ with_lacking jobs t c.last_end-end.result c.lack_after.result front c.lacking.result c.last_end-end.ensures c.lack_after.ensures.lack c.lacking.ensures in
    let ordered = AreInDeadlineOrder-filter (is_due_after last) jobs c.requires.ordered in
    c.truncate.ensures.items
    ∙ ap (take c.args.count) (take_at c.fill.new.rows _ c.push.new.self.len (omega arith) ∙ c.fill.ensures ∙ ap filled rows)
    ∙ first_spans-at jobs t c.args.count points c.requires.within c.requires.rising c.requires.due ordered

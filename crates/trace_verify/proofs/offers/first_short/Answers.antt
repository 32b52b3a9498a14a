use Rattle.std.proofs.Common.{ℕ, ◌+◌, ◌-◌, ◌<◌, ◌≤◌, ap, sym, ◌∙◌, ⊎_elim, arith}
use Rattle.std.specs.Option.{option_map}
use Rattle.std.proofs.lemmas.Bool.{cases_lt}
use Rattle.slot_core.specs.Runs.Answers.{evidence_at}
use Rattle.slot_core.specs.Runs.Demand.{is_overloaded}
use Rattle.trace_verify.specs.Dues.{block_end, left_before}
use Rattle.trace_verify.specs.Offers.{offer_scene}
use Rattle.trace_verify.proofs.LeftSums.{left_before-le}
use Rattle.trace_verify.proofs.OfferFacts.{evidence-none, find-from, found-longer, none-found}
use Rattle.trace_verify.proofs.offers.first_short.Goals as goal

pub overflow_add-work : goal.overflow_add-work
overflow_add-work c =
    omega (arith, c.work_before.ensures, c.from.ensures, left_before-le c.args.jobs.now c.args.from, c.requires.small, c.ranges.slots)

pub returns-in-Some : goal.returns-in-Some
returns-in-Some c =
    let v = c.loop-x.invariant in
    let reserve = c.args.reserve.now in
    let scene = offer_scene c.args.now c.args.jobs.now reserve.nexts in
    let short = is_overloaded reserve.sporadics scene c.args.slots c.args.now in
    let x = c.loop-x.x in
    let last = c.min-last.result in
    let within : last + 1 - x ≤ c.args.end + 1 - x = omega (arith, c.min-last.ensures) in
    found-longer short (evidence_at reserve.sporadics scene c.args.slots) x (last + 1 - x) (c.args.end + 1 - x) c.in-Some.evidence within (sym c.in-Some.is ∙ c.short_in_block.ensures)
    ∙ ap (option_map (evidence_at reserve.sporadics scene c.args.slots)) (sym (find-from short c.args.from c.args.end x v.from (λ y low high. v.passed y low high (omega (arith, c.loop-x-test.true)))))

pub overflow_add-work-in-loop-x : goal.overflow_add-work-in-loop-x
overflow_add-work-in-loop-x c =
    omega (arith, c.loop-x.invariant.work, c.to_block_end-work.ensures.work, left_before-le c.args.jobs.now (block_end c.loop-x.x), c.requires.small, c.ranges.slots)

pub loop-x-preserved : goal.loop-x-preserved
loop-x-preserved c =
    let v = c.loop-x.invariant in
    let reserve = c.args.reserve.now in
    let scene = offer_scene c.args.now c.args.jobs.now reserve.nexts in
    let short = is_overloaded reserve.sporadics scene c.args.slots c.args.now in
    let x = c.loop-x.x in
    let last = c.min-last.result in
    let none = λ (y : ℕ) (low : x ≤ y) (high : y < x + (last + 1 - x)).
    none-found short (evidence_at reserve.sporadics scene c.args.slots) x (last + 1 - x) y (sym c.in_default.is ∙ c.short_in_block.ensures) low high in
    record {
      from = omega (arith, v.from, c.block_end-next.ensures);
      near = omega (arith, c.block_end-next.ensures, c.loop-x-test.true, c.requires.near);
      passed = λ y low high within.
          ⊎_elim
          (λ (early : y < x). v.passed y low early within)
          (λ (late : x ≤ y). none y late (omega (arith, c.min-last.ensures)))
          (cases_lt y x);
      work = omega (arith, v.work, c.to_block_end-work.ensures.work, ap (left_before c.args.jobs.now) c.block_end-next.ensures);
    }

pub returns : goal.returns
returns c =
    let reserve = c.args.reserve.now in
    let v = c.loop-x.invariant in
    evidence-none reserve.sporadics reserve.nexts c.args.now c.args.slots c.args.jobs.now c.args.from c.args.end (c.args.end + 1) (omega arith) (λ y low high. v.passed y low (omega (arith, c.loop-x-test.false)) (omega arith))

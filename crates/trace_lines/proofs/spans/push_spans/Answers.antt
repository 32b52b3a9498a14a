use Rattle.std.proofs.Common.{rules, ◌≡◌, ◌-◌, ◌+◌, [], ◌∷◌, ◌++◌, List, Some, None, sym, ap, ◌∙◌, arith}
use Rattle.std.proofs.lemmas.Grind.{common_steps}
use Rattle.slot_core.specs.declared.TheConstants.{SHOWN_LIMIT}
use Rattle.key_texts.specs.KeyTexts.{cut_at}
use Rattle.trace_lines.specs.declared.line.ShownSpan.{ShownSpan}
use Rattle.trace_lines.specs.Readings.{span_of, spans_within}
use Rattle.trace_lines.proofs.SpanReads.{behind, behind-none, first_is_none, first_is_some, last_is_none, last_is_some, spans_within-none}
use Rattle.trace_lines.proofs.spans.push_spans.Goals as goal

pub loop-init : goal.loop-init
loop-init c = record { count = search rules; later = search (rules, behind-none (spans_within SHOWN_LIMIT c.args.text.now)) }

pub returns-in_err-span_of-in-Some : goal.returns-in_err-span_of-in-Some
returns-in_err-span_of-in-Some c =
    let cut : cut_at 32 c.loop.rest.now ≡ Some (c.in-Some.span.now, c.in-Some.after.now) = search rules in
    let bad : span_of c.in-Some.span.now ≡ None = search rules in
    let none : spans_within SHOWN_LIMIT c.args.text.now ≡ None = c.loop.invariant.later ∙ first_is_none c.loop.counter c.loop.rest.now c.loop.spans (c.in-Some.span.now, c.in-Some.after.now) (search rules) cut bad in
    rw none (search rules)

pub returns-in_err-span_of-in-None : goal.returns-in_err-span_of-in-None
returns-in_err-span_of-in-None c =
    let cut : cut_at 32 c.loop.rest.now ≡ None = search rules in
    let bad : span_of c.loop.rest.now ≡ None = search rules in
    let none : spans_within SHOWN_LIMIT c.args.text.now ≡ None = c.loop.invariant.later ∙ last_is_none c.loop.counter c.loop.rest.now c.loop.spans (search rules) cut bad in
    rw none (search rules)

pub returns-in-None : goal.returns-in-None
returns-in-None c =
    let cut : cut_at 32 c.loop.rest.now ≡ None = search rules in
    let last : span_of c.loop.rest.now ≡ Some c.in_ok-span_of-in-None.field-0 = search rules in
    let all : spans_within SHOWN_LIMIT c.args.text.now ≡ Some (c.loop.spans ++ c.in_ok-span_of-in-None.field-0 ∷ []) = c.loop.invariant.later ∙ last_is_some c.loop.counter c.loop.rest.now c.loop.spans c.in_ok-span_of-in-None.field-0 (search rules) cut last in
    rw all (ap Some c.push-in-None.ensures)

pub loop-preserved : goal.loop-preserved
loop-preserved c =
    let cut : cut_at 32 c.loop.rest.now ≡ Some (c.in-Some.span.now, c.in-Some.after.now) = search rules in
    let first : span_of c.in-Some.span.now ≡ Some c.in_ok-span_of-in-Some.field-0 = search rules in
    let later = c.loop.invariant.later ∙ first_is_some c.loop.counter c.loop.rest.now c.loop.spans (c.in-Some.span.now, c.in-Some.after.now) c.in_ok-span_of-in-Some.field-0 (search rules) cut first in
    record {
      count = grind (arith, common_steps, c.push.ensures, c.loop.invariant.count);
      later = later ∙ ap (λ (f : List ShownSpan). behind f (spans_within (SHOWN_LIMIT - (c.loop.counter + 1)) c.in-Some.after.now)) (sym c.push.ensures);
    }

pub returns : goal.returns
returns c =
    let all : SHOWN_LIMIT - c.loop.counter ≡ 0 = omega (arith, c.loop-test.false) in
    let none : spans_within SHOWN_LIMIT c.args.text.now ≡ None = c.loop.invariant.later ∙ ap (λ n. behind c.loop.spans (spans_within n c.loop.rest.now)) all ∙ ap (behind c.loop.spans) (spans_within-none c.loop.rest.now) in
    rw none (search rules)

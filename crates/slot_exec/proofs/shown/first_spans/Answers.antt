use Rattle.std.proofs.Common.{◌≡◌, ℕ, ◌+◌, List, [], ◌∷◌, ◌++◌, Some, take, ap, sym, ◌∙◌, arith}
use Rattle.std.specs.Prelude.{slice_get}
use Rattle.std.proofs.lemmas.List.{take_more}
use Rattle.std.proofs.lemmas.Option.{get_or_from_slice_get, slice_get_within}
use Rattle.slot_core.specs.declared.jobs.Span.{Span}
use Rattle.slot_core.specs.Runs.ShownSpans.{ShownSpans}
use Rattle.slot_exec.proofs.shown.first_spans.Goals as goal

-- one span more is shown
shown-more : (spans : List Span) (more i : ℕ) (s : Span) (before after : ShownSpans) → slice_get spans i ≡ Some s → before ≡ record { spans = take i spans; more = more } → after ≡ record before { spans = before.spans ++ s ∷ [] } → after ≡ record { spans = take (i + 1) spans; more = more }
shown-more spans more i s before after at shown pushed =
    let here = get_or_from_slice_get spans i s s at in
    let all = take_more spans i s (slice_get_within spans i s at) ∙ ap (λ x. take i spans ++ x ∷ []) here in
    pushed ∙ (ap (λ (b : ShownSpans). record b { spans = b.spans ++ s ∷ [] }) shown ∙ ap (λ xs. record { spans = xs; more = more }) (sym all))

pub loop-index-preserved : goal.loop-index-preserved
loop-index-preserved g c =
    let spans = g.T.SpareTable.spans c.args.table.now in
    let read = ap (slice_get spans) (sym c.spot.ensures) ∙ c.read.ensures.span in
    record {
      shown = shown-more spans _ c.loop-index.index c.read.result c.loop-index.shown c.push.new.self read c.loop-index.invariant.shown c.push.ensures;
      steps = omega arith;
    }

-- Spans, and their spare capacity as the least slack (Fohler 1995; Isovic and Fohler 2000).
use Rattle.std.specs.Prelude.{ℕ, ◌+◌, ◌-◌, ℤ, pos, ◌-ℤ◌, List, [], ◌∷◌, fold, length, take}
use Rattle.std.specs.Int.{int_min}
use Rattle.std.specs.List.{range_with_len}
use Rattle.slot_core.specs.declared.TheConstants.{SHOWN_LIMIT}
use Rattle.slot_core.specs.declared.jobs.Job.{Job}
use Rattle.slot_core.specs.declared.jobs.Span.{Span}
use Rattle.slot_core.specs.Runs.ShownSpans.{ShownSpans}
use Rattle.slot_core.specs.Runs.Scenes.{Scene, horizon}
use Rattle.slot_core.specs.Runs.Demand.{work_between}

-- the least of f over the numbers from a to b
abbrev pub least : (ℕ → ℤ) → ℕ → ℕ → ℤ
least f a b = fold (λ best x. int_min best (f x)) (f a) (range_with_len (a + 1) (b - a))

-- the slack of the stretch from s to x: its length less the work due in it
abbrev pub slack : List Job → ℕ → ℕ → ℤ
slack jobs s x = pos (x - s) -ℤ pos (work_between jobs s x)

-- the spare capacity of the span [s, e): the least slack of a stretch from s that ends at e or
-- later, up to the horizon
abbrev pub spare_capacity : List Job → ℕ → ℕ → ℕ → ℤ
spare_capacity jobs end s e = least (slack jobs s) e end

-- the span [s, e), with the work due in it
abbrev pub span_at : List Job → ℕ → ℕ → ℕ → Span
span_at jobs end s e = record {
  start = s;
  end = e;
  work = work_between jobs s e;
  spare = spare_capacity jobs end s e;
}

-- the spans between neighbouring points, the first from s
abbrev pub spans_between : List Job → ℕ → ℕ → List ℕ → List Span
spans_between jobs end s [] = []
spans_between jobs end s (e ∷ points) =
    span_at jobs end s e ∷ spans_between jobs end e points

-- the spans of a scene
abbrev pub spans_of : ℕ → Scene → List Span
spans_of cycle scene = spans_between scene.jobs (horizon cycle scene.time) scene.time scene.points

-- the first spans, as many as an entry shows or all, and the number of the others
abbrev pub shown_of : ℕ → Scene → ShownSpans
shown_of cycle scene =
    let points = take SHOWN_LIMIT scene.points in
    record {
      spans = spans_between scene.jobs (horizon cycle scene.time) scene.time points;
      more = length scene.points - SHOWN_LIMIT;
    }

-- The laws of a chart as a taker: marks of runs and then of others are the marks of all.
use Rattle.std.specs.Prelude.{◌≡◌, ℕ, ◌+◌, Bool, true, false, ◌||◌, ◌&&◌, ◌==◌, cond, List, [], ◌∷◌, ◌++◌, map, refl}
use Rattle.std.proofs.Common.{ap, ap₂, sym, ◌∙◌}
use Rattle.std.proofs.lemmas.Grind.{flat_map-append}
use Rattle.std.proofs.lemmas.List.Folds.{list_any-append}
use Rattle.slot_core.specs.declared.jobs.Key.{Key}
use Rattle.slot_core.specs.declared.events.Entry.{Entry}
use Rattle.slot_core.specs.Output.Charts.{ChartRow, is_in_row, run_at, runs_of}
use Rattle.gantt_print.specs.Drawings.{Drawing, MarkedRow, drawing_with, has_run, marks_with, with_runs}

-- no runs mark nothing
marks_with-none : (row : ChartRow) (u : ℕ) (marks : List ℕ) → marks_with [] row u marks ≡ marks
marks_with-none row u [] = refl
marks_with-none row u (m ∷ marks) = ap (λ ms. m ∷ ms) (marks_with-none row (u + 1) marks)

rows-none : (rows : List MarkedRow) → map (with_runs []) rows ≡ rows
rows-none [] = refl
rows-none (r ∷ rows) =
    ap₂
    (λ (ms : List ℕ) (xs : List MarkedRow). record r { marks = ms } ∷ xs)
    (marks_with-none r.row 0 r.marks)
    (rows-none rows)

pub drawing_with-none : (drawing : Drawing) → drawing ≡ drawing_with [] drawing
drawing_with-none drawing =
    ap (λ rows. record drawing { rows = rows }) (sym (rows-none drawing.rows))

-- a mark for either of two runs
mark-either : (a b : Bool) (mark : ℕ) → cond (a || b) 35 mark ≡ cond b 35 (cond a 35 mark)
mark-either true true mark = refl
mark-either true false mark = refl
mark-either false b mark = refl

-- runs and then others
marks_with-more :
    (xs ys : List (ℕ × Key)) (row : ChartRow) (u : ℕ) (marks : List ℕ)
    → marks_with (xs ++ ys) row u marks ≡ marks_with ys row u (marks_with xs row u marks)
marks_with-more xs ys row u [] = refl
marks_with-more xs ys row u (m ∷ marks) =
    let at : has_run (xs ++ ys) row u ≡ has_run xs row u || has_run ys row u =
    list_any-append (λ (r : ℕ × Key). r.0 == u && is_in_row row r.1) xs ys in
    ap₂
    (λ (x : ℕ) (ms : List ℕ). x ∷ ms)
    (ap (λ b. cond b 35 m) at ∙ mark-either (has_run xs row u) (has_run ys row u) m)
    (marks_with-more xs ys row (u + 1) marks)

rows-more :
    (xs ys : List (ℕ × Key)) (rows : List MarkedRow)
    → map (with_runs (xs ++ ys)) rows ≡ map (with_runs ys) (map (with_runs xs) rows)
rows-more xs ys [] = refl
rows-more xs ys (r ∷ rows) =
    ap₂
    (λ (ms : List ℕ) (rs : List MarkedRow). record r { marks = ms } ∷ rs)
    (marks_with-more xs ys r.row 0 r.marks)
    (rows-more xs ys rows)

pub drawing_with-more :
    (a b c : Drawing) (es fs : List Entry)
    → b ≡ drawing_with (runs_of es) a → c ≡ drawing_with (runs_of fs) b
    → c ≡ drawing_with (runs_of (es ++ fs)) a
drawing_with-more a b c es fs first then_ =
    let all = flat_map-append (λ (e : Entry). run_at e.time e.what) es fs in
    then_
    ∙ ap (drawing_with (runs_of fs)) first
    ∙ ap (λ rows. record a { rows = rows }) (sym (rows-more (runs_of es) (runs_of fs) a.rows))
    ∙ ap (λ runs. drawing_with runs a) (sym all)

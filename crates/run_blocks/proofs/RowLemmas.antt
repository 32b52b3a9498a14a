-- Rows of the jobs of runs, one run more.
use Rattle.std.proofs.Common.{◌≡◌, ℕ, suc, ◌<◌, Bool, true, false, not, List, [], ◌∷◌, ◌++◌, length, Option, Some, None, refl, sym, ap, subst, ◌∙◌, inl, inr}
use Rattle.std.specs.Prelude.{position, slice_get}
use Rattle.std.specs.List.{list_all, list_any}
use Rattle.std.specs.List.Sorted.{IsPermutation}
use Rattle.std.specs.Option.{unwrap_or}
use Rattle.std.proofs.lemmas.Bool.{and_parts, and_from, cases_Bool, or_left, or_right, false≢true}
use Rattle.std.proofs.lemmas.List.Folds.{list_any-append, list_all-append}
use Rattle.std.proofs.lemmas.List.Sorted.{list_any-IsPermutation}
use Rattle.std.proofs.lemmas.Option.{slice_get_within}
use Rattle.key_texts.proofs.PlaceLemmas.{position-Some, position-None}
use Rattle.trace_lines.specs.declared.line.KeyName.{KeyName}
use Rattle.run_blocks.specs.declared.rows.Row.{Row}
use Rattle.run_blocks.specs.Rows.{are_run, AreRowsSoFar, has_row, have_rows, IsOneRowMore, may_stand, row_at, row_holds, row_of}
use Rattle.run_blocks.proofs.DistinctRows.{AreDistinct-more, AreDistinct-none, row_of-holds, row_of-stands}

-- a job that has a row has a place
pub row_at-within : (rows : List Row) (key : KeyName) → has_row rows key ≡ true → row_at rows key < length rows
row_at-within rows key held = by_place (position (λ row. row_holds row key) rows) refl
  where
    fails : (rows : List Row) → ((i : ℕ) (x : Row) → slice_get rows i ≡ Some x → row_holds x key ≡ false) → has_row rows key ≡ false
    fails [] none = refl
    fails (row ∷ rows) none = rw (none 0 row refl) (fails rows (λ i x at. none (suc i) x at))

    by_place : (o : Option ℕ) → position (λ row. row_holds row key) rows ≡ o → unwrap_or o (length rows) < length rows
    by_place (Some i) is =
        let (row, at, holds) = position-Some (λ row. row_holds row key) rows i is in
        slice_get_within rows i row at
    by_place None is = absurd (false≢true (sym (fails rows (position-None (λ row. row_holds row key) rows is)) ∙ held))

-- a test of all is that none fails
all-not-any : {X : Type 0} (p : X → Bool) (xs : List X) → list_all p xs ≡ not (list_any (λ x. not (p x)) xs)
all-not-any p [] = refl
all-not-any p (x ∷ xs) = elim (cases_Bool (p x)) [
  | inl pass ↦ rw pass (all-not-any p xs)
  | inr fail ↦ rw fail refl
]

-- a list and its permutation pass a test of all alike
all-permuted : {X : Type 0} (p : X → Bool) (xs ys : List X) → IsPermutation xs ys → list_all p xs ≡ list_all p ys
all-permuted p xs ys permuted =
    all-not-any p xs ∙ ap not (list_any-IsPermutation (λ x. not (p x)) xs ys permuted) ∙ sym (all-not-any p ys)

-- rows of no runs
pub AreRowsSoFar-none : (apart : Bool) → AreRowsSoFar apart [] []
AreRowsSoFar-none apart =
    record { kept = record { held = refl; run = refl; distinct = AreDistinct-none }; stand = refl }

-- jobs that have rows have them where each row stays
held-more : (before after : List Row) (runs : List (ℕ × KeyName)) → ((key : KeyName) → has_row before key ≡ true → has_row after key ≡ true) → have_rows before runs ≡ true → have_rows after runs ≡ true
held-more before after [] stays held = refl
held-more before after (run ∷ runs) stays held =
    let (here, rest) = and_parts (has_row before run.1) (have_rows before runs) held in
    and_from _ _ (stays run.1 here) (held-more before after runs stays rest)

-- rows that hold the job of a run hold it where runs are added
run-more : (rows : List Row) (runs more : List (ℕ × KeyName)) → are_run rows runs ≡ true → are_run rows (runs ++ more) ≡ true
run-more [] runs more run = refl
run-more (row ∷ rows) runs more run =
    let (here, rest) = and_parts (list_any (λ (r : ℕ × KeyName). row_holds row r.1) runs) (are_run rows runs) run in
    let also = list_any-append (λ (r : ℕ × KeyName). row_holds row r.1) runs more ∙ rw here refl in
    and_from _ _ also (run-more rows runs more rest)

-- one run more, of a job that then has a row
pub AreRowsSoFar-more : (apart : Bool) (before after : List Row) (runs : List (ℕ × KeyName)) (time : ℕ) (key : KeyName) → AreRowsSoFar apart before runs → IsOneRowMore apart key before after → AreRowsSoFar apart after (runs ++ (time, key) ∷ [])
AreRowsSoFar-more apart before after runs time key rows more =
    elim (cases_Bool (has_row before key)) [
      | inl there ↦ there_already before after runs time key rows (more.0 there) there
      | inr new ↦ newly before after runs time key rows (more.1 new) new
    ]
  where
    there_already : (before after : List Row) (runs : List (ℕ × KeyName)) (time : ℕ) (key : KeyName) → AreRowsSoFar apart before runs → before ≡ after → has_row before key ≡ true → AreRowsSoFar apart after (runs ++ (time, key) ∷ [])
    there_already before after runs time key rows same there =
        subst
        (λ rs. AreRowsSoFar apart rs (runs ++ (time, key) ∷ []))
        same
        (record {
          kept = record {
            held = list_all-append (λ (r : ℕ × KeyName). has_row before r.1) runs ((time, key) ∷ []) ∙ rw (rows.kept.held, there) refl;
            run = run-more before runs ((time, key) ∷ []) rows.kept.run;
            distinct = rows.kept.distinct;
          };
          stand = rows.stand;
        })

    newly : (before after : List Row) (runs : List (ℕ × KeyName)) (time : ℕ) (key : KeyName) → AreRowsSoFar apart before runs → IsPermutation (row_of apart key ∷ before) after → has_row before key ≡ false → AreRowsSoFar apart after (runs ++ (time, key) ∷ [])
    newly before after runs time key rows permuted new =
        let any = λ (k : KeyName). list_any-IsPermutation (λ row. row_holds row k) (row_of apart key ∷ before) after permuted in
        let own : has_row after key ≡ true = sym (any key) ∙ rw (row_of-holds apart key) refl in
        let stays = λ (k : KeyName) (held : has_row before k ≡ true). sym (any k) ∙ or_right (row_holds (row_of apart key) k) (has_row before k) held in
        let mine : list_any (λ (r : ℕ × KeyName). row_holds (row_of apart key) r.1) (runs ++ (time, key) ∷ []) ≡ true = list_any-append (λ (r : ℕ × KeyName). row_holds (row_of apart key) r.1) runs ((time, key) ∷ []) ∙ or_right _ _ (or_left _ _ (row_of-holds apart key)) in
        record {
          kept = record {
            held = list_all-append (λ (r : ℕ × KeyName). has_row after r.1) runs ((time, key) ∷ []) ∙ rw (held-more before after runs stays rows.kept.held, own) refl;
            run = sym (all-permuted (λ row. list_any (λ (r : ℕ × KeyName). row_holds row r.1) (runs ++ (time, key) ∷ [])) (row_of apart key ∷ before) after permuted) ∙ and_from _ _ mine (run-more before runs ((time, key) ∷ []) rows.kept.run);
            distinct = AreDistinct-more apart before after key rows.kept.distinct rows.stand new permuted;
          };
          stand = sym (all-permuted (may_stand apart) (row_of apart key ∷ before) after permuted) ∙ and_from _ _ (row_of-stands apart key) rows.stand;
        }

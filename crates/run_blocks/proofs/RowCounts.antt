-- There are no more rows than runs.
use Rattle.std.proofs.Common.{◌≡◌, ℕ, ◌+◌, ◌≤◌, Bool, true, false, ◌||◌, List, [], ◌∷◌, cond, length, refl, arith}
use Rattle.std.specs.Prelude.{count_by}
use Rattle.std.specs.List.{list_all, list_any}
use Rattle.std.proofs.lemmas.Bool.{and_parts}
use Rattle.trace_lines.specs.declared.line.KeyName.{KeyName}
use Rattle.run_blocks.specs.declared.rows.Row.{Row}
use Rattle.run_blocks.specs.Rows.{AreDistinct, AreRowsOf, row_holds}
use Rattle.run_blocks.proofs.DistinctRows.{count_by-cons}

-- no item passes a test that none passes
none-pass : {X : Type 0} (xs : List X) → count_by (λ (x : X). false) xs ≡ 0
none-pass [] = refl
none-pass (x ∷ xs) =
    let first = count_by-cons (λ y. false) x xs in
    let more = none-pass xs in
    omega (arith, first, more)

-- where all pass, all are counted
all-pass : {X : Type 0} (p : X → Bool) (xs : List X) → list_all p xs ≡ true → count_by p xs ≡ length xs
all-pass p [] all = refl
all-pass p (x ∷ xs) all =
    let (here, rest) = and_parts (p x) (list_all p xs) all in
    let first = count_by-cons p x xs in
    let own : ◌≡◌ {A = ℕ} (cond (p x) 1 0) 1 = rw here refl in
    omega (arith, first, own, all-pass p xs rest)

-- one of two tests is passed no more often than each
one-passes : (a b : Bool) → cond (a || b) 1 0 ≤ cond a 1 0 + cond b 1 0
one-passes true true = omega arith
one-passes true false = omega arith
one-passes false true = omega arith
one-passes false false = omega arith

either-passes : {X : Type 0} (p q : X → Bool) (xs : List X) → count_by (λ x. p x || q x) xs ≤ count_by p xs + count_by q xs
either-passes p q [] = omega arith
either-passes p q (x ∷ xs) =
    let either = count_by-cons (λ y. p y || q y) x xs in
    let first = count_by-cons p x xs in
    let second = count_by-cons q x xs in
    omega (arith, either, first, second, one-passes (p x) (q x), either-passes p q xs)

-- of rows of which no job has two, no more hold a job of the runs than there are runs
holders-few : (rows : List Row) (runs : List (ℕ × KeyName)) → AreDistinct rows → count_by (λ row. list_any (λ (run : ℕ × KeyName). row_holds row run.1) runs) rows ≤ length runs
holders-few rows [] distinct =
    let none = none-pass rows in
    omega (arith, none)
holders-few rows (run ∷ runs) distinct =
    let both = either-passes (λ row. row_holds row run.1) (λ row. list_any (λ (r : ℕ × KeyName). row_holds row r.1) runs) rows in
    omega (arith, both, distinct run.1, holders-few rows runs distinct)

-- rows of the jobs of runs are at most as many as the runs
pub rows-few : (rows : List Row) (runs : List (ℕ × KeyName)) → AreRowsOf rows runs → length rows ≤ length runs
rows-few rows runs own =
    let all = all-pass (λ row. list_any (λ (run : ℕ × KeyName). row_holds row run.1) runs) rows own.run in
    omega (arith, all, holders-few rows runs own.distinct)

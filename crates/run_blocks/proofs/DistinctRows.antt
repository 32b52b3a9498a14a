-- No job has two rows, and the row that holds it is the first that does.
use Rattle.std.proofs.Common.{◌≡◌, ℕ, zero, suc, ◌+◌, ◌≤◌, ◌==◌, Bool, true, false, ◌&&◌, List, [], ◌∷◌, length, Option, Some, None, refl, sym, ap, ◌∙◌, inl, inr, arith, cond}
use Rattle.std.specs.Prelude.{position, slice_get, count_by}
use Rattle.std.specs.List.{list_any}
use Rattle.std.specs.List.Sorted.{IsPermutation}
use Rattle.std.specs.Option.{option_map_or, unwrap_or}
use Rattle.std.specs.Str.{bytes_eq}
use Rattle.std.proofs.lemmas.Bool.{and_parts, and_from, or_parts, cases_Bool, cond-true, cond-false, eq-eqb, eqb-true, ne_eqb, false≢true}
use Rattle.std.proofs.lemmas.List.Sorted.{sum_by-IsPermutation}
use Rattle.std.proofs.lemmas.List.Sums.{sum_by-cons}
use Rattle.key_texts.proofs.NameLemmas.{bytes_eq-same, same-from_bytes_eq}
use Rattle.key_texts.proofs.PlaceLemmas.{position-None, position-Some}
use Rattle.trace_lines.specs.declared.line.KeyName.{KeyName}
use Rattle.trace_lines.specs.declared.line.KeyName.TheVariants.{Offline, Sporadic as SporadicKey, Firm as FirmKey, Soft as SoftKey}
use Rattle.run_blocks.specs.declared.rows.Row.{Row}
use Rattle.run_blocks.specs.declared.rows.Row.TheVariants.{Task, Sporadic, FirmJob, Firm, Soft}
use Rattle.run_blocks.specs.Rows.{AreDistinct, has_row, row_holds_at, may_all_stand, may_stand, row_at, row_holds, row_of}

-- tasks of the same names have one row
same_task : (graph task g t : List ℕ) → bytes_eq graph g && bytes_eq task t ≡ true → Task graph task ≡ Task g t
same_task graph task g t holds =
    let (graphs, tasks) = and_parts (bytes_eq graph g) (bytes_eq task t) holds in
    ap (λ n. Task n task) (same-from_bytes_eq graph g graphs) ∙ ap (Task g) (same-from_bytes_eq task t tasks)

-- a row that may stand and holds a job is the row that the key of the job asks for
row-asked : (apart : Bool) (row : Row) (key : KeyName) → may_stand apart row ≡ true → row_holds row key ≡ true → row ≡ row_of apart key
row-asked true (Task graph task) (Offline g t i) stand holds = same_task graph task g t holds
row-asked false (Task graph task) (Offline g t i) stand holds = same_task graph task g t holds
row-asked true (Sporadic name) (SporadicKey n i) stand holds = ap Sporadic (same-from_bytes_eq name n holds)
row-asked false (Sporadic name) (SporadicKey n i) stand holds = ap Sporadic (same-from_bytes_eq name n holds)
row-asked true (FirmJob row) (FirmKey r) stand holds = ap FirmJob (eqb-true row r holds)
row-asked false (FirmJob row) (FirmKey r) stand holds = cc
row-asked true Firm (FirmKey r) stand holds = cc
row-asked false Firm (FirmKey r) stand holds = refl
row-asked true Soft (SoftKey r) stand holds = refl
row-asked false Soft (SoftKey r) stand holds = refl
row-asked true row key stand holds = cc
row-asked false row key stand holds = cc

-- the row that a key asks for holds its job
pub row_of-holds : (apart : Bool) (key : KeyName) → row_holds (row_of apart key) key ≡ true
row_of-holds true (Offline graph task instance) = and_from _ _ (bytes_eq-same graph) (bytes_eq-same task)
row_of-holds false (Offline graph task instance) = and_from _ _ (bytes_eq-same graph) (bytes_eq-same task)
row_of-holds true (SporadicKey name row) = bytes_eq-same name
row_of-holds false (SporadicKey name row) = bytes_eq-same name
row_of-holds true (FirmKey row) = eq-eqb row row refl
row_of-holds false (FirmKey row) = refl
row_of-holds true (SoftKey row) = refl
row_of-holds false (SoftKey row) = refl

-- the row of a key may stand
pub row_of-stands : (apart : Bool) (key : KeyName) → may_stand apart (row_of apart key) ≡ true
row_of-stands true (Offline graph task instance) = refl
row_of-stands true (SporadicKey name row) = refl
row_of-stands true (FirmKey row) = refl
row_of-stands true (SoftKey row) = refl
row_of-stands false (Offline graph task instance) = refl
row_of-stands false (SporadicKey name row) = refl
row_of-stands false (FirmKey row) = refl
row_of-stands false (SoftKey row) = refl

-- of a row that may stand and the row of a key, which hold one job, that row holds the job of the key
held_alike : (apart : Bool) (row : Row) (key other : KeyName) → may_stand apart row ≡ true → row_holds (row_of apart key) other ≡ true → row_holds row other ≡ true → row_holds row key ≡ true
held_alike apart row key other stand mine its =
    let own = row-asked apart (row_of apart key) other (row_of-stands apart key) mine in
    let same = row-asked apart row other stand its ∙ sym own in
    ap (λ r. row_holds r key) same ∙ row_of-holds apart key

-- one more of a list is counted
pub count_by-cons : {X : Type 0} (p : X → Bool) (x : X) (xs : List X) → count_by p (x ∷ xs) ≡ cond (p x) 1 0 + count_by p xs
count_by-cons p x xs = sum_by-cons (λ y. cond (p y) 1 0) x xs

-- where no row holds the job of a key, none holds a job that the row of the key would hold
none_holds : (apart : Bool) (key other : KeyName) (rows : List Row) → may_all_stand apart rows ≡ true → has_row rows key ≡ false → row_holds (row_of apart key) other ≡ true → count_by (λ row. row_holds row other) rows ≡ 0
none_holds apart key other [] stand new mine = refl
none_holds apart key other (row ∷ rows) stand new mine =
    let (here, rest) = and_parts (may_stand apart row) (may_all_stand apart rows) stand in
    let (fails, later) = or_parts (row_holds row key) (has_row rows key) new in
    let none = none_holds apart key other rows rest later mine in
    let count = count_by-cons (λ r. row_holds r other) row rows in
    elim (cases_Bool (row_holds row other)) [
      | inl its ↦ absurd (false≢true (sym fails ∙ held_alike apart row key other here mine its))
      | inr not_its ↦ omega (arith, none, count, cond-false {A = ℕ} (row_holds row other) 1 0 not_its)
    ]

-- no rows are distinct
pub AreDistinct-none : AreDistinct []
AreDistinct-none key = omega arith

-- distinct rows, and the row of a key whose job has none
pub AreDistinct-more : (apart : Bool) (before after : List Row) (key : KeyName) → AreDistinct before → may_all_stand apart before ≡ true → has_row before key ≡ false → IsPermutation (row_of apart key ∷ before) after → AreDistinct after
AreDistinct-more apart before after key distinct stand new permuted other =
    let holds = λ (row : Row). row_holds row other in
    let same = sum_by-IsPermutation (λ row. cond (row_holds row other) 1 0) (row_of apart key ∷ before) after permuted in
    let count = count_by-cons holds (row_of apart key) before in
    elim (cases_Bool (row_holds (row_of apart key) other)) [
      | inl mine ↦
          omega (arith, same, count, none_holds apart key other before stand new mine, cond-true {A = ℕ} (row_holds (row_of apart key) other) 1 0 mine)
      | inr not_mine ↦
          omega (arith, same, count, distinct other, cond-false {A = ℕ} (row_holds (row_of apart key) other) 1 0 not_mine)
    ]

-- what passes at some place is counted
counted : {X : Type 0} (p : X → Bool) (xs : List X) (i : ℕ) (x : X) → slice_get xs i ≡ Some x → p x ≡ true → 1 ≤ count_by p xs
counted p [] i x at pass = absurd (cc at)
counted p (y ∷ ys) zero x at pass =
    let same : y ≡ x = cc at in
    omega (arith, count_by-cons p y ys, cond-true {A = ℕ} (p y) 1 0 (ap p same ∙ pass))
counted p (y ∷ ys) (suc i) x at pass = omega (arith, count_by-cons p y ys, counted p ys i x at pass)

-- where at most one passes, two that pass stand at one place
one_place : {X : Type 0} (p : X → Bool) (xs : List X) (i j : ℕ) (x y : X) → count_by p xs ≤ 1 → slice_get xs i ≡ Some x → p x ≡ true → slice_get xs j ≡ Some y → p y ≡ true → i ≡ j
one_place p [] i j x y one at pass there also = absurd (cc at)
one_place p (z ∷ zs) zero zero x y one at pass there also = refl
one_place p (z ∷ zs) zero (suc j) x y one at pass there also =
    let same : z ≡ x = cc at in
    absurd (omega (arith, one, count_by-cons p z zs, cond-true {A = ℕ} (p z) 1 0 (ap p same ∙ pass), counted p zs j y there also))
one_place p (z ∷ zs) (suc i) zero x y one at pass there also =
    let same : z ≡ y = cc there in
    absurd (omega (arith, one, count_by-cons p z zs, cond-true {A = ℕ} (p z) 1 0 (ap p same ∙ also), counted p zs i x at pass))
one_place p (z ∷ zs) (suc i) (suc j) x y one at pass there also =
    ap suc (one_place p zs i j x y (omega (arith, one, count_by-cons p z zs)) at pass there also)

-- where one passes, what stands at a place passes if and only if that is the first such place
only_place : {X : Type 0} (p : X → Bool) (xs : List X) (i : ℕ) → list_any p xs ≡ true → count_by p xs ≤ 1 → option_map_or p (slice_get xs i) false ≡ (i == unwrap_or (position p xs) (length xs))
only_place {X} p xs i some one = by_place (position p xs) refl
  where
    at_place : (k : ℕ) (x : X) → slice_get xs k ≡ Some x → p x ≡ true → (o : Option X) → slice_get xs i ≡ o → option_map_or p o false ≡ (i == k)
    at_place k x there pass None at = sym (ne_eqb i k (λ same. cc (sym at ∙ ap (slice_get xs) same ∙ there)))
    at_place k x there pass (Some y) at =
        elim (cases_Bool (p y)) [
          | inl also ↦ also ∙ sym (eq-eqb i k (one_place p xs i k y x one at also there pass))
          | inr fails ↦ fails ∙ sym (ne_eqb i k (λ same. fails_here x y fails pass (sym at ∙ ap (slice_get xs) same ∙ there)))
        ]
      where
        fails_here : (x y : X) → p y ≡ false → p x ≡ true → Some y ≡ Some x → ⊥
        fails_here x y fails pass same = false≢true (sym fails ∙ ap p (cc same) ∙ pass)

    by_place : (o : Option ℕ) → position p xs ≡ o → option_map_or p (slice_get xs i) false ≡ (i == unwrap_or o (length xs))
    by_place (Some k) is =
        let (x, there, pass) = position-Some p xs k is in
        at_place k x there pass (slice_get xs i) refl
    by_place None is = absurd (false≢true (sym (none_pass xs (position-None p xs is)) ∙ some))
      where
        none_pass : (ys : List X) → ((j : ℕ) (x : X) → slice_get ys j ≡ Some x → p x ≡ false) → list_any p ys ≡ false
        none_pass [] none = refl
        none_pass (y ∷ ys) none = rw (none 0 y refl) (none_pass ys (λ j x at. none (suc j) x at))

-- of distinct rows that one holds the job which is the first that does
pub row_holds_at-first : (rows : List Row) (key : KeyName) (place : ℕ) → AreDistinct rows → has_row rows key ≡ true → row_holds_at rows place key ≡ (place == row_at rows key)
row_holds_at-first rows key place distinct held =
    only_place (λ row. row_holds row key) rows place held (distinct key)

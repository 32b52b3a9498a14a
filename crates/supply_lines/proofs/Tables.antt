-- The table of a supply, and its lines.
use Rattle.std.proofs.Common.{◌≡◌, ℕ, zero, suc, ◌+◌, ◌-◌, ◌<◌, ◌≤◌, Bool, true, false, List, [], ◌∷◌, ◌++◌, length, map, take, get_or, refl, sym, ap, append-nil, append_assoc, ◌∙◌, arith}
use Rattle.std.specs.Prelude.{filter, flat_map}
use Rattle.std.specs.List.{AllByRecursion, range_with_len}
use Rattle.std.specs.Option.{option_map_or}
use Rattle.std.proofs.lemmas.Grind.{flat_map-append}
use Rattle.std.proofs.lemmas.List.{take_more}
use Rattle.std.proofs.lemmas.List.FromFn.{get_or-map-range_with_len, length-map-range_with_len}
use Rattle.std.proofs.lemmas.Option.{slice_get-get_or}
use Rattle.slot_core.specs.declared.tasks.TaskSet.{TaskSet}
use Rattle.slot_core.specs.Sets.Cycles.{cycle_of}
use Rattle.supply_find.specs.declared.supply.Supply.{Supply}
use Rattle.supply_find.specs.Found.{supplies_of, supply_of, supply_slots}
use Rattle.supply_find.specs.Stairs.{is_flat_end, slots_of}
use Rattle.supply_lines.specs.Lines.{ends_of, line_in, line_of, supply_text}

-- the table has an entry for each number of slots from 0 to the cycle
pub table-length : (set : TaskSet) (table : List Supply) → table ≡ supplies_of set → length table ≡ cycle_of set + 1
table-length set table is = ap length is ∙ length-map-range_with_len (supply_of set) 0 (cycle_of set + 1)

pub table-at : (set : TaskSet) (table : List Supply) (k : ℕ) (d : Supply) → table ≡ supplies_of set → k ≤ cycle_of set → get_or table k d ≡ supply_of set k
table-at set table k d is near =
    ap (λ xs. get_or xs k d) is
    ∙ get_or-map-range_with_len (supply_of set) 0 (cycle_of set + 1) k k d (omega (arith, near)) (omega arith)

-- the line in a table is that of its entry
pub line-in : (table : List Supply) (k : ℕ) (d : Supply) → k < length table → line_in table k ≡ line_of (k, get_or table k d)
line-in table k d low = ap (λ o. option_map_or (λ s. line_of (k, s)) o []) (slice_get-get_or table k d low)

-- one line more
pub lines-more : (f : ℕ → List ℕ) (old so_far now : List ℕ) (xs : List ℕ) (i d : ℕ) → i < length xs → so_far ≡ old ++ flat_map f (take i xs) → now ≡ so_far ++ f (get_or xs i d) → now ≡ old ++ flat_map f (take (i + 1) xs)
lines-more f old so_far now xs i d low before more =
    let one : flat_map f (get_or xs i d ∷ []) ≡ f (get_or xs i d) = append-nil (f (get_or xs i d)) in
    let all : flat_map f (take (i + 1) xs) ≡ flat_map f (take i xs) ++ f (get_or xs i d) = ap (flat_map f) (take_more xs i d low) ∙ flat_map-append f (take i xs) (get_or xs i d ∷ []) ∙ ap (λ l. flat_map f (take i xs) ++ l) one in
    more ∙ ap (λ l. l ++ f (get_or xs i d)) before ∙ append_assoc old (flat_map f (take i xs)) (f (get_or xs i d)) ∙ ap (λ l. old ++ l) (sym all)

-- the numbers of the table are those of the set
slots-map : (set : TaskSet) (a n : ℕ) → slots_of (map (supply_of set) (range_with_len a n)) ≡ map (supply_slots set) (range_with_len a n)
slots-map set a zero = refl
slots-map set a (suc n) = ap (λ xs. supply_slots set a ∷ xs) (slots-map set (a + 1) n)

pub table-slots : (set : TaskSet) (table : List Supply) → table ≡ supplies_of set → slots_of table ≡ map (supply_slots set) (range_with_len 0 (cycle_of set + 1))
table-slots set table is = ap slots_of is ∙ slots-map set 0 (cycle_of set + 1)

-- the ends are places of the table
step-inside : (p : ℕ → Bool) (high k n : ℕ) (b : Bool) → p k ≡ b → k < high → AllByRecursion (λ k. k < high) (filter p (range_with_len (k + 1) n)) → AllByRecursion (λ k. k < high) (filter p (range_with_len k (suc n)))
step-inside p high k n true is low rest = rw is (low, rest)
step-inside p high k n false is low rest = rw is rest

inside : (p : ℕ → Bool) (high k n : ℕ) → k + n ≡ high → AllByRecursion (λ k. k < high) (filter p (range_with_len k n))
inside p high k zero all = tt
inside p high k (suc n) all = step-inside p high k n (p k) refl (omega (arith, all)) (inside p high (k + 1) n (omega (arith, all)))

pub ends-inside : (set : TaskSet) → AllByRecursion (λ k. k < cycle_of set + 1) (ends_of set)
ends-inside set =
    let numbers = map (supply_slots set) (range_with_len 0 (cycle_of set + 1)) in
    inside (is_flat_end numbers) (cycle_of set + 1) 1 (length numbers - 1) (omega (arith, length-map-range_with_len (supply_slots set) 0 (cycle_of set + 1)))

-- the lines in the table are those of the set
lines-same : (set : TaskSet) (table : List Supply) (ends : List ℕ) → table ≡ supplies_of set → AllByRecursion (λ k. k < cycle_of set + 1) ends → flat_map (line_in table) ends ≡ flat_map line_of (map (λ within. (within, supply_of set within)) ends)
lines-same set table [] is all = refl
lines-same set table (k ∷ ends) is all =
    let long = table-length set table is in
    let d = supply_of set k in
    let one : line_in table k ≡ line_of (k, d) = line-in table k d (omega (arith, long, all.0)) ∙ ap (λ s. line_of (k, s)) (table-at set table k d is (omega (arith, all.0))) in
    let rest = lines-same set table ends is all.1 in
    λ x. one x ++ rest x

pub lines-are : (set : TaskSet) (table : List Supply) → table ≡ supplies_of set → flat_map (line_in table) (ends_of set) ≡ supply_text set
lines-are set table is = lines-same set table (ends_of set) is (ends-inside set)

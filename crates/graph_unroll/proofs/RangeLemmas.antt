-- What the ranges of a task set say.
use Rattle.std.proofs.Common.{◌≡◌, ℕ, ◌+◌, ◌<◌, Bool, true, List, [], ◌∷◌, ◌++◌, length, get_or, sym, ◌∙◌, ap, refl, zero, suc, arith, add-one, zero-add}
use Rattle.std.specs.List.{list_all, range_with_len, flat_map}
use Rattle.std.proofs.lemmas.Bool.{and_parts, and_from, true_from_ne_false, false≢true}
use Rattle.std.proofs.lemmas.List.{flat_map_more}
use Rattle.std.proofs.lemmas.List.Folds.{list_all_at, list_all-map, list_all-append}
use Rattle.std.proofs.lemmas.Grind.{common_steps}
use Rattle.slot_core.specs.declared.TheConstants.{SLOT_LIMIT}
use Rattle.slot_core.specs.declared.tasks.Graph.{Graph}
use Rattle.slot_core.specs.declared.tasks.Sporadic.{Sporadic}
use Rattle.slot_core.specs.declared.tasks.TaskSet.{TaskSet}
use Rattle.slot_core.specs.Sets.Cycles.{cycle_lengths}
use Rattle.slot_core.specs.Sets.Ranges.{is_between, is_in_range, graph_in_range, sporadic_in_range}
use Rattle.slot_facts.proofs.Sets.Ranges.{GraphRanges-from_test, SporadicRanges-from_test, SetRanges-from_test}
use Rattle.graph_unroll.specs.Multiples.{periods_of, separations_of}

-- a test that holds along a list holds at each item
pub list_all_get_or : {X : Type 0} (p : X → Bool) (xs : List X) (i : ℕ) (d : X) → i < length xs → list_all p xs ≡ true → p (get_or xs i d) ≡ true
list_all_get_or p xs i d h all =
    true_from_ne_false (p (get_or xs i d)) (λ no. false≢true (sym (list_all_at p xs i d h no) ∙ all))

list_all-weaker : {X : Type 0} (p q : X → Bool) → ((x : X) → p x ≡ true → q x ≡ true) → (xs : List X) → list_all p xs ≡ true → list_all q xs ≡ true
list_all-weaker p q weaker [] h = refl
list_all-weaker p q weaker (x ∷ xs) h =
    let parts = and_parts (p x) (list_all p xs) h in
    and_from (q x) (list_all q xs) (weaker x parts.0) (list_all-weaker p q weaker xs parts.1)

-- every period and separation of a set in range is
pub lengths_in_range : (set : TaskSet) → is_in_range set ≡ true → list_all (is_between 1 SLOT_LIMIT) (cycle_lengths set) ≡ true
lengths_in_range set h =
    let ranges = SetRanges-from_test set h in
    let period = λ (g : Graph). g.period in
    let separation = λ (s : Sporadic). s.separation in
    let test = is_between 1 SLOT_LIMIT in
    list_all-append test (periods_of set.graphs) (separations_of set.sporadics) ∙ and_from _ _
    (list_all-map test period set.graphs ∙ list_all-weaker graph_in_range (λ g. test (period g)) (λ g in_range. (GraphRanges-from_test g in_range).period) set.graphs ranges.graphs)
    (list_all-map test separation set.sporadics ∙ list_all-weaker sporadic_in_range (λ s. test (separation s)) (λ s in_range. (SporadicRanges-from_test s in_range).separation) set.sporadics ranges.sporadics)

-- one more number at the end of a range
pub range_with_len-push : (a n : ℕ) → range_with_len a (suc n) ≡ range_with_len a n ++ (a + n) ∷ []
range_with_len-push a zero = grind (arith, common_steps)
range_with_len-push a (suc n) =
    let next : a + 1 + n ≡ a + suc n = omega arith in
    ap (λ xs. a ∷ xs) (range_with_len-push (a + 1) n ∙ ap (λ k. range_with_len (a + 1) n ++ k ∷ []) next)

-- what f makes of the numbers below n, and then of n
pub flat_map-range_more : {Y : Type 0} (f : ℕ → List Y) (before old new : List Y) (n k : ℕ) → old ≡ before ++ flat_map f (range_with_len 0 n) → new ≡ old ++ f k → k ≡ n → new ≡ before ++ flat_map f (range_with_len 0 (n + 1))
flat_map-range_more f before old new n k h e same =
    let more = flat_map_more f before (range_with_len 0 n) n in
    let range : range_with_len 0 n ++ n ∷ [] ≡ range_with_len 0 (n + 1) = sym (ap (range_with_len 0) (add-one n) ∙ range_with_len-push 0 n ∙ ap (λ m. range_with_len 0 n ++ m ∷ []) (zero-add n)) in
    e ∙ ap (λ xs. xs ++ f k) h ∙ ap (λ m. (before ++ flat_map f (range_with_len 0 n)) ++ f m) same ∙ more ∙ ap (λ xs. before ++ flat_map f xs) range

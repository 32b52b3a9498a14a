-- What is read of lines, and the bars of it.
use Rattle.std.proofs.Common.{◌≡◌, ℕ, zero, suc, ◌+◌, ◌-◌, ◌≤◌, Bool, true, false, List, [], ◌∷◌, ◌++◌, map, refl, sym, ap, ◌∙◌, append-nil, append_assoc, arith}
use Rattle.std.specs.Prelude.{All, flat_map, nat_le}
use Rattle.std.specs.List.{AllByRecursion, range_with_len}
use Rattle.std.proofs.lemmas.List.Elements.{recursion_from_All}
use Rattle.supply_find.specs.declared.supply.Supply.{Supply}
use Rattle.supply_lines.specs.Lines.{read_at, read_from}
use Rattle.view_stairs.specs.declared.lines.Step.{Step}
use Rattle.view_stairs.specs.Steps.{pair_of}

-- no more is read than a line tells
read-here : (low slots high within most : ℕ) (s : Supply) (rest : List (ℕ × Supply)) (b : Bool) → nat_le within high ≡ b → s.slots ≤ most → (read_from high s.slots rest within ≤ most) → read_from low slots ((high, s) ∷ rest) within ≤ most
read-here low slots high within most s rest true is few later = rw is (omega (arith, few))
read-here low slots high within most s rest false is few later = rw is later

read-from_most : (steps : List Step) (low slots within most : ℕ) → slots ≤ most → AllByRecursion (λ (s : Step). s.supply.slots ≤ most) steps → read_from low slots (map pair_of steps) within ≤ most
read-from_most [] low slots within most few all = few
read-from_most (s ∷ steps) low slots within most few all =
    read-here low slots s.within within most s.supply (map pair_of steps) (nat_le within s.within) refl all.0 (read-from_most steps s.within s.supply.slots within most all.0 all.1)

pub read-most : (steps : List Step) (within most : ℕ) → All (λ (s : Step). s.supply.slots ≤ most) steps → read_at (map pair_of steps) within ≤ most
read-most steps within most all =
    read-from_most steps 0 0 within most (omega arith) (recursion_from_All (λ (s : Step). s.supply.slots ≤ most) steps all)

-- one text more
more : (f : ℕ → List ℕ) (a n : ℕ) → flat_map f (range_with_len a (suc n)) ≡ flat_map f (range_with_len a n) ++ f (a + n)
more f a zero =
    let here : a ≡ a + 0 = omega arith in
    append-nil (f a) ∙ ap f here
more f a (suc n) =
    let here : a + 1 + n ≡ a + suc n = omega arith in
    ap (λ l. f a ++ l) (more f (a + 1) n ∙ ap (λ k. flat_map f (range_with_len (a + 1) n) ++ f k) here)
    ∙ sym (append_assoc (f a) (flat_map f (range_with_len (a + 1) n)) (f (a + suc n)))

pub bars-more : (f : ℕ → List ℕ) (old so_far now : List ℕ) (n : ℕ) → 1 ≤ n → so_far ≡ old ++ flat_map f (range_with_len 1 (n - 1)) → now ≡ so_far ++ f n → now ≡ old ++ flat_map f (range_with_len 1 (n + 1 - 1))
bars-more f old so_far now n some before step =
    let k : ℕ = n - 1 in
    let last : n ≡ 1 + k = omega (arith, some) in
    let next : suc k ≡ n + 1 - 1 = omega (arith, some) in
    step
    ∙ ap (λ l. l ++ f n) before
    ∙ append_assoc old (flat_map f (range_with_len 1 k)) (f n)
    ∙ ap (λ m. old ++ (flat_map f (range_with_len 1 k) ++ f m)) last
    ∙ ap (λ l. old ++ l) (sym (more f 1 k))
    ∙ ap (λ m. old ++ flat_map f (range_with_len 1 m)) next

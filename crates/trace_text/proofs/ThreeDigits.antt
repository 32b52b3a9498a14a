-- The table of the digits of numbers below 1000, and what it tells of a number.
use Rattle.std.proofs.Common.{◌≡◌, ℕ, zero, suc, ◌+◌, ◌-◌, ◌*◌, ◌/◌, ◌%◌, ◌<◌, ◌≤◌, Bool, true, ◌&&◌, T, eqb, List, [], ◌∷◌, ◌++◌, length, take, drop, decimal, refl, sym, ap, ◌∙◌, inl, inr, arith, eqb→eq}
use lib.Ieee.Fits.{and_l, and_r}
use Rattle.std.proofs.lemmas.Bool.{cases_lt}
use Rattle.std.proofs.lemmas.List.{take-take, drop-drop, drop-take}
use Rattle.std.proofs.lemmas.Fmt.{decimal_digit, decimal_step}
use Rattle.trace_text.specs.Threes.{block_of, three_digits, zeros_before}
use Rattle.trace_text.specs.declared.threes.TheConstants.{THREES}

-- these four bytes are what the table has of a number
abbrev is_row : ℕ → ℕ → ℕ → ℕ → ℕ → Bool
is_row n a b c d = (eqb a (48 + n / 100) && eqb b (48 + n / 10 % 10)) && (eqb c (48 + n % 10) && eqb d (48 + zeros_before n))

-- from this number on, the bytes are what the table has
abbrev are_rows : ℕ → List ℕ → Bool
are_rows n (a ∷ b ∷ c ∷ d ∷ rest) = is_row n a b c d && are_rows (suc n) rest
are_rows n rest = true

row-same : (n a b c d : ℕ) → T (is_row n a b c d) → a ∷ b ∷ c ∷ d ∷ [] ≡ block_of n
row-same n a b c d is =
    let x = 48 + n / 100 in
    let y = 48 + n / 10 % 10 in
    let z = 48 + n % 10 in
    let first = and_l (eqb a x && eqb b y) (eqb c z && eqb d (48 + zeros_before n)) is in
    let second = and_r (eqb a x && eqb b y) (eqb c z && eqb d (48 + zeros_before n)) is in
    ap (λ v. v ∷ b ∷ c ∷ d ∷ []) (eqb→eq a x (and_l (eqb a x) (eqb b y) first))
    ∙ ap (λ v. x ∷ v ∷ c ∷ d ∷ []) (eqb→eq b y (and_r (eqb a x) (eqb b y) first))
    ∙ ap (λ v. x ∷ y ∷ v ∷ d ∷ []) (eqb→eq c z (and_l (eqb c z) (eqb d (48 + zeros_before n)) second))
    ∙ ap (λ v. x ∷ y ∷ z ∷ v ∷ []) (eqb→eq d (48 + zeros_before n) (and_r (eqb c z) (eqb d (48 + zeros_before n)) second))

row-at : (n k : ℕ) (xs : List ℕ) → T (are_rows n xs) → 4 * k + 4 ≤ length xs → take 4 (drop (4 * k) xs) ≡ block_of (n + k)
row-at n k [] is within = absurd (omega arith)
row-at n k (a ∷ []) is within = absurd (omega arith)
row-at n k (a ∷ b ∷ []) is within = absurd (omega arith)
row-at n k (a ∷ b ∷ c ∷ []) is within = absurd (omega arith)
row-at n zero (a ∷ b ∷ c ∷ d ∷ rest) is within =
    let same : n ≡ n + 0 = omega arith in
    row-same n a b c d (and_l (is_row n a b c d) _ is) ∙ ap block_of same
row-at n (suc k) (a ∷ b ∷ c ∷ d ∷ rest) is within =
    let place : 4 * suc k ≡ suc (suc (suc (suc (4 * k)))) = omega arith in
    let same : suc n + k ≡ n + suc k = omega arith in
    ap (λ m. take 4 (drop m (a ∷ b ∷ c ∷ d ∷ rest))) place
    ∙ row-at (suc n) k rest (and_r (is_row n a b c d) _ is) (omega (arith, within))
    ∙ ap block_of same

-- the table has each number below 1000
pub table-row : (n : ℕ) → n < 1000 → take 4 (drop (4 * n) THREES) ≡ block_of n
table-row n below =
    let full : length THREES ≡ 4000 = refl in
    let same : 0 + n ≡ n = omega arith in
    row-at 0 n THREES tt (omega (arith, full)) ∙ ap block_of same

-- the digits after the zeros are those of the number
pub told-digits : (n : ℕ) → n < 1000 → drop (zeros_before n) (three_digits n) ≡ decimal n
told-digits n below = elim (cases_lt n 10) [
  | inl one ↦
      let none : zeros_before n ≡ 2 = omega (arith, one) in
      let ones : n % 10 ≡ n = omega (arith, one) in
      ap (λ k. drop k (three_digits n)) none ∙ ap (λ d. (48 + d) ∷ []) ones ∙ sym (decimal_digit n one)
  | inr from ↦ elim (cases_lt n 100) [
    | inl two ↦
        let none : zeros_before n ≡ 1 = omega (arith, from, two) in
        let tens : n / 10 % 10 ≡ n / 10 = omega (arith, two) in
        let high : n / 10 < 10 = omega (arith, two) in
        ap (λ k. drop k (three_digits n)) none
        ∙ ap (λ d. (48 + d) ∷ (48 + n % 10) ∷ []) tens
        ∙ ap (λ xs. xs ++ (48 + n % 10) ∷ []) (sym (decimal_digit (n / 10) high))
        ∙ sym (decimal_step n from (omega (arith, two)))
    | inr three ↦
        let none : zeros_before n ≡ 0 = omega (arith, three, below) in
        let high : n / 10 / 10 < 10 = omega (arith, below) in
        let hundreds : n / 100 ≡ n / 10 / 10 = omega arith in
        ap (λ k. drop k (three_digits n)) none
        ∙ ap (λ d. (48 + d) ∷ (48 + n / 10 % 10) ∷ (48 + n % 10) ∷ []) hundreds
        ∙ ap (λ xs. (xs ++ (48 + n / 10 % 10) ∷ []) ++ (48 + n % 10) ∷ []) (sym (decimal_digit (n / 10 / 10) high))
        ∙ ap (λ xs. xs ++ (48 + n % 10) ∷ []) (sym (decimal_step (n / 10) (omega (arith, three)) (omega (arith, below))))
        ∙ sym (decimal_step n from (omega (arith, below)))
  ]
]

joined : (front : List ℕ) (a b c : ℕ) → ((front ++ a ∷ []) ++ b ∷ []) ++ c ∷ [] ≡ front ++ a ∷ b ∷ c ∷ []
joined [] a b c = refl
joined (x ∷ front) a b c = ap (λ xs. x ∷ xs) (joined front a b c)

-- a number from 1000 on has the digits of its thousands and three more
pub thousands : (n : ℕ) → 1000 ≤ n → n < 1000000 → decimal n ≡ decimal (n / 1000) ++ three_digits (n % 1000)
thousands n from below =
    let ones = decimal_step n (omega (arith, from)) (omega (arith, below)) in
    let tens = decimal_step (n / 10) (omega (arith, from)) (omega (arith, below)) in
    let hundreds = decimal_step (n / 10 / 10) (omega (arith, from)) (omega (arith, below)) in
    let high : n / 10 / 10 / 10 ≡ n / 1000 = omega arith in
    let a : n / 10 / 10 % 10 ≡ n % 1000 / 100 = omega arith in
    let b : n / 10 % 10 ≡ n % 1000 / 10 % 10 = omega arith in
    let c : n % 10 ≡ n % 1000 % 10 = omega arith in
    let front = decimal (n / 1000) in
    ones
    ∙ ap (λ xs. xs ++ (48 + n % 10) ∷ []) (tens ∙ ap (λ xs. xs ++ (48 + n / 10 % 10) ∷ []) hundreds)
    ∙ joined (decimal (n / 10 / 10 / 10)) (48 + n / 10 / 10 % 10) (48 + n / 10 % 10) (48 + n % 10)
    ∙ ap (λ k. decimal k ++ (48 + n / 10 / 10 % 10) ∷ (48 + n / 10 % 10) ∷ (48 + n % 10) ∷ []) high
    ∙ ap (λ d. front ++ (48 + d) ∷ (48 + n / 10 % 10) ∷ (48 + n % 10) ∷ []) a
    ∙ ap (λ d. front ++ (48 + n % 1000 / 100) ∷ (48 + d) ∷ (48 + n % 10) ∷ []) b
    ∙ ap (λ d. front ++ (48 + n % 1000 / 100) ∷ (48 + n % 1000 / 10 % 10) ∷ (48 + d) ∷ []) c

-- in the table these digits stand where its zeros end
pub short-text : (n : ℕ) → n < 1000 → take (3 - zeros_before n) (take 4 (drop (4 * n + zeros_before n) THREES)) ≡ decimal n
short-text n below =
    let z = zeros_before n in
    let row = drop (4 * n) THREES in
    let all : z + (3 - z) ≡ 3 = omega arith in
    let three : take 3 row ≡ three_digits n = sym (take-take 3 4 row (omega arith)) ∙ ap (take 3) (table-row n below) in
    take-take (3 - z) 4 (drop (4 * n + z) THREES) (omega arith)
    ∙ ap (take (3 - z)) (sym (drop-drop z (4 * n) THREES))
    ∙ sym (drop-take z (3 - z) row)
    ∙ ap (λ k. drop z (take k row)) all
    ∙ ap (drop z) three
    ∙ told-digits n below

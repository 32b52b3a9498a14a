-- The items of an array in C, read back.
use Rattle.std.proofs.Common.{◌≡◌, ℕ, ◌+◌, ◌*◌, ◌/◌, ◌%◌, ◌<◌, ◌≤◌, Bool, true, false, List, [], ◌∷◌, ◌++◌, refl, sym, ap, ◌∙◌, arith, append_assoc}
use Rattle.std.specs.Prelude.{codes, flat_map, ◌==◌, nat_lt, if◌then◌else◌}
use Rattle.std.specs.List.{enumerate_from, AllByRecursion}
use Rattle.std.proofs.lemmas.Bool.Decides.{nat_tests}
use Rattle.plan_answers.specs.Headers.{hex_digit, digit_value, two_digits, array_bytes, array_text, break_text, byte_text, item_text}

-- a digit is read as its number, and is no x
digit-read : (n : ℕ) → n < 16 → digit_value (hex_digit n) ≡ n
digit-read n low = grind (arith, nat_tests)

digit-apart : (n : ℕ) → n < 16 → (hex_digit n == 120) ≡ false
digit-apart n low = grind (arith, nat_tests)

-- a byte that is no x is passed
passed : (byte : ℕ) (rest : List ℕ) → (byte == 120) ≡ false → array_bytes (byte ∷ rest) ≡ array_bytes rest
passed byte rest apart = rw apart refl

-- after x two digits are read
byte-read : (byte : ℕ) (rest : List ℕ) → byte < 256 → array_bytes (byte_text byte ++ rest) ≡ byte ∷ array_bytes rest
byte-read byte rest low =
    let high : byte / 16 < 16 = omega arith in
    let rem : byte % 16 < 16 = omega arith in
    let whole : 16 * (byte / 16) + byte % 16 ≡ byte = omega arith in
    let read : 16 * digit_value (hex_digit (byte / 16)) + digit_value (hex_digit (byte % 16)) ≡ byte = omega (arith, digit-read (byte / 16) high, digit-read (byte % 16) rem) in
    let first = passed (hex_digit (byte / 16)) (hex_digit (byte % 16) ∷ codes "," ++ rest) (digit-apart (byte / 16) high) in
    let second = passed (hex_digit (byte % 16)) (codes "," ++ rest) (digit-apart (byte % 16) rem) in
    ap (λ n. n ∷ array_bytes (hex_digit (byte / 16) ∷ hex_digit (byte % 16) ∷ codes "," ++ rest)) read
    ∙ ap (λ bs. byte ∷ bs) (first ∙ second)

-- a line that ends and another that begins are passed
break-passed : (starts : Bool) (rest : List ℕ) → array_bytes ((if starts then codes "\n   " else []) ++ rest) ≡ array_bytes rest
break-passed true rest = refl
break-passed false rest = refl

item-read : (place byte : ℕ) (rest : List ℕ) → byte < 256 → array_bytes (item_text (place, byte) ++ rest) ≡ byte ∷ array_bytes rest
item-read place byte rest low =
    ap array_bytes (append_assoc (break_text place) (byte_text byte) rest)
    ∙ break-passed (place % 12 == 0) (byte_text byte ++ rest)
    ∙ byte-read byte rest low

-- so the items are read as the bytes
items-read : (place : ℕ) (bytes : List ℕ) → AllByRecursion (λ byte. byte < 256) bytes → array_bytes (flat_map item_text (enumerate_from place bytes)) ≡ bytes
items-read place [] small = refl
items-read place (byte ∷ bytes) small =
    item-read place byte (flat_map item_text (enumerate_from (place + 1) bytes)) small.0
    ∙ ap (λ bs. byte ∷ bs) (items-read (place + 1) bytes small.1)

pub array-read : (bytes : List ℕ) → AllByRecursion (λ byte. byte < 256) bytes → array_bytes (array_text bytes) ≡ bytes
array-read bytes small = items-read 0 bytes small

-- The bytes of the texts of a line.
use Rattle.std.proofs.Common.{◌≡◌, ℕ, ◌==◌, ◌≤◌, Bool, true, ◌||◌, List, [], ◌∷◌, ◌++◌, refl, ◌∙◌}
use Rattle.std.specs.Prelude.{decimal}
use Rattle.std.specs.Char.{is_ascii_digit}
use Rattle.std.specs.Int.{is_in_range as is_byte_between}
use Rattle.std.specs.List.{list_all}
use Rattle.std.proofs.lemmas.Bool.{and_parts, and_from}
use Rattle.std.proofs.lemmas.List.Folds.{list_all-append}
use Rattle.slot_core.specs.declared.TheConstants.{NUMBER_LIMIT}
use Rattle.slot_core.specs.Sets.Names.{is_name, is_name_byte}
use Rattle.key_texts.proofs.DigitLemmas.{all_digits}
use Rattle.key_texts.proofs.NameLemmas.{all_name_bytes}

-- a byte of a key or of a span: a byte of a name, or one of `#`, `.`, `:` and `@`
abbrev pub is_key_byte : ℕ → Bool
is_key_byte b = is_name_byte b || b == 35 || b == 46 || b == 58 || b == 64

-- a byte of words: such a byte, or a space
abbrev pub is_word_byte : ℕ → Bool
is_word_byte b = is_key_byte b || b == 32

-- two texts of such bytes, one after the other
pub all-append : (p : ℕ → Bool) (xs ys : List ℕ) → list_all p xs ≡ true → list_all p ys ≡ true → list_all p (xs ++ ys) ≡ true
all-append p xs ys first second = list_all-append p xs ys ∙ rw (first, second) refl

-- a text of bytes of a kind is one of bytes of a wider kind
pub all-wider : (p q : ℕ → Bool) → ((b : ℕ) → p b ≡ true → q b ≡ true) → (xs : List ℕ) → list_all p xs ≡ true → list_all q xs ≡ true
all-wider p q wider [] all = refl
all-wider p q wider (x ∷ xs) all =
    let (here, rest) = and_parts (p x) (list_all p xs) all in
    and_from (q x) (list_all q xs) (wider x here) (all-wider p q wider xs rest)

-- a test that passes passes with others
or_more : (a b c d e : Bool) → a ≡ true → (a || b || c || d || e) ≡ true
or_more a b c d e h = rw h refl

-- a byte of a name is one of a key
name_byte-is_key : (b : ℕ) → is_name_byte b ≡ true → is_key_byte b ≡ true
name_byte-is_key b h = or_more (is_name_byte b) (b == 35) (b == 46) (b == 58) (b == 64) h

-- a digit is one too
digit_byte-is_key : (b : ℕ) → is_ascii_digit b ≡ true → is_key_byte b ≡ true
digit_byte-is_key b h =
    name_byte-is_key b (first_of (is_ascii_digit b) (is_byte_between 65 90 b) (is_byte_between 97 122 b) (b == 95) (b == 45) h)
  where
    first_of : (a d e f g : Bool) → a ≡ true → (((a || d) || e) || f || g) ≡ true
    first_of a d e f g h = rw h refl

-- a name is of bytes of keys
pub name-keys : (name : List ℕ) → is_name name ≡ true → list_all is_key_byte name ≡ true
name-keys name named = all-wider is_name_byte is_key_byte name_byte-is_key name (all_name_bytes name named)

-- so is a number
pub decimal-keys : (n : ℕ) → n ≤ NUMBER_LIMIT → list_all is_key_byte (decimal n) ≡ true
decimal-keys n small = all-wider is_ascii_digit is_key_byte digit_byte-is_key (decimal n) (all_digits n small)

-- bytes of keys are bytes of words
pub keys-words : (text : List ℕ) → list_all is_key_byte text ≡ true → list_all is_word_byte text ≡ true
keys-words text all = all-wider is_key_byte is_word_byte (λ b h. first_of (is_key_byte b) (b == 32) h) text all
  where
    first_of : (a b : Bool) → a ≡ true → (a || b) ≡ true
    first_of a b h = rw h refl

-- Texts that are read by their first word, and values that are read in one of two ways.
use Rattle.std.proofs.Common.{◌≡◌, ℕ, Bool, true, ◌&&◌, List, Option, Some, None, refl, inl, inr}
use Rattle.std.specs.Prelude.{option_map, if◌then◌else◌}
use Rattle.std.specs.Option.{option_or}
use Rattle.std.specs.Str.{bytes_eq}
use Rattle.std.proofs.lemmas.Bool.{cases_Bool}
use Rattle.key_texts.proofs.NameLemmas.{same-from_bytes_eq}

-- a text that is this word gives the one, and each other text the other
pub by_word : {X P : Type 0} (text word : List ℕ) {a b : Option X} {y : X} → (if bytes_eq text word then a else b) ≡ Some y → (text ≡ word → a ≡ Some y → P) → (b ≡ Some y → P) → P
by_word text word h same other =
    elim (cases_Bool (bytes_eq text word)) [
      | inl is ↦ same (same-from_bytes_eq text word is) (rw is at h)
      | inr others ↦ other (rw others at h)
    ]

-- what is made of a value that is read
pub by_map : {X Y P : Type 0} (f : X → Y) (o : Option X) {y : Y} → option_map f o ≡ Some y → ((x : X) → o ≡ Some x → f x ≡ y → P) → P
by_map f (Some x) h next = next x refl cc
by_map f None h next = absurd (cc h)

-- what is read in the first way that there is
pub by_either : {X P : Type 0} (a b : Option X) {y : X} → option_or a b ≡ Some y → (a ≡ Some y → P) → (b ≡ Some y → P) → P
by_either (Some x) b h first second = first h
by_either None b h first second = second h

-- three tests that pass
pub all_three : (a b c : Bool) → a ≡ true → b ≡ true → c ≡ true → (a && b && c) ≡ true
all_three a b c first second third = rw (first, second, third) refl

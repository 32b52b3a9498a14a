-- What is well-formed is ASCII.
use Rattle.std.proofs.Common.{◌≡◌, ℕ, ◌<◌, Bool, true, false, ◌&&◌, ◌||◌, ◌==◌, cond, nat_le, nat_lt, List, [], ◌∷◌, ◌++◌, codes, length, map, refl, sym, subst, arith}
use Rattle.std.proofs.lemmas.Bool.Decides.{nat_tests}
use Rattle.std.proofs.lemmas.Str.Ascii.{IsAscii-nil, IsAscii-cons}
use Rattle.std.proofs.lemmas.Str.{IsAscii-append}
use Rattle.std.specs.List.{flat_map, list_all}
use Rattle.std.specs.Str.{IsAscii}
use Rattle.svg_text.specs.Content.{Attribute, IsContent, IsDocument, are_attributes, are_apart, attribute_text, closing, element_text, escaped, escaped_byte, is_letter, is_name, opening, svg_names}
use Rattle.svg_text.specs.Content.IsContent.{nothing, text, element}

both-left : (a b : Bool) → (a && b) ≡ true → a ≡ true
both-left true b is = refl
both-left false b is = is

both-right : (a b : Bool) → (a && b) ≡ true → b ≡ true
both-right true b is = is
both-right false b is = grind arith

-- bytes that a test finds below 128
ascii_by : (bs : List ℕ) → list_all (λ b. nat_lt b 128) bs ≡ true → IsAscii bs
ascii_by [] is = IsAscii-nil
ascii_by (b ∷ bs) is =
    IsAscii-cons
    b
    bs
    (below b (both-left (nat_lt b 128) (list_all (λ b. nat_lt b 128) bs) is))
    (ascii_by bs (both-right (nat_lt b 128) (list_all (λ b. nat_lt b 128) bs) is))
  where
    below : (b : ℕ) → nat_lt b 128 ≡ true → b < 128
    below b is = grind (arith, nat_tests)

-- either of two texts
ascii_if : (test : Bool) (xs ys : List ℕ) → (test ≡ true → IsAscii xs) → IsAscii ys → IsAscii (cond test xs ys)
ascii_if true xs ys first other = first refl
ascii_if false xs ys first other = other

plain : (b : ℕ) → (b == 10 || (nat_le 32 b && nat_le b 126)) ≡ true → b < 128
plain b is = grind (arith, nat_tests)

ascii_byte : (b : ℕ) → IsAscii (escaped_byte b)
ascii_byte b =
    ascii_if (b == 38) (codes "&amp;") _ (λ _. ascii_by (codes "&amp;") refl)
    (ascii_if (b == 60) (codes "&lt;") _ (λ _. ascii_by (codes "&lt;") refl)
    (ascii_if (b == 62) (codes "&gt;") _ (λ _. ascii_by (codes "&gt;") refl)
    (ascii_if (b == 34) (codes "&quot;") _ (λ _. ascii_by (codes "&quot;") refl)
    (ascii_if
    (b == 10 || (nat_le 32 b && nat_le b 126))
    (b ∷ [])
    (codes "?")
    (λ is. IsAscii-cons b [] (plain b is) IsAscii-nil)
    (ascii_by (codes "?") refl)))))

ascii_escaped : (bytes : List ℕ) → IsAscii (escaped bytes)
ascii_escaped [] = IsAscii-nil
ascii_escaped (b ∷ bytes) =
    IsAscii-append (escaped_byte b) (escaped bytes) (ascii_byte b) (ascii_escaped bytes)

letter : (b : ℕ) → is_letter b ≡ true → b < 128
letter b is = grind (arith, nat_tests)

ascii_letters : (name : List ℕ) → list_all is_letter name ≡ true → IsAscii name
ascii_letters [] is = IsAscii-nil
ascii_letters (b ∷ name) is =
    IsAscii-cons
    b
    name
    (letter b (both-left (is_letter b) (list_all is_letter name) is))
    (ascii_letters name (both-right (is_letter b) (list_all is_letter name) is))

ascii_name : (name : List ℕ) → is_name name ≡ true → IsAscii name
ascii_name name is = ascii_letters name (both-right (nat_lt 0 (length name)) (list_all is_letter name) is)

ascii_attribute : (a : Attribute) → is_name a.0 ≡ true → IsAscii (attribute_text a)
ascii_attribute a is =
    let before = IsAscii-append (codes " ") a.0 (ascii_by (codes " ") refl) (ascii_name a.0 is) in
    let equals = IsAscii-append (codes " " ++ a.0) (codes "=\"") before (ascii_by (codes "=\"") refl) in
    let value = IsAscii-append (codes " " ++ a.0 ++ codes "=\"") (escaped a.1) equals (ascii_escaped a.1) in
    IsAscii-append
    (codes " " ++ a.0 ++ codes "=\"" ++ escaped a.1)
    (codes "\"")
    value
    (ascii_by (codes "\"") refl)

ascii_attributes : (attributes : List Attribute) → list_all is_name (map (λ (a : Attribute). a.0) attributes) ≡ true → IsAscii (flat_map attribute_text attributes)
ascii_attributes [] is = IsAscii-nil
ascii_attributes (a ∷ attributes) is =
    let rest : List (List ℕ) = map (λ (b : Attribute). b.0) attributes in
    IsAscii-append
    (attribute_text a)
    (flat_map attribute_text attributes)
    (ascii_attribute a (both-left (is_name a.0) (list_all is_name rest) is))
    (ascii_attributes attributes (both-right (is_name a.0) (list_all is_name rest) is))

ascii_opening : (name attributes : List ℕ) → is_name name ≡ true → IsAscii attributes → IsAscii (opening name attributes)
ascii_opening name attributes named small =
    let begun = IsAscii-append (codes "<") name (ascii_by (codes "<") refl) (ascii_name name named) in
    IsAscii-append
    (codes "<" ++ name ++ attributes)
    (codes ">")
    (IsAscii-append (codes "<" ++ name) attributes begun small)
    (ascii_by (codes ">") refl)

ascii_closing : (name : List ℕ) → is_name name ≡ true → IsAscii (closing name)
ascii_closing name named =
    IsAscii-append
    (codes "</" ++ name)
    (codes ">")
    (IsAscii-append (codes "</") name (ascii_by (codes "</") refl) (ascii_name name named))
    (ascii_by (codes ">") refl)

ascii_element : (name : List ℕ) (attributes : List Attribute) (inside : List ℕ) → is_name name ≡ true → are_attributes attributes ≡ true → IsAscii inside → IsAscii (element_text name attributes inside)
ascii_element name attributes inside named apart inner =
    let names : List (List ℕ) = map (λ (a : Attribute). a.0) attributes in
    let tag = flat_map attribute_text attributes in
    let small = ascii_attributes attributes (both-left (list_all is_name names) (are_apart names) apart) in
    IsAscii-append
    (opening name tag ++ inside)
    (closing name)
    (IsAscii-append (opening name tag) inside (ascii_opening name tag named small) inner)
    (ascii_closing name named)

pub ascii_content : (bytes : List ℕ) → IsContent bytes → IsAscii bytes
ascii_content _ nothing = IsAscii-nil
ascii_content _ (text bytes rest is) =
    IsAscii-append (escaped bytes) rest (ascii_escaped bytes) (ascii_content rest is)
ascii_content _ (element name attributes inside rest named apart inner is) =
    IsAscii-append
    (element_text name attributes inside)
    rest
    (ascii_element name attributes inside named apart (ascii_content inside inner))
    (ascii_content rest is)

pub ascii_document : (document : List ℕ) → IsDocument document → IsAscii document
ascii_document document is =
    let whole = element_text (codes "svg") (svg_names ∷ is.attributes) is.inside in
    subst
    IsAscii
    (sym is.text)
    (IsAscii-append
    whole
    (10 ∷ [])
    (ascii_element (codes "svg") (svg_names ∷ is.attributes) is.inside refl is.named (ascii_content is.inside is.content))
    (ascii_by (10 ∷ []) refl))

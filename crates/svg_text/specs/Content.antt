-- What is well-formed: elements that close in order, quoted attributes and escaped texts, as
-- XML 1.0 (fifth edition) has them in its productions 39 to 43.
use Rattle.std.specs.Prelude.{◌≡◌, ℕ, Bool, true, ◌&&◌, ◌||◌, ◌==◌, List, [], ◌∷◌, ◌++◌, codes, flat_map, length, map, nat_le, nat_lt, not, if◌then◌else◌}
use Rattle.std.specs.List.{list_all, list_any}
use Rattle.std.specs.Str.{bytes_eq}

-- a byte in a text or in quotes: what could begin or end a tag, a reference or a quote stands as a
-- reference; a line feed and the rest of printable ASCII stand as they are, and any other as a ?
abbrev pub escaped_byte : ℕ → List ℕ
escaped_byte b =
    if b == 38 then codes "&amp;"
    else if b == 60 then codes "&lt;"
    else if b == 62 then codes "&gt;"
    else if b == 34 then codes "&quot;"
    else if b == 10 || (nat_le 32 b && nat_le b 126) then b ∷ []
    else codes "?"

-- bytes as they stand in a text or in quotes
abbrev pub escaped : List ℕ → List ℕ
escaped bytes = flat_map escaped_byte bytes

-- an attribute: its name and its value
abbrev pub Attribute : Type 0
Attribute = List ℕ × List ℕ

-- a space, the name, and the value in quotes
abbrev pub attribute_text : Attribute → List ℕ
attribute_text a = codes " " ++ a.0 ++ codes "=\"" ++ escaped a.1 ++ codes "\""

-- the tag that opens an element of this name, with the text of its attributes
abbrev pub opening : List ℕ → List ℕ → List ℕ
opening name attributes = codes "<" ++ name ++ attributes ++ codes ">"

-- the tag that closes it
abbrev pub closing : List ℕ → List ℕ
closing name = codes "</" ++ name ++ codes ">"

-- an element: its tag with its attributes, what stands in it, and the tag that closes it
abbrev pub element_text : List ℕ → List Attribute → List ℕ → List ℕ
element_text name attributes inside =
    opening name (flat_map attribute_text attributes) ++ inside ++ closing name

-- the byte is a letter
abbrev pub is_letter : ℕ → Bool
is_letter b = (nat_le 65 b && nat_le b 90) || (nat_le 97 b && nat_le b 122)

-- a name is of letters, at least one
abbrev pub is_name : List ℕ → Bool
is_name name = nat_lt 0 (length name) && list_all is_letter name

-- each stands once
abbrev pub are_apart : List (List ℕ) → Bool
are_apart [] = true
are_apart (name ∷ names) = not (list_any (bytes_eq name) names) && are_apart names

-- attributes have names, each its own
abbrev pub are_attributes : List Attribute → Bool
are_attributes attributes =
    let names : List (List ℕ) = map (λ (a : Attribute). a.0) attributes in
    list_all is_name names && are_apart names

-- what may stand in an element: nothing, a text and then more, or an element and then more
pub data IsContent : List ℕ → Type 0 where
  nothing : IsContent []
  text : (bytes rest : List ℕ) → IsContent rest → IsContent (escaped bytes ++ rest)
  element :
      (name : List ℕ) (attributes : List Attribute) (inside rest : List ℕ)
      → is_name name ≡ true → are_attributes attributes ≡ true → IsContent inside → IsContent rest
      → IsContent (element_text name attributes inside ++ rest)

-- the attribute that says that an element and those in it are of SVG
abbrev pub svg_names : Attribute
svg_names = (codes "xmlns", codes "http://www.w3.org/2000/svg")

-- a document is one element, of SVG, and a line feed
pub record IsDocument (document : List ℕ) : Type 0 where
  pub attributes : List Attribute
  pub inside : List ℕ
  pub named : are_attributes (svg_names ∷ attributes) ≡ true
  pub content : IsContent inside
  pub text : document ≡ element_text (codes "svg") (svg_names ∷ attributes) inside ++ 10 ∷ []

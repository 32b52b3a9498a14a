-- A row in which nothing is quoted, as the machine of `csv` reads it.
use Rattle.std.proofs.Common.{◌≡◌, ◌≢◌, ℕ, Bool, true, false, not, ◌==◌, ◌||◌, List, [], ◌∷◌, ◌++◌, length, ◌+◌, ◌-◌, ◌<◌, ◌≤◌, take, drop, get_or, Some, refl, sym, ap, ◌∙◌, append_assoc, inl, inr, suc, arith}
use Rattle.std.specs.List.{before_first, position_or_len}
use Rattle.std.proofs.lemmas.Bool.{cases_Bool, eqb-true, ne_eqb}
use Rattle.std.proofs.lemmas.List.{append-nil, drop-drop, drop_all, drop_more}
use Rattle.csv.specs.declared.parser.State.TheVariants as st
use Rattle.csv.specs.Machine.{next_record}
use Rattle.csv.specs.Reading.{default_config, records, records_from, records_next, strip_bom}
use Rattle.arrival_csv.specs.Rows.{ends_field}
use Rattle.arrival_csv.proofs.RecordLemmas.{records-step}

-- a byte that ends no field is none of these
record EndsNone (comma line quote return : Bool) : Type 0 where
  no_comma : comma ≡ false
  no_line : line ≡ false
  no_quote : quote ≡ false
  no_return : return ≡ false

-- each test of four that all fail
EndsNone-from_tests : (comma line quote return : Bool) → (comma || line || quote || return) ≡ false → EndsNone comma line quote return
EndsNone-from_tests true line quote return fails = cc
EndsNone-from_tests false true quote return fails = cc
EndsNone-from_tests false false true return fails = cc
EndsNone-from_tests false false false true fails = cc
EndsNone-from_tests false false false false fails = record { no_comma = refl; no_line = refl; no_quote = refl; no_return = refl }

-- the bytes before the first that ends a field join the field at hand
joins : (fields : List (List ℕ)) (field text : List ℕ) → next_record default_config st.InField fields field text ≡ next_record default_config st.InField fields (field ++ before_first ends_field text) (drop (position_or_len ends_field text) text)
unfolding next_record
joins fields field [] = ap (λ f. next_record default_config st.InField fields f []) (sym (append-nil field))
joins fields field (c ∷ text) =
    elim (cases_Bool (ends_field c)) [
      | inl ends ↦ rw ends (ap (λ f. next_record default_config st.InField fields f (c ∷ text)) (sym (append-nil field)))
      | inr joined ↦
          let none = EndsNone-from_tests (c == 44) (c == 10) (c == 34) (c == 13) joined in
          let more : 1 + position_or_len ends_field text ≡ suc (position_or_len ends_field text) = omega arith in
          rw (joined, more, none.no_comma, none.no_line, none.no_return) (joins fields (field ++ (c ∷ [])) text ∙ ap (λ f. next_record default_config st.InField fields f (drop (position_or_len ends_field text) text)) (append_assoc field (c ∷ []) (before_first ends_field text)))
    ]

-- whether the text starts with a quote
abbrev pub is_quoted : List ℕ → Bool
is_quoted [] = false
is_quoted (c ∷ text) = c == 34

-- a field with no quote at its start is the bytes before the first that ends it
field-read : (fields : List (List ℕ)) (text field rest : List ℕ) → field ≡ before_first ends_field text → rest ≡ drop (position_or_len ends_field text) text → is_quoted rest ≡ false → next_record default_config st.StartField fields [] text ≡ next_record default_config st.InField fields field rest
unfolding next_record
field-read fields [] field rest is after plain = rw (is, after) refl
field-read fields (c ∷ text) field rest is after plain =
    elim (cases_Bool (c == 34)) [
      | inl quote ↦
          let same : c ≡ 34 = eqb-true c 34 quote in
          let begins : rest ≡ 34 ∷ text = rw same at after in
          let quoted : true ≡ false = rw begins at plain in
          cc
      | inr other ↦
          let begins : next_record default_config st.StartField fields [] (c ∷ text) ≡ next_record default_config st.InField fields [] (c ∷ text) = rw other refl in
          rw (is, after) (begins ∙ joins fields [] (c ∷ text))
    ]

-- the place at which the field that starts at another ends
abbrev pub IsEnd : List ℕ → ℕ → ℕ → Type 0
IsEnd text start end = end ≡ start + position_or_len ends_field (drop start text)

-- the field between two places
abbrev pub between : List ℕ → ℕ → ℕ → List ℕ
between text start end = take (end - start) (drop start text)

-- a field between two places with no quote at its end
field-between : (fields : List (List ℕ)) (text rest : List ℕ) (start end : ℕ) → IsEnd text start end → drop end text ≡ rest → is_quoted rest ≡ false → next_record default_config st.StartField fields [] (drop start text) ≡ next_record default_config st.InField fields (between text start end) rest
field-between fields text rest start end is begins plain =
    let count : end - start ≡ position_or_len ends_field (drop start text) = omega (arith, is) in
    field-read fields (drop start text) (between text start end) rest (ap (λ n. take n (drop start text)) count) (sym begins ∙ ap (λ n. drop n text) is ∙ sym (drop-drop (position_or_len ends_field (drop start text)) start text)) plain

-- a field at the end of the text ends the row
pub field-at_end : (fields : List (List ℕ)) (text : List ℕ) (start end : ℕ) → IsEnd text start end → length text ≤ end → next_record default_config st.StartField fields [] (drop start text) ≡ Some (fields ++ (between text start end ∷ []), st.StartRecord, drop end text)
unfolding next_record
field-at_end fields text start end is past =
    let none = drop_all end text past in
    rw none (field-between fields text [] start end is none refl)

-- a field before a line feed ends the row
pub field-at_line : (fields : List (List ℕ)) (text : List ℕ) (start end : ℕ) → IsEnd text start end → end < length text → get_or text end 0 ≡ 10 → next_record default_config st.StartField fields [] (drop start text) ≡ Some (fields ++ (between text start end ∷ []), st.StartRecord, drop (end + 1) text)
unfolding next_record
field-at_line fields text start end is inside line =
    field-between fields text (10 ∷ drop (end + 1) text) start end is (drop_more text end 0 inside ∙ ap (λ c. c ∷ drop (end + 1) text) line) refl

-- an empty line is no row
pub records-empty_line : (text : List ℕ) → records default_config (10 ∷ text) ≡ records default_config text
unfolding next_record
records-empty_line text = records-step st.StartRecord (10 ∷ text) refl ∙ sym (records-step st.StartRecord text refl)

-- a text that is at its end has no row
pub records-end : records default_config [] ≡ []
unfolding next_record
records-end = records-step st.StartRecord [] refl

-- a text that starts with a row has that row and those of the bytes after it
pub records-row : (c : ℕ) (text : List ℕ) (fields : List (List ℕ)) (rest : List ℕ) → c ≢ 10 → c ≢ 13 → next_record default_config st.StartField [] [] (c ∷ text) ≡ Some (fields, st.StartRecord, rest) → records default_config (c ∷ text) ≡ fields ∷ records default_config rest
unfolding next_record
records-row c text fields rest line return goes =
    let begins : next_record default_config st.StartRecord [] [] (c ∷ text) ≡ next_record default_config st.StartField [] [] (c ∷ text) = rw (ne_eqb c 10 line, ne_eqb c 13 return) refl in
    records-step st.StartRecord (c ∷ text) refl ∙ ap (records_next (λ s2 ys. records_from default_config (length ys + 1) s2 ys)) (begins ∙ goes)

-- an empty text has no byte order mark
pub strip_bom-empty : (text : List ℕ) → text ≡ [] → strip_bom text ≡ text
unfolding strip_bom
strip_bom-empty [] none = refl
strip_bom-empty (c ∷ text) none = cc

-- a text that starts with another byte than a byte order mark has none
pub strip_bom-other : (text : List ℕ) (c : ℕ) (rest : List ℕ) → text ≡ c ∷ rest → not (c == 0xEF) ≡ true → strip_bom text ≡ text
unfolding strip_bom
strip_bom-other [] c rest is other = refl
strip_bom-other (a ∷ []) c rest is other = refl
strip_bom-other (a ∷ b ∷ []) c rest is other = refl
strip_bom-other (a ∷ b ∷ d ∷ text) c rest is other =
    let first : a ≡ c = cc in
    elim (cases_Bool (c == 0xEF)) [
      | inl marked ↦ let none : false ≡ true = rw marked at other in cc
      | inr plain ↦ rw (first, plain) refl
    ]

-- A row that is read in one pass: its fields, as the machine of `csv` reads them, and what they write.
use Rattle.std.proofs.Common.{◌≡◌, ◌≢◌, ℕ, zero, suc, true, false, ◌==◌, ◌-◌, ◌+◌, ◌*◌, ◌^◌, nat_le, nat_lt, ◌<◌, ◌≤◌, List, [], ◌∷◌, ◌++◌, length, take, drop, codes, get_or, Some, Ok, refl, sym, ap, subst, ◌∙◌, append_assoc, inl, inr, arith}
use Rattle.std.specs.Char.{digit_value, is_ascii_digit}
use Rattle.std.specs.List.{list_all, slice_range}
use Rattle.std.specs.Str.Parse.{digits_value}
use Rattle.std.proofs.lemmas.Bool.{and_from, and_parts, cases_Bool, le-leb, leb-true, eqb-true, false≢true}
use Rattle.std.proofs.lemmas.List.{append-nil, drop-drop, take_rest, drop_more, drop_all, get_or-drop, get_or-take, length-drop, length-take-le}
use Rattle.std.proofs.lemmas.List.Folds.{drop_split, list_all_more}
use Rattle.std.proofs.lemmas.Int.Digits.{digits_value_more}
use Rattle.std.proofs.lemmas.Slice.Eq.{HasBytesAt}
use Rattle.std.proofs.lemmas.Str.{digit_value_digit}
use Rattle.std.proofs.lemmas.Str.Parse.{digits_value_short}
use Rattle.csv.specs.declared.parser.State.TheVariants as st
use Rattle.csv.specs.Machine.{next_record}
use Rattle.csv.specs.Reading.{default_config, records}
use Rattle.slot_core.specs.declared.events.Event.{Event}
use Rattle.slot_core.specs.declared.tasks.TaskSet.{TaskSet}
use Rattle.slot_core.specs.declared.TheConstants.{ARRIVAL_LIMIT}
use Rattle.key_texts.specs.Numbers.{is_number, number_between, number_of}
use Rattle.key_texts.specs.declared.TheConstants.{DIGIT_LIMIT}
use Rattle.key_texts.proofs.DigitLemmas.{digits, is_number-from_parts, NumberParts, NumberParts-from_test}
use Rattle.arrival_csv.specs.declared.kinds.Kind.{Kind}
use Rattle.arrival_csv.specs.declared.kinds.Kind.TheVariants.{Soft, Firm, Sporadic, Done, Withdraw}
use Rattle.arrival_csv.specs.Kinds.{kind_of, kind_word}
use Rattle.arrival_csv.specs.Quick.{AreDigitsAt, EndsRow, GoesOn, IsKindAt, IsNumberAt, WritesEvent}
use Rattle.arrival_csv.specs.Reading.{event_of}
use Rattle.arrival_csv.proofs.PlainLemmas.{records-row}

-- a byte that is a digit is not one of another kind
digit_is_not : (c byte : ℕ) → is_ascii_digit c ≡ true → is_ascii_digit byte ≡ false → (c == byte) ≡ false
digit_is_not c byte digit other =
    elim (cases_Bool (c == byte)) [
      | inl same ↦ let is : c ≡ byte = eqb-true c byte same in absurd (false≢true (sym other ∙ ap is_ascii_digit (sym is) ∙ digit))
      | inr apart ↦ apart
    ]

-- the value of a digit
value_of_digit : (c : ℕ) → is_ascii_digit c ≡ true → digit_value c ≡ c - 48
value_of_digit c digit =
    let (above, below) = and_parts (nat_le 48 c) (nat_le c 57) digit in
    omega (arith, digit_value_digit c (leb-true 48 c above, leb-true c 57 below))

-- digits join the field at hand
digits_join : (fields : List (List ℕ)) (field digits rest : List ℕ) → list_all is_ascii_digit digits ≡ true → next_record default_config st.InField fields field (digits ++ rest) ≡ next_record default_config st.InField fields (field ++ digits) rest
unfolding next_record
digits_join fields field [] rest all = ap (λ f. next_record default_config st.InField fields f rest) (sym (append-nil field))
digits_join fields field (c ∷ digits) rest all =
    let (digit, more) = and_parts (is_ascii_digit c) (list_all is_ascii_digit digits) all in
    rw (digit_is_not c 44 digit refl, digit_is_not c 10 digit refl, digit_is_not c 13 digit refl) (digits_join fields (field ++ (c ∷ [])) digits rest more ∙ ap (λ f. next_record default_config st.InField fields f rest) (append_assoc field (c ∷ []) digits))

-- digits at the start of a field are the field, so far
digits_read : (fields : List (List ℕ)) (digits rest : List ℕ) → 0 < length digits → list_all is_ascii_digit digits ≡ true → next_record default_config st.StartField fields [] (digits ++ rest) ≡ next_record default_config st.InField fields digits rest
unfolding next_record
digits_read fields [] rest some all = absurd (omega (arith, some))
digits_read fields (c ∷ digits) rest some all =
    let (digit, more) = and_parts (is_ascii_digit c) (list_all is_ascii_digit digits) all in
    let begins : next_record default_config st.StartField fields [] (c ∷ (digits ++ rest)) ≡ next_record default_config st.InField fields [] (c ∷ (digits ++ rest)) = rw (digit_is_not c 34 digit refl) refl in
    begins ∙ digits_join fields [] (c ∷ digits) rest all

-- the parts of a text that writes a number within bounds
number_parts : (low high n : ℕ) (text : List ℕ) → number_between low high text ≡ Some n → NumberParts text
number_parts low high n text written =
    elim (cases_Bool (is_number text)) [
      | inl number ↦ NumberParts-from_test text number
      | inr other ↦ let none = rw other at written in cc
    ]

-- a number at the start of a field is the field, so far
pub number_read : (fields : List (List ℕ)) (text : List ℕ) (start low high n end : ℕ) → IsNumberAt text start low high n end → next_record default_config st.StartField fields [] (drop start text) ≡ next_record default_config st.InField fields (slice_range text start end) (drop end text)
number_read fields text start low high n end number =
    let parts = number_parts low high n (slice_range text start end) number.written in
    ap (next_record default_config st.StartField fields []) (drop_split text start end (omega (arith, number.some))) ∙ digits_read fields (slice_range text start end) (drop end text) parts.some parts.all

-- the bytes between two places are as many as lie between them
length_between : (text : List ℕ) (start end : ℕ) → start ≤ end → end ≤ length text → length (slice_range text start end) ≡ end - start
length_between text start end onward within =
    length-take-le (end - start) (drop start text) (rw (length-drop start text) (omega (arith, onward, within)))

-- digits between two places, and one more after them
pub AreDigitsAt-more : (text : List ℕ) (start value end digit : ℕ) → AreDigitsAt text start value end → end < length text → end - start < DIGIT_LIMIT → is_ascii_digit (get_or text end 0) ≡ true → digit ≡ get_or text end 0 - 48 → AreDigitsAt text start (value * 10 + digit) (end + 1)
AreDigitsAt-more text start value end digit old inside room is_digit same =
    let onward = old.onward in
    let rest = drop start text in
    let count : end + 1 - start ≡ (end - start) + 1 = omega (arith, onward) in
    let there : start + (end - start) ≡ end = omega (arith, onward) in
    let at : get_or rest (end - start) 0 ≡ get_or text end 0 = get_or-drop start text (end - start) 0 ∙ ap (λ k. get_or text k 0) there in
    let within : end - start < length rest = rw (length-drop start text) (omega (arith, inside, onward)) in
    let digit_is : digit_value (get_or text end 0) ≡ digit = value_of_digit (get_or text end 0) is_digit ∙ sym same in
    let more = list_all_more is_ascii_digit rest (end - start) 0 within in
    let last : digits_value 10 (take (end - start) rest) * 10 + digit_value (get_or rest (end - start) 0) ≡ value * 10 + digit = rw (at, old.written) (ap (λ d. value * 10 + d) digit_is) in
    let written = digits_value_more 10 rest (end - start) within in
    record {
      onward = omega (arith, onward);
      within = omega (arith, inside);
      few = omega (arith, room, onward);
      digits = subst (λ k. list_all is_ascii_digit (take k rest) ≡ true) (sym count) (more ∙ and_from _ _ old.digits (ap is_ascii_digit at ∙ is_digit));
      written = ap (λ k. digits_value 10 (take k rest)) count ∙ written ∙ last;
    }

-- digits that are few leave room for one more
pub digits_small : (text : List ℕ) (start value end : ℕ) → AreDigitsAt text start value end → end - start < DIGIT_LIMIT → value < 10 ^ 9
digits_small text start value end old room =
    let short : length (slice_range text start end) ≤ 9 = omega (arith, length_between text start end old.onward old.within, room) in
    rw (sym old.written) (digits_value_short digits (slice_range text start end) 9 old.digits short)

-- plain digits whose value is within bounds are a number
pub IsNumberAt-from_digits : (text : List ℕ) (start low high n end : ℕ) → AreDigitsAt text start n end → end ≢ start → (get_or text start 0 ≡ 48 → end ≤ start + 1) → low ≤ n → n ≤ high → IsNumberAt text start low high n end
IsNumberAt-from_digits text start low high n end are some plain above below =
    let onward = are.onward in
    let piece = slice_range text start end in
    let count = length_between text start end onward are.within in
    let apart : start < end = omega (arith, some, onward) in
    let same_place : start + 0 ≡ start = omega arith in
    let first : get_or piece 0 0 ≡ get_or text start 0 = get_or-take (end - start) (drop start text) 0 0 (omega (arith, apart)) ∙ get_or-drop start text 0 0 ∙ ap (λ k. get_or text k 0) same_place in
    let number : is_number piece ≡ true = is_number-from_parts piece (record {
      some = omega (arith, count, apart);
      few = omega (arith, count, are.few);
      plain = λ zero. let single = plain (sym first ∙ zero) in omega (arith, count, single, apart);
      all = are.digits;
    }) in
    record {
      some = apart;
      within = are.within;
      written = rw (number, are.written, le-leb low n above, le-leb n high below) refl;
    }

-- what starts with these bytes at a place
from_bytes : (text : List ℕ) (place : ℕ) (bytes : List ℕ) → place + length bytes ≤ length text → HasBytesAt text place bytes → drop place text ≡ bytes ++ drop (place + length bytes) text
from_bytes text place [] within has = let same : place ≡ place + 0 = omega arith in ap (λ k. drop k text) same
from_bytes text place (c ∷ bytes) within (here, later) =
    let inside : place < length text = omega (arith, within) in
    let next : place + 1 ≡ suc place = omega arith in
    let shift : suc place + length bytes ≡ place + length (c ∷ bytes) = omega arith in
    drop_more text place 0 inside ∙ ap (λ b. b ∷ drop (place + 1) text) here ∙ ap (λ k. c ∷ drop k text) next ∙ ap (λ bs. c ∷ bs) (from_bytes text (suc place) bytes (omega (arith, within)) later) ∙ ap (λ k. c ∷ (bytes ++ drop k text)) shift

-- the word of a kind whose bytes, and a comma after them, start what is left of the text
pub IsKindAt-from_bytes : (text : List ℕ) (start : ℕ) (kind : Kind) (next : ℕ) → start ≤ length text → next ≡ start + length (kind_word kind ++ codes ",") → length (kind_word kind ++ codes ",") ≤ length (slice_range text start (length text)) → HasBytesAt (slice_range text start (length text)) 0 (kind_word kind ++ codes ",") → IsKindAt text start kind next
IsKindAt-from_bytes text start kind next within is room has =
    let bytes = kind_word kind ++ codes "," in
    let left = slice_range text start (length text) in
    let rest : left ≡ drop start text = take_rest text start in
    let none : 0 + length bytes ≡ length bytes = omega arith in
    let count : length left ≡ length text - start = ap length rest ∙ length-drop start text in
    record {
      within = omega (arith, within, is, room, count);
      word = sym rest ∙ from_bytes left 0 bytes (omega (arith, room)) has ∙ ap (λ k. bytes ++ drop k left) none ∙ ap (λ xs. bytes ++ drop (length bytes) xs) rest ∙ ap (λ xs. bytes ++ xs) (drop-drop (length bytes) start text) ∙ ap (λ k. bytes ++ drop k text) (sym is);
    }

-- the word of a kind at the start of a field is the field
pub word_read : (fields : List (List ℕ)) (text : List ℕ) (start : ℕ) (kind : Kind) (next : ℕ) → IsKindAt text start kind next → next_record default_config st.StartField fields [] (drop start text) ≡ next_record default_config st.StartField (fields ++ (kind_word kind ∷ [])) [] (drop next text)
unfolding next_record
word_read fields text start Soft next at = rw at.word refl
word_read fields text start Firm next at = rw at.word refl
word_read fields text start Sporadic next at = rw at.word refl
word_read fields text start Done next at = rw at.word refl
word_read fields text start Withdraw next at = rw at.word refl

-- the word of a kind names it
kind_of-word : (kind : Kind) → kind_of (kind_word kind) ≡ Some kind
kind_of-word Soft = refl
kind_of-word Firm = refl
kind_of-word Sporadic = refl
kind_of-word Done = refl
kind_of-word Withdraw = refl

-- a field with a comma after it goes on to the next
pub GoesOn-at_comma : (text : List ℕ) (place : ℕ) → place < length text → get_or text place 0 ≡ 44 → GoesOn text place (place + 1)
unfolding next_record
GoesOn-at_comma text place inside comma = (
  omega (arith, inside),
  λ before field.
      rw (drop_more text place 0 inside, comma) refl,
)

-- a field at the end of the text ends its row
pub EndsRow-at_end : (text : List ℕ) (place : ℕ) → length text ≤ place → EndsRow text place (drop place text)
unfolding next_record
EndsRow-at_end text place past = λ before field. rw (drop_all place text past) refl

-- a field before a line feed ends its row
pub EndsRow-at_line : (text : List ℕ) (place : ℕ) → place < length text → get_or text place 0 ≡ 10 → EndsRow text place (drop (place + 1) text)
unfolding next_record
EndsRow-at_line text place inside line = λ before field.
    rw (drop_more text place 0 inside, line) refl

-- a text that starts with a number starts with a row
pub records-number : (text : List ℕ) (low high n end : ℕ) (fields : List (List ℕ)) (rest : List ℕ) → IsNumberAt text 0 low high n end → next_record default_config st.StartField [] [] text ≡ Some (fields, st.StartRecord, rest) → records default_config text ≡ fields ∷ records default_config rest
records-number [] low high n end fields rest number read = absurd (omega (arith, number.some, number.within))
records-number (c ∷ text) low high n zero fields rest number read = absurd (omega (arith, number.some))
records-number (c ∷ text) low high n (suc end) fields rest number read =
    let parts = number_parts low high n (slice_range (c ∷ text) 0 (suc end)) number.written in
    let count : suc end - 0 ≡ suc end = omega arith in
    let all : list_all is_ascii_digit (take (suc end) (c ∷ text)) ≡ true = subst (λ k. list_all is_ascii_digit (take k (c ∷ text)) ≡ true) count parts.all in
    let (digit, more) = and_parts (is_ascii_digit c) (list_all is_ascii_digit (take end text)) all in
    records-row c text fields rest (λ line. let none = rw line at digit in cc) (λ return. let none = rw return at digit in cc) read

-- a row writes the slot of its first field, and the event of its kind and of its fields after the second
pub WritesEvent-from_parts : (set : TaskSet) (first : List ℕ) (kind : Kind) (fields : List (List ℕ)) (slot : ℕ) (event : Event) → number_of first ≡ Some slot → ((row : ℕ) → event_of set row kind fields ≡ Ok event) → WritesEvent set (first ∷ kind_word kind ∷ fields) slot event
WritesEvent-from_parts set first kind fields slot event number told = λ slots row before.
    elim (cases_Bool (nat_lt ARRIVAL_LIMIT row)) [
      | inl over ↦ rw over refl
      | inr within ↦ rw (within, number, kind_of-word kind, told row) refl
    ]

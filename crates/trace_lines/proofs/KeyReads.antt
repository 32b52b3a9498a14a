-- A key is read exactly from its text.
use Rattle.std.proofs.Common.{◌≡◌, ℕ, true, ◌&&◌, List, ◌∷◌, ◌++◌, Some, refl, ◌∙◌, arith}
use Rattle.std.specs.Prelude.{codes, decimal}
use Rattle.std.specs.List.{list_all}
use Rattle.std.proofs.lemmas.Bool.{and_parts, and_from, leb-true}
use Rattle.slot_core.specs.declared.TheConstants.{ARRIVAL_LIMIT, NUMBER_LIMIT}
use Rattle.slot_core.specs.Sets.Names.{is_name}
use Rattle.slot_facts.proofs.Sets.Ranges.{bounds}
use Rattle.key_texts.specs.KeyTexts.{cut_at}
use Rattle.key_texts.specs.Numbers.{number_of, row_number}
use Rattle.key_texts.proofs.CutLemmas.{Lacks, Lacks-from_all, cut_at-Some, cut_at-append, cut_at-lacks}
use Rattle.key_texts.proofs.KeyLemmas.{step, name_lacks, row_lacks, Lacks-append}
use Rattle.key_texts.proofs.PlaceLemmas.{Some_same}
use Rattle.trace_lines.specs.declared.line.KeyName.{KeyName}
use Rattle.trace_lines.specs.declared.line.KeyName.TheVariants.{Offline, Sporadic as SporadicKey, Firm as FirmKey, Soft as SoftKey}
use Rattle.trace_lines.specs.Ranges.{number_fits, is_row, key_fits}
use Rattle.trace_lines.specs.Readings.{firm_row, key_named, name_of, offline_key, row_key, sporadic_key, worded_key}
use Rattle.trace_lines.specs.Texts.{key_text}
use Rattle.trace_lines.proofs.ByteLemmas.{all-append, decimal-keys, is_key_byte, name-keys}
use Rattle.trace_lines.proofs.Choices.{all_three, by_either, by_word}
use Rattle.trace_lines.proofs.NumberReads.{IsExact, names, numbers, rows}

-- the key fits, and the text is its text
abbrev IsTextOf : List ℕ → KeyName → Type 0
IsTextOf text key = (key_fits key ≡ true) × (text ≡ key_text key)

-- a text that is read as an offline key
offline_key-from : (text : List ℕ) (key : KeyName) → offline_key text ≡ Some key → IsTextOf text key
offline_key-from text key h =
    step (cut_at 35 text) h (λ parts cut h.
    step (cut_at 46 parts.0) h (λ inner dot h.
    step (number_of parts.1) h (λ instance number h.
    step (name_of inner.0) h (λ graph found h.
    step (name_of inner.1) h (λ task there h.
    let same : Offline graph task instance ≡ key = Some_same h in
    let (small, digits) = numbers.from parts.1 instance number in
    let (first, graph_is) = names.from inner.0 graph found in
    let (second, task_is) = names.from inner.1 task there in
    let whole = cut_at-Some 35 text parts cut in
    let front = cut_at-Some 46 parts.0 inner dot in
    rw (← same) (all_three (is_name graph) (is_name task) (number_fits instance) first second small, rw (whole, front, digits, graph_is, task_is) refl))))))

-- as a sporadic key
sporadic_key-from : (text : List ℕ) (key : KeyName) → sporadic_key text ≡ Some key → IsTextOf text key
sporadic_key-from text key h =
    step (cut_at 64 text) h (λ parts cut h.
    step (row_number parts.1) h (λ row number h.
    step (name_of parts.0) h (λ name found h.
    let same : SporadicKey name row ≡ key = Some_same h in
    let (range, digits) = rows.from parts.1 row number in
    let (named, name_is) = names.from parts.0 name found in
    let whole = cut_at-Some 64 text parts cut in
    rw (← same) (and_from (is_name name) (is_row row) named range, rw (whole, digits, name_is) refl))))

-- as a firm or a soft key
row_key-from : (text : List ℕ) (key : KeyName) → row_key text ≡ Some key → IsTextOf text key
row_key-from text key h =
    step (cut_at 58 text) h (λ parts cut h.
    step (row_number parts.1) h (λ row number h.
    let (range, digits) = rows.from parts.1 row number in
    let whole = cut_at-Some 58 text parts cut in
    by_word parts.0 (codes "firm") h
    (λ word is. rw (← Some_same is) (range, rw (whole, word, digits) refl))
    (λ h. by_word parts.0 (codes "soft") h
    (λ word is. rw (← Some_same is) (range, rw (whole, word, digits) refl))
    (λ none. absurd (cc none)))))

-- a text that is read as a key
key_named-from : (text : List ℕ) (key : KeyName) → key_named text ≡ Some key → IsTextOf text key
key_named-from text key h =
    by_either (offline_key text) _ h (offline_key-from text key)
    (λ h. by_either (sporadic_key text) (row_key text) h (sporadic_key-from text key) (row_key-from text key))

-- the text of an offline key is read as that
offline_key-to : (graph task : List ℕ) (instance : ℕ) → key_fits (Offline graph task instance) ≡ true → offline_key (key_text (Offline graph task instance)) ≡ Some (Offline graph task instance)
offline_key-to graph task instance fits =
    let (named, small) = and_parts (is_name graph && is_name task) (number_fits instance) fits in
    let (first, second) = and_parts (is_name graph) (is_name task) named in
    let lacks = Lacks-append 35 graph (46 ∷ task) (name_lacks 35 graph first refl) (name_lacks 35 task second refl) in
    let cut = cut_at-append 35 (graph ++ 46 ∷ task) (decimal instance) lacks in
    let dot = cut_at-append 46 graph task (name_lacks 46 graph first refl) in
    rw (cut, dot, numbers.to instance small, first, second) refl

-- the text of a sporadic key is read as that, and is no offline one
sporadic_key-to : (name : List ℕ) (row : ℕ) → key_fits (SporadicKey name row) ≡ true → (Lacks 35 (key_text (SporadicKey name row))) × (sporadic_key (key_text (SporadicKey name row)) ≡ Some (SporadicKey name row))
sporadic_key-to name row fits =
    let (named, range) = and_parts (is_name name) (is_row row) fits in
    let lacks = Lacks-append 35 name (64 ∷ decimal row) (name_lacks 35 name named refl) (row_lacks 35 row range refl) in
    let cut = cut_at-append 64 name (decimal row) (name_lacks 64 name named refl) in
    (lacks, rw (cut, rows.to row range, named) refl)

-- a word, a colon and a row are read as the key that the word says, and are no other key
row_key-to : (word : List ℕ) (row : ℕ) (key : KeyName) → is_row row ≡ true → Lacks 35 word → Lacks 58 word → Lacks 64 word → worded_key word row ≡ Some key → key_named (word ++ 58 ∷ decimal row) ≡ Some key
row_key-to word row key range no_instance no_colon no_at is =
    let text = word ++ 58 ∷ decimal row in
    let first = cut_at-lacks 35 text (Lacks-append 35 word (58 ∷ decimal row) no_instance (row_lacks 35 row range refl)) in
    let second = cut_at-lacks 64 text (Lacks-append 64 word (58 ∷ decimal row) no_at (row_lacks 64 row range refl)) in
    rw (first, second, cut_at-append 58 word (decimal row) no_colon, rows.to row range) is

-- the text of a key that fits is read as that key
key_named-to : (key : KeyName) → key_fits key ≡ true → key_named (key_text key) ≡ Some key
key_named-to (Offline graph task instance) fits = rw (offline_key-to graph task instance fits) refl
key_named-to (SporadicKey name row) fits =
    let (lacks, is) = sporadic_key-to name row fits in
    rw (cut_at-lacks 35 (key_text (SporadicKey name row)) lacks, is) refl
key_named-to (FirmKey row) fits = row_key-to (codes "firm") row (FirmKey row) fits refl refl refl refl
key_named-to (SoftKey row) fits = row_key-to (codes "soft") row (SoftKey row) fits refl refl refl refl

-- keys
pub keys : IsExact key_named key_text key_fits
keys = record { from = key_named-from; to = key_named-to }

-- a text that is read as the row of a firm key
firm_row-from : (text : List ℕ) (row : ℕ) → firm_row text ≡ Some row → (is_row row ≡ true) × (text ≡ key_text (FirmKey row))
firm_row-from text row h =
    step (cut_at 58 text) h (λ parts cut h.
    by_word parts.0 (codes "firm") h
    (λ word found.
    (let (range, digits) = rows.from parts.1 row found in
    (range, cut_at-Some 58 text parts cut ∙ rw (word, digits) refl)))
    (λ none. absurd (cc none)))

-- rows of firm keys
pub firm_rows : IsExact firm_row (λ row. key_text (FirmKey row)) is_row
firm_rows =
    record {
      from = firm_row-from;
      to = λ row range. rw (cut_at-append 58 (codes "firm") (decimal row) refl, rows.to row range) refl;
    }

-- a row is of bytes of keys
pub row-keys : (row : ℕ) → is_row row ≡ true → list_all is_key_byte (decimal row) ≡ true
row-keys row range =
    let small = (bounds 1 ARRIVAL_LIMIT row range).1 in
    decimal-keys row (omega arith)

-- the text of a key is too
pub key_text-bytes : (key : KeyName) → key_fits key ≡ true → list_all is_key_byte (key_text key) ≡ true
key_text-bytes (Offline graph task instance) fits =
    let (named, small) = and_parts (is_name graph && is_name task) (number_fits instance) fits in
    let (first, second) = and_parts (is_name graph) (is_name task) named in
    all-append is_key_byte (graph ++ 46 ∷ task) (35 ∷ decimal instance)
    (all-append is_key_byte graph (46 ∷ task) (name-keys graph first) (name-keys task second))
    (decimal-keys instance (leb-true instance NUMBER_LIMIT small))
key_text-bytes (SporadicKey name row) fits =
    let (named, range) = and_parts (is_name name) (is_row row) fits in
    all-append is_key_byte name (64 ∷ decimal row) (name-keys name named) (row-keys row range)
key_text-bytes (FirmKey row) fits = row-keys row fits
key_text-bytes (SoftKey row) fits = row-keys row fits

-- the text of a key has no space
pub key_text-lacks : (key : KeyName) → key_fits key ≡ true → Lacks 32 (key_text key)
key_text-lacks key fits = Lacks-from_all is_key_byte 32 (key_text key) (key_text-bytes key fits) refl

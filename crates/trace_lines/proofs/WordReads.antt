-- What a line tells is read exactly from its words, which are of bytes of words.
use Rattle.std.proofs.Common.{◌≡◌, ℕ, true, false, ◌&&◌, List, ◌∷◌, Some, refl, ◌∙◌}
use Rattle.std.specs.Prelude.{codes, decimal, ⊤}
use Rattle.std.specs.Str.{bytes_eq}
use Rattle.std.specs.List.{list_all}
use Rattle.std.proofs.lemmas.Bool.{and_parts}
use Rattle.slot_core.specs.Output.Texts.{soft_text, firm_text, sporadic_text, done_text, gone_text}
use Rattle.slot_core.specs.Sets.Names.{is_name}
use Rattle.key_texts.specs.KeyTexts.{cut_at}
use Rattle.key_texts.specs.Numbers.{number_of, row_number}
use Rattle.key_texts.proofs.CutLemmas.{Lacks, cut_at-Some, cut_at-append}
use Rattle.key_texts.proofs.KeyLemmas.{step, name_lacks}
use Rattle.key_texts.proofs.PlaceLemmas.{Some_same}
use Rattle.trace_lines.specs.declared.line.KeyName.TheVariants.{Firm as FirmKey}
use Rattle.trace_lines.specs.declared.line.Words.{Words}
use Rattle.trace_lines.specs.declared.line.Words.TheVariants.{Start, Soft, Firm, Sporadic, Done, Withdraw, Run, Idle, End}
use Rattle.trace_lines.specs.Ranges.{number_fits, is_row, key_fits, soft_fits, firm_fits, sporadic_fits, done_fits, gone_fits, words_fit}
use Rattle.trace_lines.specs.Readings.{arrival_words, done_answer, done_words, firm_answer, firm_row, firm_words, gone_answer, key_named, longer_words, name_of, soft_answer, soft_words, sporadic_answer, sporadic_words, withdraw_words, worded_arrival, words_of}
use Rattle.trace_lines.specs.Texts.{arrival_text, key_text, spaced, words_text}
use Rattle.trace_lines.proofs.AnswerReads.{soft_answers, firm_answers, sporadic_answers, done_answers, gone_answers, soft_text-bytes, firm_text-bytes, sporadic_text-bytes, done_text-bytes, gone_text-bytes}
use Rattle.trace_lines.proofs.ByteLemmas.{all-append, is_word_byte, keys-words, name-keys}
use Rattle.trace_lines.proofs.Choices.{all_three, by_map, by_word}
use Rattle.trace_lines.proofs.KeyReads.{firm_rows, keys, key_text-bytes, key_text-lacks, row-keys}
use Rattle.trace_lines.proofs.NumberReads.{names, numbers, number-lacks, number-words, row-lacks, rows}

-- the words fit, are not those of the end, and the text is that of an arrival: the kind, the row and
-- this text
abbrev TellsArrival : List ℕ → ℕ → List ℕ → Words → Type 0
TellsArrival kind row text words = (words_fit words ≡ true) × (words_text words ≡ arrival_text kind row text)

-- soft work
soft_words-from : (row : ℕ) (text : List ℕ) (words : Words) → is_row row ≡ true → soft_words row text ≡ Some words → TellsArrival (codes "soft") row text words
soft_words-from row text words range h =
    step (cut_at 32 text) h (λ parts cut h.
    step (number_of parts.0) h (λ slots found h.
    step (soft_answer parts.1) h (λ answer there h.
    let (fits, slots_is) = numbers.from parts.0 slots found in
    let (answers, answer_is) = soft_answers.from parts.1 answer there in
    rw (← Some_same h) (all_three (is_row row) (number_fits slots) (soft_fits answer) range fits answers, rw (cut_at-Some 32 text parts cut, slots_is, answer_is) refl))))

-- a firm task
firm_words-from : (row : ℕ) (text : List ℕ) (words : Words) → is_row row ≡ true → firm_words row text ≡ Some words → TellsArrival (codes "firm") row text words
firm_words-from row text words range h =
    step (cut_at 32 text) h (λ first cut h.
    step (cut_at 32 first.1) h (λ second after h.
    step (number_of first.0) h (λ slots found h.
    step (number_of second.0) h (λ within also h.
    step (firm_answer second.1) h (λ answer there h.
    let (fits, slots_is) = numbers.from first.0 slots found in
    let (near, within_is) = numbers.from second.0 within also in
    let (answers, answer_is) = firm_answers.from second.1 answer there in
    rw (← Some_same h) (rw (range, fits, near, answers) refl, rw (cut_at-Some 32 text first cut, cut_at-Some 32 first.1 second after, slots_is, within_is, answer_is) refl))))))

-- a sporadic arrival
sporadic_words-from : (row : ℕ) (text : List ℕ) (words : Words) → is_row row ≡ true → sporadic_words row text ≡ Some words → TellsArrival (codes "sporadic") row text words
sporadic_words-from row text words range h =
    step (cut_at 32 text) h (λ parts cut h.
    step (sporadic_answer parts.1) h (λ answer there h.
    step (name_of parts.0) h (λ name found h.
    let (fits, name_is) = names.from parts.0 name found in
    let (answers, answer_is) = sporadic_answers.from parts.1 answer there in
    rw (← Some_same h) (all_three (is_row row) (is_name name) (sporadic_fits answer) range fits answers, rw (cut_at-Some 32 text parts cut, name_is, answer_is) refl))))

-- an early end
done_words-from : (row : ℕ) (text : List ℕ) (words : Words) → is_row row ≡ true → done_words row text ≡ Some words → TellsArrival (codes "done") row text words
done_words-from row text words range h =
    step (cut_at 32 text) h (λ parts cut h.
    step (done_answer parts.1) h (λ answer there h.
    step (key_named parts.0) h (λ key found h.
    let (fits, key_is) = keys.from parts.0 key found in
    let (answers, answer_is) = done_answers.from parts.1 answer there in
    rw (← Some_same h) (all_three (is_row row) (key_fits key) (done_fits answer) range fits answers, rw (cut_at-Some 32 text parts cut, key_is, answer_is) refl))))

-- a withdrawal
withdraw_words-from : (row : ℕ) (text : List ℕ) (words : Words) → is_row row ≡ true → withdraw_words row text ≡ Some words → TellsArrival (codes "withdraw") row text words
withdraw_words-from row text words range h =
    step (cut_at 32 text) h (λ parts cut h.
    step (gone_answer parts.1) h (λ answer there h.
    step (firm_row parts.0) h (λ firm found h.
    let (fits, firm_is) = firm_rows.from parts.0 firm found in
    let (answers, answer_is) = gone_answers.from parts.1 answer there in
    rw (← Some_same h) (all_three (is_row row) (is_row firm) (gone_fits answer) range fits answers, rw (cut_at-Some 32 text parts cut, firm_is, answer_is) refl))))

-- an arrival, by the word of its kind
worded_arrival-from : (word : List ℕ) (row : ℕ) (text : List ℕ) (words : Words) → is_row row ≡ true → worded_arrival word row text ≡ Some words → TellsArrival word row text words
worded_arrival-from word row text words range h =
    by_word word (codes "sporadic") h (λ is h. rw is (sporadic_words-from row text words range h))
    (λ h. by_word word (codes "withdraw") h (λ is h. rw is (withdraw_words-from row text words range h))
    (λ h. by_word word (codes "soft") h (λ is h. rw is (soft_words-from row text words range h))
    (λ h. by_word word (codes "firm") h (λ is h. rw is (firm_words-from row text words range h))
    (λ h. by_word word (codes "done") h (λ is h. rw is (done_words-from row text words range h))
    (λ none. absurd (cc none))))))

-- an arrival, from its row on
arrival_words-from : (word text : List ℕ) (words : Words) → arrival_words word text ≡ Some words → (words_fit words ≡ true) × (spaced word text ≡ words_text words)
arrival_words-from word text words h =
    step (cut_at 32 text) h (λ parts cut h.
    step (row_number parts.0) h (λ row found h.
    let (range, row_is) = rows.from parts.0 row found in
    let (fits, is) = worded_arrival-from word row parts.1 words range h in
    (fits, rw (cut_at-Some 32 text parts cut, row_is, is) refl)))

-- two words or more
longer_words-from : (text : List ℕ) (words : Words) → longer_words text ≡ Some words → (words_fit words ≡ true) × (text ≡ words_text words)
longer_words-from text words h =
    step (cut_at 32 text) h (λ parts cut h.
    let whole = cut_at-Some 32 text parts cut in
    by_word parts.0 (codes "run") h
    (λ word h. by_map Run (key_named parts.1) h (λ key found is.
    (let (fits, key_is) = keys.from parts.1 key found in
    rw (← is) (fits, rw (whole, word, key_is) refl))))
    (λ h. (let (fits, is) = arrival_words-from parts.0 parts.1 words h in (fits, whole ∙ is))))

-- words that are read
pub words_of-from : (text : List ℕ) (words : Words) → words_of text ≡ Some words → (words_fit words ≡ true) × (text ≡ words_text words)
words_of-from text words h =
    by_word text (codes "start") h (λ is same. rw (← Some_same same) (refl, is))
    (λ h. by_word text (codes "idle") h (λ is same. rw (← Some_same same) (refl, is))
    (λ h. longer_words-from text words h))

-- the words of an arrival are read by its kind
arrival-to : (word : List ℕ) (row : ℕ) (text : List ℕ) → Lacks 32 word → is_row row ≡ true → bytes_eq word (codes "run") ≡ false → longer_words (arrival_text word row text) ≡ worded_arrival word row text
arrival-to word row text lacks range other =
    rw (cut_at-append 32 word (spaced (decimal row) text) lacks, other, cut_at-append 32 (decimal row) text (row-lacks row range), rows.to row range) refl

-- the words of a line that is not the end are read as what it tells
abbrev pub IsNoEnd : Words → Type 0
IsNoEnd End = ⊥
IsNoEnd words = ⊤

pub words_of-to : (words : Words) → IsNoEnd words → words_fit words ≡ true → words_of (words_text words) ≡ Some words
words_of-to Start other fits = refl
words_of-to Idle other fits = refl
words_of-to End other fits = absurd other
words_of-to (Run key) other fits = rw (cut_at-append 32 (codes "run") (key_text key) refl, keys.to key fits) refl
words_of-to (Soft row slots a) other fits =
    let (front, answers) = and_parts (is_row row && number_fits slots) (soft_fits a) fits in
    let (range, small) = and_parts (is_row row) (number_fits slots) front in
    arrival-to (codes "soft") row (spaced (decimal slots) (soft_text a)) refl range refl
    ∙ rw (cut_at-append 32 (decimal slots) (soft_text a) (number-lacks slots small), numbers.to slots small, soft_answers.to a answers) refl
words_of-to (Firm row slots within a) other fits =
    let (front, answers) = and_parts (is_row row && number_fits slots && number_fits within) (firm_fits a) fits in
    let (front, near) = and_parts (is_row row && number_fits slots) (number_fits within) front in
    let (range, small) = and_parts (is_row row) (number_fits slots) front in
    arrival-to (codes "firm") row (spaced (decimal slots) (spaced (decimal within) (firm_text a))) refl range refl
    ∙ rw (cut_at-append 32 (decimal slots) (spaced (decimal within) (firm_text a)) (number-lacks slots small), cut_at-append 32 (decimal within) (firm_text a) (number-lacks within near), numbers.to slots small, numbers.to within near, firm_answers.to a answers) refl
words_of-to (Sporadic row name a) other fits =
    let (front, answers) = and_parts (is_row row && is_name name) (sporadic_fits a) fits in
    let (range, named) = and_parts (is_row row) (is_name name) front in
    arrival-to (codes "sporadic") row (spaced name (sporadic_text a)) refl range refl
    ∙ rw (cut_at-append 32 name (sporadic_text a) (name_lacks 32 name named refl), sporadic_answers.to a answers, named) refl
words_of-to (Done row key a) other fits =
    let (front, answers) = and_parts (is_row row && key_fits key) (done_fits a) fits in
    let (range, known) = and_parts (is_row row) (key_fits key) front in
    arrival-to (codes "done") row (spaced (key_text key) (done_text a)) refl range refl
    ∙ rw (cut_at-append 32 (key_text key) (done_text a) (key_text-lacks key known), done_answers.to a answers, keys.to key known) refl
words_of-to (Withdraw row firm a) other fits =
    let (front, answers) = and_parts (is_row row && is_row firm) (gone_fits a) fits in
    let (range, known) = and_parts (is_row row) (is_row firm) front in
    arrival-to (codes "withdraw") row (spaced (key_text (FirmKey firm)) (gone_text a)) refl range refl
    ∙ rw (cut_at-append 32 (key_text (FirmKey firm)) (gone_text a) (key_text-lacks (FirmKey firm) known), gone_answers.to a answers, firm_rows.to firm known) refl

-- two texts of bytes of words with a space between
spaced-bytes : (a b : List ℕ) → list_all is_word_byte a ≡ true → list_all is_word_byte b ≡ true → list_all is_word_byte (spaced a b) ≡ true
spaced-bytes a b first second = all-append is_word_byte a (32 ∷ b) first second

-- the words of an arrival are such bytes, where what follows is
arrival-bytes : (kind : List ℕ) (row : ℕ) (text : List ℕ) → list_all is_word_byte kind ≡ true → is_row row ≡ true → list_all is_word_byte text ≡ true → list_all is_word_byte (arrival_text kind row text) ≡ true
arrival-bytes kind row text first range rest =
    spaced-bytes kind (spaced (decimal row) text) first (spaced-bytes (decimal row) text (keys-words (decimal row) (row-keys row range)) rest)

-- the bytes of words
pub words_text-bytes : (words : Words) → words_fit words ≡ true → list_all is_word_byte (words_text words) ≡ true
words_text-bytes Start fits = refl
words_text-bytes Idle fits = refl
words_text-bytes End fits = refl
words_text-bytes (Run key) fits = spaced-bytes (codes "run") (key_text key) refl (keys-words (key_text key) (key_text-bytes key fits))
words_text-bytes (Soft row slots a) fits =
    let (front, answers) = and_parts (is_row row && number_fits slots) (soft_fits a) fits in
    let (range, small) = and_parts (is_row row) (number_fits slots) front in
    arrival-bytes (codes "soft") row (spaced (decimal slots) (soft_text a)) refl range
    (spaced-bytes (decimal slots) (soft_text a) (number-words slots small) (soft_text-bytes a answers))
words_text-bytes (Firm row slots within a) fits =
    let (front, answers) = and_parts (is_row row && number_fits slots && number_fits within) (firm_fits a) fits in
    let (front, near) = and_parts (is_row row && number_fits slots) (number_fits within) front in
    let (range, small) = and_parts (is_row row) (number_fits slots) front in
    arrival-bytes (codes "firm") row (spaced (decimal slots) (spaced (decimal within) (firm_text a))) refl range
    (spaced-bytes (decimal slots) (spaced (decimal within) (firm_text a)) (number-words slots small)
    (spaced-bytes (decimal within) (firm_text a) (number-words within near) (firm_text-bytes a answers)))
words_text-bytes (Sporadic row name a) fits =
    let (front, answers) = and_parts (is_row row && is_name name) (sporadic_fits a) fits in
    let (range, named) = and_parts (is_row row) (is_name name) front in
    arrival-bytes (codes "sporadic") row (spaced name (sporadic_text a)) refl range
    (spaced-bytes name (sporadic_text a) (keys-words name (name-keys name named)) (sporadic_text-bytes a answers))
words_text-bytes (Done row key a) fits =
    let (front, answers) = and_parts (is_row row && key_fits key) (done_fits a) fits in
    let (range, known) = and_parts (is_row row) (key_fits key) front in
    arrival-bytes (codes "done") row (spaced (key_text key) (done_text a)) refl range
    (spaced-bytes (key_text key) (done_text a) (keys-words (key_text key) (key_text-bytes key known)) (done_text-bytes a answers))
words_text-bytes (Withdraw row firm a) fits =
    let (front, answers) = and_parts (is_row row && is_row firm) (gone_fits a) fits in
    let (range, known) = and_parts (is_row row) (is_row firm) front in
    arrival-bytes (codes "withdraw") row (spaced (key_text (FirmKey firm)) (gone_text a)) refl range
    (spaced-bytes (key_text (FirmKey firm)) (gone_text a) (keys-words (key_text (FirmKey firm)) (key_text-bytes (FirmKey firm) known)) (gone_text-bytes a answers))

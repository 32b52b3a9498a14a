-- The words of an entry tell what it tells.
use Rattle.std.proofs.Common.{◌≡◌, ℕ, ◌<◌, ◌^◌, true, cond, List, [], ◌∷◌, ◌++◌, drop, get_or, Some, append_assoc, refl, sym, ap, ◌∙◌}
use Rattle.std.specs.Prelude.{codes, decimal, length, nat_lt, unwrap_or}
use Rattle.std.specs.List.{AllByRecursion}
use Rattle.std.specs.Str.{bytes_eq}
use Rattle.std.specs.Str.Parse.{digits_value}
use Rattle.std.proofs.lemmas.Bool.{ltb-true}
use Rattle.std.proofs.lemmas.Fmt.{digits_value-decimal}
use Rattle.slot_core.specs.declared.faults.Part.TheVariants.{Sporadic as SporadicPart}
use Rattle.slot_core.specs.declared.jobs.Key.{Key}
use Rattle.slot_core.specs.declared.jobs.Key.TheVariants.{Firm as FirmKey}
use Rattle.slot_core.specs.declared.tasks.Sporadic.{Sporadic as SporadicTask}
use Rattle.slot_core.specs.declared.tasks.TaskSet.{TaskSet}
use Rattle.slot_core.specs.declared.events.What.{What}
use Rattle.slot_core.specs.declared.events.What.TheVariants.{Start, Soft, Firm, Sporadic, Done, Withdraw, Run, Idle, End}
use Rattle.slot_core.specs.declared.events.Soft.{Soft as SoftAnswer}
use Rattle.slot_core.specs.declared.events.Soft.TheVariants.{Taken as SoftTaken, Full}
use Rattle.slot_core.specs.declared.events.Firm.{Firm as FirmAnswer}
use Rattle.slot_core.specs.declared.events.Firm.TheVariants.{Accepted, Late, Far, NoRoom}
use Rattle.slot_core.specs.declared.events.Spo.{Spo}
use Rattle.slot_core.specs.declared.events.Spo.TheVariants.{Taken as SporadicTaken, Soon}
use Rattle.slot_core.specs.declared.events.Done.{Done as DoneAnswer}
use Rattle.slot_core.specs.declared.events.Done.TheVariants.{Freed, NotRunning}
use Rattle.slot_core.specs.declared.events.Gone.{Gone}
use Rattle.slot_core.specs.declared.events.Gone.TheVariants.{Freed as GoneFreed, NoJob}
use Rattle.slot_core.specs.Output.Texts.{key_text, sporadic_name, soft_text, firm_text, sporadic_text, done_text, gone_text, what_text, worded}
use Rattle.slot_core.specs.Runs.Arrivals.{what_in_set, key_in_set, key_in_range}
use Rattle.slot_core.specs.Sets.Ranges.{is_sound}
use Rattle.slot_facts.specs.Lines.{IsWord64, soft_numbers, firm_numbers, sporadic_numbers, done_numbers, gone_numbers, what_numbers, what_in_range}
use Rattle.slot_facts.proofs.Sets.Tasks.{slice_get-within}
use Rattle.key_texts.specs.KeyTexts.{key_of_text, sporadic_named}
use Rattle.key_texts.proofs.DigitLemmas.{digits}
use Rattle.key_texts.proofs.KeyBytes.{IsNoKeyByte, space_is_no_key_byte, key_text-lacks}
use Rattle.key_texts.proofs.KeyLemmas.{sporadic_name-at, name_lacks, Lacks-append, key-from_IsKeyText}
use Rattle.key_texts.proofs.NameLemmas.{named-at, NamesApart-from_sound, sporadic_is_named}
use Rattle.service_laws.proofs.LineCuts.{IsWord, words_line, number-lacks}

-- the words of an answer
abbrev soft_words : SoftAnswer → List (List ℕ)
soft_words SoftTaken = codes "taken" ∷ []
soft_words (Full n) = codes "full" ∷ decimal n ∷ []

abbrev firm_words : FirmAnswer → List (List ℕ)
firm_words Accepted = codes "accepted" ∷ []
firm_words Late = codes "late" ∷ []
firm_words Far = codes "far" ∷ []
firm_words (NoRoom e) = codes "noroom" ∷ decimal e.until ∷ decimal e.need ∷ decimal e.room ∷ []

abbrev sporadic_words : Spo → List (List ℕ)
sporadic_words (SporadicTaken due) = codes "taken" ∷ decimal due ∷ []
sporadic_words (Soon next) = codes "soon" ∷ decimal next ∷ []

abbrev done_words : DoneAnswer → List (List ℕ)
done_words (Freed n) = codes "freed" ∷ decimal n ∷ []
done_words NotRunning = codes "notrunning" ∷ []

abbrev gone_words : Gone → List (List ℕ)
gone_words (GoneFreed n) = codes "freed" ∷ decimal n ∷ []
gone_words NoJob = codes "nojob" ∷ []

-- the words of an entry
abbrev pub what_words : TaskSet → What → List (List ℕ)
what_words set Start = codes "start" ∷ []
what_words set (Soft row slots a) = codes "soft" ∷ decimal row ∷ decimal slots ∷ soft_words a
what_words set (Firm row slots within a) =
    codes "firm" ∷ decimal row ∷ decimal slots ∷ decimal within ∷ firm_words a
what_words set (Sporadic row index a) =
    codes "sporadic" ∷ decimal row ∷ sporadic_name set index ∷ sporadic_words a
what_words set (Done row key a) = codes "done" ∷ decimal row ∷ key_text set key ∷ done_words a
what_words set (Withdraw row firm a) =
    codes "withdraw" ∷ decimal row ∷ key_text set (FirmKey firm) ∷ gone_words a
what_words set (Run key) = codes "run" ∷ key_text set key ∷ []
what_words set Idle = codes "idle" ∷ []
what_words set End = codes "end" ∷ []

-- numbers behind a word, and what follows
one_number : (word : List ℕ) (n : ℕ) (rest : List ℕ) → worded word n ++ 32 ∷ rest ≡ word ++ 32 ∷ (decimal n ++ 32 ∷ rest)
one_number word n rest = append_assoc word (32 ∷ decimal n) (32 ∷ rest)

two_numbers : (word : List ℕ) (m n : ℕ) (rest : List ℕ) → worded (worded word m) n ++ 32 ∷ rest ≡ word ++ 32 ∷ (decimal m ++ 32 ∷ (decimal n ++ 32 ∷ rest))
two_numbers word m n rest = one_number (worded word m) n rest ∙ one_number word m (decimal n ++ 32 ∷ rest)

three_numbers : (word : List ℕ) (l m n : ℕ) (rest : List ℕ) → worded (worded (worded word l) m) n ++ 32 ∷ rest ≡ word ++ 32 ∷ (decimal l ++ 32 ∷ (decimal m ++ 32 ∷ (decimal n ++ 32 ∷ rest)))
three_numbers word l m n rest =
    one_number (worded (worded word l) m) n rest ∙ two_numbers word l m (decimal n ++ 32 ∷ rest)

-- a number and a name behind a word, the words of an answer, and what follows
named_answer : (word : List ℕ) (n : ℕ) (name text rest line : List ℕ) → text ++ 32 ∷ rest ≡ line → (worded word n ++ 32 ∷ name ++ 32 ∷ text) ++ 32 ∷ rest ≡ word ++ 32 ∷ (decimal n ++ 32 ∷ (name ++ 32 ∷ line))
named_answer word n name text rest line is =
    append_assoc (worded word n ++ 32 ∷ name) (32 ∷ text) (32 ∷ rest)
    ∙ ap (λ t. (worded word n ++ 32 ∷ name) ++ 32 ∷ t) is
    ∙ append_assoc (worded word n) (32 ∷ name) (32 ∷ line)
    ∙ one_number word n (name ++ 32 ∷ line)

-- the text of an answer is its words, a space between two
soft_text-words : (a : SoftAnswer) (rest : List ℕ) → soft_text a ++ 32 ∷ rest ≡ words_line (soft_words a) rest
soft_text-words SoftTaken rest = refl
soft_text-words (Full n) rest = one_number (codes "full") n rest

firm_text-words : (a : FirmAnswer) (rest : List ℕ) → firm_text a ++ 32 ∷ rest ≡ words_line (firm_words a) rest
firm_text-words Accepted rest = refl
firm_text-words Late rest = refl
firm_text-words Far rest = refl
firm_text-words (NoRoom e) rest = three_numbers (codes "noroom") e.until e.need e.room rest

sporadic_text-words : (a : Spo) (rest : List ℕ) → sporadic_text a ++ 32 ∷ rest ≡ words_line (sporadic_words a) rest
sporadic_text-words (SporadicTaken due) rest = one_number (codes "taken") due rest
sporadic_text-words (Soon next) rest = one_number (codes "soon") next rest

done_text-words : (a : DoneAnswer) (rest : List ℕ) → done_text a ++ 32 ∷ rest ≡ words_line (done_words a) rest
done_text-words (Freed n) rest = one_number (codes "freed") n rest
done_text-words NotRunning rest = refl

gone_text-words : (a : Gone) (rest : List ℕ) → gone_text a ++ 32 ∷ rest ≡ words_line (gone_words a) rest
gone_text-words (GoneFreed n) rest = one_number (codes "freed") n rest
gone_text-words NoJob rest = refl

-- so is that of an entry
pub what_text-words : (set : TaskSet) (what : What) (rest : List ℕ) → what_text set what ++ 32 ∷ rest ≡ words_line (what_words set what) rest
what_text-words set Start rest = refl
what_text-words set (Soft row slots a) rest =
    let front = worded (worded (codes "soft") row) slots in
    append_assoc front (32 ∷ soft_text a) (32 ∷ rest)
    ∙ ap (λ t. front ++ 32 ∷ t) (soft_text-words a rest)
    ∙ two_numbers (codes "soft") row slots (words_line (soft_words a) rest)
what_text-words set (Firm row slots within a) rest =
    let front = worded (worded (worded (codes "firm") row) slots) within in
    append_assoc front (32 ∷ firm_text a) (32 ∷ rest)
    ∙ ap (λ t. front ++ 32 ∷ t) (firm_text-words a rest)
    ∙ three_numbers (codes "firm") row slots within (words_line (firm_words a) rest)
what_text-words set (Sporadic row index a) rest =
    named_answer (codes "sporadic") row (sporadic_name set index) (sporadic_text a) rest (words_line (sporadic_words a) rest) (sporadic_text-words a rest)
what_text-words set (Done row key a) rest =
    named_answer (codes "done") row (key_text set key) (done_text a) rest (words_line (done_words a) rest) (done_text-words a rest)
what_text-words set (Withdraw row firm a) rest =
    named_answer (codes "withdraw") row (key_text set (FirmKey firm)) (gone_text a) rest (words_line (gone_words a) rest) (gone_text-words a rest)
what_text-words set (Run key) rest = refl
what_text-words set Idle rest = refl
what_text-words set End rest = refl

-- numbers, names and keys are words
number_word : (n : ℕ) → n < 2 ^ 64 → IsWord (decimal n)
number_word n below = record { space = number-lacks 32 n below refl; bar = number-lacks 124 n below refl }

name_word : (set : TaskSet) (index : ℕ) → is_sound set ≡ true → nat_lt index (length set.sporadics) ≡ true → IsWord (sporadic_name set index)
name_word set index sound within =
    let (s, at) = slice_get-within set.sporadics index (ltb-true index (length set.sporadics) within) in
    let named = sporadic_is_named set index s sound at in
    rw (sporadic_name-at set index s at) (record { space = name_lacks 32 s.name named refl; bar = name_lacks 124 s.name named refl })

key_word : (set : TaskSet) (key : Key) → is_sound set ≡ true → key_in_set set key ≡ true → key_in_range key ≡ true → IsWord (key_text set key)
key_word set key sound in_set in_range =
    let bar_is_no_key_byte : IsNoKeyByte 124 = record { names = refl; digits = refl; point = refl; hash = refl; at_sign = refl; firm = refl; soft = refl } in
    record {
      space = key_text-lacks 32 set key space_is_no_key_byte sound in_set in_range;
      bar = key_text-lacks 124 set key bar_is_no_key_byte sound in_set in_range;
    }

firm_word : (set : TaskSet) (firm : ℕ) → firm < 2 ^ 64 → IsWord (key_text set (FirmKey firm))
firm_word set firm below =
    record {
      space = Lacks-append 32 (codes "firm:") (decimal firm) refl (number-lacks 32 firm below refl);
      bar = Lacks-append 124 (codes "firm:") (decimal firm) refl (number-lacks 124 firm below refl);
    }

-- the words of answers are words
soft_words-are : (a : SoftAnswer) → AllByRecursion IsWord64 (soft_numbers a) → AllByRecursion IsWord (soft_words a)
soft_words-are SoftTaken below = (record { space = refl; bar = refl }, tt)
soft_words-are (Full n) below = (record { space = refl; bar = refl }, (number_word n below.0, tt))

firm_words-are : (a : FirmAnswer) → AllByRecursion IsWord64 (firm_numbers a) → AllByRecursion IsWord (firm_words a)
firm_words-are Accepted below = (record { space = refl; bar = refl }, tt)
firm_words-are Late below = (record { space = refl; bar = refl }, tt)
firm_words-are Far below = (record { space = refl; bar = refl }, tt)
firm_words-are (NoRoom e) (until, (need, (room, _))) =
    (record { space = refl; bar = refl }, (number_word e.until until, (number_word e.need need, (number_word e.room room, tt))))

sporadic_words-are : (a : Spo) → AllByRecursion IsWord64 (sporadic_numbers a) → AllByRecursion IsWord (sporadic_words a)
sporadic_words-are (SporadicTaken due) below = (record { space = refl; bar = refl }, (number_word due below.0, tt))
sporadic_words-are (Soon next) below = (record { space = refl; bar = refl }, (number_word next below.0, tt))

done_words-are : (a : DoneAnswer) → AllByRecursion IsWord64 (done_numbers a) → AllByRecursion IsWord (done_words a)
done_words-are (Freed n) below = (record { space = refl; bar = refl }, (number_word n below.0, tt))
done_words-are NotRunning below = (record { space = refl; bar = refl }, tt)

gone_words-are : (a : Gone) → AllByRecursion IsWord64 (gone_numbers a) → AllByRecursion IsWord (gone_words a)
gone_words-are (GoneFreed n) below = (record { space = refl; bar = refl }, (number_word n below.0, tt))
gone_words-are NoJob below = (record { space = refl; bar = refl }, tt)

-- so are those of an entry of the set
pub what_words-are : (set : TaskSet) (what : What) → is_sound set ≡ true → what_in_set set what ≡ true → what_in_range what ≡ true → AllByRecursion IsWord64 (what_numbers what) → AllByRecursion IsWord (what_words set what)
what_words-are set Start sound in_set in_range below = (record { space = refl; bar = refl }, tt)
what_words-are set (Soft row slots a) sound in_set in_range (r, (s, rest)) =
    (record { space = refl; bar = refl }, (number_word row r, (number_word slots s, soft_words-are a rest)))
what_words-are set (Firm row slots within a) sound in_set in_range (r, (s, (w, rest))) =
    (record { space = refl; bar = refl }, (number_word row r, (number_word slots s, (number_word within w, firm_words-are a rest))))
what_words-are set (Sporadic row index a) sound in_set in_range (r, rest) =
    (record { space = refl; bar = refl }, (number_word row r, (name_word set index sound in_set, sporadic_words-are a rest)))
what_words-are set (Done row key a) sound in_set in_range (r, rest) =
    (record { space = refl; bar = refl }, (number_word row r, (key_word set key sound in_set in_range, done_words-are a rest)))
what_words-are set (Withdraw row firm a) sound in_set in_range (r, (f, rest)) =
    (record { space = refl; bar = refl }, (number_word row r, (firm_word set firm f, gone_words-are a rest)))
what_words-are set (Run key) sound in_set in_range below =
    (record { space = refl; bar = refl }, (key_word set key sound in_set in_range, tt))
what_words-are set Idle sound in_set in_range below = (record { space = refl; bar = refl }, tt)
what_words-are set End sound in_set in_range below = (record { space = refl; bar = refl }, tt)

-- the number, and the key, that the word at a place tells
abbrev word_at : List (List ℕ) → ℕ → List ℕ
word_at words i = get_or words i []

abbrev number_at : List (List ℕ) → ℕ → ℕ
number_at words i = digits_value 10 (word_at words i)

abbrev key_at : TaskSet → List (List ℕ) → ℕ → Key
key_at set words i = unwrap_or (key_of_text set (word_at words i)) (FirmKey 0)

-- the answer that its words tell
abbrev soft_of : List (List ℕ) → SoftAnswer
soft_of words = cond (bytes_eq (word_at words 0) (codes "taken")) SoftTaken (Full (number_at words 1))

abbrev firm_of : List (List ℕ) → FirmAnswer
firm_of words =
    cond (bytes_eq (word_at words 0) (codes "accepted")) Accepted
    (cond (bytes_eq (word_at words 0) (codes "late")) Late
    (cond (bytes_eq (word_at words 0) (codes "far")) Far
    (NoRoom (record { until = number_at words 1; need = number_at words 2; room = number_at words 3 }))))

abbrev sporadic_of : List (List ℕ) → Spo
sporadic_of words =
    cond (bytes_eq (word_at words 0) (codes "taken")) (SporadicTaken (number_at words 1)) (Soon (number_at words 1))

abbrev done_of : List (List ℕ) → DoneAnswer
done_of words = cond (bytes_eq (word_at words 0) (codes "freed")) (Freed (number_at words 1)) NotRunning

abbrev gone_of : List (List ℕ) → Gone
gone_of words = cond (bytes_eq (word_at words 0) (codes "freed")) (GoneFreed (number_at words 1)) NoJob

-- what the words of an entry tell
abbrev what_of : TaskSet → List (List ℕ) → What
what_of set words =
    let first = word_at words 0 in
    cond (bytes_eq first (codes "start")) Start
    (cond (bytes_eq first (codes "soft")) (Soft (number_at words 1) (number_at words 2) (soft_of (drop 3 words)))
    (cond (bytes_eq first (codes "firm")) (Firm (number_at words 1) (number_at words 2) (number_at words 3) (firm_of (drop 4 words)))
    (cond (bytes_eq first (codes "sporadic")) (Sporadic (number_at words 1) (unwrap_or (sporadic_named set.sporadics (word_at words 2)) 0) (sporadic_of (drop 3 words)))
    (cond (bytes_eq first (codes "done")) (Done (number_at words 1) (key_at set words 2) (done_of (drop 3 words)))
    (cond (bytes_eq first (codes "withdraw")) (Withdraw (number_at words 1) (digits_value 10 (drop 5 (word_at words 2))) (gone_of (drop 3 words)))
    (cond (bytes_eq first (codes "run")) (Run (key_at set words 1))
    (cond (bytes_eq first (codes "idle")) Idle End)))))))

-- a number is read back
number : (n : ℕ) → n < 2 ^ 64 → digits_value 10 (decimal n) ≡ n
number n below = digits_value-decimal digits n below

-- so is an answer
soft_of-words : (a : SoftAnswer) → AllByRecursion IsWord64 (soft_numbers a) → soft_of (soft_words a) ≡ a
soft_of-words SoftTaken below = refl
soft_of-words (Full n) below = ap Full (number n below.0)

firm_of-words : (a : FirmAnswer) → AllByRecursion IsWord64 (firm_numbers a) → firm_of (firm_words a) ≡ a
firm_of-words Accepted below = refl
firm_of-words Late below = refl
firm_of-words Far below = refl
firm_of-words (NoRoom e) (until, (need, (room, _))) = rw (number e.until until, number e.need need, number e.room room) refl

sporadic_of-words : (a : Spo) → AllByRecursion IsWord64 (sporadic_numbers a) → sporadic_of (sporadic_words a) ≡ a
sporadic_of-words (SporadicTaken due) below = ap SporadicTaken (number due below.0)
sporadic_of-words (Soon next) below = ap Soon (number next below.0)

done_of-words : (a : DoneAnswer) → AllByRecursion IsWord64 (done_numbers a) → done_of (done_words a) ≡ a
done_of-words (Freed n) below = ap Freed (number n below.0)
done_of-words NotRunning below = refl

gone_of-words : (a : Gone) → AllByRecursion IsWord64 (gone_numbers a) → gone_of (gone_words a) ≡ a
gone_of-words (GoneFreed n) below = ap GoneFreed (number n below.0)
gone_of-words NoJob below = refl

-- so are a name and a key
index_of-name : (set : TaskSet) (index : ℕ) → is_sound set ≡ true → nat_lt index (length set.sporadics) ≡ true → sporadic_named set.sporadics (sporadic_name set index) ≡ Some index
index_of-name set index sound within =
    let (s, at) = slice_get-within set.sporadics index (ltb-true index (length set.sporadics) within) in
    rw (sporadic_name-at set index s at) (named-at (λ (s : SporadicTask). s.name) SporadicPart set.sporadics index s (NamesApart-from_sound set sound).sporadics at)

key_of-text : (set : TaskSet) (key : Key) → is_sound set ≡ true → key_in_set set key ≡ true → key_in_range key ≡ true → key_of_text set (key_text set key) ≡ Some key
key_of-text set key sound in_set in_range =
    key-from_IsKeyText set (key_text set key) key sound (record { in_set = in_set; in_range = in_range; is_text = refl })

-- so is what an entry of the set tells
what_of-words : (set : TaskSet) (what : What) → is_sound set ≡ true → what_in_set set what ≡ true → what_in_range what ≡ true → AllByRecursion IsWord64 (what_numbers what) → what_of set (what_words set what) ≡ what
what_of-words set Start sound in_set in_range below = refl
what_of-words set (Soft row slots a) sound in_set in_range (r, (s, rest)) =
    rw (number row r, number slots s, soft_of-words a rest) refl
what_of-words set (Firm row slots within a) sound in_set in_range (r, (s, (w, rest))) =
    rw (number row r, number slots s, number within w, firm_of-words a rest) refl
what_of-words set (Sporadic row index a) sound in_set in_range (r, rest) =
    rw (number row r, index_of-name set index sound in_set, sporadic_of-words a rest) refl
what_of-words set (Done row key a) sound in_set in_range (r, rest) =
    rw (number row r, key_of-text set key sound in_set in_range, done_of-words a rest) refl
what_of-words set (Withdraw row firm a) sound in_set in_range (r, (f, rest)) =
    rw (number row r, number firm f, gone_of-words a rest) refl
what_of-words set (Run key) sound in_set in_range below = rw (key_of-text set key sound in_set in_range) refl
what_of-words set Idle sound in_set in_range below = refl
what_of-words set End sound in_set in_range below = refl

-- so entries of the set with the same words tell the same
pub same_what : (set : TaskSet) (a b : What) → is_sound set ≡ true → what_in_set set a ≡ true → what_in_set set b ≡ true → what_in_range a ≡ true → what_in_range b ≡ true → AllByRecursion IsWord64 (what_numbers a) → AllByRecursion IsWord64 (what_numbers b) → what_words set a ≡ what_words set b → a ≡ b
same_what set a b sound in_a in_b range_a range_b below_a below_b e =
    sym (what_of-words set a sound in_a range_a below_a) ∙ ap (what_of set) e ∙ what_of-words set b sound in_b range_b below_b

-- The answers to arrivals are read exactly from their texts, which are of bytes of words.
use Rattle.std.proofs.Common.{◌≡◌, ℕ, true, ◌&&◌, List, ◌∷◌, ◌++◌, Some, refl, sym, ap, ◌∙◌, append_assoc}
use Rattle.std.specs.Prelude.{codes, decimal, option_map}
use Rattle.std.specs.List.{list_all}
use Rattle.std.proofs.lemmas.Bool.{and_parts}
use Rattle.slot_core.specs.declared.jobs.Evidence.{Evidence}
use Rattle.slot_core.specs.declared.events.Soft.{Soft as SoftAnswer}
use Rattle.slot_core.specs.declared.events.Soft.TheVariants.{Taken as SoftTaken, Full}
use Rattle.slot_core.specs.declared.events.Firm.{Firm as FirmAnswer}
use Rattle.slot_core.specs.declared.events.Firm.TheVariants.{Accepted, Late, Far, NoRoom}
use Rattle.slot_core.specs.declared.events.Spo.{Spo}
use Rattle.slot_core.specs.declared.events.Spo.TheVariants.{Taken as SporadicTaken, Soon}
use Rattle.slot_core.specs.declared.events.Done.{Done as DoneAnswer}
use Rattle.slot_core.specs.declared.events.Done.TheVariants.{Freed, NotRunning}
use Rattle.slot_core.specs.declared.events.Gone.{Gone}
use Rattle.slot_core.specs.declared.events.Gone.TheVariants.{Freed as GoneFreed, NoJob}
use Rattle.slot_core.specs.Output.Texts.{worded, soft_text, firm_text, sporadic_text, done_text, gone_text}
use Rattle.key_texts.specs.KeyTexts.{cut_at}
use Rattle.key_texts.specs.Numbers.{number_of}
use Rattle.key_texts.proofs.CutLemmas.{cut_at-Some, cut_at-append}
use Rattle.key_texts.proofs.KeyLemmas.{step}
use Rattle.key_texts.proofs.PlaceLemmas.{Some_same}
use Rattle.trace_lines.specs.Ranges.{number_fits, soft_fits, firm_fits, sporadic_fits, done_fits, gone_fits}
use Rattle.trace_lines.specs.Readings.{soft_answer, no_room, firm_answer, sporadic_answer, done_answer, gone_answer, number_after}
use Rattle.trace_lines.proofs.ByteLemmas.{all-append, is_word_byte}
use Rattle.trace_lines.proofs.Choices.{all_three, by_map, by_word}
use Rattle.trace_lines.proofs.NumberReads.{IsExact, numbers, numbers_after, number-lacks, number-words}

-- soft work
soft_answer-from : (text : List ℕ) (a : SoftAnswer) → soft_answer text ≡ Some a → (soft_fits a ≡ true) × (text ≡ soft_text a)
soft_answer-from text a h =
    by_word text (codes "taken") h
    (λ word is. rw (← Some_same is) (refl, word))
    (λ h. by_map Full (number_after (codes "full") text) h
    (λ n found is. rw (← is) ((numbers_after (codes "full") refl).from text n found)))

soft_answer-to : (a : SoftAnswer) → soft_fits a ≡ true → soft_answer (soft_text a) ≡ Some a
soft_answer-to SoftTaken fits = refl
soft_answer-to (Full n) fits = ap (option_map Full) ((numbers_after (codes "full") refl).to n fits)

pub soft_answers : IsExact soft_answer soft_text soft_fits
soft_answers = record { from = soft_answer-from; to = soft_answer-to }

-- three parts behind a word
nested : (word a b c : List ℕ) → word ++ 32 ∷ (a ++ 32 ∷ (b ++ 32 ∷ c)) ≡ ((word ++ 32 ∷ a) ++ 32 ∷ b) ++ 32 ∷ c
nested word a b c = simp append_assoc

-- a refusal for want of room
no_room-from : (text : List ℕ) (a : FirmAnswer) → no_room text ≡ Some a → (firm_fits a ≡ true) × (text ≡ firm_text a)
no_room-from text a h =
    step (cut_at 32 text) h (λ parts cut h.
    step (cut_at 32 parts.1) h (λ first after h.
    step (cut_at 32 first.1) h (λ second last h.
    step (number_of first.0) h (λ until found h.
    step (number_of second.0) h (λ need there h.
    step (number_of second.1) h (λ room also h.
    by_word parts.0 (codes "noroom") h
    (λ word is.
    (let (one, until_is) = numbers.from first.0 until found in
    let (two, need_is) = numbers.from second.0 need there in
    let (three, room_is) = numbers.from second.1 room also in
    rw (← Some_same is) (all_three (number_fits until) (number_fits need) (number_fits room) one two three, rw (cut_at-Some 32 text parts cut, cut_at-Some 32 parts.1 first after, cut_at-Some 32 first.1 second last, word, until_is, need_is, room_is) (nested (codes "noroom") (decimal until) (decimal need) (decimal room)))))
    (λ none. absurd (cc none))))))))

no_room-to : (e : Evidence) → firm_fits (NoRoom e) ≡ true → no_room (firm_text (NoRoom e)) ≡ Some (NoRoom e)
no_room-to e fits =
    let (two, three) = and_parts (number_fits e.until && number_fits e.need) (number_fits e.room) fits in
    let (one, two) = and_parts (number_fits e.until) (number_fits e.need) two in
    let whole = sym (nested (codes "noroom") (decimal e.until) (decimal e.need) (decimal e.room)) in
    let first = cut_at-append 32 (codes "noroom") (decimal e.until ++ 32 ∷ (decimal e.need ++ 32 ∷ decimal e.room)) refl in
    let second = cut_at-append 32 (decimal e.until) (decimal e.need ++ 32 ∷ decimal e.room) (number-lacks e.until one) in
    let third = cut_at-append 32 (decimal e.need) (decimal e.room) (number-lacks e.need two) in
    ap no_room whole ∙ rw (first, second, third, numbers.to e.until one, numbers.to e.need two, numbers.to e.room three) refl

-- a firm task
firm_answer-from : (text : List ℕ) (a : FirmAnswer) → firm_answer text ≡ Some a → (firm_fits a ≡ true) × (text ≡ firm_text a)
firm_answer-from text a h =
    by_word text (codes "accepted") h (λ word is. rw (← Some_same is) (refl, word))
    (λ h. by_word text (codes "late") h (λ word is. rw (← Some_same is) (refl, word))
    (λ h. by_word text (codes "far") h (λ word is. rw (← Some_same is) (refl, word))
    (λ h. no_room-from text a h)))

firm_answer-to : (a : FirmAnswer) → firm_fits a ≡ true → firm_answer (firm_text a) ≡ Some a
firm_answer-to Accepted fits = refl
firm_answer-to Late fits = refl
firm_answer-to Far fits = refl
firm_answer-to (NoRoom e) fits = no_room-to e fits

pub firm_answers : IsExact firm_answer firm_text firm_fits
firm_answers = record { from = firm_answer-from; to = firm_answer-to }

-- a sporadic arrival
sporadic_answer-from : (text : List ℕ) (a : Spo) → sporadic_answer text ≡ Some a → (sporadic_fits a ≡ true) × (text ≡ sporadic_text a)
sporadic_answer-from text a h =
    step (cut_at 32 text) h (λ parts cut h.
    step (number_of parts.1) h (λ time found h.
    let (fits, time_is) = numbers.from parts.1 time found in
    let whole = cut_at-Some 32 text parts cut in
    by_word parts.0 (codes "taken") h (λ word is. rw (← Some_same is) (fits, rw (whole, word, time_is) refl))
    (λ h. by_word parts.0 (codes "soon") h (λ word is. rw (← Some_same is) (fits, rw (whole, word, time_is) refl))
    (λ none. absurd (cc none)))))

sporadic_answer-to : (a : Spo) → sporadic_fits a ≡ true → sporadic_answer (sporadic_text a) ≡ Some a
sporadic_answer-to (SporadicTaken due) fits = rw (cut_at-append 32 (codes "taken") (decimal due) refl, numbers.to due fits) refl
sporadic_answer-to (Soon next) fits = rw (cut_at-append 32 (codes "soon") (decimal next) refl, numbers.to next fits) refl

pub sporadic_answers : IsExact sporadic_answer sporadic_text sporadic_fits
sporadic_answers = record { from = sporadic_answer-from; to = sporadic_answer-to }

-- an early end
done_answer-from : (text : List ℕ) (a : DoneAnswer) → done_answer text ≡ Some a → (done_fits a ≡ true) × (text ≡ done_text a)
done_answer-from text a h =
    by_word text (codes "notrunning") h
    (λ word is. rw (← Some_same is) (refl, word))
    (λ h. by_map Freed (number_after (codes "freed") text) h
    (λ n found is. rw (← is) ((numbers_after (codes "freed") refl).from text n found)))

done_answer-to : (a : DoneAnswer) → done_fits a ≡ true → done_answer (done_text a) ≡ Some a
done_answer-to NotRunning fits = refl
done_answer-to (Freed n) fits = ap (option_map Freed) ((numbers_after (codes "freed") refl).to n fits)

pub done_answers : IsExact done_answer done_text done_fits
done_answers = record { from = done_answer-from; to = done_answer-to }

-- a withdrawal
gone_answer-from : (text : List ℕ) (a : Gone) → gone_answer text ≡ Some a → (gone_fits a ≡ true) × (text ≡ gone_text a)
gone_answer-from text a h =
    by_word text (codes "nojob") h
    (λ word is. rw (← Some_same is) (refl, word))
    (λ h. by_map GoneFreed (number_after (codes "freed") text) h
    (λ n found is. rw (← is) ((numbers_after (codes "freed") refl).from text n found)))

gone_answer-to : (a : Gone) → gone_fits a ≡ true → gone_answer (gone_text a) ≡ Some a
gone_answer-to NoJob fits = refl
gone_answer-to (GoneFreed n) fits = ap (option_map GoneFreed) ((numbers_after (codes "freed") refl).to n fits)

pub gone_answers : IsExact gone_answer gone_text gone_fits
gone_answers = record { from = gone_answer-from; to = gone_answer-to }

-- a word, a space and a number are of bytes of words
worded-bytes : (word : List ℕ) (n : ℕ) → list_all is_word_byte word ≡ true → number_fits n ≡ true → list_all is_word_byte (worded word n) ≡ true
worded-bytes word n all fits = all-append is_word_byte word (32 ∷ decimal n) all (number-words n fits)

-- so is each answer
pub soft_text-bytes : (a : SoftAnswer) → soft_fits a ≡ true → list_all is_word_byte (soft_text a) ≡ true
soft_text-bytes SoftTaken fits = refl
soft_text-bytes (Full n) fits = worded-bytes (codes "full") n refl fits

pub firm_text-bytes : (a : FirmAnswer) → firm_fits a ≡ true → list_all is_word_byte (firm_text a) ≡ true
firm_text-bytes Accepted fits = refl
firm_text-bytes Late fits = refl
firm_text-bytes Far fits = refl
firm_text-bytes (NoRoom e) fits =
    let (two, three) = and_parts (number_fits e.until && number_fits e.need) (number_fits e.room) fits in
    let (one, two) = and_parts (number_fits e.until) (number_fits e.need) two in
    worded-bytes (worded (worded (codes "noroom") e.until) e.need) e.room
    (worded-bytes (worded (codes "noroom") e.until) e.need (worded-bytes (codes "noroom") e.until refl one) two)
    three

pub sporadic_text-bytes : (a : Spo) → sporadic_fits a ≡ true → list_all is_word_byte (sporadic_text a) ≡ true
sporadic_text-bytes (SporadicTaken due) fits = worded-bytes (codes "taken") due refl fits
sporadic_text-bytes (Soon next) fits = worded-bytes (codes "soon") next refl fits

pub done_text-bytes : (a : DoneAnswer) → done_fits a ≡ true → list_all is_word_byte (done_text a) ≡ true
done_text-bytes NotRunning fits = refl
done_text-bytes (Freed n) fits = worded-bytes (codes "freed") n refl fits

pub gone_text-bytes : (a : Gone) → gone_fits a ≡ true → list_all is_word_byte (gone_text a) ≡ true
gone_text-bytes NoJob fits = refl
gone_text-bytes (GoneFreed n) fits = worded-bytes (codes "freed") n refl fits

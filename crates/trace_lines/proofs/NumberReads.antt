-- A reader of a kind of value and its writer belong together: it reads exactly their texts.
use Rattle.std.proofs.Common.{◌≡◌, ℕ, Bool, true, List, Option, Some, refl, ◌∙◌, inl, inr, arith}
use Rattle.std.specs.Prelude.{decimal}
use Rattle.std.proofs.lemmas.Bool.{cases_Bool, le-leb, leb-true}
use Rattle.slot_core.specs.declared.TheConstants.{ARRIVAL_LIMIT, NUMBER_LIMIT}
use Rattle.slot_core.specs.Output.Texts.{worded}
use Rattle.slot_core.specs.Sets.Names.{is_name}
use Rattle.key_texts.specs.KeyTexts.{cut_at}
use Rattle.key_texts.specs.Numbers.{number_of, row_number}
use Rattle.key_texts.proofs.CutLemmas.{Lacks, cut_at-Some, cut_at-append}
use Rattle.key_texts.proofs.DigitLemmas.{number_of-decimal, decimal-number_of, number_between-decimal, decimal-number_between}
use Rattle.key_texts.proofs.KeyLemmas.{step, digits_lack, row_lacks}
use Rattle.key_texts.proofs.NameLemmas.{bytes_eq-same}
use Rattle.key_texts.proofs.PlaceLemmas.{Some_same}
use Rattle.trace_lines.specs.Ranges.{number_fits, is_row}
use Rattle.trace_lines.specs.Readings.{name_of, number_after}
use Rattle.std.specs.List.{list_all}
use Rattle.trace_lines.proofs.ByteLemmas.{decimal-keys, is_word_byte, keys-words}
use Rattle.trace_lines.proofs.Choices.{by_word}

-- what is read fits and has this text, and what fits is read from its text
pub record IsExact {X : Type 0} (read : List ℕ → Option X) (write : X → List ℕ) (fits : X → Bool) : Type 0 where
  pub from : (text : List ℕ) (x : X) → read text ≡ Some x → (fits x ≡ true) × (text ≡ write x)
  pub to : (x : X) → fits x ≡ true → read (write x) ≡ Some x

-- numbers
pub numbers : IsExact number_of decimal number_fits
numbers =
    record {
      from = λ text n h. (let (small, is) = number_of-decimal n text h in (le-leb n NUMBER_LIMIT small, is));
      to = λ n fits. decimal-number_of n (decimal n) (leb-true n NUMBER_LIMIT fits) refl;
    }

-- rows
pub rows : IsExact row_number decimal is_row
rows =
    record {
      from = λ text n h. number_between-decimal 1 ARRIVAL_LIMIT n text (omega arith) h;
      to = λ n fits. decimal-number_between 1 ARRIVAL_LIMIT n (decimal n) (omega arith) fits refl;
    }

-- a text that is read as a name
name_of-from : (text name : List ℕ) → name_of text ≡ Some name → (is_name name ≡ true) × (text ≡ name)
name_of-from text name h =
    elim (cases_Bool (is_name text)) [
      | inl is ↦ let same : text ≡ name = Some_same (rw is at h) in (rw (← same) is, same)
      | inr other ↦ let none = rw other at h in cc
    ]

-- names
pub names : IsExact name_of (λ name. name) is_name
names = record { from = name_of-from; to = λ name fits. rw fits refl }

-- a text that is read as a word and a number
number_after-from : (word text : List ℕ) (n : ℕ) → number_after word text ≡ Some n → (number_fits n ≡ true) × (text ≡ worded word n)
number_after-from word text n h =
    step (cut_at 32 text) h (λ parts cut h.
    by_word parts.0 word h
    (λ is found.
    (let (fits, digits) = numbers.from parts.1 n found in
    (fits, cut_at-Some 32 text parts cut ∙ rw (is, digits) refl)))
    (λ none. absurd (cc none)))

-- a word without a space, a space, and a number
pub numbers_after : (word : List ℕ) → Lacks 32 word → IsExact (number_after word) (worded word) number_fits
numbers_after word lacks =
    record {
      from = number_after-from word;
      to = λ n fits. rw (cut_at-append 32 word (decimal n) lacks, bytes_eq-same word, numbers.to n fits) refl;
    }

-- a number has no space
pub number-lacks : (n : ℕ) → number_fits n ≡ true → Lacks 32 (decimal n)
number-lacks n fits = digits_lack 32 n (leb-true n NUMBER_LIMIT fits) refl

-- nor has a row
pub row-lacks : (row : ℕ) → is_row row ≡ true → Lacks 32 (decimal row)
row-lacks row fits = row_lacks 32 row fits refl

-- a number is of bytes of words
pub number-words : (n : ℕ) → number_fits n ≡ true → list_all is_word_byte (decimal n) ≡ true
number-words n fits = keys-words (decimal n) (decimal-keys n (leb-true n NUMBER_LIMIT fits))

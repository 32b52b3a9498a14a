-- The text of a supply is read line by line.
use Rattle.std.proofs.Common.{◌≡◌, ◌≢◌, ℕ, ◌+◌, ◌-◌, ◌≤◌, true, ◌&&◌, nat_lt, List, [], ◌∷◌, ◌++◌, length, Some, None, refl, sym, ap, subst, ◌∙◌, inl, inr, arith, append_assoc}
use Rattle.std.specs.Prelude.{All, codes, decimal, nat_le}
use Rattle.std.specs.List.{AllByRecursion}
use Rattle.std.specs.Str.{bytes_eq}
use Rattle.std.proofs.lemmas.Bool.{cases_Bool}
use Rattle.std.proofs.lemmas.Bool.Decides.{nat_tests}
use Rattle.std.proofs.lemmas.Grind.{flat_map-append}
use Rattle.std.proofs.lemmas.List.Elements.{All-from_recursion}
use Rattle.slot_core.specs.declared.TheConstants.{NUMBER_LIMIT, SLOT_LIMIT}
use Rattle.slot_core.specs.Output.Texts.{worded}
use Rattle.key_texts.specs.KeyTexts.{cut_at}
use Rattle.key_texts.specs.Numbers.{number_of}
use Rattle.key_texts.proofs.CutLemmas.{Lacks, cut_at-Some, cut_at-append}
use Rattle.key_texts.proofs.DigitLemmas.{decimal-number_of, number_of-decimal}
use Rattle.key_texts.proofs.KeyLemmas.{Lacks-append, digits_lack, step}
use Rattle.key_texts.proofs.NameLemmas.{same-from_bytes_eq}
use Rattle.key_texts.proofs.PlaceLemmas.{Some_same}
use Rattle.supply_lines.specs.Lines.{line_of}
use Rattle.view_stairs.specs.declared.lines.Step.{Step}
use Rattle.view_stairs.specs.Steps.{follows, foot, is_written, next_step, numbers_of, pair_of, step_bytes, step_from, step_of, steps_text, AreStairs, Breaks, IsRead, IsSmall, Leads}

-- the four numbers of a line are no greater than a number may be
pub record AreWritten (s : Step) : Type 0 where
  pub within : s.within ≤ NUMBER_LIMIT
  pub slots : s.supply.slots ≤ NUMBER_LIMIT
  pub from : s.supply.from ≤ NUMBER_LIMIT
  pub until : s.supply.until ≤ NUMBER_LIMIT

four : (a b c d n : ℕ) → a ≤ n → b ≤ n → c ≤ n → d ≤ n → (nat_le a n && nat_le b n && nat_le c n && nat_le d n) ≡ true
four a b c d n p q r s = grind (arith, nat_tests)

unfour : (a b c d n : ℕ) → (nat_le a n && nat_le b n && nat_le c n && nat_le d n) ≡ true → (a ≤ n) × (b ≤ n) × (c ≤ n) × (d ≤ n)
unfour a b c d n all = grind (arith, nat_tests)

pub written-to : (s : Step) → AreWritten s → is_written s ≡ true
written-to s w = four s.within s.supply.slots s.supply.from s.supply.until NUMBER_LIMIT w.within w.slots w.from w.until

written-from : (s : Step) → is_written s ≡ true → AreWritten s
written-from s is =
    let (w, n, f, u) = unfour s.within s.supply.slots s.supply.from s.supply.until NUMBER_LIMIT is in
    record { within = w; slots = n; from = f; until = u }

-- the bytes of a line, from the left
plain : (a b c d e : List ℕ) → (((a ++ 32 ∷ b) ++ 32 ∷ c) ++ 32 ∷ d) ++ 32 ∷ e ≡ a ++ 32 ∷ (b ++ 32 ∷ (c ++ 32 ∷ (d ++ 32 ∷ e)))
plain a b c d e = simp append_assoc

-- a line that is read has these bytes
step_from-is : (a b c d : List ℕ) (s : Step) → step_from a b c d ≡ Some s → AreWritten s × (codes "supply" ++ 32 ∷ (a ++ 32 ∷ (b ++ 32 ∷ (c ++ 32 ∷ d))) ≡ step_bytes s)
step_from-is a b c d s h =
    step (number_of a) h (λ w at_w h. step (number_of b) h (λ n at_n h. step (number_of c) h (λ f at_f h. step (number_of d) h (λ u at_u h.
    let same = Some_same h in
    let (w_few, w_is) = number_of-decimal w a at_w in
    let (n_few, n_is) = number_of-decimal n b at_n in
    let (f_few, f_is) = number_of-decimal f c at_f in
    let (u_few, u_is) = number_of-decimal u d at_u in
    subst (λ (s : Step). AreWritten s × (codes "supply" ++ 32 ∷ (a ++ 32 ∷ (b ++ 32 ∷ (c ++ 32 ∷ d))) ≡ step_bytes s)) same (
      record { within = w_few; slots = n_few; from = f_few; until = u_few },
      rw (w_is, n_is, f_is, u_is) (sym (plain (codes "supply") _ _ _ _)),
    )))))

numbers_of-is : (text : List ℕ) (s : Step) → numbers_of text ≡ Some s → AreWritten s × (codes "supply" ++ 32 ∷ text ≡ step_bytes s)
numbers_of-is text s h =
    step (cut_at 32 text) h (λ first cut h. step (cut_at 32 first.1) h (λ second cut_second h. step (cut_at 32 second.1) h (λ third cut_third h.
    let (w, is) = step_from-is first.0 second.0 third.0 third.1 s h in
    let last = ap (λ t. second.0 ++ 32 ∷ t) (cut_at-Some 32 second.1 third cut_third) in
    let rest = ap (λ t. first.0 ++ 32 ∷ t) (cut_at-Some 32 first.1 second cut_second ∙ last) in
    (w, ap (λ t. codes "supply" ++ 32 ∷ t) (cut_at-Some 32 text first cut ∙ rest) ∙ is))))

step_of-from : (bytes : List ℕ) (s : Step) → step_of bytes ≡ Some s → AreWritten s × (bytes ≡ step_bytes s)
step_of-from bytes s h =
    step (cut_at 32 bytes) h (λ parts cut h. elim (cases_Bool (bytes_eq parts.0 (codes "supply"))) [
      | inl is ↦
          let (w, same) = numbers_of-is parts.1 s (rw is at h) in
          (w, cut_at-Some 32 bytes parts cut ∙ ap (λ t. t ++ 32 ∷ parts.1) (same-from_bytes_eq parts.0 (codes "supply") is) ∙ same)
      | inr other ↦ absurd (let none = rw other at h in cc)
    ])

-- a line is read from its bytes
step_from-to : (s : Step) → AreWritten s → step_from (decimal s.within) (decimal s.supply.slots) (decimal s.supply.from) (decimal s.supply.until) ≡ Some s
step_from-to s w =
    rw (decimal-number_of s.within (decimal s.within) w.within refl, decimal-number_of s.supply.slots (decimal s.supply.slots) w.slots refl, decimal-number_of s.supply.from (decimal s.supply.from) w.from refl, decimal-number_of s.supply.until (decimal s.supply.until) w.until refl) refl

numbers_of-to : (a b c d : List ℕ) → Lacks 32 a → Lacks 32 b → Lacks 32 c → numbers_of (a ++ 32 ∷ (b ++ 32 ∷ (c ++ 32 ∷ d))) ≡ step_from a b c d
numbers_of-to a b c d first second third =
    rw (cut_at-append 32 a (b ++ 32 ∷ (c ++ 32 ∷ d)) first, cut_at-append 32 b (c ++ 32 ∷ d) second, cut_at-append 32 c d third) refl

step_of-to : (s : Step) → AreWritten s → step_of (step_bytes s) ≡ Some s
step_of-to s w =
    let a = decimal s.within in
    let b = decimal s.supply.slots in
    let c = decimal s.supply.from in
    let d = decimal s.supply.until in
    let numbers = numbers_of-to a b c d (digits_lack 32 s.within w.within refl) (digits_lack 32 s.supply.slots w.slots refl) (digits_lack 32 s.supply.from w.from refl) in
    ap step_of (plain (codes "supply") a b c d)
    ∙ rw (cut_at-append 32 (codes "supply") (a ++ 32 ∷ (b ++ 32 ∷ (c ++ 32 ∷ d))) refl) (numbers ∙ step_from-to s w)

-- a line has no line feed
lacks-worded : (word : List ℕ) (n : ℕ) → Lacks 10 word → n ≤ NUMBER_LIMIT → Lacks 10 (worded word n)
lacks-worded word n lacks few = Lacks-append 10 word (32 ∷ decimal n) lacks (digits_lack 10 n few refl)

bytes-lack : (s : Step) → AreWritten s → Lacks 10 (step_bytes s)
bytes-lack s w =
    let first = worded (codes "supply") s.within in
    let second = worded first s.supply.slots in
    let third = worded second s.supply.from in
    lacks-worded third s.supply.until (lacks-worded second s.supply.from (lacks-worded first s.supply.slots (lacks-worded (codes "supply") s.within refl w.within) w.slots) w.from) w.until

-- ---- lines that follow one another

next-from : (last : Step) (bytes : List ℕ) (s : Step) → next_step last bytes ≡ Some s → AreWritten s × (follows last s ≡ true) × (bytes ≡ step_bytes s)
next-from last bytes s h =
    step (step_of bytes) h (λ x found h. elim (cases_Bool (follows last x)) [
      | inl passed ↦
          let same : x ≡ s = Some_same (rw passed at h) in
          let (w, is) = step_of-from bytes x found in
          subst (λ (s : Step). AreWritten s × (follows last s ≡ true) × (bytes ≡ step_bytes s)) same (w, passed, is)
      | inr failed ↦ absurd (let none = rw failed at h in cc)
    ])

next-to : (last s : Step) → AreWritten s → follows last s ≡ true → next_step last (step_bytes s) ≡ Some s
next-to last s w passed = rw (step_of-to s w, passed) refl

Leads-more : (from mid s : Step) (steps : List Step) → Leads from steps mid → AreWritten s → follows mid s ≡ true → Leads from (steps ++ s ∷ []) s
Leads-more from mid s [] leads w passed = (written-to s w, subst (λ (x : Step). follows x s ≡ true) (sym leads) passed, refl)
Leads-more from mid s (first ∷ steps) (written, after, leads) w passed = (written, after, Leads-more first mid s steps leads w passed)

ended : (front line after : List ℕ) → (front ++ ((line ++ 10 ∷ []) ++ [])) ++ after ≡ front ++ (line ++ 10 ∷ after)
ended front line after = simp append_assoc

-- one line more is read
pub IsRead-more : (text rest after bytes : List ℕ) (steps : List Step) (last s : Step) → IsRead text steps last rest → cut_at 10 rest ≡ Some (bytes, after) → next_step last bytes ≡ Some s → IsRead text (steps ++ s ∷ []) s after
IsRead-more text rest after bytes steps last s read cut found =
    let (w, passed, is) = next-from last bytes s found in
    let rest_is : rest ≡ step_bytes s ++ 10 ∷ after = cut_at-Some 10 rest (bytes, after) cut ∙ ap (λ t. t ++ 10 ∷ after) is in
    let joined : steps_text (steps ++ s ∷ []) ++ after ≡ steps_text steps ++ (step_bytes s ++ 10 ∷ after) = ap (λ t. t ++ after) (flat_map-append (λ (x : Step). line_of (pair_of x)) steps (s ∷ [])) ∙ ended (steps_text steps) (step_bytes s) after in
    record {
      whole = read.whole ∙ ap (λ t. steps_text steps ++ t) rest_is ∙ sym joined;
      leads = Leads-more foot last s steps read.leads w passed;
    }

cut-line : (s : Step) (rest later : List ℕ) → AreWritten s → rest ≡ (step_bytes s ++ 10 ∷ []) ++ later → cut_at 10 rest ≡ Some (step_bytes s, later)
cut-line s rest later w is =
    ap (cut_at 10) (is ∙ append_assoc (step_bytes s) (10 ∷ []) later) ∙ cut_at-append 10 (step_bytes s) later (bytes-lack s w)

-- where the bytes of the next line are none that follow, the lines break there
Breaks-from : (text rest : List ℕ) (steps : List Step) (last : Step) → IsRead text steps last rest → ((parts : List ℕ × List ℕ) → cut_at 10 rest ≡ Some parts → next_step last parts.0 ≡ None) → (rest ≡ [] → steps ≡ []) → Breaks text (length steps + 1)
Breaks-from text rest steps last read none unfinished = record {
  front = steps;
  rest = rest;
  last = last;
  count = refl;
  read = read;
  nothing = λ s later written passed is.
      let w = written-from s written in
      let nowhere = none (step_bytes s, later) (cut-line s rest later w is) in
      absurd (cc (sym nowhere ∙ next-to last s w passed));
  unfinished = unfinished;
}

-- where the rest has no line feed and is not empty, they break
pub Breaks-unended : (text rest : List ℕ) (steps : List Step) (last : Step) (n : ℕ) → IsRead text steps last rest → cut_at 10 rest ≡ None → rest ≢ [] → length steps + 1 ≡ n → Breaks text n
Breaks-unended text rest steps last n read nowhere some count =
    subst (Breaks text) count (Breaks-from text rest steps last read (λ parts cut. absurd (cc (sym nowhere ∙ cut))) (λ empty. absurd (some empty)))

-- where the next line does not follow, they break
pub Breaks-line : (text rest bytes after : List ℕ) (steps : List Step) (last : Step) (n : ℕ) → IsRead text steps last rest → cut_at 10 rest ≡ Some (bytes, after) → next_step last bytes ≡ None → n ≡ length steps + 1 → Breaks text n
Breaks-line text rest bytes after steps last n read cut none count =
    let some : rest ≡ [] → ⊥ = λ empty. cc (sym (ap (cut_at 10) empty) ∙ cut) in
    subst (Breaks text) (sym count) (Breaks-from text rest steps last read (λ parts other. ap (λ (p : List ℕ × List ℕ). next_step last p.0) (Some_same (sym other ∙ cut)) ∙ none) (λ empty. absurd (some empty)))

-- where there is none at all, they break
pub Breaks-none : (text : List ℕ) (steps : List Step) (last : Step) (n : ℕ) → IsRead text steps last [] → steps ≡ [] → length steps + 1 ≡ n → Breaks text n
Breaks-none text steps last n read none count =
    subst (Breaks text) count (Breaks-from text [] steps last read (λ parts cut. absurd (cc cut)) (λ empty. none))

-- ---- the numbers of a staircase are small

small-next : (low base within slots limit : ℕ) → base ≤ low → (nat_lt low within && nat_le within limit && nat_le base slots && nat_le slots (base + (within - low))) ≡ true → (within ≤ limit) × (slots ≤ within)
small-next low base within slots limit few passed = grind (arith, nat_tests)

small-leads : (steps : List Step) (from to : Step) → from.supply.slots ≤ from.within → Leads from steps to → AllByRecursion IsSmall steps
small-leads [] from to few leads = tt
small-leads (s ∷ steps) from to few (written, passed, leads) =
    let (within, slots) = small-next from.within from.supply.slots s.within s.supply.slots SLOT_LIMIT few passed in
    ((within, omega (arith, within, slots)), small-leads steps s to slots leads)

pub small-stairs : (steps : List Step) → AreStairs steps → All IsSmall steps
small-stairs steps (some, last, leads) = All-from_recursion IsSmall steps (small-leads steps foot last (omega arith) leads)

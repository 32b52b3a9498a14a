-- The line of an entry has one line feed, at its end.
use Rattle.std.proofs.Common.{◌≡◌, ℕ, zero, suc, ◌+◌, ◌/◌, ◌%◌, ◌==◌, Bool, true, false, cond, List, [], ◌∷◌, ◌++◌, Ok, Err, append_assoc, refl, ap, ◌∙◌, arith}
use Rattle.std.specs.Prelude.{ℤ, pos, negsuc, codes, decimal, flat_map, length, nat_lt}
use Rattle.std.specs.Fmt.{digits, digits_onto, digit_glyph, signed_decimal}
use Rattle.std.specs.Option.{option_map_or}
use Rattle.std.proofs.lemmas.Bool.{ltb-true, ne_eqb}
use Rattle.slot_core.specs.declared.jobs.Key.TheVariants.{Firm as FirmKey}
use Rattle.slot_core.specs.declared.jobs.Span.{Span}
use Rattle.slot_core.specs.declared.tasks.TaskSet.{TaskSet}
use Rattle.slot_core.specs.declared.events.Entry.{Entry}
use Rattle.slot_core.specs.declared.events.What.{What}
use Rattle.slot_core.specs.declared.events.What.TheVariants.{Start, Soft, Firm, Sporadic, Done, Withdraw, Run, Idle, End}
use Rattle.slot_core.specs.declared.events.Soft.{Soft as SoftAnswer}
use Rattle.slot_core.specs.declared.events.Soft.TheVariants.{Taken as SoftTaken, Full}
use Rattle.slot_core.specs.declared.events.Firm.{Firm as FirmAnswer}
use Rattle.slot_core.specs.declared.events.Firm.TheVariants.{Accepted, Late, Far, NoRoom}
use Rattle.slot_core.specs.declared.events.Spo.{Spo}
use Rattle.slot_core.specs.declared.events.Spo.TheVariants.{Taken as SporadicTaken, Soon}
use Rattle.slot_core.specs.declared.events.Done.{Done as DoneAnswer}
use Rattle.slot_core.specs.declared.events.Done.TheVariants.{Freed, NotRunning}
use Rattle.slot_core.specs.declared.events.Gone.{Gone}
use Rattle.slot_core.specs.declared.events.Gone.TheVariants.{Freed as GoneFreed, NoJob}
use Rattle.slot_core.specs.Output.Texts.{worded, sporadic_name, key_text, soft_text, firm_text, sporadic_text, done_text, gone_text, what_text, span_text, shown_text, spans_text, entry_line}
use Rattle.slot_core.specs.Runs.Arrivals.{what_in_set}
use Rattle.slot_core.specs.Runs.ShownSpans.{ShownSpans}
use Rattle.slot_core.specs.Sets.Ranges.{is_sound}
use Rattle.slot_facts.specs.Lines.{what_in_range}
use Rattle.slot_facts.proofs.Sets.Tasks.{slice_get-within}
use Rattle.key_texts.specs.KeyTexts.{cut_at}
use Rattle.key_texts.proofs.CutLemmas.{Lacks, cut_at-append}
use Rattle.key_texts.proofs.KeyBytes.{IsNoKeyByte, key_text-lacks}
use Rattle.key_texts.proofs.KeyLemmas.{sporadic_name-at, name_lacks, Lacks-append}
use Rattle.key_texts.proofs.NameLemmas.{sporadic_is_named}
use Rattle.trace_verify.specs.Verdicts.{needed_line}
use Rattle.faults.specs.declared.verify_fault.VerifyFault.TheVariants.{Short}

-- no digit is a line feed
glyph-lacks : (d : ℕ) → (digit_glyph false d == 10) ≡ false
glyph-lacks d = by_test (nat_lt d 10)
  where
    by_test : (b : Bool) → (cond b (48 + d) (87 + d) == 10) ≡ false
    by_test true = ne_eqb (48 + d) 10 (λ e. absurd (omega (arith, e)))
    by_test false = ne_eqb (87 + d) 10 (λ e. absurd (omega (arith, e)))

-- of two texts without one, neither has one
either-lacks : (b : Bool) (xs ys : List ℕ) → Lacks 10 xs → Lacks 10 ys → Lacks 10 (cond b xs ys)
either-lacks true xs ys first second = first
either-lacks false xs ys first second = second

-- so the digits of a number have none
digits_onto-lacks : (k n : ℕ) (acc : List ℕ) → Lacks 10 acc → Lacks 10 (digits_onto k 10 false n acc)
digits_onto-lacks zero n acc lacks = lacks
digits_onto-lacks (suc k) n acc lacks =
    let more = digit_glyph false (n % 10) ∷ acc in
    let longer : Lacks 10 more = rw (glyph-lacks (n % 10)) lacks in
    either-lacks (n / 10 == 0) more (digits_onto k 10 false (n / 10) more) longer (digits_onto-lacks k (n / 10) more longer)

decimal-lacks : (n : ℕ) → Lacks 10 (decimal n)
unfolding digits
decimal-lacks n = digits_onto-lacks 64 n [] refl

-- nor has a number with a sign
signed-lacks : (z : ℤ) → Lacks 10 (signed_decimal z)
signed-lacks (pos n) = decimal-lacks n
signed-lacks (negsuc n) = decimal-lacks (suc n)

-- nor have two texts with a space between them
spaced-lacks : (xs ys : List ℕ) → Lacks 10 xs → Lacks 10 ys → Lacks 10 (xs ++ 32 ∷ ys)
spaced-lacks xs ys first second = Lacks-append 10 xs (32 ∷ ys) first second

-- nor has a word with a number
worded-lacks : (word : List ℕ) (n : ℕ) → Lacks 10 word → Lacks 10 (worded word n)
worded-lacks word n lacks = spaced-lacks word (decimal n) lacks (decimal-lacks n)

-- a line feed stands in no key
line_feed_is_no_key_byte : IsNoKeyByte 10
line_feed_is_no_key_byte = record { names = refl; digits = refl; point = refl; hash = refl; at_sign = refl; firm = refl; soft = refl }

-- nor in the name of a sporadic task
name-lacks : (set : TaskSet) (i : ℕ) → is_sound set ≡ true → nat_lt i (length set.sporadics) ≡ true → Lacks 10 (sporadic_name set i)
name-lacks set i sound within =
    let (s, at) = slice_get-within set.sporadics i (ltb-true i (length set.sporadics) within) in
    rw (sporadic_name-at set i s at) (name_lacks 10 s.name (sporadic_is_named set i s sound at) refl)

-- nor in the words of an answer
soft-lacks : (a : SoftAnswer) → Lacks 10 (soft_text a)
soft-lacks SoftTaken = refl
soft-lacks (Full n) = worded-lacks (codes "full") n refl

firm-lacks : (a : FirmAnswer) → Lacks 10 (firm_text a)
firm-lacks Accepted = refl
firm-lacks Late = refl
firm-lacks Far = refl
firm-lacks (NoRoom e) =
    let until = worded-lacks (codes "noroom") e.until refl in
    let need = worded-lacks (worded (codes "noroom") e.until) e.need until in
    worded-lacks (worded (worded (codes "noroom") e.until) e.need) e.room need

sporadic-lacks : (a : Spo) → Lacks 10 (sporadic_text a)
sporadic-lacks (SporadicTaken due) = worded-lacks (codes "taken") due refl
sporadic-lacks (Soon next) = worded-lacks (codes "soon") next refl

done-lacks : (a : DoneAnswer) → Lacks 10 (done_text a)
done-lacks (Freed n) = worded-lacks (codes "freed") n refl
done-lacks NotRunning = refl

gone-lacks : (a : Gone) → Lacks 10 (gone_text a)
gone-lacks (GoneFreed n) = worded-lacks (codes "freed") n refl
gone-lacks NoJob = refl

-- nor in the words of an entry that names what the set has
what-lacks : (set : TaskSet) (what : What) → is_sound set ≡ true → what_in_set set what ≡ true → what_in_range what ≡ true → Lacks 10 (what_text set what)
what-lacks set Start sound in_set in_range = refl
what-lacks set (Soft row slots a) sound in_set in_range =
    let front = worded-lacks (worded (codes "soft") row) slots (worded-lacks (codes "soft") row refl) in
    spaced-lacks (worded (worded (codes "soft") row) slots) (soft_text a) front (soft-lacks a)
what-lacks set (Firm row slots within a) sound in_set in_range =
    let asks = worded-lacks (worded (codes "firm") row) slots (worded-lacks (codes "firm") row refl) in
    let front = worded-lacks (worded (worded (codes "firm") row) slots) within asks in
    spaced-lacks (worded (worded (worded (codes "firm") row) slots) within) (firm_text a) front (firm-lacks a)
what-lacks set (Sporadic row index a) sound in_set in_range =
    let name = sporadic_name set index in
    let front = spaced-lacks (worded (codes "sporadic") row) name (worded-lacks (codes "sporadic") row refl) (name-lacks set index sound in_set) in
    spaced-lacks (worded (codes "sporadic") row ++ 32 ∷ name) (sporadic_text a) front (sporadic-lacks a)
what-lacks set (Done row key a) sound in_set in_range =
    let text = key_text set key in
    let named = key_text-lacks 10 set key line_feed_is_no_key_byte sound in_set in_range in
    let front = spaced-lacks (worded (codes "done") row) text (worded-lacks (codes "done") row refl) named in
    spaced-lacks (worded (codes "done") row ++ 32 ∷ text) (done_text a) front (done-lacks a)
what-lacks set (Withdraw row firm a) sound in_set in_range =
    let text = key_text set (FirmKey firm) in
    let named = Lacks-append 10 (codes "firm:") (decimal firm) refl (decimal-lacks firm) in
    let front = spaced-lacks (worded (codes "withdraw") row) text (worded-lacks (codes "withdraw") row refl) named in
    spaced-lacks (worded (codes "withdraw") row ++ 32 ∷ text) (gone_text a) front (gone-lacks a)
what-lacks set (Run key) sound in_set in_range =
    Lacks-append 10 (codes "run ") (key_text set key) refl (key_text-lacks 10 set key line_feed_is_no_key_byte sound in_set in_range)
what-lacks set Idle sound in_set in_range = refl
what-lacks set End sound in_set in_range = refl

-- nor in the text of a span
span-lacks : (s : Span) → Lacks 10 (span_text s)
span-lacks s =
    let start = Lacks-append 10 (decimal s.start) (codes "-") (decimal-lacks s.start) refl in
    let ends = Lacks-append 10 (decimal s.start ++ codes "-") (decimal s.end) start (decimal-lacks s.end) in
    let colon = Lacks-append 10 (decimal s.start ++ codes "-" ++ decimal s.end) (codes ":") ends refl in
    Lacks-append 10 (decimal s.start ++ codes "-" ++ decimal s.end ++ codes ":") (signed_decimal s.spare) colon (signed-lacks s.spare)

-- nor in that of several
spans-lack : (spans : List Span) → Lacks 10 (flat_map (λ (s : Span). 32 ∷ span_text s) spans)
spans-lack [] = refl
spans-lack (s ∷ spans) =
    Lacks-append 10 (32 ∷ span_text s) (flat_map (λ (s : Span). 32 ∷ span_text s) spans) (span-lacks s) (spans-lack spans)

-- nor in what a line shows
shown-lacks : (shown : ShownSpans) → Lacks 10 (shown_text shown)
shown-lacks shown =
    let more = codes " +" ++ decimal shown.more in
    let count = Lacks-append 10 (codes " +") (decimal shown.more) refl (decimal-lacks shown.more) in
    Lacks-append 10 (flat_map (λ (s : Span). 32 ∷ span_text s) shown.spans) (cond (nat_lt 0 shown.more) more []) (spans-lack shown.spans) (either-lacks (nat_lt 0 shown.more) more [] count refl)

shown_or_end-lacks : (what : What) (shown : ShownSpans) → Lacks 10 (spans_text what shown)
shown_or_end-lacks End shown = refl
shown_or_end-lacks what shown = Lacks-append 10 (codes " |") (shown_text shown) refl (shown-lacks shown)

-- the line of an entry without its line feed
abbrev pub entry_text : TaskSet → Entry → List ℕ
entry_text set entry =
    decimal entry.time ++ 32 ∷ what_text set entry.what ++ spans_text entry.what entry.shown

-- what an entry names is in the set, and the numbers of its keys are in range
pub record IsKnown (set : TaskSet) (what : What) : Type 0 where
  pub in_set : what_in_set set what ≡ true
  pub in_range : what_in_range what ≡ true

-- so that has no line feed
entry-lacks : (set : TaskSet) (entry : Entry) → is_sound set ≡ true → IsKnown set entry.what → Lacks 10 (entry_text set entry)
entry-lacks set entry sound known =
    let front = spaced-lacks (decimal entry.time) (what_text set entry.what) (decimal-lacks entry.time) (what-lacks set entry.what sound known.in_set known.in_range) in
    Lacks-append 10 (decimal entry.time ++ 32 ∷ what_text set entry.what) (spans_text entry.what entry.shown) front (shown_or_end-lacks entry.what entry.shown)

-- and is the line with which a text begins that begins with that of the entry
pub needed_line-entry : (set : TaskSet) (entry : Entry) (n : ℕ) (rest : List ℕ) → is_sound set ≡ true → IsKnown set entry.what → needed_line n (entry_line set entry ++ rest) ≡ Ok (entry_text set entry, rest)
needed_line-entry set entry n rest sound known =
    let line = entry_text set entry in
    let cut = ap (cut_at 10) (append_assoc line (10 ∷ []) rest) ∙ cut_at-append 10 line rest (entry-lacks set entry sound known) in
    ap (λ o. option_map_or (λ (parts : List ℕ × List ℕ). Ok parts) o (Err (Short n))) cut

-- A dialogue that is over is the replay of its arrivals.
use Rattle.std.proofs.Common.{◌≡◌, ℕ, ◌+◌, ◌<◌, ◌≤◌, true, false, List, [], ◌∷◌, ◌++◌, length, flat_map, if◌then◌else◌, nat_le, nat_lt, Ok, Err, refl, sym, ap, subst, ◌∙◌, inl, inr, append-nil, arith}
use Rattle.std.specs.Prelude.{⊤}
use Rattle.std.proofs.Math.ListN.{replicate}
use Rattle.std.proofs.lemmas.Bool.{and_from, and_parts, cases_Bool, eq-eqb, or_parts, le-leb, ltb-true}
use Rattle.std.proofs.lemmas.Grind.{flat_map-append}
use Rattle.std.proofs.lemmas.Result.{IfOk-at_ok}
use Rattle.std.specs.List.{list_any}
use Rattle.std.specs.Str.{is_utf8}
use Rattle.slot_core.specs.declared.TheConstants.{ARRIVAL_LIMIT, TIME_LIMIT}
use Rattle.slot_core.specs.declared.events.Arrival.{Arrival}
use Rattle.slot_core.specs.declared.events.Event.{Event}
use Rattle.slot_core.specs.declared.tasks.TaskSet.{TaskSet}
use Rattle.slot_core.specs.Output.Texts.{entry_line, trace_text}
use Rattle.slot_core.specs.Runs.Arrivals.{are_fitting, arrivals_follow, event_fits}
use Rattle.slot_core.specs.Runs.Histories.{History, last_row, time_of}
use Rattle.slot_core.specs.Runs.Traces.{arrive, slot, told_of, entries, history_after, started, trace}
use Rattle.slot_core.specs.Sets.Cycles.{cycle_of}
use Rattle.slot_facts.proofs.Legal.Traces.{last_row-arrival}
use Rattle.slot_facts.proofs.Replays.Entries.{entries_left, entries_left-arrival, entries_left-end, entries_left-start, entry_after, time_of-arrival}
use Rattle.plan_change.specs.declared.keep.Keep.{Keep}
use Rattle.live_lines.specs.Lines.{Heard, line, too_long, no_more}
use Rattle.live_lines.proofs.CommandLemmas.{command_of_text-fits}
use Rattle.live_lines.specs.declared.commands.LiveCommand.{LiveCommand}
use Rattle.live_lines.specs.declared.commands.LiveCommand.TheVariants.{Arrive, Pass, Ahead, Carried, End}
use Rattle.live_lines.specs.declared.line_fault.LineFault.{LineFault}
use Rattle.live_lines.specs.Commands.{Asked, fits_set, live_command_of}
use Rattle.live_run.specs.Dialogues.{Exchange, allowed, asked, asks_end, command_heard, exchanges, exchanges_from, history_heard, next_history, answer_text, arrivals_made, start_text, AreAnswers, GoesOn, IsAnswer}
use Rattle.live_run.specs.Replays.{DialoguesAreReplays, have_slots, is_traced, traced_text}
use Rattle.live_run.proofs.PassedSlots.{entries_left-slots, follow-earlier, row-slots, time-slots}

-- what may be asked for where the end is not: an arrival fits the set and has a row
abbrev MayAsk : TaskSet → History → Asked → Type 0
MayAsk set h (Ok (Arrive event)) = (event_fits set event ≡ true) × (last_row h < ARRIVAL_LIMIT)
MayAsk set h (Ok (Pass slots)) = ⊤
MayAsk set h (Ok (Ahead slots)) = ⊤
MayAsk set h (Ok (Carried keep)) = ⊤
MayAsk set h (Ok End) = ⊥
MayAsk set h (Err fault) = ⊤

-- an arrival that is heard fits the set
text-fits : (set : TaskSet) (bytes : List ℕ) (event : Event) → live_command_of set bytes ≡ Ok (Arrive event) → event_fits set event ≡ true
text-fits set bytes event is =
    elim (cases_Bool (is_utf8 bytes)) [
      | inl text ↦ IfOk-at_ok (λ command. fits_set set command ≡ true) (rw text at is) (command_of_text-fits set bytes)
      | inr other ↦ let none = rw other at is in cc
    ]

heard-fits : (set : TaskSet) (heard : Heard) (event : Event) → command_heard set heard ≡ Ok (Arrive event) → event_fits set event ≡ true
heard-fits set (line bytes) event is = text-fits set bytes event is
heard-fits set too_long event is = cc
heard-fits set no_more event is = cc

allowed-may : (set : TaskSet) (h : History) (heard : Heard) (command : LiveCommand) → command_heard set heard ≡ Ok command → asks_end set heard ≡ false → MayAsk set h (allowed (last_row h) (time_of h) command)
allowed-may set h heard (Arrive event) is goes =
    elim (cases_Bool (nat_lt (last_row h) ARRIVAL_LIMIT)) [
      | inl room ↦ rw room (heard-fits set heard event is, ltb-true (last_row h) ARRIVAL_LIMIT room)
      | inr full ↦ rw full tt
    ]
allowed-may set h heard (Pass slots) is goes =
    elim (cases_Bool (nat_le (time_of h + slots) TIME_LIMIT)) [
      | inl room ↦ rw room tt
      | inr past ↦ rw past tt
    ]
allowed-may set h heard (Ahead slots) is goes = tt
allowed-may set h heard (Carried keep) is goes = tt
allowed-may set h heard End is goes = let ends = rw is at goes in cc

command-may : (set : TaskSet) (h : History) (heard : Heard) (a : Asked) → command_heard set heard ≡ a → asks_end set heard ≡ false → MayAsk set h (asked set h heard)
command-may set h heard (Err fault) is goes = rw is tt
command-may set h heard (Ok command) is goes = rw is (allowed-may set h heard command is goes)

-- where the end is asked for, that is what is asked for
end-asked : (set : TaskSet) (h : History) (heard : Heard) (a : Asked) → command_heard set heard ≡ a → asks_end set heard ≡ true → asked set h heard ≡ Ok End
end-asked set h heard (Err fault) is ends = let none = rw is at ends in cc
end-asked set h heard (Ok (Arrive event)) is ends = let none = rw is at ends in cc
end-asked set h heard (Ok (Pass slots)) is ends = let none = rw is at ends in cc
end-asked set h heard (Ok (Ahead slots)) is ends = let none = rw is at ends in cc
end-asked set h heard (Ok (Carried keep)) is ends = let none = rw is at ends in cc
end-asked set h heard (Ok End) is ends = rw is refl

-- the lines of the entries that one exchange makes
abbrev entry_text : TaskSet → ℕ → Exchange → List ℕ
entry_text set cycle x =
    if is_traced x.asked then answer_text set cycle x.before x.asked else []

-- and of exchanges
abbrev entries_text : TaskSet → ℕ → List Exchange → List ℕ
entries_text set cycle xs = flat_map (entry_text set cycle) xs

-- where a text answers, it is that of the entries
answer-traced : (set : TaskSet) (cycle number : ℕ) (h : History) (a : Asked) (text : List ℕ) → IsAnswer set cycle h a text → (if is_traced a then text else []) ≡ entry_text set cycle (record { number = number; before = h; asked = a })
answer-traced set cycle number h (Ok (Arrive event)) text own = own
answer-traced set cycle number h (Ok (Pass slots)) text own = own
answer-traced set cycle number h (Ok (Ahead slots)) text own = refl
answer-traced set cycle number h (Ok (Carried keep)) text own = refl
answer-traced set cycle number h (Ok End) text own = own
answer-traced set cycle number h (Err fault) text own = refl

-- and so of texts that answer exchanges
answers-traced : (set : TaskSet) (cycle : ℕ) (xs : List Exchange) (texts : List (List ℕ)) → AreAnswers set cycle xs texts → traced_text xs texts ≡ entries_text set cycle xs
answers-traced set cycle [] [] all = refl
answers-traced set cycle [] (text ∷ texts) all = elim all [ ]
answers-traced set cycle (x ∷ xs) [] all = elim all [ ]
answers-traced set cycle (x ∷ xs) (text ∷ texts) all =
    ap (λ t. t ++ traced_text xs texts) (answer-traced set cycle x.number x.before x.asked text all.0)
    ∙ ap (λ t. entry_text set cycle x ++ t) (answers-traced set cycle xs texts all.1)

-- a dialogue is the replay of its arrivals, where a slot passes after each
abbrev IsReplay : TaskSet → List Heard → Type 0
IsReplay set heards =
    let cycle = cycle_of set in
    let xs = exchanges_from set cycle 1 started heards in
    let arrivals = arrivals_made xs in
    let n = time_of (history_heard set cycle started heards) in
    have_slots n arrivals ≡ true
    → (are_fitting set n arrivals ≡ true)
    × (start_text set cycle ++ entries_text set cycle xs ≡ trace_text set (trace set arrivals n))

-- exchanges after a history are the rest of a replay of their arrivals over n slots
pub record AreReplayed (set : TaskSet) (cycle n : ℕ) (h : History) (xs : List Exchange) : Type 0 where
  later : time_of h ≤ n
  few : last_row h ≤ ARRIVAL_LIMIT → last_row h + length (arrivals_made xs) ≤ ARRIVAL_LIMIT
  follow : arrivals_follow set n (last_row h + 1) (time_of h) (arrivals_made xs) ≡ true
  text : entries_text set cycle xs ≡ trace_text set (entries_left set cycle n h (arrivals_made xs))

-- at the end
replayed-end : (set : TaskSet) (cycle n number : ℕ) (h : History) → n ≡ time_of h → AreReplayed set cycle n h (record { number = number; before = h; asked = Ok End } ∷ [])
replayed-end set cycle n number h now = record {
  later = omega (arith, now);
  few = λ within. omega (arith, within);
  follow = refl;
  text = ap (λ es. trace_text set es) (sym (ap (λ t. entries_left set cycle t h []) now ∙ entries_left-end set cycle (time_of h) h [] refl));
}

-- a line that is refused changes nothing
replayed-refused : (set : TaskSet) (cycle n number : ℕ) (h : History) (fault : LineFault) (xs : List Exchange) → AreReplayed set cycle n h xs → AreReplayed set cycle n h (record { number = number; before = h; asked = Err fault } ∷ xs)
replayed-refused set cycle n number h fault xs rest = record {
  later = rest.later;
  few = rest.few;
  follow = rest.follow;
  text = rest.text;
}

-- and so does a look ahead
replayed-look : (set : TaskSet) (cycle n number : ℕ) (h : History) (slots : ℕ) (xs : List Exchange) → AreReplayed set cycle n h xs → AreReplayed set cycle n h (record { number = number; before = h; asked = Ok (Ahead slots) } ∷ xs)
replayed-look set cycle n number h slots xs rest = record {
  later = rest.later;
  few = rest.few;
  follow = rest.follow;
  text = rest.text;
}

-- and what is told of a change of plan
replayed-carried : (set : TaskSet) (cycle n number : ℕ) (h : History) (keep : Keep) (xs : List Exchange) → AreReplayed set cycle n h xs → AreReplayed set cycle n h (record { number = number; before = h; asked = Ok (Carried keep) } ∷ xs)
replayed-carried set cycle n number h keep xs rest = record {
  later = rest.later;
  few = rest.few;
  follow = rest.follow;
  text = rest.text;
}

-- an arrival in the next row, with a slot after it
replayed-arrival : (set : TaskSet) (cycle n number : ℕ) (h : History) (event : Event) (xs : List Exchange) → event_fits set event ≡ true → last_row h < ARRIVAL_LIMIT → nat_lt (time_of h) n ≡ true
    → AreReplayed set cycle n (told_of set cycle h (arrive (last_row h + 1) event) ∷ h) xs → AreReplayed set cycle n h (record { number = number; before = h; asked = Ok (Arrive event) } ∷ xs)
replayed-arrival set cycle n number h event xs fits room early rest =
    let row = last_row h + 1 in
    let a : Arrival = record { row = row; slot = time_of h; event = event } in
    let after = told_of set cycle h (arrive row event) ∷ h in
    let row_is : last_row after ≡ row = last_row-arrival set cycle h row event in
    let time_is : time_of after ≡ time_of h = time_of-arrival set cycle h row event in
    let follow : arrivals_follow set n (row + 1) (time_of h) (arrivals_made xs) ≡ true =
    subst (λ t. arrivals_follow set n (row + 1) t (arrivals_made xs) ≡ true) time_is (subst (λ r. arrivals_follow set n (r + 1) (time_of after) (arrivals_made xs) ≡ true) row_is rest.follow) in
    let e = entry_after set cycle h (arrive row event) in
    record {
      later = omega (arith, ltb-true (time_of h) n early);
      few = λ within. omega (arith, row_is, room, rest.few (omega (arith, row_is, room)));
      follow = rw (eq-eqb row row refl, le-leb (time_of h) (time_of h) (omega arith), early, fits) follow;
      text =
          ap (λ t. (entry_line set e ++ []) ++ t) rest.text
          ∙ ap (λ l. l ++ trace_text set (entries_left set cycle n after (arrivals_made xs))) (append-nil (entry_line set e))
          ∙ sym (ap (trace_text set) (entries_left-arrival set cycle n h a (arrivals_made xs) refl (ltb-true (time_of h) n early)));
    }

-- slots in which nothing arrives
replayed-slots : (set : TaskSet) (cycle n number : ℕ) (h : History) (slots : ℕ) (xs : List Exchange) → last_row h ≤ ARRIVAL_LIMIT
    → AreReplayed set cycle n (history_after set cycle h (replicate slots slot)) xs → AreReplayed set cycle n h (record { number = number; before = h; asked = Ok (Pass slots) } ∷ xs)
replayed-slots set cycle n number h slots xs within rest =
    let os = replicate slots slot in
    let after = history_after set cycle h os in
    let arrivals = arrivals_made xs in
    let row_is : last_row after ≡ last_row h = row-slots set cycle h slots in
    let time_is : time_of after ≡ time_of h + slots = time-slots set cycle h slots in
    let follow : arrivals_follow set n (last_row h + 1) (time_of h + slots) arrivals ≡ true = rw (← row_is, ← time_is) rest.follow in
    let few : last_row h + length arrivals ≤ ARRIVAL_LIMIT = omega (arith, row_is, rest.few (omega (arith, row_is, within))) in
    record {
      later = omega (arith, time_is, rest.later);
      few = λ _. few;
      follow = follow-earlier set n (last_row h + 1) (time_of h + slots) (time_of h) arrivals (omega arith) follow;
      text =
          ap (λ t. trace_text set (entries set cycle h os) ++ t) rest.text
          ∙ sym (flat_map-append (entry_line set) (entries set cycle h os) (entries_left set cycle n after arrivals))
          ∙ sym (ap (trace_text set) (entries_left-slots set cycle n slots h arrivals follow few (omega (arith, time_is, rest.later))));
    }

-- what is asked for where the end is not, and what follows
replayed-next : (set : TaskSet) (cycle n number : ℕ) (h : History) (a : Asked) (xs : History → List Exchange) → MayAsk set h a → last_row h ≤ ARRIVAL_LIMIT
    → have_slots n (arrivals_made (record { number = number; before = h; asked = a } ∷ xs (next_history set cycle h a))) ≡ true
    → ((after : History) → after ≡ next_history set cycle h a → last_row after ≤ ARRIVAL_LIMIT → have_slots n (arrivals_made (xs after)) ≡ true → AreReplayed set cycle n after (xs after))
    → AreReplayed set cycle n h (record { number = number; before = h; asked = a } ∷ xs (next_history set cycle h a))
replayed-next set cycle n number h (Err fault) xs may within slots later =
    replayed-refused set cycle n number h fault (xs h) (later h refl within slots)
replayed-next set cycle n number h (Ok (Arrive event)) xs may within slots later =
    let after = told_of set cycle h (arrive (last_row h + 1) event) ∷ h in
    let (early, others) = and_parts (nat_lt (time_of h) n) (have_slots n (arrivals_made (xs after))) slots in
    let row_is = last_row-arrival set cycle h (last_row h + 1) event in
    replayed-arrival set cycle n number h event (xs after) may.0 may.1 early (later after refl (omega (arith, row_is, may.1)) others)
replayed-next set cycle n number h (Ok (Pass count)) xs may within slots later =
    let after = history_after set cycle h (replicate count slot) in
    replayed-slots set cycle n number h count (xs after) within (later after refl (omega (arith, row-slots set cycle h count, within)) slots)
replayed-next set cycle n number h (Ok (Ahead count)) xs may within slots later =
    replayed-look set cycle n number h count (xs h) (later h refl within slots)
replayed-next set cycle n number h (Ok (Carried keep)) xs may within slots later =
    replayed-carried set cycle n number h keep (xs h) (later h refl within slots)
replayed-next set cycle n number h (Ok End) xs may within slots later = elim may [ ]

-- the time after all that is heard
abbrev time_heard : TaskSet → ℕ → History → List Heard → ℕ
time_heard set cycle h heards = time_of (history_heard set cycle h heards)

-- so all exchanges are, where the end is asked for with the last and not before
replayed-all : (set : TaskSet) (cycle n number : ℕ) (h : History) (first : List Heard) (last : Heard) → GoesOn set first → asks_end set last ≡ true → last_row h ≤ ARRIVAL_LIMIT
    → n ≡ time_heard set cycle h (first ++ last ∷ []) → have_slots n (arrivals_made (exchanges_from set cycle number h (first ++ last ∷ []))) ≡ true
    → AreReplayed set cycle n h (exchanges_from set cycle number h (first ++ last ∷ []))
replayed-all set cycle n number h [] last goes ends within now slots =
    let is : asked set h last ≡ Ok End = end-asked set h last (command_heard set last) refl ends in
    subst (λ a. n ≡ time_of (next_history set cycle h a) → AreReplayed set cycle n h (record { number = number; before = h; asked = a } ∷ [])) (sym is)
    (λ same. replayed-end set cycle n number h same) now
replayed-all set cycle n number h (heard ∷ first) last goes ends within now slots =
    let (this, others) = or_parts (asks_end set heard) (list_any (asks_end set) first) goes in
    let may = command-may set h heard (command_heard set heard) refl this in
    replayed-next set cycle n number h (asked set h heard) (λ after. exchanges_from set cycle (number + 1) after (first ++ last ∷ [])) may within slots (λ after same fits later.
    replayed-all set cycle n (number + 1) after first last others ends fits (now ∙ ap (λ at. time_heard set cycle at (first ++ last ∷ [])) (sym same)) later)

-- the first line and the answers are the trace of the arrivals, which fit
replay-whole : (set : TaskSet) (first : List Heard) (last : Heard) → GoesOn set first → asks_end set last ≡ true → IsReplay set (first ++ last ∷ [])
replay-whole set first last goes ends slots =
    let cycle = cycle_of set in
    let heards = first ++ last ∷ [] in
    let n = time_heard set cycle started heards in
    let xs = exchanges_from set cycle 1 started heards in
    let arrivals = arrivals_made xs in
    let rest = replayed-all set cycle n 1 started first last goes ends (omega arith) refl slots in (
      and_from _ _ (le-leb (length arrivals) ARRIVAL_LIMIT (omega (arith, rest.few (omega arith)))) rest.follow,
      ap (λ t. start_text set cycle ++ t) rest.text ∙ sym (ap (trace_text set) (entries_left-start set cycle n arrivals)),
    )

pub dialogues-replayed : DialoguesAreReplays
dialogues-replayed set heards answers over all slots =
    let cycle = cycle_of set in
    let (fits, text) = subst (IsReplay set) (sym over.all) (replay-whole set over.first over.last over.goes_on over.ends) slots in
    (fits, ap (λ t. start_text set cycle ++ t) (answers-traced set cycle (exchanges set cycle heards) answers all) ∙ text)

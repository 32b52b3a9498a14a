-- Entries with the same line.
use Rattle.std.specs.Prelude.{◌≡◌, ℕ, ◌*◌, ◌^◌, pos, [], ◌∷◌, refl}
use Rattle.std.specs.Fmt.{digits}
use Rattle.slot_core.specs.declared.tasks.TaskSet.{TaskSet}
use Rattle.slot_core.specs.declared.events.Entry.{Entry}
use Rattle.slot_core.specs.declared.events.What.TheVariants.{Idle, End}
use Rattle.slot_core.specs.Output.Texts.{entry_line}

-- an idle slot before a span of so much work
abbrev idle_before : ℕ → Entry
idle_before work =
    record {
      time = 2;
      what = Idle;
      shown = record { spans = record { start = 3; end = 8; work = work; spare = pos 4 } ∷ []; more = 0 };
    }

-- works are not printed
pub work_is_not_told :
    (set : TaskSet) → entry_line set (idle_before 1) ≡ entry_line set (idle_before 2)
work_is_not_told set = refl

-- nor is what the end shows
abbrev end_with : ℕ → Entry
end_with more = record { time = 8; what = End; shown = record { spans = []; more = more } }

pub end_shows_nothing :
    (set : TaskSet) → entry_line set (end_with 0) ≡ entry_line set (end_with 1)
end_shows_nothing set = refl

-- of a number of more than 64 digits the last 64 are printed, so such times have one line
abbrev idle_at : ℕ → Entry
idle_at time = record { time = time; what = Idle; shown = record { spans = []; more = 0 } }

pub long_numbers_are_cut :
    (set : TaskSet)
    → entry_line set (idle_at (10 ^ 64)) ≡ entry_line set (idle_at (2 * 10 ^ 64))
unfolding digits
long_numbers_are_cut set = refl

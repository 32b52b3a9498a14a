-- The file in which arrivals are recorded.
use Rattle.std.specs.Prelude.{◌≡◌, ℕ, Bool, true, false, List, [], Option, Some, IfSome}
use Rattle.live_run.specs.Streams.{Seen}

-- nothing is written, where that is told
abbrev pub IsEmpty : Option (List ℕ) → Type 0
IsEmpty written = IfSome written (λ bytes. bytes ≡ [])

-- the streams before the first line: where arrivals are recorded their file is made, empty, and
-- nothing else has changed
abbrev pub IsReady : Bool → Seen → Seen → Type 0
IsReady false before after = after ≡ before
IsReady true before after =
    IsEmpty after.rows × (after ≡ record before { rows = after.rows })

-- the names that the record is made with, where there is to be one
abbrev pub made_by : Bool → List ℕ × List ℕ → Option (List ℕ × List ℕ) → Option (List ℕ × List ℕ)
made_by false names before = before
made_by true names before = Some names

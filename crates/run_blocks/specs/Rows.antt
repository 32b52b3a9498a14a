-- Rows of a trace, and the jobs that they hold.
use Rattle.std.specs.Prelude.{ℕ, ◌≡◌, ◌≤◌, ◌<◌, Bool, true, false, ◌&&◌, ◌==◌, List, [], ◌∷◌, ◌++◌, if◌then◌else◌, length, nat_le, position, slice_get, count_by, take}
use Rattle.std.specs.List.{list_all, list_any}
use Rattle.std.specs.List.Sorted.{IsPermutation}
use Rattle.std.specs.Option.{option_map_or, unwrap_or}
use Rattle.std.specs.Str.{bytes_eq}
use Rattle.trace_lines.specs.declared.line.KeyName.{KeyName}
use Rattle.trace_lines.specs.declared.line.TraceLine.{TraceLine}
use Rattle.trace_lines.specs.Traces.{runs_of}
use Rattle.trace_lines.specs.declared.line.KeyName.TheVariants.{Offline, Sporadic as SporadicKey, Firm as FirmKey, Soft as SoftKey}
use Rattle.run_blocks.specs.declared.TheConstants.{FIRM_ROW_LIMIT, ROW_LIMIT}
use Rattle.run_blocks.specs.declared.rows.Row.{Row}
use Rattle.run_blocks.specs.declared.rows.Row.TheVariants.{Task, Sporadic, FirmJob, Firm, Soft}

-- the row holds the job of this key
abbrev pub row_holds : Row → KeyName → Bool
row_holds (Task graph task) (Offline g t instance) = bytes_eq graph g && bytes_eq task t
row_holds (Sporadic name) (SporadicKey n row) = bytes_eq name n
row_holds (FirmJob row) (FirmKey r) = row == r
row_holds Firm (FirmKey r) = true
row_holds Soft (SoftKey r) = true
row_holds row key = false

-- the row that a key asks for: firm jobs have rows of their own, or one for all
abbrev pub row_of : Bool → KeyName → Row
row_of apart (Offline graph task instance) = Task graph task
row_of apart (SporadicKey name row) = Sporadic name
row_of true (FirmKey row) = FirmJob row
row_of false (FirmKey row) = Firm
row_of apart (SoftKey row) = Soft

-- a row holds the job
abbrev pub has_row : List Row → KeyName → Bool
has_row rows key = list_any (λ row. row_holds row key) rows

-- the place of the first row that holds the job, or the number of rows where none does
abbrev pub row_at : List Row → KeyName → ℕ
row_at rows key = unwrap_or (position (λ row. row_holds row key) rows) (length rows)

-- the row at a place holds the job
abbrev pub row_holds_at : List Row → ℕ → KeyName → Bool
row_holds_at rows place key = option_map_or (λ row. row_holds row key) (slice_get rows place) false

-- no job has two rows
abbrev pub AreDistinct : List Row → Type 0
AreDistinct rows = (key : KeyName) → count_by (λ row. row_holds row key) rows ≤ 1

-- the job of each run has a row
abbrev pub have_rows : List Row → List (ℕ × KeyName) → Bool
have_rows rows runs = list_all (λ (run : ℕ × KeyName). has_row rows run.1) runs

-- each row holds the job of a run
abbrev pub are_run : List Row → List (ℕ × KeyName) → Bool
are_run rows runs =
    list_all (λ row. list_any (λ (run : ℕ × KeyName). row_holds row run.1) runs) rows

-- rows of the jobs of these runs, one for each
pub record AreRowsOf (rows : List Row) (runs : List (ℕ × KeyName)) : Type 0 where
  pub held : have_rows rows runs ≡ true
  pub run : are_run rows runs ≡ true
  pub distinct : AreDistinct rows

-- the row may stand where firm jobs have rows of their own, or where one row is for all of them
abbrev pub may_stand : Bool → Row → Bool
may_stand true Firm = false
may_stand false (FirmJob row) = false
may_stand apart row = true

-- each row may
abbrev pub may_all_stand : Bool → List Row → Bool
may_all_stand apart rows = list_all (may_stand apart) rows

-- rows of the jobs of the runs so far
pub record AreRowsSoFar (apart : Bool) (rows : List Row) (runs : List (ℕ × KeyName)) : Type 0 where
  pub kept : AreRowsOf rows runs
  pub stand : may_all_stand apart rows ≡ true

-- the rows stay where one holds the job of the key, and else its row stands among them too
abbrev pub IsOneRowMore : Bool → KeyName → List Row → List Row → Type 0
IsOneRowMore apart key before after =
    (has_row before key ≡ true → before ≡ after)
    × (has_row before key ≡ false → IsPermutation (row_of apart key ∷ before) after)

-- the firm jobs that were seen, by their rows, with this one, each once
abbrev pub with_firm : List ℕ → ℕ → List ℕ
with_firm firms row = if list_any (λ firm. firm == row) firms then firms else firms ++ row ∷ []

-- with the job of this key, where it is firm
abbrev pub with_key : List ℕ → KeyName → List ℕ
with_key firms (FirmKey row) = with_firm firms row
with_key firms key = firms

-- with those of runs
abbrev pub firms_from : List ℕ → List (ℕ × KeyName) → List ℕ
firms_from firms [] = firms
firms_from firms (run ∷ runs) = firms_from (with_key firms run.1) runs

-- the firm jobs of runs are few enough for a row each
abbrev pub have_few_firms : List (ℕ × KeyName) → Bool
have_few_firms runs = nat_le (length (firms_from [] runs)) FIRM_ROW_LIMIT

-- the jobs that run in some of the first lines ask for too many rows
pub record AreTooMany (apart : Bool) (lines : List TraceLine) : Type 0 where
  pub count : ℕ
  pub rows : List Row
  pub asked : AreRowsSoFar apart rows (runs_of (take count lines))
  pub many : ROW_LIMIT < length rows

-- the same, of rows in which a firm job has one of its own where few run
abbrev pub AreCrowded : List TraceLine → Type 0
AreCrowded lines = AreTooMany (have_few_firms (runs_of lines)) lines

-- The rows that a reader has left, and the fields of a row.
use Rattle.std.specs.Prelude.{◌≡◌, ℕ, ◌+◌, Bool, false, ◌==◌, ◌||◌, List, ◌∷◌, ◌++◌, [], drop, length, Some}
use Rattle.std.specs.Bool.{MatchBool}
use Rattle.std.specs.Borrow.{Bor}
use Rattle.csv.specs.Machine.{ends_at_end, next_record}
use Rattle.csv.specs.Reading.{Ready, source_of, reader_config, reader_state, reader_trim, default_config, records_from}
use Rattle.csv.specs.declared.parser.State.TheVariants as st
use Rattle.csv.specs.declared.reader.Reader.{Reader}
use Rattle.csv.specs.declared.reader.Trim.TheVariants as trim
use Rattle.arrival_csv.specs.declared.row.Row.{Row}
use Rattle.arrival_csv.specs.declared.row.Row.TheVariants.{Empty, One, Two, Three, Four, Longer}

-- the reader stands between two rows, and has these left
pub record HasRows (reader : Reader (Bor (List ℕ))) (rows : List (List (List ℕ))) : Type 0 where
  pub config : reader_config reader ≡ default_config
  pub untrimmed : reader_trim reader ≡ trim.None
  pub ready : Ready reader
  pub between : ends_at_end (reader_state reader) ≡ false
  pub bytes : List ℕ
  pub source : source_of (λ s. Some s.now) reader ≡ Some bytes
  pub left : rows ≡ records_from default_config (length bytes + 1) (reader_state reader) bytes

-- a read took the first of these rows, or found none
abbrev pub TakesRow : Reader (Bor (List ℕ)) → Bool → List (List ℕ) → List (List (List ℕ)) → Type 0
TakesRow reader found fields rows =
    MatchBool found
    ((more : List (List (List ℕ))) × (rows ≡ fields ∷ more) × HasRows reader more)
    (rows ≡ [])

-- these two are the first of more than four fields
abbrev pub IsLonger : List ℕ → List ℕ → List (List ℕ) → Type 0
IsLonger first second fields = (third fourth fifth : List ℕ) × (more : List (List ℕ))
    × (fields ≡ first ∷ second ∷ third ∷ fourth ∷ fifth ∷ more)

-- the row is of these fields
abbrev pub IsRowOf : Row → List (List ℕ) → Type 0
IsRowOf Empty fields = fields ≡ []
IsRowOf (One a) fields = fields ≡ a.now ∷ []
IsRowOf (Two a b) fields = fields ≡ a.now ∷ b.now ∷ []
IsRowOf (Three a b c) fields = fields ≡ a.now ∷ b.now ∷ c.now ∷ []
IsRowOf (Four a b c d) fields = fields ≡ a.now ∷ b.now ∷ c.now ∷ d.now ∷ []
IsRowOf (Longer a b) fields = IsLonger a.now b.now fields

-- whether the byte ends a field, or only a reader of quotes and returns can tell
abbrev pub ends_field : ℕ → Bool
ends_field byte = (byte == 44) || (byte == 10) || (byte == 34) || (byte == 13)

-- the field that starts at this place is this one and the last of its row; the rest is after it
abbrev pub IsLastField : List ℕ → ℕ → List ℕ → List ℕ → Type 0
IsLastField text start field rest = (before : List (List ℕ))
    → next_record default_config st.StartField before [] (drop start text)
    ≡ Some (before ++ (field ∷ []), st.StartRecord, rest)

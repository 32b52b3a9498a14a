-- The lines of an input.
use Rattle.std.specs.Prelude.{◌≡◌, ◌≢◌, ℕ, List, [], ◌∷◌, ◌++◌, All, length, nat_le, nat_lt, if◌then◌else◌, Option, None, Some, IfSome}
use Rattle.std.specs.Io.BufRead.{first_piece, drop_through}
use Rattle.std.specs.Io.KnownBytes.{Consumes, IsAtEnd}
use Rattle.live_lines.specs.declared.TheConstants.{HEARD_LIMIT}
use Rattle.live_lines.specs.declared.source.Given.{Given}
use Rattle.live_lines.specs.declared.source.Given.TheVariants.{Line, TooLong, NoMore}

-- what a source gave: a line of these bytes, one that is too long, or that there are no more
pub data Heard : Type 0 where
  line : List ℕ → Heard
  too_long : Heard
  no_more : Heard

-- what is heard where a source gives this, and has these bytes
abbrev pub heard : Given → List ℕ → Heard
heard Line bytes = line bytes
heard TooLong bytes = too_long
heard NoMore bytes = no_more

-- a line of these bytes, where it has no more than the limit
abbrev pub within_limit : List ℕ → Heard
within_limit bytes = if nat_le (length bytes) HEARD_LIMIT then line bytes else too_long

-- what is heard first of an input: the bytes up to its first line feed (byte 10) or its end,
-- without that line feed; or that there are none
abbrev pub heard_first : List ℕ → Heard
heard_first [] = no_more
heard_first bytes = within_limit (first_piece 10 bytes)

-- known bytes begin with what is heard, and lose it
abbrev pub GivesOne : Option (List ℕ) → Option (List ℕ) → Heard → Type 0
GivesOne before after h =
    IfSome before (λ bytes. (h ≡ heard_first bytes) × (after ≡ Some (drop_through 10 bytes)))

-- known bytes begin with what is heard one after the other, and lose it
abbrev pub Gives : Option (List ℕ) → Option (List ℕ) → List Heard → Type 0
Gives before after [] = after ≡ before
Gives before after (h ∷ hs) =
    (between : Option (List ℕ)) × GivesOne before between h × Gives between after hs

-- known bytes lose their first one, or there is none
abbrev pub GivesByte : Option (List ℕ) → Option ℕ → Option (List ℕ) → Type 0
GivesByte before None after = IsAtEnd before × Consumes before after []
GivesByte before (Some byte) after = Consumes before after (byte ∷ [])

-- no byte is a line feed
abbrev pub IsPlain : List ℕ → Type 0
IsPlain bytes = All (λ b. b ≢ 10) bytes

-- known bytes lose a front part in which no line ends
abbrev pub LosesFront : Option (List ℕ) → Option (List ℕ) → Type 0
LosesFront before after = (front : List ℕ) × Consumes before after front × IsPlain front

-- what a line that has ended is, where it was this before its line feed
abbrev pub ended : Given → Given
ended NoMore = Line
ended given = given

-- the bytes of a line that goes on with a byte: no more than the limit are kept
abbrev pub extended_line : Given → List ℕ → ℕ → List ℕ
extended_line TooLong bytes byte = bytes
extended_line given bytes byte =
    if nat_lt (length bytes) HEARD_LIMIT then bytes ++ byte ∷ [] else bytes

-- and what it is then
abbrev pub extended : Given → List ℕ → Given
extended TooLong bytes = TooLong
extended given bytes = if nat_lt (length bytes) HEARD_LIMIT then Line else TooLong

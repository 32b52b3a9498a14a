-- What a program tells of itself.
use Rattle.std.specs.Prelude.{◌≡◌, ◌==◌, ◌⊎◌, ℕ, List, [], ◌∷◌, ◌++◌, codes, decimal, length, if◌then◌else◌, Option, Some, None}
use Rattle.std.specs.Io.KnownBytes.{Appends}
use Rattle.std.specs.Str.{bytes_eq}
use Rattle.slot_core.specs.Calls.Counts.{Rose}
use Rattle.slot_core.specs.declared.TheConstants.{VERSION, LOGIC}
use Rattle.slot_io.specs.Sinks.{AppendsPart}
use Rattle.command_line.specs.Refusals.{refusal_line, word_at}
use Rattle.command_line.specs.Reports.{IsTold}
use Rattle.command_line.specs.declared.TheConstants.{TABLE_VERSION}
use Rattle.command_line.specs.declared.pages.Page.{Page}
use Rattle.command_line.specs.declared.pages.Page.TheVariants.{Help, Version}
use Rattle.command_line.specs.declared.refusal.Refusal.TheVariants.{WriteFault}
use Rattle.command_line.specs.declared.status.Status.{Status}

-- the page of this name
abbrev pub page_named : List ℕ → Option Page
page_named word =
    if bytes_eq word (codes "--help") then Some Help
    else if bytes_eq word (codes "--version") then Some Version
    else None

-- the page that the words ask for: they are `--help` or `--version`, and nothing else
abbrev pub page_of : List (List ℕ) → Option Page
page_of words = if length words == 1 then page_named (word_at words 0) else None

-- the line of a program's version: its name, the version, that of the tables that it writes, and
-- the logic of the kit
abbrev pub version_line : List ℕ → List ℕ
version_line program =
    program ++ codes " " ++ VERSION.now ++ codes ", table format " ++ decimal TABLE_VERSION
    ++ codes ", logic " ++ LOGIC.now ++ 10 ∷ []

-- the text of a page of the program of this name and this help
abbrev pub page_text : List ℕ → List ℕ → Page → List ℕ
page_text program help Help = help
page_text program help Version = version_line program

-- a page is told, over an output and a standard error of which contracts see the bytes and how many
-- puts failed: its text is written, and nothing is said; or a write fails after a part of it, and
-- that is said
abbrev pub IsPageTold : List ℕ → Option (List ℕ) → Option (List ℕ) → ℕ → ℕ
    → Option (List ℕ) → Option (List ℕ) → ℕ → ℕ → Status → Type 0
IsPageTold text out out_after lost lost_after err err_after mute mute_after status =
    ((status ≡ Status.Done) × Appends out out_after text
    × (err_after ≡ err) × (mute_after ≡ mute))
    ⊎ ((status ≡ Status.WriteFault) × AppendsPart out out_after text × Rose lost lost_after
    × IsTold (refusal_line [] WriteFault) err err_after mute mute_after)

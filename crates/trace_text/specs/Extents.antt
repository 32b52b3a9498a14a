-- The extents of spans, which are their starts and ends, as texts.
use Rattle.std.specs.Prelude.{ℕ, List, ◌∷◌, ◌++◌, codes, decimal}

-- a dash, the end and a colon
abbrev pub end_text : ℕ → List ℕ
end_text end = codes "-" ++ decimal end ++ codes ":"

-- a space, the start, and what tells the end
abbrev pub extent_text : ℕ → ℕ → List ℕ
extent_text start end = 32 ∷ decimal start ++ end_text end

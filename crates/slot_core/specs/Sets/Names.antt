-- What a name is.
use Rattle.std.specs.Prelude.{ℕ, Bool, false, ◌&&◌, ◌||◌, ◌==◌, List, [], ◌∷◌, length, nat_lt}
use Rattle.std.specs.List.{list_all}
use Rattle.std.specs.Char.{is_ascii_alphabetic, is_ascii_alphanumeric}
use Rattle.slot_core.specs.declared.TheConstants.{NAME_LIMIT}

-- a byte that may follow the first letter: an ASCII letter or digit, `_` or `-`
abbrev pub is_name_byte : ℕ → Bool
is_name_byte byte = is_ascii_alphanumeric byte || byte == 95 || byte == 45

-- a letter, and fewer bytes after it than a name may have
abbrev pub is_name : List ℕ → Bool
is_name [] = false
is_name (first ∷ rest) =
    is_ascii_alphabetic first && nat_lt (length rest) NAME_LIMIT && list_all is_name_byte rest

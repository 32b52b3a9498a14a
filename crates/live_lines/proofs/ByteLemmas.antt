-- One byte that a reader gives.
use Rattle.std.proofs.Common.{◌≡◌, ◌≤◌, ℕ, List, [], ◌∷◌, length, take, slice_index_or, Option, Some, None, Result, Ok, Err, sym, ◌∙◌, arith}
use Rattle.std.specs.Io.KnownBytes.{Consumes, IsAtEnd, Keeps, ReadConsumes}
use Rattle.live_lines.specs.Lines.{GivesByte}

-- what was at its end after no byte was read was there before
none-GivesByte : (before between after : Option (List ℕ)) → Keeps before between
    → Consumes between after [] → IsAtEnd after → GivesByte before None after
none-GivesByte None between after kept read ended = (tt, tt)
none-GivesByte (Some xs) None after kept read ended = elim kept [ ]
none-GivesByte (Some xs) (Some ys) None kept read ended = elim read [ ]
none-GivesByte (Some xs) (Some ys) (Some zs) kept read ended = (sym kept ∙ read ∙ ended, sym kept ∙ read)

-- a byte that is lost is given
one-GivesByte : (before between after : Option (List ℕ)) (byte : ℕ) → Keeps before between
    → Consumes between after (byte ∷ []) → GivesByte before (Some byte) after
one-GivesByte None between after byte kept read = tt
one-GivesByte (Some xs) None after byte kept read = elim kept [ ]
one-GivesByte (Some xs) (Some ys) None byte kept read = elim read [ ]
one-GivesByte (Some xs) (Some ys) (Some zs) byte kept read = sym kept ∙ read

-- a read into one place that read nothing found the end
pub none-of_read : {E : Type 0} (before between after : Option (List ℕ)) (r : Result ℕ E) (n : ℕ) (one : List ℕ)
    → Keeps before between → ReadConsumes between after r one → r ≡ Ok n → n ≡ 0 → length one ≡ 1 → GivesByte before None after
none-of_read before between after (Err e) n one kept read is none single = cc
none-of_read before between after (Ok m) n one kept read is none single =
    let same : m ≡ 0 = cc in
    none-GivesByte before between after kept (rw same at read.0) (read.1 same (omega (arith, single)))

-- a read into one place that read something gave the byte there
pub one-of_read : (before between after : Option (List ℕ)) (n : ℕ) (one : List ℕ) → Keeps before between
    → Consumes between after (take n one) → (n ≡ 0 → ⊥) → n ≤ length one → length one ≡ 1
    → GivesByte before (Some (slice_index_or one 0 0)) after
one-of_read before between after n [] kept read some most single = cc
one-of_read before between after n (b ∷ []) kept read some most single =
    let whole : n ≡ 1 = omega (arith, some, most) in
    one-GivesByte before between after b kept (rw whole at read)
one-of_read before between after n (b ∷ c ∷ rest) kept read some most single = cc

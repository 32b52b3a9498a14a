-- Reading bytes from left to right.
use Rattle.std.specs.Prelude.{◌≡◌, ◌≢◌, MatchResult, ℕ, zero, suc, ◌+◌, ◌-◌, ◌==◌, nat_lt, Bool, List, [], ◌∷◌, length, take, drop, if◌then◌else◌, Result, Ok, Err, ⊤}
use Rattle.faults.specs.declared.table_fault.TableFault.{TableFault}
use Rattle.faults.specs.declared.table_fault.TableFault.TheVariants.{Memory, Short, Trailing}

-- the bytes of a table that are not read yet, and the number of all its bytes
pub record Unread : Type 0 where
  pub whole : ℕ
  pub left : List ℕ

-- a value and what is unread after it, or the first fault
abbrev pub Read : Type 0 → Type 0
Read X = Result (X × Unread) TableFault

-- what is read at the front of the unread bytes
abbrev pub Reader : Type 0 → Type 0
Reader X = Unread → Read X

-- the step after a value, on what is unread after it; its fault where there is one
abbrev pub go_on : {X Y : Type 0} → Read X → (X → Reader Y) → Read Y
go_on (Ok x) f = f x.0 x.1
go_on (Err fault) f = Err fault

-- a result that takes no bytes
abbrev pub settled : {X : Type 0} → Result X TableFault → Reader X
settled (Ok x) input = Ok (x, input)
settled (Err fault) input = Err fault

-- the next n bytes
abbrev pub bytes_at : ℕ → Reader (List ℕ)
bytes_at n input =
    if nat_lt (length input.left) n then Err (Short input.whole)
    else Ok (take n input.left, record input { left = drop n input.left })

-- the end of the bytes
abbrev pub end_at : Reader ⊤
end_at input =
    if length input.left == 0 then Ok (tt, input)
    else Err (Trailing (input.whole - length input.left))

-- n things, each by its place, counted from i
abbrev pub each_at : {X : Type 0} → (ℕ → Reader X) → ℕ → ℕ → Reader (List X)
each_at f i zero input = Ok ([], input)
each_at f i (suc n) input =
    go_on (f i input) (λ x rest. go_on (each_at f (i + 1) n rest) (λ xs last. Ok (x ∷ xs, last)))

-- stored things, each the same as the computed one at its place, counted from i
abbrev pub same_at :
    {X : Type 0} → Reader X → (X → X → Bool) → (ℕ → X → X → TableFault) → ℕ → List X → Reader ⊤
same_at read is_same wrong i [] input = Ok (tt, input)
same_at read is_same wrong i (x ∷ xs) input =
    go_on (read input) (λ stored rest.
    if is_same stored x then same_at read is_same wrong (i + 1) xs rest
    else Err (wrong i stored x))

-- the value that is read
abbrev pub value_of : {X : Type 0} → Read X → Result X TableFault
value_of (Ok x) = Ok x.0
value_of (Err fault) = Err fault

-- the code's answer is what is read of `old`, as `seen` sees it, and it has left `new` unread; but
-- memory may run out
abbrev pub ReadsAs :
    {A X : Type 0} → (A → X) → Reader X → Result A TableFault → Unread → Unread → Type 0
ReadsAs seen read answer old new =
    MatchResult answer (λ a. read old ≡ Ok (seen a, new)) (λ e. e ≢ Memory → read old ≡ Err e)

-- the same where the code's value is the one that is read
abbrev pub Reads : {X : Type 0} → Reader X → Result X TableFault → Unread → Unread → Type 0
Reads = ReadsAs (λ x. x)

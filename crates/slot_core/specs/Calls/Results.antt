-- Two steps one after the other, where each gives a value or a fault.
use Rattle.std.specs.Prelude.{Result, Ok, Err}

infixl 10 ◌>>=◌
-- the second step, from the value of the first; the fault of the first where it has one
abbrev pub ◌>>=◌ : {X Y E : Type 0} → Result X E → (X → Result Y E) → Result Y E
Ok x >>= f = f x
Err fault >>= f = Err fault

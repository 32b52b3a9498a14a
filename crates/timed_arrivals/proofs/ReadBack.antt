-- The slot of a line in times is read back.
use Rattle.std.proofs.Common.{◌≡◌, ◌*◌, ◌/◌, ◌<◌, ℕ, List, Bool, true, false, Ok, Err, refl, sym, subst, arith}
use Rattle.std.specs.Prelude.{nat_lt, if◌then◌else◌}
use Rattle.std.proofs.Math.Nat.{mul-div_cancel_left}
use Rattle.slot_core.specs.Calls.Results.{◌>>=◌}
use Rattle.time_texts.specs.declared.TheConstants.{NANOS_LIMIT}
use Rattle.time_texts.proofs.Writings.{times_are_read_back}
use Rattle.timed_arrivals.specs.declared.timed_fault.TimedFault.{TimedFault}
use Rattle.timed_arrivals.specs.Laws.{SlotsAreReadBack}
use Rattle.timed_arrivals.specs.Rows.{Timed}
use Rattle.timed_arrivals.specs.Traces.{line_text}

-- a step was taken, and then the rest
step : {X Y P : Type 0} {r : Timed X} {f : X → Timed Y} {y : Y} → (r >>= f) ≡ Ok y → ((x : X) → r ≡ Ok x → f x ≡ Ok y → P) → P
step {r = Ok x} h next = next x refl h
step {r = Err fault} h next = cc

below : (a b : ℕ) → nat_lt a b ≡ true → a < b
below a b h = grind arith

-- a number below the limit is the one that was tried
limited : (b : Bool) (p limit time : ℕ) (fault : TimedFault) → nat_lt p limit ≡ b → (if b then Ok p else Err fault) ≡ Ok time → (p ≡ time) × (p < limit)
limited true p limit time fault is h = (cc, below p limit is)
limited false p limit time fault is h = cc

-- the value of an Ok
ok-value : (xs ys : List ℕ) → ◌≡◌ {A = Timed (List ℕ)} (Ok xs) (Ok ys) → xs ≡ ys
ok-value xs ys h = cc

pub read-back : SlotsAreReadBack
read-back length number line text some h =
    step h (λ front is rest.
    step rest (λ time at last.
    let (product, low) = limited (nat_lt (length * front.slot) NANOS_LIMIT) (length * front.slot) NANOS_LIMIT time _ refl at in
    let same = ok-value (line_text time front.told) text last in
    (front, time, is, sym same, times_are_read_back time (subst (λ t. t < NANOS_LIMIT) product low), subst (λ t. t / length ≡ front.slot) product (mul-div_cancel_left front.slot some))))

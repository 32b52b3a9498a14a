-- The next arrivals of sporadic tasks after one has been taken, and what they need.
use Rattle.std.proofs.Common.{◌≡◌, ℕ, zero, suc, ◌+◌, ◌*◌, ◌<◌, ◌≤◌, max, true, false, ◌==◌, List, [], ◌∷◌, length, map, Some, refl, ap, arith}
use Rattle.std.specs.Prelude.{slice_get, slice_set, slice_index}
use Rattle.std.specs.List.{enumerate_from}
use Rattle.std.proofs.lemmas.Bool.{eq-eqb, ne_eqb}
use Rattle.std.proofs.Math.Nat.{mul-le-mul_left}
use Rattle.slot_core.specs.declared.tasks.Sporadic.{Sporadic}
use Rattle.slot_core.specs.declared.events.What.TheVariants.{Sporadic as SporadicEntry}
use Rattle.slot_core.specs.declared.events.Spo.TheVariants.{Taken as SporadicTaken}
use Rattle.slot_core.specs.Runs.Histories.{History, time_of, next_arrival}
use Rattle.slot_core.specs.Feasibility.Sporadics.{arrivals_due, sporadic_demand}
use Rattle.slot_facts.proofs.Patterns.Counts.{arrivals_due-from}
use Rattle.slot_facts.proofs.Demand.OneSlot.{arrivals_due-later}

-- the next arrivals after one is taken: those of later tasks stay, and that of its task is a separation from now
next_arrivals-rest : (ss : List Sporadic) (h : History) (row index due n : ℕ) → index < n → map (λ (p : ℕ × Sporadic). next_arrival p.0 p.1.separation (SporadicEntry row index (SporadicTaken due) ∷ h)) (enumerate_from n ss) ≡ map (λ (p : ℕ × Sporadic). next_arrival p.0 p.1.separation h) (enumerate_from n ss)
next_arrivals-rest [] h row index due n past = refl
next_arrivals-rest (z ∷ ss) h row index due n past =
    let other : (n == index) ≡ false = ne_eqb n index (λ g. absurd (omega arith)) in
    rw other (ap (λ xs. next_arrival n z.separation h ∷ xs) (next_arrivals-rest ss h row index due (n + 1) (omega arith)))

pub next_arrivals-set : (ss : List Sporadic) (h : History) (row index due n k i : ℕ) (s : Sporadic) → slice_get ss k ≡ Some s → n + k ≡ i → index ≡ i → map (λ (p : ℕ × Sporadic). next_arrival p.0 p.1.separation (SporadicEntry row index (SporadicTaken due) ∷ h)) (enumerate_from n ss) ≡ slice_set (map (λ (p : ℕ × Sporadic). next_arrival p.0 p.1.separation h) (enumerate_from n ss)) k (time_of h + s.separation)
next_arrivals-set [] h row index due n k i s at e f = absurd (cc at)
next_arrivals-set (z ∷ ss) h row index due n zero i s at e f =
    let same : z ≡ s = cc at in
    let here : (n == index) ≡ true = eq-eqb n index (omega arith) in
    rw (here, same, next_arrivals-rest ss h row index due (n + 1) (omega arith)) refl
next_arrivals-set (z ∷ ss) h row index due n (suc k) i s at e f =
    let other : (n == index) ≡ false = ne_eqb n index (λ g. absurd (omega arith)) in
    rw other (ap (λ xs. next_arrival n z.separation h ∷ xs) (next_arrivals-set ss h row index due (n + 1) k i s at (omega arith) f))

-- the next arrival of the task at an index, and how many there are
pub length-next_arrivals : (ss : List Sporadic) (h : History) (n : ℕ) → length (map (λ (p : ℕ × Sporadic). next_arrival p.0 p.1.separation h) (enumerate_from n ss)) ≡ length ss
length-next_arrivals [] h n = refl
length-next_arrivals (s ∷ ss) h n = ap suc (length-next_arrivals ss h (n + 1))

-- where the next arrival of a task is later, no more is needed
task_demand-later_next : (s : Sporadic) (next later r x : ℕ) → next ≤ later → s.wcet * arrivals_due s later r x ≤ s.wcet * arrivals_due s next r x
task_demand-later_next s next later r x le =
    mul-le-mul_left s.wcet (omega (arith, arrivals_due-from s next r x, arrivals_due-from s later r x, arrivals_due-later s 0 (max r next) (max r later) x (omega arith)))

pub sporadic_demand-later_next : (ss : List Sporadic) (nexts : List ℕ) (index later r x : ℕ) → slice_index nexts index ≤ later → sporadic_demand ss (slice_set nexts index later) r x ≤ sporadic_demand ss nexts r x
sporadic_demand-later_next [] nexts index later r x le = omega arith
sporadic_demand-later_next (s ∷ ss) [] index later r x le = omega arith
sporadic_demand-later_next (s ∷ ss) (n ∷ ns) zero later r x le =
    omega (arith, task_demand-later_next s n later r x le)
sporadic_demand-later_next (s ∷ ss) (n ∷ ns) (suc index) later r x le =
    omega (arith, sporadic_demand-later_next ss ns index later r x le)

-- The horizon of a time: the end of the third cycle from the start of its own on.
use Rattle.std.proofs.Common.{◌≡◌, ℕ, suc, ◌+◌, ◌*◌, ◌/◌, ◌%◌, ◌<◌, ◌≤◌, ap, ◌∙◌, ◌⊎◌, inl, inr, arith}
use Rattle.std.proofs.lemmas.Bool.{cases_lt}
use Rattle.std.proofs.lemmas.Nat.{div-add-mod', div-mul-add, mod-mul-add, mod_below}
use Rattle.slot_core.specs.Runs.Scenes.{horizon}

-- the next slot starts a cycle, or lies in the same cycle as this one
pub data NextSlot (t cycle : ℕ) : Type 0 where
  turn : suc t % cycle ≡ 0 → suc t / cycle ≡ suc (t / cycle) → suc t ≡ suc (t / cycle) * cycle → NextSlot t cycle
  inside : (suc t % cycle ≡ 0 → ⊥) → suc t / cycle ≡ t / cycle → NextSlot t cycle

pub next_slot : (t cycle : ℕ) → 1 ≤ cycle → NextSlot t cycle
next_slot t cycle some = by_order (cases_lt (suc (t % cycle)) cycle)
  where
    by_order : (suc (t % cycle) < cycle) ⊎ (cycle ≤ suc (t % cycle)) → NextSlot t cycle
    by_order (inl lt) =
        let split : suc t ≡ t / cycle * cycle + suc (t % cycle) = omega (arith, div-add-mod' t cycle) in
        let rest : suc t % cycle ≡ suc (t % cycle) = ap (λ n. n % cycle) split ∙ mod-mul-add (t / cycle) cycle (suc (t % cycle)) lt in
        inside
        (λ e. absurd (omega arith))
        (ap (λ n. n / cycle) split ∙ div-mul-add (t / cycle) cycle (suc (t % cycle)) lt)
    by_order (inr ge) =
        let whole : suc t ≡ suc (t / cycle) * cycle = omega (arith, div-add-mod' t cycle, mod_below t cycle some) in
        let split : suc t ≡ suc (t / cycle) * cycle + 0 = omega arith in
        turn
        (ap (λ n. n % cycle) split ∙ mod-mul-add (suc (t / cycle)) cycle 0 some)
        (ap (λ n. n / cycle) split ∙ div-mul-add (suc (t / cycle)) cycle 0 some)
        whole

-- a time lies before its horizon
pub past_now : (t cycle : ℕ) → 1 ≤ cycle → t < horizon cycle t
past_now t cycle some = omega (arith, div-add-mod' t cycle, mod_below t cycle some)

-- where the next slot starts a cycle, its horizon is a cycle further
pub further_now : (t cycle : ℕ) → suc t / cycle ≡ suc (t / cycle) → horizon cycle (suc t) ≡ horizon cycle t + cycle
further_now t cycle e =
    let same : (suc t / cycle + 3) * cycle ≡ (suc (t / cycle) + 3) * cycle = ap (λ d. (d + 3) * cycle) e in
    omega arith

-- Where a cycle ends.
use Rattle.std.proofs.Common.{◌≡◌, ℕ, suc, ◌-◌, ◌*◌, ◌/◌, ◌%◌, ◌==◌, ◌≤◌, sym, ap, ◌∙◌, arith}
use Rattle.std.proofs.Math.Nat.{mul-mod_left}
use Rattle.std.proofs.lemmas.Bool.{eq-eqb, ne_eqb}
use Rattle.slot_core.specs.Runs.Scenes.{horizon}
use Rattle.slot_facts.proofs.Plans.Horizons.{NextSlot, turn, inside, next_slot}

-- where a slot starts a cycle, two are left of the three up to the horizon of the slot before, and
-- else there are more
pub two_cycles-left : (time end cycle : ℕ) → 1 ≤ time → 1 ≤ cycle → end ≡ horizon cycle (time - 1) → (end - time == 2 * cycle) ≡ (time % cycle == 0)
two_cycles-left time end cycle later some is = by_next (next_slot (time - 1) cycle some)
  where
    next : suc (time - 1) ≡ time
    next = omega arith

    by_next : NextSlot (time - 1) cycle → (end - time == 2 * cycle) ≡ (time % cycle == 0)
    by_next (turn starts number whole) =
        let rest = ap (λ t. t % cycle) (sym next) ∙ starts in
        eq-eqb (end - time) (2 * cycle) (omega (arith, is, whole)) ∙ sym (eq-eqb (time % cycle) 0 rest)
    by_next (inside starts number) =
        let more = λ (two : end - time ≡ 2 * cycle).
        let whole : suc (time - 1) ≡ suc ((time - 1) / cycle) * cycle = omega (arith, is, two) in
        starts (ap (λ t. t % cycle) whole ∙ mul-mod_left (suc ((time - 1) / cycle)) cycle) in
        let rest = λ (none : time % cycle ≡ 0). starts (ap (λ t. t % cycle) next ∙ none) in
        ne_eqb (end - time) (2 * cycle) more ∙ sym (ne_eqb (time % cycle) 0 rest)
